use Rattle.std.proofs.lemmas.Result.{IfOk-weaker}
use Rattle.rx_compile.proofs.Numbers.{div_room, rem_room, div_line, rem_line}
use Rattle.rx_compile.proofs.arms.division.append_division.Goals as goal

pub append_quotient-requires-clause-room : goal.append_quotient-requires-clause-room
append_quotient-requires-clause-room c = div_room c.args.pen.now c.args.word c.args.a.now.kind c.args.a.now.cells.now c.in-Div.is c.requires.first c.requires.room

pub append_remainder-requires-clause-room : goal.append_remainder-requires-clause-room
append_remainder-requires-clause-room c = rem_room c.args.pen.now c.args.word c.args.a.now.kind c.args.a.now.cells.now c.in-Rem.is c.requires.first c.requires.room

pub returns-in-Div-clause-realized : goal.returns-in-Div-clause-realized
returns-in-Div-clause-realized c =
    let r = c.args in
    IfOk-weaker c.append_quotient.result _ _ (λ u g. div_line r.pen.now c.append_quotient.new.pen r.word r.a.now.kind r.out.now.items c.append_quotient.new.out.items r.a.now.cells.now r.b.now c.in-Div.is c.requires.empty c.requires.first g) c.append_quotient.ensures.gives

pub returns-in-Rem-clause-realized : goal.returns-in-Rem-clause-realized
returns-in-Rem-clause-realized c =
    let r = c.args in
    IfOk-weaker c.append_remainder.result _ _ (λ u g. rem_line r.pen.now c.append_remainder.new.pen r.word r.a.now.kind r.out.now.items c.append_remainder.new.out.items r.a.now.cells.now r.b.now c.in-Rem.is c.requires.empty c.requires.first g) c.append_remainder.ensures.gives
