use Rattle.std.proofs.Common.{sym, ◌∙◌}
use Rattle.std.proofs.lemmas.Result.{IfOk-weaker}
use Rattle.rx_compile.proofs.Shifts.{amount_count, shlv_room, shrv_room, sarv_room, shlv_line, shrv_line, sarv_line}
use Rattle.rx_compile.proofs.arms.shifts.append_shifted.Goals as goal

pub shlv-requires-clause-same : goal.shlv-requires-clause-same
shlv-requires-clause-same c = amount_count c.args.pen.now c.args.kind c.args.a.now c.args.b.now c.requires.first c.requires.second

pub shrv-requires-clause-same : goal.shrv-requires-clause-same
shrv-requires-clause-same c = amount_count c.args.pen.now c.args.kind c.args.a.now c.args.b.now c.requires.first c.requires.second

pub sarv-requires-clause-same : goal.sarv-requires-clause-same
sarv-requires-clause-same c = amount_count c.args.pen.now c.args.kind c.args.a.now c.args.b.now c.requires.first c.requires.second

pub shlv-requires-clause-room : goal.shlv-requires-clause-room
shlv-requires-clause-room c = shlv_room c.args.pen.now c.args.word c.args.kind c.args.a.now c.in-Shlv.is c.requires.first c.requires.room

pub shrv-requires-clause-room : goal.shrv-requires-clause-room
shrv-requires-clause-room c =
    shrv_room c.args.pen.now c.args.word c.args.kind c.args.a.now c.in-Shrv.is c.requires.first (sym c.is_signed-signed.ensures ∙ c.if-signed.false) c.requires.room

pub sarv-requires-clause-room : goal.sarv-requires-clause-room
sarv-requires-clause-room c =
    sarv_room c.args.pen.now c.args.word c.args.kind c.args.a.now c.in-Shrv.is c.requires.first (sym c.is_signed-signed.ensures ∙ c.if-signed.true) c.requires.room

pub returns-in-Shlv-clause-realized : goal.returns-in-Shlv-clause-realized
returns-in-Shlv-clause-realized c =
    let r = c.args in
    IfOk-weaker c.shlv.result _ _ (λ u g. shlv_line r.pen.now c.shlv.new.pen r.word r.kind r.out.now.items c.shlv.new.out.items r.a.now r.b.now c.in-Shlv.is c.requires.empty c.requires.first g)
    c.shlv.ensures.gives

pub returns-then-signed-clause-realized : goal.returns-then-signed-clause-realized
returns-then-signed-clause-realized c =
    let r = c.args in
    IfOk-weaker c.sarv.result _ _ (λ u g. sarv_line r.pen.now c.sarv.new.pen r.word r.kind r.out.now.items c.sarv.new.out.items r.a.now r.b.now c.in-Shrv.is c.requires.empty c.requires.first
    (sym c.is_signed-signed.ensures ∙ c.if-signed.true) g)
    c.sarv.ensures.gives

pub returns-else-signed-clause-realized : goal.returns-else-signed-clause-realized
returns-else-signed-clause-realized c =
    let r = c.args in
    IfOk-weaker c.shrv.result _ _ (λ u g. shrv_line r.pen.now c.shrv.new.pen r.word r.kind r.out.now.items c.shrv.new.out.items r.a.now r.b.now c.in-Shrv.is c.requires.empty c.requires.first
    (sym c.is_signed-signed.ensures ∙ c.if-signed.false) g)
    c.shrv.ensures.gives
