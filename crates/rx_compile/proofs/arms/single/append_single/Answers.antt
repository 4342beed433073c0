use Rattle.std.proofs.Common.{sym, ◌∙◌}
use Rattle.std.proofs.lemmas.Result.{IfOk-weaker}
use Rattle.rx_compile.proofs.Single.{neg_room, shl_room, shr_room, neg_line, shl_line, shr_line, sar_line}
use Rattle.rx_compile.proofs.arms.single.append_single.Goals as goal

pub neg-requires-clause-room : goal.neg-requires-clause-room
neg-requires-clause-room c = neg_room c.args.pen.now c.args.word c.args.kind c.args.a.now c.in-Neg.is c.requires.first c.requires.room

pub shl-requires-clause-room : goal.shl-requires-clause-room
shl-requires-clause-room c = shl_room c.args.pen.now c.args.word c.args.kind c.args.a.now c.in-Shl.is c.requires.first c.requires.room

pub shr-requires-clause-room : goal.shr-requires-clause-room
shr-requires-clause-room c = shr_room c.args.pen.now c.args.word c.args.kind c.args.a.now c.in-Shr.is c.requires.first c.requires.room

pub sar-requires-clause-room : goal.sar-requires-clause-room
sar-requires-clause-room c = shr_room c.args.pen.now c.args.word c.args.kind c.args.a.now c.in-Shr.is c.requires.first c.requires.room

pub returns-in-Neg-clause-realized : goal.returns-in-Neg-clause-realized
returns-in-Neg-clause-realized c =
    let r = c.args in
    IfOk-weaker c.neg.result _ _ (λ u g. neg_line r.pen.now c.neg.new.pen r.word r.amount r.kind r.out.now.items c.neg.new.out.items r.a.now c.in-Neg.is c.requires.empty c.requires.first c.space-space.ensures.bounded g) c.neg.ensures.gives

pub returns-in-Shl-clause-realized : goal.returns-in-Shl-clause-realized
returns-in-Shl-clause-realized c =
    let r = c.args in
    IfOk-weaker c.shl.result _ _ (λ u g. shl_line r.pen.now c.shl.new.pen r.word r.amount r.kind r.out.now.items c.shl.new.out.items r.a.now c.in-Shl.is c.requires.empty c.requires.first g) c.shl.ensures.gives

pub returns-then-signed-clause-realized : goal.returns-then-signed-clause-realized
returns-then-signed-clause-realized c =
    let r = c.args in
    IfOk-weaker c.sar.result _ _ (λ u g. sar_line r.pen.now c.sar.new.pen r.word r.amount r.kind r.out.now.items c.sar.new.out.items r.a.now c.in-Shr.is c.requires.empty c.requires.first (sym c.is_signed-signed.ensures ∙ c.if-signed.true) g) c.sar.ensures.gives

pub returns-else-signed-clause-realized : goal.returns-else-signed-clause-realized
returns-else-signed-clause-realized c =
    let r = c.args in
    IfOk-weaker c.shr.result _ _ (λ u g. shr_line r.pen.now c.shr.new.pen r.word r.amount r.kind r.out.now.items c.shr.new.out.items r.a.now c.in-Shr.is c.requires.empty c.requires.first (sym c.is_signed-signed.ensures ∙ c.if-signed.false) g) c.shr.ensures.gives
