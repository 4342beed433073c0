use Rattle.std.proofs.Common.{sym, ◌∙◌}
use Rattle.std.proofs.lemmas.Result.{IfOk-weaker}
use Rattle.rx_compile.proofs.Orders.{eq_room, ne_room, lt_room, le_room, gt_room, ge_room, eq_line, ne_line, lt_line, slt_line, le_line, sle_line, gt_line, sgt_line, ge_line, sge_line}
use Rattle.rx_compile.proofs.arms.orders.append_order.Goals as goal

pub eq-requires-clause-room : goal.eq-requires-clause-room
eq-requires-clause-room c = eq_room c.args.pen.now c.args.word c.args.kind c.args.a.now c.in-Eq.is c.requires.first c.requires.room

pub ne-requires-clause-room : goal.ne-requires-clause-room
ne-requires-clause-room c = ne_room c.args.pen.now c.args.word c.args.kind c.args.a.now c.in-Ne.is c.requires.first c.requires.room

pub lt-requires-clause-room : goal.lt-requires-clause-room
lt-requires-clause-room c = lt_room c.args.pen.now c.args.word c.args.kind c.args.a.now c.in-Lt.is c.requires.first c.requires.room

pub slt-requires-clause-room : goal.slt-requires-clause-room
slt-requires-clause-room c = lt_room c.args.pen.now c.args.word c.args.kind c.args.a.now c.in-Lt.is c.requires.first c.requires.room

pub le-requires-clause-room : goal.le-requires-clause-room
le-requires-clause-room c = le_room c.args.pen.now c.args.word c.args.kind c.args.a.now c.in-Le.is c.requires.first c.requires.room

pub sle-requires-clause-room : goal.sle-requires-clause-room
sle-requires-clause-room c = le_room c.args.pen.now c.args.word c.args.kind c.args.a.now c.in-Le.is c.requires.first c.requires.room

pub gt-requires-clause-room : goal.gt-requires-clause-room
gt-requires-clause-room c = gt_room c.args.pen.now c.args.word c.args.kind c.args.a.now c.in-Gt.is c.requires.first c.requires.room

pub sgt-requires-clause-room : goal.sgt-requires-clause-room
sgt-requires-clause-room c = gt_room c.args.pen.now c.args.word c.args.kind c.args.a.now c.in-Gt.is c.requires.first c.requires.room

pub ge-requires-clause-room : goal.ge-requires-clause-room
ge-requires-clause-room c = ge_room c.args.pen.now c.args.word c.args.kind c.args.a.now c.in-Ge.is c.requires.first c.requires.room

pub sge-requires-clause-room : goal.sge-requires-clause-room
sge-requires-clause-room c = ge_room c.args.pen.now c.args.word c.args.kind c.args.a.now c.in-Ge.is c.requires.first c.requires.room

pub returns-in-Eq-clause-realized : goal.returns-in-Eq-clause-realized
returns-in-Eq-clause-realized c =
    let r = c.args in
    IfOk-weaker c.eq.result _ _ (λ u g. eq_line r.pen.now c.eq.new.pen r.word r.kind r.out.now.items c.eq.new.out.items r.a.now r.b.now c.in-Eq.is c.requires.empty c.requires.first c.space-space.ensures.bounded c.requires.second g) c.eq.ensures.gives

pub returns-in-Ne-clause-realized : goal.returns-in-Ne-clause-realized
returns-in-Ne-clause-realized c =
    let r = c.args in
    IfOk-weaker c.ne.result _ _ (λ u g. ne_line r.pen.now c.ne.new.pen r.word r.kind r.out.now.items c.ne.new.out.items r.a.now r.b.now c.in-Ne.is c.requires.empty c.requires.first c.space-space.ensures.bounded c.requires.second g) c.ne.ensures.gives

pub returns-then-signed-clause-realized : goal.returns-then-signed-clause-realized
returns-then-signed-clause-realized c =
    let r = c.args in
    IfOk-weaker c.slt.result _ _ (λ u g. slt_line r.pen.now c.slt.new.pen r.word r.kind r.out.now.items c.slt.new.out.items r.a.now r.b.now c.in-Lt.is c.requires.empty c.requires.first (sym c.is_signed-signed.ensures ∙ c.if-signed.true) g) c.slt.ensures.gives

pub returns-else-signed-clause-realized : goal.returns-else-signed-clause-realized
returns-else-signed-clause-realized c =
    let r = c.args in
    IfOk-weaker c.lt.result _ _ (λ u g. lt_line r.pen.now c.lt.new.pen r.word r.kind r.out.now.items c.lt.new.out.items r.a.now r.b.now c.in-Lt.is c.requires.empty c.requires.first (sym c.is_signed-signed.ensures ∙ c.if-signed.false) g) c.lt.ensures.gives

pub returns-then-signed-2-clause-realized : goal.returns-then-signed-2-clause-realized
returns-then-signed-2-clause-realized c =
    let r = c.args in
    IfOk-weaker c.sle.result _ _ (λ u g. sle_line r.pen.now c.sle.new.pen r.word r.kind r.out.now.items c.sle.new.out.items r.a.now r.b.now c.in-Le.is c.requires.empty c.requires.first (sym c.is_signed-signed.ensures ∙ c.if-signed-2.true) g) c.sle.ensures.gives

pub returns-else-signed-2-clause-realized : goal.returns-else-signed-2-clause-realized
returns-else-signed-2-clause-realized c =
    let r = c.args in
    IfOk-weaker c.le.result _ _ (λ u g. le_line r.pen.now c.le.new.pen r.word r.kind r.out.now.items c.le.new.out.items r.a.now r.b.now c.in-Le.is c.requires.empty c.requires.first (sym c.is_signed-signed.ensures ∙ c.if-signed-2.false) g) c.le.ensures.gives

pub returns-then-signed-3-clause-realized : goal.returns-then-signed-3-clause-realized
returns-then-signed-3-clause-realized c =
    let r = c.args in
    IfOk-weaker c.sgt.result _ _ (λ u g. sgt_line r.pen.now c.sgt.new.pen r.word r.kind r.out.now.items c.sgt.new.out.items r.a.now r.b.now c.in-Gt.is c.requires.empty c.requires.first (sym c.is_signed-signed.ensures ∙ c.if-signed-3.true) g) c.sgt.ensures.gives

pub returns-else-signed-3-clause-realized : goal.returns-else-signed-3-clause-realized
returns-else-signed-3-clause-realized c =
    let r = c.args in
    IfOk-weaker c.gt.result _ _ (λ u g. gt_line r.pen.now c.gt.new.pen r.word r.kind r.out.now.items c.gt.new.out.items r.a.now r.b.now c.in-Gt.is c.requires.empty c.requires.first (sym c.is_signed-signed.ensures ∙ c.if-signed-3.false) g) c.gt.ensures.gives

pub returns-then-signed-4-clause-realized : goal.returns-then-signed-4-clause-realized
returns-then-signed-4-clause-realized c =
    let r = c.args in
    IfOk-weaker c.sge.result _ _ (λ u g. sge_line r.pen.now c.sge.new.pen r.word r.kind r.out.now.items c.sge.new.out.items r.a.now r.b.now c.in-Ge.is c.requires.empty c.requires.first (sym c.is_signed-signed.ensures ∙ c.if-signed-4.true) g) c.sge.ensures.gives

pub returns-else-signed-4-clause-realized : goal.returns-else-signed-4-clause-realized
returns-else-signed-4-clause-realized c =
    let r = c.args in
    IfOk-weaker c.ge.result _ _ (λ u g. ge_line r.pen.now c.ge.new.pen r.word r.kind r.out.now.items c.ge.new.out.items r.a.now r.b.now c.in-Ge.is c.requires.empty c.requires.first (sym c.is_signed-signed.ensures ∙ c.if-signed-4.false) g) c.ge.ensures.gives
