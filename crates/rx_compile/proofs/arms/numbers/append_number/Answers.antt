use Rattle.std.proofs.Common.{sym, ◌∙◌}
use Rattle.std.proofs.lemmas.Result.{IfOk-weaker}
use Rattle.rx_compile.proofs.Numbers.{add_room, sub_room, mul_room, min_room, max_room, add_line, sub_line, mul_line, min_line, smin_line, max_line, smax_line}
use Rattle.rx_compile.proofs.arms.numbers.append_number.Goals as goal

pub returns-in-Add-clause-realized : goal.returns-in-Add-clause-realized
returns-in-Add-clause-realized c =
    let r = c.args in
    IfOk-weaker c.add.result _ _ (λ u g. add_line r.pen.now c.add.new.pen r.word r.kind r.out.now.items c.add.new.out.items r.a.now r.b.now c.in-Add.is c.requires.empty c.requires.first g) c.add.ensures.gives

pub returns-in-Sub-clause-realized : goal.returns-in-Sub-clause-realized
returns-in-Sub-clause-realized c =
    let r = c.args in
    IfOk-weaker c.sub.result _ _ (λ u g. sub_line r.pen.now c.sub.new.pen r.word r.kind r.out.now.items c.sub.new.out.items r.a.now r.b.now c.in-Sub.is c.requires.empty c.requires.first c.space-space.ensures.bounded c.requires.second g) c.sub.ensures.gives

pub returns-in-Mul-clause-realized : goal.returns-in-Mul-clause-realized
returns-in-Mul-clause-realized c =
    let r = c.args in
    IfOk-weaker c.mul.result _ _ (λ u g. mul_line r.pen.now c.mul.new.pen r.word r.kind r.out.now.items c.mul.new.out.items r.a.now r.b.now c.in-Mul.is c.requires.empty c.requires.first g) c.mul.ensures.gives

pub add-requires-clause-room : goal.add-requires-clause-room
add-requires-clause-room c = add_room c.args.pen.now c.args.word c.args.kind c.args.a.now c.in-Add.is c.requires.first c.requires.room

pub sub-requires-clause-room : goal.sub-requires-clause-room
sub-requires-clause-room c = sub_room c.args.pen.now c.args.word c.args.kind c.args.a.now c.in-Sub.is c.requires.first c.requires.room

pub mul-requires-clause-room : goal.mul-requires-clause-room
mul-requires-clause-room c = mul_room c.args.pen.now c.args.word c.args.kind c.args.a.now c.in-Mul.is c.requires.first c.requires.room

pub min-requires-clause-room : goal.min-requires-clause-room
min-requires-clause-room c = min_room c.args.pen.now c.args.word c.args.kind c.args.a.now c.in-Min.is c.requires.first c.requires.room

pub smin-requires-clause-room : goal.smin-requires-clause-room
smin-requires-clause-room c = min_room c.args.pen.now c.args.word c.args.kind c.args.a.now c.in-Min.is c.requires.first c.requires.room

pub max-requires-clause-room : goal.max-requires-clause-room
max-requires-clause-room c = max_room c.args.pen.now c.args.word c.args.kind c.args.a.now c.in-Max.is c.requires.first c.requires.room

pub smax-requires-clause-room : goal.smax-requires-clause-room
smax-requires-clause-room c = max_room c.args.pen.now c.args.word c.args.kind c.args.a.now c.in-Max.is c.requires.first c.requires.room

pub returns-then-signed-clause-realized : goal.returns-then-signed-clause-realized
returns-then-signed-clause-realized c =
    let r = c.args in
    IfOk-weaker c.smin.result _ _ (λ u g. smin_line r.pen.now c.smin.new.pen r.word r.kind r.out.now.items c.smin.new.out.items r.a.now r.b.now c.in-Min.is c.requires.empty c.requires.first (sym c.is_signed-signed.ensures ∙ c.if-signed.true) g) c.smin.ensures.gives

pub returns-else-signed-clause-realized : goal.returns-else-signed-clause-realized
returns-else-signed-clause-realized c =
    let r = c.args in
    IfOk-weaker c.min.result _ _ (λ u g. min_line r.pen.now c.min.new.pen r.word r.kind r.out.now.items c.min.new.out.items r.a.now r.b.now c.in-Min.is c.requires.empty c.requires.first (sym c.is_signed-signed.ensures ∙ c.if-signed.false) g) c.min.ensures.gives

pub returns-then-signed-2-clause-realized : goal.returns-then-signed-2-clause-realized
returns-then-signed-2-clause-realized c =
    let r = c.args in
    IfOk-weaker c.smax.result _ _ (λ u g. smax_line r.pen.now c.smax.new.pen r.word r.kind r.out.now.items c.smax.new.out.items r.a.now r.b.now c.in-Max.is c.requires.empty c.requires.first (sym c.is_signed-signed.ensures ∙ c.if-signed-2.true) g) c.smax.ensures.gives

pub returns-else-signed-2-clause-realized : goal.returns-else-signed-2-clause-realized
returns-else-signed-2-clause-realized c =
    let r = c.args in
    IfOk-weaker c.max.result _ _ (λ u g. max_line r.pen.now c.max.new.pen r.word r.kind r.out.now.items c.max.new.out.items r.a.now r.b.now c.in-Max.is c.requires.empty c.requires.first (sym c.is_signed-signed.ensures ∙ c.if-signed-2.false) g) c.max.ensures.gives
