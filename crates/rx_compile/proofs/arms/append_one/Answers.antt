use Rattle.std.proofs.Common.{◌≡◌, true, sym, ◌∙◌, ap, [], ◌∷◌}
use Rattle.std.proofs.lemmas.Result.{IfOk-weaker}
use Rattle.rx_language.specs.declared.form.Rule.TheVariants.{OneOfAny}
use Rattle.rx_language.specs.declared.word.Word.TheVariants.{Not}
use Rattle.rx_language.specs.Words.{form}
use Rattle.rx_compile.proofs.Arguments.{two}
use Rattle.rx_compile.proofs.Rules.{rule_is, gives_by, some_is}
use Rattle.rx_compile.proofs.Others.{is_cast, cast_rule, told_blocks, cast_room, cast_line, only_not, not_room, not_line}
use Rattle.rx_compile.proofs.arms.append_one.Goals as goal

pub not-requires-clause-room : goal.not-requires-clause-room
not-requires-clause-room c =
    let r = c.args in
    let a = r.a.now in
    let e : (form r.word).rule ≡ OneOfAny = rule_is r.word c.form.result OneOfAny c.form.ensures c.in-OneOfAny.is in
    let w : r.word ≡ Not = only_not r.word e c.requires.takes.count in
    let k : a.kind ≡ r.kind = some_is a.kind r.kind (gives_by r.word r.number (a.kind ∷ []) r.kind OneOfAny e c.requires.takes) in
    not_room r.pen.now r.word r.kind a.kind a.cells.now w k c.requires.argument c.requires.room

pub returns-in-OneOfAny-clause-realized : goal.returns-in-OneOfAny-clause-realized
returns-in-OneOfAny-clause-realized c =
    let r = c.args in
    let a = r.a.now in
    let e : (form r.word).rule ≡ OneOfAny = rule_is r.word c.form.result OneOfAny c.form.ensures c.in-OneOfAny.is in
    let w : r.word ≡ Not = only_not r.word e c.requires.takes.count in
    let k : a.kind ≡ r.kind = some_is a.kind r.kind (gives_by r.word r.number (a.kind ∷ []) r.kind OneOfAny e c.requires.takes) in
    IfOk-weaker c.not.result _ _ (λ u g. not_line r.pen.now c.not.new.pen r.word r.number r.kind a.kind c.file_kind-in_net.result r.out.now.items c.not.new.out.items a.cells.now w k c.file_kind-in_net.ensures c.requires.empty
    (two c.space-space.result r.pen.now.space c.space-space.ensures.known c.space-space.ensures.value) c.requires.argument g) c.not.ensures.gives

pub cast-requires-clause-room : goal.cast-requires-clause-room
cast-requires-clause-room c =
    let r = c.args in
    let a = r.a.now in
    let e : is_cast (form r.word).rule ≡ true = ap (λ f. is_cast f.rule) (sym c.form.ensures) ∙ cast_rule c.form.result.rule c.in-CastInt.is in
    let n = told_blocks c.space-space.result r.pen.now.space c.blocks_of.result r.kind c.blocks_of.ensures c.space-space.ensures.value in
    cast_room r.pen.now r.word r.kind a.kind a.cells.now c.blocks_of.result e c.requires.argument n c.requires.room

pub returns-in-CastInt-clause-realized : goal.returns-in-CastInt-clause-realized
returns-in-CastInt-clause-realized c =
    let r = c.args in
    let a = r.a.now in
    let e : is_cast (form r.word).rule ≡ true = ap (λ f. is_cast f.rule) (sym c.form.ensures) ∙ cast_rule c.form.result.rule c.in-CastInt.is in
    let n = told_blocks c.space-space.result r.pen.now.space c.blocks_of.result r.kind c.blocks_of.ensures c.space-space.ensures.value in
    IfOk-weaker c.cast.result _ _ (λ u g. cast_line r.pen.now c.cast.new.pen r.word r.number r.kind a.kind r.out.now.items c.cast.new.out.items a.cells.now c.is_signed.result c.blocks_of.result e c.requires.empty
    (two c.space-space.result r.pen.now.space c.space-space.ensures.known c.space-space.ensures.value) c.requires.kind c.requires.takes c.requires.argument c.is_signed.ensures n g) c.cast.ensures.gives
