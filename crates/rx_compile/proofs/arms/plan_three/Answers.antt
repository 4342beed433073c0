use Rattle.std.proofs.Common.{◌≡◌, length, ◌∙◌, ap, [], ◌∷◌}
use Rattle.rx_language.specs.declared.form.Rule.TheVariants.{Chosen}
use Rattle.rx_language.specs.Words.{form}
use Rattle.rx_meaning.specs.Costs.{blocks_of}
use Rattle.rx_compile.proofs.Arguments.{two, argument_count}
use Rattle.rx_compile.proofs.Rules.{gives_by, chosen, number_named}
use Rattle.rx_compile.proofs.Others.{select_room, select_line}
use Rattle.rx_compile.proofs.arms.plan_three.Goals as goal

pub select-requires-clause-room : goal.select-requires-clause-room
select-requires-clause-room c =
    let r = c.args in
    let x = r.a.now in
    let a = r.b.now in
    let b = r.c.now in
    let e : (form r.word).rule ≡ Chosen = ap (λ w. (form w).rule) c.in-Select.is in
    let g = chosen c.requires.takes.width x.kind a.kind b.kind r.kind (gives_by r.word 0 (x.kind ∷ a.kind ∷ b.kind ∷ []) r.kind Chosen e c.requires.takes) in
    let n = number_named r.pen.now a.kind r.kind a.cells.now (two c.space-space.result r.pen.now.space c.space-space.ensures.known c.space-space.ensures.value) g.0.1.0 g.1 c.requires.second in
    select_room r.pen.now r.word r.kind x.kind a.cells.now c.in-Select.is n c.requires.room

pub returns-clause-realized : goal.returns-clause-realized
returns-clause-realized c =
    let r = c.args in
    let x = r.a.now in
    let a = r.b.now in
    let b = r.c.now in
    let e : (form r.word).rule ≡ Chosen = ap (λ w. (form w).rule) c.in-Select.is in
    let g = chosen c.requires.takes.width x.kind a.kind b.kind r.kind (gives_by r.word 0 (x.kind ∷ a.kind ∷ b.kind ∷ []) r.kind Chosen e c.requires.takes) in
    let n = number_named r.pen.now a.kind r.kind a.cells.now (two c.space-space.result r.pen.now.space c.space-space.ensures.known c.space-space.ensures.value) g.0.1.0 g.1 c.requires.second in
    let one : length x.cells.now ≡ 1 = argument_count r.pen.now x.kind x.cells.now c.requires.first ∙ ap (blocks_of r.pen.now.space) g.0.0 in
    select_line r.pen.now c.select.new.pen r.word r.kind x.kind a.kind b.kind c.new-cells.result.items c.select.new.out.items x.cells.now a.cells.now b.cells.now c.in-Select.is g.0.0 g.1 (g.0.1.1 ∙ g.1)
    c.new-cells.ensures.items one n c.in_ok-select-in-Select.ensures.gives
