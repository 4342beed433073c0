use Rattle.std.proofs.Common.{◌≡◌, ◌≤◌, ◌<◌, ◌+◌, ◌-◌, ◌*◌, ◌%◌, ◌^◌, ℕ, List, [], ◌∷◌, ◌++◌, length, get_or, sym, ◌∙◌, ap, arith, subst}
use Rattle.std.proofs.lemmas.Nat.{pow_pos, mod_below}
use Rattle.rx_params.specs.Kinds.{digit_at}
use Rattle.rx_net.specs.Cells.{value}
use Rattle.rx_plan.specs.Tables.{entries, IsTable}
use Rattle.rx_plan.specs.Values.{number_held}
use Rattle.rx_plan.specs.Planned.{Each, Planned}
use Rattle.rx_plan.proofs.Kept.{cell_within}
use Rattle.rx_plan.proofs.PerBlock.{space_low, unit_big, pair_range, pair_noises, table_here, table_is, one_block}
use Rattle.rx_div.proofs.Taken.{taken_planned}
use Rattle.rx_div.proofs.taking.taken.Goals as goal

pub pair-requires-clause-range : goal.pair-requires-clause-range
pair-requires-clause-range c =
    let p = c.args.pen.now in
    let two : 2 ≤ p.space = omega (arith, c.space-space.ensures.value, space_low c.space-space.result c.space-space.ensures.known) in
    let big : 4 ≤ 2 ^ p.space = unit_big p.space two in
    pair_range p 2 (get_or c.args.rest.now 0 0) c.args.bit (omega arith) (c.requires.blocks 0 c.requires.some) (cell_within p 1 (2 ^ p.space - 1) c.args.bit (omega arith) c.requires.bit)

pub pair-requires-clause-noises : goal.pair-requires-clause-noises
pair-requires-clause-noises c =
    let p = c.args.pen.now in
    let two : 2 ≤ p.space = omega (arith, c.space-space.ensures.value, space_low c.space-space.result c.space-space.ensures.known) in
    let big : 4 ≤ 2 ^ p.space = unit_big p.space two in
    pair_noises p 2 (get_or c.args.rest.now 0 0) c.args.bit (omega arith) (c.requires.blocks 0 c.requires.some) (cell_within p 1 (2 ^ p.space - 1) c.args.bit (omega arith) c.requires.bit)

pub returns-clause-planned : goal.returns-clause-planned
returns-clause-planned c =
    let p = c.args.pen.now in
    let new = c.between_blocks.new.pen in
    let rest : List ℕ = c.args.rest.now in
    let two : 2 ≤ p.space = omega (arith, c.space-space.ensures.value, space_low c.space-space.result c.space-space.ensures.known) in
    let h = table_here (λ u i. i % u) c.space-space.result p.space c.in_ok-table.table.items c.deref.result.now c.space-space.ensures.value c.deref.ensures.value c.in_ok-table.ensures in
    let e : c.extend_from_slice.new.self.items ≡ c.in_ok-low.low ∷ [] ++ c.in_ok-others.others.items =
    c.in_ok-extend_from_slice.ensures.items ∙ ap (λ cs. cs ++ c.deref-2.result.now) c.in_ok-cells.ensures.items ∙ ap (λ ds. c.in_ok-low.low ∷ [] ++ ds) c.deref-2.ensures.value in
    subst (λ (cs : List ℕ). Planned p new cs (λ _. 2 ^ p.space - 1) (length rest) (length rest) 1 (λ P. P c.args.bit × Each rest P) (λ xs i. digit_at p.space (2 * number_held p rest xs + value p xs c.args.bit) i)) (sym e)
    (taken_planned p c.pair.new.pen new rest c.in_ok-others.others.items c.deref.result.now c.args.bit c.in_ok-low.low (c.space-space.result - 1) c.space-space.ensures.bounded two c.requires.some c.requires.blocks c.requires.bit
    (ap (λ s. s - 1) c.space-space.ensures.value) h c.in_ok-low.ensures.makes c.in_ok-others.ensures.planned)
