use Rattle.std.proofs.Common.{◌≡◌, ◌-◌, ◌*◌, ◌%◌, ◌^◌, ℕ, List, [], ◌∷◌, ◌++◌, length, ◌∙◌, sym, ap, subst}
use Rattle.rx_plan.specs.Values.{cell_value}
use Rattle.rx_plan.specs.Planned.{Each, Planned}
use Rattle.rx_plan.proofs.Held.{table_at}
use Rattle.rx_bits.specs.Shifts.{raised_digit}
use Rattle.rx_bits.proofs.MovedBlocks.{raised_planned}
use Rattle.rx_bits.proofs.shifts.raised_blocks.Goals as goal

pub returns-clause-planned : goal.returns-clause-planned
returns-clause-planned c =
    let p = c.args.pen.now in
    let new = c.between_blocks.new.pen in
    let part : List ℕ = c.args.part.now in
    let bits : ℕ = c.args.bits in
    let h = table_at (λ s i. i % 2 ^ s * 2 ^ bits % 2 ^ s) c.space-space.result p.space c.in_ok-table.table.items c.deref.result.now c.space-space.ensures.value c.deref.ensures.value c.in_ok-table.ensures in
    let e : c.extend_from_slice.new.self.items ≡ c.in_ok-low.low ∷ [] ++ c.in_ok-others.others.items =
    c.in_ok-extend_from_slice.ensures.items ∙ ap (λ cs. cs ++ c.deref-2.result.now) c.in_ok-cells.ensures.items ∙ ap (λ ds. c.in_ok-low.low ∷ [] ++ ds) c.deref-2.ensures.value in
    subst (λ (cs : List ℕ). Planned p new cs (λ _. 2 ^ p.space - 1) (length part) (length part) 1 (Each part) (λ xs i. raised_digit p.space bits (cell_value p part xs) i)) (sym e)
    (raised_planned p c.single.new.pen new part c.in_ok-others.others.items c.deref.result.now c.in_ok-low.low bits (c.space-space.result - bits) c.space-space.ensures.bounded c.requires.some c.requires.blocks
    (ap (λ s. s - bits) c.space-space.ensures.value) h c.in_ok-low.ensures.makes c.in_ok-others.ensures.planned)
