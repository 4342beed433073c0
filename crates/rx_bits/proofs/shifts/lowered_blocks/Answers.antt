use Rattle.std.proofs.Common.{◌-◌, ◌%◌, ◌^◌, ℕ, List, length, ◌∙◌, sym, subst}
use Rattle.rx_plan.specs.Values.{cell_value}
use Rattle.rx_plan.specs.Planned.{Each, Planned}
use Rattle.rx_plan.proofs.Held.{table_at}
use Rattle.rx_bits.specs.Signs.{fill_digit, between}
use Rattle.rx_bits.specs.Shifts.{lowered_digit}
use Rattle.rx_bits.proofs.MovedBlocks.{lowered_planned}
use Rattle.rx_bits.proofs.shifts.lowered_blocks.Goals as goal

pub returns-clause-planned : goal.returns-clause-planned
returns-clause-planned c =
    let p = c.args.pen.now in
    let now = c.between_blocks.new.pen in
    let new = c.single.new.pen in
    let part : List ℕ = c.args.part.now in
    let bits : ℕ = c.args.bits in
    let signed = c.args.signed in
    let h = table_at (λ s i. between s bits (fill_digit signed s (i % 2 ^ s)) (i % 2 ^ s)) c.space-space.result now.space c.in_ok-table.table.items c.deref.result.now
    (c.space-space.ensures.value ∙ sym c.in_ok-cells.ensures.kept.space) c.deref.ensures.value c.in_ok-table.ensures in
    subst (λ (cs : List ℕ). Planned p new cs (λ _. 2 ^ p.space - 1) (length part) (length part) 1 (Each part) (λ xs i. lowered_digit signed p.space (length part) bits (cell_value p part xs) i)) (sym c.in_ok-push.ensures.items)
    (lowered_planned p now new part c.in_ok-cells.cells.items c.deref.result.now c.in_ok-top.top bits signed c.space-space.ensures.bounded c.requires.some c.requires.blocks h c.in_ok-cells.ensures.planned c.in_ok-top.ensures.makes)
