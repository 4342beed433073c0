use Rattle.std.proofs.Common.{◌-◌, ◌/◌, ◌%◌, ◌^◌, ℕ, List, length, take, ◌∙◌, ap, subst}
use Rattle.std.proofs.lemmas.Result.{IfOk-weaker}
use Rattle.rx_net.specs.Tags.{greatest_of}
use Rattle.rx_plan.specs.Planned.{EachOf, Planned}
use Rattle.rx_plan.proofs.PerBlock.{pair_values}
use Rattle.rx_plan.proofs.Held.{table_at}
use Rattle.rx_bits.proofs.OneCell.{tail_is}
use Rattle.rx_bits.proofs.MovedBlocks.{between_planned}
use Rattle.rx_bits.proofs.shifts.between_blocks.Goals as goal

pub returns-clause-planned : goal.returns-clause-planned
returns-clause-planned c =
    let p = c.args.pen.now in
    let part : List ℕ = c.args.part.now in
    let table : List ℕ = c.deref.result.now in
    let unit : ℕ = c.unit_of.result in
    let h = table_at (λ s i. i / 2 ^ c.args.bits % 2 ^ s) c.space-space.result p.space c.in_ok-table.table.items table c.space-space.ensures.value c.deref.ensures.value c.in_ok-table.ensures in
    IfOk-weaker c.blockwise.result _ _ (λ cells q.
    between_planned p c.blockwise.new.pen cells.items part table c.args.bits unit c.space-space.ensures.bounded (c.unit_of.ensures.value ∙ ap (λ s. 2 ^ s) c.space-space.ensures.value) c.requires.blocks c.requires.some h
    (subst (λ (ups : List ℕ). Planned p c.blockwise.new.pen cells.items (λ _. greatest_of table) (length ups) (length ups) 1 (EachOf ups (take (length part - 1) part)) (pair_values p unit table ups (take (length part - 1) part))) (tail_is 1 part) q)) c.blockwise.ensures.planned
