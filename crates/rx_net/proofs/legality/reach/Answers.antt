use Rattle.std.proofs.Common.{◌≡◌, ◌+◌, ℕ, ℤ, ◌<◌, length, get_or, sym, ◌∙◌, ap, subst, arith, rules}
use Rattle.std.specs.Prelude.{Option, IfOk}
use Rattle.std.specs.List.{AllByRecursion}
use Rattle.std.proofs.lemmas.Int.{to_z-of_z}
use mir.Syntax.{w16}
use mir.Val.{SFits}
use Rattle.rx_net.specs.declared.term.Term.{Term}
use Rattle.rx_net.specs.declared.fault.NetFault.{NetFault}
use Rattle.rx_net.specs.Tags.{low_of, high_of, natural, greatest_between}
use Rattle.rx_net.specs.Cells.{input_cells, degrees_after, noises_after}
use Rattle.rx_net.specs.Faults.{TellsFault}
use Rattle.rx_net.proofs.Fits.{forward_from_test, sum_order, later_fault, earlier_fault, new_fault_is}
use Rattle.rx_net.proofs.legality.reach.Goals as goal

pub sum_tags-sum-requires-clause-forward : goal.sum_tags-sum-requires-clause-forward
sum_tags-sum-requires-clause-forward c =
    let e : c.input_cells.result + length c.args.before.now ≡ (input_cells c.args.space c.args.inputs.now + length c.args.before.now) = omega (arith, c.input_cells.ensures) in
    subst (λ (n : ℕ). AllByRecursion (λ (t : Term). t.cell < n) c.args.terms.now) e
    (forward_from_test (c.input_cells.result + length c.args.before.now) c.args.terms.now (sym c.are_earlier.ensures ∙ c.if-are_earlier.true))

pub check_sum-requires-clause-order : goal.check_sum-requires-clause-order
check_sum-requires-clause-order c =
    let fits : SFits w16 c.args.constant = search rules in
    let same = to_z-of_z w16 c.args.constant fits in
    let low : c.sum_tags-sum.result.low ≡ low_of (λ i. get_or (degrees_after c.args.space c.args.inputs.now c.args.before.now) i 0) c.args.constant c.args.terms.now = c.sum_tags-sum.ensures.low ∙ ap (λ k. low_of (λ i. get_or (degrees_after c.args.space c.args.inputs.now c.args.before.now) i 0) k c.args.terms.now) same in
    let high : c.sum_tags-sum.result.high ≡ high_of (λ i. get_or (degrees_after c.args.space c.args.inputs.now c.args.before.now) i 0) c.args.constant c.args.terms.now = c.sum_tags-sum.ensures.high ∙ ap (λ k. high_of (λ i. get_or (degrees_after c.args.space c.args.inputs.now c.args.before.now) i 0) k c.args.terms.now) same in
    sum_order (λ i. get_or (degrees_after c.args.space c.args.inputs.now c.args.before.now) i 0) c.args.constant c.sum_tags-sum.result.low c.sum_tags-sum.result.high c.args.terms.now low high

pub returns-then-are_earlier-clause-fault : goal.returns-then-are_earlier-clause-fault
returns-then-are_earlier-clause-fault c =
    let fits : SFits w16 c.args.constant = search rules in
    let same = to_z-of_z w16 c.args.constant fits in
    let low : c.sum_tags-sum.result.low ≡ low_of (λ i. get_or (degrees_after c.args.space c.args.inputs.now c.args.before.now) i 0) c.args.constant c.args.terms.now = c.sum_tags-sum.ensures.low ∙ ap (λ k. low_of (λ i. get_or (degrees_after c.args.space c.args.inputs.now c.args.before.now) i 0) k c.args.terms.now) same in
    let high : c.sum_tags-sum.result.high ≡ high_of (λ i. get_or (degrees_after c.args.space c.args.inputs.now c.args.before.now) i 0) c.args.constant c.args.terms.now = c.sum_tags-sum.ensures.high ∙ ap (λ k. high_of (λ i. get_or (degrees_after c.args.space c.args.inputs.now c.args.before.now) i 0) k c.args.terms.now) same in
    subst (λ (f : Option NetFault). TellsFault c.check_sum.result f)
    (earlier_fault c.args.space (length c.args.before.now) (input_cells c.args.space c.args.inputs.now + length c.args.before.now) (λ i. get_or (degrees_after c.args.space c.args.inputs.now c.args.before.now) i 0)
    (λ i. get_or (noises_after c.args.space c.args.inputs.now c.args.before.now) i 0) c.args.terms.now c.args.constant c.args.table.now (c.input_cells.result + length c.args.before.now) (omega (arith, c.input_cells.ensures))
    (sym c.are_earlier.ensures ∙ c.if-are_earlier.true) c.sum_tags-sum.result.low c.sum_tags-sum.result.high c.sum_tags-sum.result.noise low high c.sum_tags-sum.ensures.noise
    ∙ new_fault_is c.args.space c.args.inputs.now c.args.before.now c.args.terms.now c.args.constant c.args.table.now) c.check_sum.ensures.fault

pub returns-then-are_earlier-clause-degree : goal.returns-then-are_earlier-clause-degree
returns-then-are_earlier-clause-degree c =
    let fits : SFits w16 c.args.constant = search rules in
    let same = to_z-of_z w16 c.args.constant fits in
    let low : c.sum_tags-sum.result.low ≡ low_of (λ i. get_or (degrees_after c.args.space c.args.inputs.now c.args.before.now) i 0) c.args.constant c.args.terms.now = c.sum_tags-sum.ensures.low ∙ ap (λ k. low_of (λ i. get_or (degrees_after c.args.space c.args.inputs.now c.args.before.now) i 0) k c.args.terms.now) same in
    let high : c.sum_tags-sum.result.high ≡ high_of (λ i. get_or (degrees_after c.args.space c.args.inputs.now c.args.before.now) i 0) c.args.constant c.args.terms.now = c.sum_tags-sum.ensures.high ∙ ap (λ k. high_of (λ i. get_or (degrees_after c.args.space c.args.inputs.now c.args.before.now) i 0) k c.args.terms.now) same in
    let table = c.args.table.now in
    subst (λ (z : ℤ). IfOk c.check_sum.result (λ (r : ℕ). r ≡ greatest_between table (natural (low_of (λ i. get_or (degrees_after c.args.space c.args.inputs.now c.args.before.now) i 0) c.args.constant c.args.terms.now)) (natural z))) high
    (subst (λ (z : ℤ). IfOk c.check_sum.result (λ (r : ℕ). r ≡ greatest_between table (natural z) (natural c.sum_tags-sum.result.high))) low c.check_sum.ensures.degree)

pub returns-else-are_earlier-clause-fault : goal.returns-else-are_earlier-clause-fault
returns-else-are_earlier-clause-fault c =
    sym (new_fault_is c.args.space c.args.inputs.now c.args.before.now c.args.terms.now c.args.constant c.args.table.now)
    ∙ later_fault c.args.space (length c.args.before.now) (input_cells c.args.space c.args.inputs.now + length c.args.before.now) (λ i. get_or (degrees_after c.args.space c.args.inputs.now c.args.before.now) i 0)
    (λ i. get_or (noises_after c.args.space c.args.inputs.now c.args.before.now) i 0) c.args.terms.now c.args.constant c.args.table.now (c.input_cells.result + length c.args.before.now) (omega (arith, c.input_cells.ensures))
    (sym c.are_earlier.ensures ∙ c.if-are_earlier.false)
