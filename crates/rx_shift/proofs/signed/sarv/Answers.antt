use Rattle.std.proofs.Common.{true, ◌≡◌, ◌*◌, ◌^◌, ◌++◌, ℕ, List, length, pos, ◌∙◌, ap}
use Rattle.std.specs.Int.{int_div_euclid}
use Rattle.rx_residue.specs.Residues.{residue, signed}
use Rattle.rx_plan.specs.Values.{number_held}
use Rattle.rx_plan.specs.Planned.{EachOf}
use Rattle.rx_plan.proofs.Given.{number_given}
use Rattle.rx_plan.proofs.Held.{digits_said, held_small}
use Rattle.rx_costs.specs.Logs.{log_up}
use Rattle.rx_costs.specs.Table.{signed_shift_jobs, signed_shift_depth}
use Rattle.rx_bits.specs.Signs.{shifted_down}
use Rattle.rx_bits.proofs.Residues.{shifted_signed}
use Rattle.rx_shift.proofs.signed.sarv.Goals as goal

pub returns-clause-gives : goal.returns-clause-gives
returns-clause-gives c =
    let r = c.args in
    let p = r.pen.now in
    let a : List ℕ = r.a.now in
    let amount : List ℕ = r.amount.now in
    let n : ℕ = length a in
    let bits : ℕ = p.space * n in
    let jobs : ℕ = signed_shift_jobs (log_up 2 bits) n in
    let levels : ℕ = signed_shift_depth (log_up 2 bits) in
    let new = c.signed_down.new.pen in
    let cells : List ℕ = c.in_ok-cells.cells.items in
    let e : c.extend_from_slice.new.self.items ≡ r.out.now.items ++ cells = c.in_ok-extend_from_slice.ensures.items ∙ ap (λ cs. r.out.now.items ++ cs) c.deref.ensures.value in
    let whole : List ℕ → ℕ = λ xs. residue bits (int_div_euclid (signed bits (number_held p a xs)) (pos (2 ^ number_held p amount xs))) in
    number_given p new r.out.now.items c.extend_from_slice.new.self.items cells n jobs levels (EachOf a amount) whole e
    (digits_said p new cells n jobs levels (EachOf a amount) (λ xs. shifted_down true bits (number_held p amount xs) (number_held p a xs)) whole
    (λ xs w. shifted_signed bits (number_held p amount xs) (number_held p a xs) (held_small p a c.space-space.ensures.bounded c.requires.first xs w))
    c.in_ok-cells.ensures.planned)
