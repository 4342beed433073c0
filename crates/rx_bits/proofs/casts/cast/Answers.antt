use Rattle.std.proofs.Common.{◌≡◌, ◌-◌, ◌*◌, ◌++◌, ℕ, List, length, ◌∙◌, ap}
use Rattle.rx_residue.specs.Residues.{residue, number_as}
use Rattle.rx_plan.specs.Values.{number_held}
use Rattle.rx_plan.specs.Planned.{Each}
use Rattle.rx_plan.proofs.Given.{number_given}
use Rattle.rx_plan.proofs.Held.{digits_said, held_small}
use Rattle.rx_bits.specs.Signs.{cast_to}
use Rattle.rx_bits.proofs.Residues.{cast_residue}
use Rattle.rx_bits.proofs.casts.cast.Goals as goal

pub returns-clause-gives : goal.returns-clause-gives
returns-clause-gives c =
    let r = c.args in
    let p = r.pen.now in
    let a : List ℕ = r.a.now in
    let bits : ℕ = p.space * length a in
    let jobs : ℕ = r.blocks - length a in
    let new = c.cast_cells.new.pen in
    let cells : List ℕ = c.in_ok-cells.cells.items in
    let e : c.extend_from_slice.new.self.items ≡ r.out.now.items ++ cells = c.in_ok-extend_from_slice.ensures.items ∙ ap (λ cs. r.out.now.items ++ cs) c.deref.ensures.value in
    let whole : List ℕ → ℕ = λ xs. residue (p.space * r.blocks) (number_as r.signed bits (number_held p a xs)) in
    number_given p new r.out.now.items c.extend_from_slice.new.self.items cells r.blocks jobs 1 (Each a) whole e
    (digits_said p new cells r.blocks jobs 1 (Each a) (λ xs. cast_to r.signed bits (p.space * r.blocks) (number_held p a xs)) whole
    (λ xs w. cast_residue r.signed bits (p.space * r.blocks) (number_held p a xs) (held_small p a c.space-space.ensures.bounded c.requires.blocks xs w))
    c.in_ok-cells.ensures.planned)
