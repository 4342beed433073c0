use Rattle.std.proofs.Common.{◌≡◌, ◌-◌, ◌*◌, ◌^◌, ℕ, List, ◌++◌, length, take, ◌∙◌, sym, ap, arith, subst}
use Rattle.rx_params.specs.Kinds.{digit_at}
use Rattle.rx_plan.specs.Values.{number_held}
use Rattle.rx_plan.specs.Planned.{Each, Planned}
use Rattle.rx_bits.specs.Signs.{cast_to}
use Rattle.rx_bits.proofs.WholeShifts.{cast_planned}
use Rattle.rx_bits.proofs.casts.cast_cells.Goals as goal

pub returns-clause-planned : goal.returns-clause-planned
returns-clause-planned c =
    let p = c.args.pen.now in
    let new = c.filled.new.pen in
    let a : List ℕ = c.args.a.now in
    let n : ℕ = c.min-count.result in
    let i : c.extend_from_slice.new.self.items ≡ take n a ++ c.in_ok-above.above.items =
    c.in_ok-extend_from_slice.ensures.items ∙ ap (λ cs. cs ++ c.deref.result.now) c.in_ok-cells.ensures.items ∙ ap (λ cs. take n a ++ cs) c.deref.ensures.value in
    subst (λ (cs : List ℕ). Planned p new cs (λ _. 2 ^ p.space - 1) c.args.blocks (c.args.blocks - length a) 1 (Each a)
    (λ xs i. digit_at p.space (cast_to c.args.signed (p.space * length a) (p.space * c.args.blocks) (number_held p a xs)) i)) (sym i)
    (cast_planned p new a c.in_ok-above.above.items n c.args.blocks c.args.signed (omega arith) c.space-space.ensures.bounded c.requires.blocks c.requires.some (omega arith) c.in_ok-above.ensures.planned)
