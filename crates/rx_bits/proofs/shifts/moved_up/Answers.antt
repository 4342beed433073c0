use Rattle.std.proofs.Common.{◌≡◌, ◌<◌, ◌+◌, ◌-◌, ◌*◌, ◌/◌, ◌%◌, ◌^◌, ℕ, List, ◌++◌, length, ◌∙◌, sym, ap, arith, subst}
use Rattle.std.proofs.lemmas.Nat.{div-add-mod', mod_below}
use Rattle.rx_params.specs.Kinds.{digit_at}
use Rattle.rx_plan.specs.Values.{number_held}
use Rattle.rx_plan.specs.Planned.{Each, Planned}
use Rattle.rx_bits.proofs.WholeShifts.{moved_up_planned}
use Rattle.rx_bits.proofs.shifts.moved_up.Goals as goal

pub returns-clause-planned : goal.returns-clause-planned
returns-clause-planned c =
    let p = c.args.pen.now in
    let new = c.raised.new.pen in
    let a : List ℕ = c.args.a.now in
    let s : ℕ = c.space-space.result in
    let e = c.space-space.ensures.value in
    let q : ℕ = c.args.amount / s in
    let r : ℕ = c.args.amount % s in
    let d : q * s + r ≡ c.args.amount = div-add-mod' c.args.amount s in
    let small : r < s = mod_below c.args.amount s (omega arith) in
    let am : c.args.amount ≡ p.space * q + r = (let x : c.args.amount ≡ s * q + r = omega arith in x ∙ ap (λ s. s * q + r) e) in
    let i : c.extend_from_slice.new.self.items ≡ c.in_ok-cells.cells.items ++ c.in_ok-moved.moved.items =
    c.in_ok-extend_from_slice.ensures.items ∙ ap (λ cs. c.in_ok-cells.cells.items ++ cs) c.deref.ensures.value in
    subst (λ (cs : List ℕ). Planned p new cs (λ _. 2 ^ p.space - 1) (length a) (length a) 1 (Each a) (λ xs i. digit_at p.space (number_held p a xs * 2 ^ c.args.amount) i)) (sym i)
    (moved_up_planned p c.filled.new.pen new a c.in_ok-cells.cells.items c.in_ok-moved.moved.items c.args.amount c.min-count.result q r c.space-space.ensures.bounded c.requires.blocks c.requires.some
    am (omega arith) (omega arith) c.in_ok-cells.ensures.planned c.in_ok-moved.ensures.planned)
