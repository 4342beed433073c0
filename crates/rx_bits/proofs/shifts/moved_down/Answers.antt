use Rattle.std.proofs.Common.{◌≡◌, ◌<◌, ◌+◌, ◌-◌, ◌*◌, ◌/◌, ◌%◌, ◌^◌, ℕ, List, ◌++◌, length, ◌∙◌, sym, ap, arith, subst}
use Rattle.std.proofs.lemmas.Nat.{div-add-mod', mod_below}
use Rattle.rx_params.specs.Kinds.{digit_at}
use Rattle.rx_plan.specs.Values.{number_held, cell_value}
use Rattle.rx_plan.specs.Planned.{Each, Planned}
use Rattle.rx_bits.specs.Signs.{shifted_down}
use Rattle.rx_bits.specs.Shifts.{lowered_digit}
use Rattle.rx_bits.proofs.OneCell.{tail_is}
use Rattle.rx_bits.proofs.WholeShifts.{moved_down_planned}
use Rattle.rx_bits.proofs.shifts.moved_down.Goals as goal

pub returns-clause-planned : goal.returns-clause-planned
returns-clause-planned c =
    let p = c.args.pen.now in
    let now = c.lowered.new.pen in
    let new = c.filled.new.pen in
    let a : List ℕ = c.args.a.now in
    let s : ℕ = c.space-space.result in
    let e = c.space-space.ensures.value in
    let q : ℕ = c.args.amount / s in
    let r : ℕ = c.args.amount % s in
    let d : q * s + r ≡ c.args.amount = div-add-mod' c.args.amount s in
    let small : r < s = mod_below c.args.amount s (omega arith) in
    let am : c.args.amount ≡ p.space * q + r = (let x : c.args.amount ≡ s * q + r = omega arith in x ∙ ap (λ s. s * q + r) e) in
    let low : List ℕ = c.in_ok-cells.cells.items in
    let i : c.extend_from_slice.new.self.items ≡ low ++ c.in_ok-above.above.items =
    c.in_ok-extend_from_slice.ensures.items ∙ ap (λ cs. low ++ cs) c.deref.ensures.value in
    subst (λ (cs : List ℕ). Planned p new cs (λ _. 2 ^ p.space - 1) (length a) (length a) 1 (Each a) (λ xs i. digit_at p.space (shifted_down c.args.signed (p.space * length a) c.args.amount (number_held p a xs)) i)) (sym i)
    (moved_down_planned p now new a low c.in_ok-above.above.items c.args.amount c.min-count.result q r c.args.signed (omega arith) c.space-space.ensures.bounded c.requires.blocks c.requires.some
    am (omega arith) (omega arith)
    (subst (λ (part : List ℕ). Planned p now low (λ _. 2 ^ p.space - 1) (length part) (length part) 1 (Each part) (λ xs i. lowered_digit c.args.signed p.space (length part) r (cell_value p part xs) i))
    (tail_is c.min-count.result a) c.in_ok-cells.ensures.planned)
    c.in_ok-above.ensures.planned)
