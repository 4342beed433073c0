use Rattle.std.proofs.Common.{◌≡◌, ◌<◌, ◌≤◌, ℕ, List, length, get_or, ◌∙◌, sym, ap, arith, subst}
use Rattle.rx_params.specs.Kinds.{digit_at}
use Rattle.rx_bits.specs.Constants.{AreMade}
use Rattle.rx_bits.proofs.ToldDigits.{planned_made, made_push}
use Rattle.rx_bits.proofs.constants.constant_cells.Goals as goal

pub digit_cell-requires-clause-made : goal.digit_cell-requires-clause-made
digit_cell-requires-clause-made c =
    let p = c.args.pen.now in
    let l = c.loop-i in
    let digits : List ℕ = c.in_ok-digits.digits.items in
    let count : length digits ≡ c.args.blocks = c.in_ok-digits.ensures.count in
    let are : (j : ℕ) → j < length digits → get_or digits j 0 ≡ digit_at p.space c.args.number j = λ j q.
    c.in_ok-digits.ensures.digits j (omega arith) ∙ ap (λ s. digit_at s c.args.number j) c.space-space.ensures.value in
    let few : l.i ≤ length digits = omega arith in
    subst (λ (cs : List ℕ). AreMade l.pen cs c.deref-in-loop-i.result.now) (sym c.deref.ensures.value)
    (subst (λ (ds : List ℕ). AreMade l.pen l.cells.items ds) (sym c.deref-in-loop-i.ensures.value)
    (planned_made p l.pen l.cells.items digits c.args.number l.i l.invariant are few))

pub loop-i-preserved : goal.loop-i-preserved
loop-i-preserved c =
    let p = c.args.pen.now in
    let l = c.loop-i in
    let digits : List ℕ = c.in_ok-digits.digits.items in
    let count : length digits ≡ c.args.blocks = c.in_ok-digits.ensures.count in
    let are : (j : ℕ) → j < length digits → get_or digits j 0 ≡ digit_at p.space c.args.number j = λ j q.
    c.in_ok-digits.ensures.digits j (omega arith) ∙ ap (λ s. digit_at s c.args.number j) c.space-space.ensures.value in
    let some : l.i < length digits = omega arith in
    rw c.in_ok-push.ensures.items (made_push p l.pen c.digit_cell.new.pen l.cells.items digits c.args.number l.i c.in_ok-cell.cell are some l.invariant
    c.in_ok-cell.ensures.gives c.in_ok-cell.ensures.shallow
    (λ xs w. c.in_ok-cell.ensures.value xs w ∙ ap (λ (ds : List ℕ). get_or ds l.i 0) c.deref-in-loop-i.ensures.value))
