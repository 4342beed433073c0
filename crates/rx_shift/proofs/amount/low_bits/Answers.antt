use Rattle.std.proofs.Common.{◌≡◌, ◌<◌, ◌≤◌, ◌+◌, ◌*◌, ◌/◌, ◌%◌, ℕ, length, ◌∙◌, sym, ap, arith}
use Rattle.std.proofs.lemmas.Nat.{div-add-mod', div_below, mod_below}
use Rattle.rx_shift.proofs.AmountBits.{bits_push}
use Rattle.rx_shift.proofs.amount.low_bits.Goals as goal

pub loop-j-preserved : goal.loop-j-preserved
loop-j-preserved c =
    let p = c.args.pen.now in
    let s : ℕ = c.space-space.result in
    let j : ℕ = c.loop-j.j in
    let n : ℕ = length c.args.amount.now in
    let q : ℕ = j / s in
    let r : ℕ = j % s in
    let e : s ≡ p.space = c.space-space.ensures.value in
    let d : q * s + r ≡ j = div-add-mod' j s in
    let w : s * n ≡ p.space * n = ap (λ s. s * n) e in
    let here : q < n = div_below j s n (omega arith) (omega arith) in
    let low : r < s = mod_below j s (omega arith) in
    let place : p.space * q + r ≡ j = (let x : s * q + r ≡ j = omega arith in ap (λ s. s * q + r) (sym e) ∙ x) in
    rw c.in_ok-push.ensures.items (bits_push p c.loop-j.pen c.bit_of.new.pen c.loop-j.cells.items c.args.amount.now j q r c.in_ok-cell.cell c.space-space.ensures.bounded c.requires.blocks
    (omega arith) place here c.loop-j.invariant c.in_ok-cell.ensures.planned)
