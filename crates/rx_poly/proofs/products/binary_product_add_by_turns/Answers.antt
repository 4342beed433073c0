use Rattle.std.proofs.Common.{◌≡◌, ℕ, ℤ, pos, ◌+◌, ◌-◌, ◌<◌, length, get_or, take, drop, List, ap, ◌∙◌, arith}
use Rattle.rx_laws.specs.Torus.{word}
use Rattle.rx_laws.specs.Words.{of_words}
use Rattle.rx_ring.specs.Polynomial.{turned}
use Rattle.rx_poly.proofs.Terms.{terms_none, bit_added, bit_passed, terms_all, turn_read}
use Rattle.rx_poly.proofs.products.binary_product_add_by_turns.Goals as goal
use Rattle.rx_poly.proofs.products.binary_product_add_by_turns.Goals.{then-bit-eq1, else-bit-eq1}

pub loop-j-init : goal.loop-j-init
loop-j-init c = λ i p.
    terms_none (length c.args.acc.now) (get_or c.args.acc.now i 0) (of_words c.args.bits.now) (of_words c.args.big.now) i
    (omega (arith, c.type_inv.acc i))

pub loop-j-preserved : goal.loop-j-preserved
loop-j-preserved c = λ i p.
    let n : ℕ = length c.args.acc.now in
    let j : ℕ = c.loop-j.j in
    let k : ℕ = n - j + n - (n - j) in
    let a : ℕ → ℤ = of_words c.args.bits.now in
    let b : ℕ → ℤ = of_words c.args.big.now in
    let xs = c.loop-j.acc in
    let part : List ℕ = take k (drop (n - j) c.lay_out_turns.new.scratch) in
    let x : ℤ = of_words c.args.acc.now i in
    let bit : get_or c.args.bits.now j 0 < 2 = c.requires.binary j (omega arith) in
    let read : get_or part i 0 ≡ word (turned n b j i) =
    turn_read n (length c.args.big.now) j i k b c.lay_out_turns.new.scratch c.requires.same_big c.lay_out_turns.ensures.turns
    (omega arith) p (omega arith) in
    elim c.if-bit-eq1.branch [
      | then-bit-eq1 w ↦
          ap (λ ys. get_or ys i 0) w.acc-is
          ∙ w.add_assign.ensures.each i (omega arith)
          ∙ bit_added n j a b x i (get_or xs i 0) (get_or part i 0) (c.loop-j.invariant i p) (ap pos w.if-bit-eq1.true) read
      | else-bit-eq1 w ↦
          let none : get_or c.args.bits.now j 0 ≡ 0 = omega (arith, w.if-bit-eq1.false) in
          ap (λ ys. get_or ys i 0) w.acc-is
          ∙ bit_passed n j a b x i (get_or xs i 0) (c.loop-j.invariant i p) (ap pos none)
    ]

pub returns-clause-added : goal.returns-clause-added
returns-clause-added c =
    terms_all (length c.args.acc.now) c.loop-j.j (of_words c.args.bits.now) (of_words c.args.big.now) c.args.acc.now c.loop-j.acc
    (omega arith) (omega arith) c.loop-j.invariant
