use Rattle.std.proofs.Common.{◌≡◌, ℕ, pos, ◌+ℤ◌, ◌-◌, ◌<◌, ◌≤◌, ◌*◌, ◌+◌, length, get_or, List, ap, ◌∙◌, refl, arith, take, drop}
use Rattle.std.proofs.Math.Nat.{mul-le-mul_right}
use Rattle.std.proofs.lemmas.List.{length-take, length-drop}
use Rattle.rx_laws.specs.Torus.{word}
use Rattle.rx_laws.specs.Words.{of_words, of_numbers}
use Rattle.rx_ring.specs.Polynomial.{product}
use Rattle.rx_ring.specs.Parts.{of_parts}
use Rattle.rx_ring.proofs.Polynomial.{product_same}
use Rattle.rx_ring.proofs.Parts.{parts_more, parts_rest, part_read}
use Rattle.rx_glwe.proofs.external.row_add.Goals as goal

pub loop-q-preserved : goal.loop-q-preserved
loop-q-preserved c =
    let n : ℕ = length c.args.small.now in
    let p : ℕ = c.loop-q.q in
    let xs : List ℕ = c.loop-q.acc in
    let ys : List ℕ = c.product_add.new.acc in
    let k : ℕ = (p + 1) * n - p * n in
    let w : k ≡ n = omega arith in
    let room : (p + 1) * n ≤ c.args.count * n = mul-le-mul_right n (omega (arith, c.loop-q-test.true)) in
    let l : length xs ≡ c.args.count * n = c.loop-q.auto.acc ∙ c.requires.parts in
    let old : List ℕ = take k (drop (p * n) xs) in
    let row : List ℕ = take k (drop (p * n) c.args.row.now) in
    let part : length old ≡ n = omega (arith, length-take k (drop (p * n) xs), length-drop (p * n) xs) in
    let m : length ys ≡ n = c.product_add.ensures.added.count ∙ part in
    let new : (i : ℕ) → i < n → get_or ys i 0 ≡ word (of_parts n c.args.acc.now p i +ℤ product n (of_numbers c.args.small.now) (of_parts n c.args.row.now p) i) =
    λ i q.
    c.product_add.ensures.added.each i (omega (arith, part))
    ∙ ap (λ x. word (x +ℤ product (length old) (of_numbers c.args.small.now) (of_words row) i))
    (ap pos (part_read (p * n) k i xs (omega arith) ∙ c.loop-q.invariant.1 (p * n + i) (omega arith)))
    ∙ ap (λ x. word (of_parts n c.args.acc.now p i +ℤ product x (of_numbers c.args.small.now) (of_words row) i)) part
    ∙ ap (λ x. word (of_parts n c.args.acc.now p i +ℤ x))
    (product_same n (of_numbers c.args.small.now) (of_numbers c.args.small.now) (of_words row) (of_parts n c.args.row.now p) i
    (λ j _. refl) (λ j r. ap pos (part_read (p * n) k j c.args.row.now (omega arith))) q) in (
      parts_more n k p xs ys (λ q i. word (of_parts n c.args.acc.now q i +ℤ product n (of_numbers c.args.small.now) (of_parts n c.args.row.now q) i))
          (omega arith) m c.loop-q.invariant.0 new,
      parts_rest n k p xs ys c.args.acc.now (omega arith) (omega arith) w c.loop-q.invariant.1,
    )
