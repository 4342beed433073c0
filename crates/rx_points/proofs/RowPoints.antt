-- From products at the points to the sum of the products of rows.
use Rattle.std.proofs.Common.{◌≡◌, ℕ, zero, suc, ℤ, pos, ◌+ℤ◌, ◌*ℤ◌, ◌+◌, ◌-◌, ◌*◌, ◌/◌, ◌%◌, ◌^◌, ◌<◌, ◌≤◌, refl, sym, ◌∙◌, ap, subst, arith, inl, inr, List, length, get_or, take, drop}
use Rattle.std.proofs.lemmas.Bool.{cases_lt}
use Rattle.std.proofs.lemmas.Int.{ints}
use Rattle.std.proofs.lemmas.Nat.{mul-le, mul-add-lt}
use Rattle.rx_laws.specs.Sum.{sum_to}
use Rattle.rx_laws.proofs.Sums.{sum_to-zero, sum_to-suc, sum_to-same}
use Rattle.rx_ring.specs.Polynomial.{product}
use Rattle.rx_ring.specs.Parts.{of_parts}
use Rattle.rx_ring.specs.Blocks.{points as points_of, from_points, closed, both, blocks, summed_products}
use Rattle.rx_ring.proofs.Polynomial.{product_same, product-add_right, product-mul_right}
use Rattle.rx_ring.proofs.BlockSums.{from_both_sum, closed-linear}
use Rattle.rx_ring.proofs.Interleaved.{closed_same}
use Rattle.rx_ring.proofs.Parts.{part_before, part_in, parts_rest, part_read_at}
use borrow.Rule.Slice.PartMut.{put_mid}
use Rattle.rx_laws.specs.Words.{of_numbers}
use Rattle.rx_points.specs.Residues.{residue}
use Rattle.rx_points.specs.Numbers.{part}
use Rattle.rx_points.specs.Rows.{row_end, AreLimbs, AreKeyLimbs, AddsPoint, AddsPoints, AreRowPoints, IsEvaluated}
use Rattle.rx_points.proofs.Residues.{gap, gap_is, residue_same, residue-add}
use Rattle.rx_points.proofs.Rows.{rows_summed}
use Rattle.rx_points.proofs.ResidueBlocks.{residue-both}

pub residue-sum : (n : ℕ) (f g : ℕ → ℤ) → ((j : ℕ) → j < n → residue (f j) ≡ residue (g j)) → residue (sum_to n f) ≡ residue (sum_to n g)
residue-sum zero f g same = ap residue (sum_to-zero f ∙ sym (sum_to-zero g))
residue-sum (suc n) f g same =
    ap residue (sum_to-suc n f)
    ∙ residue-add (sum_to n f) (sum_to n g) (f n) (g n) (residue-sum n f g (λ j p. same j (omega arith))) (same n (omega arith))
    ∙ ap residue (sym (sum_to-suc n g))

pub residue-product : (n : ℕ) (a b b' : ℕ → ℤ) (i : ℕ) → ((t : ℕ) → t < n → residue (b t) ≡ residue (b' t)) → i < n →
    residue (product n a b i) ≡ residue (product n a b' i)
residue-product n a b b' i same q =
    residue_same (product n a b i) (product n a b' i) (product n a (λ t. gap (b t) (b' t)) i)
    (product_same n a a b (λ t. b' t +ℤ pos (2 ^ 69) *ℤ gap (b t) (b' t)) i (λ _ _. refl) (λ t p. gap_is (b t) (b' t) (same t p)) q
    ∙ product-add_right n a b' (λ t. pos (2 ^ 69) *ℤ gap (b t) (b' t)) i
    ∙ ap (λ z. product n a b' i +ℤ z) (product-mul_right n (pos (2 ^ 69)) a (λ t. gap (b t) (b' t)) i))

-- the product of n numbers at the end of a row, where a and v are row by row x and, modulo 2 ^ 69, y
pub rows_at_point : (r rows : ℕ) (a v : ℕ → ℤ) (x y : ℕ → ℕ → ℤ) (t : ℕ) → 0 < rows → t < r →
    ((w u : ℕ) → w < rows → u < r → a (u * rows + w) ≡ x w u) →
    ((w u : ℕ) → w < rows → u < r → residue (v (u * rows + (rows - 1 - w))) ≡ residue (y w u)) →
    residue (product (rows * r) a v (row_end rows t)) ≡ residue (sum_to rows (λ w. product r (x w) (y w) t))
unfolding blocks
rows_at_point r rows a v x y t some q f g =
    ap residue (rows_summed r rows a v t some q)
    ∙ residue-sum rows (λ w. product r (blocks rows a w) (blocks rows v (rows - 1 - w)) t) (λ w. product r (x w) (y w) t)
    (λ w l. ap residue (product_same r (blocks rows a w) (x w) (blocks rows v (rows - 1 - w)) (blocks rows v (rows - 1 - w)) t (λ u o. f w u l o) (λ _ _. refl) q)
    ∙ residue-product r (x w) (blocks rows v (rows - 1 - w)) (y w) t (λ u o. g w u l o) q)

-- all levels up: 32 times the sum of products
pub whole_product : (r g rows : ℕ) (a b x y : ℕ → ℕ → ℤ) (j t : ℕ) → r ≡ 16 * g → j < 16 → t < r →
    ((p u : ℕ) → p < 16 → u < r → residue (x p u) ≡ residue (summed_products r 4 0 rows a b p u)) →
    ((p u : ℕ) → p < 16 → u < r → residue (y p u) ≡ residue (summed_products r 4 r rows a b p u)) →
    residue (closed r (from_points r 4 0 x) (from_points r 4 r y) j t)
    ≡ residue (pos 32 *ℤ sum_to rows (λ w. product (16 * r) (a w) (b w) (t * 16 + j)))
unfolding both
whole_product r g rows a b x y j t e q o f h =
    residue-both r 4 x (summed_products r 4 0 rows a b) y (summed_products r 4 r rows a b) j t f h q o
    ∙ ap residue (from_both_sum r 4 g rows a b j t e q o)

-- ---- one point more
pub key_limbs : (n p k : ℕ) (v : ℕ → ℕ → ℕ) (xs : List ℤ) → p < 32 → k ≡ 6 * n → AreKeyLimbs n v xs → AreLimbs n (v p) (take k (drop (p * (6 * n)) xs))
key_limbs n p k v xs q e are = record {
  each = λ l u r o.
      part_read_at (p * (6 * n)) k (l * n + u) xs (pos 0) (omega (arith, e, mul-add-lt l n u 6 r o)) ∙ are.each p l u q r o;
}

pub points_more : (rows places point k m d s : ℕ) (points limbs : List ℤ) (v : ℕ → ℕ → ℕ) (old sums new : List ℕ) → point < 32 →
    length sums ≡ 32 * places → length new ≡ places → m ≡ places → d ≡ rows * places → s ≡ 6 * (rows * places) → 0 < rows →
    length (take m (drop (point * places) sums)) ≡ places → length (take d (drop (point * (rows * places)) points)) ≡ rows * places →
    AddsPoints rows places point (part (rows * places) points) v old sums →
    ((j : ℕ) → point * places ≤ j → get_or sums j 0 ≡ get_or old j 0) → AreKeyLimbs (rows * places) v limbs →
    ((f : ℕ → ℕ) → AreLimbs (length (take d (drop (point * (rows * places)) points))) f (take s (drop (point * (6 * (rows * places))) limbs)) →
    AddsPoint (length (take d (drop (point * (rows * places)) points))) rows (of_numbers (take d (drop (point * (rows * places)) points))) f
    (take m (drop (point * places) sums)) new) →
    AddsPoints rows places (point + 1) (part (rows * places) points) v old (put_mid (point * places) k sums new)
points_more rows places point k m d s points limbs v old sums new q size new_size is_m is_d is_s some part_size digits_size before left key adds =
    let n : ℕ = rows * places in
    let xs : List ℤ = take d (drop (point * (rows * places)) points) in
    let inside : point * places ≤ length sums = omega (arith, size, mul-le point places 32 places (omega arith) (omega arith)) in
    let one : AddsPoint (rows * places) rows (of_numbers xs) (v point) (take m (drop (point * places) sums)) new =
    subst (λ z. AddsPoint z rows (of_numbers xs) (v point) (take m (drop (point * places) sums)) new) digits_size
    (adds (v point) (subst (λ z. AreLimbs z (v point) (take s (drop (point * (6 * (rows * places))) limbs))) (sym digits_size) (key_limbs n point s v limbs q is_s key))) in
    let at : (t : ℕ) → t < places → residue (of_parts places (put_mid (point * places) k sums new) point t)
    ≡ residue (of_parts places old point t +ℤ product (rows * places) (part (rows * places) points point) (λ u. pos (v point u)) (row_end rows t)) =
    λ t o.
    ap (λ x. residue (pos x)) (part_in (point * places) k t sums new (omega (arith, new_size, o)) inside)
    ∙ one.each t (omega (arith, part_size, o))
    ∙ ap (λ x. residue (pos x +ℤ product n (of_numbers xs) (λ u. pos (v point u)) (row_end rows t)))
    (part_read_at (point * places) m t sums 0 (omega (arith, is_m, o)) ∙ left (point * places + t) (omega arith))
    ∙ ap (λ z. residue (of_parts places old point t +ℤ z))
    (product_same n (of_numbers xs) (part n points point) (λ u. pos (v point u)) (λ u. pos (v point u)) (row_end rows t)
    (λ u l. part_read_at (point * (rows * places)) d u points (pos 0) (omega (arith, is_d, l))) (λ _ _. refl)
    (omega (arith, mul-add-lt t rows (rows - 1) places o (omega arith)))) in
    record {
      each = λ p t r o. elim (cases_lt p point) as (λ _. residue (of_parts places (put_mid (point * places) k sums new) p t)
          ≡ residue (of_parts places old p t +ℤ product (rows * places) (part (rows * places) points p) (λ u. pos (v p u)) (row_end rows t))) [
            | inl h ↦
                ap (λ x. residue (pos x)) (part_before (point * places) k (p * places + t) sums new (omega (arith, mul-add-lt p places t point h o)) inside)
                ∙ before.each p t h o
            | inr h ↦
                let same : point ≡ p = omega arith in
                subst (λ z. residue (of_parts places (put_mid (point * places) k sums new) z t)
                ≡ residue (of_parts places old z t +ℤ product (rows * places) (part (rows * places) points z) (λ u. pos (v z u)) (row_end rows t))) same (at t o)
          ];
    }

pub points_left : (places point k : ℕ) (sums new old : List ℕ) → point < 32 → length sums ≡ 32 * places → length new ≡ k → k ≡ places →
    ((j : ℕ) → point * places ≤ j → get_or sums j 0 ≡ get_or old j 0) →
    (j : ℕ) → (point + 1) * places ≤ j → get_or (put_mid (point * places) k sums new) j 0 ≡ get_or old j 0
points_left places point k sums new old q size new_size e left =
    parts_rest places k point sums new old (omega (arith, size, mul-le point places 32 places (omega arith) (omega arith))) new_size e left

-- ---- the whole
residue-closed : (n : ℕ) (x x' y y' : ℕ → ℕ → ℤ) (j i : ℕ) → ((t : ℕ) → t < n → residue (x j t) ≡ residue (x' j t)) →
    ((t : ℕ) → t < n → residue (y j t) ≡ residue (y' j t)) → i < n → residue (closed n x y j i) ≡ residue (closed n x' y' j i)
residue-closed n x x' y y' j i f g q =
    residue_same (closed n x y j i) (closed n x' y' j i) (closed n (λ k t. gap (x k t) (x' k t)) (λ k t. gap (y k t) (y' k t)) j i)
    (closed_same n x (λ k t. x' k t +ℤ pos (2 ^ 69) *ℤ gap (x k t) (x' k t)) y (λ k t. y' k t +ℤ pos (2 ^ 69) *ℤ gap (y k t) (y' k t)) j i
    (λ t v. gap_is (x j t) (x' j t) (f t v)) (λ t v. gap_is (y j t) (y' j t) (g t v)) q
    ∙ closed-linear n (pos (2 ^ 69)) x' y' (λ k t. gap (x k t) (x' k t)) (λ k t. gap (y k t) (y' k t)) j i q)

-- where sums that were nothing have the products of points of rows added to them
sums_are : (rows places p u : ℕ) (f : ℕ → ℕ → ℤ) (v : ℕ → ℕ → ℕ) (x y : ℕ → ℕ → ℤ) (old new : List ℕ) → 0 < rows → u < places → p < 32 →
    get_or old (p * places + u) 0 ≡ 0 → AddsPoints rows places 32 f v old new →
    ((w t : ℕ) → w < rows → t < places → f p (t * rows + w) ≡ x w t) →
    ((w t : ℕ) → w < rows → t < places → residue (pos (v p (t * rows + (rows - 1 - w)))) ≡ residue (y w t)) →
    residue (of_parts places new p u) ≡ residue (sum_to rows (λ w. product places (x w) (y w) u))
sums_are rows places p u f v x y old new some q o none adds g h =
    adds.each p u o q
    ∙ ap (λ z. residue (pos z +ℤ product (rows * places) (f p) (λ t. pos (v p t)) (row_end rows u))) none
    ∙ ap residue (nothing (product (rows * places) (f p) (λ t. pos (v p t)) (row_end rows u)))
    ∙ rows_at_point places rows (f p) (λ t. pos (v p t)) x y u some q g h
  where
    nothing : (z : ℤ) → pos 0 +ℤ z ≡ z
    nothing z = omega (arith, ints)

pub elements_are : (rows places g size i : ℕ) (a b : ℕ → ℕ → ℤ) (points limbs : List ℤ) (old sums elements : List ℕ) → 0 < rows → places ≡ 16 * g → size ≡ 16 * places →
    i < size → ((j : ℕ) → get_or old j 0 ≡ 0) → AreRowPoints rows places a points → (key : IsEvaluated rows places b limbs) →
    AddsPoints rows places 32 (part (rows * places) points) key.value old sums →
    ((j t : ℕ) → j < 16 → t < places → residue (of_parts places elements j t) ≡ residue (from_points places 4 0 (of_parts places sums) j t)) →
    ((j t : ℕ) → j < 16 → t < places → residue (of_parts places elements (16 + j) t) ≡ residue (from_points places 4 places (λ p. of_parts places sums (16 + p)) j t)) →
    residue (closed places (of_parts places elements) (λ k. of_parts places elements (16 + k)) (i % 16) (i / 16))
    ≡ residue (pos 32 *ℤ sum_to rows (λ w. product size (a w) (b w) i))
elements_are rows places g size i a b points limbs old sums elements some e whole q none are key adds near away =
    let j : ℕ = i % 16 in
    let t : ℕ = i / 16 in
    let o : t < places = omega (arith, q, whole) in
    let place : t * 16 + j ≡ i = omega arith in
    residue-closed places (of_parts places elements) (from_points places 4 0 (of_parts places sums)) (λ k. of_parts places elements (16 + k))
    (from_points places 4 places (λ p. of_parts places sums (16 + p))) j t (λ u l. near j u (omega arith) l) (λ u l. away j u (omega arith) l) o
    ∙ whole_product places g rows a b (of_parts places sums) (λ p. of_parts places sums (16 + p)) j t e (omega arith) o
    (λ p u l m. sums_are rows places p u (part (rows * places) points) key.value (λ w. points_of places 4 0 (blocks 16 (a w)) p) (λ w. points_of places 4 0 (blocks 16 (b w)) p)
    old sums some m (omega arith) (none (p * places + u)) adds (λ w k r s. are.near w p k r l s) (λ w k r s. key.near w p k r l s))
    (λ p u l m. sums_are rows places (16 + p) u (part (rows * places) points) key.value (λ w. points_of places 4 places (blocks 16 (a w)) p) (λ w. points_of places 4 places (blocks 16 (b w)) p)
    old sums some m (omega arith) (none ((16 + p) * places + u)) adds (λ w k r s. are.away w p k r l s) (λ w k r s. key.away w p k r l s))
    ∙ ap (λ z. residue (pos 32 *ℤ z))
    (sum_to-same rows (λ w. product (16 * places) (a w) (b w) (t * 16 + j)) (λ w. product size (a w) (b w) i)
    (λ w _. ap (λ k. product (16 * places) (a w) (b w) k) place ∙ ap (λ k. product k (a w) (b w) i) (sym whole)))
