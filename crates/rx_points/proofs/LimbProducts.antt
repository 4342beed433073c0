-- Sums from which windows are taken are sums to which products are added, limb by limb.
use Rattle.std.proofs.Common.{◌≡◌, ℕ, zero, suc, ℤ, pos, negsuc, neg_ℤ, ◌+ℤ◌, ◌-ℤ◌, ◌*ℤ◌, ◌+◌, ◌-◌, ◌*◌, ◌^◌, ◌<◌, ◌≤◌, refl, sym, ◌∙◌, ap, subst, arith, inl, inr, List, length, get_or, set, take, drop, ◌++◌, ◌%◌, to_z, of_z, w16, w32, w64, FitsSigned}
use Rattle.std.proofs.lemmas.Bool.{cases_lt}
use Rattle.std.proofs.lemmas.Grind.{common_steps}
use Rattle.std.proofs.lemmas.Int.{ints, to_z-of_z, int_wrap_fits, SFits-int_wrap}
use Rattle.std.proofs.lemmas.List.{get_or-append_right, get_or_past, length-take}
use Rattle.std.proofs.lemmas.Nat.{mul-add-lt, mul-le, pow-add}
use Rattle.std.proofs.Math.ListN.{get_or-append}
use Rattle.std.specs.Int.{int_wrap, w128}
use Rattle.std.specs.Int.RustNames.{unsigned_abs}
use Rattle.rx_laws.specs.Sum.{sum_to}
use Rattle.rx_laws.specs.Words.{of_numbers}
use Rattle.rx_laws.proofs.Ring.{mul_add, mul_assoc_ℤ, mul_neg}
use Rattle.rx_ring.specs.Polynomial.{turned, product}
use Rattle.rx_ring.specs.Limbs.{without, above, limb_at, low_part, high_part}
use Rattle.rx_ring.proofs.Polynomial.{product_same, product-add_right, product-mul_right}
use Rattle.rx_ring.proofs.BlockBounds.{size_turned}
use Rattle.rx_ring.proofs.Levels.{by_half}
use Rattle.rx_ring.proofs.Limbs.{limbs_whole, limb_within}
use Rattle.rx_ring.proofs.Parts.{part_read_at}
use Rattle.rx_points.specs.Numbers.{AllFit, HoldsTurns}
use Rattle.rx_points.specs.Residues.{residue}
use Rattle.rx_points.specs.Windows.{window_sum}
use Rattle.rx_points.specs.Rows.{reversed, row_end, AreLimbs, TakesWindows, AddsProduct, AddsPoint}
use Rattle.rx_points.proofs.Chunks.{window_in, wrapped_gap}
use Rattle.rx_points.proofs.Residues.{residue_same, residue-add, residue-sub, residue-mul, residue-wrapping, residue-wrapping_sub, residue_cast}
use Rattle.rx_points.proofs.Rows.{window_is_product}
use Rattle.rx_points.proofs.Turns.{fits_as}
use Rattle.rx_points.proofs.SixLimbs.{within_8, within_15}

-- ---- a loop that writes one place after another
pub set_below : (xs : List ℕ) (i v k : ℕ) → k < i → get_or (set xs i v) k 0 ≡ get_or xs k 0
set_below xs i v k p = grind (arith, common_steps)

pub set_above : (xs : List ℕ) (i v k : ℕ) → i < k → get_or (set xs i v) k 0 ≡ get_or xs k 0
set_above xs i v k p = grind (arith, common_steps)

pub set_at : (xs : List ℕ) (i v : ℕ) → i < length xs → get_or (set xs i v) i 0 ≡ v
set_at xs i v p = grind (arith, common_steps)

pub each_written : (P : ℕ → ℕ → Type 0) (xs : List ℕ) (i v : ℕ) → i < length xs → ((k : ℕ) → k < i → P k (get_or xs k 0)) → P i v →
    (k : ℕ) → k < i + 1 → P k (get_or (set xs i v) k 0)
each_written P xs i v p before now k q = elim (cases_lt k i) as (λ _. P k (get_or (set xs i v) k 0)) [
  | inl r ↦ subst (P k) (sym (set_below xs i v k r)) (before k r)
  | inr r ↦
      let same : i ≡ k = omega arith in
      subst (λ j. P j (get_or (set xs i v) j 0)) same (subst (P i) (sym (set_at xs i v p)) now)
]

-- ---- sums four by four
pub taken_more : (n rows shift : ℕ) (a c : ℕ → ℤ) (totals : ℕ → ℤ) (old four rest four' rest' : List ℕ) → old ≡ four ++ rest →
    length four ≡ 4 → length four' ≡ 4 →
    ((t : ℕ) → t < 4 → residue (pos (get_or four' t 0)) ≡ residue (pos (get_or four t 0) -ℤ pos (2 ^ shift) *ℤ totals (3 - t))) →
    ((t : ℕ) → t < 4 → residue (pos (2 ^ shift) *ℤ totals (3 - t)) ≡ residue (pos (2 ^ shift) *ℤ window_sum n a c (rows * (length old - suc t)))) →
    length old ≡ 4 + length rest → TakesWindows n rows shift a c rest rest' → TakesWindows n rows shift a c old (four' ++ rest')
taken_more n rows shift a c totals old four rest four' rest' e size size' first are count takes = record {
  each = λ t p. elim (cases_lt t 4) as (λ _.
      residue (pos (get_or (four' ++ rest') t 0)) ≡ residue (pos (get_or old t 0) -ℤ pos (2 ^ shift) *ℤ window_sum n a c (rows * (length old - suc t)))) [
        | inl r ↦
            let same : get_or old t 0 ≡ get_or four t 0 = ap (λ xs. get_or xs t 0) e ∙ get_or-append four rest 0 t (omega (arith, size)) in
            ap (λ x. residue (pos x)) (get_or-append four' rest' 0 t (omega (arith, size'))) ∙ first t r
            ∙ ap (λ x. residue (pos x -ℤ pos (2 ^ shift) *ℤ totals (3 - t))) (sym same)
            ∙ residue-sub (pos (get_or old t 0)) (pos (get_or old t 0)) _ _ refl (are t r)
        | inr r ↦
            let same : get_or old t 0 ≡ get_or rest (t - 4) 0 =
            ap (λ xs. get_or xs t 0) e ∙ get_or-append_right four rest 4 t 0 size r in
            let place : length rest - suc (t - 4) ≡ length old - suc t = omega (arith, count) in
            ap (λ x. residue (pos x)) (get_or-append_right four' rest' 4 t 0 size' r) ∙ takes.each (t - 4) (omega (arith, count))
            ∙ ap (λ x. residue (pos x -ℤ pos (2 ^ shift) *ℤ window_sum n a c (rows * (length rest - suc (t - 4))))) (sym same)
            ∙ ap (λ k. residue (pos (get_or old t 0) -ℤ pos (2 ^ shift) *ℤ window_sum n a c (rows * k))) place
      ];
}

-- no sums
pub taken_none : (n rows shift : ℕ) (a c : ℕ → ℤ) (old : List ℕ) → length old ≤ 0 → TakesWindows n rows shift a c old old
taken_none n rows shift a c old p = record { each = λ t q. absurd (omega (arith, p, q)) }

-- the totals of a group are sums over windows
window_at : (n rows len m k t : ℕ) (a : ℕ → ℤ) (ys : List ℤ) → t < 4 → 4 ≤ len → k ≡ 3 - t → k * rows + n ≤ m →
    window_sum n a (of_numbers (take m (drop (rows * (len - 4)) ys))) (k * rows) ≡ window_sum n a (of_numbers ys) (rows * (len - suc t))
window_at n rows len m k t a ys p l e room =
    let whole : len - suc t ≡ k + (len - 4) = omega (arith, e) in
    window_in n (rows * (len - suc t)) (rows * (len - 4)) m (k * rows) a ys room (ap (λ x. rows * x) whole ∙ omega arith)

pub total_exact : (n rows shift len m t : ℕ) (a : ℕ → ℤ) (ys totals : List ℤ) → t < 4 → 4 ≤ len → n + 3 * rows ≤ m →
    ((k : ℕ) → k < 4 → get_or totals k (pos 0) ≡ window_sum n a (of_numbers (take m (drop (rows * (len - 4)) ys))) (k * rows)) →
    residue (pos (2 ^ shift) *ℤ get_or totals (3 - t) (pos 0)) ≡ residue (pos (2 ^ shift) *ℤ window_sum n a (of_numbers ys) (rows * (len - suc t)))
total_exact n rows shift len m t a ys totals p l room are =
    ap (λ z. residue (pos (2 ^ shift) *ℤ z))
    (are (3 - t) (omega arith) ∙ window_at n rows len m (3 - t) t a ys p l refl (omega (arith, room, times_most (3 - t) (omega arith))))
  where
    times_most : (k : ℕ) → k ≤ 3 → k * rows ≤ 3 * rows
    times_most k q = omega (arith, mul-le k rows 3 rows q (omega arith))

-- 2 ^ shift times a multiple of a power of two is one of 2 ^ 69
raised : (shift bits : ℕ) (scale : ℤ) → scale ≡ pos (2 ^ bits) → bits ≤ 69 → 69 ≤ shift + bits → (k : ℤ) × (pos (2 ^ shift) *ℤ scale ≡ pos (2 ^ 69) *ℤ k)
raised shift bits scale is l p =
    let e : shift + bits ≡ 69 + (shift + bits - 69) = omega arith in
    let f : 2 ^ shift * 2 ^ bits ≡ 2 ^ 69 * 2 ^ (shift + bits - 69) =
    sym (pow-add 2 shift bits) ∙ ap (λ k. 2 ^ k) e ∙ pow-add 2 69 (shift + bits - 69) in
    (pos (2 ^ (shift + bits - 69)), ap (λ z. pos (2 ^ shift) *ℤ z) is ∙ times (2 ^ shift) (2 ^ bits) ∙ ap pos f ∙ sym (times (2 ^ 69) (2 ^ (shift + bits - 69))))
  where
    times : (a b : ℕ) → pos a *ℤ pos b ≡ pos (a * b)
    times a b = refl

-- a number that is known modulo such a power
pub scaled_same : (shift bits : ℕ) (a b scale k : ℤ) → scale ≡ pos (2 ^ bits) → bits ≤ 69 → 69 ≤ shift + bits → a ≡ b +ℤ scale *ℤ k →
    residue (pos (2 ^ shift) *ℤ a) ≡ residue (pos (2 ^ shift) *ℤ b)
scaled_same shift bits a b scale k is l p e =
    let r = raised shift bits scale is l p in
    residue_same (pos (2 ^ shift) *ℤ a) (pos (2 ^ shift) *ℤ b) (r.0 *ℤ k)
    (ap (λ z. pos (2 ^ shift) *ℤ z) e ∙ mul_add (pos (2 ^ shift)) b (scale *ℤ k)
    ∙ ap (λ z. pos (2 ^ shift) *ℤ b +ℤ z)
    (sym (mul_assoc_ℤ (pos (2 ^ shift)) scale k) ∙ ap (λ z. z *ℤ k) r.1 ∙ mul_assoc_ℤ (pos (2 ^ 69)) r.0 k))

pub total_wrapped : (n rows shift len m t : ℕ) (a : ℕ → ℤ) (ys totals : List ℤ) → t < 4 → 4 ≤ len → n + 3 * rows ≤ m → 37 ≤ shift →
    ((k : ℕ) → k < 4 → int_wrap w32 (get_or totals k (pos 0)) ≡ int_wrap w32 (window_sum n a (of_numbers (take m (drop (rows * (len - 4)) ys))) (k * rows))) →
    residue (pos (2 ^ shift) *ℤ get_or totals (3 - t) (pos 0)) ≡ residue (pos (2 ^ shift) *ℤ window_sum n a (of_numbers ys) (rows * (len - suc t)))
total_wrapped n rows shift len m t a ys totals p l room high are =
    let g = wrapped_gap w32 (get_or totals (3 - t) (pos 0)) (window_sum n a (of_numbers (take m (drop (rows * (len - 4)) ys))) ((3 - t) * rows)) (are (3 - t) (omega arith)) in
    scaled_same shift 32 (get_or totals (3 - t) (pos 0)) (window_sum n a (of_numbers (take m (drop (rows * (len - 4)) ys))) ((3 - t) * rows)) (pos (2 ^ 32)) g.0
    refl (omega arith) (omega arith) g.1
    ∙ ap (λ z. residue (pos (2 ^ shift) *ℤ z))
    (window_at n rows len m (3 - t) t a ys p l refl (omega (arith, room, mul-le (3 - t) rows 3 rows (omega arith) (omega arith))))

pub part_small : (start m k : ℕ) (xs : List ℤ) → ((i : ℕ) → unsigned_abs (of_numbers xs i) ≤ k) → (i : ℕ) → unsigned_abs (of_numbers (take m (drop start xs)) i) ≤ k
part_small start m k xs small i = elim (cases_lt i m) as (λ _. unsigned_abs (of_numbers (take m (drop start xs)) i) ≤ k) [
  | inl r ↦ omega (arith, ap unsigned_abs (part_read_at start m i xs (pos 0) r), small (start + i))
  | inr r ↦ omega (arith, ap unsigned_abs (get_or_past (take m (drop start xs)) i (pos 0) (omega (arith, length-take m (drop start xs), r))))
]

-- ---- a window is a product at the end of a row
adds_product : (n rows shift : ℕ) (m : ℤ) (bits : ℕ) (a b c : ℕ → ℤ) (over : ℕ → ℕ → ℤ) (old new : List ℕ) → 0 < rows → rows * length old ≡ n →
    m ≡ pos (2 ^ bits) → bits ≤ 69 → 69 ≤ shift + bits →
    ((t i : ℕ) → t ≤ n → i < n → c (n - t + i) ≡ turned n b t i +ℤ m *ℤ over t i) → TakesWindows n rows shift a c old new →
    AddsProduct n rows shift a b old new
adds_product n rows shift m bits a b c over old new some size is few enough holds takes = record {
  each = λ t p.
      let i : ℕ = row_end rows t in
      let place : i < n = omega (arith, mul-add-lt t rows (rows - 1) (length old) p (omega arith), size) in
      let start : rows * (length old - suc t) ≡ n - suc i = at_start t p in
      let w : window_sum n a c (rows * (length old - suc t)) ≡ neg_ℤ (product n a (reversed n b) i) +ℤ m *ℤ sum_to n (λ k. a k *ℤ over (suc i) k) =
      ap (window_sum n a c) start ∙ window_is_product n m a b c (over (suc i)) i place (λ k q. holds (suc i) k (omega arith) q) in
      takes.each t p
      ∙ residue-sub (pos (get_or old t 0)) (pos (get_or old t 0)) _ _ refl
      (scaled_same shift bits (window_sum n a c (rows * (length old - suc t))) (neg_ℤ (product n a (reversed n b) i)) m (sum_to n (λ k. a k *ℤ over (suc i) k)) is few enough w)
      ∙ ap residue (turned_sign (pos (get_or old t 0)) (pos (2 ^ shift)) (product n a (reversed n b) i));
}
  where
    turned_sign : (x c p : ℤ) → x -ℤ c *ℤ neg_ℤ p ≡ x +ℤ c *ℤ p
    turned_sign x c p = omega (arith, ints, mul_neg c p)

    at_start : (t : ℕ) → t < length old → rows * (length old - suc t) ≡ n - suc (t * rows + (rows - 1))
    at_start t p =
        let e : length old ≡ (length old - suc t) + suc t = omega arith in
        let f : n ≡ rows * (length old - suc t) + (t * rows + rows) = sym size ∙ ap (λ k. rows * k) e ∙ omega arith in
        omega (arith, f)

-- where all numbers and their opposites are numbers of 16 bits, the list holds the turns themselves; else modulo 2 ^ 16
fits_below : (z : ℤ) → unsigned_abs z < 2 ^ 15 → FitsSigned w16 z
fits_below (pos m) l = record { sfits = omega (arith, l) }
fits_below (negsuc m) l = record { sfits = omega (arith, l) }

pub adds_wide : (n rows shift : ℕ) (a b : ℕ → ℤ) (xs : List ℤ) (old new : List ℕ) → 0 < rows → rows * length old ≡ n → HoldsTurns n b xs →
    ((i : ℕ) → unsigned_abs (b i) < 2 ^ 15) → TakesWindows n rows shift a (of_numbers xs) old new → AddsProduct n rows shift a b old new
adds_wide n rows shift a b xs old new some size holds small takes =
    adds_product n rows shift (pos (2 ^ 69)) 69 a b (of_numbers xs) (λ t i. pos 0) old new some size refl (omega arith) (omega arith)
    (λ t i p q. holds.each t i p q ∙ int_wrap_fits w16 (turned n b t i) (fits_below (turned n b t i)
    (omega (arith, size_turned n (2 ^ 15 - 1) b t i (λ j _. omega (arith, small j)) p q))) ∙ nothing (turned n b t i)) takes
  where
    nothing : (z : ℤ) → z ≡ z +ℤ pos (2 ^ 69) *ℤ pos 0
    nothing z = omega (arith, ints)

pub adds_high : (n rows shift : ℕ) (a b : ℕ → ℤ) (xs : List ℤ) (old new : List ℕ) → 0 < rows → rows * length old ≡ n → HoldsTurns n b xs →
    53 ≤ shift → TakesWindows n rows shift a (of_numbers xs) old new → AddsProduct n rows shift a b old new
adds_high n rows shift a b xs old new some size holds high takes =
    adds_product n rows shift (pos (2 ^ 16)) 16 a b (of_numbers xs) (λ t i. (past (turned n b t i)).0) old new some size refl (omega arith) (omega arith)
    (λ t i p q. holds.each t i p q ∙ (past (turned n b t i)).1) takes
  where
    past : (z : ℤ) → (k : ℤ) × (int_wrap w16 z ≡ z +ℤ pos (2 ^ 16) *ℤ k)
    past z = wrapped_gap w16 (int_wrap w16 z) z (int_wrap_fits w16 (int_wrap w16 z) (SFits-int_wrap w16 z))

-- the turns of small numbers are small
pub turns_small : (n : ℕ) (b xs : List ℤ) → length xs ≡ 2 * n → HoldsTurns n (of_numbers b) xs → ((i : ℕ) → unsigned_abs (of_numbers b i) ≤ 2 ^ 9) →
    (i : ℕ) → unsigned_abs (of_numbers xs i) ≤ 2 ^ 9
turns_small n b xs size holds small i =
    by_half i n
    (λ l. let place : n - n + i ≡ i = omega arith in
    omega (arith, ap (λ k. unsigned_abs (of_numbers xs k)) place, at n i (omega arith) l))
    (λ l. by_half i (2 * n)
    (λ q. let place : n - 0 + (i - n) ≡ i = omega arith in
    omega (arith, ap (λ k. unsigned_abs (of_numbers xs k)) place, at 0 (i - n) (omega arith) (omega arith)))
    (λ q. omega (arith, ap unsigned_abs (get_or_past xs i (pos 0) (omega (arith, size, q))))))
  where
    at : (t i : ℕ) → t ≤ n → i < n → unsigned_abs (of_numbers xs (n - t + i)) ≤ 2 ^ 9
    at t i p q =
        let s : unsigned_abs (turned n (of_numbers b) t i) ≤ 2 ^ 9 = size_turned n (2 ^ 9) (of_numbers b) t i (λ j _. small j) p q in
        let e = holds.each t i p q ∙ int_wrap_fits w16 (turned n (of_numbers b) t i) (fits_below (turned n (of_numbers b) t i) (omega (arith, s))) in
        omega (arith, ap unsigned_abs e, s)

-- ---- all six limbs
limb_size : (l : ℕ) (v : ℕ) → l < 4 → unsigned_abs (limb_at l v) ≤ 2 ^ 9
unfolding limb_at above
limb_size zero v p = let w = limb_within v in omega (arith, ints, w.low, w.high)
limb_size (suc zero) v p = let w = limb_within (without 10 v) in omega (arith, ints, w.low, w.high)
limb_size (suc (suc zero)) v p = let w = limb_within (without 10 (without 10 v)) in omega (arith, ints, w.low, w.high)
limb_size (suc (suc (suc zero))) v p = let w = within_8 (without 10 (without 10 (without 10 v))) in omega (arith, ints, w.low, w.high)
limb_size (suc (suc (suc (suc l)))) v p = absurd (omega arith)

fifth_size : (v : ℕ) → unsigned_abs (limb_at 4 v) < 2 ^ 15
unfolding limb_at above
fifth_size v = let w = within_15 (without 8 (without 10 (without 10 (without 10 v)))) in omega (arith, ints, w.low, w.high)

pub limb_read : (n l start k i : ℕ) (v : ℕ → ℕ) (xs : List ℤ) → AreLimbs n v xs → l < 6 → start ≡ l * n → k ≡ n → i < n →
    of_numbers (take k (drop start xs)) i ≡ limb_at l (v (n - suc i))
limb_read n l start k i v xs are p e same q =
    part_read_at start k i xs (pos 0) (omega arith) ∙ ap (λ x. of_numbers xs (x + i)) e ∙ are.each l i p q

limb_part : (m n l start k : ℕ) (v : ℕ → ℕ) (xs : List ℤ) → AreLimbs n v xs → l < 6 → start ≡ l * n → k ≡ n →
    ((v : ℕ) → unsigned_abs (limb_at l v) ≤ m) → (i : ℕ) → unsigned_abs (of_numbers (take k (drop start xs)) i) ≤ m
limb_part m n l start k v xs are p e same small i = elim (cases_lt i n) as (λ _. unsigned_abs (of_numbers (take k (drop start xs)) i) ≤ m) [
  | inl r ↦ omega (arith, ap unsigned_abs (limb_read n l start k i v xs are p e same r), small (v (n - suc i)))
  | inr r ↦ omega (arith, ap unsigned_abs (get_or_past (take k (drop start xs)) i (pos 0) (omega (arith, length-take k (drop start xs), r, same))))
]

pub limb_small : (n l start k : ℕ) (v : ℕ → ℕ) (xs : List ℤ) → AreLimbs n v xs → l < 4 → start ≡ l * n → k ≡ n →
    (i : ℕ) → unsigned_abs (of_numbers (take k (drop start xs)) i) ≤ 2 ^ 9
limb_small n l start k v xs are p e same i = limb_part (2 ^ 9) n l start k v xs are (omega arith) e same (λ v. limb_size l v p) i

pub limb_wide : (n start k : ℕ) (v : ℕ → ℕ) (xs : List ℤ) → AreLimbs n v xs → start ≡ 4 * n → k ≡ n →
    (i : ℕ) → unsigned_abs (of_numbers (take k (drop start xs)) i) < 2 ^ 15
limb_wide n start k v xs are e same i =
    omega (arith, limb_part (2 ^ 15 - 1) n 4 start k v xs are (omega arith) e same (λ v. omega (arith, fifth_size v)) i)

-- the product by a limb
limb_term : (n rows shift l start k : ℕ) (a : ℕ → ℤ) (v : ℕ → ℕ) (xs : List ℤ) (old new : List ℕ) (t : ℕ) → AreLimbs n v xs → l < 6 → start ≡ l * n → k ≡ n →
    AddsProduct n rows shift a (of_numbers (take k (drop start xs))) old new → t < length old → row_end rows t < n →
    residue (pos (get_or new t 0)) ≡ residue (pos (get_or old t 0) +ℤ pos (2 ^ shift) *ℤ product n a (λ u. limb_at l (v u)) (row_end rows t))
limb_term n rows shift l start k a v xs old new t are p e same adds q inside =
    adds.each t q
    ∙ ap (λ z. residue (pos (get_or old t 0) +ℤ pos (2 ^ shift) *ℤ z))
    (product_same n a a (reversed n (of_numbers (take k (drop start xs)))) (λ u. limb_at l (v u)) (row_end rows t) (λ _ _. refl)
    (λ u o. limb_read n l start k (n - suc u) v xs are p e same (omega arith)
    ∙ ap (λ x. limb_at l (v x)) (omega arith)) inside)

linear : (n : ℕ) (c : ℤ) (a x y : ℕ → ℤ) (i : ℕ) → product n a (λ t. x t +ℤ c *ℤ y t) i ≡ product n a x i +ℤ c *ℤ product n a y i
linear n c a x y i = product-add_right n a x (λ t. c *ℤ y t) i ∙ ap (λ z. product n a x i +ℤ z) (product-mul_right n c a y i)

limbs_joined : (v : ℕ) →
    limb_at 0 v +ℤ pos (2 ^ 10) *ℤ (limb_at 1 v +ℤ pos (2 ^ 10) *ℤ (limb_at 2 v +ℤ pos (2 ^ 10) *ℤ (limb_at 3 v +ℤ pos (2 ^ 8) *ℤ (limb_at 4 v +ℤ pos (2 ^ 15) *ℤ limb_at 5 v))))
    ≡ pos v +ℤ pos (2 ^ 69) *ℤ neg_ℤ (pos (without 16 (without 15 (without 8 (above v)))))
unfolding limb_at low_part high_part
limbs_joined v = omega (arith, ints, limbs_whole v)

pub six_products : (n : ℕ) (a : ℕ → ℤ) (v : ℕ → ℕ) (i : ℕ) (s0 s1 s2 s3 s4 s5 s6 : ℤ) → i < n →
    residue s1 ≡ residue (s0 +ℤ pos (2 ^ 0) *ℤ product n a (λ u. limb_at 0 (v u)) i) →
    residue s2 ≡ residue (s1 +ℤ pos (2 ^ 10) *ℤ product n a (λ u. limb_at 1 (v u)) i) →
    residue s3 ≡ residue (s2 +ℤ pos (2 ^ 20) *ℤ product n a (λ u. limb_at 2 (v u)) i) →
    residue s4 ≡ residue (s3 +ℤ pos (2 ^ 30) *ℤ product n a (λ u. limb_at 3 (v u)) i) →
    residue s5 ≡ residue (s4 +ℤ pos (2 ^ 38) *ℤ product n a (λ u. limb_at 4 (v u)) i) →
    residue s6 ≡ residue (s5 +ℤ pos (2 ^ 53) *ℤ product n a (λ u. limb_at 5 (v u)) i) →
    residue s6 ≡ residue (s0 +ℤ product n a (λ u. pos (v u)) i)
six_products n a v i s0 s1 s2 s3 s4 s5 s6 q e1 e2 e3 e4 e5 e6 =
    let f : ℕ → ℕ → ℤ = λ l u. limb_at l (v u) in
    let o : ℕ → ℤ = λ u. neg_ℤ (pos (without 16 (without 15 (without 8 (above (v u)))))) in
    let p : ℕ → ℤ = λ l. product n a (f l) i in
    let whole : product n a (λ u. pos (v u)) i +ℤ pos (2 ^ 69) *ℤ product n a o i
    ≡ p 0 +ℤ pos (2 ^ 10) *ℤ (p 1 +ℤ pos (2 ^ 10) *ℤ (p 2 +ℤ pos (2 ^ 10) *ℤ (p 3 +ℤ pos (2 ^ 8) *ℤ (p 4 +ℤ pos (2 ^ 15) *ℤ p 5)))) =
    sym (linear n (pos (2 ^ 69)) a (λ u. pos (v u)) o i)
    ∙ sym (product_same n a a
    (λ u. f 0 u +ℤ pos (2 ^ 10) *ℤ (f 1 u +ℤ pos (2 ^ 10) *ℤ (f 2 u +ℤ pos (2 ^ 10) *ℤ (f 3 u +ℤ pos (2 ^ 8) *ℤ (f 4 u +ℤ pos (2 ^ 15) *ℤ f 5 u)))))
    (λ u. pos (v u) +ℤ pos (2 ^ 69) *ℤ o u) i (λ _ _. refl) (λ u _. limbs_joined (v u)) q)
    ∙ linear n (pos (2 ^ 10)) a (f 0) (λ u. f 1 u +ℤ pos (2 ^ 10) *ℤ (f 2 u +ℤ pos (2 ^ 10) *ℤ (f 3 u +ℤ pos (2 ^ 8) *ℤ (f 4 u +ℤ pos (2 ^ 15) *ℤ f 5 u)))) i
    ∙ ap (λ z. p 0 +ℤ pos (2 ^ 10) *ℤ z)
    (linear n (pos (2 ^ 10)) a (f 1) (λ u. f 2 u +ℤ pos (2 ^ 10) *ℤ (f 3 u +ℤ pos (2 ^ 8) *ℤ (f 4 u +ℤ pos (2 ^ 15) *ℤ f 5 u))) i
    ∙ ap (λ z. p 1 +ℤ pos (2 ^ 10) *ℤ z)
    (linear n (pos (2 ^ 10)) a (f 2) (λ u. f 3 u +ℤ pos (2 ^ 8) *ℤ (f 4 u +ℤ pos (2 ^ 15) *ℤ f 5 u)) i
    ∙ ap (λ z. p 2 +ℤ pos (2 ^ 10) *ℤ z)
    (linear n (pos (2 ^ 8)) a (f 3) (λ u. f 4 u +ℤ pos (2 ^ 15) *ℤ f 5 u) i
    ∙ ap (λ z. p 3 +ℤ pos (2 ^ 8) *ℤ z) (linear n (pos (2 ^ 15)) a (f 4) (f 5) i)))) in
    chain s0 s1 s2 s3 s4 s5 s6 (p 0) (p 1) (p 2) (p 3) (p 4) (p 5) (product n a (λ u. pos (v u)) i) (product n a o i) e1 e2 e3 e4 e5 e6 whole
  where
    more : (s s' x : ℤ) → residue s ≡ residue s' → residue (s +ℤ x) ≡ residue (s' +ℤ x)
    more s s' x e = residue-add s s' x x e refl

    chain : (s0 s1 s2 s3 s4 s5 s6 p0 p1 p2 p3 p4 p5 p o : ℤ) → residue s1 ≡ residue (s0 +ℤ pos (2 ^ 0) *ℤ p0) →
        residue s2 ≡ residue (s1 +ℤ pos (2 ^ 10) *ℤ p1) → residue s3 ≡ residue (s2 +ℤ pos (2 ^ 20) *ℤ p2) →
        residue s4 ≡ residue (s3 +ℤ pos (2 ^ 30) *ℤ p3) → residue s5 ≡ residue (s4 +ℤ pos (2 ^ 38) *ℤ p4) →
        residue s6 ≡ residue (s5 +ℤ pos (2 ^ 53) *ℤ p5) →
        p +ℤ pos (2 ^ 69) *ℤ o ≡ p0 +ℤ pos (2 ^ 10) *ℤ (p1 +ℤ pos (2 ^ 10) *ℤ (p2 +ℤ pos (2 ^ 10) *ℤ (p3 +ℤ pos (2 ^ 8) *ℤ (p4 +ℤ pos (2 ^ 15) *ℤ p5)))) →
        residue s6 ≡ residue (s0 +ℤ p)
    chain s0 s1 s2 s3 s4 s5 s6 p0 p1 p2 p3 p4 p5 p o e1 e2 e3 e4 e5 e6 w =
        let c2 = e2 ∙ more s1 (s0 +ℤ pos (2 ^ 0) *ℤ p0) (pos (2 ^ 10) *ℤ p1) e1 in
        let c3 = e3 ∙ more s2 _ (pos (2 ^ 20) *ℤ p2) c2 in
        let c4 = e4 ∙ more s3 _ (pos (2 ^ 30) *ℤ p3) c3 in
        let c5 = e5 ∙ more s4 _ (pos (2 ^ 38) *ℤ p4) c4 in
        e6 ∙ more s5 _ (pos (2 ^ 53) *ℤ p5) c5 ∙ residue_same _ (s0 +ℤ p) o (omega (arith, ints, w))

pub adds_point : (n rows : ℕ) (a : ℕ → ℤ) (v : ℕ → ℕ) (xs : List ℤ) (k0 k1 k2 k3 k4 k5 : ℕ) (s0 s1 s2 s3 s4 s5 s6 : List ℕ) → AreLimbs n v xs →
    0 < rows → rows * length s0 ≡ n →
    length s1 ≡ length s0 → length s2 ≡ length s0 → length s3 ≡ length s0 → length s4 ≡ length s0 → length s5 ≡ length s0 →
    k0 ≡ n → k1 ≡ n → k2 ≡ n → k3 ≡ n → k4 ≡ n → k5 ≡ n →
    AddsProduct n rows 0 a (of_numbers (take k0 (drop 0 xs))) s0 s1 → AddsProduct n rows 10 a (of_numbers (take k1 (drop n xs))) s1 s2 →
    AddsProduct n rows 20 a (of_numbers (take k2 (drop (2 * n) xs))) s2 s3 → AddsProduct n rows 30 a (of_numbers (take k3 (drop (3 * n) xs))) s3 s4 →
    AddsProduct n rows 38 a (of_numbers (take k4 (drop (4 * n) xs))) s4 s5 → AddsProduct n rows 53 a (of_numbers (take k5 (drop (5 * n) xs))) s5 s6 →
    AddsPoint n rows a v s0 s6
adds_point n rows a v xs k0 k1 k2 k3 k4 k5 s0 s1 s2 s3 s4 s5 s6 are some size l1 l2 l3 l4 l5 q0 q1 q2 q3 q4 q5 f0 f1 f2 f3 f4 f5 = record {
  each = λ t p.
      let inside : row_end rows t < n = omega (arith, mul-add-lt t rows (rows - 1) (length s0) p (omega arith), size) in
      six_products n a v (row_end rows t) (pos (get_or s0 t 0)) (pos (get_or s1 t 0)) (pos (get_or s2 t 0)) (pos (get_or s3 t 0))
      (pos (get_or s4 t 0)) (pos (get_or s5 t 0)) (pos (get_or s6 t 0)) inside
      (limb_term n rows 0 0 0 k0 a v xs s0 s1 t are (omega arith) (omega arith) q0 f0 p inside)
      (limb_term n rows 10 1 n k1 a v xs s1 s2 t are (omega arith) (omega arith) q1 f1 (omega (arith, l1)) inside)
      (limb_term n rows 20 2 (2 * n) k2 a v xs s2 s3 t are (omega arith) (omega arith) q2 f2 (omega (arith, l2)) inside)
      (limb_term n rows 30 3 (3 * n) k3 a v xs s3 s4 t are (omega arith) (omega arith) q3 f3 (omega (arith, l3)) inside)
      (limb_term n rows 38 4 (4 * n) k4 a v xs s4 s5 t are (omega arith) (omega arith) q4 f4 (omega (arith, l4)) inside)
      (limb_term n rows 53 5 (5 * n) k5 a v xs s5 s6 t are (omega arith) (omega arith) q5 f5 (omega (arith, l5)) inside);
}

-- ---- one sum less 2 ^ shift times a total
pub taken_once : (sum cast shift : ℕ) (total : ℤ) → FitsSigned w64 total → cast ≡ of_z w128 (to_z w128 (of_z w128 (to_z w64 (of_z w64 total)))) →
    residue (pos ((sum + (2 ^ 128 - cast * 2 ^ shift % 2 ^ 128)) % 2 ^ 128)) ≡ residue (pos sum -ℤ pos (2 ^ shift) *ℤ total)
taken_once sum cast shift total f e =
    let wide : FitsSigned w128 total = record { sfits = omega (arith, f.sfits) } in
    let plain : cast ≡ of_z w128 total =
    e ∙ ap (λ x. of_z w128 (to_z w128 (of_z w128 x))) (to_z-of_z w64 total f) ∙ ap (of_z w128) (to_z-of_z w128 total wide) in
    let cast_is : residue (pos cast) ≡ residue total = ap (λ x. residue (pos x)) plain ∙ residue_cast total wide in
    residue-wrapping_sub sum (cast * 2 ^ shift % 2 ^ 128) (omega arith)
    ∙ residue-sub (pos sum) (pos sum) (pos (cast * 2 ^ shift % 2 ^ 128)) (pos (2 ^ shift) *ℤ total) refl
    (residue-wrapping (cast * 2 ^ shift) (pos (2 ^ shift) *ℤ total)
    (ap (λ x. residue (pos x)) turned_round ∙ residue-mul (pos (2 ^ shift)) (pos cast) total cast_is))
  where
    turned_round : cast * 2 ^ shift ≡ 2 ^ shift * cast
    turned_round = omega arith

pub fewer : (rows len rest n : ℕ) → rest + 4 ≡ len → rows * len ≤ n → rows * rest ≤ n
fewer rows len rest n e p = let all : rows * len ≡ rows * rest + rows * 4 = ap (λ k. rows * k) (sym e) ∙ omega arith in omega (arith, all, p)

pub turns_fit : (n : ℕ) (b : ℕ → ℤ) (xs : List ℤ) → length xs ≡ 2 * n → HoldsTurns n b xs → AllFit xs
unfolding int_wrap
turns_fit n b xs size holds = record {
  each = λ i.
      by_half i n
      (λ l. let place : n - n + i ≡ i = omega arith in
      fits_as (get_or xs i (pos 0)) (turned n b n i) (ap (λ k. get_or xs k (pos 0)) (sym place) ∙ holds.each n i (omega arith) l))
      (λ l. by_half i (2 * n)
      (λ q. let place : n - 0 + (i - n) ≡ i = omega arith in
      fits_as (get_or xs i (pos 0)) (turned n b 0 (i - n)) (ap (λ k. get_or xs k (pos 0)) (sym place) ∙ holds.each 0 (i - n) (omega arith) (omega arith)))
      (λ q. fits_as (get_or xs i (pos 0)) (pos 0) (get_or_past xs i (pos 0) (omega (arith, size, q)))));
}
