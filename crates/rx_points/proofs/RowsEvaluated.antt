-- Row beside row: the points of rows of digits and of key words, from those of all numbers.
use Rattle.std.proofs.Common.{◌≡◌, ℕ, suc, ℤ, pos, ◌+◌, ◌-◌, ◌*◌, ◌/◌, ◌%◌, ◌^◌, ◌<◌, ◌≤◌, refl, sym, ◌∙◌, ap, subst, arith, inl, inr, List, length, get_or, take, drop, ◌++◌, w16, FitsSigned}
use Rattle.std.proofs.lemmas.Bool.{cases_lt}
use Rattle.std.proofs.lemmas.Grind.{common_steps}
use Rattle.std.proofs.lemmas.Int.{ints}
use Rattle.std.proofs.lemmas.List.{get_or_past, get_or-append_right}
use Rattle.std.proofs.Math.ListN.{get_or-append}
use Rattle.std.proofs.lemmas.Nat.{mul-le, mul-add-lt, div-mul-add, mod-mul-add, div-add-mod', div_below, mod_below}
use Rattle.rx_ring.specs.Parts.{of_parts}
use Rattle.rx_ring.specs.Blocks.{Within, points, blocks}
use Rattle.rx_ring.specs.Limbs.{limb_at}
use Rattle.rx_ring.proofs.BlockSums.{points_same}
use Rattle.rx_ring.proofs.Parts.{part_read_at}
use borrow.Rule.Slice.PartMut.{put_mid}
use Rattle.rx_points.specs.Numbers.{AllFit, part}
use Rattle.rx_points.specs.Residues.{residue}
use Rattle.rx_points.specs.Rows.{AreLimbs, AreKeyLimbs, AreRowPoints, IsEvaluated, row_digit, key_word}
use Rattle.rx_points.proofs.KeyPoints.{limb_fits}
use Rattle.rx_points.proofs.Residues.{residue_same}
use Rattle.rx_points.proofs.Rows.{rows_points}

-- ---- digits
pub digit_is : (rows places j t w : ℕ) (xs : List ℤ) → j < 16 → row_digit rows places xs w (t * 16 + j) ≡ part (rows * places) xs j (t * rows + w)
digit_is rows places j t w xs p =
    ap (λ k. part (rows * places) xs k ((t * 16 + j) / 16 * rows + w)) (mod-mul-add t 16 j p)
    ∙ ap (λ k. part (rows * places) xs j (k * rows + w)) (div-mul-add t 16 j p)

pub digits_within : (rows places j i : ℕ) (xs : List ℤ) → 0 < rows → j < 16 → i < rows * places →
    ((w k : ℕ) → w < rows → k < 16 * places → Within (2 ^ 11) (row_digit rows places xs w k)) → Within (2 ^ 11) (part (rows * places) xs j i)
digits_within rows places j i xs some p q within =
    let t : ℕ = i / rows in
    let w : ℕ = i % rows in
    let place : t * rows + w ≡ i = div-add-mod' i rows in
    let below : t < places = div_below i rows places some (omega (arith, q)) in
    subst (Within (2 ^ 11)) (digit_is rows places j t w xs p ∙ ap (part (rows * places) xs j) place)
    (within w (t * 16 + j) (mod_below i rows some) (omega (arith, below, p)))

-- the points of all numbers are row by row those of the rows
row_at : (rows places s f g p w t : ℕ) (x : ℕ → ℕ → ℤ) (a : ℕ → ℤ) → s ≡ 2 ^ 4 * f → places ≡ 2 ^ 4 * g → p < 16 → w < rows → t < places →
    ((j u : ℕ) → j < 16 → u < places → x j (u * rows + w) ≡ a (u * 16 + j)) →
    points (rows * places) 4 (rows * s) x p (t * rows + w) ≡ points places 4 s (blocks 16 a) p t
unfolding blocks
row_at rows places s f g p w t x a e h l o q same =
    rows_points places rows 4 s f g x p w t e h l o q
    ∙ points_same places 4 s (λ j. blocks rows (x j) w) (blocks 16 a) p t (λ j u m v. same j u m v) l q

pub digit_rows : (rows places g : ℕ) (old new : List ℤ) → places ≡ 16 * g →
    ((p i : ℕ) → p < 16 → i < rows * places → part (rows * places) new p i ≡ points (rows * places) 4 0 (part (rows * places) old) p i) →
    ((p i : ℕ) → p < 16 → i < rows * places → part (rows * places) new (16 + p) i ≡ points (rows * places) 4 (rows * places) (part (rows * places) old) p i) →
    AreRowPoints rows places (row_digit rows places old) new
digit_rows rows places g old new e near away =
    let none : 0 ≡ rows * 0 = omega arith in
    record {
      near = λ w p t q l o.
          near p (t * rows + w) l (inside t w o q) ∙ ap (λ k. points (rows * places) 4 k (part (rows * places) old) p (t * rows + w)) none
          ∙ row_at rows places 0 0 g p w t (part (rows * places) old) (row_digit rows places old w) (omega arith) e l q o (λ j u m v. sym (digit_is rows places j u w old m));
      away = λ w p t q l o.
          away p (t * rows + w) l (inside t w o q)
          ∙ row_at rows places places g g p w t (part (rows * places) old) (row_digit rows places old w) e e l q o (λ j u m v. sym (digit_is rows places j u w old m));
    }
  where
    inside : (t w : ℕ) → t < places → w < rows → t * rows + w < rows * places
    inside t w o q = omega (arith, mul-add-lt t rows w places o q)

-- ---- key words
pub word_at : (rows stride j t v : ℕ) (xs : List ℕ) → v < rows → key_word rows stride xs j (t * rows + v) ≡ get_or xs ((rows - 1 - v) * stride + (t * 16 + j)) 0
word_at rows stride j t v xs p =
    ap (λ k. get_or xs ((rows - 1 - k) * stride + ((t * rows + v) / rows * 16 + j)) 0) (mod-mul-add t rows v p)
    ∙ ap (λ k. get_or xs ((rows - 1 - v) * stride + (k * 16 + j)) 0) (div-mul-add t rows v p)

-- the words of one place more
pub word_rows : (rows stride block places i : ℕ) (part words : List ℕ) → 0 < rows → i < rows * places →
    ((t v : ℕ) → t < places → v < rows → get_or part (t * rows + v) 0 ≡ get_or words ((rows - 1 - v) * stride + (t * 16 + block)) 0) →
    get_or part i 0 ≡ key_word rows stride words block i
word_rows rows stride block places i part words some q are =
    ap (λ k. get_or part k 0) (sym (div-add-mod' i rows)) ∙ are (i / rows) (i % rows) (div_below i rows places some (omega (arith, q))) (mod_below i rows some)

pub key_rows : (rows places stride g : ℕ) (words values points' : List ℕ) (limbs : List ℤ) → 0 < rows → places ≡ 16 * g →
    ((j i : ℕ) → j < 16 → i < rows * places → get_or values (j * (rows * places) + i) 0 ≡ key_word rows stride words j i) →
    ((p i : ℕ) → p < 16 → i < rows * places → residue (of_parts (rows * places) points' p i) ≡ residue (points (rows * places) 4 0 (of_parts (rows * places) values) p i)) →
    ((p i : ℕ) → p < 16 → i < rows * places →
    residue (of_parts (rows * places) points' (16 + p) i) ≡ residue (points (rows * places) 4 (rows * places) (of_parts (rows * places) values) p i)) →
    AreKeyLimbs (rows * places) (λ p u. get_or points' (p * (rows * places) + u) 0 % 2 ^ 69) limbs →
    IsEvaluated rows places (λ w i. pos (get_or words (w * stride + i) 0)) limbs
key_rows rows places stride g words values points' limbs some e are near away key =
    let n : ℕ = rows * places in
    let none : 0 ≡ rows * 0 = omega arith in
    let same : (w j u : ℕ) → w < rows → j < 16 → u < places →
    of_parts (rows * places) values j (u * rows + (rows - 1 - w)) ≡ pos (get_or words (w * stride + (u * 16 + j)) 0) =
    λ w j u q l o.
    let back : rows - 1 - (rows - 1 - w) ≡ w = omega arith in
    ap pos (are j (u * rows + (rows - 1 - w)) l (inside u (rows - 1 - w) o (omega arith)) ∙ word_at rows stride j u (rows - 1 - w) words (omega arith)
    ∙ ap (λ k. get_or words (k * stride + (u * 16 + j)) 0) back) in
    record {
      value = λ p u. get_or points' (p * (rows * places) + u) 0 % 2 ^ 69;
      limbs = key;
      near = λ w p t q l o.
          let v : ℕ = rows - 1 - w in
          reduced (get_or points' (p * (rows * places) + (t * rows + (rows - 1 - w))) 0)
          ∙ near p (t * rows + (rows - 1 - w)) l (inside t (rows - 1 - w) o (omega arith))
          ∙ ap residue (ap (λ k. points (rows * places) 4 k (of_parts (rows * places) values) p (t * rows + (rows - 1 - w))) none
          ∙ row_at rows places 0 0 g p (rows - 1 - w) t (of_parts (rows * places) values) (λ i. pos (get_or words (w * stride + i) 0)) (omega arith) e l (omega arith) o
          (λ j u m o'. same w j u q m o'));
      away = λ w p t q l o.
          reduced (get_or points' ((16 + p) * (rows * places) + (t * rows + (rows - 1 - w))) 0)
          ∙ away p (t * rows + (rows - 1 - w)) l (inside t (rows - 1 - w) o (omega arith))
          ∙ ap residue (row_at rows places places g g p (rows - 1 - w) t (of_parts (rows * places) values) (λ i. pos (get_or words (w * stride + i) 0)) e e l (omega arith) o
          (λ j u m o'. same w j u q m o'));
    }
  where
    inside : (t w : ℕ) → t < places → w < rows → t * rows + w < rows * places
    inside t w o q = omega (arith, mul-add-lt t rows w places o q)

    reduced : (x : ℕ) → residue (pos (x % 2 ^ 69)) ≡ residue (pos x)
    reduced x = sym (residue_same (pos x) (pos (x % 2 ^ 69)) (pos (x / 2 ^ 69)) (omega (arith, ints)))

-- ---- all limbs are numbers of 16 bits
pub key_fits : (n : ℕ) (v : ℕ → ℕ → ℕ) (xs : List ℤ) → length xs ≡ 192 * n → AreKeyLimbs n v xs → AllFit xs
key_fits n v xs size are = record {
  each = λ i. elim (cases_lt i (192 * n)) as (λ _. FitsSigned w16 (get_or xs i (pos 0))) [
    | inl r ↦
        let some : 0 < n = omega (arith, r) in
        let q : ℕ = i / (6 * n) in
        let rest : ℕ = i % (6 * n) in
        let l : ℕ = rest / n in
        let u : ℕ = rest % n in
        let whole : q * (6 * n) + (l * n + u) ≡ i = omega (arith, div-add-mod' i (6 * n), div-add-mod' (i % (6 * n)) n) in
        subst (FitsSigned w16) (sym (ap (λ k. get_or xs k (pos 0)) (sym whole)
        ∙ are.each q l u (div_below i (6 * n) 32 (omega arith) (omega (arith, r))) (div_below rest n 6 some (mod_below i (6 * n) (omega arith))) (mod_below rest n some)))
        (limb_fits l (v q (n - suc u)) (div_below rest n 6 some (mod_below i (6 * n) (omega arith))))
    | inr r ↦ subst (FitsSigned w16) (sym (get_or_past xs i (pos 0) (omega (arith, r, size)))) (record { sfits = omega arith })
  ];
}

-- ---- one point more
pub limbs_of_more : (n point k d : ℕ) (points : List ℕ) (sums new : List ℤ) → point < 32 → length sums ≡ 192 * n → length new ≡ 6 * n → d ≡ n →
    ((p l u : ℕ) → p < point → l < 6 → u < n → get_or sums (p * (6 * n) + (l * n + u)) (pos 0) ≡ limb_at l (get_or points (p * n + (n - suc u)) 0 % 2 ^ 69)) →
    length (take d (drop (point * n) points)) ≡ n →
    AreLimbs (length (take d (drop (point * n) points))) (λ u. get_or (take d (drop (point * n) points)) u 0 % 2 ^ 69) new →
    (p l u : ℕ) → p < point + 1 → l < 6 → u < n →
    get_or (put_mid (point * (6 * n)) k sums new) (p * (6 * n) + (l * n + u)) (pos 0) ≡ limb_at l (get_or points (p * n + (n - suc u)) 0 % 2 ^ 69)
limbs_of_more n point k d points sums new q size new_size is_d before part_size are p l u r o m =
    let inside : point * (6 * n) ≤ length sums = omega (arith, size, mul-le point n 32 n (omega arith) (omega arith)) in
    elim (cases_lt p point) as (λ _. get_or (put_mid (point * (6 * n)) k sums new) (p * (6 * n) + (l * n + u)) (pos 0) ≡ limb_at l (get_or points (p * n + (n - suc u)) 0 % 2 ^ 69)) [
      | inl h ↦
          number_before (point * (6 * n)) k (p * (6 * n) + (l * n + u)) sums new
          (omega (arith, mul-add-lt p (6 * n) (l * n + u) point h (omega (arith, mul-add-lt l n u 6 o m)))) inside ∙ before p l u h o m
      | inr h ↦
          let same : point ≡ p = omega arith in
          let are_n : AreLimbs n (λ u. get_or (take d (drop (point * n) points)) u 0 % 2 ^ 69) new =
          subst (λ z. AreLimbs z (λ u. get_or (take d (drop (point * n) points)) u 0 % 2 ^ 69) new) part_size are in
          ap (λ z. get_or (put_mid (point * (6 * n)) k sums new) (z * (6 * n) + (l * n + u)) (pos 0)) (sym same)
          ∙ number_in (point * (6 * n)) k (l * n + u) sums new (omega (arith, new_size, mul-add-lt l n u 6 o m)) inside
          ∙ are_n.each l u o m
          ∙ ap (λ x. limb_at l (x % 2 ^ 69)) (part_read_at (point * n) d (n - suc u) points 0 (omega (arith, is_d)))
          ∙ ap (λ z. limb_at l (get_or points (z * n + (n - suc u)) 0 % 2 ^ 69)) same
    ]
  where
    number_before : (a k i : ℕ) (xs ys : List ℤ) → i < a → a ≤ length xs → get_or (put_mid a k xs ys) i (pos 0) ≡ get_or xs i (pos 0)
    number_before a k i xs ys p q = grind (arith, common_steps)

    number_in : (a k i : ℕ) (xs ys : List ℤ) → i < length ys → a ≤ length xs → get_or (put_mid a k xs ys) (a + i) (pos 0) ≡ get_or ys i (pos 0)
    number_in a k i xs ys p q = grind (arith, common_steps)

pub both_fit : (xs ys : List ℤ) → AllFit xs → AllFit ys → AllFit (xs ++ ys)
both_fit xs ys fits fits' = record {
  each = λ i. elim (cases_lt i (length xs)) as (λ _. FitsSigned w16 (get_or (xs ++ ys) i (pos 0))) [
    | inl r ↦ subst (FitsSigned w16) (sym (get_or-append xs ys (pos 0) i r)) (fits.each i)
    | inr r ↦ subst (FitsSigned w16) (sym (get_or-append_right xs ys (length xs) i (pos 0) refl r)) (fits'.each (i - length xs))
  ];
}
