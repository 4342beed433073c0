-- Levels over the blocks of lists.
use Rattle.std.proofs.Common.{◌≡◌, ℕ, suc, ℤ, pos, ◌+ℤ◌, ◌-ℤ◌, ◌+◌, ◌-◌, ◌*◌, ◌/◌, ◌%◌, ◌^◌, ◌<◌, ◌≤◌, refl, sym, ◌∙◌, ap, subst, arith, inl, inr, List, length, get_or, ◌++◌, w16}
use Rattle.std.proofs.lemmas.Bool.{cases_lt}
use Rattle.std.proofs.lemmas.Int.{SFits-int_wrap, int_wrap_fits}
use Rattle.std.proofs.lemmas.List.{length-append, get_or-append_right}
use Rattle.std.proofs.lemmas.Nat.{mul-add-lt, div-add-mod', div_below, mod_below}
use Rattle.std.proofs.Math.ListN.{get_or-append}
use Rattle.std.specs.Int.{int_wrap}
use Rattle.rx_laws.specs.Words.{of_numbers}
use Rattle.rx_ring.specs.Polynomial.{turned}
use Rattle.rx_ring.specs.Blocks.{down, points}
use Rattle.rx_ring.proofs.Polynomial.{turned_same}
use Rattle.rx_ring.proofs.Levels.{by_half, points_low, points_high}
use Rattle.rx_ring.proofs.BlockPlaces.{down_near, down_away}
use Rattle.rx_points.specs.Numbers.{AllFit, AreNumbers, AreBlocks, part}
use Rattle.rx_points.proofs.Turns.{all_fit}
use Rattle.rx_points.proofs.Congruent.{Same, same_points}

-- ---- a list of h blocks, and then others
pub front_at : (n h : ℕ) (xs front back : List ℤ) (j i : ℕ) → xs ≡ front ++ back → length front ≡ h * n → j < h → i < n →
    part n front j i ≡ part n xs j i
front_at n h xs front back j i e size l q =
    sym (ap (λ zs. part n zs j i) e ∙ get_or-append front back (pos 0) (j * n + i) (omega (arith, size, mul-add-lt j n i h l q)))

pub back_at : (n h : ℕ) (xs front back : List ℤ) (j i : ℕ) → xs ≡ front ++ back → length front ≡ h * n →
    part n back j i ≡ part n xs (h + j) i
back_at n h xs front back j i e size =
    let place : (h + j) * n + i ≡ h * n + (j * n + i) = omega arith in
    let rest : h * n + (j * n + i) - h * n ≡ j * n + i = omega arith in
    sym (ap (λ zs. part n zs (h + j) i) e ∙ ap (λ k. get_or (front ++ back) k (pos 0)) place
    ∙ get_or-append_right front back (h * n) (h * n + (j * n + i)) (pos 0) size (omega arith)
    ∙ ap (λ k. get_or back k (pos 0)) rest)

pub blocks_joined : (n h m count : ℕ) (f g k : ℕ → ℕ → ℤ) (xs ys : List ℤ) → count ≡ h + m → AreBlocks n h f xs → AreBlocks n m g ys →
    ((j i : ℕ) → j < h → i < n → int_wrap w16 (f j i) ≡ int_wrap w16 (k j i)) →
    ((j i : ℕ) → j < m → i < n → int_wrap w16 (g j i) ≡ int_wrap w16 (k (h + j) i)) → AreBlocks n count k (xs ++ ys)
blocks_joined n h m count f g k xs ys whole first last e u = record {
  size =
      let all : count * n ≡ h * n + m * n = ap (λ x. x * n) whole ∙ omega arith in
      length-append xs ys ∙ omega (arith, first.size, last.size, all);
  each = λ j i l q. by_half j h
      (λ r. sym (front_at n h (xs ++ ys) xs ys j i refl first.size r q) ∙ first.each j i r q ∙ e j i r q)
      (λ r. let place : h + (j - h) ≡ j = omega arith in
      let o : j - h < m = omega arith in
      ap (λ x. part n (xs ++ ys) x i) (sym place) ∙ sym (back_at n h (xs ++ ys) xs ys (j - h) i refl first.size)
      ∙ last.each (j - h) i o q ∙ u (j - h) i o q ∙ ap (λ x. int_wrap w16 (k x i)) place);
}

-- one block
pub one_block : (n : ℕ) (f : ℕ → ℤ) (xs : List ℤ) → AreNumbers n f xs → AreBlocks n 1 (λ j. f) xs
one_block n f xs are = record {
  size = are.count ∙ omega arith;
  each = λ j i l q.
      let place : j * n + i ≡ i = ap (λ x. x * n + i) (first j l) ∙ omega arith in
      ap (λ x. get_or xs x (pos 0)) place ∙ are.each i q;
}
  where
    first : (j : ℕ) → j < 1 → j ≡ 0
    first j l = omega arith

pub blocks_fit : (n count : ℕ) (f : ℕ → ℕ → ℤ) (xs : List ℤ) → AreBlocks n count f xs → AllFit xs
blocks_fit n count f xs are = elim (cases_lt 0 n) as (λ _. AllFit xs) [
  | inl r ↦ all_fit xs (λ u. f (u / n) (u % n))
      (λ u q. ap (λ v. get_or xs v (pos 0)) (sym (div-add-mod' u n))
      ∙ are.each (u / n) (u % n) (div_below u n count r (omega (arith, q, are.size))) (mod_below u n r))
  | inr r ↦
      let none : count * n ≡ 0 = ap (λ k. count * k) (empty n r) ∙ omega arith in
      all_fit xs (λ u. pos 0) (λ u q. absurd (omega (arith, q, are.size, none)))
]
  where
    empty : (n : ℕ) → n ≤ 0 → n ≡ 0
    empty n r = omega arith

-- ---- a level, block after block; op is the sum or the difference
pub level_more : (op : ℤ → ℤ → ℤ) (n count s : ℕ) (a b a0 a1 b0 b1 xs ys : List ℤ) → 0 < count → s ≤ n → a ≡ a0 ++ a1 → b ≡ b0 ++ b1 →
    length a0 ≡ n → length b0 ≡ n →
    AreNumbers (length a0) (λ i. op (of_numbers a0 i) (turned (length a0) (of_numbers b0) s i)) xs →
    AreBlocks n (count - 1) (λ j i. op (part n a1 j i) (turned n (part n b1 j) s i)) ys →
    AreBlocks n count (λ j i. op (part n a j i) (turned n (part n b j) s i)) (xs ++ ys)
level_more op n count s a b a0 a1 b0 b1 xs ys some p e u size size' first rest =
    let f : ℕ → ℤ = λ i. op (of_numbers a0 i) (turned n (of_numbers b0) s i) in
    let one : AreNumbers n f xs =
    subst (λ m. AreNumbers m (λ i. op (of_numbers a0 i) (turned m (of_numbers b0) s i)) xs) size first in
    let block : n ≡ 1 * n = omega arith in
    blocks_joined n 1 (count - 1) count (λ j. f) (λ j i. op (part n a1 j i) (turned n (part n b1 j) s i))
    (λ j i. op (part n a j i) (turned n (part n b j) s i)) xs ys (omega arith) (one_block n f xs one) rest
    (λ j i l q. ap (int_wrap w16)
    (ap (λ x. op x (turned n (of_numbers b0) s i)) (number_at n a a0 a1 j i e size l q)
    ∙ ap (λ x. op (part n a j i) x) (turned_same n (of_numbers b0) (part n b j) s i (λ t r. number_at n b b0 b1 j t u size' l r) p q)))
    (λ j i l q. ap (int_wrap w16)
    (ap (λ x. op x (turned n (part n b1 j) s i)) (back_at n 1 a a0 a1 j i e (size ∙ block))
    ∙ ap (λ x. op (part n a (1 + j) i) x) (turned_same n (part n b1 j) (part n b (1 + j)) s i (λ t r. back_at n 1 b b0 b1 j t u (size' ∙ block)) p q)))
  where
    number_at : (n : ℕ) (xs front back : List ℤ) (j i : ℕ) → xs ≡ front ++ back → length front ≡ n → j < 1 → i < n →
        of_numbers front i ≡ part n xs j i
    number_at n xs front back j i e size l q =
        let first : j ≡ 0 = omega arith in
        let place : i ≡ j * n + i = sym (ap (λ x. x * n + i) first ∙ omega arith) in
        ap (λ x. get_or front x (pos 0)) place ∙ front_at n 1 xs front back j i e (size ∙ omega arith) l q

-- ---- all levels
wrapped_again : (z : ℤ) → int_wrap w16 (int_wrap w16 z) ≡ int_wrap w16 z
wrapped_again z = int_wrap_fits w16 (int_wrap w16 z) (SFits-int_wrap w16 z)

pub same_level_near : (n d s : ℕ) (a front back xs : List ℤ) (k t : ℕ) → a ≡ front ++ back → length front ≡ 2 ^ d * n → s ≤ n →
    AreBlocks n (2 ^ d) (λ j i. part n front j i +ℤ turned n (part n back j) s i) xs → k < 2 ^ d → t < n →
    Same (part n xs k t) (down n (2 ^ d) s (part n a) k t)
same_level_near n d s a front back xs k t e size p are l q =
    ap (int_wrap w16) (are.each k t l q) ∙ wrapped_again (part n front k t +ℤ turned n (part n back k) s t)
    ∙ ap (int_wrap w16)
    (ap (λ x. x +ℤ turned n (part n back k) s t) (front_at n (2 ^ d) a front back k t e size l q)
    ∙ ap (λ x. part n a k t +ℤ x) (turned_same n (part n back k) (part n a (2 ^ d + k)) s t (λ i r. back_at n (2 ^ d) a front back k i e size) p q)
    ∙ sym (down_near n (2 ^ d) s (part n a) k t p q))

pub same_level_away : (n d s : ℕ) (a front back xs : List ℤ) (k t : ℕ) → a ≡ front ++ back → length front ≡ 2 ^ d * n → s ≤ n →
    AreBlocks n (2 ^ d) (λ j i. part n front j i -ℤ turned n (part n back j) s i) xs → k < 2 ^ d → t < n →
    Same (part n xs k t) (down n (2 ^ d) (s + n) (part n a) k t)
same_level_away n d s a front back xs k t e size p are l q =
    ap (int_wrap w16) (are.each k t l q) ∙ wrapped_again (part n front k t -ℤ turned n (part n back k) s t)
    ∙ ap (int_wrap w16)
    (ap (λ x. x -ℤ turned n (part n back k) s t) (front_at n (2 ^ d) a front back k t e size l q)
    ∙ ap (λ x. part n a k t -ℤ x) (turned_same n (part n back k) (part n a (2 ^ d + k)) s t (λ i r. back_at n (2 ^ d) a front back k i e size) p q)
    ∙ sym (down_away n (2 ^ d) s (part n a) k t p q))

pub points_more : (n d e : ℕ) (a front back xs ys ps qs : List ℤ) → a ≡ front ++ back → length front ≡ 2 ^ d * n → e ≤ 2 * n →
    AreBlocks n (2 ^ d) (λ j i. part n front j i +ℤ turned n (part n back j) (e / 2) i) xs →
    AreBlocks n (2 ^ d) (λ j i. part n front j i -ℤ turned n (part n back j) (e / 2) i) ys →
    AreBlocks n (2 ^ d) (points n d (e / 2) (part n xs)) ps → AreBlocks n (2 ^ d) (points n d (e / 2 + n) (part n ys)) qs →
    AreBlocks n (2 ^ suc d) (points n (suc d) e (part n a)) (ps ++ qs)
points_more n d e a front back xs ys ps qs w size p near away low high =
    let two : 2 ^ suc d ≡ 2 ^ d + 2 ^ d = omega arith in
    blocks_joined n (2 ^ d) (2 ^ d) (2 ^ suc d) (points n d (e / 2) (part n xs)) (points n d (e / 2 + n) (part n ys))
    (points n (suc d) e (part n a)) ps qs two low high
    (λ j i l q.
    same_points n d (e / 2) (part n xs) (down n (2 ^ d) (e / 2) (part n a)) j i
    (λ k t u v. same_level_near n d (e / 2) a front back xs k t w size (omega arith) near u v) l q
    ∙ ap (λ f. int_wrap w16 (f i)) (sym (points_low n d e (part n a) j l)))
    (λ j i l q.
    same_points n d (e / 2 + n) (part n ys) (down n (2 ^ d) (e / 2 + n) (part n a)) j i
    (λ k t u v. same_level_away n d (e / 2) a front back ys k t w size (omega arith) away u v) l q
    ∙ ap (λ f. int_wrap w16 (f i)) (sym (points_high n d e (part n a) j)))

pub points_none : (n count e : ℕ) (xs : List ℤ) → length xs ≡ count * n → AllFit xs → AreBlocks n count (points n 0 e (part n xs)) xs
unfolding points
points_none n count e xs size fits = record {
  size = size;
  each = λ j i l q. sym (int_wrap_fits w16 (part n xs j i) (fits.each (j * n + i)));
}

pub half_of : (d count : ℕ) → 0 < d → count ≡ 2 ^ d → count / 2 ≡ 2 ^ (d - 1)
half_of d count p e =
    let more : d ≡ suc (d - 1) = omega arith in
    let two : 2 ^ suc (d - 1) ≡ 2 * 2 ^ (d - 1) = omega arith in
    let all : count ≡ 2 * 2 ^ (d - 1) = e ∙ ap (λ k. 2 ^ k) more ∙ two in
    omega (arith, all)

-- both halves have half of the numbers
pub halves : (d count n : ℕ) → 0 < d → count ≡ 2 ^ d → count * n ≡ count / 2 * n + count / 2 * n
halves d count n p e =
    let more : d ≡ suc (d - 1) = omega arith in
    let two : 2 ^ suc (d - 1) ≡ 2 * 2 ^ (d - 1) = omega arith in
    let all : count ≡ 2 * 2 ^ (d - 1) = e ∙ ap (λ k. 2 ^ k) more ∙ two in
    let twice : count ≡ count / 2 + count / 2 = omega (arith, all) in
    ap (λ k. k * n) twice ∙ omega arith

-- the same list with the number of its blocks written otherwise
pub recounted : (n count other : ℕ) (f : ℕ → ℕ → ℤ) (xs : List ℤ) → count ≡ other → AreBlocks n count f xs → AreBlocks n other f xs
recounted n count other f xs e are = subst (λ k. AreBlocks n k f xs) e are
