-- Points of digits, which are exact in 16 bits.
use Rattle.std.proofs.Common.{get_or, replicate, ◌≡◌, ℕ, ℤ, pos, negsuc, ◌*◌, ◌^◌, ◌<◌, ◌≤◌, sym, ◌∙◌, ap, subst, arith, List, length, ◌++◌, w16, FitsSigned}
use Rattle.std.proofs.lemmas.Simd.{get_or-replicate}
use Rattle.std.proofs.lemmas.Int.{ints, int_wrap_fits}
use Rattle.std.specs.Int.{int_wrap}
use Rattle.rx_ring.specs.Blocks.{Within, points}
use Rattle.rx_ring.proofs.BlockBounds.{points_within}
use Rattle.rx_ring.proofs.BlockSums.{points_same}
use Rattle.rx_points.specs.Numbers.{AllFit, AreBlocks, part}
use Rattle.rx_points.proofs.Levels.{front_at, blocks_fit}

pub fits_within : (m : ℕ) (x : ℤ) → m ≤ 2 ^ 15 → Within m x → FitsSigned w16 x
fits_within m (pos n) l p = record { sfits = omega (arith, ints, p.high) }
fits_within m (negsuc n) l p = record { sfits = omega (arith, ints, p.low) }

-- the blocks of digits of a list
pub digits_fit : (n : ℕ) (xs front back : List ℤ) → xs ≡ front ++ back → length front ≡ 16 * n →
    ((j i : ℕ) → j < 16 → i < n → Within (2 ^ 11) (part n xs j i)) → AllFit front
digits_fit n xs front back e size within = blocks_fit n 16 (part n front) front (record {
  size = size;
  each = λ j i l q.
      let same : part n front j i ≡ part n xs j i = front_at n 16 xs front back j i e size l q in
      sym (int_wrap_fits w16 (part n front j i)
      (subst (FitsSigned w16) (sym same) (fits_within (2 ^ 11) (part n xs j i) (omega arith) (within j i l q))));
})

pub exact : (n e : ℕ) (xs front back new : List ℤ) (p i : ℕ) → xs ≡ front ++ back → length front ≡ 16 * n →
    ((j i : ℕ) → j < 16 → i < n → Within (2 ^ 11) (part n xs j i)) → AreBlocks n 16 (points n 4 e (part n front)) new →
    p < 16 → i < n → part n new p i ≡ points n 4 e (part n xs) p i
exact n e xs front back new p i w size within are l q =
    let same : points n 4 e (part n front) p i ≡ points n 4 e (part n xs) p i =
    points_same n 4 e (part n front) (part n xs) p i (λ k t u v. front_at n 16 xs front back k t w size u v) l q in
    are.each p i l q ∙ ap (int_wrap w16) same
    ∙ int_wrap_fits w16 (points n 4 e (part n xs) p i)
    (fits_within (2 ^ 4 * 2 ^ 11) (points n 4 e (part n xs) p i) (omega arith) (points_within n 4 e (2 ^ 11) (part n xs) p i within l q))

-- a list that has the same digit everywhere
pub same_digits : (m place : ℕ) (x : ℤ) → place < m → Within (2 ^ 11) x → Within (2 ^ 11) (get_or (replicate m x) place (pos 0))
same_digits m place x p within = subst (Within (2 ^ 11)) (sym (get_or-replicate m place x (pos 0) p)) within
