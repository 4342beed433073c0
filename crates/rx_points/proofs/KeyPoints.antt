-- The points of words modulo 2 ^ 69, level by level, and their limbs in a list.
use Rattle.std.proofs.Common.{◌≡◌, ℕ, zero, suc, ℤ, pos, neg_ℤ, ◌+ℤ◌, ◌-ℤ◌, ◌*ℤ◌, ◌+◌, ◌-◌, ◌*◌, ◌/◌, ◌%◌, ◌^◌, ◌<◌, ◌≤◌, refl, sym, ◌∙◌, ap, arith, inl, inr, List, length, get_or, set, ◌++◌, w16, FitsSigned}
use Rattle.std.proofs.lemmas.Bool.{cases_lt}
use Rattle.std.proofs.lemmas.Grind.{common_steps}
use Rattle.std.proofs.lemmas.Nat.{mul-le, mul-add-lt, mod-mul-add}
use Rattle.rx_laws.specs.Words.{of_words}
use Rattle.rx_ring.specs.Parts.{of_parts}
use Rattle.rx_ring.specs.Polynomial.{turned}
use Rattle.rx_ring.specs.Blocks.{down, points}
use Rattle.rx_ring.specs.Limbs.{limb, without, above, limb_at}
use Rattle.rx_points.proofs.Exact.{fits_within}
use Rattle.rx_points.proofs.SixLimbs.{within_8, within_10, within_15, within_16}
use Rattle.rx_ring.proofs.Polynomial.{turned_low, turned_high, turned_same}
use Rattle.rx_ring.proofs.Levels.{points_low, points_high}
use Rattle.rx_ring.proofs.BlockPlaces.{down_near, down_away}
use Rattle.rx_ring.proofs.BlockSums.{points_same, points-linear}
use Rattle.rx_points.specs.Residues.{residue, AreSums, AreResidues}
use Rattle.rx_points.proofs.Residues.{gap, gap_is, residue_same, residue-add, residue-sub}
use Rattle.rx_points.proofs.Turns.{opposite}
use Rattle.rx_points.proofs.ResidueBlocks.{Pointwise, part_front, part_back, residues_joined}

pub residue-points : (n d e : ℕ) (a b : ℕ → ℕ → ℤ) (p i : ℕ) → ((k t : ℕ) → k < 2 ^ d → t < n → residue (a k t) ≡ residue (b k t)) → p < 2 ^ d → i < n →
    residue (points n d e a p i) ≡ residue (points n d e b p i)
residue-points n d e a b p i same l q =
    residue_same (points n d e a p i) (points n d e b p i) (points n d e (λ k t. gap (a k t) (b k t)) p i)
    (points_same n d e a (λ k t. b k t +ℤ pos (2 ^ 69) *ℤ gap (a k t) (b k t)) p i (λ k t u v. gap_is (a k t) (b k t) (same k t u v)) l q
    ∙ points-linear n d e (pos (2 ^ 69)) b (λ k t. gap (a k t) (b k t)) p i l q)

-- ---- one coefficient of a turned block
pub turned_negated : (n s i x : ℕ) (b : ℕ → ℤ) → i < s → pos x ≡ b (i + n - s) → residue (pos 0 -ℤ pos x) ≡ residue (turned n b s i)
turned_negated n s i x b p e = ap residue (opposite (pos x) ∙ ap neg_ℤ e ∙ sym (turned_high n b s i p))

pub turned_kept : (n s i x : ℕ) (b : ℕ → ℤ) → s ≤ i → pos x ≡ b (i - s) → residue (pos x) ≡ residue (turned n b s i)
turned_kept n s i x b p e = ap residue (e ∙ sym (turned_low n b s i p))

-- ---- a block and a turned one
pub with_sum : (n m : ℕ) (f g : ℕ → ℤ) (room xs : List ℕ) → m ≡ n → AreSums m g room → AreSums n (λ i. f i +ℤ of_words room i) xs → AreSums n (λ i. f i +ℤ g i) xs
with_sum n m f g room xs e turns are = record {
  count = are.count;
  each = λ i p. are.each i p ∙ residue-add (f i) (f i) (of_words room i) (g i) refl (turns.each i (omega (arith, e)));
}

pub with_difference : (n m : ℕ) (f g : ℕ → ℤ) (room xs : List ℕ) → m ≡ n → AreSums m g room → AreSums n (λ i. f i -ℤ of_words room i) xs → AreSums n (λ i. f i -ℤ g i) xs
with_difference n m f g room xs e turns are = record {
  count = are.count;
  each = λ i p. are.each i p ∙ residue-sub (f i) (f i) (of_words room i) (g i) refl (turns.each i (omega (arith, e)));
}

pub turn_added : (n s : ℕ) → s ≤ n → Pointwise n (λ p q i. p i +ℤ turned n q s i)
unfolding Pointwise
turn_added n s l = λ a a' b b' i f g q. ap (λ x. x +ℤ turned n b s i) (f i q) ∙ ap (λ x. a' i +ℤ x) (turned_same n b b' s i g l q)

pub turn_subtracted : (n s : ℕ) → s ≤ n → Pointwise n (λ p q i. p i -ℤ turned n q s i)
unfolding Pointwise
turn_subtracted n s l = λ a a' b b' i f g q. ap (λ x. x -ℤ turned n b s i) (f i q) ∙ ap (λ x. a' i -ℤ x) (turned_same n b b' s i g l q)

-- ---- all levels down
pub down_more : (n d e : ℕ) (xs front back near away near' away' : List ℕ) → xs ≡ front ++ back → length front ≡ 2 ^ d * n → e ≤ 2 * n →
    AreResidues n (2 ^ d) (λ j i. of_parts n front j i +ℤ turned n (of_parts n back j) (e / 2) i) near →
    AreResidues n (2 ^ d) (λ j i. of_parts n front j i -ℤ turned n (of_parts n back j) (e / 2) i) away →
    AreResidues n (2 ^ d) (points n d (e / 2) (of_parts n near)) near' →
    AreResidues n (2 ^ d) (points n d (e / 2 + n) (of_parts n away)) away' →
    AreResidues n (2 ^ suc d) (points n (suc d) e (of_parts n xs)) (near' ++ away')
down_more n d e xs front back near away near' away' w size turn sum difference low high =
    let two : 2 ^ suc d ≡ 2 ^ d + 2 ^ d = omega arith in
    let a : ℕ → ℕ → ℤ = of_parts n xs in
    residues_joined n (2 ^ d) (2 ^ d) (2 ^ suc d) (points n d (e / 2) (of_parts n near)) (points n d (e / 2 + n) (of_parts n away))
    (points n (suc d) e a) near' away' two low high
    (λ j i l q.
    residue-points n d (e / 2) (of_parts n near) (down n (2 ^ d) (e / 2) a) j i
    (λ k t u v. sum.each k t u v
    ∙ ap residue (ap (λ x. x +ℤ turned n (of_parts n back k) (e / 2) t) (part_front n (2 ^ d) xs front back k t w size u v)
    ∙ ap (λ x. a k t +ℤ x) (turned_same n (of_parts n back k) (a (2 ^ d + k)) (e / 2) t (λ m o. part_back n (2 ^ d) xs front back k m w size) (omega (arith, turn)) v)
    ∙ sym (down_near n (2 ^ d) (e / 2) a k t (omega (arith, turn)) v))) l q
    ∙ ap (λ f. residue (f i)) (sym (points_low n d e a j l)))
    (λ j i l q.
    residue-points n d (e / 2 + n) (of_parts n away) (down n (2 ^ d) (e / 2 + n) a) j i
    (λ k t u v. difference.each k t u v
    ∙ ap residue (ap (λ x. x -ℤ turned n (of_parts n back k) (e / 2) t) (part_front n (2 ^ d) xs front back k t w size u v)
    ∙ ap (λ x. a k t -ℤ x) (turned_same n (of_parts n back k) (a (2 ^ d + k)) (e / 2) t (λ m o. part_back n (2 ^ d) xs front back k m w size) (omega (arith, turn)) v)
    ∙ sym (down_away n (2 ^ d) (e / 2) a k t (omega (arith, turn)) v))) l q
    ∙ ap (λ f. residue (f i)) (sym (points_high n d e a j)))

pub down_none : (n count e : ℕ) (xs : List ℕ) → length xs ≡ count * n → AreResidues n count (points n 0 e (of_parts n xs)) xs
unfolding points
down_none n count e xs size = record { size = size; each = λ j i l q. refl }

-- ---- numbers at places of parts
pub number_at : (xs : List ℤ) (i : ℕ) (v : ℤ) → i < length xs → get_or (set xs i v) i (pos 0) ≡ v
number_at xs i v p = grind (arith, common_steps)

number_below : (xs : List ℤ) (i k : ℕ) (v : ℤ) → k < i → get_or (set xs i v) k (pos 0) ≡ get_or xs k (pos 0)
number_below xs i k v p = grind (arith, common_steps)

number_above : (xs : List ℤ) (i k : ℕ) (v : ℤ) → i < k → get_or (set xs i v) k (pos 0) ≡ get_or xs k (pos 0)
number_above xs i k v p = grind (arith, common_steps)

-- a write at place p of part l leaves place p of the parts before it, and all smaller places of each part
pub part_kept_below : (n l k p : ℕ) (xs : List ℤ) (v : ℤ) → k < l → p < n → get_or (set xs (l * n + p) v) (k * n + p) (pos 0) ≡ get_or xs (k * n + p) (pos 0)
part_kept_below n l k p xs v q o =
    let m : suc k * n ≤ l * n = mul-le (suc k) n l n (omega arith) (omega arith) in
    let e : suc k * n ≡ k * n + n = omega arith in
    number_below xs (l * n + p) (k * n + p) v (omega (arith, m, e, o))

pub place_kept : (n l k p u : ℕ) (xs : List ℤ) (v : ℤ) → p < n → u < p → get_or (set xs (l * n + p) v) (k * n + u) (pos 0) ≡ get_or xs (k * n + u) (pos 0)
place_kept n l k p u xs v o q = elim (cases_lt (k * n + u) (l * n + p)) as (λ _. get_or (set xs (l * n + p) v) (k * n + u) (pos 0) ≡ get_or xs (k * n + u) (pos 0)) [
  | inl r ↦ number_below xs (l * n + p) (k * n + u) v r
  | inr r ↦ elim (cases_lt (l * n + p) (k * n + u)) as (λ _. get_or (set xs (l * n + p) v) (k * n + u) (pos 0) ≡ get_or xs (k * n + u) (pos 0)) [
    | inl s ↦ number_above xs (l * n + p) (k * n + u) v s
    | inr s ↦
        let same : k * n + u ≡ l * n + p = omega arith in
        let places : u ≡ p = sym (mod-mul-add k n u (omega arith)) ∙ ap (λ x. x % n) same ∙ mod-mul-add l n p o in
        absurd (omega (arith, places, q))
  ]
]

pub each_put : (n l p count : ℕ) (xs : List ℤ) (v : ℤ) (f : ℕ → ℤ) → length xs ≡ count * n → l < count → p < n →
    ((k : ℕ) → k < l → get_or xs (k * n + p) (pos 0) ≡ f k) → v ≡ f l → (k : ℕ) → k < l + 1 → get_or (set xs (l * n + p) v) (k * n + p) (pos 0) ≡ f k
each_put n l p count xs v f size q o before e k r = elim (cases_lt k l) as (λ _. get_or (set xs (l * n + p) v) (k * n + p) (pos 0) ≡ f k) [
  | inl s ↦ part_kept_below n l k p xs v s o ∙ before k s
  | inr s ↦
      let same : l ≡ k = omega arith in
      let inside : l * n + p < length xs = omega (arith, mul-add-lt l n p count q o, size) in
      ap (λ j. get_or (set xs (l * n + p) v) (j * n + p) (pos 0)) (sym same) ∙ number_at xs (l * n + p) v inside ∙ e ∙ ap f same
]

-- the limbs of one number more
pub limbs_more : (n place at : ℕ) (xs new : List ℤ) (values : ℕ → ℕ) (six : List ℤ) → place < n → at ≡ n - suc place →
    ((k u : ℕ) → k < 6 → u < place → get_or xs (k * n + u) (pos 0) ≡ limb_at k (values (n - suc u))) →
    ((l : ℕ) → l < 6 → get_or new (l * n + place) (pos 0) ≡ get_or six l (pos 0)) →
    ((l u : ℕ) → u < n → u < place → get_or new (l * n + u) (pos 0) ≡ get_or xs (l * n + u) (pos 0)) →
    ((l : ℕ) → l < 6 → get_or six l (pos 0) ≡ limb_at l (values at)) →
    (k u : ℕ) → k < 6 → u < place + 1 → get_or new (k * n + u) (pos 0) ≡ limb_at k (values (n - suc u))
limbs_more n place at xs new values six p e before written left are k u q r =
    elim (cases_lt u place) as (λ _. get_or new (k * n + u) (pos 0) ≡ limb_at k (values (n - suc u))) [
      | inl s ↦ left k u (omega arith) s ∙ before k u q s
      | inr s ↦
          let same : place ≡ u = omega arith in
          ap (λ j. get_or new (k * n + j) (pos 0)) (sym same) ∙ written k q ∙ are k q ∙ ap (λ j. limb_at k (values j)) e
          ∙ ap (λ j. limb_at k (values (n - suc j))) same
    ]

-- all limbs are numbers of 16 bits
pub limb_fits : (l v : ℕ) → l < 6 → FitsSigned w16 (limb_at l v)
unfolding limb_at above
limb_fits zero v p = fits_within (2 ^ 9) (limb 10 v) (omega arith) (within_10 v)
limb_fits (suc zero) v p = fits_within (2 ^ 9) (limb 10 (without 10 v)) (omega arith) (within_10 (without 10 v))
limb_fits (suc (suc zero)) v p = fits_within (2 ^ 9) (limb 10 (without 10 (without 10 v))) (omega arith) (within_10 (without 10 (without 10 v)))
limb_fits (suc (suc (suc zero))) v p =
    fits_within (2 ^ 7) (limb 8 (without 10 (without 10 (without 10 v)))) (omega arith) (within_8 (without 10 (without 10 (without 10 v))))
limb_fits (suc (suc (suc (suc zero)))) v p =
    fits_within (2 ^ 14) (limb 15 (without 8 (without 10 (without 10 (without 10 v))))) (omega arith) (within_15 (without 8 (without 10 (without 10 (without 10 v)))))
limb_fits (suc (suc (suc (suc (suc zero))))) v p =
    fits_within (2 ^ 15) (limb 16 (without 15 (without 8 (without 10 (without 10 (without 10 v)))))) (omega arith)
    (within_16 (without 15 (without 8 (without 10 (without 10 (without 10 v))))))
limb_fits (suc (suc (suc (suc (suc (suc l)))))) v p = absurd (omega arith)
