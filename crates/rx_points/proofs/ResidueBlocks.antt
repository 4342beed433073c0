-- Blocks that are known modulo 2 ^ 69: turned, joined, and by levels.
use Rattle.std.proofs.Common.{◌≡◌, ℕ, suc, ℤ, pos, neg_ℤ, ◌+ℤ◌, ◌-ℤ◌, ◌*ℤ◌, ◌+◌, ◌-◌, ◌*◌, ◌/◌, ◌%◌, ◌^◌, ◌<◌, ◌≤◌, refl, sym, ◌∙◌, ap, subst, arith, List, length, get_or, ◌++◌}
use Rattle.std.proofs.lemmas.Int.{ints}
use Rattle.std.proofs.lemmas.List.{length-append, get_or-append_right}
use Rattle.std.proofs.lemmas.Nat.{mul-add-lt}
use Rattle.std.proofs.Math.ListN.{get_or-append}
use Rattle.rx_laws.specs.Words.{of_words}
use Rattle.rx_ring.specs.Parts.{of_parts}
use Rattle.rx_ring.specs.Polynomial.{turns}
use Rattle.rx_ring.specs.Blocks.{up, from_points, closed, both}
use Rattle.rx_ring.proofs.Rotation.{turns_same}
use Rattle.rx_ring.proofs.Levels.{by_half, up_low, up_high, from_points_same}
use Rattle.rx_ring.proofs.Interleaved.{turned_turns}
use Rattle.rx_ring.proofs.BlockPlaces.{turned_back_low, turned_back_high}
use Rattle.rx_ring.proofs.BlockSums.{turns-linear, both_same, both-linear, divided}
use Rattle.rx_ring.proofs.Polynomial.{turned_low, turned_high}
use Rattle.rx_ring.specs.Recovery.{Recovers}
use Rattle.rx_laws.proofs.Torus.{word_same}
use Rattle.rx_laws.proofs.Ring.{mul_comm_ℤ}
use Rattle.rx_points.specs.Residues.{residue, AreSums, AreResidues, turned_back}
use Rattle.rx_points.proofs.Residues.{gap, gap_is, residue_same, residue-add, residue-sub, residue-wrapping_add, residue-wrapping_sub}

-- ---- the same residues before and after
pub residue-turns : (n : ℕ) (b b' : ℕ → ℤ) (s i : ℕ) → ((t : ℕ) → t < n → residue (b t) ≡ residue (b' t)) → i < n →
    residue (turns n b s i) ≡ residue (turns n b' s i)
residue-turns n b b' s i same q =
    residue_same (turns n b s i) (turns n b' s i) (turns n (λ t. gap (b t) (b' t)) s i)
    (turns_same n b (λ t. b' t +ℤ pos (2 ^ 69) *ℤ gap (b t) (b' t)) s i (λ t p. gap_is (b t) (b' t) (same t p)) q
    ∙ turns-linear n (pos (2 ^ 69)) b' (λ t. gap (b t) (b' t)) s i q)

pub residue-back : (n s : ℕ) (p p' q q' : ℕ → ℤ) (i : ℕ) → ((t : ℕ) → t < n → residue (p t) ≡ residue (p' t)) →
    ((t : ℕ) → t < n → residue (q t) ≡ residue (q' t)) → i < n → residue (turned_back n s p q i) ≡ residue (turned_back n s p' q' i)
residue-back n s p p' q q' i f g l =
    residue-turns n (λ t. p t -ℤ q t) (λ t. p' t -ℤ q' t) (2 * n - s) i (λ t o. residue-sub (p t) (p' t) (q t) (q' t) (f t o) (g t o)) l

pub residue-both : (n d : ℕ) (x x' y y' : ℕ → ℕ → ℤ) (j i : ℕ) → ((p t : ℕ) → p < 2 ^ d → t < n → residue (x p t) ≡ residue (x' p t)) →
    ((p t : ℕ) → p < 2 ^ d → t < n → residue (y p t) ≡ residue (y' p t)) → j < 2 ^ d → i < n → residue (both n d x y j i) ≡ residue (both n d x' y' j i)
residue-both n d x x' y y' j i f g l q =
    residue_same (both n d x y j i) (both n d x' y' j i) (both n d (λ p t. gap (x p t) (x' p t)) (λ p t. gap (y p t) (y' p t)) j i)
    (both_same n d x (λ p t. x' p t +ℤ pos (2 ^ 69) *ℤ gap (x p t) (x' p t)) y (λ p t. y' p t +ℤ pos (2 ^ 69) *ℤ gap (y p t) (y' p t)) j i
    (λ p t u v. gap_is (x p t) (x' p t) (f p t u v)) (λ p t u v. gap_is (y p t) (y' p t) (g p t u v)) l q
    ∙ both-linear n d (pos (2 ^ 69)) x' y' (λ p t. gap (x p t) (x' p t)) (λ p t. gap (y p t) (y' p t)) j i l q)

-- ---- a list of h blocks, and then others
pub part_front : (n h : ℕ) (xs front back : List ℕ) (j i : ℕ) → xs ≡ front ++ back → length front ≡ h * n → j < h → i < n →
    of_parts n front j i ≡ of_parts n xs j i
part_front n h xs front back j i e size l q =
    ap pos (sym (ap (λ zs. get_or zs (j * n + i) 0) e ∙ get_or-append front back 0 (j * n + i) (omega (arith, size, mul-add-lt j n i h l q))))

pub part_back : (n h : ℕ) (xs front back : List ℕ) (j i : ℕ) → xs ≡ front ++ back → length front ≡ h * n →
    of_parts n back j i ≡ of_parts n xs (h + j) i
part_back n h xs front back j i e size =
    let place : (h + j) * n + i ≡ h * n + (j * n + i) = omega arith in
    let rest : h * n + (j * n + i) - h * n ≡ j * n + i = omega arith in
    ap pos (sym (ap (λ zs. get_or zs ((h + j) * n + i) 0) e ∙ ap (λ k. get_or (front ++ back) k 0) place
    ∙ get_or-append_right front back (h * n) (h * n + (j * n + i)) 0 size (omega arith)
    ∙ ap (λ k. get_or back k 0) rest))

pub residues_joined : (n h m count : ℕ) (f g k : ℕ → ℕ → ℤ) (xs ys : List ℕ) → count ≡ h + m → AreResidues n h f xs → AreResidues n m g ys →
    ((j i : ℕ) → j < h → i < n → residue (f j i) ≡ residue (k j i)) →
    ((j i : ℕ) → j < m → i < n → residue (g j i) ≡ residue (k (h + j) i)) → AreResidues n count k (xs ++ ys)
residues_joined n h m count f g k xs ys whole first last e u = record {
  size =
      let all : count * n ≡ h * n + m * n = ap (λ x. x * n) whole ∙ omega arith in
      length-append xs ys ∙ omega (arith, first.size, last.size, all);
  each = λ j i l q. by_half j h
      (λ r. ap residue (sym (part_front n h (xs ++ ys) xs ys j i refl first.size r q)) ∙ first.each j i r q ∙ e j i r q)
      (λ r. let place : h + (j - h) ≡ j = omega arith in
      let o : j - h < m = omega arith in
      ap (λ x. residue (of_parts n (xs ++ ys) x i)) (sym place) ∙ ap residue (sym (part_back n h (xs ++ ys) xs ys (j - h) i refl first.size))
      ∙ last.each (j - h) i o q ∙ u (j - h) i o q ∙ ap (λ x. residue (k x i)) place);
}

-- ---- a level, block after block; op is what becomes of two blocks, and depends on their numbers alone
unfoldable pub Pointwise : ℕ → ((ℕ → ℤ) → (ℕ → ℤ) → ℕ → ℤ) → Type 0
Pointwise n op = (a a' b b' : ℕ → ℤ) (i : ℕ) → ((t : ℕ) → t < n → a t ≡ a' t) → ((t : ℕ) → t < n → b t ≡ b' t) → i < n → op a b i ≡ op a' b' i

pub blocks_more : (op : (ℕ → ℤ) → (ℕ → ℤ) → ℕ → ℤ) (n m count : ℕ) (a b a0 a1 b0 b1 xs ys : List ℕ) → Pointwise n op → 0 < count → a ≡ a0 ++ a1 → b ≡ b0 ++ b1 →
    length a0 ≡ n → length b0 ≡ n → m ≡ n → AreSums m (op (of_words a0) (of_words b0)) xs →
    AreResidues n (count - 1) (λ j. op (of_parts n a1 j) (of_parts n b1 j)) ys →
    AreResidues n count (λ j. op (of_parts n a j) (of_parts n b j)) (xs ++ ys)
unfolding Pointwise
blocks_more op n m count a b a0 a1 b0 b1 xs ys same some e u size size' is_n first rest =
    let one : n ≡ 1 * n = omega arith in
    residues_joined n 1 (count - 1) count (λ j. op (of_words a0) (of_words b0)) (λ j. op (of_parts n a1 j) (of_parts n b1 j))
    (λ j. op (of_parts n a j) (of_parts n b j)) xs ys (omega arith)
    (record {
      size = first.count ∙ is_n ∙ one;
      each = λ j i l q.
          let place : j * n + i ≡ i = ap (λ x. x * n + i) (none j l) ∙ omega arith in
          ap (λ x. residue (of_words xs x)) place ∙ first.each i (omega (arith, is_n));
    }) rest
    (λ j i l q. ap residue (same (of_words a0) (of_parts n a j) (of_words b0) (of_parts n b j) i
    (λ t o. at_first a a0 a1 j t e size l o) (λ t o. at_first b b0 b1 j t u size' l o) q))
    (λ j i l q. ap residue (same (of_parts n a1 j) (of_parts n a (1 + j)) (of_parts n b1 j) (of_parts n b (1 + j)) i
    (λ t o. part_back n 1 a a0 a1 j t e (size ∙ one)) (λ t o. part_back n 1 b b0 b1 j t u (size' ∙ one)) q))
  where
    none : (j : ℕ) → j < 1 → j ≡ 0
    none j l = omega arith

    at_first : (zs front back : List ℕ) (j t : ℕ) → zs ≡ front ++ back → length front ≡ n → j < 1 → t < n → of_words front t ≡ of_parts n zs j t
    at_first zs front back j t e size l o =
        let place : t ≡ j * n + t = sym (ap (λ x. x * n + t) (none j l) ∙ omega arith) in
        ap (of_words front) place ∙ part_front n 1 zs front back j t e (size ∙ omega arith) l o

pub no_blocks : (n : ℕ) (f : ℕ → ℕ → ℤ) (count : ℕ) (xs : List ℕ) → count ≤ 0 → length xs ≡ count * n → AreResidues n count f xs
no_blocks n f count xs p size = record { size = size; each = λ j i l q. absurd (omega (arith, p, l)) }

pub sum_pointwise : (n : ℕ) → Pointwise n (λ p q i. p i +ℤ q i)
unfolding Pointwise
sum_pointwise n = λ a a' b b' i f g q. ap (λ x. x +ℤ b i) (f i q) ∙ ap (λ x. a' i +ℤ x) (g i q)

pub back_pointwise : (n s : ℕ) → Pointwise n (turned_back n s)
unfolding Pointwise
back_pointwise n s = λ a a' b b' i f g q.
    turns_same n (λ t. a t -ℤ b t) (λ t. a' t -ℤ b' t) (2 * n - s) i (λ t o. ap (λ x. x -ℤ b t) (f t o) ∙ ap (λ x. a' t -ℤ x) (g t o)) q

-- ---- all levels up
pub up_more : (n d e : ℕ) (points front back near away near' away' : List ℕ) → points ≡ front ++ back → length front ≡ 2 ^ d * n →
    AreResidues n (2 ^ d) (from_points n d (e / 2) (of_parts n front)) near →
    AreResidues n (2 ^ d) (from_points n d (e / 2 + n) (of_parts n back)) away →
    AreResidues n (2 ^ d) (λ j i. of_parts n near j i +ℤ of_parts n away j i) near' →
    AreResidues n (2 ^ d) (λ j. turned_back n (e / 2) (of_parts n near j) (of_parts n away j)) away' →
    AreResidues n (2 ^ suc d) (from_points n (suc d) e (of_parts n points)) (near' ++ away')
unfolding from_points
up_more n d e points front back near away near' away' w size low high sum difference =
    let h : ℕ = 2 ^ d in
    let two : 2 ^ suc d ≡ 2 ^ d + 2 ^ d = omega arith in
    let c : ℕ → ℕ → ℤ = of_parts n points in
    let p : ℕ → ℕ → ℤ = from_points n d (e / 2) c in
    let q : ℕ → ℕ → ℤ = from_points n d (e / 2 + n) (λ k. c (2 ^ d + k)) in
    let is_p : (j i : ℕ) → j < 2 ^ d → i < n → residue (of_parts n near j i) ≡ residue (p j i) =
    λ j i l o. low.each j i l o ∙ ap residue (from_points_same n d (e / 2) (of_parts n front) c (λ k t u v. part_front n (2 ^ d) points front back k t w size u v) j i l o) in
    let is_q : (j i : ℕ) → j < 2 ^ d → i < n → residue (of_parts n away j i) ≡ residue (q j i) =
    λ j i l o. high.each j i l o
    ∙ ap residue (from_points_same n d (e / 2 + n) (of_parts n back) (λ k. c (2 ^ d + k)) (λ k t u v. part_back n (2 ^ d) points front back k t w size) j i l o) in
    residues_joined n (2 ^ d) (2 ^ d) (2 ^ suc d) (λ j i. of_parts n near j i +ℤ of_parts n away j i)
    (λ j. turned_back n (e / 2) (of_parts n near j) (of_parts n away j)) (up n (2 ^ d) (e / 2) p q) near' away' two sum difference
    (λ j i l o. residue-add (of_parts n near j i) (p j i) (of_parts n away j i) (q j i) (is_p j i l o) (is_q j i l o)
    ∙ ap (λ f. residue (f i)) (sym (up_low n (2 ^ d) (e / 2) p q j l)))
    (λ j i l o. residue-back n (e / 2) (of_parts n near j) (p j) (of_parts n away j) (q j) i (λ t v. is_p j t l v) (λ t v. is_q j t l v) o
    ∙ ap residue (turns_same n (λ t. p j t -ℤ q j t) (λ t. p (2 ^ d + j - 2 ^ d) t -ℤ q (2 ^ d + j - 2 ^ d) t) (2 * n - e / 2) i
    (λ t _. ap (λ k. p k t -ℤ q k t) (omega arith)) o)
    ∙ ap (λ f. residue (f i)) (sym (up_high n (2 ^ d) (e / 2) p q (2 ^ d + j) (omega arith))))

pub up_none : (n count e : ℕ) (xs : List ℕ) → length xs ≡ count * n → AreResidues n count (from_points n 0 e (of_parts n xs)) xs
unfolding from_points
up_none n count e xs size = record { size = size; each = λ j i l q. refl }

-- the same list with the number of its blocks written otherwise
pub recounted_sums : (n count other : ℕ) (f : ℕ → ℕ → ℤ) (xs : List ℕ) → count ≡ other → AreResidues n count f xs → AreResidues n other f xs
recounted_sums n count other f xs e are = subst (λ k. AreResidues n k f xs) e are

-- ---- places of the code's steps up
pub back_kept : (n s i : ℕ) (p q : List ℕ) → i + s < n → get_or q (i + s) 0 < 2 ^ 128 →
    residue (pos ((get_or p (i + s) 0 + (2 ^ 128 - get_or q (i + s) 0)) % 2 ^ 128)) ≡ residue (turned_back n s (of_words p) (of_words q) i)
back_kept n s i p q l fits =
    residue-wrapping_sub (get_or p (i + s) 0) (get_or q (i + s) 0) (omega (arith, fits))
    ∙ ap residue (sym (turned_back_low n (λ t. of_words p t -ℤ of_words q t) s i l))

pub back_wrapped : (n s i : ℕ) (p q : List ℕ) → s ≤ n → i < n → n ≤ i + s → get_or p (i + s - n) 0 < 2 ^ 128 →
    residue (pos ((get_or q (i + s - n) 0 + (2 ^ 128 - get_or p (i + s - n) 0)) % 2 ^ 128)) ≡ residue (turned_back n s (of_words p) (of_words q) i)
back_wrapped n s i p q l o m fits =
    residue-wrapping_sub (get_or q (i + s - n) 0) (get_or p (i + s - n) 0) (omega (arith, fits))
    ∙ ap residue (flipped (of_words p (i + s - n)) (of_words q (i + s - n)) ∙ sym (turned_back_high n (λ t. of_words p t -ℤ of_words q t) s i l o m))
  where
    flipped : (x y : ℤ) → y -ℤ x ≡ neg_ℤ (x -ℤ y)
    flipped x y = omega (arith, ints)

pub closed_inside : (n j t a b x y : ℕ) (low high : ℕ → ℕ → ℤ) → 0 < t → t < n → y < 2 ^ 128 → pos a ≡ low j t → pos b ≡ high j t → pos x ≡ low j (t - 1) →
    pos y ≡ high j (t - 1) → residue (pos (((a + b) % 2 ^ 128 + (x + (2 ^ 128 - y)) % 2 ^ 128) % 2 ^ 128)) ≡ residue (closed n low high j t)
unfolding closed
closed_inside n j t a b x y low high some p fits ea eb ex ey =
    let turn : turns n (λ u. low j u -ℤ high j u) 1 t ≡ low j (t - 1) -ℤ high j (t - 1) =
    sym (turned_turns n (λ u. low j u -ℤ high j u) 1 t (omega arith) p) ∙ turned_low n (λ u. low j u -ℤ high j u) 1 t (omega arith) in
    residue-wrapping_add ((a + b) % 2 ^ 128) ((x + (2 ^ 128 - y)) % 2 ^ 128)
    ∙ residue-add (pos ((a + b) % 2 ^ 128)) (pos a +ℤ pos b) (pos ((x + (2 ^ 128 - y)) % 2 ^ 128)) (pos x -ℤ pos y)
    (residue-wrapping_add a b) (residue-wrapping_sub x y (omega (arith, fits)))
    ∙ ap residue (same (pos a) (pos b) (pos x) (pos y) _ _ _ _ _ ea eb ex ey turn)
  where
    same : (a b x y a' b' x' y' z : ℤ) → a ≡ a' → b ≡ b' → x ≡ x' → y ≡ y' → z ≡ x' -ℤ y' → (a +ℤ b) +ℤ (x -ℤ y) ≡ (a' +ℤ b') +ℤ z
    same a b x y a' b' x' y' z e f g h i = omega (arith, ints, e, f, g, h, i)

pub closed_first : (n j t a b x y : ℕ) (low high : ℕ → ℕ → ℤ) → t < 1 → t < n → y < 2 ^ 128 → pos a ≡ low j t → pos b ≡ high j t → pos x ≡ low j (t + n - 1) →
    pos y ≡ high j (t + n - 1) → residue (pos (((a + b) % 2 ^ 128 + (2 ^ 128 - (x + (2 ^ 128 - y)) % 2 ^ 128)) % 2 ^ 128)) ≡ residue (closed n low high j t)
unfolding closed
closed_first n j t a b x y low high none p fits ea eb ex ey =
    let turn : turns n (λ u. low j u -ℤ high j u) 1 t ≡ neg_ℤ (low j (t + n - 1) -ℤ high j (t + n - 1)) =
    sym (turned_turns n (λ u. low j u -ℤ high j u) 1 t (omega arith) p) ∙ turned_high n (λ u. low j u -ℤ high j u) 1 t none in
    residue-wrapping_sub ((a + b) % 2 ^ 128) ((x + (2 ^ 128 - y)) % 2 ^ 128) (omega arith)
    ∙ residue-sub (pos ((a + b) % 2 ^ 128)) (pos a +ℤ pos b) (pos ((x + (2 ^ 128 - y)) % 2 ^ 128)) (pos x -ℤ pos y)
    (residue-wrapping_add a b) (residue-wrapping_sub x y (omega (arith, fits)))
    ∙ ap residue (same (pos a) (pos b) (pos x) (pos y) _ _ _ _ _ ea eb ex ey turn)
  where
    same : (a b x y a' b' x' y' z : ℤ) → a ≡ a' → b ≡ b' → x ≡ x' → y ≡ y' → z ≡ neg_ℤ (x' -ℤ y') → (a +ℤ b) -ℤ (x -ℤ y) ≡ (a' +ℤ b') +ℤ z
    same a b x y a' b' x' y' z e f g h i = omega (arith, ints, e, f, g, h, i)

-- ---- the word of a number of which 32 times is known
pub recovers : (total known : ℕ) (c : ℤ) → residue (pos total) ≡ residue (pos 32 *ℤ c) → known ≡ total % 2 ^ 69 →
    Recovers (pos (known % 2 ^ 30)) (pos (known / 2 ^ 30)) c
recovers total known c e is =
    let g = gap_is (pos total) (pos 32 *ℤ c) e in
    let whole : pos (known % 2 ^ 30) +ℤ pos (2 ^ 30) *ℤ pos (known / 2 ^ 30) ≡ pos 32 *ℤ c +ℤ pos (2 ^ 69) *ℤ (gap (pos total) (pos 32 *ℤ c) -ℤ pos (total / 2 ^ 69)) =
    omega (arith, ints, g, is) in
    let d = divided (pos (known % 2 ^ 30)) (pos (known / 2 ^ 30)) c (gap (pos total) (pos 32 *ℤ c) -ℤ pos (total / 2 ^ 69)) whole in
    record {
      quotient = d.0;
      divides = d.1;
      same = word_same (d.0 +ℤ pos (2 ^ 25) *ℤ pos (known / 2 ^ 30)) c (gap (pos total) (pos 32 *ℤ c) -ℤ pos (total / 2 ^ 69))
          (d.2 ∙ ap (λ z. c +ℤ z) (mul_comm_ℤ (pos (2 ^ 64)) (gap (pos total) (pos 32 *ℤ c) -ℤ pos (total / 2 ^ 69))));
    }
