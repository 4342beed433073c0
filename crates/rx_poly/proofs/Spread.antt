-- A plain product, as far as a loop over its terms has come, and from three products of halves.
use Rattle.std.proofs.Common.{◌≡◌, ℕ, suc, ℤ, pos, ◌+ℤ◌, ◌-ℤ◌, ◌*ℤ◌, ◌+◌, ◌-◌, ◌*◌, ◌<◌, ◌^◌, sym, ◌∙◌, ap, arith, add-one, inl, inr, List, length, get_or, take, drop, ◌++◌, replicate, subst}
use Rattle.std.proofs.lemmas.Bool.{cases_lt}
use Rattle.std.proofs.lemmas.Int.{ints}
use Rattle.std.proofs.lemmas.Grind.{common_steps}
use Rattle.std.proofs.lemmas.List.{get_or-take, get_or-drop, length-append, get_or-append_right}
use Rattle.std.proofs.Math.ListN.{get_or-append}
use lib.IntN.{neg_ℤ}
use Rattle.rx_laws.specs.Sum.{sum_to}
use Rattle.rx_laws.specs.Torus.{word}
use Rattle.rx_laws.specs.Words.{AreWords, of_words}
use Rattle.rx_laws.proofs.Sums.{sum_to-suc, sum_to-same, sum_to-split, sum_to-nothing}
use Rattle.rx_laws.proofs.Torus.{word-word, word-add, word-neg}
use Rattle.rx_ring.specs.Linear.{raised, cut, times, linear, half_sum, high_half}
use Rattle.rx_ring.proofs.Linear.{raised_at, raised_none, cut_in, cut_past, quarter_0, quarter_1, quarter_2, quarter_3, linear-word}
use Rattle.rx_ring.proofs.Parts.{part_before, part_in, part_after, part_read}
use Rattle.rx_poly.proofs.Convolutions.{sum_none, sum_more}
use borrow.Rule.Slice.PartMut.{put_mid}

pub word_again : (x : ℕ) (y : ℤ) → x ≡ word y → word (pos x) ≡ word y
word_again x y e = ap (λ k. word (pos k)) e ∙ word-word y

pub word-sub : (a b c d : ℤ) → word a ≡ word b → word c ≡ word d → word (a -ℤ c) ≡ word (b -ℤ d)
word-sub a b c d e f = word-add a b (neg_ℤ c) (neg_ℤ d) e (word-neg c d f)

-- the words of xs are those of old and the first m terms of each coefficient
abbrev pub HasTimes : ℕ → ℕ → (ℕ → ℤ) → (ℕ → ℤ) → List ℕ → List ℕ → Type 0
HasTimes n m a b old xs = (i : ℕ) → i < 2 * n → get_or xs i 0 ≡ word (of_words old i +ℤ times m a (cut n b) i)

pub times_none : (n : ℕ) (a b : ℕ → ℤ) (x i : ℕ) → x < 2 ^ 64 → x ≡ word (pos x +ℤ times 0 a (cut n b) i)
unfolding times
times_none n a b x i p = sum_none x (λ j. a j *ℤ raised j (cut n b) i) p

term_passed : (m u : ℕ) (x : ℤ) (f : ℕ → ℤ) → u ≡ word (x +ℤ sum_to m f) → f m ≡ pos 0 → u ≡ word (x +ℤ sum_to (m + 1) f)
term_passed m u x f e z =
    let s : sum_to (suc m) f ≡ sum_to m f +ℤ f m = sum_to-suc m f in
    let t : x +ℤ sum_to m f ≡ x +ℤ sum_to (suc m) f = omega (arith, ints) in
    e ∙ ap word (t ∙ ap (λ k. x +ℤ sum_to k f) (sym (add-one m)))

pub no_term : (a z : ℤ) → z ≡ pos 0 → a *ℤ z ≡ pos 0
no_term a z e = let n : a *ℤ pos 0 ≡ pos 0 = omega (arith, ints) in ap (λ x. a *ℤ x) e ∙ n

pub times_more : (n j k w : ℕ) (a : ℕ → ℤ) (bs old xs part : List ℕ) → j < n → k ≡ n → length xs ≡ 2 * n →
    word (pos w) ≡ word (a j) → HasTimes n j a (of_words bs) old xs →
    AreWords n (λ i. of_words (take k (drop j xs)) i +ℤ pos w *ℤ of_words bs i) part →
    HasTimes n (j + 1) a (of_words bs) old (put_mid j k xs part)
unfolding times
times_more n j k w a bs old xs part p e l is_w h are i q =
    let f : ℕ → ℤ = λ m. a m *ℤ raised m (cut n (of_words bs)) i in
    let x : ℤ = of_words old i in
    let P : Type 0 = get_or (put_mid j k xs part) i 0 ≡ word (x +ℤ sum_to (j + 1) f) in
    elim (cases_lt i j) as (λ _. P) [
      | inl r ↦
          part_before j k i xs part r (omega arith)
          ∙ term_passed j (get_or xs i 0) x f (h i q) (no_term (a j) (raised j (cut n (of_words bs)) i) (raised_none j (cut n (of_words bs)) i r))
      | inr r ↦
          let up : raised j (cut n (of_words bs)) i ≡ cut n (of_words bs) (i - j) = raised_at j (cut n (of_words bs)) i r in
          elim (cases_lt (i - j) n) as (λ _. P) [
            | inl s ↦
                let place : i ≡ j + (i - j) = omega arith in
                let here : get_or (take k (drop j xs)) (i - j) 0 ≡ get_or xs i 0 =
                part_read j k (i - j) xs (omega arith) ∙ ap (λ y. get_or xs y 0) (sym place) in
                ap (λ y. get_or (put_mid j k xs part) y 0) place
                ∙ part_in j k (i - j) xs part (omega (arith, are.count)) (omega arith)
                ∙ are.each (i - j) s
                ∙ ap (λ y. word (pos y +ℤ pos w *ℤ of_words bs (i - j))) here
                ∙ sum_more j (get_or xs i 0) w (get_or bs (i - j) 0) x (a j) f (h i q) is_w
                (ap (λ y. a j *ℤ y) (sym (up ∙ cut_in n (of_words bs) (i - j) s)))
            | inr s ↦
                part_after j k i xs part (omega arith) (omega arith) (are.count ∙ sym e)
                ∙ term_passed j (get_or xs i 0) x f (h i q)
                (no_term (a j) (raised j (cut n (of_words bs)) i) (up ∙ cut_past n (of_words bs) (i - j) s))
          ]
    ]

pub times_all : (n m : ℕ) (a b : ℕ → ℤ) (old xs : List ℕ) → m ≡ n → length xs ≡ 2 * n → HasTimes n m a b old xs →
    AreWords (2 * n) (λ i. of_words old i +ℤ linear n a b i) xs
unfolding linear
times_all n m a b old xs e l h = record {
  count = l;
  each = λ i p. h i p ∙ ap (λ k. word (of_words old i +ℤ times k a (cut n b) i)) e;
}

pub zeros : (i n : ℕ) (xs : List ℕ) → xs ≡ replicate n 0 → get_or xs i 0 ≡ 0
zeros i n xs e = ap (λ ys. get_or ys i 0) e ∙ grind (arith, common_steps)

-- terms that are nothing
pub passed : (m count : ℕ) (f : ℕ → ℤ) → ((k : ℕ) → k < count → f (m + k) ≡ pos 0) → sum_to m f ≡ sum_to (m + count) f
passed m count f h =
    let none : sum_to count (λ k. f (m + k)) ≡ pos 0 = sum_to-same count (λ k. f (m + k)) (λ k. pos 0) h ∙ sum_to-nothing count in
    omega (arith, ints, sum_to-split m count f)

-- sums that begin with zeros
pub from_nothing : (n : ℕ) (f : ℕ → ℤ) (old xs : List ℕ) → ((i : ℕ) → get_or old i 0 ≡ 0) →
    AreWords n (λ i. of_words old i +ℤ f i) xs → AreWords n f xs
from_nothing n f old xs z are = record {
  count = are.count;
  each = λ i p.
      let e : pos 0 +ℤ f i ≡ f i = omega (arith, ints) in
      are.each i p ∙ ap (λ x. word (pos x +ℤ f i)) (z i) ∙ ap word e;
}

-- ---- from three products of halves: p and q those of the low and of the high halves, m that of the sums; then the second half
-- of p and the first of q change
pub word_quarter : (x y z w : ℕ) (e f g k : ℤ) → x ≡ word e → y ≡ word f → z ≡ word g → w ≡ word k →
    word (pos x +ℤ ((pos y -ℤ pos z) -ℤ pos w)) ≡ word (e +ℤ ((f -ℤ g) -ℤ k))
word_quarter x y z w e f g k is_x is_y is_z is_w =
    word-add (pos x) e ((pos y -ℤ pos z) -ℤ pos w) ((f -ℤ g) -ℤ k) (word_again x e is_x)
    (word-sub (pos y -ℤ pos z) (f -ℤ g) (pos w) k
    (word-sub (pos y) f (pos z) g (word_again y f is_y) (word_again z g is_z)) (word_again w k is_w))

-- the halves of a list, each place after another
pub by_halves : (n : ℕ) (xs ys : List ℕ) (f : ℕ → ℕ) → length xs ≡ n → ((j : ℕ) → j < n → get_or xs j 0 ≡ f j) →
    ((j : ℕ) → j < n → get_or ys j 0 ≡ f (n + j)) → (i : ℕ) → i < 2 * n → get_or (xs ++ ys) i 0 ≡ f i
by_halves n xs ys f l g k i p =
    elim (cases_lt i n) as (λ _. get_or (xs ++ ys) i 0 ≡ f i) [
      | inl r ↦ get_or-append xs ys 0 i (omega arith) ∙ g i r
      | inr r ↦ get_or-append_right xs ys n i 0 l r ∙ k (i - n) (omega arith) ∙ ap f (omega arith)
    ]

pub by_cut : (h : ℕ) (xs : List ℕ) (f : ℕ → ℕ) → ((j : ℕ) → j < h → get_or (take h xs) j 0 ≡ f j) →
    ((j : ℕ) → j < h → get_or (drop h xs) j 0 ≡ f (h + j)) → (i : ℕ) → i < h + h → get_or xs i 0 ≡ f i
by_cut h xs f g k i p =
    elim (cases_lt i h) as (λ _. get_or xs i 0 ≡ f i) [
      | inl r ↦ sym (get_or-take h xs i 0 r) ∙ g i r
      | inr r ↦
          let place : h + (i - h) ≡ i = omega arith in
          ap (λ x. get_or xs x 0) (sym place) ∙ sym (get_or-drop h xs (i - h) 0) ∙ k (i - h) (omega arith) ∙ ap f place
    ]

joined_at : (h : ℕ) (a b : ℕ → ℤ) (m p q low high : List ℕ) →
    AreWords (h + h) (linear h (half_sum h a) (half_sum h b)) m → AreWords (h + h) (linear h a b) p →
    AreWords (h + h) (linear h (high_half h a) (high_half h b)) q → length low ≡ h + h → length high ≡ h + h →
    take h low ≡ take h p → drop h high ≡ drop h q →
    AreWords h (λ i. of_words p (h + i) +ℤ ((of_words m i -ℤ of_words p i) -ℤ of_words q i)) (drop h low) →
    AreWords h (λ i. of_words q i +ℤ ((of_words m (h + i) -ℤ of_words p (h + i)) -ℤ of_words q (h + i))) (take h high) →
    AreWords (2 * (h + h)) (linear (h + h) a b) (low ++ high)
joined_at h a b m p q low high is_m is_p is_q l k first fourth second third =
    let f : ℕ → ℕ = λ i. word (linear (h + h) a b i) in
    let in_low : (i : ℕ) → i < h + h → get_or low i 0 ≡ f i =
    by_cut h low f
    (λ j r. ap (λ xs. get_or xs j 0) first ∙ get_or-take h p j 0 r ∙ is_p.each j (omega arith) ∙ ap word (sym (quarter_0 h a b j r)))
    (λ j r. second.each j r
    ∙ word_quarter (get_or p (h + j) 0) (get_or m j 0) (get_or p j 0) (get_or q j 0)
    (linear h a b (h + j)) (linear h (half_sum h a) (half_sum h b) j) (linear h a b j) (linear h (high_half h a) (high_half h b) j)
    (is_p.each (h + j) (omega arith)) (is_m.each j (omega arith)) (is_p.each j (omega arith)) (is_q.each j (omega arith))
    ∙ ap word (sym (quarter_1 h a b j r))) in
    let in_high : (i : ℕ) → i < h + h → get_or high i 0 ≡ f (h + h + i) =
    by_cut h high (λ i. f (h + h + i))
    (λ j r. third.each j r
    ∙ word_quarter (get_or q j 0) (get_or m (h + j) 0) (get_or p (h + j) 0) (get_or q (h + j) 0)
    (linear h (high_half h a) (high_half h b) j) (linear h (half_sum h a) (half_sum h b) (h + j)) (linear h a b (h + j))
    (linear h (high_half h a) (high_half h b) (h + j))
    (is_q.each j (omega arith)) (is_m.each (h + j) (omega arith)) (is_p.each (h + j) (omega arith)) (is_q.each (h + j) (omega arith))
    ∙ ap word (sym (quarter_2 h a b j r)))
    (λ j r. ap (λ xs. get_or xs j 0) fourth ∙ get_or-drop h q j 0 ∙ is_q.each (h + j) (omega arith)
    ∙ ap word (sym (quarter_3 h a b j r))) in
    record { count = omega (arith, length-append low high); each = by_halves (h + h) low high f l in_low in_high }

pub joined : (n h : ℕ) (a b : ℕ → ℤ) (m p q low high : List ℕ) → n ≡ h + h →
    AreWords n (linear h (half_sum h a) (half_sum h b)) m → AreWords n (linear h a b) p →
    AreWords n (linear h (high_half h a) (high_half h b)) q → length low ≡ n → length high ≡ n →
    take h low ≡ take h p → drop h high ≡ drop h q →
    AreWords h (λ i. of_words p (h + i) +ℤ ((of_words m i -ℤ of_words p i) -ℤ of_words q i)) (drop h low) →
    AreWords h (λ i. of_words q i +ℤ ((of_words m (h + i) -ℤ of_words p (h + i)) -ℤ of_words q (h + i))) (take h high) →
    AreWords (2 * n) (linear n a b) (low ++ high)
joined n h a b m p q low high e is_m is_p is_q l k first fourth second third =
    subst (λ x. AreWords (2 * x) (linear x a b) (low ++ high)) (sym e)
    (joined_at h a b m p q low high
    (subst (λ x. AreWords x (linear h (half_sum h a) (half_sum h b)) m) e is_m)
    (subst (λ x. AreWords x (linear h a b) p) e is_p)
    (subst (λ x. AreWords x (linear h (high_half h a) (high_half h b)) q) e is_q)
    (l ∙ e) (k ∙ e) first fourth second third)

-- the product of lists that hold the words of c and d
pub linear_of_words : (n k h : ℕ) (a b : List ℕ) (c d : ℕ → ℤ) (xs : List ℕ) → n ≡ h → k ≡ 2 * h →
    ((i : ℕ) → i < h → get_or a i 0 ≡ word (c i)) → ((i : ℕ) → i < h → get_or b i 0 ≡ word (d i)) →
    AreWords k (linear n (of_words a) (of_words b)) xs → AreWords (2 * h) (linear h c d) xs
linear_of_words n k h a b c d xs e g is_a is_b are = record {
  count = are.count ∙ g;
  each = λ i p.
      are.each i (omega arith)
      ∙ ap (λ x. word (linear x (of_words a) (of_words b) i)) e
      ∙ linear-word h (of_words a) (of_words b) c d i (λ j r. word_again (get_or a j 0) (c j) (is_a j r)) (λ j r. word_again (get_or b j 0) (d j) (is_b j r));
}
