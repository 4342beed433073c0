-- Words from which terms are subtracted, one after another.
use Rattle.std.proofs.Common.{◌≡◌, ℕ, suc, ℤ, pos, ◌-ℤ◌, ◌+ℤ◌, ◌*ℤ◌, ◌≤ℤ◌, ◌+◌, ◌-◌, ◌^◌, ◌<◌, ◌≤◌, ◌⊎◌, inl, inr, refl, sym, ◌∙◌, ap, subst, arith, lit<, add-one, List, length, get_or, set, nat_lt, if◌then◌else◌}
use Rattle.std.specs.Prelude.{replicate}
use Rattle.std.proofs.Math.Pow.{pow_mono}
use Rattle.std.proofs.lemmas.Bool.{cases_lt, lt-ltb, le-ltb}
use Rattle.std.proofs.lemmas.Int.{ints, to_z-of_z}
use Rattle.std.proofs.lemmas.List.{get_or-set_same, get_or-set_other, get_or-replicate, length-replicate, length-set}
use Rattle.rx_laws.specs.Sum.{sum_to}
use Rattle.rx_laws.specs.Torus.{word}
use Rattle.rx_laws.specs.Digits.{IsDigits, digit}
use Rattle.rx_laws.specs.Words.{of_words, of_numbers, AreWords}
use Rattle.rx_laws.proofs.DigitValue.{digits_are}
use Rattle.rx_laws.proofs.Ring.{neg_mul}
use Rattle.rx_laws.proofs.Sums.{sum_to-zero, sum_to-suc, sum_to-same}
use Rattle.rx_laws.proofs.Torus.{word-add, word-word, word_of_word}
use Rattle.rx_laws.proofs.Words.{are-words_below}
use Rattle.rx_ring.specs.Switch.{switched, switched_by}
use Rattle.rx_lwe.specs.SwitchKeys.{SwitchRows, IsSized, switch_rows, switched_words}
use lib.IntN.{neg_ℤ}
use mir.Syntax.{w64}
use mir.Val.{SFits, of_z, to_z}

-- a function, less its first terms
abbrev pub less : ℕ → (ℕ → ℤ) → (ℕ → ℕ → ℤ) → ℕ → ℤ
less n start term i = start i -ℤ sum_to n (λ t. term t i)

-- a body with a mask of zeros
abbrev pub body_alone : ℕ → ℤ → ℕ → ℤ
body_alone d body i = if nat_lt i d then pos 0 else body

-- the digits of mask word u, times their rows
abbrev pub digit_rows : SwitchRows → List ℕ → ℕ → ℕ → ℤ
digit_rows s input u i =
    sum_to s.levels (λ t. digit s.base_log s.levels (word (of_words input u)) t *ℤ switch_rows s u t i)

pub switched-done : (s : SwitchRows) (input out : List ℕ) →
    AreWords (s.small + 1) (less s.big (body_alone s.small (of_words input s.big)) (digit_rows s input)) out → out ≡ switched_words s input
unfolding switched_by switched
switched-done s input out are =
    are-words_below (s.small + 1) (switched_by s.big s.small s.base_log s.levels (switch_rows s) (of_words input)) out are

pub AreWords-same : (n : ℕ) (f g : ℕ → ℤ) (xs : List ℕ) → ((i : ℕ) → i < n → f i ≡ g i) → AreWords n f xs → AreWords n g xs
AreWords-same n f g xs same are = record { count = are.count; each = λ i p. are.each i p ∙ ap word (same i p) }

-- the words of a list are those of its own numbers
pub AreWords-self : (n : ℕ) (xs : List ℕ) → length xs ≡ n → ((i : ℕ) → get_or xs i 0 < 2 ^ 64) → AreWords n (of_words xs) xs
AreWords-self n xs e fits = record { count = e; each = λ i p. sym (word_of_word (get_or xs i 0) (fits i)) }

-- what is subtracted from the words is subtracted from the function that they are the words of
pub AreWords-sub : (n : ℕ) (f g : ℕ → ℤ) (old new : List ℕ) → AreWords n f old → AreWords n (λ i. of_words old i -ℤ g i) new →
    AreWords n (λ i. f i -ℤ g i) new
AreWords-sub n f g old new before step = record {
  count = step.count;
  each = λ i p.
      step.each i p
      ∙ word-add (of_words old i) (f i) (neg_ℤ (g i)) (neg_ℤ (g i)) (ap (λ k. word (pos k)) (before.each i p) ∙ word-word (f i)) refl;
}

less-none : (start : ℕ → ℤ) (term : ℕ → ℕ → ℤ) (i : ℕ) → start i ≡ less 0 start term i
less-none start term i = omega (arith, ints, sum_to-zero (λ t. term t i))

less-more : (n : ℕ) (start : ℕ → ℤ) (term : ℕ → ℕ → ℤ) (i : ℕ) → less n start term i -ℤ term n i ≡ less (n + 1) start term i
less-more n start term i =
    let e : less n start term i -ℤ term n i ≡ start i -ℤ sum_to (suc n) (λ t. term t i) = omega (arith, ints, sum_to-suc n (λ t. term t i)) in
    e ∙ ap (λ k. less k start term i) (sym (add-one n))

-- nothing is subtracted yet
pub less-start : (n : ℕ) (start : ℕ → ℤ) (term : ℕ → ℕ → ℤ) (xs : List ℕ) → AreWords n start xs → AreWords n (less 0 start term) xs
less-start n start term xs are = AreWords-same n start (less 0 start term) xs (λ i p. less-none start term i) are

-- one more term is subtracted
pub less-step : (n done : ℕ) (start g : ℕ → ℤ) (term : ℕ → ℕ → ℤ) (old new : List ℕ) → AreWords n (less done start term) old →
    ((i : ℕ) → i < n → g i ≡ term done i) → AreWords n (λ i. of_words old i -ℤ g i) new → AreWords n (less (done + 1) start term) new
less-step n done start g term old new before same step =
    AreWords-same n (λ i. less done start term i -ℤ g i) (less (done + 1) start term) new
    (λ i p. ap (λ x. less done start term i -ℤ x) (same i p) ∙ less-more done start term i)
    (AreWords-sub n (less done start term) g old new before step)

-- a body over zeros, before any digit
body_at : (d body i : ℕ) (zeros : List ℕ) → zeros ≡ replicate (d + 1) 0 → body < 2 ^ 64 → i < d + 1 → (i < d) ⊎ (d ≤ i) →
    get_or (set zeros d body) i 0 ≡ word (body_alone d (pos body) i)
body_at d body i zeros e fits p (inl q) =
    get_or-set_other zeros d i body 0 (omega arith) ∙ ap (λ xs. get_or xs i 0) e ∙ get_or-replicate (d + 1) i 0 0 p
    ∙ sym (word_of_word 0 (lit< tt)) ∙ ap (λ b. word (if b then pos 0 else pos body)) (sym (lt-ltb i d q))
body_at d body i zeros e fits p (inr q) =
    let same : i ≡ d = omega arith in
    let count : length zeros ≡ d + 1 = ap length e ∙ length-replicate (d + 1) 0 in
    ap (λ k. get_or (set zeros d body) k 0) same ∙ get_or-set_same zeros d body 0 (omega (arith, count))
    ∙ sym (word_of_word body fits) ∙ ap (λ b. word (if b then pos 0 else pos body)) (sym (le-ltb i d q))

pub switched-start : (s : SwitchRows) (input zeros : List ℕ) → zeros ≡ replicate (s.small + 1) 0 →
    get_or input s.big 0 < 2 ^ 64 →
    AreWords (s.small + 1) (less 0 (body_alone s.small (of_words input s.big)) (digit_rows s input)) (set zeros s.small (get_or input s.big 0))
switched-start s input zeros e fits =
    let body : ℕ = get_or input s.big 0 in
    less-start (s.small + 1) (body_alone s.small (pos body)) (digit_rows s input) (set zeros s.small body)
    record {
      count = length-set zeros s.small body ∙ ap length e ∙ length-replicate (s.small + 1) 0;
      each = λ i p. body_at s.small body i zeros e fits p (cases_lt i s.small);
    }

-- the digits of one more mask word are subtracted
pub switched-step : (s : SwitchRows) (u : ℕ) (input old new : List ℕ) → get_or input u 0 < 2 ^ 64 →
    AreWords (s.small + 1) (less u (body_alone s.small (of_words input s.big)) (digit_rows s input)) old →
    AreWords (s.small + 1)
    (λ i. of_words old i -ℤ sum_to s.levels (λ t. digit s.base_log s.levels (get_or input u 0) t *ℤ switch_rows s u t i)) new →
    AreWords (s.small + 1) (less (u + 1) (body_alone s.small (of_words input s.big)) (digit_rows s input)) new
switched-step s u input old new fits before step =
    less-step (s.small + 1) u (body_alone s.small (of_words input s.big))
    (λ i. sum_to s.levels (λ t. digit s.base_log s.levels (get_or input u 0) t *ℤ switch_rows s u t i)) (digit_rows s input) old new before
    (λ i p. ap (λ w. sum_to s.levels (λ t. digit s.base_log s.levels w t *ℤ switch_rows s u t i)) (sym (word_of_word (get_or input u 0) fits)))
    step

-- the digits that a list holds are those of the word
pub digits-sum : (s : SwitchRows) (u w : ℕ) (ds : List ℤ) (old new : List ℕ) → IsSized s → IsDigits w s.base_log s.levels ds →
    AreWords (s.small + 1) (λ i. of_words old i -ℤ sum_to s.levels (λ t. of_numbers ds t *ℤ switch_rows s u t i)) new →
    AreWords (s.small + 1) (λ i. of_words old i -ℤ sum_to s.levels (λ t. digit s.base_log s.levels w t *ℤ switch_rows s u t i)) new
digits-sum s u w ds old new sized are step =
    AreWords-same (s.small + 1) (λ i. of_words old i -ℤ sum_to s.levels (λ t. of_numbers ds t *ℤ switch_rows s u t i))
    (λ i. of_words old i -ℤ sum_to s.levels (λ t. digit s.base_log s.levels w t *ℤ switch_rows s u t i)) new
    (λ i p. ap (λ x. of_words old i -ℤ x)
    (sum_to-same s.levels (λ t. of_numbers ds t *ℤ switch_rows s u t i) (λ t. digit s.base_log s.levels w t *ℤ switch_rows s u t i)
    (λ t q. ap (λ x. x *ℤ switch_rows s u t i) (digits_are w s.base_log s.levels ds sized.base_low (omega (arith, sized.digits)) are t q))))
    step

-- no digit is below this
pub digits-low : (s : SwitchRows) (w : ℕ) (ds : List ℤ) → IsSized s → IsDigits w s.base_log s.levels ds →
    (t : ℕ) → t < length ds → neg_ℤ (pos (2 ^ 23)) ≤ℤ get_or ds t (pos 0)
digits-low s w ds sized are t p =
    let exponent : s.base_log - 1 ≤ 23 = omega (arith, sized.base_high) in
    let bound : 2 ^ (s.base_log - 1) ≤ 2 ^ 23 = pow_mono exponent in
    omega (arith, ints, bound, are.low t (omega (arith, are.count)))

-- a digit times a row is subtracted
pub digit-subtracted : (n : ℕ) (d z : ℤ) (old new row : List ℕ) → z ≡ neg_ℤ d → length old ≡ n →
    AreWords (length old) (λ i. of_words old i +ℤ z *ℤ of_words row i) new → AreWords n (λ i. of_words old i -ℤ d *ℤ of_words row i) new
digit-subtracted n d z old new row e count are =
    let P : ℕ → Type 0 = λ m. AreWords m (λ i. of_words old i -ℤ d *ℤ of_words row i) new in
    subst P count
    (AreWords-same (length old) (λ i. of_words old i +ℤ z *ℤ of_words row i) (λ i. of_words old i -ℤ d *ℤ of_words row i) new
    (λ i p. ap (λ x. of_words old i +ℤ x) (ap (λ y. y *ℤ of_words row i) e ∙ neg_mul d (of_words row i))) are)

-- the opposite of a digit is a number of 64 bits
pub opposite-is : (d : ℤ) → SFits w64 d → neg_ℤ (pos (2 ^ 23)) ≤ℤ d → to_z w64 (of_z w64 (pos 0 -ℤ to_z w64 (of_z w64 d))) ≡ neg_ℤ d
opposite-is d fits low =
    let inner : to_z w64 (of_z w64 d) ≡ d = to_z-of_z w64 d fits in
    let e : pos 0 -ℤ to_z w64 (of_z w64 d) ≡ neg_ℤ d = omega (arith, ints, inner) in
    let f : SFits w64 (neg_ℤ d) = record { sfits = omega (arith, ints, fits.sfits, low) } in
    ap (λ x. to_z w64 (of_z w64 x)) e ∙ to_z-of_z w64 (neg_ℤ d) f
