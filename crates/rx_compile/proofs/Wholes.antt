-- Whole numbers that planners give, against those that the table of values says.
use Rattle.std.proofs.Common.{◌≡◌, ℕ, zero, suc, ◌+◌, ◌-◌, ◌*◌, ◌/◌, ◌%◌, ◌^◌, ◌<◌, min, max, Bool, true, false, cond, ℤ, pos, ◌-ℤ◌, ◌+ℤ◌, ◌*ℤ◌, refl, sym, ◌∙◌, ap, subst, arith, inl, inr}
use Rattle.std.specs.Prelude.{neg_ℤ, int_lt, int_le, nat_lt, nat_le, not, ◌==◌}
use Rattle.std.specs.Int.{int_min, int_max, int_div_euclid}
use Rattle.std.specs.Ordering.{int_eq}
use Rattle.std.proofs.lemmas.Bool.{false≢true, cases_lt, cases_Bool, lt-ltb, le-ltb, eq-eqb, ne_eqb}
use Rattle.std.proofs.lemmas.Bool.Decides.{Decides-int_eq}
use Rattle.std.proofs.lemmas.Int.{ints}
use Rattle.std.proofs.Math.Nat.{mod-eq_of_lt}
use Rattle.rx_residue.specs.Residues.{residue, signed}
use Rattle.rx_residue.specs.Division.{quotient, remainder}
use Rattle.rx_residue.proofs.Turns.{residue_below, residue_by, residue_signed}
use Rattle.rx_language.specs.declared.kind.NameKind.{NameKind}
use Rattle.rx_language.specs.declared.kind.NameKind.TheVariants.{Int, Sint, Bit}
use Rattle.rx_language.specs.Kinds.{bits_of}
use Rattle.rx_meaning.specs.Operations.{number_by, truth}
use Rattle.rx_compile.specs.Arms.{is_signed}

-- ---- the number that a value stands for, by its sign
pub number_signed : (kind : NameKind) (x : ℕ) → is_signed kind ≡ true → number_by kind x ≡ signed (bits_of kind) x
number_signed (Int width) x e = absurd (false≢true e)
number_signed (Sint width) x e = refl
number_signed Bit x e = absurd (false≢true e)

pub number_plain : (kind : NameKind) (x : ℕ) → is_signed kind ≡ false → number_by kind x ≡ pos x
number_plain (Int width) x e = refl
number_plain (Sint width) x e = absurd (false≢true (sym e))
number_plain Bit x e = refl

-- ---- residues
pub residue_natural : (w n : ℕ) → n % 2 ^ w ≡ residue w (pos n)
unfolding residue
residue_natural w n = refl

-- a residue is below its power
pub residue_twice : (w : ℕ) (z : ℤ) → residue w z % 2 ^ w ≡ residue w z
residue_twice w z = mod-eq_of_lt (residue_below w z)

-- the residue of a number that is said with a width
pub residue_at : (v w : ℕ) (f : ℕ → ℤ) → v ≡ w → residue v (f v) % 2 ^ w ≡ residue w (f w)
residue_at v w f e = ap (λ k. residue k (f k) % 2 ^ w) e ∙ residue_twice w (f w)

-- ---- sums and differences
pub sum_whole : (w x y : ℕ) → (x + y) % 2 ^ w ≡ residue w (pos x +ℤ pos y)
unfolding residue
sum_whole w x y = refl

pub product_whole : (w x y : ℕ) → (x * y) % 2 ^ w ≡ residue w (pos x *ℤ pos y)
unfolding residue
product_whole w x y = refl

pub difference_whole : (v w x y : ℕ) → v ≡ w → y < 2 ^ v → (x + 2 ^ v - y) % 2 ^ w ≡ residue w (pos x -ℤ pos y)
difference_whole v w x y e h =
    let k : y < 2 ^ w = subst (λ (v : ℕ). y < 2 ^ v) e h in
    let m : ℕ = x + 2 ^ w - y in
    let z : (pos x -ℤ pos y) +ℤ pos (1 * 2 ^ w) ≡ pos m = omega (arith, ints) in
    ap (λ v. (x + 2 ^ v - y) % 2 ^ w) e ∙ sym (residue_by w (pos x -ℤ pos y) 1 m z)

pub opposite_whole : (v w x : ℕ) → v ≡ w → x < 2 ^ v → (2 ^ v - x) % 2 ^ w ≡ residue w (neg_ℤ (pos x))
opposite_whole v w x e h =
    let k : x < 2 ^ w = subst (λ (v : ℕ). x < 2 ^ v) e h in
    let m : ℕ = 2 ^ w - x in
    let z : neg_ℤ (pos x) +ℤ pos (1 * 2 ^ w) ≡ pos m = omega (arith, ints) in
    ap (λ v. (2 ^ v - x) % 2 ^ w) e ∙ sym (residue_by w (neg_ℤ (pos x)) 1 m z)

-- ---- quotients and remainders
pub quotient_whole : (v w x y : ℕ) → v ≡ w → quotient v x y % 2 ^ w ≡ residue w (pos (quotient w x y))
quotient_whole v w x y e = ap (λ k. quotient k x y % 2 ^ w) e ∙ residue_natural w (quotient w x y)

pub remainder_whole : (w x y : ℕ) → remainder x y % 2 ^ w ≡ residue w (pos (remainder x y))
remainder_whole w x y = residue_natural w (remainder x y)

-- ---- the lesser and the greater
min_natural : (x y : ℕ) → int_min (pos x) (pos y) ≡ pos (min x y)
min_natural x y =
    elim (cases_lt y x) [
      | inl l ↦ let m : y ≡ min x y = omega arith in ap (λ b. cond b (pos y) (pos x)) (lt-ltb y x l) ∙ ap pos m
      | inr l ↦ let m : x ≡ min x y = omega arith in ap (λ b. cond b (pos y) (pos x)) (le-ltb y x l) ∙ ap pos m
    ]

max_natural : (x y : ℕ) → int_max (pos x) (pos y) ≡ pos (max x y)
max_natural x y =
    elim (cases_lt y x) [
      | inl l ↦ let m : x ≡ max x y = omega arith in ap (λ b. cond b (pos x) (pos y)) (lt-ltb y x l) ∙ ap pos m
      | inr l ↦ let m : y ≡ max x y = omega arith in ap (λ b. cond b (pos x) (pos y)) (le-ltb y x l) ∙ ap pos m
    ]

pub min_whole : (kind : NameKind) (x y : ℕ) → is_signed kind ≡ false → min x y % 2 ^ bits_of kind ≡ residue (bits_of kind) (int_min (number_by kind x) (number_by kind y))
min_whole kind x y s =
    residue_natural (bits_of kind) (min x y)
    ∙ ap (residue (bits_of kind)) (sym (min_natural x y) ∙ ap (λ a. int_min a (pos y)) (sym (number_plain kind x s)) ∙ ap (int_min (number_by kind x)) (sym (number_plain kind y s)))

pub max_whole : (kind : NameKind) (x y : ℕ) → is_signed kind ≡ false → max x y % 2 ^ bits_of kind ≡ residue (bits_of kind) (int_max (number_by kind x) (number_by kind y))
max_whole kind x y s =
    residue_natural (bits_of kind) (max x y)
    ∙ ap (residue (bits_of kind)) (sym (max_natural x y) ∙ ap (λ a. int_max a (pos y)) (sym (number_plain kind x s)) ∙ ap (int_max (number_by kind x)) (sym (number_plain kind y s)))

pub smin_whole : (kind : NameKind) (v x y : ℕ) → is_signed kind ≡ true → v ≡ bits_of kind
    → residue v (int_min (signed v x) (signed v y)) % 2 ^ bits_of kind ≡ residue (bits_of kind) (int_min (number_by kind x) (number_by kind y))
smin_whole kind v x y s e =
    residue_at v (bits_of kind) (λ k. int_min (signed k x) (signed k y)) e
    ∙ ap (residue (bits_of kind)) (ap (λ a. int_min a (signed (bits_of kind) y)) (sym (number_signed kind x s)) ∙ ap (int_min (number_by kind x)) (sym (number_signed kind y s)))

pub smax_whole : (kind : NameKind) (v x y : ℕ) → is_signed kind ≡ true → v ≡ bits_of kind
    → residue v (int_max (signed v x) (signed v y)) % 2 ^ bits_of kind ≡ residue (bits_of kind) (int_max (number_by kind x) (number_by kind y))
smax_whole kind v x y s e =
    residue_at v (bits_of kind) (λ k. int_max (signed k x) (signed k y)) e
    ∙ ap (residue (bits_of kind)) (ap (λ a. int_max a (signed (bits_of kind) y)) (sym (number_signed kind x s)) ∙ ap (int_max (number_by kind x)) (sym (number_signed kind y s)))

-- ---- shifts
pub raised_whole : (w x k : ℕ) → (x * 2 ^ k) % 2 ^ w ≡ residue w (pos (x * 2 ^ k))
raised_whole w x k = residue_natural w (x * 2 ^ k)

pub lowered_whole : (kind : NameKind) (x k : ℕ) → is_signed kind ≡ false → x / 2 ^ k % 2 ^ bits_of kind ≡ residue (bits_of kind) (int_div_euclid (number_by kind x) (pos (2 ^ k)))
lowered_whole kind x k s =
    residue_natural (bits_of kind) (x / 2 ^ k)
    ∙ ap (λ z. residue (bits_of kind) (int_div_euclid z (pos (2 ^ k)))) (sym (number_plain kind x s))

pub filled_whole : (kind : NameKind) (v x k : ℕ) → is_signed kind ≡ true → v ≡ bits_of kind
    → residue v (int_div_euclid (signed v x) (pos (2 ^ k))) % 2 ^ bits_of kind ≡ residue (bits_of kind) (int_div_euclid (number_by kind x) (pos (2 ^ k)))
filled_whole kind v x k s e =
    residue_at v (bits_of kind) (λ v. int_div_euclid (signed v x) (pos (2 ^ k))) e
    ∙ ap (λ z. residue (bits_of kind) (int_div_euclid z (pos (2 ^ k)))) (sym (number_signed kind x s))

-- ---- bits
pub truth_bit : (b : Bool) → cond b 1 0 % 2 ^ 1 ≡ residue 1 (truth b)
unfolding residue
truth_bit true = refl
truth_bit false = refl

pub untruth_bit : (b : Bool) → cond b 0 1 % 2 ^ 1 ≡ residue 1 (truth (not b))
unfolding residue
untruth_bit true = refl
untruth_bit false = refl

pub less_whole : (kind : NameKind) (x y : ℕ) → is_signed kind ≡ false → cond (nat_lt x y) 1 0 % 2 ^ 1 ≡ residue 1 (truth (int_lt (number_by kind x) (number_by kind y)))
less_whole kind x y s =
    truth_bit (nat_lt x y)
    ∙ ap (λ b. residue 1 (truth b)) (ap (λ a. int_lt a (pos y)) (sym (number_plain kind x s)) ∙ ap (int_lt (number_by kind x)) (sym (number_plain kind y s)))

pub most_whole : (kind : NameKind) (x y : ℕ) → is_signed kind ≡ false → cond (nat_le x y) 1 0 % 2 ^ 1 ≡ residue 1 (truth (int_le (number_by kind x) (number_by kind y)))
most_whole kind x y s =
    truth_bit (nat_le x y)
    ∙ ap (λ b. residue 1 (truth b)) (ap (λ a. int_le a (pos y)) (sym (number_plain kind x s)) ∙ ap (int_le (number_by kind x)) (sym (number_plain kind y s)))

pub below_whole : (kind : NameKind) (v x y : ℕ) → is_signed kind ≡ true → v ≡ bits_of kind
    → cond (int_lt (signed v x) (signed v y)) 1 0 % 2 ^ 1 ≡ residue 1 (truth (int_lt (number_by kind x) (number_by kind y)))
below_whole kind v x y s e =
    truth_bit (int_lt (signed v x) (signed v y))
    ∙ ap (λ b. residue 1 (truth b))
    (ap (λ v. int_lt (signed v x) (signed v y)) e ∙ ap (λ a. int_lt a (signed (bits_of kind) y)) (sym (number_signed kind x s)) ∙ ap (int_lt (number_by kind x)) (sym (number_signed kind y s)))

pub at_most_whole : (kind : NameKind) (v x y : ℕ) → is_signed kind ≡ true → v ≡ bits_of kind
    → cond (int_le (signed v x) (signed v y)) 1 0 % 2 ^ 1 ≡ residue 1 (truth (int_le (number_by kind x) (number_by kind y)))
at_most_whole kind v x y s e =
    truth_bit (int_le (signed v x) (signed v y))
    ∙ ap (λ b. residue 1 (truth b))
    (ap (λ v. int_le (signed v x) (signed v y)) e ∙ ap (λ a. int_le a (signed (bits_of kind) y)) (sym (number_signed kind x s)) ∙ ap (int_le (number_by kind x)) (sym (number_signed kind y s)))

-- values within a kind that stand for one number are equal
number_same : (kind : NameKind) (x y : ℕ) → x < 2 ^ bits_of kind → y < 2 ^ bits_of kind → number_by kind x ≡ number_by kind y → x ≡ y
number_same (Int width) x y h k e = omega (arith, ints)
number_same (Sint zero) x y h k e = omega arith
number_same (Sint (suc w)) x y h k e = sym (residue_signed (suc w) x (omega arith) h) ∙ ap (residue (suc w)) e ∙ residue_signed (suc w) y (omega arith) k
number_same Bit x y h k e = omega (arith, ints)

pub equal_test : (kind : NameKind) (x y : ℕ) → x < 2 ^ bits_of kind → y < 2 ^ bits_of kind → (x == y) ≡ int_eq (number_by kind x) (number_by kind y)
equal_test kind x y h k =
    let d = Decides-int_eq (number_by kind x) (number_by kind y) in
    elim (cases_Bool (int_eq (number_by kind x) (number_by kind y))) [
      | inl e ↦ eq-eqb x y (number_same kind x y h k (d.0 e)) ∙ sym e
      | inr e ↦ ne_eqb x y (λ i. false≢true (sym e ∙ d.1 (ap (number_by kind) i))) ∙ sym e
    ]

pub equal_whole : (kind : NameKind) (x y : ℕ) → x < 2 ^ bits_of kind → y < 2 ^ bits_of kind
    → cond (x == y) 1 0 % 2 ^ 1 ≡ residue 1 (truth (int_eq (number_by kind x) (number_by kind y)))
equal_whole kind x y h k = truth_bit (x == y) ∙ ap (λ b. residue 1 (truth b)) (equal_test kind x y h k)

pub differ_whole : (kind : NameKind) (x y : ℕ) → x < 2 ^ bits_of kind → y < 2 ^ bits_of kind
    → cond (x == y) 0 1 % 2 ^ 1 ≡ residue 1 (truth (not (int_eq (number_by kind x) (number_by kind y))))
differ_whole kind x y h k = untruth_bit (x == y) ∙ ap (λ b. residue 1 (truth (not b))) (equal_test kind x y h k)
