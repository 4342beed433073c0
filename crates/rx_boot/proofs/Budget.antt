-- The powers of two of an accepted set, and its sums as the bounds of the laws.
use Rattle.std.proofs.Common.{◌≡◌, ℕ, ◌+◌, ◌-◌, ◌*◌, ◌/◌, ◌^◌, ◌<◌, ◌≤◌, ◌⊎◌, inl, inr, refl, sym, ◌∙◌, ap, arith}
use Rattle.std.proofs.lemmas.Bool.{cases_lt}
use Rattle.std.proofs.lemmas.Nat.{pow_pos, pow-add}
use Rattle.rx_laws.specs.Decode.{plaintexts, unit}
use Rattle.rx_ring.specs.Noise.{external_bound, turn_bound, switch_bound}
use Rattle.rx_params.specs.declared.params.Params.{Params}
use Rattle.rx_params.specs.Acceptance.{FieldsInRange, Accepts}
use Rattle.rx_params.specs.Derived.{large_dim, rest_of, step_of, boot_of, switch_of, round_of, left_of, right_of}
use Rattle.rx_boot.specs.Bootstrap.{half_box, half_mark}
use Rattle.rx_boot.specs.NoiseLaws.{BudgetLaws}
use Rattle.rx_boot.proofs.MarkPowers.{half_is}

-- a greater power of two is a multiple of a smaller one
multiple : (log low : ℕ) → low ≤ log → 2 ^ log ≡ 2 ^ (log - low) * 2 ^ low
multiple log low q =
    let parts : log ≡ log - low + low = omega arith in
    ap (λ k. 2 ^ k) parts ∙ pow-add 2 (log - low) low

-- ---- the boxes of a table
boxes_16 : (n j : ℕ) → n ≡ j * 64 → 16 * (2 * (n / 16 / 2)) ≡ n
boxes_16 n j size = omega (arith, size)

boxes_64 : (n j : ℕ) → n ≡ j * 128 → 64 * (2 * (n / 64 / 2)) ≡ n
boxes_64 n j size = omega (arith, size)

-- a polynomial of 64 coefficients is too short for 64 numbers
longer : (log : ℕ) → 6 ≤ log → 128 ≤ 2 ^ log → (log < 7) ⊎ (7 ≤ log) → 7 ≤ log
longer log low wide (inr q) = q
longer log low wide (inl q) =
    let six : log ≡ 6 = omega arith in
    let size : 2 ^ log ≡ 64 = ap (λ k. 2 ^ k) six in
    absurd (omega (arith, size))

boxes_of : (m n log : ℕ) → (m ≡ 2) ⊎ (m ≡ 3) → 6 ≤ log → n ≡ 2 ^ log → 2 * plaintexts m ≤ n → plaintexts m * (2 * (n / plaintexts m / 2)) ≡ n
boxes_of m n log (inl two) low size wide =
    ap (λ k. plaintexts k * (2 * (n / plaintexts k / 2))) two ∙ boxes_16 n (2 ^ (log - 6)) (size ∙ multiple log 6 low)
boxes_of m n log (inr three) low size wide =
    let numbers : plaintexts m ≡ 64 = ap plaintexts three in
    let above : 7 ≤ log = longer log low (omega (arith, numbers, size, wide)) (cases_lt log 7) in
    ap (λ k. plaintexts k * (2 * (n / plaintexts k / 2))) three ∙ boxes_64 n (2 ^ (log - 7)) (size ∙ multiple log 7 above)

pub boxes : (p : Params) → FieldsInRange p → 2 * plaintexts p.message_bits ≤ p.poly_size → plaintexts p.message_bits * (2 * half_box p) ≡ p.poly_size
boxes p fields wide = boxes_of p.message_bits p.poly_size fields.poly_size.0 fields.message_bits fields.poly_size.1.0 fields.poly_size.2 wide

-- ---- the marks
pub half_mark-power : (p : Params) (fields : FieldsInRange p) → half_mark p ≡ 2 ^ (62 - fields.poly_size.0)
half_mark-power p fields = sym (half_is fields.poly_size.0 p.poly_size fields.poly_size.1.1 (sym fields.poly_size.2))

pub some_half : (p : Params) → FieldsInRange p → 0 < half_mark p
some_half p fields = omega (arith, pow_pos (62 - fields.poly_size.0), half_mark-power p fields)

quarter : (p : Params) → FieldsInRange p → half_mark p * p.poly_size ≡ 2 ^ 62
quarter p fields =
    let log : ℕ = fields.poly_size.0 in
    let parts : 62 - log + log ≡ 62 = omega (arith, fields.poly_size.1.1) in
    ap (λ e. e * p.poly_size) (half_mark-power p fields) ∙ ap (λ n. 2 ^ (62 - log) * n) fields.poly_size.2
    ∙ sym (pow-add 2 (62 - log) log) ∙ ap (λ k. 2 ^ k) parts

round_once : (e n : ℕ) → e * n ≡ 2 ^ 62 → 2 * e * (2 * n) ≡ 2 ^ 64
round_once e n whole =
    let four : 2 * e * (2 * n) ≡ 4 * (e * n) = omega arith in
    omega (arith, four, whole)

pub marks_round : (p : Params) → FieldsInRange p → 2 * half_mark p * (2 * p.poly_size) ≡ 2 ^ 64
marks_round p fields = round_once (half_mark p) p.poly_size (quarter p fields)

-- ---- the unit
product_of : (numbers e h n : ℕ) → numbers * (2 * h) ≡ n → e * n ≡ 2 ^ 62 → numbers * 2 * (e * h) ≡ 2 ^ 62
product_of numbers e h n size whole =
    let same : numbers * 2 * (e * h) ≡ e * (numbers * (2 * h)) = omega arith in
    same ∙ ap (λ x. e * x) size ∙ whole

half_unit_of : (m x : ℕ) → (m ≡ 2) ⊎ (m ≡ 3) → plaintexts m * 2 * x ≡ 2 ^ 62 → 2 * x ≡ unit m / 2
half_unit_of m x (inl two) whole =
    let numbers : 16 * 2 * x ≡ 2 ^ 62 = ap (λ k. plaintexts k * 2 * x) (sym two) ∙ whole in
    let half : 2 * x ≡ 2 ^ 58 = omega (arith, numbers) in
    half ∙ ap (λ k. unit k / 2) (sym two)
half_unit_of m x (inr three) whole =
    let numbers : 64 * 2 * x ≡ 2 ^ 62 = ap (λ k. plaintexts k * 2 * x) (sym three) ∙ whole in
    let half : 2 * x ≡ 2 ^ 56 = omega (arith, numbers) in
    half ∙ ap (λ k. unit k / 2) (sym three)

even_unit : (m : ℕ) → (m ≡ 2) ⊎ (m ≡ 3) → 2 * (unit m / 2) ≡ unit m
even_unit m (inl two) = ap (λ k. 2 * (unit k / 2)) two ∙ ap unit (sym two)
even_unit m (inr three) = ap (λ k. 2 * (unit k / 2)) three ∙ ap unit (sym three)

pub half : (p : Params) → FieldsInRange p → 2 * plaintexts p.message_bits ≤ p.poly_size → 2 * half_mark p * half_box p ≡ right_of p
half p fields wide =
    let e : ℕ = half_mark p in
    let h : ℕ = half_box p in
    let order : 2 * e * h ≡ 2 * (e * h) = omega arith in
    order ∙ half_unit_of p.message_bits (e * h) fields.message_bits
    (product_of (plaintexts p.message_bits) e h p.poly_size (boxes p fields wide) (quarter p fields))

twice : (e h x u : ℕ) → 2 * e * h ≡ x → 2 * x ≡ u → 2 * e * (2 * h) ≡ u
twice e h x u p q =
    let order : 2 * e * (2 * h) ≡ 2 * (2 * e * h) = omega arith in
    order ∙ ap (λ y. 2 * y) p ∙ q

pub units : (p : Params) → FieldsInRange p → 2 * plaintexts p.message_bits ≤ p.poly_size → 2 * half_mark p * (2 * half_box p) ≡ unit p.message_bits
units p fields wide =
    twice (half_mark p) (half_box p) (right_of p) (unit p.message_bits) (half p fields wide) (even_unit p.message_bits fields.message_bits)

pub room : (p : Params) → Accepts p → left_of p < 2 * half_mark p * half_box p
room p ok = omega (arith, ok.below, half p ok.fields ok.wide)

-- ---- the sums
pub budget_laws : BudgetLaws
unfolding rest_of step_of boot_of switch_of round_of left_of large_dim external_bound turn_bound switch_bound
budget_laws = record {
  boxes = λ p ok. boxes p ok.fields ok.wide;
  marks = marks_round;
  units = λ p ok. units p ok.fields ok.wide;
  half = λ p ok. half p ok.fields ok.wide;
  step = λ p. refl;
  boot = λ p. refl;
  switch = λ p. refl;
  round = λ p. refl;
  left = λ p. refl;
  room = room;
}
