-- A set is accepted exactly where nothing refuses it, and what refuses it where it is not.
use Rattle.std.proofs.Common.{lit≤, ℕ, suc, ◌≡◌, ◌<◌, ◌≤◌, ◌+◌, ◌*◌, ◌%◌, ◌^◌, ◌⊎◌, ◌==◌, nat_le, nat_lt, ◌&&◌, ◌||◌, Bool, true, false, List, [], ◌∷◌, ◌++◌, length, get_or, take, drop, Option, Some, None, Result, Ok, Err, IsOk, ◌↔◌, if◌then◌else◌, refl, sym, ◌∙◌, ap, inl, inr, add-one, arith}
use Rattle.std.proofs.lemmas.Bool.Decides.{nat_tests}
use Rattle.std.proofs.lemmas.List.{drop_all}
use Rattle.std.proofs.Math.Seq.{drop-cons}
use Rattle.std.specs.Option.{option_or}
use Rattle.rx_laws.specs.Decode.{plaintexts}
use Rattle.rx_params.specs.declared.params.Params.{Params}
use Rattle.rx_params.specs.declared.bounds.Bounds.{Bounds}
use Rattle.rx_params.specs.declared.bounds.Refused.{Refused}
use Rattle.rx_params.specs.declared.bounds.Refused.TheVariants.{Limit, NarrowBox, Noise}
use Rattle.rx_params.specs.declared.rotation.Rotation.{Rotation}
use Rattle.rx_params.specs.declared.rotation.Rotation.TheVariants.{Bits, Pairs}
use Rattle.rx_params.specs.Derived.{words_by, left_of, right_of, bounds_of, bounds_by}
use Rattle.rx_params.specs.Acceptance.{IsWithin, FieldsInRange, Accepts, PairAccepts, whole_turns, is_within, is_poly_size, limited, first_outside, box_refusal, noise_refusal, refusal_by, refusal_of, pair_refusal_of, answered, checked, pair_checked, checked_by}

-- the test of each field passes
pub record FieldsPass (r : Rotation) (p : Params) : Type 0 where
  pub message_bits : ((p.message_bits == 2) || (p.message_bits == 3)) ≡ true
  pub glwe_dim : is_within 1 4 p.glwe_dim ≡ true
  pub poly_size : is_poly_size p.poly_size ≡ true
  pub lwe_dim : (whole_turns r p.lwe_dim && is_within 1 1024 p.lwe_dim) ≡ true
  pub pbs_base_log : is_within 1 24 p.pbs_base_log ≡ true
  pub pbs_level : (is_within 1 30 p.pbs_level && nat_le (p.pbs_base_log * p.pbs_level) 60) ≡ true
  pub ks_base_log : is_within 1 24 p.ks_base_log ≡ true
  pub ks_level : (is_within 1 30 p.ks_level && nat_le (p.ks_base_log * p.ks_level) 60) ≡ true
  pub glwe_bound : nat_le p.glwe_bound 40 ≡ true
  pub lwe_bound : nat_le p.lwe_bound 40 ≡ true

pub two_or_three : (n : ℕ) → (n ≡ 2) ⊎ (n ≡ 3) → ((n == 2) || (n == 3)) ≡ true
two_or_three n h = grind (arith, nat_tests)

pub two_or_three-is : (n : ℕ) → ((n == 2) || (n == 3)) ≡ true → (n ≡ 2) ⊎ (n ≡ 3)
two_or_three-is n h = grind (arith, nat_tests)

pub two_or_three-within : (n : ℕ) → is_within 2 3 n ≡ ((n == 2) || (n == 3))
two_or_three-within n = grind (arith, nat_tests)

pub at_most-within : (high n : ℕ) → is_within 0 high n ≡ nat_le n high
at_most-within high n = grind (arith, nat_tests)

within : (low high n : ℕ) → IsWithin low high n → is_within low high n ≡ true
within low high n h = grind (arith, nat_tests)

within-is : (low high n : ℕ) → is_within low high n ≡ true → IsWithin low high n
within-is low high n h = grind (arith, nat_tests)

at_most : (n high : ℕ) → n ≤ high → nat_le n high ≡ true
at_most n high h = grind (arith, nat_tests)

at_most-is : (n high : ℕ) → nat_le n high ≡ true → n ≤ high
at_most-is n high h = grind (arith, nat_tests)

below-is : (n high : ℕ) → nat_lt n high ≡ true → n < high
below-is n high h = grind (arith, nat_tests)

both : (a b : Bool) → a ≡ true → b ≡ true → (a && b) ≡ true
both a b e f = grind arith

both-first : (a b : Bool) → (a && b) ≡ true → a ≡ true
both-first a b e = grind arith

both-second : (a b : Bool) → (a && b) ≡ true → b ≡ true
both-second a b e = grind arith

log_cases : (n : ℕ) → IsWithin 6 12 n → (n ≡ 6) ⊎ ((n ≡ 7) ⊎ ((n ≡ 8) ⊎ ((n ≡ 9) ⊎ ((n ≡ 10) ⊎ ((n ≡ 11) ⊎ ((n ≡ 12)))))))
log_cases n h = grind arith

size_cases : (n : ℕ) → is_poly_size n ≡ true → (n ≡ 64) ⊎ ((n ≡ 128) ⊎ ((n ≡ 256) ⊎ ((n ≡ 512) ⊎ ((n ≡ 1024) ⊎ ((n ≡ 2048) ⊎ ((n ≡ 4096)))))))
size_cases n h = grind (arith, nat_tests)

poly_size-power : (n : ℕ) → (n ≡ 6) ⊎ ((n ≡ 7) ⊎ ((n ≡ 8) ⊎ ((n ≡ 9) ⊎ ((n ≡ 10) ⊎ ((n ≡ 11) ⊎ ((n ≡ 12))))))) → is_poly_size (2 ^ n) ≡ true
poly_size-power n (inl e) = ap (λ k. is_poly_size (2 ^ k)) e
poly_size-power n (inr (inl e)) = ap (λ k. is_poly_size (2 ^ k)) e
poly_size-power n (inr (inr (inl e))) = ap (λ k. is_poly_size (2 ^ k)) e
poly_size-power n (inr (inr (inr (inl e)))) = ap (λ k. is_poly_size (2 ^ k)) e
poly_size-power n (inr (inr (inr (inr (inl e))))) = ap (λ k. is_poly_size (2 ^ k)) e
poly_size-power n (inr (inr (inr (inr (inr (inl e)))))) = ap (λ k. is_poly_size (2 ^ k)) e
poly_size-power n (inr (inr (inr (inr (inr (inr e)))))) = ap (λ k. is_poly_size (2 ^ k)) e

poly_size-log : (n : ℕ) → (n ≡ 64) ⊎ ((n ≡ 128) ⊎ ((n ≡ 256) ⊎ ((n ≡ 512) ⊎ ((n ≡ 1024) ⊎ ((n ≡ 2048) ⊎ ((n ≡ 4096))))))) → (log : ℕ) × IsWithin 6 12 log × (n ≡ 2 ^ log)
poly_size-log n (inl e) = (6, (lit≤ tt, lit≤ tt), e)
poly_size-log n (inr (inl e)) = (7, (lit≤ tt, lit≤ tt), e)
poly_size-log n (inr (inr (inl e))) = (8, (lit≤ tt, lit≤ tt), e)
poly_size-log n (inr (inr (inr (inl e)))) = (9, (lit≤ tt, lit≤ tt), e)
poly_size-log n (inr (inr (inr (inr (inl e))))) = (10, (lit≤ tt, lit≤ tt), e)
poly_size-log n (inr (inr (inr (inr (inr (inl e)))))) = (11, (lit≤ tt, lit≤ tt), e)
poly_size-log n (inr (inr (inr (inr (inr (inr e)))))) = (12, (lit≤ tt, lit≤ tt), e)

poly_size : (n : ℕ) → (log : ℕ) × IsWithin 6 12 log × (n ≡ 2 ^ log) → is_poly_size n ≡ true
poly_size n h = ap is_poly_size h.2 ∙ poly_size-power h.0 (log_cases h.0 h.1)

pub fields_pass : (r : Rotation) (p : Params) → FieldsInRange p → whole_turns r p.lwe_dim ≡ true → FieldsPass r p
fields_pass r p f w = record {
  message_bits = two_or_three p.message_bits f.message_bits;
  glwe_dim = within 1 4 p.glwe_dim f.glwe_dim;
  poly_size = poly_size p.poly_size f.poly_size;
  lwe_dim = both (whole_turns r p.lwe_dim) (is_within 1 1024 p.lwe_dim) w (within 1 1024 p.lwe_dim f.lwe_dim);
  pbs_base_log = within 1 24 p.pbs_base_log f.pbs_base_log;
  pbs_level =
      both (is_within 1 30 p.pbs_level) (nat_le (p.pbs_base_log * p.pbs_level) 60) (within 1 30 p.pbs_level f.pbs_level.0)
      (at_most (p.pbs_base_log * p.pbs_level) 60 f.pbs_level.1);
  ks_base_log = within 1 24 p.ks_base_log f.ks_base_log;
  ks_level =
      both (is_within 1 30 p.ks_level) (nat_le (p.ks_base_log * p.ks_level) 60) (within 1 30 p.ks_level f.ks_level.0)
      (at_most (p.ks_base_log * p.ks_level) 60 f.ks_level.1);
  glwe_bound = at_most p.glwe_bound 40 f.glwe_bound;
  lwe_bound = at_most p.lwe_bound 40 f.lwe_bound;
}

pub pass_whole : (r : Rotation) (p : Params) → FieldsPass r p → whole_turns r p.lwe_dim ≡ true
pass_whole r p f = both-first (whole_turns r p.lwe_dim) (is_within 1 1024 p.lwe_dim) f.lwe_dim

pub pass_fields : (r : Rotation) (p : Params) → FieldsPass r p → FieldsInRange p
pass_fields r p f = record {
  message_bits = two_or_three-is p.message_bits f.message_bits;
  glwe_dim = within-is 1 4 p.glwe_dim f.glwe_dim;
  poly_size = poly_size-log p.poly_size (size_cases p.poly_size f.poly_size);
  lwe_dim = within-is 1 1024 p.lwe_dim (both-second (whole_turns r p.lwe_dim) (is_within 1 1024 p.lwe_dim) f.lwe_dim);
  pbs_base_log = within-is 1 24 p.pbs_base_log f.pbs_base_log;
  pbs_level = (
    within-is 1 30 p.pbs_level (both-first (is_within 1 30 p.pbs_level) (nat_le (p.pbs_base_log * p.pbs_level) 60) f.pbs_level),
    at_most-is (p.pbs_base_log * p.pbs_level) 60 (both-second (is_within 1 30 p.pbs_level) (nat_le (p.pbs_base_log * p.pbs_level) 60) f.pbs_level),
  );
  ks_base_log = within-is 1 24 p.ks_base_log f.ks_base_log;
  ks_level = (
    within-is 1 30 p.ks_level (both-first (is_within 1 30 p.ks_level) (nat_le (p.ks_base_log * p.ks_level) 60) f.ks_level),
    at_most-is (p.ks_base_log * p.ks_level) 60 (both-second (is_within 1 30 p.ks_level) (nat_le (p.ks_base_log * p.ks_level) 60) f.ks_level),
  );
  glwe_bound = at_most-is p.glwe_bound 40 f.glwe_bound;
  lwe_bound = at_most-is p.lwe_bound 40 f.lwe_bound;
}

-- ---- the walk over the fields: what stands before this place is within its limits
abbrev pub AreInside : List (ℕ × Bool) → ℕ → Type 0
AreInside numbers place = first_outside 1 numbers ≡ first_outside (place + 1) (drop place numbers)

pub one_more_inside : (numbers : List (ℕ × Bool)) (place : ℕ) → place < length numbers → (get_or numbers place (0, false)).1 ≡ true →
    AreInside numbers place → AreInside numbers (place + 1)
one_more_inside numbers place below inside before =
    before ∙ rw (drop-cons numbers place (0, false) below, inside, add-one place) refl

pub first_is_outside : (numbers : List (ℕ × Bool)) (place : ℕ) → place < length numbers → (get_or numbers place (0, false)).1 ≡ false →
    AreInside numbers place → first_outside 1 numbers ≡ Some (Limit (place + 1) (get_or numbers place (0, false)).0)
first_is_outside numbers place below outside before =
    before ∙ rw (drop-cons numbers place (0, false) below, outside) refl

pub all_are_inside : (numbers : List (ℕ × Bool)) (place : ℕ) → length numbers ≤ place → AreInside numbers place → first_outside 1 numbers ≡ None
all_are_inside numbers place past before = before ∙ ap (first_outside (place + 1)) (drop_all place numbers past)

-- what refuses the first of some numbers refuses all
refused-append : (field : ℕ) (numbers others : List (ℕ × Bool)) (refused : Refused) → first_outside field numbers ≡ Some refused →
    first_outside field (numbers ++ others) ≡ Some refused
refused-append field [] others refused e = absurd cc
refused-append field ((n, true) ∷ numbers) others refused e = refused-append (field + 1) numbers others refused e
refused-append field ((n, false) ∷ numbers) others refused e = e

-- the first field that is outside its limit is the refusal
pub refused-field : (r : Rotation) (p : Params) (refused : Refused) → first_outside 1 (take 10 (limited r p)) ≡ Some refused → refusal_by r p ≡ Some refused
refused-field r p refused e =
    ap (λ o. option_or o (option_or (box_refusal p) (noise_refusal (bounds_by r p)))) (refused-append 1 (take 10 (limited r p)) (drop 10 (limited r p)) refused e)

-- nothing refuses what is sound alone
none-sound : (field n : ℕ) (b : Bool) (numbers : List (ℕ × Bool)) → first_outside field ((n, b) ∷ numbers) ≡ None →
    (b ≡ true) × (first_outside (field + 1) numbers ≡ None)
none-sound field n true numbers e = (refl, e)
none-sound field n false numbers e = cc

none-append : (field : ℕ) (numbers others : List (ℕ × Bool)) → first_outside field (numbers ++ others) ≡ None →
    (first_outside field numbers ≡ None) × (first_outside (field + length numbers) others ≡ None)
none-append field [] others e =
    let here : field + 0 ≡ field = omega arith in
    (refl, rw here e)
none-append field ((n, true) ∷ numbers) others e =
    let rest = none-append (field + 1) numbers others e in
    let further : field + suc (length numbers) ≡ field + 1 + length numbers = omega arith in
    (rest.0, rw further rest.1)
none-append field ((n, false) ∷ numbers) others e = absurd cc

-- no field is outside its limit exactly where each test passes
pub none_pass : (r : Rotation) (p : Params) → first_outside 1 (take 10 (limited r p)) ≡ None → FieldsPass r p
none_pass r p none =
    let t1 = none-sound 1 p.message_bits ((p.message_bits == 2) || (p.message_bits == 3)) (take 9 (drop 1 (limited r p))) none in
    let t2 = none-sound 2 p.glwe_dim (is_within 1 4 p.glwe_dim) (take 8 (drop 2 (limited r p))) t1.1 in
    let t3 = none-sound 3 p.poly_size (is_poly_size p.poly_size) (take 7 (drop 3 (limited r p))) t2.1 in
    let t4 = none-sound 4 p.lwe_dim (whole_turns r p.lwe_dim && is_within 1 1024 p.lwe_dim) (take 6 (drop 4 (limited r p))) t3.1 in
    let t5 = none-sound 5 p.pbs_base_log (is_within 1 24 p.pbs_base_log) (take 5 (drop 5 (limited r p))) t4.1 in
    let t6 = none-sound 6 p.pbs_level (is_within 1 30 p.pbs_level && nat_le (p.pbs_base_log * p.pbs_level) 60) (take 4 (drop 6 (limited r p))) t5.1 in
    let t7 = none-sound 7 p.ks_base_log (is_within 1 24 p.ks_base_log) (take 3 (drop 7 (limited r p))) t6.1 in
    let t8 = none-sound 8 p.ks_level (is_within 1 30 p.ks_level && nat_le (p.ks_base_log * p.ks_level) 60) (take 2 (drop 8 (limited r p))) t7.1 in
    let t9 = none-sound 9 p.glwe_bound (nat_le p.glwe_bound 40) (take 1 (drop 9 (limited r p))) t8.1 in
    let t10 = none-sound 10 p.lwe_bound (nat_le p.lwe_bound 40) [] t9.1 in
    record {
      message_bits = t1.0;
      glwe_dim = t2.0;
      poly_size = t3.0;
      lwe_dim = t4.0;
      pbs_base_log = t5.0;
      pbs_level = t6.0;
      ks_base_log = t7.0;
      ks_level = t8.0;
      glwe_bound = t9.0;
      lwe_bound = t10.0;
    }

pub pass_none : (r : Rotation) (p : Params) → FieldsPass r p → first_outside 1 (take 10 (limited r p)) ≡ None
pass_none r p f = rw (f.message_bits, f.glwe_dim, f.poly_size, f.lwe_dim, f.pbs_base_log, f.pbs_level, f.ks_base_log, f.ks_level, f.glwe_bound, f.lwe_bound) refl

-- where all fields pass, the size of a key, the box and the noise decide
passed : (r : Rotation) (p : Params) → FieldsPass r p →
    refusal_by r p ≡ option_or (if nat_le (words_by r p) (2 ^ 24) then None else Some (Limit 11 (words_by r p))) (option_or (box_refusal p) (noise_refusal (bounds_by r p)))
passed r p f = rw (f.message_bits, f.glwe_dim, f.poly_size, f.lwe_dim, f.pbs_base_log, f.pbs_level, f.ks_base_log, f.ks_level, f.glwe_bound, f.lwe_bound) refl

pub refused-key : (r : Rotation) (p : Params) → FieldsInRange p → whole_turns r p.lwe_dim ≡ true → 2 ^ 24 < words_by r p →
    refusal_by r p ≡ Some (Limit 11 (words_by r p))
refused-key r p f t h =
    let e : nat_le (words_by r p) (2 ^ 24) ≡ false = grind (arith, nat_tests) in
    passed r p (fields_pass r p f t) ∙ rw e refl

pub refused-box : (r : Rotation) (p : Params) → FieldsInRange p → whole_turns r p.lwe_dim ≡ true → words_by r p ≤ 2 ^ 24 →
    p.poly_size < 2 * plaintexts p.message_bits → refusal_by r p ≡ Some (NarrowBox p.poly_size (plaintexts p.message_bits))
refused-box r p f t k h =
    let e : nat_le (words_by r p) (2 ^ 24) ≡ true = grind (arith, nat_tests) in
    let n : nat_le (2 * plaintexts p.message_bits) p.poly_size ≡ false = grind (arith, nat_tests) in
    passed r p (fields_pass r p f t) ∙ rw (e, n) refl

-- all but the noise is right
pub record AllButNoise (r : Rotation) (p : Params) : Type 0 where
  pub fields : FieldsInRange p
  pub whole : whole_turns r p.lwe_dim ≡ true
  pub key : words_by r p ≤ 2 ^ 24
  pub wide : 2 * plaintexts p.message_bits ≤ p.poly_size

-- the noise alone decides there
noise_decides : (r : Rotation) (p : Params) → AllButNoise r p → refusal_by r p ≡ noise_refusal (bounds_by r p)
noise_decides r p a =
    let k : words_by r p ≤ 2 ^ 24 = a.key in
    let w : 2 * plaintexts p.message_bits ≤ p.poly_size = a.wide in
    let e : nat_le (words_by r p) (2 ^ 24) ≡ true = grind (arith, nat_tests) in
    let n : nat_le (2 * plaintexts p.message_bits) p.poly_size ≡ true = grind (arith, nat_tests) in
    passed r p (fields_pass r p a.fields a.whole) ∙ rw (e, n) refl

pub refused-noise : (r : Rotation) (p : Params) → AllButNoise r p → (bounds_by r p).right ≤ (bounds_by r p).left →
    refusal_by r p ≡ Some (Noise (bounds_by r p).left (bounds_by r p).right)
refused-noise r p a h =
    let l : nat_lt (bounds_by r p).left (bounds_by r p).right ≡ false = grind (arith, nat_tests) in
    noise_decides r p a ∙ rw l refl

pub not_refused : (r : Rotation) (p : Params) → AllButNoise r p → (bounds_by r p).left < (bounds_by r p).right → refusal_by r p ≡ None
not_refused r p a h =
    let l : nat_lt (bounds_by r p).left (bounds_by r p).right ≡ true = grind (arith, nat_tests) in
    noise_decides r p a ∙ rw l refl

none-first : (a b : Option Refused) → option_or a b ≡ None → (a ≡ None) × (b ≡ None)
none-first None b e = (refl, e)
none-first (Some r) b e = cc

none-unless : (b : Bool) (r : Refused) → (if b then None else Some r) ≡ None → b ≡ true
none-unless true r e = refl
none-unless false r e = cc

pub not_refused-is : (r : Rotation) (p : Params) → refusal_by r p ≡ None → AllButNoise r p × ((bounds_by r p).left < (bounds_by r p).right)
not_refused-is r p h =
    let o = none-first (first_outside 1 (limited r p)) (option_or (box_refusal p) (noise_refusal (bounds_by r p))) h in
    let b = none-first (box_refusal p) (noise_refusal (bounds_by r p)) o.1 in
    let n = none-append 1 (take 10 (limited r p)) (drop 10 (limited r p)) o.0 in
    let k = none-sound 11 (words_by r p) (nat_le (words_by r p) (2 ^ 24)) [] n.1 in
    let pass = none_pass r p n.0 in (
      record {
        fields = pass_fields r p pass;
        whole = pass_whole r p pass;
        key = at_most-is (words_by r p) (2 ^ 24) k.0;
        wide = at_most-is (2 * plaintexts p.message_bits) p.poly_size (none-unless (nat_le (2 * plaintexts p.message_bits) p.poly_size) (NarrowBox p.poly_size (plaintexts p.message_bits)) b.0);
      },
      below-is (bounds_by r p).left (bounds_by r p).right
          (none-unless (nat_lt (bounds_by r p).left (bounds_by r p).right) (Noise (bounds_by r p).left (bounds_by r p).right) b.1),
    )

-- ---- the answer of a check
pub checked_by-refused : (r : Rotation) (p : Params) (refused : Refused) → refusal_by r p ≡ Some refused → checked_by r p ≡ Err refused
checked_by-refused r p refused e = ap (λ o. answered o (bounds_by r p)) e

pub checked_by-accepted : (r : Rotation) (p : Params) → AllButNoise r p → (bounds_by r p).left < (bounds_by r p).right → checked_by r p ≡ Ok (bounds_by r p)
checked_by-accepted r p a h = ap (λ o. answered o (bounds_by r p)) (not_refused r p a h)

none-answered : (refusal : Option Refused) (bounds found : Bounds) → answered refusal bounds ≡ Ok found → refusal ≡ None
none-answered None bounds found e = refl
none-answered (Some refused) bounds found e = absurd cc

pub checked_by-is : (r : Rotation) (p : Params) (bounds : Bounds) → checked_by r p ≡ Ok bounds → AllButNoise r p × ((bounds_by r p).left < (bounds_by r p).right)
checked_by-is r p bounds e = not_refused-is r p (none-answered (refusal_by r p) (bounds_by r p) bounds e)

-- ---- a set is accepted exactly where its check says so
pub checked-by : (p : Params) → checked p ≡ checked_by Bits p
unfolding refusal_of
checked-by p = refl

pub pair_checked-by : (p : Params) → pair_checked p ≡ checked_by Pairs p
unfolding pair_refusal_of
pair_checked-by p = refl

all_but_noise : (p : Params) → Accepts p → AllButNoise Bits p
all_but_noise p a = record { fields = a.fields; whole = refl; key = a.key; wide = a.wide }

pub checked-accepted : (p : Params) → Accepts p → checked p ≡ Ok (bounds_of p)
checked-accepted p a = checked-by p ∙ checked_by-accepted Bits p (all_but_noise p a) a.below

pub checked-accepts : (p : Params) (bounds : Bounds) → checked p ≡ Ok bounds → Accepts p
checked-accepts p bounds e =
    let is = checked_by-is Bits p bounds (sym (checked-by p) ∙ e) in
    record { fields = is.0.fields; key = is.0.key; wide = is.0.wide; below = is.1 }

even : (n : ℕ) → n % 2 ≡ 0 → whole_turns Pairs n ≡ true
even n e = grind (arith, nat_tests)

even-is : (n : ℕ) → whole_turns Pairs n ≡ true → n % 2 ≡ 0
even-is n e = grind (arith, nat_tests)

pub pair_checked-accepted : (p : Params) → PairAccepts p → pair_checked p ≡ Ok (bounds_by Pairs p)
pair_checked-accepted p a =
    pair_checked-by p
    ∙ checked_by-accepted Pairs p (record { fields = a.fields; whole = even p.lwe_dim a.pairs; key = a.key; wide = a.wide }) a.below

pub pair_checked-accepts : (p : Params) (bounds : Bounds) → pair_checked p ≡ Ok bounds → PairAccepts p
pair_checked-accepts p bounds e =
    let is = checked_by-is Pairs p bounds (sym (pair_checked-by p) ∙ e) in
    record { fields = is.0.fields; pairs = even-is p.lwe_dim is.0.whole; key = is.0.key; wide = is.0.wide; below = is.1 }

-- what a code answers that is the answer of the check
pub checked_tells : (p : Params) (answer : Result Bounds Refused) → answer ≡ checked p → IsOk answer ↔ Accepts p
checked_tells p (Ok bounds) e = (λ h. checked-accepts p bounds (sym e), λ a. refl)
checked_tells p (Err refused) e = (λ h. absurd cc, λ a. let f = e ∙ checked-accepted p a in absurd cc)

pub pair_checked_tells : (p : Params) (answer : Result Bounds Refused) → answer ≡ pair_checked p → IsOk answer ↔ PairAccepts p
pair_checked_tells p (Ok bounds) e = (λ h. pair_checked-accepts p bounds (sym e), λ a. refl)
pair_checked_tells p (Err refused) e = (λ h. absurd cc, λ a. let f = e ∙ pair_checked-accepted p a in absurd cc)
