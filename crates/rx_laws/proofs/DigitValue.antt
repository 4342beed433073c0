-- The digits of a word, computed, are its digits.
use Rattle.std.proofs.Common.{◌≡◌, ℕ, zero, suc, ℤ, pos, ◌+ℤ◌, ◌*ℤ◌, ◌-ℤ◌, ◌+◌, ◌-◌, ◌<◌, ◌≤◌, ◌<ℤ◌, ◌≤ℤ◌, List, length, get_or, refl, sym, ◌∙◌, ap, arith, ◌*◌, ◌/◌, ◌%◌, ◌^◌}
use Rattle.std.proofs.lemmas.Int.{ints}
use Rattle.std.proofs.lemmas.Nat.{pow-add, pow_pos, div-add-mod', mod_below}
use Rattle.std.proofs.Math.Nat.{pow-zero, pow-succ'}
use Rattle.std.specs.Int.RustNames.{unsigned_abs}
use Rattle.rx_laws.specs.Sum.{sum_to}
use Rattle.rx_laws.specs.Torus.{word, distance}
use Rattle.rx_laws.specs.Digits.{IsDigits, rounded, digits_total, rests, digit}
use Rattle.rx_laws.proofs.Sums.{sum_to-suc, sum_to-same}
use Rattle.rx_laws.proofs.Torus.{word_of_word, distance-word, word-add, distance-neg}
use Rattle.rx_laws.proofs.Ring.{add_mul, mul_assoc_ℤ}
use Rattle.rx_laws.proofs.Digits.{total_once, rounded_multiple, distance-rounded}
use Rattle.rx_laws.proofs.DigitLoop.{taken, taken-none, digits_done}
use lib.IntN.{neg_ℤ}

taken_rests : (b n v m : ℕ) (d : ℕ → ℤ) → m ≤ n →
    ((t : ℕ) → t < n → d t ≡ pos ((rests b v (n - suc t) + 2 ^ (b - 1)) % 2 ^ b) -ℤ pos (2 ^ (b - 1))) →
    pos (rests b v m) *ℤ pos (2 ^ (b * m)) +ℤ taken b n m d ≡ pos v
unfolding rests taken
taken_rests b n v zero d p h =
    let z : b * 0 ≡ 0 = omega arith in
    let one : 2 ^ (b * 0) ≡ 1 = ap (λ k. 2 ^ k) z ∙ pow-zero 2 in
    ap (λ k. pos v *ℤ pos k +ℤ taken b n 0 d) one ∙ omega (arith, ints, taken-none b n d)
taken_rests b n v (suc m) d p h =
    let r : ℕ = rests b v m in
    let half : ℕ = 2 ^ (b - 1) in
    let next : ℕ = (r + half) / 2 ^ b in
    let s : ℕ = 2 ^ (b * m) in
    let f : ℕ → ℤ = λ j. d (n - suc j) *ℤ pos (2 ^ (b * j)) in
    let e : n - suc (n - suc m) ≡ m = omega arith in
    let here : d (n - suc m) ≡ pos ((r + half) % 2 ^ b) -ℤ pos half =
    h (n - suc m) (omega arith) ∙ ap (λ k. pos ((rests b v k + half) % 2 ^ b) -ℤ pos half) e in
    let split : pos r ≡ pos next *ℤ pos (2 ^ b) +ℤ d (n - suc m) = omega (arith, ints, div-add-mod' (r + half) (2 ^ b)) in
    let scaled : pos r *ℤ pos s ≡ pos next *ℤ pos (2 ^ b) *ℤ pos s +ℤ d (n - suc m) *ℤ pos s =
    ap (λ k. k *ℤ pos s) split ∙ add_mul (pos next *ℤ pos (2 ^ b)) (d (n - suc m)) (pos s) in
    let i : b * suc m ≡ b + b * m = omega arith in
    let w : 2 ^ (b * suc m) ≡ 2 ^ b * s = ap (λ k. 2 ^ k) i ∙ pow-add 2 b (b * m) in
    let head : pos next *ℤ pos (2 ^ (b * suc m)) ≡ pos next *ℤ pos (2 ^ b) *ℤ pos s =
    ap (λ k. pos next *ℤ pos k) w ∙ sym (mul_assoc_ℤ (pos next) (pos (2 ^ b)) (pos s)) in
    let grown : sum_to (suc m) f ≡ sum_to m f +ℤ f m = sum_to-suc m f in
    let old : pos r *ℤ pos s +ℤ sum_to m f ≡ pos v = taken_rests b n v m d (omega arith) h in
    let new : pos next *ℤ pos (2 ^ (b * suc m)) +ℤ sum_to (suc m) f ≡ pos v = omega (arith, ints) in
    new

digit_is : (b l w t : ℕ) → digit b l w t ≡ pos ((rests b (rounded w (b * l) / 2 ^ (64 - b * l)) (l - suc t) + 2 ^ (b - 1)) % 2 ^ b) -ℤ pos (2 ^ (b - 1))
unfolding digit
digit_is b l w t = refl

pub digit_total : (b l w : ℕ) → b * l ≤ 63 → word (digits_total b l (digit b l w)) ≡ rounded w (b * l)
digit_total b l w p =
    let v : ℕ = rounded w (b * l) / 2 ^ (64 - b * l) in
    digits_done w b l v (rests b v l) (digit b l w) (omega arith) (rounded_multiple w (b * l) p)
    (taken_rests b l v l (digit b l w) (omega arith) (λ t _. digit_is b l w t))

digit_half : (b l w t : ℕ) → 1 ≤ b → (m : ℕ) × (m < 2 ^ b) × (digit b l w t ≡ pos m -ℤ pos (2 ^ (b - 1))) × (2 ^ b ≡ 2 * 2 ^ (b - 1))
digit_half b l w t p =
    let i : b ≡ suc (b - 1) = omega arith in (
      (rests b (rounded w (b * l) / 2 ^ (64 - b * l)) (l - suc t) + 2 ^ (b - 1)) % 2 ^ b,
      mod_below (rests b (rounded w (b * l) / 2 ^ (64 - b * l)) (l - suc t) + 2 ^ (b - 1)) (2 ^ b) (pow_pos b),
      digit_is b l w t,
      ap (λ k. 2 ^ k) i ∙ pow-succ' 2 (b - 1),
    )

pub digit_low : (b l w t : ℕ) → 1 ≤ b → neg_ℤ (pos (2 ^ (b - 1))) ≤ℤ digit b l w t
digit_low b l w t p = omega (arith, ints, digit_half b l w t p)

pub digit_high : (b l w t : ℕ) → 1 ≤ b → digit b l w t <ℤ pos (2 ^ (b - 1))
digit_high b l w t p = omega (arith, ints, digit_half b l w t p)

pub digit_size : (b l w t : ℕ) → 1 ≤ b → unsigned_abs (digit b l w t) ≤ 2 ^ (b - 1)
digit_size b l w t p =
    let half : ℕ = 2 ^ (b - 1) in
    let i : b ≡ suc (b - 1) = omega arith in
    let two : 2 ^ b ≡ 2 * half = ap (λ k. 2 ^ k) i ∙ pow-succ' 2 (b - 1) in
    let m : ℕ = (rests b (rounded w (b * l) / 2 ^ (64 - b * l)) (l - suc t) + half) % 2 ^ b in
    let k : m < 2 ^ b = mod_below (rests b (rounded w (b * l) / 2 ^ (64 - b * l)) (l - suc t) + half) (2 ^ b) (pow_pos b) in
    let e : digit b l w t ≡ pos m -ℤ pos half = digit_is b l w t in
    omega (arith, ints)

pub digit_gap : (b l w : ℕ) → b * l ≤ 63 → distance (digits_total b l (digit b l w) -ℤ pos w) ≤ 2 ^ (63 - b * l)
digit_gap b l w p =
    let t : ℤ = digits_total b l (digit b l w) in
    let r : ℕ = rounded w (b * l) in
    let e : word t ≡ word (pos r) = digit_total b l w p ∙ sym (word_of_word r (omega arith)) in
    let f : distance (t -ℤ pos w) ≡ distance (pos r -ℤ pos w) =
    distance-word (t -ℤ pos w) (pos r -ℤ pos w) (word-add t (pos r) (neg_ℤ (pos w)) (neg_ℤ (pos w)) e refl) in
    let g : distance (pos r -ℤ pos w) ≡ distance (neg_ℤ (pos w -ℤ pos r)) = ap distance (omega (arith, ints)) in
    omega (arith, distance-neg (pos w -ℤ pos r), distance-rounded w (b * l) p)

-- the list that the definition names has the computed digits
pub digits_are : (w b l : ℕ) (ds : List ℤ) → 1 ≤ b → b * l ≤ 63 → IsDigits w b l ds → (t : ℕ) → t < l → get_or ds t (pos 0) ≡ digit b l w t
digits_are w b l ds p q f =
    let i : b ≡ suc (b - 1) = omega arith in
    let two : 2 ^ b ≡ 2 * 2 ^ (b - 1) = ap (λ k. 2 ^ k) i ∙ pow-succ' 2 (b - 1) in
    total_once b l (λ t. get_or ds t (pos 0)) (digit b l w) (omega arith)
    (λ t r. omega (arith, ints, f.low t r, f.high t r, digit_low b l w t p, digit_high b l w t p))
    (f.total ∙ sym (digit_total b l w q))

pub IsDigits-digit : (w b l : ℕ) → 1 ≤ b → b * l ≤ 63 → (ds : List ℤ) → length ds ≡ l → ((t : ℕ) → t < l → get_or ds t (pos 0) ≡ digit b l w t) → IsDigits w b l ds
IsDigits-digit w b l p q ds e h = record {
  count = e;
  low = λ t r. omega (arith, ints, h t r, digit_low b l w t p);
  high = λ t r. omega (arith, ints, h t r, digit_high b l w t p);
  total =
      ap word (sum_to-same l (λ t. get_or ds t (pos 0) *ℤ pos (2 ^ (64 - b * suc t))) (λ t. digit b l w t *ℤ pos (2 ^ (64 - b * suc t)))
      (λ t r. ap (λ x. x *ℤ pos (2 ^ (64 - b * suc t))) (h t r)))
      ∙ digit_total b l w q;
}
