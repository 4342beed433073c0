-- A phase near a block's value decodes to it.
use Rattle.std.proofs.Common.{◌≡◌, ℕ, ℤ, suc, pos, negsuc, ◌+ℤ◌, ◌*ℤ◌, ◌-ℤ◌, ◌+◌, ◌-◌, ◌<◌, ◌≤◌, sym, ◌∙◌, ap, arith, ◌*◌, ◌/◌, ◌%◌, ◌^◌, ◌⊎◌, inl, inr, subst, refl}
use Rattle.std.proofs.lemmas.Int.{ints}
use Rattle.std.proofs.lemmas.Nat.{div-mul-add}
use Rattle.std.proofs.Math.Nat.{mul-le-mul_left}
use Rattle.std.specs.Int.RustNames.{unsigned_abs}
use Rattle.rx_laws.specs.Torus.{word, distance}
use Rattle.rx_laws.specs.Decode.{plaintexts, unit, decoded}
use Rattle.rx_laws.proofs.Torus.{distance_reached, word_is, word_of}

rest : ℤ → ℕ → ℕ
rest (pos n) h = h + n
rest (negsuc n) h = h - suc n

rest_is : (r : ℤ) (h : ℕ) → unsigned_abs r < h → pos (rest r h) ≡ r +ℤ pos h
unfolding rest
rest_is (pos n) h p = omega (arith, ints)
rest_is (negsuc n) h p = omega (arith, ints)

-- h is half of the unit, and the space has 2 * p units
pub decode_near : (h p phase x : ℕ) → 2 * h * (2 * p) ≡ 2 ^ 64 → x < 2 * p → distance (pos phase -ℤ pos (2 * h * x)) < h →
    (phase + h) % 2 ^ 64 / (2 * h) ≡ x
decode_near h p phase x whole q near =
    let t = distance_reached (pos phase -ℤ pos (2 * h * x)) in
    let e : pos phase -ℤ pos (2 * h * x) ≡ t.0 +ℤ t.1 *ℤ pos (2 ^ 64) = t.2 in
    let room : 2 * h * (x + 1) ≤ 2 * h * (2 * p) = mul-le-mul_left (2 * h) (omega arith) in
    let low : ℕ = rest t.0 h in
    let r : pos low ≡ t.0 +ℤ pos h = rest_is t.0 h (omega (arith, t.3, near)) in
    let b : low < 2 * h = omega (arith, ints, t.3, near, r) in
    let w : word (pos (phase + h)) ≡ x * (2 * h) + low =
    word_is (pos (phase + h)) t.1 (x * (2 * h) + low) (omega (arith, whole, room, b)) (omega (arith, ints, e, r)) in
    ap (λ k. k / (2 * h)) (sym (word_of (phase + h)) ∙ w) ∙ div-mul-add x (2 * h) low b

-- a phase nearer to that of x than half the unit decodes to x
pub decodes : (message_bits phase x : ℕ) → (message_bits ≡ 2) ⊎ (message_bits ≡ 3) → x < 2 * plaintexts message_bits →
    distance (pos phase -ℤ pos (unit message_bits * x)) < unit message_bits / 2 → decoded message_bits phase ≡ x
decodes m phase x (inl two) below near =
    let P : ℕ → Type 0 = λ n. x < 2 * plaintexts n → distance (pos phase -ℤ pos (unit n * x)) < unit n / 2 → decoded n phase ≡ x in
    subst P (sym two) (λ b n. decode_near (2 ^ 58) 16 phase x refl b n) below near
decodes m phase x (inr three) below near =
    let P : ℕ → Type 0 = λ n. x < 2 * plaintexts n → distance (pos phase -ℤ pos (unit n * x)) < unit n / 2 → decoded n phase ≡ x in
    subst P (sym three) (λ b n. decode_near (2 ^ 56) 64 phase x refl b n) below near
