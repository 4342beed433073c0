-- The size of a noise.
use Rattle.std.proofs.Common.{◌≡◌, ℕ, pos, ◌-ℤ◌, ◌+◌, ◌*◌, ◌/◌, ◌%◌, ◌^◌, ◌<◌, ◌≤◌, arith}
use Rattle.std.proofs.lemmas.Int.{ints}
use Rattle.std.specs.Int.RustNames.{unsigned_abs}
use Rattle.std.proofs.lemmas.Nat.{pow_pos, pow-add}
use Rattle.rx_torus.specs.Streams.{uniform}

size_half : (r b : ℕ) → r < 4 * b → unsigned_abs (pos ((r + 1) / 2) -ℤ pos b) ≤ b
size_half r b p = omega (arith, ints)

-- the noise of a bound lies from - 2 ^ b to 2 ^ b
pub uniform-size : (b w : ℕ) → unsigned_abs (uniform b w) ≤ 2 ^ b
unfolding uniform
uniform-size b w =
    let e : 2 ^ (b + 2) ≡ 4 * 2 ^ b = omega (arith, pow-add 2 b 2) in
    let positive : 0 < 2 ^ (b + 2) = pow_pos (b + 2) in
    size_half (w % 2 ^ (b + 2)) (2 ^ b) (omega (arith, e, positive))
