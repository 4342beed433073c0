-- What a block holds.
use Rattle.std.specs.Prelude.{ℕ, ◌-◌, ◌*◌, ◌<◌, ◌≤◌, ◌≡◌, List, length, get_or, nat_le, if◌then◌else◌, Result, Ok, Err}
use Rattle.rx_laws.specs.Decode.{plaintexts, decoded}
use Rattle.rx_params.specs.declared.params.Params.{Params}
use Rattle.rx_params.specs.Derived.{noise_limit, base_of}
use Rattle.rx_lwe.specs.Lwe.{phase_of}
use Rattle.rx_boot.specs.Noise.{IsNear}
use Rattle.rx_block.specs.declared.block.Block.{Block}
use Rattle.rx_block.specs.declared.block.Damaged.{Damaged}
use Rattle.rx_block.specs.Combine.{no_block}

-- The block keeps the number x under the key: x is within the degree, the tags are within their limits, and the phase is
-- within the noise tag times the base noise of x times the unit.
pub record Keeps (p : Params) (key : List ℕ) (block : Block) (x : ℕ) : Type 0 where
  pub value : x ≤ block.degree
  pub degree : block.degree ≤ plaintexts p.message_bits - 1
  pub noise : block.noise ≤ noise_limit p.message_bits
  pub near : IsNear p key block.words x (block.noise * base_of p)

-- each of the blocks keeps the value of its place
pub record AreKept (p : Params) (key : List ℕ) (blocks : List Block) (values : List ℕ) : Type 0 where
  pub count : length values ≡ length blocks
  pub each : (c : ℕ) → c < length blocks → Keeps p key (get_or blocks c no_block) (get_or values c 0)

-- the number that a block decodes to, or both numbers where it exceeds the degree
abbrev pub within_degree : ℕ → ℕ → Result ℕ Damaged
within_degree number degree = if nat_le number degree then Ok number else Err (record { decoded = number; degree = degree })

abbrev pub decrypted : Params → List ℕ → Block → Result ℕ Damaged
decrypted p key block = within_degree (decoded p.message_bits (phase_of key block.words)) block.degree
