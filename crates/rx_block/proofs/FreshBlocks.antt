-- The law of fresh blocks.
use Rattle.std.proofs.Common.{◌≡◌, ℕ, pos, ◌-ℤ◌, ◌-◌, ◌*◌, ◌/◌, ◌^◌, ◌<◌, ◌≤◌, ◌⊎◌, inl, inr, sym, arith, subst, lit<, List, length}
use Rattle.std.proofs.Math.Pow.{pow_mono}
use Rattle.rx_laws.specs.Torus.{distance}
use Rattle.rx_laws.specs.Words.{of_words}
use Rattle.rx_laws.specs.Lwe.{lwe_phase}
use Rattle.rx_laws.specs.Decode.{plaintexts, unit, decoded}
use Rattle.rx_torus.specs.Streams.{Draws, stream_of}
use Rattle.rx_torus.specs.Kinds.{stream_number}
use Rattle.rx_torus.specs.declared.kind.StreamKind.TheVariants.{BlockMask, BlockNoise}
use Rattle.rx_params.specs.declared.params.Params.{Params}
use Rattle.rx_params.specs.declared.kind.Kind.{Kind}
use Rattle.rx_params.specs.declared.kind.Kind.TheVariants.{Int, Bit}
use Rattle.rx_params.specs.Acceptance.{FieldsInRange}
use Rattle.rx_params.specs.Kinds.{greatest}
use Rattle.rx_params.specs.Derived.{base_of}
use Rattle.rx_lwe.specs.Lwe.{phase_of, encrypted}
use Rattle.rx_lwe.proofs.Made.{encrypted-near}
use Rattle.rx_block.specs.declared.block.Block.{Block}
use Rattle.rx_block.specs.Fresh.{fresh}
use Rattle.rx_block.specs.Keeps.{Keeps}
use Rattle.rx_block.proofs.KeptNumbers.{near-decodes}

pub fresh-near : (p : Params) (key mask_seed noise_seed : List ℕ) (number : ℕ) (kind : Kind) (x : ℕ) →
    distance (lwe_phase (length key) (of_words key) (of_words (fresh p key mask_seed noise_seed number kind x).words)
    -ℤ pos (unit p.message_bits * x)) ≤ 2 ^ p.glwe_bound
unfolding fresh
fresh-near p key mask_seed noise_seed number kind x =
    encrypted-near key (stream_of mask_seed (stream_number BlockMask number))
    (stream_of noise_seed (stream_number BlockNoise number)) p.glwe_bound (unit p.message_bits * x)

-- a number without a carry is one of those that a block holds
greatest-below : (kind : Kind) (message_bits : ℕ) → (message_bits ≡ 2) ⊎ (message_bits ≡ 3) →
    greatest kind message_bits < plaintexts message_bits
greatest-below Int m (inl two) = let P : ℕ → Type 0 = λ n. 2 ^ n - 1 < 4 ^ n in subst P (sym two) (lit< tt)
greatest-below Int m (inr three) = let P : ℕ → Type 0 = λ n. 2 ^ n - 1 < 4 ^ n in subst P (sym three) (lit< tt)
greatest-below Bit m (inl two) = let P : ℕ → Type 0 = λ n. 1 < 4 ^ n in subst P (sym two) (lit< tt)
greatest-below Bit m (inr three) = let P : ℕ → Type 0 = λ n. 1 < 4 ^ n in subst P (sym three) (lit< tt)

unit-wide : (message_bits : ℕ) → (message_bits ≡ 2) ⊎ (message_bits ≡ 3) → 2 ^ 40 < unit message_bits / 2
unit-wide m (inl two) = let P : ℕ → Type 0 = λ n. 2 ^ 40 < unit n / 2 in subst P (sym two) (lit< tt)
unit-wide m (inr three) = let P : ℕ → Type 0 = λ n. 2 ^ 40 < unit n / 2 in subst P (sym three) (lit< tt)

pub fresh-decodes : (p : Params) (key mask_seed noise_seed : List ℕ) (number : ℕ) (kind : Kind) (x : ℕ) → FieldsInRange p →
    x ≤ greatest kind p.message_bits →
    decoded p.message_bits (phase_of key (fresh p key mask_seed noise_seed number kind x).words) ≡ x
fresh-decodes p key mask_seed noise_seed number kind x fields below =
    let m : ℕ = p.message_bits in
    let bound : 2 ^ p.glwe_bound ≤ 2 ^ 40 = pow_mono fields.glwe_bound in
    near-decodes p key (fresh p key mask_seed noise_seed number kind x).words x (2 ^ p.glwe_bound) fields
    (omega (arith, below, greatest-below kind m fields.message_bits))
    (fresh-near p key mask_seed noise_seed number kind x)
    (omega (arith, bound, unit-wide m fields.message_bits))

base-fresh : (p : Params) → 2 ^ p.glwe_bound ≤ base_of p
unfolding base_of
base-fresh p = omega arith

pub fresh-keeps : (p : Params) (key mask_seed noise_seed : List ℕ) (number : ℕ) (kind : Kind) (x : ℕ) → FieldsInRange p →
    x ≤ greatest kind p.message_bits → Keeps p key (fresh p key mask_seed noise_seed number kind x) x
unfolding fresh
fresh-keeps p key mask_seed noise_seed number kind x fields below = record {
  value = below;
  degree = omega (arith, greatest-below kind p.message_bits fields.message_bits);
  noise = omega arith;
  near = omega (arith, fresh-near p key mask_seed noise_seed number kind x, base-fresh p);
}

-- a block of the right words and degree is the fresh one
pub fresh-is : (p : Params) (key mask_seed noise_seed : List ℕ) (number : ℕ) (kind : Kind) (x : ℕ) (words : List ℕ)
    (mask noise : Draws) (mask_number noise_number step value degree : ℕ) →
    words ≡ encrypted key mask noise p.glwe_bound (step * value) →
    mask ≡ stream_of mask_seed mask_number → mask_number ≡ stream_number BlockMask number →
    noise ≡ stream_of noise_seed noise_number → noise_number ≡ stream_number BlockNoise number →
    step ≡ unit p.message_bits → value ≡ x → degree ≡ greatest kind p.message_bits →
    ◌≡◌ {A = Block} (record { words = words; degree = degree; noise = 1 }) (fresh p key mask_seed noise_seed number kind x)
unfolding fresh
fresh-is p key mask_seed noise_seed number kind x words mask noise mask_number noise_number step value degree e f g h k l m n =
    cc
