-- What a weighted sum of blocks keeps.
use Rattle.std.proofs.Common.{◌≡◌, ℕ, ℤ, pos, ◌-ℤ◌, ◌*ℤ◌, ◌≤ℤ◌, ◌-◌, ◌*◌, ◌<◌, ◌≤◌, refl, ap, arith, nat_abs, nat_lt, int_lt, if◌then◌else◌, Bool, true, false, List, length, Result, Ok, Err}
use Rattle.std.proofs.lemmas.Bool.{ltb-false}
use Rattle.std.proofs.lemmas.Int.{ints}
use Rattle.rx_laws.specs.Torus.{distance}
use Rattle.rx_laws.specs.Words.{of_words}
use Rattle.rx_laws.specs.Lwe.{lwe_phase}
use Rattle.rx_laws.specs.Decode.{plaintexts, unit}
use Rattle.rx_params.specs.declared.params.Params.{Params}
use Rattle.rx_params.specs.Derived.{large_dim, noise_limit, base_of}
use Rattle.rx_net.specs.declared.term.Term.{Term}
use Rattle.rx_net.specs.Tags.{value_of, low_of, high_of, noise_of, natural}
use Rattle.rx_net.proofs.Bounded.{natural_is}
use Rattle.rx_boot.specs.Noise.{IsNear}
use Rattle.rx_block.specs.declared.block.Block.{Block}
use Rattle.rx_block.specs.declared.block.TagFault.{TagFault}
use Rattle.rx_block.specs.declared.block.TagFault.TheVariants.{Range, Noise}
use Rattle.rx_block.specs.Combine.{degree_in, noise_in, mixed_words, combined_within, combined}
use Rattle.rx_block.specs.Noise.{KeepOperands, KeepsSum}
use Rattle.rx_block.proofs.KeptBounds.{kept-low, kept-high}
use Rattle.rx_block.proofs.MixedPhases.{words_at, held_at, mixed-near}
use Rattle.rx_block.proofs.Tagged.{not_less}

-- The mixed words of blocks that keep values hold the weighted sum of those values within the weighted sum of their noises.
pub kept-near : (p : Params) (key : List ℕ) (blocks : List Block) (terms : List Term) (constant : ℤ) (value : ℕ → ℕ) →
    length key ≡ large_dim p → KeepOperands p key blocks terms value → pos 0 ≤ℤ value_of value constant terms →
    IsNear p key (mixed_words p blocks terms constant) (natural (value_of value constant terms)) (noise_of (noise_in blocks) terms * base_of p)
kept-near p key blocks terms constant value size h some =
    let step : ℕ = unit p.message_bits in
    let whole : ℤ = value_of value constant terms in
    let phase : ℕ → List ℕ → ℤ = λ d words. lwe_phase d (of_words key) (of_words words) in
    let resized : (words : List ℕ) (z : ℤ) → distance (phase (length key) words -ℤ z) ≡ distance (phase (large_dim p) words -ℤ z) =
    λ words z. ap (λ d. distance (phase d words -ℤ z)) size in
    let near : (t : ℕ) → t < length terms →
    distance (phase (large_dim p) (words_at blocks terms t) -ℤ pos (step * held_at value terms t)) ≤ held_at (noise_in blocks) terms t * base_of p =
    λ t q. omega (arith, resized (words_at blocks terms t) (pos (step * held_at value terms t)), (h t q).near) in
    let words : List ℕ = mixed_words p blocks terms constant in
    let hidden : pos (step * natural whole) ≡ pos step *ℤ whole = ap (λ z. pos step *ℤ z) (natural_is whole some) in
    omega (
      arith,
      resized words (pos (step * natural whole)),
      ap (λ z. distance (phase (large_dim p) words -ℤ z)) hidden,
      mixed-near (large_dim p) step (base_of p) (of_words key) blocks terms constant value near,
    )

-- a test that an answer has passed
passed : {A E : Type 0} (test : Bool) (fault : E) (rest : Result A E) (x : A) → (if test then Err fault else rest) ≡ Ok x →
    (test ≡ false) × (rest ≡ Ok x)
passed true fault rest x e = absurd cc
passed false fault rest x e = (refl, e)

-- a sum that no test has refused, and its parts
record IsCombined (m : ℕ) (low high : ℤ) (noise : ℕ) (words : List ℕ) (sum : Block) : Type 0 where
  low_fits : pos 0 ≤ℤ low
  high_fits : high ≤ℤ pos (plaintexts m - 1)
  noise_fits : noise ≤ noise_limit m
  words_are : sum.words ≡ words
  degree_is : sum.degree ≡ nat_abs high
  noise_is : sum.noise ≡ noise

is-combined : (m : ℕ) (low high : ℤ) (noise : ℕ) (words : List ℕ) (sum : Block) → combined_within m low high noise words ≡ Ok sum →
    IsCombined m low high noise words sum
is-combined m low high noise words sum e =
    let made : Block = record { words = words; degree = nat_abs high; noise = noise } in
    let quiet : Result Block TagFault = if nat_lt (noise_limit m) noise then Err (Noise noise) else Ok made in
    let inside : Result Block TagFault = if int_lt (pos (plaintexts m - 1)) high then Err (Range low high) else quiet in
    let first = passed (int_lt low (pos 0)) (Range low high) inside sum e in
    let second = passed (int_lt (pos (plaintexts m - 1)) high) (Range low high) quiet sum first.1 in
    let third = passed (nat_lt (noise_limit m) noise) (Noise noise) (Ok made) sum second.1 in
    let last : Ok made ≡ Ok sum = third.1 in
    let same : sum ≡ made = cc in
    record {
      low_fits = not_less low (pos 0) first.0;
      high_fits = not_less (pos (plaintexts m - 1)) high second.0;
      noise_fits = ltb-false (noise_limit m) noise third.0;
      words_are = ap (λ (b : Block). b.words) same;
      degree_is = ap (λ (b : Block). b.degree) same;
      noise_is = ap (λ (b : Block). b.noise) same;
    }

pub kept-sum : (p : Params) (blocks : List Block) (terms : List Term) (constant : ℤ) (sum : Block) →
    combined p blocks terms constant ≡ Ok sum → KeepsSum p blocks terms constant sum
kept-sum p blocks terms constant sum e = λ key value size h.
    let whole : ℤ = value_of value constant terms in
    let low : ℤ = low_of (degree_in blocks) constant terms in
    let high : ℤ = high_of (degree_in blocks) constant terms in
    let noise : ℕ = noise_of (noise_in blocks) terms in
    let words : List ℕ = mixed_words p blocks terms constant in
    let is : IsCombined p.message_bits low high noise words sum = is-combined p.message_bits low high noise words sum e in
    let some : pos 0 ≤ℤ whole = omega (arith, ints, is.low_fits, kept-low p key blocks terms constant value h) in
    let most : whole ≤ℤ high = kept-high p key blocks terms constant value h in
    let far : List ℕ → ℕ = λ xs. distance (lwe_phase (length key) (of_words key) (of_words xs) -ℤ pos (unit p.message_bits * natural whole)) in
    record {
      value = omega (arith, ints, natural_is whole some, some, most, is.degree_is);
      degree = omega (arith, ints, some, most, is.high_fits, is.degree_is);
      noise = omega (arith, is.noise_fits, is.noise_is);
      near = omega (arith, ap far is.words_are, ap (λ n. n * base_of p) is.noise_is, kept-near p key blocks terms constant value size h some);
    }
