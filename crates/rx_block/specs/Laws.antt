-- The law of fresh blocks.
use Rattle.std.specs.Prelude.{ℕ, pos, ◌-ℤ◌, ◌*◌, ◌^◌, ◌≤◌, ◌≡◌, List, length}
use Rattle.rx_laws.specs.Torus.{distance}
use Rattle.rx_laws.specs.Words.{of_words}
use Rattle.rx_laws.specs.Lwe.{lwe_phase}
use Rattle.rx_laws.specs.Decode.{unit, decoded}
use Rattle.rx_params.specs.declared.params.Params.{Params}
use Rattle.rx_params.specs.declared.kind.Kind.{Kind}
use Rattle.rx_params.specs.Acceptance.{FieldsInRange}
use Rattle.rx_params.specs.Kinds.{greatest}
use Rattle.rx_lwe.specs.Lwe.{phase_of}
use Rattle.rx_block.specs.Fresh.{fresh}
use Rattle.rx_block.specs.Keeps.{Keeps}

-- Whatever the key and the seeds are, the phase of a fresh block of x is within the noise bound of x times the unit, it
-- decodes to x, and the block keeps x.
pub record FreshLaws : Type 0 where
  pub near : (p : Params) (key mask_seed noise_seed : List ℕ) (number : ℕ) (kind : Kind) (x : ℕ) →
      distance (lwe_phase (length key) (of_words key) (of_words (fresh p key mask_seed noise_seed number kind x).words)
      -ℤ pos (unit p.message_bits * x)) ≤ 2 ^ p.glwe_bound
  pub decodes : (p : Params) (key mask_seed noise_seed : List ℕ) (number : ℕ) (kind : Kind) (x : ℕ) → FieldsInRange p →
      x ≤ greatest kind p.message_bits →
      decoded p.message_bits (phase_of key (fresh p key mask_seed noise_seed number kind x).words) ≡ x
  pub keeps : (p : Params) (key mask_seed noise_seed : List ℕ) (number : ℕ) (kind : Kind) (x : ℕ) → FieldsInRange p →
      x ≤ greatest kind p.message_bits → Keeps p key (fresh p key mask_seed noise_seed number kind x) x
