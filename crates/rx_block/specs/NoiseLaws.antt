-- The laws of what blocks keep, as a contract can name them.
use Rattle.std.specs.Prelude.{ℕ, ℤ, pos, ◌≤ℤ◌, ◌*◌, ◌≡◌, List, length, Ok}
use Rattle.rx_params.specs.declared.params.Params.{Params}
use Rattle.rx_params.specs.Acceptance.{Accepts}
use Rattle.rx_params.specs.Derived.{large_dim, base_of}
use Rattle.rx_net.specs.declared.term.Term.{Term}
use Rattle.rx_net.specs.Tags.{value_of, low_of, high_of, noise_of, natural}
use Rattle.rx_boot.specs.ServerKeys.{ServerWords}
use Rattle.rx_boot.specs.Noise.{IsNear}
use Rattle.rx_block.specs.declared.block.Block.{Block}
use Rattle.rx_block.specs.Combine.{degree_in, noise_in, mixed_words, combined}
use Rattle.rx_block.specs.Lookup.{looked_up}
use Rattle.rx_block.specs.Keeps.{Keeps, decrypted}
use Rattle.rx_block.specs.Noise.{KeepOperands, KeepsSum, KeepsEntry}

-- The weighted sum of what some blocks keep lies between the bounds that their degrees give, and where it is not negative its
-- words hold it within the weighted sum of the noise tags. So a sum that is not refused keeps it; a block that was looked up
-- keeps the table's entry where its degree is one of a block; and a block that keeps a number decrypts to it.
pub record KeepsLaws : Type 0 where
  pub low : (p : Params) (key : List ℕ) (blocks : List Block) (terms : List Term) (constant : ℤ) (value : ℕ → ℕ) →
      KeepOperands p key blocks terms value → low_of (degree_in blocks) constant terms ≤ℤ value_of value constant terms
  pub high : (p : Params) (key : List ℕ) (blocks : List Block) (terms : List Term) (constant : ℤ) (value : ℕ → ℕ) →
      KeepOperands p key blocks terms value → value_of value constant terms ≤ℤ high_of (degree_in blocks) constant terms
  pub near : (p : Params) (key : List ℕ) (blocks : List Block) (terms : List Term) (constant : ℤ) (value : ℕ → ℕ) →
      length key ≡ large_dim p → KeepOperands p key blocks terms value → pos 0 ≤ℤ value_of value constant terms →
      IsNear p key (mixed_words p blocks terms constant) (natural (value_of value constant terms)) (noise_of (noise_in blocks) terms * base_of p)
  pub sum : (p : Params) (blocks : List Block) (terms : List Term) (constant : ℤ) (sum : Block) →
      combined p blocks terms constant ≡ Ok sum → KeepsSum p blocks terms constant sum
  pub entry : (key : ServerWords) (table : List ℕ) (block : Block) → Accepts key.params → KeepsEntry key table block (looked_up key table block)
  pub number : (p : Params) (key : List ℕ) (block : Block) (x : ℕ) → Accepts p → Keeps p key block x → decrypted p key block ≡ Ok x
