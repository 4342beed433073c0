-- The laws of evaluated cells.
use Rattle.std.specs.Prelude.{ℕ, ◌+◌, ◌<◌, ◌≤◌, ◌≡◌, List, length, map, get_or}
use Rattle.rx_net.specs.declared.net.Net.{Net}
use Rattle.rx_net.specs.Cells.{cell_count, degree, noise}
use Rattle.rx_net.specs.Legal.{Legal}
use Rattle.rx_params.specs.Acceptance.{Accepts}
use Rattle.rx_boot.specs.BootKeys.{boot_size}
use Rattle.rx_boot.specs.ServerKeys.{ServerWords}
use Rattle.rx_block.specs.declared.block.Block.{Block}
use Rattle.rx_block.specs.Combine.{no_block, degree_in, noise_in}
use Rattle.rx_crew.specs.Evaluation.{AreInputs, cell_words, evaluated}
use Rattle.rx_crew.specs.Noise.{KeepsCells}

-- There is a block for each cell, and it has the cell's words. The block of an input's cell is the one that was given. That of
-- a job has the degree that the net declares and a noise tag of 1. So no block passes the tags that the net declares.
pub record EvaluationLaws : Type 0 where
  pub count : (key : ServerWords) (net : Net) (inputs : List Block) → length (evaluated key net inputs) ≡ length inputs + length net.jobs
  pub words : (key : ServerWords) (net : Net) (inputs : List Block) → map (λ (b : Block). b.words) (evaluated key net inputs) ≡ cell_words key net inputs
  pub input : (key : ServerWords) (net : Net) (inputs : List Block) (c : ℕ) → c < length inputs →
      get_or (evaluated key net inputs) c no_block ≡ get_or inputs c no_block
  pub job_degree : (key : ServerWords) (net : Net) (inputs : List Block) (c : ℕ) → AreInputs key.params net inputs →
      length inputs ≤ c → c < cell_count net → degree_in (evaluated key net inputs) c ≡ degree net c
  pub job_noise : (key : ServerWords) (net : Net) (inputs : List Block) (c : ℕ) → AreInputs key.params net inputs →
      length inputs ≤ c → c < cell_count net → noise_in (evaluated key net inputs) c ≡ 1
  pub degrees : (key : ServerWords) (net : Net) (inputs : List Block) (c : ℕ) → AreInputs key.params net inputs → c < cell_count net →
      degree_in (evaluated key net inputs) c ≤ degree net c
  pub noises : (key : ServerWords) (net : Net) (inputs : List Block) (c : ℕ) → AreInputs key.params net inputs → c < cell_count net →
      noise_in (evaluated key net inputs) c ≤ noise net c

-- Under an accepted set every cell of a legal net keeps its value.
pub record KeepingLaws : Type 0 where
  pub cells : (key : ServerWords) (net : Net) (inputs : List Block) → Accepts key.params → length key.boot ≡ boot_size key.params →
      Legal net → net.space ≡ key.params.message_bits → AreInputs key.params net inputs → KeepsCells key net inputs
