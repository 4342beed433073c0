-- A worked evaluation, computed by the definitions.
use Rattle.std.proofs.Common.{◌≡◌, ◌*◌, ◌^◌, ℕ, ℤ, pos, negsuc, List, [], ◌∷◌, ◌++◌, refl, replicate}
use Rattle.rx_laws.specs.Sum.{sum_to}
use Rattle.rx_laws.specs.Torus.{word}
use Rattle.rx_laws.specs.Digits.{rests, digit}
use Rattle.rx_ring.specs.Polynomial.{turned, product, turns}
use Rattle.rx_ring.specs.Glwe.{external, extracted}
use Rattle.rx_ring.specs.Accumulator.{accumulator}
use Rattle.rx_ring.specs.Switch.{switched, switched_by}
use Rattle.rx_ring.specs.Rotation.{turn}
use Rattle.rx_params.specs.declared.params.Params.{Params}
use Rattle.rx_params.specs.Derived.{large_dim}
use Rattle.rx_params.specs.declared.kind.Kind.TheVariants.{Int}
use Rattle.rx_params.specs.Sets.{set_of, rx_test}
use Rattle.rx_net.specs.declared.net.Job.{Job}
use Rattle.rx_net.specs.declared.net.NetOutput.{NetOutput}
use Rattle.rx_net.specs.declared.net.Net.{Net}
use Rattle.rx_net.specs.Cells.{laid, cells_of}
use Rattle.rx_boot.specs.Bootstrap.{bootstrapped}
use Rattle.rx_boot.specs.ServerKeys.{ServerWords}
use Rattle.rx_block.specs.declared.block.Block.{Block}
use Rattle.rx_crew.specs.Kernel.{key_basis, basis_key, job_words}
use Rattle.rx_net.specs.Cells.{job_value, values_after, value}
use Rattle.rx_crew.specs.Noise.{output_values}
use Rattle.rx_block.specs.Outputs.{output_blocks}
use Rattle.rx_crew.specs.Evaluation.{evaluated, zero_block}
use Rattle.rx_crew.specs.Board.{board_words, board_limit}

-- ---- A toy: polynomials of 8 coefficients, one bit in the small key, one message bit. A table has 4 numbers, and the phase of 1 is
-- 2 ^ 61. The key encrypts the bit 1 without masks and noise, and the first word of a mask counts for 2 ^ 61.
abbrev toy : Params
toy = set_of 1 1 8 1 3 1 1 1 0 0

abbrev toy_key : ServerWords
toy_key = record {
  params = toy;
  boot = (2 ^ 61) ∷ (replicate 23 0 ++ (2 ^ 61) ∷ replicate 7 0);
  switch = (2 ^ 61) ∷ replicate 15 0;
}

key_again : basis_key (key_basis toy_key) ≡ toy_key
key_again = refl

-- a block whose phase is that of 2: its mask word takes one unit off the three of its body
abbrev given : Block
given = record { words = (2 ^ 63) ∷ (replicate 7 0 ++ (3 * 2 ^ 61) ∷ []); degree = 3; noise = 1 }

abbrev holding : ℕ → ℕ → Block
holding number degree = record { words = replicate 8 0 ++ (number * 2 ^ 61) ∷ []; degree = degree; noise = 1 }

abbrev job : ℕ → ℤ → ℤ → List ℕ → Job
job cell weight constant table = record { terms = record { cell = cell; weight = weight } ∷ []; constant = constant; table = table; degree = 3 }

-- one more than the block, looked up; then 3 less that number; and a job of no terms
abbrev jobs : List Job
jobs =
    job 0 (pos 1) (pos 1) (1 ∷ 0 ∷ 3 ∷ 2 ∷ [])
    ∷ job 1 (negsuc 0) (pos 3) (0 ∷ 3 ∷ 2 ∷ 1 ∷ [])
    ∷ record { terms = []; constant = pos 2; table = 0 ∷ 0 ∷ 1 ∷ 0 ∷ []; degree = 1 } ∷ []

abbrev output : List ℕ → NetOutput
output cells = record { name = []; kind = Int; bits = 1; cells = cells }

abbrev net : Net
net = record { space = 1; inputs = []; jobs = jobs; outputs = output (2 ∷ 0 ∷ []) ∷ output (2 ∷ []) ∷ [] }

cells : evaluated toy_key net (given ∷ []) ≡ given ∷ holding 2 3 ∷ holding 3 3 ∷ holding 1 1 ∷ []
unfolding cells_of laid job_words bootstrapped large_dim extracted turn turns turned external product accumulator switched switched_by digit rests sum_to word
cells = refl

-- the blocks of all outputs, one of them twice
outputs : output_blocks (given ∷ holding 2 3 ∷ holding 3 3 ∷ []) net.outputs ≡ holding 3 3 ∷ given ∷ holding 3 3 ∷ []
outputs = refl

zero : zero_block toy ≡ record { words = replicate 9 0; degree = 0; noise = 0 }
unfolding large_dim
zero = refl

-- three jobs of 257 words, a state and a count each; the board of no jobs has one word
boards : (board_words rx_test 3 ≡ 778) × (board_words rx_test 0 ≡ 1) × (board_limit ≡ 33554432)
unfolding large_dim
boards = (refl, refl, refl)

-- the values of the same outputs, for the number 2
values : output_values net (2 ∷ []) ≡ 3 ∷ 2 ∷ 3 ∷ []
unfolding laid job_value values_after value
values = refl
