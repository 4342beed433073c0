-- The evaluation of a net under a server key.
use Rattle.std.specs.Prelude.{ℕ, ◌+◌, ◌^◌, ◌≡◌, ◌<◌, ◌≤◌, List, [], ◌∷◌, ◌++◌, length, map, get_or, drop, replicate, EachIndex, slice_index}
use Rattle.std.specs.List.{flat_map}
use Rattle.rx_params.specs.declared.params.Params.{Params}
use Rattle.rx_params.specs.Derived.{large_dim}
use Rattle.rx_net.specs.declared.net.Job.{Job}
use Rattle.rx_net.specs.declared.net.Net.{Net}
use Rattle.rx_net.specs.Cells.{input_cells, cells_of, operand_words, degree, noise}
use Rattle.rx_boot.specs.ServerKeys.{ServerWords}
use Rattle.rx_block.specs.declared.block.Block.{Block}
use Rattle.rx_block.specs.Combine.{no_block, degree_in, noise_in, AreBlocksOf}
use Rattle.rx_crew.specs.Kernel.{key_basis, job_words}

-- the words of all cells, in order
abbrev pub cell_words : ServerWords → Net → List Block → List (List ℕ)
cell_words key net inputs = cells_of job_words (key_basis key) net (map (λ (b : Block). b.words) inputs)

-- the blocks of the jobs: the degree that the job declares, and a noise tag of 1
abbrev pub job_blocks : List Job → List (List ℕ) → List Block
job_blocks [] cells = []
job_blocks (j ∷ js) [] = []
job_blocks (j ∷ js) (words ∷ cells) = record { words = words; degree = j.degree; noise = 1 } ∷ job_blocks js cells

-- the blocks of all cells: the inputs as they were given, and then those of the jobs
abbrev pub evaluated : ServerWords → Net → List Block → List Block
evaluated key net inputs = inputs ++ job_blocks net.jobs (drop (length inputs) (cell_words key net inputs))

-- the block of a job whose operands stand in these cells
abbrev pub job_block : ServerWords → Job → List Block → Block
job_block key job cells = record {
  words = job_words (key_basis key) job (operand_words (map (λ (b : Block). b.words) cells) job.terms);
  degree = job.degree;
  noise = 1;
}

-- a block of the set, before anything is written
abbrev pub zero_block : Params → Block
zero_block p = record { words = replicate (large_dim p + 1) 0; degree = 0; noise = 0 }

-- the words of blocks, one block after another
abbrev pub block_words : List Block → List ℕ
block_words blocks = flat_map (λ (b : Block). b.words) blocks

-- one block for each input cell, of the set's size and within the tags that the net declares
pub record AreInputs (p : Params) (net : Net) (inputs : List Block) : Type 0 where
  pub count : length inputs ≡ input_cells net.space net.inputs
  pub sizes : AreBlocksOf p inputs
  pub degrees : (c : ℕ) → c < length inputs → degree_in inputs c ≤ degree net c
  pub noises : (c : ℕ) → c < length inputs → noise_in inputs c ≤ noise net c

-- each word of the blocks is a word of the torus
abbrev pub AreWordsOf : List Block → Type 0
AreWordsOf blocks = (c : ℕ) → c < length blocks → let b : Block = get_or blocks c no_block in EachIndex b.words (λ i. slice_index b.words i < 2 ^ 64)
