-- Weighted sums of blocks.
use Rattle.std.specs.Prelude.{ℕ, ℤ, pos, ◌≡◌, ◌<◌, ◌+ℤ◌, ◌*ℤ◌, ◌+◌, ◌-◌, nat_abs, nat_lt, int_lt, if◌then◌else◌, List, [], length, get_or, Result, Ok, Err}
use Rattle.rx_laws.specs.Sum.{sum_to}
use Rattle.rx_laws.specs.Words.{words_below}
use Rattle.rx_laws.specs.Decode.{plaintexts, unit}
use Rattle.rx_params.specs.declared.params.Params.{Params}
use Rattle.rx_params.specs.Derived.{large_dim, noise_limit}
use Rattle.rx_net.specs.declared.term.Term.{Term}
use Rattle.rx_net.specs.Tags.{low_of, high_of, noise_of}
use Rattle.rx_block.specs.declared.block.Block.{Block}
use Rattle.rx_block.specs.declared.block.TagFault.{TagFault}
use Rattle.rx_block.specs.declared.block.TagFault.TheVariants.{Range, Noise}

abbrev pub no_block : Block
no_block = record { words = []; degree = 0; noise = 0 }

-- what the cells of some blocks hold
abbrev pub degree_in : List Block → ℕ → ℕ
degree_in blocks cell = let b : Block = get_or blocks cell no_block in b.degree

abbrev pub noise_in : List Block → ℕ → ℕ
noise_in blocks cell = let b : Block = get_or blocks cell no_block in b.noise

abbrev pub word_in : List Block → ℕ → ℕ → ℤ
word_in blocks cell i = let b : Block = get_or blocks cell no_block in pos (get_or b.words i 0)

abbrev pub no_term : Term
no_term = record { cell = 0; weight = pos 0 }

-- each term names one of the blocks
abbrev pub AreCellsOf : List Block → List Term → Type 0
AreCellsOf blocks terms = (t : ℕ) → t < length terms → let x : Term = get_or terms t no_term in x.cell < length blocks

-- each block has the words of a block of the set
abbrev pub AreBlocksOf : Params → List Block → Type 0
AreBlocksOf p blocks = (c : ℕ) → c < length blocks → let b : Block = get_or blocks c no_block in length b.words ≡ large_dim p + 1

-- number i of the words of a term: the weight times the word of its block
abbrev pub weighted : List Block → List Term → ℕ → ℕ → ℤ
weighted blocks terms i t = let x : Term = get_or terms t no_term in x.weight *ℤ word_in blocks x.cell i

-- number i of the weighted sum of blocks, the constant, in units, added to the body
abbrev pub mixed : Params → List Block → List Term → ℤ → ℕ → ℤ
mixed p blocks terms constant i =
    sum_to (length terms) (weighted blocks terms i)
    +ℤ (if nat_lt i (large_dim p) then pos 0 else pos (unit p.message_bits) *ℤ constant)

abbrev pub mixed_words : Params → List Block → List Term → ℤ → List ℕ
mixed_words p blocks terms constant = words_below (large_dim p + 1) (mixed p blocks terms constant)

-- The block of a weighted sum with these bounds of its value and this sum of noise tags, or the first reason to refuse it:
-- its numbers leave the block, or its noise passes the limit.
abbrev pub combined_within : ℕ → ℤ → ℤ → ℕ → List ℕ → Result Block TagFault
combined_within message_bits low high noise words =
    if int_lt low (pos 0) then Err (Range low high)
    else if int_lt (pos (plaintexts message_bits - 1)) high then Err (Range low high)
    else if nat_lt (noise_limit message_bits) noise then Err (Noise noise)
    else Ok (record { words = words; degree = nat_abs high; noise = noise })

abbrev pub combined : Params → List Block → List Term → ℤ → Result Block TagFault
combined p blocks terms constant =
    combined_within p.message_bits (low_of (degree_in blocks) constant terms) (high_of (degree_in blocks) constant terms)
    (noise_of (noise_in blocks) terms) (mixed_words p blocks terms constant)
