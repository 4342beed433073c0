-- The weighted sum of what some blocks keep lies between the bounds that their degrees give.
use Rattle.std.proofs.Common.{ℕ, suc, ℤ, ◌≤ℤ◌, arith, List, [], ◌∷◌, get_or}
use Rattle.std.proofs.lemmas.Int.{ints}
use Rattle.rx_params.specs.declared.params.Params.{Params}
use Rattle.rx_net.specs.declared.term.Term.{Term}
use Rattle.rx_net.specs.Tags.{value_of, low_of, high_of}
use Rattle.rx_net.proofs.Bounded.{part_low, part_high}
use Rattle.rx_block.specs.declared.block.Block.{Block}
use Rattle.rx_block.specs.Combine.{no_block, degree_in}
use Rattle.rx_block.specs.Keeps.{Keeps}
use Rattle.rx_block.specs.Noise.{KeepOperands}

-- the block of the first term, and those of the others
first-kept : (p : Params) (key : List ℕ) (blocks : List Block) (t : Term) (ts : List Term) (value : ℕ → ℕ) →
    KeepOperands p key blocks (t ∷ ts) value → Keeps p key (get_or blocks t.cell no_block) (value t.cell)
first-kept p key blocks t ts value h = h 0 (omega arith)

others-kept : (p : Params) (key : List ℕ) (blocks : List Block) (t : Term) (ts : List Term) (value : ℕ → ℕ) →
    KeepOperands p key blocks (t ∷ ts) value → KeepOperands p key blocks ts value
others-kept p key blocks t ts value h = λ j q. h (suc j) (omega arith)

pub kept-low : (p : Params) (key : List ℕ) (blocks : List Block) (terms : List Term) (constant : ℤ) (value : ℕ → ℕ) →
    KeepOperands p key blocks terms value → low_of (degree_in blocks) constant terms ≤ℤ value_of value constant terms
kept-low p key blocks [] constant value h = omega (arith, ints)
kept-low p key blocks (t ∷ ts) constant value h =
    omega (
      arith,
      ints,
      part_low t.weight (value t.cell) (degree_in blocks t.cell) (first-kept p key blocks t ts value h).value,
      kept-low p key blocks ts constant value (others-kept p key blocks t ts value h),
    )

pub kept-high : (p : Params) (key : List ℕ) (blocks : List Block) (terms : List Term) (constant : ℤ) (value : ℕ → ℕ) →
    KeepOperands p key blocks terms value → value_of value constant terms ≤ℤ high_of (degree_in blocks) constant terms
kept-high p key blocks [] constant value h = omega (arith, ints)
kept-high p key blocks (t ∷ ts) constant value h =
    omega (
      arith,
      ints,
      part_high t.weight (value t.cell) (degree_in blocks t.cell) (first-kept p key blocks t ts value h).value,
      kept-high p key blocks ts constant value (others-kept p key blocks t ts value h),
    )
