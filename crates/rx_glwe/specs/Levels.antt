-- The digits of a polynomial, level by level, and what their levels add to an accumulator.
use Rattle.std.specs.Prelude.{ℕ, ℤ, pos, ◌+ℤ◌, ◌+◌, ◌*◌, ◌<◌, ◌≡◌, List, get_or}
use Rattle.rx_laws.specs.Sum.{sum_to}
use Rattle.rx_laws.specs.Digits.{digit}
use Rattle.rx_ring.specs.Polynomial.{product}
use Rattle.rx_ring.specs.Parts.{of_parts}
use Rattle.rx_params.specs.declared.params.Params.{Params}
use Rattle.rx_glwe.specs.Sizes.{glwe_size}

-- the digits of the first words of a polynomial, `done` of them: digit t of word x stands at place x of polynomial t
pub record AreLevels (p : Params) (done : ℕ) (words : List ℕ) (digits : List ℤ) : Type 0 where
  pub each : (t x : ℕ) → t < p.pbs_level → x < done →
      get_or digits (t * p.poly_size + x) (pos 0) ≡ digit p.pbs_base_log p.pbs_level (get_or words x 0) t

-- the polynomial of the digits of a level
abbrev pub level_digits : Params → List ℤ → ℕ → ℕ → ℤ
level_digits p digits t x = get_or digits (t * p.poly_size + x) (pos 0)

-- polynomial q of the row of a level
abbrev pub level_row : Params → List ℕ → ℕ → ℕ → ℕ → ℤ
level_row p rows t q x = pos (get_or rows (t * glwe_size p + (q * p.poly_size + x)) 0)

-- polynomial q of the accumulator, with the products of the first levels added, `done` of them
unfoldable pub levels_added : Params → List ℤ → List ℕ → List ℕ → ℕ → ℕ → ℕ → ℤ
levels_added p digits rows acc done q i =
    of_parts p.poly_size acc q i
    +ℤ sum_to done (λ t. product p.poly_size (level_digits p digits t) (level_row p rows t q) i)
