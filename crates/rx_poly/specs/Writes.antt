-- Lists of words of which the first are written.
use Rattle.std.specs.Prelude.{ℕ, ℤ, ◌<◌, ◌≤◌, ◌≡◌, List, get_or}
use Rattle.rx_laws.specs.Torus.{word}

-- the first m words are those of the function f, and the others are those of old
pub record WrittenTo (m : ℕ) (f : ℕ → ℤ) (old new : List ℕ) : Type 0 where
  pub written : (i : ℕ) → i < m → get_or new i 0 ≡ word (f i)
  pub left : (i : ℕ) → m ≤ i → get_or new i 0 ≡ get_or old i 0
