-- Sums of noises within a bound.
use Rattle.std.proofs.Common.{ℕ, ◌<◌, ◌≤◌, List, [], ◌∷◌, arith}
use Rattle.std.specs.List.{AllByRecursion}
use Rattle.std.specs.Int.RustNames.{unsigned_abs}
use Rattle.std.proofs.Math.Nat.{mul-le-mul_left}
use Rattle.rx_net.specs.declared.term.Term.{Term}
use Rattle.rx_net.specs.Tags.{noise_of}

-- where each cell has no more noise, the sum has no more
pub noise_of-le : (n m : ℕ → ℕ) (count : ℕ) (terms : List Term) → ((c : ℕ) → c < count → n c ≤ m c) → AllByRecursion (λ (t : Term). t.cell < count) terms →
    noise_of n terms ≤ noise_of m terms
noise_of-le n m count [] least forward = omega arith
noise_of-le n m count (t ∷ ts) least forward =
    omega (arith, mul-le-mul_left (unsigned_abs t.weight) (least t.cell forward.0), noise_of-le n m count ts least forward.1)
