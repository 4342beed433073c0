-- How often a job was found taken.
use Rattle.std.proofs.Common.{◌≡◌, ℕ, [], ◌∷◌, refl}
use Rattle.rx_board.specs.declared.view.Found.{Found}
use Rattle.rx_workers.specs.Crew.{taken_in}

abbrev found : ℕ → ℕ → Found
found job state = record { job = job; state = state }

taken : taken_in (found 0 1 ∷ found 1 0 ∷ found 0 2 ∷ found 0 1 ∷ []) ≡ 2
taken = refl
