-- Worked values of the definitions.
use Rattle.std.proofs.Common.{◌≡◌, ℕ, [], ◌∷◌, refl}
use Rattle.rx_list.specs.Overwritten.{overwritten}

-- the length stays
overwritten-lengths : (overwritten {A = ℕ} (1 ∷ 2 ∷ 3 ∷ []) (9 ∷ []) ≡ 9 ∷ 2 ∷ 3 ∷ []) × (overwritten {A = ℕ} (1 ∷ []) (8 ∷ 9 ∷ []) ≡ 8 ∷ [])
overwritten-lengths = (refl, refl)
