-- Residues, signed numbers and quotients at worked values.
use Rattle.std.proofs.Common.{◌≡◌, ◌^◌, ◌-◌, pos, negsuc, refl}
use Rattle.rx_residue.specs.Residues.{residue, signed}
use Rattle.rx_residue.specs.Division.{quotient, remainder}

four : (signed 4 7 ≡ pos 7) × (signed 4 8 ≡ negsuc 7) × (signed 4 9 ≡ negsuc 6) × (signed 4 15 ≡ negsuc 0) × (residue 4 (negsuc 6) ≡ 9) × (residue 4 (pos 16) ≡ 0)
unfolding signed residue
four = (refl, refl, refl, refl, refl, refl)

long : (signed 64 (2 ^ 63) ≡ negsuc (2 ^ 63 - 1)) × (residue 64 (negsuc 0) ≡ 2 ^ 64 - 1)
unfolding signed residue
long = (refl, refl)

-- 200 by 7, and by 0
division : (quotient 8 200 7 ≡ 28) × (remainder 200 7 ≡ 4) × (quotient 8 5 0 ≡ 255) × (remainder 5 0 ≡ 5)
unfolding quotient remainder
division = (refl, refl, refl, refl)
