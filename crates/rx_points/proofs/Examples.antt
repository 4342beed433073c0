-- Worked values of the definitions.
use Rattle.std.proofs.Common.{◌≡◌, ℤ, pos, negsuc, ◌+◌, ◌^◌, [], ◌∷◌, List, refl}
use Rattle.rx_laws.specs.Sum.{sum_to}
use Rattle.rx_laws.specs.Words.{of_numbers}
use Rattle.rx_ring.specs.Polynomial.{turned, product}
use Rattle.rx_points.specs.Residues.{residue}
use Rattle.rx_points.specs.Rows.{row_end, row_digit, key_word}

-- numbers modulo 2 ^ 69
residues : residue (pos (2 ^ 69 + 7)) ≡ 7
unfolding residue
residues = refl

residue_below : residue (negsuc 0) ≡ 590295810358705651711
unfolding residue
residue_below = refl

-- The rows 1 + 2 Y and 3 + 4 Y lie side by side, and beside them 5 + 6 Y and 7 + 8 Y, the last row first: the product of both lists
-- has (1 + 2 Y) (5 + 6 Y) + (3 + 4 Y) (7 + 8 Y) = -18 + 68 Y at the ends of the rows.
abbrev rows : List ℤ
rows = pos 1 ∷ pos 3 ∷ pos 2 ∷ pos 4 ∷ []

abbrev key_rows : List ℤ
key_rows = pos 7 ∷ pos 5 ∷ pos 8 ∷ pos 6 ∷ []

first_place : product 4 (of_numbers rows) (of_numbers key_rows) (row_end 2 0) ≡ negsuc 17
unfolding product turned sum_to
first_place = refl

second_place : product 4 (of_numbers rows) (of_numbers key_rows) (row_end 2 1) ≡ pos 68
unfolding product turned sum_to
second_place = refl

-- of two rows of 32 coefficients side by side, coefficient 16 of row 1 is number 3 of block 0
a_digit : row_digit 2 2 (pos 10 ∷ pos 11 ∷ pos 12 ∷ pos 13 ∷ []) 1 16 ≡ pos 13
a_digit = refl

-- of two key rows 3 words apart, the last row first, number 0 of block 1 is coefficient 1 of row 1
a_word : key_word 2 3 (10 ∷ 11 ∷ 12 ∷ 13 ∷ 14 ∷ 15 ∷ []) 1 0 ≡ 14
a_word = refl
