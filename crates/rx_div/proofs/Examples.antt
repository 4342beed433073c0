-- Steps of a division at worked values.
use Rattle.std.proofs.Common.{◌≡◌, ℕ, [], ◌∷◌, refl}
use Rattle.std.specs.Prelude.{get_or}
use Rattle.rx_residue.specs.Division.{remainder}
use Rattle.rx_div.specs.Steps.{leading, with_next, borrow_at, taken_in, reduced}

-- 13 in four bits, the lowest first
abbrev bits : ℕ → ℕ
bits i = get_or (1 ∷ 0 ∷ 1 ∷ 1 ∷ []) i 0

top_bits : (leading bits 4 0 ≡ 0) × (leading bits 4 1 ≡ 1) × (leading bits 4 2 ≡ 3) × (leading bits 4 3 ≡ 6)
    × (leading bits 4 4 ≡ 13)
unfolding leading
top_bits = (refl, refl, refl, refl, refl)

-- by 3: 1, 3, 0, 1, so the quotient is 0100 and 1 is left; by 0 all bits are left
by_three : (with_next bits 4 3 0 ≡ 1) × (with_next bits 4 3 1 ≡ 3) × (with_next bits 4 3 2 ≡ 0)
    × (with_next bits 4 3 3 ≡ 1) × (with_next bits 4 0 3 ≡ 13)
unfolding leading remainder
by_three = (refl, refl, refl, refl, refl)

borrows : (borrow_at bits 4 3 0 ≡ 1) × (borrow_at bits 4 3 1 ≡ 0) × (borrow_at bits 4 3 2 ≡ 1)
    × (borrow_at bits 4 3 3 ≡ 1) × (borrow_at bits 4 0 3 ≡ 0)
unfolding leading remainder
borrows = (refl, refl, refl, refl, refl)

-- in four bits; a difference is told up to 16
steps : (taken_in 4 6 1 ≡ 13) × (taken_in 4 8 0 ≡ 0) × (reduced 4 3 2 ≡ 2) × (reduced 4 3 5 ≡ 18)
steps = (refl, refl, refl, refl)
