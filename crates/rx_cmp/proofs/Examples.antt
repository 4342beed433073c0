-- Choices, groups and orders at worked values.
use Rattle.std.proofs.Common.{◌≡◌, ℕ, pos, negsuc, [], ◌∷◌, refl}
use Rattle.std.specs.Prelude.{true, false, get_or}
use Rattle.rx_params.specs.Kinds.{digit_at}
use Rattle.rx_plan.specs.Values.{total}
use Rattle.rx_cmp.specs.Selection.{chosen, kept_entry}
use Rattle.rx_cmp.specs.Groups.{is_some, group_size, joined, grouped, any_jobs}
use Rattle.rx_cmp.specs.Equality.{equal, differ, digits_differ}
use Rattle.rx_cmp.specs.Order.{is_at_most, is_less_signed, is_at_most_signed, turned, ranked, signed_state, turned_top}

-- the index 6 is the bit 1 and the block 2
choices : (chosen 1 7 9 ≡ 7) × (chosen 0 7 9 ≡ 9) × (kept_entry 1 4 6 ≡ 2) × (kept_entry 0 4 6 ≡ 0)
choices = (refl, refl, refl, refl)

-- the index 14 is the blocks 3 and 2
equality : (equal 3 3 ≡ 1) × (equal 3 2 ≡ 0) × (differ 3 3 ≡ 0) × (differ 3 2 ≡ 1)
    × (digits_differ 4 15 ≡ 0) × (digits_differ 4 14 ≡ 1)
equality = (refl, refl, refl, refl, refl, refl)

order : (is_at_most 3 3 ≡ 1) × (is_at_most 4 3 ≡ 0) × (is_less_signed (negsuc 6) (pos 3) ≡ 1)
    × (is_less_signed (pos 3) (pos 3) ≡ 0) × (is_at_most_signed (pos 3) (pos 3) ≡ 1)
    × (is_at_most_signed (pos 3) (negsuc 6) ≡ 0)
order = (refl, refl, refl, refl, refl, refl)

-- ---- twelve cells by five
groups : (is_some 0 ≡ 0) × (is_some 5 ≡ 1) × (group_size 5 12 0 ≡ 5) × (group_size 5 12 2 ≡ 2)
    × (group_size 5 12 3 ≡ 0) × (any_jobs 1 ≡ 1) × (any_jobs 32 ≡ 31)
unfolding group_size
groups = (refl, refl, refl, refl, refl, refl, refl)

-- six cells by five, of which the fifth and the last are not 0: the last stands for itself
abbrev six : ℕ → ℕ
six i = get_or (0 ∷ 0 ∷ 0 ∷ 0 ∷ 2 ∷ 3 ∷ []) i 0

stand_for : (joined 4 six ≡ 0) × (joined 5 six ≡ 1) × (grouped 5 6 six 0 ≡ 1) × (grouped 5 6 six 1 ≡ 3)
unfolding group_size total
stand_for = (refl, refl, refl, refl)

-- ---- numbers of four bits with a sign: -7 is 9, which is turned to 1, and 3 to 11
signs : (turned 4 9 ≡ 1) × (turned 4 3 ≡ 11) × (ranked true 4 9 ≡ 1) × (ranked false 4 9 ≡ 9)
signs = (refl, refl, refl, refl)

-- their top blocks 2 and 0, and the same exchanged, and equal ones
states : (signed_state 2 8 ≡ 1) × (signed_state 2 2 ≡ 0) × (signed_state 2 10 ≡ 2)
states = (refl, refl, refl)

-- 9 has the blocks 1 and 2
blocks : (turned_top 2 2 (digit_at 2 9) 0 ≡ 1) × (turned_top 2 2 (digit_at 2 9) 1 ≡ 0)
blocks = (refl, refl)
