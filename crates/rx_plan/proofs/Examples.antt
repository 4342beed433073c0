-- What cells hold, and rows of cells, at worked values.
use Rattle.std.proofs.Common.{◌≡◌, ◌+◌, ℕ, List, [], ◌∷◌, refl}
use Rattle.rx_net.specs.declared.net.Net.{Net}
use Rattle.rx_net.specs.Cells.{laid, job_value, values_after, value}
use Rattle.rx_plan.specs.Tables.{entries}
use Rattle.rx_plan.specs.Values.{number_held, cell_value, number, total}
use Rattle.rx_plan.specs.Rows.{shifted, jobs_at_place, rows_number, column_sum, product_at}
use Rattle.rx_plan.specs.Results.{appended}

spaces : (entries 2 ≡ 16) × (entries 3 ≡ 64)
spaces = (refl, refl)

-- the place of a digit and one more: 1 + 2 * 4 + 3 * 16, and 1 + 2 + 3
by_places : (number 4 3 (λ i. i + 1) ≡ 57) × (total 3 (λ i. i + 1) ≡ 6)
unfolding number total
by_places = (refl, refl)

what_was_appended : appended (1 ∷ 2 ∷ []) (1 ∷ 2 ∷ 5 ∷ 6 ∷ []) ≡ 5 ∷ 6 ∷ []
what_was_appended = refl

-- ---- a net without jobs, whose four input cells hold 3, 1, 2 and 1
abbrev net : Net
net = record { space = 2; inputs = []; jobs = []; outputs = [] }

abbrev inputs : List ℕ
inputs = 3 ∷ 1 ∷ 2 ∷ 1 ∷ []

-- 3 and 1 are 7; the same cells in the other order are 13
held : (cell_value net (2 ∷ 0 ∷ []) inputs 1 ≡ 3) × (number_held net (0 ∷ 1 ∷ []) inputs ≡ 7)
    × (number_held net (1 ∷ 0 ∷ []) inputs ≡ 13) × (number_held net [] inputs ≡ 0)
unfolding number_held value values_after laid job_value
held = (refl, refl, refl, refl)

-- two rows of two cells: 7 and 6, whose sum is 13; the columns are 5 and 2
rows : (rows_number 4 net (0 ∷ 1 ∷ 2 ∷ 3 ∷ []) 2 2 inputs ≡ 13)
    × (column_sum net (0 ∷ 1 ∷ 2 ∷ 3 ∷ []) 2 2 inputs 0 ≡ 5)
    × (column_sum net (0 ∷ 1 ∷ 2 ∷ 3 ∷ []) 2 2 inputs 1 ≡ 2)
unfolding number total value values_after laid job_value
rows = (refl, refl, refl)

-- moved up by two places
moved_up : (shifted 2 (λ i. i + 5) 1 ≡ 0) × (shifted 2 (λ i. i + 5) 3 ≡ 6) × (jobs_at_place 2 1 ≡ 0)
    × (jobs_at_place 2 3 ≡ 1)
unfolding shifted jobs_at_place
moved_up = (refl, refl, refl, refl)

-- the table of the low digits of products; the cell 0 holds 3, and place 1 of the cells 1 and 2 holds 2
abbrev low_digits : List ℕ
low_digits = 0 ∷ 0 ∷ 0 ∷ 0 ∷ 0 ∷ 1 ∷ 2 ∷ 3 ∷ 0 ∷ 2 ∷ 0 ∷ 2 ∷ 0 ∷ 3 ∷ 2 ∷ 1 ∷ []

low_product : product_at 4 net low_digits 0 (1 ∷ 2 ∷ []) inputs 1 ≡ 2
unfolding value values_after laid job_value
low_product = refl
