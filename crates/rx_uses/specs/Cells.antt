-- The jobs of a net by their numbers, and the words of its input cells.
use Rattle.std.specs.Prelude.{◌≡◌, ℕ, zero, suc, ◌+◌, ◌<◌, List, [], ◌∷◌, length, get_or, take, drop}
use Rattle.rx_net.specs.declared.term.Term.{Term}
use Rattle.rx_net.specs.declared.net.Job.{Job}

-- the terms of the job j, none where there is no such job
abbrev pub terms_at : List Job → ℕ → List Term
terms_at [] j = []
terms_at (x ∷ xs) zero = x.terms
terms_at (x ∷ xs) (suc j) = terms_at xs j

-- the table of the job j, of no entries where there is no such job
abbrev pub table_at : List Job → ℕ → List ℕ
table_at [] j = []
table_at (x ∷ xs) zero = x.table
table_at (x ∷ xs) (suc j) = table_at xs j

-- x is the job j, and has its terms and its table
abbrev pub IsJobAt : List Job → ℕ → Job → Type 0
IsJobAt jobs j x = (terms_at jobs j ≡ x.terms) × (x ≡ get_or jobs j x) × (table_at jobs j ≡ x.table)

-- each term of a job names one of the cells before the job's, of which the first n are those of the inputs
abbrev pub Forward : ℕ → List Job → Type 0
Forward n jobs = (j k : ℕ) (d : Term) → j < length jobs → k < length (terms_at jobs j) → (get_or (terms_at jobs j) k d).cell < n + j

-- n cells of w words each, which stand in a list one after another
abbrev pub rows : ℕ → ℕ → List ℕ → List (List ℕ)
rows w zero xs = []
rows w (suc n) xs = take w xs ∷ rows w n (drop w xs)
