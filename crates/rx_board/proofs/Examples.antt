-- A board of three jobs, and what a seat finds at it, computed by the definitions.
use Rattle.std.proofs.Common.{◌≡◌, ℕ, pos, List, [], ◌∷◌, Some, None, refl}
use Rattle.std.specs.Prelude.{true, false}
use Rattle.rx_net.specs.declared.term.Term.{Term}
use Rattle.rx_net.specs.declared.net.Job.{Job}
use Rattle.rx_net.specs.declared.net.Net.{Net}
use Rattle.rx_net.specs.Cells.{input_cells, laid, cells_of}
use Rattle.rx_board.specs.declared.view.Plan.{Plan}
use Rattle.rx_board.specs.declared.view.Found.{Found}
use Rattle.rx_board.specs.declared.view.View.{View}
use Rattle.rx_board.specs.declared.view.Trial.TheVariants.{Present, Taken, Waiting}
use Rattle.rx_board.specs.declared.view.Step.TheVariants.{Ran, NotReady, Done, Refused}
use Rattle.rx_board.specs.Rule.{total, one_if, times, holding, holds_job, credits, input_count, plan_of, fresh, spent, job_count, cell, state_place, count_place, word_place, uses_in, owner_in, owned, owed, passed, state_in, count_in, word_in}
use Rattle.rx_board.specs.Steps.{found_at, claimed_at, counted_at, published_at, given, both_of}
use Rattle.rx_board.specs.Tells.{counted, first_taken, runs_after, after_run}
use Rattle.rx_board.specs.Closing.{ClosedValue, state_of, cell_of, present_below}

counts : (total (λ x. x) (1 ∷ 2 ∷ 3 ∷ []) ≡ 6) × (one_if true ≡ 1) × (one_if false ≡ 0)
    × (times 2 (2 ∷ 1 ∷ 2 ∷ []) ≡ 2)
counts = (refl, refl, refl, refl)

-- ---- no inputs; job 1 names the cell of job 0 twice, and job 2 that of job 1
abbrev term : ℕ → Term
term cell = record { cell = cell; weight = pos 1 }

abbrev job : List Term → Job
job terms = record { terms = terms; constant = pos 0; table = []; degree = 0 }

abbrev jobs : List Job
jobs = job [] ∷ job (term 0 ∷ term 0 ∷ []) ∷ job (term 1 ∷ []) ∷ []

abbrev net : Net
net = record { space = 2; inputs = []; jobs = jobs; outputs = [] }

-- cells of two words
abbrev plan : Plan
plan = record { net = net; width = 2; cells = (7 ∷ 8 ∷ []) ∷ (9 ∷ 10 ∷ []) ∷ (11 ∷ 12 ∷ []) ∷ [] }

cells : (input_count net ≡ 0) × (job_count plan ≡ 3) × (cell plan 1 ≡ 9 ∷ 10 ∷ [])
unfolding input_cells
cells = (refl, refl, refl)

-- a kernel that gives one word, the number of its operand words
abbrev counting : List ℕ → Job → List ℕ → List ℕ
counting basis j operands = total (λ _. 1) operands ∷ []

made : (plan_of counting [] net 1 []).cells ≡ (0 ∷ []) ∷ (2 ∷ []) ∷ (1 ∷ []) ∷ []
unfolding cells_of laid input_cells
made = refl

-- ---- the words: job 0 is present, job 1 is taken and has one word, and job 2 waits for one use
abbrev words : List ℕ
words = 0 ∷ 2 ∷ 0 ∷ 7 ∷ 8 ∷ 1 ∷ 0 ∷ 9 ∷ 0 ∷ 0 ∷ 1 ∷ 0 ∷ 0 ∷ []

places : (state_place 2 1 ≡ 5) × (count_place 2 1 ≡ 6) × (word_place 2 1 1 ≡ 8)
places = (refl, refl, refl)

words_of_jobs : (state_in 2 words 0 ≡ 2) × (state_in 2 words 1 ≡ 1) × (count_in 2 words 2 ≡ 1)
    × (word_in 2 words 1 0 ≡ 9)
words_of_jobs = (refl, refl, refl, refl)

-- ---- uses and credits
uses : (uses_in plan 0 ≡ 0 ∷ 1 ∷ []) × (uses_in plan 1 ≡ 2 ∷ []) × (uses_in plan 2 ≡ [])
    × (owner_in plan 1 ≡ 1) × (owner_in plan 2 ≡ 2)
unfolding input_cells
uses = (refl, refl, refl, refl, refl)

-- a view that holds job 1 with one word and no use credited
abbrev holder : View
holder = record (fresh plan) { held = Some (holding 1 1 0) }

held : (holds_job 1 holder.held ≡ 1) × (holds_job 2 holder.held ≡ 0) × (holds_job 1 None ≡ 0)
    × (credits 1 (Some (holding 1 2 1)) ≡ 1) × (credits 0 (Some (holding 1 2 1)) ≡ 0)
held = (refl, refl, refl, refl, refl)

-- both uses of job 0 are credited, since it is present, and that of job 1 is not
passed_uses : (passed plan (state_in 2 words) (holder ∷ []) 0 ≡ 2)
    × (passed plan (state_in 2 words) (holder ∷ []) 1 ≡ 0)
unfolding input_cells
passed_uses = (refl, refl)

-- at the start job 1 waits for two uses and job 2 for one; then for none, and for one
waiting : (owned (uses_in plan) (owner_in plan) 1 (0 ∷ 1 ∷ 2 ∷ []) ≡ 2)
    × (owed (uses_in plan) (owner_in plan) (λ _. 0) 1 3 ≡ 2)
    × (owed (uses_in plan) (owner_in plan) (λ _. 0) 2 3 ≡ 1)
    × (owed (uses_in plan) (owner_in plan) (passed plan (state_in 2 words) (holder ∷ [])) 1 3 ≡ 0)
    × (owed (uses_in plan) (owner_in plan) (passed plan (state_in 2 words) (holder ∷ [])) 2 3 ≡ 1)
unfolding input_cells
waiting = (refl, refl, refl, refl, refl)

-- ---- what steps make of a view
abbrev found : ℕ → ℕ → Found
found number state = record { job = number; state = state }

abbrev first : View
first = fresh plan

loads : (found_at first 0 2 ≡ record first { known = 0 ∷ []; met = found 0 2 ∷ [] })
    × (found_at first 1 1 ≡ record first { met = found 1 1 ∷ [] })
    × (counted_at first 1 0 ≡ record first { ready = 1 ∷ [] }) × (counted_at first 1 2 ≡ first)
loads = (refl, refl, refl, refl)

claims : (claimed_at first 1 0 ≡ record first { held = Some (holding 1 0 0); met = found 1 0 ∷ [] })
    × (claimed_at first 1 1 ≡ record first { met = found 1 1 ∷ [] })
    × (claimed_at first 1 2 ≡ record first { known = 1 ∷ []; met = found 1 2 ∷ [] })
claims = (refl, refl, refl)

ends : (published_at holder 1 ≡ record first { known = 1 ∷ []; ran = 1 ∷ [] })
    × (after_run holder 1 true ≡ record first { known = 1 ∷ []; ran = 1 ∷ [] })
    × (after_run holder 1 false ≡ first)
ends = (refl, refl, refl)

-- a seat that ran job 0 is split, and joined to one that ran job 1
seats : (given (published_at first 0) ≡ record first { known = 0 ∷ [] })
    × ((both_of (published_at first 0) (published_at first 1)).ran ≡ 0 ∷ 1 ∷ []) × (spent.plan ≡ None)
seats = (refl, refl, refl)

-- ---- what calls tell
told : (counted 3 ≡ 4) × (counted 18446744073709551615 ≡ 18446744073709551615) × (runs_after (Ran 0) 3 ≡ 4)
    × (runs_after (Refused 0) 3 ≡ 4) × (runs_after (NotReady 0) 3 ≡ 3) × (runs_after Done 3 ≡ 3)
told = (refl, refl, refl, refl, refl, refl)

taken : (first_taken None 4 Taken ≡ Some 4) × (first_taken None 4 Waiting ≡ None)
    × (first_taken None 4 Present ≡ None) × (first_taken (Some 2) 4 Taken ≡ Some 2)
taken = (refl, refl, refl, refl)

-- ---- the same words of a closed board
abbrev closed : ClosedValue
closed = record { width = 2; jobs = 3; words = words }

left : (state_of closed 1 ≡ 1) × (cell_of closed 0 ≡ 7 ∷ 8 ∷ []) × (present_below closed 3 ≡ 1)
left = (refl, refl, refl)
