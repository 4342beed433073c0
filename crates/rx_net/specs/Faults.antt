-- The first fault of a net.
use Rattle.std.specs.Prelude.{ℕ, ℤ, pos, ◌≡◌, ◌+◌, ◌==◌, nat_le, nat_lt, ◌&&◌, ◌||◌, Bool, List, [], ◌∷◌, ◌++◌, length, get_or, Option, Some, None, if◌then◌else◌, Result, Ok, Err}
use Rattle.std.specs.List.{list_all}
use Rattle.std.specs.Int.Signed.{le_z, lt_z}
use Rattle.std.specs.Option.{option_or}
use Rattle.rx_laws.specs.Decode.{plaintexts}
use Rattle.rx_params.specs.Derived.{noise_limit}
use Rattle.rx_net.specs.declared.term.Term.{Term}
use Rattle.rx_net.specs.declared.net.Job.{Job}
use Rattle.rx_net.specs.declared.net.NetInput.{NetInput}
use Rattle.rx_net.specs.declared.net.NetOutput.{NetOutput}
use Rattle.rx_net.specs.declared.net.Net.{Net}
use Rattle.rx_net.specs.declared.fault.NetFault.{NetFault}
use Rattle.rx_net.specs.declared.fault.NetFault.TheVariants.{Forward, Range, Noise, Table, Degree, Output, Limit}
use Rattle.rx_net.specs.Limits.{most_inputs, most_outputs, most_terms, most_jobs}
use Rattle.rx_net.specs.Tags.{low_of, high_of, noise_of}
use Rattle.rx_net.specs.Cells.{input_cells, cell_count, degrees_after, noises_after, degree}
use Rattle.rx_net.specs.Legal.{is_input, is_output, reached}

-- the fault of the first test that fails
abbrev pub first_failing : List (Bool × NetFault) → Option NetFault
first_failing [] = None
first_failing (test ∷ tests) = if test.0 then first_failing tests else Some test.1

-- the first fault of the elements in their order, each told by the elements before it
abbrev pub first_in_turn : {A : Type 0} → (List A → A → Option NetFault) → List A → List A → Option NetFault
first_in_turn fault before [] = None
first_in_turn fault before (x ∷ xs) = option_or (fault before x) (first_in_turn fault (before ++ x ∷ []) xs)

-- ---- the limits, by the number of a field
abbrev pub input_fault : ℕ → List NetInput → NetInput → Option NetFault
input_fault space before i = first_failing ((is_input space before i, Limit 3 (length before)) ∷ [])

abbrev pub terms_fault : List Job → Job → Option NetFault
terms_fault before j = first_failing ((nat_le (length j.terms) most_terms, Limit 5 (length before)) ∷ [])

abbrev pub limit : Bool → ℕ → ℕ → Option NetFault
limit holds field value = first_failing ((holds, Limit field value) ∷ [])

unfoldable pub limit_fault : ℕ → List NetInput → List Job → List NetOutput → Option NetFault
limit_fault space inputs jobs outputs =
    option_or (limit ((space == 2) || (space == 3)) 1 space)
    (option_or (limit (nat_le (length inputs) most_inputs) 2 (length inputs))
    (option_or (first_in_turn (input_fault space) [] inputs)
    (option_or (limit (nat_le (length jobs) most_jobs) 4 (length jobs))
    (option_or (first_in_turn terms_fault [] jobs)
    (limit (nat_le (length outputs) most_outputs) 6 (length outputs))))))

-- ---- the jobs

-- a sum of these tags that is looked up in a table
abbrev pub sum_fault : ℕ → ℕ → ℤ → ℤ → ℕ → List ℕ → Option NetFault
sum_fault space number low high noise table =
    first_failing (
    (le_z (pos 0) low && lt_z high (pos (plaintexts space)), Range number low high)
    ∷ (nat_le noise (noise_limit space), Noise number noise)
    ∷ ((length table == plaintexts space) && list_all (λ entry. nat_lt entry (plaintexts space)) table, Table number) ∷ [])

-- a job of this number, but for the degree that it declares
abbrev pub fit_fault : ℕ → ℕ → ℕ → (ℕ → ℕ) → (ℕ → ℕ) → List Term → ℤ → List ℕ → Option NetFault
fit_fault space number count degree noise terms constant table =
    option_or (first_failing ((list_all (λ t. nat_lt t.cell count) terms, Forward number) ∷ []))
    (sum_fault space number (low_of degree constant terms) (high_of degree constant terms) (noise_of noise terms) table)

abbrev pub degree_fault : ℕ → ℕ → ℕ → Option NetFault
degree_fault number declared reached = first_failing ((declared == reached, Degree number declared reached) ∷ [])

-- a new job's first fault, after the jobs before it
unfoldable pub new_fault : ℕ → List NetInput → List Job → List Term → ℤ → List ℕ → Option NetFault
new_fault space inputs before terms constant table =
    fit_fault space (length before) (input_cells space inputs + length before)
    (λ c. get_or (degrees_after space inputs before) c 0) (λ c. get_or (noises_after space inputs before) c 0)
    terms constant table

unfoldable pub job_fault : ℕ → List NetInput → List Job → Job → Option NetFault
job_fault space inputs before j =
    option_or (new_fault space inputs before j.terms j.constant j.table)
    (degree_fault (length before) j.degree (reached (λ c. get_or (degrees_after space inputs before) c 0) j.terms j.constant j.table))

-- ---- the outputs
abbrev pub output_fault : ℕ → ℕ → (ℕ → ℕ) → List NetOutput → NetOutput → Option NetFault
output_fault space count degree before o = first_failing ((is_output space count degree before o, Output (length before)) ∷ [])

-- the first fault of a net: a limit, then a fault of a job, job after job, then one of an output; none where it is legal
unfoldable pub fault_of : Net → Option NetFault
fault_of net =
    option_or (limit_fault net.space net.inputs net.jobs net.outputs)
    (option_or (first_in_turn (job_fault net.space net.inputs) [] net.jobs)
    (first_in_turn (output_fault net.space (cell_count net) (degree net)) [] net.outputs))

-- what a function answers that tells a fault
abbrev pub TellsFault : {A : Type 0} → Result A NetFault → Option NetFault → Type 0
TellsFault (Ok x) fault = fault ≡ None
TellsFault (Err told) fault = fault ≡ Some told
