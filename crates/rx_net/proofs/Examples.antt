-- Worked nets, computed by the definitions.
use Rattle.std.proofs.Common.{◌≡◌, ◌*◌, ℕ, ℤ, pos, negsuc, List, [], ◌∷◌, Some, None, refl, replicate}
use Rattle.std.specs.Prelude.{codes}
use Rattle.std.specs.List.{range_with_len}
use Rattle.rx_params.specs.declared.kind.Kind.TheVariants.{Int, Bit}
use Rattle.rx_net.specs.declared.term.Term.{Term}
use Rattle.rx_net.specs.declared.net.Job.{Job}
use Rattle.rx_net.specs.declared.net.NetInput.{NetInput}
use Rattle.rx_net.specs.declared.net.NetOutput.{NetOutput}
use Rattle.rx_net.specs.declared.net.Net.{Net}
use Rattle.rx_net.specs.declared.fault.NetFault.TheVariants.{Forward, Range, Noise, Table, Degree, Output, Limit}
use Rattle.rx_net.specs.Tags.{low_of, high_of, noise_of, value_of, greatest_of, greatest_between}
use Rattle.rx_net.specs.Cells.{input_cells, cell_count, given, laid, job_value, one_deeper, values_after, degrees_after, noises_after, depths_after, value, degree, noise, depth, net_depth, cells_of}
use Rattle.rx_net.specs.Faults.{limit_fault, new_fault, job_fault, fault_of}
use Rattle.rx_net.specs.Pen.{new_job}
use Rattle.rx_net.specs.Numbers.{digits_of, number_of, values_of, outs}

-- ---- a weighted sum: 3, and twice cell 0 less cell 1, where each cell reaches 3 and has the noise tag of its number
abbrev term : ℕ → ℤ → Term
term cell weight = record { cell = cell; weight = weight }

abbrev twice_less : List Term
twice_less = term 0 (pos 2) ∷ term 1 (negsuc 0) ∷ []

sum_bounds : (low_of (λ c. 3) (pos 3) twice_less ≡ pos 0) × (high_of (λ c. 3) (pos 3) twice_less ≡ pos 9) × (noise_of (λ c. c) twice_less ≡ 1)
sum_bounds = (refl, refl, refl)

sum_value : value_of (λ c. 3 * c) (pos 3) twice_less ≡ pos 0
sum_value = refl

-- entries past the end of a table count for nothing
table_bounds : (greatest_between (9 ∷ 0 ∷ 5 ∷ 2 ∷ []) 1 3 ≡ 5) × (greatest_between (9 ∷ 0 ∷ 5 ∷ 2 ∷ []) 3 8 ≡ 2) × (greatest_between (9 ∷ []) 1 8 ≡ 0)
unfolding greatest_between greatest_of
table_bounds = (refl, refl, refl)

-- ---- nets of one number `a` of two bits, and of two bits `a` and `b`
abbrev number : List ℕ → ℕ → NetInput
number name bits = record { name = name; kind = Int; bits = bits; degree = 3; noise = 1 }

abbrev bit : List ℕ → NetInput
bit name = record { name = name; kind = Bit; bits = 1; degree = 1; noise = 1 }

abbrev job : List Term → ℤ → List ℕ → ℕ → Job
job terms constant table degree = record { terms = terms; constant = constant; table = table; degree = degree }

abbrev same : List ℕ
same = range_with_len 0 16

abbrev net_of : List NetInput → List Job → List NetOutput → Net
net_of inputs jobs outputs = record { space = 2; inputs = inputs; jobs = jobs; outputs = outputs }

abbrev over_a : List Job → Net
over_a jobs = net_of (number (codes "a") 2 ∷ []) jobs []

abbrev output : List ℕ → List ℕ → NetOutput
output name cells = record { name = name; kind = Int; bits = 2; cells = cells }

lawful : fault_of (over_a (job (term 0 (pos 1) ∷ []) (pos 0) same 3 ∷ [])) ≡ None
unfolding fault_of limit_fault job_fault new_fault cell_count input_cells given laid degrees_after noises_after degree greatest_between greatest_of
lawful = refl

itself : fault_of (over_a (job (term 1 (pos 1) ∷ []) (pos 0) same 3 ∷ [])) ≡ Some (Forward 0)
unfolding fault_of limit_fault job_fault new_fault cell_count input_cells given laid degrees_after noises_after degree greatest_between greatest_of
itself = refl

too_wide : fault_of (over_a (job (term 0 (pos 5) ∷ []) (pos 1) same 3 ∷ [])) ≡ Some (Range 0 (pos 1) (pos 16))
unfolding fault_of limit_fault job_fault new_fault cell_count input_cells given laid degrees_after noises_after degree greatest_between greatest_of
too_wide = refl

-- a constant below 0 is always out of range
below_zero : fault_of (over_a (job (term 0 (pos 1) ∷ []) (negsuc 0) same 3 ∷ [])) ≡ Some (Range 0 (negsuc 0) (pos 2))
unfolding fault_of limit_fault job_fault new_fault cell_count input_cells given laid degrees_after noises_after degree greatest_between greatest_of
below_zero = refl

too_loud : fault_of (net_of (bit (codes "a") ∷ bit (codes "b") ∷ []) (job (term 0 (pos 3) ∷ term 1 (pos 3) ∷ []) (pos 0) same 6 ∷ []) []) ≡ Some (Noise 0 6)
unfolding fault_of limit_fault job_fault new_fault cell_count input_cells given laid degrees_after noises_after degree greatest_between greatest_of
too_loud = refl

short_table : fault_of (over_a (job (term 0 (pos 1) ∷ []) (pos 0) (range_with_len 0 15) 3 ∷ [])) ≡ Some (Table 0)
unfolding fault_of limit_fault job_fault new_fault cell_count input_cells given laid degrees_after noises_after degree greatest_between greatest_of
short_table = refl

other_degree : fault_of (over_a (job (term 0 (pos 1) ∷ []) (pos 0) same 2 ∷ [])) ≡ Some (Degree 0 2 3)
unfolding fault_of limit_fault job_fault new_fault cell_count input_cells given laid degrees_after noises_after degree greatest_between greatest_of
other_degree = refl

-- a cell that stands in two outputs is lawful, a name that stands in two is not; nor is a cell that is none
output_faults : (fault_of (net_of (number (codes "a") 2 ∷ []) [] (output (codes "a") (0 ∷ []) ∷ output (codes "b") (0 ∷ []) ∷ [])) ≡ None)
    × (fault_of (net_of (number (codes "a") 2 ∷ []) [] (output (codes "a") (0 ∷ []) ∷ output (codes "a") (0 ∷ []) ∷ [])) ≡ Some (Output 1))
    × (fault_of (net_of (number (codes "a") 2 ∷ []) [] (output (codes "a") (1 ∷ []) ∷ [])) ≡ Some (Output 0))
    × (fault_of (net_of (number (codes "a") 2 ∷ []) [] (output (codes "a") (0 ∷ 0 ∷ []) ∷ [])) ≡ Some (Output 0))
unfolding fault_of limit_fault job_fault new_fault cell_count input_cells given laid degrees_after noises_after degree greatest_between greatest_of
output_faults = (refl, refl, refl, refl)

-- the limits come before a job that is out of range
limits : (limit_fault 4 [] [] [] ≡ Some (Limit 1 4))
    × (limit_fault 2 (replicate 65 (bit (codes "a"))) [] [] ≡ Some (Limit 2 65))
    × (limit_fault 2 (bit (codes "a") ∷ bit (codes "a") ∷ []) [] [] ≡ Some (Limit 3 1))
    × (limit_fault 2 (number (codes "a") 3 ∷ []) [] [] ≡ Some (Limit 3 0))
    × (limit_fault 2 [] (job (replicate 17 (term 9 (pos 0))) (negsuc 0) same 0 ∷ []) [] ≡ Some (Limit 5 0))
    × (limit_fault 2 [] [] (replicate 65 (output (codes "a") [])) ≡ Some (Limit 6 65))
unfolding limit_fault
limits = (refl, refl, refl, refl, refl, refl)

-- ---- the sum of two numbers `a` and `b` of four bits: the carry of the lower blocks, and what is left of both
abbrev by_four : List ℕ
by_four = 0 ∷ 0 ∷ 0 ∷ 0 ∷ 1 ∷ 1 ∷ 1 ∷ 1 ∷ 2 ∷ 2 ∷ 2 ∷ 2 ∷ 3 ∷ 3 ∷ 3 ∷ 3 ∷ []

abbrev rest_by_four : List ℕ
rest_by_four = 0 ∷ 1 ∷ 2 ∷ 3 ∷ 0 ∷ 1 ∷ 2 ∷ 3 ∷ 0 ∷ 1 ∷ 2 ∷ 3 ∷ 0 ∷ 1 ∷ 2 ∷ 3 ∷ []

abbrev sum_net : Net
sum_net = net_of (number (codes "a") 4 ∷ number (codes "b") 4 ∷ []) (
    job (term 0 (pos 1) ∷ term 2 (pos 1) ∷ []) (pos 0) by_four 1
    ∷ job (term 0 (pos 1) ∷ term 2 (pos 1) ∷ []) (pos 0) rest_by_four 3
    ∷ job (term 1 (pos 1) ∷ term 3 (pos 1) ∷ term 4 (pos 1) ∷ []) (pos 0) rest_by_four 3 ∷ []
    ) []

sum_lawful : fault_of sum_net ≡ None
unfolding fault_of limit_fault job_fault new_fault cell_count input_cells given laid degrees_after noises_after degree greatest_between greatest_of
sum_lawful = refl

-- 7 is 3 and 1, 6 is 2 and 1; their sum 13 is 1 and 3
sum_values : values_after (3 ∷ 1 ∷ 2 ∷ 1 ∷ []) sum_net.jobs ≡ 3 ∷ 1 ∷ 2 ∷ 1 ∷ 1 ∷ 1 ∷ 3 ∷ []
unfolding values_after laid job_value
sum_values = refl

sum_cells : (cell_count sum_net ≡ 7) × (value sum_net (3 ∷ 1 ∷ 2 ∷ 1 ∷ []) 6 ≡ 3) × (degree sum_net 4 ≡ 1) × (noise sum_net 6 ≡ 1) × (depth sum_net 5 ≡ 1) × (depth sum_net 6 ≡ 2) × (net_depth sum_net ≡ 2)
unfolding cell_count input_cells given laid job_value one_deeper values_after degrees_after noises_after depths_after value degree noise depth net_depth greatest_of
sum_cells = (refl, refl, refl, refl, refl, refl, refl)

-- 27 is 3 and twice 4 and 16; digits past those that are asked for are left out
digits : (digits_of 2 3 27 ≡ 3 ∷ 2 ∷ 1 ∷ []) × (number_of 2 (3 ∷ 2 ∷ 1 ∷ []) ≡ 27) × (digits_of 3 1 27 ≡ 3 ∷ []) × (number_of 3 [] ≡ 0)
digits = (refl, refl, refl, refl)

-- outputs over all cells of the net: the digits of the sum, and cell 0 alone
output_numbers : (values_of (7 ∷ 8 ∷ []) (output (codes "s") (1 ∷ 0 ∷ 1 ∷ [])) ≡ 8 ∷ 7 ∷ 8 ∷ [])
    × (outs (net_of [] [] (output (codes "s") (5 ∷ 6 ∷ []) ∷ output (codes "t") (0 ∷ []) ∷ [])) (3 ∷ 1 ∷ 2 ∷ 1 ∷ 1 ∷ 1 ∷ 3 ∷ []) ≡ 13 ∷ 3 ∷ [])
output_numbers = (refl, refl)

-- a net without jobs has depth 0, a job without terms depth 1
depths : (net_depth (over_a []) ≡ 0) × (net_depth (over_a (job [] (pos 7) same 7 ∷ [])) ≡ 1)
unfolding given laid one_deeper depths_after net_depth greatest_of
depths = (refl, refl)

-- the degree that a new job declares
new_degree : new_job (over_a []) (term 0 (pos 2) ∷ []) (pos 1) by_four ≡ job (term 0 (pos 2) ∷ []) (pos 1) by_four 1
unfolding given laid degrees_after degree greatest_between greatest_of
new_degree = refl

-- the words of a job that gives its operands back: cell 1 and then cell 0, which hold one word each
cells_back : cells_of (λ basis j operands. operands) [] (net_of [] (job (term 1 (pos 1) ∷ term 0 (pos 1) ∷ []) (pos 0) same 0 ∷ []) []) ((7 ∷ []) ∷ (8 ∷ []) ∷ []) ≡ (7 ∷ []) ∷ (8 ∷ []) ∷ (8 ∷ 7 ∷ []) ∷ []
unfolding cells_of laid
cells_back = refl
