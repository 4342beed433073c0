-- What a compiled net has of a circuit, and what is kept while it is compiled, computed by the definitions.
use Rattle.std.proofs.Common.{◌≡◌, ℕ, zero, suc, inl, List, [], ◌∷◌, true, false, refl, arith}
use Rattle.std.specs.Prelude.{codes, map}
use Rattle.rx_params.specs.declared.kind.Kind.TheVariants.{Int as WholeNumber, Bit as OneBit}
use Rattle.rx_costs.specs.Logs.{log_from, log_up}
use Rattle.rx_net.specs.declared.net.Net.{Net}
use Rattle.rx_net.specs.Cells.{input_cells, cell_count, given, laid, value, values_after, degree, degrees_after, depths_after, net_depth}
use Rattle.rx_net.specs.Tags.{greatest_of}
use Rattle.rx_net.specs.Legal.{Legal}
use Rattle.rx_net.specs.Numbers.{outs}
use Rattle.rx_plan.specs.Values.{number_held}
use Rattle.rx_language.specs.declared.word.Word.{Word}
use Rattle.rx_language.specs.declared.word.Word.TheVariants.{In, Add, Out}
use Rattle.rx_language.specs.declared.kind.NameKind.{NameKind}
use Rattle.rx_language.specs.declared.kind.NameKind.TheVariants.{Int, Sint, Bit}
use Rattle.rx_language.specs.declared.line.Line.{Line}
use Rattle.rx_language.specs.Programs.{Program, Port, steps_by, inputs_of}
use Rattle.rx_residue.specs.Residues.{residue}
use Rattle.rx_meaning.specs.Operations.{given_by}
use Rattle.rx_meaning.specs.Values.{AreWithin, values_from, given_out, outputs_for}
use Rattle.rx_meaning.specs.Costs.{cost_by}
use Rattle.rx_meaning.specs.Bounds.{costs_of, greatest, depths_from}
use Rattle.rx_compile.specs.Compiled.{Compiled, file_kind, net_input, form_of_output, form_of_port, port_digits, input_digits}
use Rattle.rx_compile.specs.Arms.{is_signed}
use Rattle.rx_compile.specs.Realized.{operand}
use Rattle.rx_compile.specs.States.{no_line, line_at, step_at, costs, depths, source_at, inputs_before, inputs_net, first_cell, digits_for, net_output, outputs_among, outputs_before}

abbrev port : List ℕ → NameKind → Port
port name kind = record { name = name; kind = kind }

-- nets know no sign
kinds : (file_kind (Int 8) ≡ WholeNumber) × (file_kind (Sint 8) ≡ WholeNumber) × (file_kind Bit ≡ OneBit) × (is_signed (Int 8) ≡ false) × (is_signed (Sint 8) ≡ true) × (is_signed Bit ≡ false)
kinds = (refl, refl, refl, refl, refl, refl)

-- an input of a number has the degree of a whole block, that of a bit the degree 1
inputs : (net_input 2 (port (codes "a") (Int 8)) ≡ record { name = codes "a"; kind = WholeNumber; bits = 8; degree = 3; noise = 1 })
    × (net_input 3 (port (codes "a") (Sint 9)) ≡ record { name = codes "a"; kind = WholeNumber; bits = 9; degree = 7; noise = 1 })
    × (net_input 2 (port (codes "t") Bit) ≡ record { name = codes "t"; kind = OneBit; bits = 1; degree = 1; noise = 1 })
inputs = (refl, refl, refl)

forms : (form_of_port (port (codes "s") (Sint 8)) ≡ record { name = codes "s"; kind = WholeNumber; bits = 8 })
    × (form_of_output (record { name = codes "t"; kind = OneBit; bits = 1; cells = 7 ∷ [] }) ≡ record { name = codes "t"; kind = OneBit; bits = 1 })
forms = (refl, refl)

-- 200 is 2 times 4 and 3 times 64
input_places : (port_digits 2 (port (codes "a") (Int 8)) 200 ≡ 0 ∷ 2 ∷ 0 ∷ 3 ∷ []) × (port_digits 3 (port (codes "a") (Int 9)) 511 ≡ 7 ∷ 7 ∷ 7 ∷ []) × (port_digits 2 (port (codes "t") Bit) 1 ≡ 1 ∷ [])
    × (input_digits 2 (port (codes "a") (Int 4) ∷ port (codes "t") Bit ∷ []) (9 ∷ 1 ∷ []) ≡ 1 ∷ 2 ∷ 1 ∷ [])
unfolding input_digits
input_places = (refl, refl, refl, refl)

-- ---- the sum of a and b, line by line
abbrev line : Word → List ℕ → List (List ℕ) → Line
line word name args = record { word = word; name = name; args = args; number = 0; width = 0 }

abbrev sum : Program
sum = record { space = 2; width = 8; lines = line In (codes "a") [] ∷ line In (codes "b") [] ∷ line Add (codes "s") (codes "a" ∷ codes "b" ∷ []) ∷ line Out (codes "s") [] ∷ [] }

sum_lines : (line_at sum 1 ≡ line In (codes "b") []) × (line_at sum 4 ≡ no_line) × (step_at sum 2 ≡ record { kind = Int 8; sources = 0 ∷ 1 ∷ [] }) × (step_at sum 3 ≡ record { kind = Int 8; sources = 2 ∷ [] }) × (source_at sum 2 1 ≡ 1)
unfolding steps_by
sum_lines = (refl, refl, refl, refl, refl)

-- an input costs nothing, and its depth is 0
sum_costs : (map (λ cost. cost.jobs) (costs sum) ≡ 0 ∷ 0 ∷ 13 ∷ 0 ∷ []) × (depths sum ≡ 0 ∷ 0 ∷ 4 ∷ 4 ∷ [])
unfolding costs_of depths_from greatest cost_by log_from log_up steps_by
sum_costs = (refl, refl)

sum_inputs : (inputs_before sum 1 ≡ net_input 2 (port (codes "a") (Int 8)) ∷ []) × (inputs_net sum 0 ≡ record { space = 2; inputs = []; jobs = []; outputs = [] }) × (first_cell sum 1 ≡ 4) × (first_cell sum 2 ≡ 8)
    × (digits_for sum (200 ∷ 100 ∷ []) ≡ 0 ∷ 2 ∷ 0 ∷ 3 ∷ 0 ∷ 1 ∷ 2 ∷ 1 ∷ [])
unfolding steps_by input_cells input_digits
sum_inputs = (refl, refl, refl, refl, refl)

-- the cells 4 to 7 hold b
second : operand (inputs_net sum 2) (Int 8) (4 ∷ 5 ∷ 6 ∷ 7 ∷ []) (digits_for sum (200 ∷ 100 ∷ [])) ≡ record { kind = Int 8; value = 100 }
unfolding steps_by input_digits number_held value values_after laid
second = refl

-- the cells of the line that an output gives out
abbrev cells : List (List ℕ)
cells = (0 ∷ 1 ∷ []) ∷ (2 ∷ 3 ∷ []) ∷ (4 ∷ 5 ∷ []) ∷ (4 ∷ 5 ∷ []) ∷ []

sum_outputs : (outputs_before sum cells 4 ≡ net_output (line_at sum 3) (step_at sum 3) (4 ∷ 5 ∷ []) ∷ []) × (outputs_before sum cells 3 ≡ []) × ((net_output (line_at sum 3) (step_at sum 3) (4 ∷ 5 ∷ [])).bits ≡ 8)
unfolding steps_by outputs_among
sum_outputs = (refl, refl, refl)

-- ---- a whole net: the one that gives its input of two bits back, without a job
abbrev back : Program
back = record { space = 2; width = 2; lines = line In (codes "a") [] ∷ line Out (codes "a") [] ∷ [] }

abbrev back_net : Net
back_net = record {
  space = 2;
  inputs = record { name = codes "a"; kind = WholeNumber; bits = 2; degree = 3; noise = 1 } ∷ [];
  jobs = [];
  outputs = record { name = codes "a"; kind = WholeNumber; bits = 2; cells = 0 ∷ [] } ∷ [];
}

back_legal : Legal back_net
unfolding degree degrees_after laid given cell_count input_cells
back_legal = record {
  limits = record { space = inl refl; few_inputs = omega arith; inputs = (refl, tt); few_jobs = omega arith; few_terms = tt; few_outputs = omega arith };
  jobs = tt;
  outputs = (refl, tt);
}

back_values : (xs : List ℕ) → AreWithin (inputs_of back) xs →
    outs back_net (values_after (input_digits 2 (inputs_of back) xs) back_net.jobs) ≡ outputs_for back xs
unfolding steps_by input_digits values_after laid outputs_for values_from given_out given_by residue
back_values [] h = absurd h
back_values (zero ∷ []) h = refl
back_values (suc zero ∷ []) h = refl
back_values (suc (suc zero) ∷ []) h = refl
back_values (suc (suc (suc zero)) ∷ []) h = refl
back_values (suc (suc (suc (suc x))) ∷ []) h = let low = h.0 in absurd (omega arith)
back_values (x ∷ y ∷ xs) h = absurd h.1

back_depth : net_depth back_net ≡ 0
unfolding net_depth depths_after laid given greatest_of
back_depth = refl

back_compiled : Compiled back back_net
unfolding steps_by costs_of cost_by
back_compiled = record { legal = back_legal; space = refl; inputs = refl; outputs = refl; values = back_values; jobs_in = omega arith; depth_in = omega (arith, back_depth) }
