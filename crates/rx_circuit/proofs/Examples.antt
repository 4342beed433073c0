-- Worked value files, computed by the definitions.
use Rattle.std.proofs.Common.{◌≡◌, [], ◌∷◌, ◌++◌, Some, Ok, Err, replicate, refl}
use Rattle.std.specs.Fmt.{digits}
use Rattle.std.specs.Prelude.{codes}
use Rattle.rx_text.specs.declared.fault.LineCause.TheVariants.{Form, Number, Again, Limit}
use Rattle.rx_text.specs.Faults.{fault_at}
use Rattle.rx_params.specs.declared.kind.Kind.TheVariants.{Int, Bit}
use Rattle.rx_circuit.specs.declared.values.ValueLine.{ValueLine}
use Rattle.rx_circuit.specs.Values.{values_text, line_after, values_from}

abbrev a_200 : ValueLine
a_200 = record { kind = Int; name = codes "a"; bits = 8; value = 200 }

abbrev b_1 : ValueLine
b_1 = record { kind = Bit; name = codes "b"; bits = 1; value = 1 }

one_line : values_from (codes "int a 8 200" ++ 10 ∷ []) ≡ Ok (a_200 ∷ [])
unfolding values_from
one_line = refl

one_text : values_text (a_200 ∷ b_1 ∷ []) ≡ codes "int a 8 200" ++ 10 ∷ codes "bit b 1 1" ++ 10 ∷ []
unfolding digits
one_text = refl

no_line : values_from [] ≡ Ok []
unfolding values_from
no_line = refl

too_large : values_from (codes "int a 8 256" ++ 10 ∷ []) ≡ Err (fault_at 1 Number)
unfolding values_from
too_large = refl

form_before_number : values_from (codes "int a 65 01" ++ 10 ∷ []) ≡ Err (fault_at 1 Form)
unfolding values_from
form_before_number = refl

without_line_feed : values_from (codes "int a 8 200" ++ 10 ∷ codes "bit b 1 1") ≡ Err (fault_at 2 Form)
unfolding values_from
without_line_feed = refl

twice : values_from (codes "int a 8 200" ++ 10 ∷ codes "bit a 1 1" ++ 10 ∷ []) ≡ Err (fault_at 2 Again)
unfolding values_from
twice = refl

number_before_again : values_from (codes "int a 8 200" ++ 10 ∷ codes "bit a 1 2" ++ 10 ∷ []) ≡ Err (fault_at 2 Number)
unfolding values_from
number_before_again = refl

line_64 : line_after (replicate 63 a_200) (Some b_1) ≡ Ok b_1
line_64 = refl

line_65 : line_after (replicate 64 a_200) (Some b_1) ≡ Err Limit
line_65 = refl

line_65_again : line_after (replicate 64 b_1) (Some b_1) ≡ Err Again
line_65_again = refl
