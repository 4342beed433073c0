-- Worked texts of circuits, computed by the definitions.
use Rattle.std.proofs.Common.{◌≡◌, true, false, ℕ, List, [], ◌∷◌, ◌++◌, Result, Ok, Err, Option, Some, None, replicate, length, refl}
use Rattle.std.specs.Prelude.{codes}
use Rattle.std.specs.Fmt.{digits}
use Rattle.rx_text.specs.declared.fault.LineCause.{LineCause}
use Rattle.rx_text.specs.declared.fault.LineCause.TheVariants.{Form, Number, Unknown, Kind, Again, Limit}
use Rattle.rx_text.specs.declared.fault.LineFault.{LineFault}
use Rattle.rx_text.specs.Faults.{fault_at}
use Rattle.rx_language.specs.declared.word.Word.TheVariants.{In, Ins, Const, Add, Shr, Out}
use Rattle.rx_language.specs.declared.kind.NameKind.TheVariants.{Int, Sint, Bit}
use Rattle.rx_language.specs.declared.line.Line.{Line}
use Rattle.rx_language.specs.declared.line.Step.{Step}
use Rattle.rx_language.specs.Programs.{Program, steps_of, steps_by, has_room, inputs_of, outputs_of}
use Rattle.rx_language.specs.Texts.{program_text}
use Rattle.rx_language.specs.Reading.{circuit_from, bad_line, line_after, spelled_from, ranged, header_from, ranged_header, first_from, name_from, numeral_from}

abbrev lines : List (List ℕ) → List ℕ
lines [] = []
lines (line ∷ more) = line ++ 10 ∷ lines more

abbrev in_a : Line
in_a = record { word = In; name = codes "a"; args = []; number = 0; width = 0 }

abbrev in_b : Line
in_b = record { word = In; name = codes "b"; args = []; number = 0; width = 0 }

abbrev add_s : Line
add_s = record { word = Add; name = codes "s"; args = codes "a" ∷ codes "b" ∷ []; number = 0; width = 0 }

abbrev out_s : Line
out_s = record { word = Out; name = codes "s"; args = []; number = 0; width = 0 }

-- the sum of two numbers
abbrev sum : Program
sum = record { space = 2; width = 8; lines = in_a ∷ in_b ∷ add_s ∷ out_s ∷ [] }

abbrev sum_text : List ℕ
sum_text = lines (codes "bits 2 8" ∷ codes "in a" ∷ codes "in b" ∷ codes "add s a b" ∷ codes "out s" ∷ [])

sum_read : circuit_from sum_text ≡ Ok sum
unfolding circuit_from header_from ranged_header line_after spelled_from ranged first_from name_from numeral_from steps_by
sum_read = refl

sum_written : program_text sum ≡ sum_text
unfolding digits
sum_written = refl

sum_steps : steps_of sum ≡ record { kind = Int 8; sources = [] } ∷ record { kind = Int 8; sources = [] } ∷ record { kind = Int 8; sources = 0 ∷ 1 ∷ [] } ∷ record { kind = Int 8; sources = 2 ∷ [] } ∷ []
unfolding steps_by
sum_steps = refl

sum_inputs : inputs_of sum ≡ record { name = codes "a"; kind = Int 8 } ∷ record { name = codes "b"; kind = Int 8 } ∷ []
unfolding steps_by
sum_inputs = refl

-- the same names of other kinds: a sum of an Int and a Sint, which are none alike
mixed : bad_line (lines (codes "bits 2 8" ∷ codes "ins a 4" ∷ codes "inw n 4" ∷ codes "add s a n" ∷ [])) ≡ Some (fault_at 4 Kind)
unfolding circuit_from header_from ranged_header line_after spelled_from ranged first_from name_from numeral_from steps_by
mixed = refl

-- a name of a later line comes before a kind, and a numeral before both
unknown_before_kind : bad_line (lines (codes "bits 2 8" ∷ codes "inbit a" ∷ codes "add s a b" ∷ [])) ≡ Some (fault_at 3 Unknown)
unfolding circuit_from header_from ranged_header line_after spelled_from ranged first_from name_from numeral_from steps_by
unknown_before_kind = refl

number_before_unknown : bad_line (lines (codes "bits 2 8" ∷ codes "shl s a 256" ∷ [])) ≡ Some (fault_at 2 Number)
unfolding circuit_from header_from ranged_header line_after spelled_from ranged first_from name_from numeral_from steps_by
number_before_unknown = refl

-- `out` defines nothing
out_twice : bad_line (lines (codes "bits 2 8" ∷ codes "in a" ∷ codes "out a" ∷ codes "out a" ∷ [])) ≡ Some (fault_at 4 Again)
unfolding circuit_from header_from ranged_header line_after spelled_from ranged first_from name_from numeral_from steps_by
out_twice = refl

wrong_width : bad_line (lines (codes "bits 2 31" ∷ [])) ≡ Some (fault_at 1 Number)
unfolding circuit_from header_from ranged_header numeral_from
wrong_width = refl

no_line : bad_line [] ≡ Some (fault_at 1 Form)
unfolding circuit_from
no_line = refl

without_line_feed : bad_line (lines (codes "bits 2 8" ∷ []) ++ codes "in a") ≡ Some (fault_at 2 Form)
unfolding circuit_from header_from ranged_header numeral_from
without_line_feed = refl

header_alone : bad_line (lines (codes "bits 2 2" ∷ [])) ≡ None
unfolding circuit_from header_from ranged_header numeral_from
header_alone = refl

-- the last line, input and output that there is room for, and one more
room : (has_room (replicate 4094 add_s) Add ≡ true) × (has_room (replicate 4095 add_s) Add ≡ false) × (has_room (replicate 63 in_a) In ≡ true)
    × (has_room (replicate 64 in_a) In ≡ false) × (has_room (replicate 64 in_a) Add ≡ true) × (has_room (replicate 63 out_s) Out ≡ true) × (has_room (replicate 64 out_s) Out ≡ false)
room = (refl, refl, refl, refl, refl, refl, refl)
