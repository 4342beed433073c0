-- Inputs found in value files and lines of outputs, computed by the definitions.
use Rattle.std.proofs.Common.{◌≡◌, List, ℕ, [], ◌∷◌, ◌++◌, Ok, Err, refl}
use Rattle.std.specs.Fmt.{digits}
use Rattle.std.specs.Prelude.{codes}
use Rattle.rx_params.specs.declared.kind.Kind.TheVariants.{Int as FileInt, Bit as FileBit}
use Rattle.rx_language.specs.declared.kind.NameKind.{NameKind}
use Rattle.rx_language.specs.declared.kind.NameKind.TheVariants.{Int, Sint, Bit}
use Rattle.rx_language.specs.Programs.{Port}
use Rattle.rx_circuit.specs.declared.values.ValueLine.{ValueLine}
use Rattle.rx_circuit.specs.declared.inputs.InputError.TheVariants.{Missing, Form}
use Rattle.rx_circuit.specs.Inputs.{found_inputs}
use Rattle.rx_circuit.specs.Outputs.{number_lines, port_names}

abbrev port : List ℕ → NameKind → Port
port name kind = record { name = name; kind = kind }

abbrev values : List ValueLine
values =
    record { kind = FileBit; name = codes "c"; bits = 1; value = 1 } ∷ record { kind = FileInt; name = codes "b"; bits = 8; value = 100 }
    ∷ record { kind = FileInt; name = codes "a"; bits = 8; value = 200 } ∷ []

-- in the order of the inputs, whatever that of the lines, and others passed over
in_order : found_inputs (port (codes "a") (Int 8) ∷ port (codes "b") (Sint 8) ∷ []) values ≡ Ok (200 ∷ 100 ∷ [])
in_order = refl

none : found_inputs [] values ≡ Ok []
none = refl

missing : found_inputs (port (codes "a") (Int 8) ∷ port (codes "d") (Int 8) ∷ []) values ≡ Err (Missing (codes "d"))
missing = refl

other_width : found_inputs (port (codes "b") (Int 4) ∷ port (codes "d") (Int 8) ∷ []) values ≡ Err (Form (codes "b"))
other_width = refl

other_kind : (found_inputs (port (codes "b") Bit ∷ []) values ≡ Err (Form (codes "b"))) × (found_inputs (port (codes "c") (Sint 2) ∷ []) values ≡ Err (Form (codes "c")))
other_kind = (refl, refl)

printed : number_lines (port_names (port (codes "s") (Int 8) ∷ port (codes "t") Bit ∷ [])) (44 ∷ 0 ∷ []) ≡ codes "s 44" ++ 10 ∷ codes "t 0" ++ 10 ∷ []
unfolding digits
printed = refl
