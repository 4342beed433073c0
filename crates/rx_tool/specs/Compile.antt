-- compile CIRCUIT NET: writes the net file of a net of a circuit, and prints its jobs and its depth.
use Rattle.std.specs.Prelude.{ℕ, ◌≡◌, List, [], ◌∷◌, ◌++◌, codes, decimal, length, Option, Some, None, Result, Ok, Err}
use Rattle.rx_text.specs.declared.fault.LineFault.{LineFault}
use Rattle.rx_net.specs.declared.net.Net.{Net}
use Rattle.rx_net.specs.Cells.{net_depth}
use Rattle.rx_language.specs.Programs.{Program}
use Rattle.rx_language.specs.Texts.{IsCircuit}
use Rattle.rx_language.specs.Reading.{circuit_from}
use Rattle.rx_meaning.specs.Bounds.{jobs_of}
use Rattle.rx_codec.specs.NetFile.{NetFile}
use Rattle.rx_compile.specs.Compiled.{Compiled}
use Rattle.rx_report.specs.Reports.{Report, malformed_text}
use Rattle.rx_tool.specs.declared.command.Command.{Command}
use Rattle.rx_tool.specs.declared.command.Command.TheVariants.{Compile}
use Rattle.rx_tool.specs.Refusals.{jobs_refusal}

abbrev pub compile_of : List (List ℕ) → Option Command
compile_of (circuit ∷ net ∷ []) = Some (Compile circuit net)
compile_of _ = None

abbrev pub compile_refused : List ℕ → Result Program LineFault → Option Report
compile_refused circuit (Err fault) = Some (malformed_text circuit fault)
compile_refused circuit (Ok p) = jobs_refusal (jobs_of p)

-- what refuses: the circuit, then the most jobs that its lines may take
abbrev pub compile_refusal : List ℕ → List (List ℕ) → Option Report
compile_refusal circuit (circuit_file ∷ []) = compile_refused circuit (circuit_from circuit_file)
compile_refusal circuit _ = None

-- the line of a net's jobs and depth
abbrev pub size_line : ℕ → ℕ → List ℕ
size_line jobs depth = codes "jobs " ++ (decimal jobs ++ (codes " depth " ++ (decimal depth ++ 10 ∷ [])))

-- The net file of a net that is compiled of the circuit, and the line of that very net. Which net it is is free within `Compiled`.
abbrev pub CompileDoes : List ℕ → List (List ℕ) → List (List ℕ × List ℕ) → List ℕ → Type 0
CompileDoes net (circuit_file ∷ []) writes lines =
    (p : Program) × (made : Net) × (bytes : List ℕ) × IsCircuit circuit_file p × Compiled p made × NetFile bytes made
    × (writes ≡ (net, bytes) ∷ []) × (lines ≡ size_line (length made.jobs) (net_depth made))
CompileDoes net _ writes lines = ⊥
