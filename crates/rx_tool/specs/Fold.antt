-- fold NET OUT: writes the net file of the folded net of a net, and prints its jobs and its depth.
use Rattle.std.specs.Prelude.{ℕ, ◌≡◌, List, [], ◌∷◌, length, Option, Some, None, Result, Ok, Err}
use Rattle.rx_net.specs.declared.net.Net.{Net}
use Rattle.rx_net.specs.Cells.{net_depth}
use Rattle.rx_fold.specs.Folded.{folded}
use Rattle.rx_codec.specs.declared.fault.CodecFault.{CodecFault}
use Rattle.rx_codec.specs.NetFile.{NetFile, net_from}
use Rattle.rx_report.specs.Reports.{Report, malformed_binary}
use Rattle.rx_tool.specs.declared.command.Command.{Command}
use Rattle.rx_tool.specs.declared.command.Command.TheVariants.{Fold}
use Rattle.rx_tool.specs.Compile.{size_line}

abbrev pub fold_of : List (List ℕ) → Option Command
fold_of (net ∷ out ∷ []) = Some (Fold net out)
fold_of _ = None

abbrev pub fold_refused : List ℕ → Result Net CodecFault → Option Report
fold_refused net (Err fault) = malformed_binary net fault
fold_refused net (Ok n) = None

-- what refuses: the net file
abbrev pub fold_refusal : List ℕ → List (List ℕ) → Option Report
fold_refusal net (file ∷ []) = fold_refused net (net_from file)
fold_refusal net _ = None

-- The net file of the folded net of the file's, and the line of that net.
abbrev pub FoldDoes : List ℕ → List (List ℕ) → List (List ℕ × List ℕ) → List ℕ → Type 0
FoldDoes out (file ∷ []) writes lines =
    (old : Net) × (bytes : List ℕ) × NetFile file old × NetFile bytes (folded old)
    × (writes ≡ (out, bytes) ∷ []) × (lines ≡ size_line (length (folded old).jobs) (net_depth (folded old)))
FoldDoes out _ writes lines = ⊥
