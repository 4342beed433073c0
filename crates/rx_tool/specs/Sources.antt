-- Where a set of parameters comes from: one of the four names, else a file of parameter text.
use Rattle.std.specs.Prelude.{ℕ, ◌≡◌, List, [], ◌∷◌, Option, Some, None, Result, Ok, Err}
use Rattle.std.specs.Option.{option_map}
use Rattle.rx_text.specs.declared.fault.LineFault.{LineFault}
use Rattle.rx_params.specs.declared.params.Params.{Params}
use Rattle.rx_params.specs.Sets.{named_of}
use Rattle.rx_params.specs.Text.{ParamsText, params_from}
use Rattle.rx_params.specs.Acceptance.{refusal_of}
use Rattle.rx_report.specs.Reports.{Report, not_accepted, malformed_text}
use Rattle.rx_tool.specs.declared.command.Source.{Source}
use Rattle.rx_tool.specs.declared.command.Source.TheVariants.{Named, File}

abbrev pub as_source : List ℕ → Option Params → Source
as_source word None = File word
as_source word (Some set) = Named set

-- the source that a word names; the name of a set wins over a file
abbrev pub source_of : List ℕ → Source
source_of word = as_source word (named_of word)

-- the files that a source reads
abbrev pub source_reads : Source → List (List ℕ)
source_reads (Named set) = []
source_reads (File name) = name ∷ []

-- the set that a source gives, over its files
abbrev pub IsSet : Source → List (List ℕ) → Params → Type 0
IsSet (Named set) files p = p ≡ set
IsSet (File name) (bytes ∷ []) p = ParamsText bytes p
IsSet (File name) [] p = ⊥
IsSet (File name) (bytes ∷ more ∷ files) p = ⊥

-- a set that is not accepted
abbrev pub set_refusal : Params → Option Report
set_refusal p = option_map not_accepted (refusal_of p)

abbrev pub read_refusal : List ℕ → Result Params LineFault → Option Report
read_refusal name (Err fault) = Some (malformed_text name fault)
read_refusal name (Ok p) = set_refusal p

-- what refuses the set of a source: its text, or its acceptance
abbrev pub source_refusal : Source → List (List ℕ) → Option Report
source_refusal (Named set) files = set_refusal set
source_refusal (File name) (bytes ∷ []) = read_refusal name (params_from bytes)
source_refusal (File name) [] = None
source_refusal (File name) (bytes ∷ more ∷ files) = None
