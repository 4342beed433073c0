-- The whole way over a folded net: a net that is compiled of a circuit and then folded goes it as the compiled one does, and a run
-- with either net gives the same.
use Rattle.std.specs.Prelude.{ℕ, ◌≡◌, ◌≤◌, ◌⊎◌, List, [], ◌∷◌, length, Option, Some, None}
use Rattle.rx_net.specs.declared.net.Net.{Net}
use Rattle.rx_net.specs.Cells.{input_cells}
use Rattle.rx_net.specs.Legal.{Legal}
use Rattle.rx_boot.specs.ServerKeys.{ServerWords}
use Rattle.rx_block.specs.declared.block.Block.{Block}
use Rattle.rx_crew.specs.Kernel.{job_words}
use Rattle.rx_language.specs.Programs.{Program}
use Rattle.rx_codec.specs.declared.client.Client.{Client}
use Rattle.rx_compile.specs.Compiled.{Compiled}
use Rattle.rx_fold.specs.Folded.{folded}
use Rattle.rx_fold.specs.Laws.{ReadsWeights}
use Rattle.rx_report.specs.Reports.{Report, wide_board}
use Rattle.rx_tool.specs.Fold.{FoldDoes}
use Rattle.rx_tool.specs.Run.{evaluation, run_refusal, RunDoes}
use Rattle.rx_tool.specs.WholeWay.{Batch}
use Rattle.rx_tool.specs.CircuitWay.{CircuitGoes}

-- the one file is what `fold` writes of the other
abbrev pub IsFoldOf : List ℕ → List ℕ → Type 0
IsFoldOf folded_file net_file = (out lines : List ℕ) × FoldDoes out (net_file ∷ []) ((out, folded_file) ∷ []) lines

-- the words and the files of a run, but for those of its net and of its output
pub record RunWith : Type 0 where
  pub server : List ℕ
  pub workers : ℕ
  pub inputs : List (List ℕ)
  pub server_file : List ℕ
  pub input_files : List (List ℕ)

-- its files, with this one for its net
abbrev pub files_with : RunWith → List ℕ → List (List ℕ)
files_with run net_file = run.server_file ∷ net_file ∷ run.input_files

-- what refuses it, where the net's file has this name
abbrev pub refusal_with : RunWith → List ℕ → List ℕ → Option Report
refusal_with run net net_file = run_refusal run.server net run.workers run.inputs (files_with run net_file)

-- what refused as a board of too many words refuses as one of no more words, or not at all
abbrev pub NarrowerBoard : Option Report → Option Report → Type 0
NarrowerBoard before after =
    (words : ℕ) × (before ≡ Some (wide_board words))
    × ((after ≡ None) ⊎ ((fewer : ℕ) × (fewer ≤ words) × (after ≡ Some (wide_board fewer))))

-- A net of a circuit stays one when it is folded, and so all that is said of the whole way of a circuit holds of it.
-- A server key's definition of the words of a job reads of its terms the weights alone. So the outputs of a net and of its folded
-- net are the same over all blocks for its inputs, with equal words and equal tags. What refuses a run with a net refuses it with
-- the folded net too, but that a board may be narrower, and so a run that nothing refuses is not refused with the folded net,
-- whatever the name of its file is. Where nothing refuses, both runs write the same file.
pub record FoldWayLaws : Type 0 where
  pub compiled : (p : Program) (net : Net) → Compiled p net → Compiled p (folded net)
  pub goes : (c : Client) (p : Program) (net : Net) (batches : List Batch) (numbers : List ℕ) → CircuitGoes c p net batches numbers →
      CircuitGoes c p (folded net) batches numbers
  pub weights : ReadsWeights job_words
  pub same : (k : ServerWords) (net : Net) (inputs : List Block) → Legal net → length inputs ≡ input_cells net.space net.inputs →
      evaluation k (folded net) inputs ≡ evaluation k net inputs
  pub refuses : (run : RunWith) (net net_file folded_file : List ℕ) → IsFoldOf folded_file net_file →
      (refusal_with run net folded_file ≡ refusal_with run net net_file)
      ⊎ NarrowerBoard (refusal_with run net net_file) (refusal_with run net folded_file)
  pub accepts : (run : RunWith) (net other net_file folded_file : List ℕ) → IsFoldOf folded_file net_file →
      refusal_with run net net_file ≡ None → refusal_with run other folded_file ≡ None
  pub writes : (run : RunWith) (net net_file folded_file out other bytes again lines more : List ℕ) → IsFoldOf folded_file net_file →
      length run.inputs ≡ length run.input_files → refusal_with run net net_file ≡ None →
      RunDoes out (files_with run net_file) ((out, bytes) ∷ []) lines →
      RunDoes other (files_with run folded_file) ((other, again) ∷ []) more → again ≡ bytes
