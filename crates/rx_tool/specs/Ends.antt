-- What the parts of a run leave: a report, the end of a command that was refused, the writes and the printing.
use Rattle.std.specs.Prelude.{◌≡◌, ◌⊎◌, ℕ, List, Option}
use Rattle.rx_store.specs.Files.{Appends, AppendsPart}
use Rattle.rx_report.specs.Reports.{status_of}
use Rattle.rx_tool.specs.declared.outcome.Stop.{Stop}
use Rattle.rx_tool.specs.declared.outcome.Stop.TheVariants.{Refused, Read, Memory}
use Rattle.rx_tool.specs.Left.{told_written, MadeWhole, TornAt}
use Rattle.rx_tool.specs.World.{World, WriteFailed, PrintFailed, Puts}

-- the line is put and the status is the code, or nothing is put for want of memory
abbrev pub ReportGives : ℕ → List ℕ → Option (List ℕ) → ℕ → Option (List ℕ) → ℕ → ℕ → Type 0
ReportGives code line before faults after now status =
    ((status ≡ code) × Puts line before faults after now) ⊎ ((status ≡ 11) × (after ≡ before))

-- the end of a command that came to no write
abbrev pub GivesUp : Stop → Option (List ℕ) → ℕ → Option (List ℕ) → ℕ → ℕ → Type 0
GivesUp (Refused refusal) before faults after now status =
    ReportGives (status_of refusal.0) refusal.1 before faults after now status
GivesUp Read before faults after now status = (status ≡ 3) × (after ≡ before)
GivesUp Memory before faults after now status = (status ≡ 11) × (after ≡ before)

-- Writing some files and then printing some lines: all of it; or a write failed, and no line was printed; or
-- the printing failed after all writes; or memory ran out after whole writes, and no line was printed.
pub data Performs (writes : List (List ℕ × List ℕ)) (lines : List ℕ) (before after : World) (status : ℕ) : Type 0 where
  whole : status ≡ 0 → after.files ≡ told_written writes before.files →
      Appends before.printed after.printed lines → Performs writes lines before after status
  at_write : (made : ℕ) → status ≡ 4 → WriteFailed before after → TornAt writes before.files after.files made →
      after.printed ≡ before.printed → Performs writes lines before after status
  at_put : status ≡ 4 → PrintFailed before after → after.files ≡ told_written writes before.files →
      AppendsPart before.printed after.printed lines → Performs writes lines before after status
  short_of_memory : (made : ℕ) → status ≡ 11 → MadeWhole writes before.files after.files made →
      after.printed ≡ before.printed → Performs writes lines before after status
