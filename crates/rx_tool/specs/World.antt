-- The outside of a run, as a contract sees it at one moment, and what changes from one moment to a later one.
use Rattle.std.specs.Prelude.{◌≡◌, ◌⊎◌, ℕ, List, Option}
use Rattle.rx_store.specs.Files.{Files, Appends, AppendsPart}
use Rattle.rx_store.specs.Counts.{Rose}

-- the files and what was printed, where they are told, and how many reads, writes and prints failed
pub record World : Type 0 where
  pub files : Option Files
  pub read_faults : ℕ
  pub write_faults : ℕ
  pub printed : Option (List ℕ)
  pub print_faults : ℕ

abbrev pub world : Option Files → ℕ → ℕ → Option (List ℕ) → ℕ → World
world f r w p q = record { files = f; read_faults = r; write_faults = w; printed = p; print_faults = q }

-- a read, a write or a print failed in between, or the count of those stands at its last value
abbrev pub ReadFailed : World → World → Type 0
ReadFailed before after = Rose before.read_faults after.read_faults

abbrev pub WriteFailed : World → World → Type 0
WriteFailed before after = Rose before.write_faults after.write_faults

abbrev pub PrintFailed : World → World → Type 0
PrintFailed before after = Rose before.print_faults after.print_faults

-- no count of faults rose, or stands at its last value
pub record Faultless (before after : World) : Type 0 where
  pub no_read : ReadFailed before after → ⊥
  pub no_write : WriteFailed before after → ⊥
  pub no_print : PrintFailed before after → ⊥

-- no file was written and nothing was printed
pub record Untouched (before after : World) : Type 0 where
  pub same_files : after.files ≡ before.files
  pub same_printed : after.printed ≡ before.printed

-- the line was put, or a first part of it where the putting failed
abbrev pub Puts : List ℕ → Option (List ℕ) → ℕ → Option (List ℕ) → ℕ → Type 0
Puts line before faults after now =
    Appends before after line ⊎ (Rose faults now × AppendsPart before after line)

-- the line was printed, or a first part of it where the printing failed
abbrev pub Prints : List ℕ → World → World → Type 0
Prints line before after = Puts line before.printed before.print_faults after.printed after.print_faults
