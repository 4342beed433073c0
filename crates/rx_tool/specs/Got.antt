-- What the reads of a command give, over its store's files where they are told, and what they may give over any store.
use Rattle.std.specs.Prelude.{◌≡◌, ◌<◌, ◌≤◌, ℕ, List, [], ◌∷◌, ◌^◌, length, Option, Some, None, if◌then◌else◌, nat_le, Result, Ok, Err, IfSome, IsSomeAnd, All, Contains, EachIndex, slice_index, ◌⊎◌, Vec}
use Rattle.std.specs.Option.{option_map}
use Rattle.std.specs.declared.alloc.Global.{Global}
use Rattle.rx_store.specs.Files.{Files, file_at}
use Rattle.rx_store.specs.Counts.{Rose}
use Rattle.rx_tool.specs.declared.outcome.Stop.{Stop}
use Rattle.rx_tool.specs.declared.outcome.Stop.TheVariants.{Refused, Read, Memory}
use Rattle.rx_tool.specs.declared.command.Command.{Command}
use Rattle.rx_report.specs.Reports.{Report, status_of, usage_line, too_long}
use Rattle.rx_tool.specs.Commands.{reads_of, command_refusal, Does}

-- the greatest length of a file that is read, in bytes
abbrev pub file_limit : ℕ
file_limit = 2 ^ 29

-- Every file whole, in the order of reading; or the first that is longer than the limit, with its
-- length; or the first that is missing, all before it being whole.
pub data Got : Type 0 where
  whole : List (List ℕ) → Got
  long : List ℕ → ℕ → Got
  missing : Got

abbrev pub before_rest : List ℕ → Got → Got
before_rest bytes (whole files) = whole (bytes ∷ files)
before_rest bytes (long name size) = long name size
before_rest bytes missing = missing

abbrev pub got_one : List ℕ → Option (List ℕ) → Got → Got
got_one name None rest = missing
got_one name (Some bytes) rest =
    if nat_le (length bytes) file_limit then before_rest bytes rest else long name (length bytes)

abbrev pub got_all : List (List ℕ) → Files → Got
got_all [] files = whole []
got_all (name ∷ names) files = got_one name (file_at files name) (got_all names files)

-- the names that are read; words that are no command read nothing
abbrev pub reads : Option Command → List (List ℕ)
reads None = []
reads (Some command) = reads_of command

-- what the command's reads give, over these files
abbrev pub got : Option Command → Files → Got
got command files = got_all (reads command) files

-- bytes that a read may give
pub record IsFile (file : List ℕ) : Type 0 where
  pub bytes : EachIndex file (λ i. slice_index file i < 2 ^ 8)
  pub size : length file ≤ file_limit

-- What reads of these names may give over any store: as many files; a longer one, by its name and length; or a
-- missing one.
abbrev pub MayGive : List (List ℕ) → Got → Type 0
MayGive names (whole files) = (length files ≡ length names) × All IsFile files
MayGive names (long name size) = Contains names name × (file_limit < size) × (size < 2 ^ 64)
MayGive names missing = Unit {0}

-- the reads of a command gave this: they may give it, and do where the store tells its files
pub record Given (command : Option Command) (files : Option Files) (given : Got) : Type 0 where
  pub may : MayGive (reads command) given
  pub told : IfSome files (λ f. got command f ≡ given)

-- the status and the line of a refusal
abbrev pub as_report : Report → ℕ × List ℕ
as_report refusal = (status_of refusal.0, refusal.1)

-- the status of the first refusal, with its line, or none
abbrev pub refuses : Option Command → Got → Option (ℕ × List ℕ)
refuses None given = Some (2, usage_line)
refuses (Some command) (whole files) = option_map as_report (command_refusal command files)
refuses (Some command) (long name size) = Some (as_report (too_long name size))
refuses (Some command) missing = None

-- What a command that is not refused writes, in order, and then prints.
abbrev pub DoesAll : Option Command → Got → List (List ℕ × List ℕ) → List ℕ → Type 0
DoesAll (Some command) (whole files) writes lines = Does command files writes lines
DoesAll (Some command) (long name size) writes lines = ⊥
DoesAll (Some command) missing writes lines = ⊥
DoesAll None given writes lines = ⊥

-- what the reading of some names answers
abbrev pub ReadsAll : Option Files → List (List ℕ) → ℕ → ℕ → Result (Vec (List ℕ) Global) Stop → Type 0
ReadsAll files names before now (Ok all) =
    MayGive names (whole all.items) × IfSome files (λ f. got_all names f ≡ whole all.items)
ReadsAll files names before now (Err (Refused refusal)) =
    (name : List ℕ) × (size : ℕ) × (refusal ≡ too_long name size) × MayGive names (long name size)
    × IfSome files (λ f. got_all names f ≡ long name size)
ReadsAll files names before now (Err Read) = Rose before now ⊎ IsSomeAnd files (λ f. got_all names f ≡ missing)
ReadsAll files names before now (Err Memory) = Unit {0}
