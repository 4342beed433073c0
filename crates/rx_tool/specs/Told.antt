-- What the contract of the tool says of a status, and of what stands before and after.
use Rattle.std.specs.Prelude.{◌≡◌, ◌≢◌, ◌⊎◌, ℕ, List, Option, Some, None, IfSome}
use Rattle.rx_store.specs.Files.{Files}
use Rattle.rx_tool.specs.declared.command.Command.{Command}
use Rattle.rx_tool.specs.declared.command.Command.TheVariants.{Decrypt}
use Rattle.rx_tool.specs.Decrypt.{AreKeptFiles}
use Rattle.rx_tool.specs.World.{World, ReadFailed, Untouched, Prints}
use Rattle.rx_tool.specs.Got.{Got, whole, missing, got, Given, refuses}
use Rattle.rx_tool.specs.Ran.{RanOut}

-- a status that a refusal gives: none of done, read fault, write fault and want of memory
pub record IsRefusal (status : ℕ) : Type 0 where
  pub not_done : status ≢ 0
  pub not_read : status ≢ 3
  pub not_write : status ≢ 4
  pub not_memory : status ≢ 11

-- The command refuses what its reads gave, over any store, with this status and with a line, which was printed,
-- or a first part of it where the printing failed.
pub record RefusedBy (command : Option Command) (before after : World) (status : ℕ) : Type 0 where
  pub given : Got
  pub line : List ℕ
  pub read : Given command before.files given
  pub refusal : refuses command given ≡ Some (status, line)
  pub put : Prints line before after

-- the status is that of the refusal, or memory was wanted or a read failed before
abbrev pub SaysSo : ℕ → World → World → ℕ × List ℕ → Type 0
SaysSo status before after report =
    (status ≡ report.0) ⊎ ((status ≡ 11) ⊎ ((status ≡ 3) × ReadFailed before after))

-- where something refuses, the status says so
abbrev pub Refuses : Option Command → World → World → ℕ → Type 0
Refuses command before after status =
    IfSome before.files (λ f. IfSome (refuses command (got command f)) (SaysSo status before after))

-- the command does not refuse what its reads gave, and this holds of it
abbrev pub OfReading : Option Command → World → (Got → Type 0) → Type 0
OfReading command before P =
    (given : Got) × Given command before.files given × (refuses command given ≡ None) × P given

-- memory ran out: nothing was done, or the first writes of the command, each of them whole
abbrev pub ShortOfMemory : Option Command → World → World → Type 0
ShortOfMemory command before after =
    Untouched before after ⊎ OfReading command before (λ given. RanOut command given before after)

-- nothing refuses, and no file that is read is missing
pub record Accepted (command : Option Command) (files : Files) : Type 0 where
  pub not_refused : refuses command (got command files) ≡ None
  pub not_missing : got command files ≢ missing

-- where something refuses or a file is missing, all is as it was
abbrev pub LeftAlone : Option Command → World → World → Type 0
LeftAlone command before after =
    IfSome before.files (λ f. (Accepted command f → ⊥) → Untouched before after)

-- where nothing refuses and no file is missing, it is done or memory was wanted
abbrev pub Complete : Option Command → World → ℕ → Type 0
Complete command before status =
    IfSome before.files (λ f. Accepted command f → (status ≡ 0) ⊎ (status ≡ 11))

-- the command decrypts
abbrev pub IsDecrypt : Option Command → Type 0
IsDecrypt (Some (Decrypt client input)) = Unit {0}
IsDecrypt _ = ⊥

-- it decrypts a file whose blocks keep numbers under the client's key
abbrev pub DecryptsKept : Option Command → Got → Type 0
DecryptsKept (Some (Decrypt client input)) (whole files) = AreKeptFiles files
DecryptsKept _ _ = ⊥

-- then no damage is reported
abbrev pub NeverDamaged : Option Command → World → ℕ → Type 0
NeverDamaged command before status =
    IfSome before.files (λ f. DecryptsKept command (got command f) → status ≢ 9)
