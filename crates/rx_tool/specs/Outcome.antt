-- The contract of the tool: what the status of a command says, from what stands before and after.
use Rattle.std.specs.Prelude.{◌≡◌, ◌⊎◌, ℕ, Option, None}
use Rattle.rx_report.specs.declared.refusal.Kind.{Kind}
use Rattle.rx_report.specs.Reports.{status_of, usage_line}
use Rattle.rx_tool.specs.declared.command.Command.{Command}
use Rattle.rx_tool.specs.World.{World, ReadFailed, WriteFailed, PrintFailed, Faultless, Prints}
use Rattle.rx_tool.specs.Ran.{IsMissing, Finished, Stopped}
use Rattle.rx_tool.specs.Told.{IsRefusal, RefusedBy, Refuses, OfReading, ShortOfMemory, LeftAlone, Complete, IsDecrypt, NeverDamaged}

pub record IsOutcome (command : Option Command) (before after : World) (status : ℕ) : Type 0 where
  -- Words that are no command, and no others, are a usage error.
  pub usage : status ≡ 2 → command ≡ None
  pub no_command : command ≡ None → (status ≡ 2) ⊎ (status ≡ 11)
  pub usage_reported : status ≡ 2 → Prints usage_line before after
  -- Faults have their causes, and a missing file is a read fault.
  pub read_cause : status ≡ 3 → ReadFailed before after ⊎ IsMissing command before
  pub write_cause : status ≡ 4 → WriteFailed before after ⊎ PrintFailed before after
  pub absent : IsMissing command before → (status ≡ 3) ⊎ (status ≡ 11)
  -- Each refusal comes exactly where the command refuses, with its line, and nothing was written.
  pub refused : IsRefusal status → RefusedBy command before after status
  pub refusing : Refuses command before after status
  pub known : IsRefusal status → (status ≡ 2) ⊎ ((kind : Kind) × (status ≡ status_of kind))
  pub unwritten : IsRefusal status ⊎ (status ≡ 3) → after.files ≡ before.files
  pub silent : (status ≡ 3) ⊎ (status ≡ 11) → after.printed ≡ before.printed
  -- Damage is told by `decrypt` alone, and not of blocks that keep numbers under the client's key.
  pub damage : status ≡ 9 → IsDecrypt command
  pub undamaged : NeverDamaged command before status
  -- What was done, and what stands where it was not.
  pub done : status ≡ 0 → OfReading command before (λ given. Finished command given before after)
  pub stopped : status ≡ 4 → OfReading command before (λ given. Stopped command given before after)
  pub ran_out : status ≡ 11 → ShortOfMemory command before after
  pub left_alone : status ≡ 11 → LeftAlone command before after
  -- Without a refusal, a missing file or a fault it is done, or memory was wanted.
  pub complete : Faultless before after → Complete command before status
