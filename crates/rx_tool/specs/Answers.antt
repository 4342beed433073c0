-- What the pure part of a command answers, once its files were read.
use Rattle.std.specs.Prelude.{◌≡◌, ℕ, List, Some, None, Option, Result, Ok, Err}
use Rattle.std.specs.String.{string_bytes}
use Rattle.rx_report.specs.Reports.{Report}
use Rattle.rx_tool.specs.declared.outcome.Done.{Done}
use Rattle.rx_tool.specs.declared.outcome.Stop.{Stop}
use Rattle.rx_tool.specs.declared.outcome.Stop.TheVariants.{Refused, Read, Memory}
use Rattle.rx_tool.specs.declared.command.Command.{Command}
use Rattle.rx_tool.specs.Commands.{command_refusal, Does}

-- A stop says what refuses, or that memory was wanted; nothing more is read.
abbrev pub StopsFor : Option Report → Stop → Type 0
StopsFor refusal (Refused report) = refusal ≡ Some report
StopsFor refusal Read = ⊥
StopsFor refusal Memory = Unit {0}

-- It is so where nothing refuses it, and else it stops for what refuses it, or for want of memory.
abbrev pub Yields : {A : Type 0} → Option Report → (A → Type 0) → Result A Stop → Type 0
Yields refusal IsSo (Ok value) = (refusal ≡ None) × IsSo value
Yields refusal IsSo (Err stop) = StopsFor refusal stop

-- It is done with the writes and the lines of the command.
abbrev pub Answers : Command → List (List ℕ) → Result Done Stop → Type 0
Answers command files result =
    Yields (command_refusal command files) (λ done. Does command files done.writes.items (string_bytes done.lines)) result
