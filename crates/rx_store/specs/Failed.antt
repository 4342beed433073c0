-- Which answers are failures of the outside.
use Rattle.std.specs.Prelude.{ℕ, Bool, true, false, Result, Ok, Err, Vec}
use Rattle.std.specs.declared.alloc.Global.{Global}
use Rattle.rx_store.specs.declared.faults.ReadError.{ReadError}
use Rattle.rx_store.specs.declared.faults.WriteError.{WriteError}
use Rattle.rx_store.specs.declared.faults.ReadError.TheVariants.{Missing, TooLong}
use Rattle.rx_store.specs.declared.faults.ReadError.TheVariants.{Failed as ReadFailed, Memory as NoMemoryToRead}
use Rattle.rx_store.specs.declared.faults.WriteError.TheVariants.{Failed, Memory}

-- whether a read answered Failed
abbrev pub read_failed : Result (Vec ℕ Global) ReadError → Bool
read_failed (Ok _) = false
read_failed (Err ReadFailed) = true
read_failed (Err Missing) = false
read_failed (Err (TooLong _)) = false
read_failed (Err (NoMemoryToRead _)) = false

-- whether a write or a put answered Failed
abbrev pub write_failed : Result Unit WriteError → Bool
write_failed (Ok _) = false
write_failed (Err Failed) = true
write_failed (Err (Memory _)) = false
