-- What callers see of a store and a sink over the real thing, and what a read of a real file answers.
use Rattle.std.specs.Prelude.{◌≡◌, ◌<◌, ◌≤◌, ℕ, ◌+◌, List, length, take, Option, IfSome, Result, Ok, Err, Vec}
use Rattle.std.specs.Io.KnownBytes.{Appends}
use Rattle.std.specs.declared.alloc.Global.{Global}
use Rattle.rx_store.specs.declared.faults.ReadError.{ReadError}
use Rattle.rx_store.specs.declared.faults.ReadError.TheVariants.{Missing, TooLong, Failed, Memory}

-- how many reads and how many writes failed
pub record StoreFaults : Type 0 where
  pub read_faults : ℕ
  pub write_faults : ℕ

-- what the writer has taken, where it tells that, and how many puts failed
pub record SinkOverWriter : Type 0 where
  pub taken : Option (List ℕ)
  pub faults : ℕ

-- Bytes no longer than the limit, or one more byte than the limit. No file is said to be missing.
abbrev pub ReadsUpTo : ℕ → Result (Vec ℕ Global) ReadError → Type 0
ReadsUpTo limit (Ok bytes) = length bytes.items ≤ limit
ReadsUpTo limit (Err (TooLong size)) = size ≡ limit + 1
ReadsUpTo limit (Err Missing) = ⊥
ReadsUpTo limit (Err Failed) = Unit {0}
ReadsUpTo limit (Err (Memory _)) = Unit {0}

-- Where a reader tells what it has left: all of it, or it has more than the limit.
abbrev pub GivesAllLeft : Option (List ℕ) → ℕ → Result (Vec ℕ Global) ReadError → Type 0
GivesAllLeft left limit (Ok bytes) = IfSome left (λ all. all ≡ bytes.items)
GivesAllLeft left limit (Err (TooLong _)) = IfSome left (λ all. limit < length all)
GivesAllLeft left limit (Err Missing) = ⊥
GivesAllLeft left limit (Err Failed) = Unit {0}
GivesAllLeft left limit (Err (Memory _)) = Unit {0}

-- Where a writer tells what it has taken: some first bytes of these more, and nothing else.
abbrev pub TakesPart : Option (List ℕ) → Option (List ℕ) → List ℕ → Type 0
TakesPart before after bytes = (count : ℕ) × Appends before after (take count bytes)
