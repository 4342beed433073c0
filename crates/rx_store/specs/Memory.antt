-- What callers see of a store and a sink in memory.
use Rattle.std.specs.Prelude.{ℕ, ◌==◌, Bool, List, []}
use Rattle.std.specs.List.{list_any}
use Rattle.std.specs.FinMap.{empty}
use Rattle.rx_store.specs.Files.{Files}
use Rattle.rx_store.specs.Counts.{one_more, counted}

-- the files, the failed reads and writes, the number of the next call, and the numbers of those that fail
pub record StoreInMemory : Type 0 where
  pub files : Files
  pub read_faults : ℕ
  pub write_faults : ℕ
  pub next_call : ℕ
  pub failing : List ℕ

-- the bytes, the failed calls, the number of the next call, and the numbers of those that fail
pub record SinkInMemory : Type 0 where
  pub bytes : List ℕ
  pub faults : ℕ
  pub next_call : ℕ
  pub failing : List ℕ

-- whether the call of this number is among those that fail
abbrev pub is_listed : List ℕ → ℕ → Bool
is_listed failing call = list_any (λ number. number == call) failing

-- no files, and no call so far
abbrev pub new_store : List ℕ → StoreInMemory
new_store failing = record { files = empty; read_faults = 0; write_faults = 0; next_call = 0; failing = failing }

-- A read was made: it is counted, and if it was listed as a failed read too. All else stays.
abbrev pub after_read : StoreInMemory → StoreInMemory
after_read store = record store {
  read_faults = counted (is_listed store.failing store.next_call) store.read_faults;
  next_call = one_more store.next_call;
}

-- A write was made: it is counted, and if it was listed as a failed write too. All else stays.
abbrev pub after_write : StoreInMemory → StoreInMemory
after_write store = record store {
  write_faults = counted (is_listed store.failing store.next_call) store.write_faults;
  next_call = one_more store.next_call;
}

-- no bytes, and no call so far
abbrev pub new_sink : List ℕ → SinkInMemory
new_sink failing = record { bytes = []; faults = 0; next_call = 0; failing = failing }

-- A put was made: it is counted, and if it was listed as a failed one too. All else stays.
abbrev pub after_put : SinkInMemory → SinkInMemory
after_put sink = record sink {
  faults = counted (is_listed sink.failing sink.next_call) sink.faults;
  next_call = one_more sink.next_call;
}
