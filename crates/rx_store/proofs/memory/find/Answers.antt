use Rattle.std.proofs.Common.{ap}
use Rattle.std.specs.Option.{option_map}
use Rattle.rx_store.proofs.FileLemmas.{file_at-entries}
use Rattle.rx_store.proofs.memory.find.Goals as goal

pub returns-in-Some : goal.returns-in-Some
returns-in-Some c = rw (file_at-entries, c.as_slice.ensures.value) (ap (option_map (λ v. v.items)) c.in-Some.ensures.value)

pub returns-in-None : goal.returns-in-None
returns-in-None c = rw (file_at-entries) (ap (option_map (λ v. v.items)) c.in-None.ensures.value)
