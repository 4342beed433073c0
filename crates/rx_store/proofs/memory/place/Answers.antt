use Rattle.rx_store.proofs.FileLemmas.{files_in-insert_entry}
use Rattle.rx_store.proofs.memory.place.Goals as goal

pub returns-clause-placed : goal.returns-clause-placed
returns-clause-placed c =
    rw (c.in_ok-insert.ensures.entries, files_in-insert_entry, c.in_ok-key.ensures.ok, c.in_ok-value.ensures.items)
