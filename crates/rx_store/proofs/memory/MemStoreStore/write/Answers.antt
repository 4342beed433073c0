use Rattle.std.proofs.Common.{refl, ap}
use Rattle.rx_store.specs.Files.{file_at}
use Rattle.rx_store.proofs.memory.MemStoreStore.write.Goals as goal

pub returns-then-fails-clause-leaves : goal.returns-then-fails-clause-leaves
returns-then-fails-clause-leaves c =
    (_, refl, λ other different. ap (λ store. file_at store.files other) c.self.view_is)
