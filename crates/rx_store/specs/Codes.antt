-- What callers see of a store in memory, as a tuple, by which its values are told apart.
use Rattle.std.specs.Prelude.{ℕ, List, refl}
use Rattle.std.specs.Coded.{Coded, code_by, coded×, coded_ℕ, coded_list}
use Rattle.std.specs.FinMap.{code}
use Rattle.rx_store.specs.Files.{Files}
use Rattle.rx_store.specs.Memory.{StoreInMemory}

-- the tuple of its fields, and back
abbrev pub store_code : Coded StoreInMemory
store_code =
    code_by (Files × ((ℕ × ℕ) × (ℕ × List ℕ)))
    (coded× (code (coded_list coded_ℕ) (coded_list coded_ℕ)) (coded× (coded× coded_ℕ coded_ℕ) (coded× coded_ℕ (coded_list coded_ℕ))))
    (λ s. (s.files, ((s.read_faults, s.write_faults), (s.next_call, s.failing))))
    (λ p. record { files = p.0; read_faults = p.1.0.0; write_faults = p.1.0.1; next_call = p.1.1.0; failing = p.1.1.1 })
    (λ _. refl)
