-- Worked counts, files and calls of a store in memory, computed by the definitions.
use Rattle.std.proofs.Common.{◌≡◌, ◌-◌, ◌^◌, [], ◌∷◌, true, false, Some, None, refl, arith}
use Rattle.std.specs.Prelude.{codes}
use Rattle.rx_store.specs.Counts.{Rose, one_more, counted}
use Rattle.std.specs.FinMap.{empty}
use Rattle.rx_store.specs.Files.{Files, file_at, with_file, Appends, AppendsPart}
use Rattle.rx_store.proofs.FileLemmas.{file_at-with_file}
use Rattle.rx_store.specs.Memory.{StoreInMemory, new_store, after_read, after_write, new_sink, after_put, is_listed}

-- a count stays at the last value of its type
counts : (one_more 4 ≡ 5) × (one_more (2 ^ 64 - 1) ≡ 2 ^ 64 - 1) × (counted true 4 ≡ 5) × (counted false 4 ≡ 4)
counts = (refl, refl, refl, refl)

-- a count rose, or stood at the last value already
rises : Rose 4 5 × Rose (2 ^ 64 - 1) (2 ^ 64 - 1)
rises = (omega arith, omega arith)

listed : (is_listed (3 ∷ 5 ∷ []) 5 ≡ true) × (is_listed (3 ∷ 5 ∷ []) 4 ≡ false)
listed = (refl, refl)

-- call 0 fails as a read, call 1 does not fail as a write, call 2 fails as a write
abbrev after_three : StoreInMemory
after_three = after_write (after_write (after_read (new_store (0 ∷ 2 ∷ []))))

three_calls : after_three ≡ record (new_store (0 ∷ 2 ∷ [])) { read_faults = 1; write_faults = 1; next_call = 3 }
three_calls = refl

puts : after_put (after_put (new_sink (1 ∷ []))) ≡ record (new_sink (1 ∷ [])) { faults = 1; next_call = 2 }
puts = refl

-- what a sink was given grows, by a whole piece or by its first bytes; a sink that tells nothing goes on so
grows : Appends (Some (1 ∷ [])) (Some (1 ∷ 2 ∷ 3 ∷ [])) (2 ∷ 3 ∷ []) × AppendsPart (Some (1 ∷ [])) (Some (1 ∷ 2 ∷ [])) (2 ∷ 3 ∷ []) × Appends None None (2 ∷ 3 ∷ [])
grows = (refl, (1, refl), refl)

-- ---- files by their names: the last bytes of a name stand
abbrev two_files : Files
two_files = with_file (codes "a") (2 ∷ []) (with_file (codes "b") (3 ∷ []) (with_file (codes "a") (1 ∷ []) empty))

found : file_at two_files (codes "a") ≡ Some (2 ∷ [])
found = file_at-with_file (codes "a") (2 ∷ []) (with_file (codes "b") (3 ∷ []) (with_file (codes "a") (1 ∷ []) empty))
