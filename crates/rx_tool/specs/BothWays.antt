-- `migrate` and `expand`, one after the other, give the bytes back.
use Rattle.std.specs.Prelude.{ℕ, ◌≡◌, List, [], ◌∷◌, None}
use Rattle.rx_tool.specs.Migrate.{migrate_refusal, MigrateDoes}
use Rattle.rx_tool.specs.Expand.{expand_refusal, IsSeededBy, ExpandDoes}

-- What `migrate` wrote of a file is not refused by `expand`, which writes the file again. What `expand` wrote of a seeded file is
-- not refused by `migrate` with its mask seed, which writes the seeded file again.
pub record BothWaysLaws : Type 0 where
  pub expands : (mask_seed out input file bytes : List ℕ) → MigrateDoes mask_seed out (file ∷ []) ((out, bytes) ∷ []) [] →
      expand_refusal input (bytes ∷ []) ≡ None
  pub expanded : (mask_seed out back file bytes again : List ℕ) → MigrateDoes mask_seed out (file ∷ []) ((out, bytes) ∷ []) [] →
      ExpandDoes back (bytes ∷ []) ((back, again) ∷ []) [] → again ≡ file
  pub migrates : (mask_seed out input file bytes : List ℕ) → IsSeededBy mask_seed file →
      ExpandDoes out (file ∷ []) ((out, bytes) ∷ []) [] → migrate_refusal mask_seed input (bytes ∷ []) ≡ None
  pub migrated : (mask_seed out back file bytes again : List ℕ) → IsSeededBy mask_seed file →
      ExpandDoes out (file ∷ []) ((out, bytes) ∷ []) [] → MigrateDoes mask_seed back (bytes ∷ []) ((back, again) ∷ []) [] →
      again ≡ file
