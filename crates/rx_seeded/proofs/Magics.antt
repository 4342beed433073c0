-- Files by their first four bytes.
use Rattle.std.proofs.Common.{◌≡◌, ℕ, true, false, List, ◌++◌, length, take, ◌∙◌, ap}
use Rattle.std.specs.Str.{bytes_eq}
use Rattle.std.proofs.lemmas.List.{take_at}
use Rattle.std.proofs.lemmas.Slice.Eq.{bytes_eq-Decides}
use Rattle.rx_seeded.specs.FileKinds.{begins}

-- a file that has a magic and then a text begins with it
pub begins-with : (file magic text : List ℕ) → length magic ≡ 4 → file ≡ magic ++ text → begins file magic ≡ true
begins-with file magic text four is =
    (bytes_eq-Decides (take 4 file) magic).1 (ap (take 4) is ∙ take_at magic text 4 four)

-- and with no other one
pub begins-not : (file magic other text : List ℕ) → length magic ≡ 4 → file ≡ magic ++ text → bytes_eq magic other ≡ false →
    begins file other ≡ false
begins-not file magic other text four is differ =
    ap (λ front. bytes_eq front other) (ap (take 4) is ∙ take_at magic text 4 four) ∙ differ
