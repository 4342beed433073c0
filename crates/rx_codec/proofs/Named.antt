-- What holds of each entry of a list, as far as a loop over it has come.
use Rattle.std.proofs.Common.{ℕ, List, drop}
use Rattle.std.specs.List.{AllByRecursion}

-- it holds of the first n entries: once it holds of the others, of all
pub record AreUpto {A : Type 0} (P : A → Type 0) (n : ℕ) (xs : List A) : Type 0 where
  pub with : AllByRecursion P (drop n xs) → AllByRecursion P xs
