-- Lists of blocks that keep values.
use Rattle.std.proofs.Common.{ℕ, zero, suc, ◌<◌, List, [], ◌∷◌, ◌++◌, length, get_or, map, refl, sym, ◌∙◌, ap, subst, arith}
use Rattle.std.specs.List.{AllByRecursion}
use Rattle.std.proofs.lemmas.List.{length-map, get_or-map}
use Rattle.std.proofs.lemmas.List.Elements.{All-from_recursion}
use Rattle.rx_params.specs.declared.params.Params.{Params}
use Rattle.rx_block.specs.declared.block.Block.{Block}
use Rattle.rx_block.specs.Combine.{no_block}
use Rattle.rx_block.specs.Keeps.{Keeps, AreKept}
use Rattle.rx_block.specs.Outputs.{numbered_blocks}

pub none_kept : (p : Params) (key : List ℕ) → AreKept p key [] []
none_kept p key = record { count = refl; each = λ c low. absurd (omega (arith, low)) }

pub first_kept : (p : Params) (key : List ℕ) (b : Block) (bs : List Block) (x : ℕ) (xs : List ℕ) → AreKept p key (b ∷ bs) (x ∷ xs) →
    Keeps p key b x × AreKept p key bs xs
first_kept p key b bs x xs are = (
  are.each 0 (omega arith),
  record { count = omega (arith, are.count); each = λ c low. are.each (suc c) (omega (arith, low)) },
)

one_kept : (p : Params) (key : List ℕ) (b : Block) (bs : List Block) (x : ℕ) (xs : List ℕ) → Keeps p key b x → AreKept p key bs xs →
    (c : ℕ) → c < length (b ∷ bs) → Keeps p key (get_or (b ∷ bs) c no_block) (get_or (x ∷ xs) c 0)
one_kept p key b bs x xs first are zero low = first
one_kept p key b bs x xs first are (suc c) low = are.each c (omega (arith, low))

-- a block that keeps a number, before those that keep theirs
pub kept_with : (p : Params) (key : List ℕ) (b : Block) (bs : List Block) (x : ℕ) (xs : List ℕ) → Keeps p key b x → AreKept p key bs xs →
    AreKept p key (b ∷ bs) (x ∷ xs)
kept_with p key b bs x xs first are = record { count = ap suc are.count; each = one_kept p key b bs x xs first are }

-- blocks that keep values, and more of them
pub both_kept : (p : Params) (key : List ℕ) (bs more : List Block) (xs others : List ℕ) → AreKept p key bs xs → AreKept p key more others →
    AreKept p key (bs ++ more) (xs ++ others)
both_kept p key [] more [] others first second = second
both_kept p key [] more (x ∷ xs) others first second = absurd (omega (arith, first.count))
both_kept p key (b ∷ bs) more [] others first second = absurd (omega (arith, first.count))
both_kept p key (b ∷ bs) more (x ∷ xs) others first second =
    let parts = first_kept p key b bs x xs first in
    kept_with p key b (bs ++ more) x (xs ++ others) parts.0 (both_kept p key bs more xs others parts.1 second)

-- those of some numbers
pub numbered_kept : (p : Params) (key : List ℕ) (cells : List Block) (xs : List ℕ) (numbers : List ℕ) → AreKept p key cells xs →
    AllByRecursion (λ c. c < length cells) numbers → AreKept p key (numbered_blocks cells numbers) (map (λ c. get_or xs c 0) numbers)
numbered_kept p key cells xs numbers kept below =
    let block_at : ℕ → Block = λ c. get_or cells c no_block in
    let number_at : ℕ → ℕ = λ c. get_or xs c 0 in
    record {
      count = length-map numbers number_at ∙ sym (length-map numbers block_at);
      each = λ k q.
          let here : k < length numbers = omega (arith, q, length-map numbers block_at) in
          subst (λ (x : ℕ). Keeps p key (get_or (map block_at numbers) k no_block) x) (sym (get_or-map number_at numbers k 0 0 here))
          (subst (λ (b : Block). Keeps p key b (get_or xs (get_or numbers k 0) 0)) (sym (get_or-map block_at numbers k 0 no_block here))
          (kept.each (get_or numbers k 0) (All-from_recursion (λ c. c < length cells) numbers below k 0 here)));
    }
