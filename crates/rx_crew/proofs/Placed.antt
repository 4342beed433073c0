-- Blocks in lists.
use Rattle.std.proofs.Common.{◌≡◌, inl, inr, ℕ, ◌+◌, ◌-◌, ◌^◌, ◌<◌, List, [], ◌∷◌, ◌++◌, length, get_or, set, map, take, drop, replicate, subst, sym, ◌∙◌, ap, arith}
use Rattle.std.proofs.lemmas.Bool.{cases_eq, cases_lt}
use Rattle.std.proofs.lemmas.List.{length-set, get_or-set_same, get_or-set_other, take_more, take_more_set, set-append_right, map-append, length_push, get_or_append_left}
use Rattle.std.proofs.Math.Seq.{take-length, take-append_seam}
use Rattle.std.specs.Prelude.{EachIndex, slice_index}
use Rattle.rx_params.specs.declared.params.Params.{Params}
use Rattle.rx_params.specs.Derived.{large_dim}
use Rattle.rx_block.specs.declared.block.Block.{Block}
use Rattle.rx_block.specs.Combine.{no_block, AreBlocksOf}
use Rattle.rx_block.specs.Outputs.{numbered_blocks}
use Rattle.rx_crew.specs.Evaluation.{zero_block, AreWordsOf}
use Rattle.rx_net.proofs.Laid.{get_or_end}

pub are-set : (p : Params) (xs : List Block) (i : ℕ) (b : Block) → AreBlocksOf p xs → length b.words ≡ large_dim p + 1 → AreBlocksOf p (set xs i b)
are-set p xs i b h e c q =
    let inside : c < length xs = omega (arith, length-set xs i b) in
    elim (cases_eq c i) as (λ _. length (get_or (set xs i b) c no_block).words ≡ large_dim p + 1) [
      | inl same ↦
          ap (λ k. length (get_or (set xs i b) k no_block).words) same
          ∙ ap (λ (x : Block). length x.words) (get_or-set_same xs i b no_block (omega arith)) ∙ e
      | inr other ↦ ap (λ (x : Block). length x.words) (get_or-set_other xs i c b no_block other) ∙ h c inside
    ]

pub zero_block-made : (p : Params) (words : List ℕ) (made : Block) → words ≡ replicate (large_dim p + 1) 0 →
    made ≡ record { words = words; degree = 0; noise = 0 } → made ≡ zero_block p
zero_block-made p words made e is =
    let of : List ℕ → Block = λ ws. record { words = ws; degree = 0; noise = 0 } in
    is ∙ ap of e

-- a block beside those before it
pub set-after : (xs front back : List Block) (n : ℕ) (b : Block) → xs ≡ front ++ back → length front ≡ n → front ++ set back 0 b ≡ set xs n b
set-after xs front back n b e l =
    let none : n - n ≡ 0 = omega arith in
    sym (ap (λ ys. set ys n b) e ∙ set-append_right front back n n b l (omega arith) ∙ ap (λ m. front ++ set back m b) none)

-- one numbered block more is copied
pub numbered-more : (from to : List Block) (numbers : List ℕ) (n : ℕ) (b : Block) → n < length numbers → n < length to →
    b ≡ get_or from (get_or numbers n 0) no_block → take n to ≡ numbered_blocks from (take n numbers) →
    take (n + 1) (set to n b) ≡ numbered_blocks from (take (n + 1) numbers)
numbered-more from to numbers n b p q e h =
    let at : ℕ → Block = λ c. get_or from c no_block in
    take_more_set to n b q ∙ ap (λ xs. xs ++ b ∷ []) h ∙ ap (λ x. numbered_blocks from (take n numbers) ++ x ∷ []) e
    ∙ sym (map-append at (take n numbers) (get_or numbers n 0 ∷ [])) ∙ ap (map at) (sym (take_more numbers n 0 p))

-- one block of words more
words-push : (xs : List Block) (b : Block) → AreWordsOf xs → EachIndex b.words (λ i. slice_index b.words i < 2 ^ 64) → AreWordsOf (xs ++ b ∷ [])
words-push xs b h e c q =
    let P : Block → Type 0 = λ x. EachIndex x.words (λ i. slice_index x.words i < 2 ^ 64) in
    let l = length_push xs b in
    elim (cases_lt c (length xs)) as (λ _. P (get_or (xs ++ b ∷ []) c no_block)) [
      | inl before ↦ subst P (sym (get_or_append_left xs (b ∷ []) no_block c before)) (h c before)
      | inr after ↦ subst P (sym (get_or_end xs b no_block c (omega arith))) e
    ]

pub words-more : (xs : List Block) (n : ℕ) (b : Block) → n < length xs → AreWordsOf (take n xs) →
    EachIndex b.words (λ i. slice_index b.words i < 2 ^ 64) → AreWordsOf (take (n + 1) (set xs n b))
words-more xs n b p h e = subst AreWordsOf (sym (take_more_set xs n b p)) (words-push (take n xs) b h e)

pub words-all : (xs : List Block) (n : ℕ) → n ≡ length xs → AreWordsOf (take n xs) → AreWordsOf xs
words-all xs n e h = subst AreWordsOf (ap (λ m. take m xs) e ∙ take-length xs) h

-- a list that was written from end to end
pub all-written : (xs ys : List Block) (n : ℕ) → length ys ≡ n → take n (ys ++ drop (length ys) xs) ≡ ys
all-written xs ys n e = ap (λ m. take m (ys ++ drop (length ys) xs)) (sym e) ∙ take-append_seam ys (drop (length ys) xs)
