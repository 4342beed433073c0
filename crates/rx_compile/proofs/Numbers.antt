-- Lines of two numbers of one kind.
use Rattle.std.proofs.Common.{◌≡◌, ℕ, ◌+◌, ◌-◌, ◌*◌, ◌%◌, ◌^◌, ◌<◌, min, max, true, false, List, [], length, sym, ◌∙◌, ap, subst}
use Rattle.std.specs.Int.{int_min, int_max}
use Rattle.rx_residue.specs.Residues.{residue, signed}
use Rattle.rx_residue.specs.Division.{quotient, remainder}
use Rattle.rx_costs.specs.Table.{add_jobs, add_depth, mul_jobs, mul_depth, div_jobs, div_depth, extreme_jobs, extreme_depth}
use Rattle.rx_net.specs.declared.net.Net.{Net}
use Rattle.rx_net.specs.Legal.{IsBounded}
use Rattle.rx_plan.specs.Values.{AreInputs, number_held}
use Rattle.rx_plan.specs.Planned.{EachOf, HasRoom}
use Rattle.rx_plan.specs.Results.{GivesNumber}
use Rattle.rx_plan.proofs.Held.{held_small}
use Rattle.rx_language.specs.declared.word.Word.{Word}
use Rattle.rx_language.specs.declared.word.Word.TheVariants.{Add, Sub, Mul, Div, Rem, Min, Max}
use Rattle.rx_language.specs.declared.kind.NameKind.{NameKind}
use Rattle.rx_language.specs.Kinds.{bits_of}
use Rattle.rx_meaning.specs.Operations.{given_by}
use Rattle.rx_meaning.specs.Values.{absent}
use Rattle.rx_meaning.specs.Costs.{cost_by}
use Rattle.rx_compile.specs.Realized.{operand, RealizesTwo}
use Rattle.rx_compile.specs.Arms.{is_signed, IsNumber}
use Rattle.rx_compile.proofs.Realizing.{number_realizes}
use Rattle.rx_compile.proofs.Wholes.{sum_whole, difference_whole, product_whole, quotient_whole, remainder_whole, min_whole, max_whole, smin_whole, smax_whole}

pub same_count : (old : Net) (kind : NameKind) (a b : List ℕ) → IsNumber old kind a → IsNumber old kind b → length b ≡ length a
same_count old kind a b n m = m.count ∙ sym n.count

-- what is below the power of the bits of so many blocks
pub small : (old : Net) (kind : NameKind) (a b : List ℕ) → IsBounded old → IsNumber old kind a → IsNumber old kind b → (xs : List ℕ) → AreInputs old xs
    → number_held old b xs < 2 ^ (old.space * length a)
small old kind a b bounded n m xs w =
    subst (λ (k : ℕ). number_held old b xs < 2 ^ (old.space * k)) (same_count old kind a b n m) (held_small old b bounded m.blocks xs w)

-- the room for a line of a word that is known
pub room_of : (old : Net) (w v : Word) (kind first : NameKind) (jobs : ℕ) → w ≡ v → jobs ≡ (cost_by v old.space kind first).jobs
    → HasRoom old (cost_by w old.space kind first).jobs → HasRoom old jobs
room_of old w v kind first jobs e j h =
    subst (HasRoom old) (sym j) (subst (λ (v : Word). HasRoom old (cost_by v old.space kind first).jobs) e h)

two_numbers : (old new : Net) (w v : Word) (kind : NameKind) (before after a b : List ℕ) (jobs levels : ℕ) (whole : List ℕ → ℕ)
    → w ≡ v → before ≡ [] → IsNumber old kind a → jobs ≡ (cost_by v old.space kind kind).jobs → levels ≡ (cost_by v old.space kind kind).depth
    → ((xs : List ℕ) → AreInputs old xs → whole xs % 2 ^ bits_of kind ≡ residue (bits_of kind) (given_by v 0 (operand old kind a xs) (operand old kind b xs) absent))
    → GivesNumber old new before after (length a) jobs levels (EachOf a b) whole
    → RealizesTwo w old new kind after kind a kind b
two_numbers old new w v kind before after a b jobs levels whole e f n j l h g =
    subst (λ (v : Word). RealizesTwo v old new kind after kind a kind b) (sym e)
    (number_realizes old new kind before after (length a) jobs levels (EachOf a b) whole (λ xs. given_by v 0 (operand old kind a xs) (operand old kind b xs) absent)
    (cost_by v old.space kind kind) n.number n.bits n.count f j l h g)

pub add_room : (old : Net) (w : Word) (kind : NameKind) (a : List ℕ) → w ≡ Add → IsNumber old kind a → HasRoom old (cost_by w old.space kind kind).jobs → HasRoom old (add_jobs (length a))
unfolding cost_by
add_room old w kind a e n h = room_of old w Add kind kind (add_jobs (length a)) e (ap (λ k. add_jobs (k)) n.count) h

pub sub_room : (old : Net) (w : Word) (kind : NameKind) (a : List ℕ) → w ≡ Sub → IsNumber old kind a → HasRoom old (cost_by w old.space kind kind).jobs → HasRoom old (add_jobs (length a))
unfolding cost_by
sub_room old w kind a e n h = room_of old w Sub kind kind (add_jobs (length a)) e (ap (λ k. add_jobs (k)) n.count) h

pub mul_room : (old : Net) (w : Word) (kind : NameKind) (a : List ℕ) → w ≡ Mul → IsNumber old kind a → HasRoom old (cost_by w old.space kind kind).jobs → HasRoom old (mul_jobs old.space (length a))
unfolding cost_by
mul_room old w kind a e n h = room_of old w Mul kind kind (mul_jobs old.space (length a)) e (ap (λ k. mul_jobs old.space (k)) n.count) h

pub div_room : (old : Net) (w : Word) (kind : NameKind) (a : List ℕ) → w ≡ Div → IsNumber old kind a → HasRoom old (cost_by w old.space kind kind).jobs → HasRoom old (div_jobs old.space (length a))
unfolding cost_by
div_room old w kind a e n h = room_of old w Div kind kind (div_jobs old.space (length a)) e (ap (λ k. div_jobs old.space k) n.count) h

pub rem_room : (old : Net) (w : Word) (kind : NameKind) (a : List ℕ) → w ≡ Rem → IsNumber old kind a → HasRoom old (cost_by w old.space kind kind).jobs → HasRoom old (div_jobs old.space (length a))
unfolding cost_by
rem_room old w kind a e n h = room_of old w Rem kind kind (div_jobs old.space (length a)) e (ap (λ k. div_jobs old.space k) n.count) h

pub min_room : (old : Net) (w : Word) (kind : NameKind) (a : List ℕ) → w ≡ Min → IsNumber old kind a → HasRoom old (cost_by w old.space kind kind).jobs → HasRoom old (extreme_jobs (length a))
unfolding cost_by
min_room old w kind a e n h = room_of old w Min kind kind (extreme_jobs (length a)) e (ap (λ k. extreme_jobs (k)) n.count) h

pub max_room : (old : Net) (w : Word) (kind : NameKind) (a : List ℕ) → w ≡ Max → IsNumber old kind a → HasRoom old (cost_by w old.space kind kind).jobs → HasRoom old (extreme_jobs (length a))
unfolding cost_by
max_room old w kind a e n h = room_of old w Max kind kind (extreme_jobs (length a)) e (ap (λ k. extreme_jobs (k)) n.count) h

pub add_line : (old new : Net) (w : Word) (kind : NameKind) (before after a b : List ℕ) → w ≡ Add → before ≡ [] → IsNumber old kind a
    → GivesNumber old new before after (length a) (add_jobs (length a)) (add_depth (length a)) (EachOf a b) (λ xs. number_held old a xs + number_held old b xs)
    → RealizesTwo w old new kind after kind a kind b
unfolding cost_by given_by
add_line old new w kind before after a b e f n g =
    two_numbers old new w Add kind before after a b (add_jobs (length a)) (add_depth (length a)) (λ xs. number_held old a xs + number_held old b xs) e f n
    (ap (λ k. add_jobs (k)) n.count) (ap (λ k. add_depth (k)) n.count)
    (λ xs q. sum_whole (bits_of kind) (number_held old a xs) (number_held old b xs)) g

pub sub_line : (old new : Net) (w : Word) (kind : NameKind) (before after a b : List ℕ) → w ≡ Sub → before ≡ [] → IsNumber old kind a → IsBounded old → IsNumber old kind b
    → GivesNumber old new before after (length a) (add_jobs (length a)) (add_depth (length a)) (EachOf a b) (λ xs. number_held old a xs + 2 ^ (old.space * length a) - number_held old b xs)
    → RealizesTwo w old new kind after kind a kind b
unfolding cost_by given_by
sub_line old new w kind before after a b e f n bounded m g =
    two_numbers old new w Sub kind before after a b (add_jobs (length a)) (add_depth (length a)) (λ xs. number_held old a xs + 2 ^ (old.space * length a) - number_held old b xs) e f n
    (ap (λ k. add_jobs (k)) n.count) (ap (λ k. add_depth (k)) n.count)
    (λ xs q. difference_whole (old.space * length a) (bits_of kind) (number_held old a xs) (number_held old b xs) n.bits (small old kind a b bounded n m xs q)) g

pub mul_line : (old new : Net) (w : Word) (kind : NameKind) (before after a b : List ℕ) → w ≡ Mul → before ≡ [] → IsNumber old kind a
    → GivesNumber old new before after (length a) (mul_jobs old.space (length a)) (mul_depth old.space (length a)) (EachOf a b) (λ xs. number_held old a xs * number_held old b xs)
    → RealizesTwo w old new kind after kind a kind b
unfolding cost_by given_by
mul_line old new w kind before after a b e f n g =
    two_numbers old new w Mul kind before after a b (mul_jobs old.space (length a)) (mul_depth old.space (length a)) (λ xs. number_held old a xs * number_held old b xs) e f n
    (ap (λ k. mul_jobs old.space (k)) n.count) (ap (λ k. mul_depth old.space (k)) n.count)
    (λ xs q. product_whole (bits_of kind) (number_held old a xs) (number_held old b xs)) g

pub div_line : (old new : Net) (w : Word) (kind : NameKind) (before after a b : List ℕ) → w ≡ Div → before ≡ [] → IsNumber old kind a
    → GivesNumber old new before after (length a) (div_jobs old.space (length a)) (div_depth old.space (length a)) (EachOf a b) (λ xs. quotient (old.space * length a) (number_held old a xs) (number_held old b xs))
    → RealizesTwo w old new kind after kind a kind b
unfolding cost_by given_by
div_line old new w kind before after a b e f n g =
    two_numbers old new w Div kind before after a b (div_jobs old.space (length a)) (div_depth old.space (length a)) (λ xs. quotient (old.space * length a) (number_held old a xs) (number_held old b xs)) e f n
    (ap (λ k. div_jobs old.space k) n.count) (ap (λ k. div_depth old.space k) n.count)
    (λ xs q. quotient_whole (old.space * length a) (bits_of kind) (number_held old a xs) (number_held old b xs) n.bits) g

pub rem_line : (old new : Net) (w : Word) (kind : NameKind) (before after a b : List ℕ) → w ≡ Rem → before ≡ [] → IsNumber old kind a
    → GivesNumber old new before after (length a) (div_jobs old.space (length a)) (div_depth old.space (length a)) (EachOf a b) (λ xs. remainder (number_held old a xs) (number_held old b xs))
    → RealizesTwo w old new kind after kind a kind b
unfolding cost_by given_by
rem_line old new w kind before after a b e f n g =
    two_numbers old new w Rem kind before after a b (div_jobs old.space (length a)) (div_depth old.space (length a)) (λ xs. remainder (number_held old a xs) (number_held old b xs)) e f n
    (ap (λ k. div_jobs old.space k) n.count) (ap (λ k. div_depth old.space k) n.count)
    (λ xs q. remainder_whole (bits_of kind) (number_held old a xs) (number_held old b xs)) g

pub min_line : (old new : Net) (w : Word) (kind : NameKind) (before after a b : List ℕ) → w ≡ Min → before ≡ [] → IsNumber old kind a → is_signed kind ≡ false
    → GivesNumber old new before after (length a) (extreme_jobs (length a)) (extreme_depth (length a)) (EachOf a b) (λ xs. min (number_held old a xs) (number_held old b xs))
    → RealizesTwo w old new kind after kind a kind b
unfolding cost_by given_by
min_line old new w kind before after a b e f n s g =
    two_numbers old new w Min kind before after a b (extreme_jobs (length a)) (extreme_depth (length a)) (λ xs. min (number_held old a xs) (number_held old b xs)) e f n
    (ap (λ k. extreme_jobs (k)) n.count) (ap (λ k. extreme_depth (k)) n.count)
    (λ xs q. min_whole kind (number_held old a xs) (number_held old b xs) s) g

pub smin_line : (old new : Net) (w : Word) (kind : NameKind) (before after a b : List ℕ) → w ≡ Min → before ≡ [] → IsNumber old kind a → is_signed kind ≡ true
    → GivesNumber old new before after (length a) (extreme_jobs (length a)) (extreme_depth (length a)) (EachOf a b) (λ xs. residue (old.space * length a) (int_min (signed (old.space * length a) (number_held old a xs)) (signed (old.space * length a) (number_held old b xs))))
    → RealizesTwo w old new kind after kind a kind b
unfolding cost_by given_by
smin_line old new w kind before after a b e f n s g =
    two_numbers old new w Min kind before after a b (extreme_jobs (length a)) (extreme_depth (length a)) (λ xs. residue (old.space * length a) (int_min (signed (old.space * length a) (number_held old a xs)) (signed (old.space * length a) (number_held old b xs)))) e f n
    (ap (λ k. extreme_jobs (k)) n.count) (ap (λ k. extreme_depth (k)) n.count)
    (λ xs q. smin_whole kind (old.space * length a) (number_held old a xs) (number_held old b xs) s n.bits) g

pub max_line : (old new : Net) (w : Word) (kind : NameKind) (before after a b : List ℕ) → w ≡ Max → before ≡ [] → IsNumber old kind a → is_signed kind ≡ false
    → GivesNumber old new before after (length a) (extreme_jobs (length a)) (extreme_depth (length a)) (EachOf a b) (λ xs. max (number_held old a xs) (number_held old b xs))
    → RealizesTwo w old new kind after kind a kind b
unfolding cost_by given_by
max_line old new w kind before after a b e f n s g =
    two_numbers old new w Max kind before after a b (extreme_jobs (length a)) (extreme_depth (length a)) (λ xs. max (number_held old a xs) (number_held old b xs)) e f n
    (ap (λ k. extreme_jobs (k)) n.count) (ap (λ k. extreme_depth (k)) n.count)
    (λ xs q. max_whole kind (number_held old a xs) (number_held old b xs) s) g

pub smax_line : (old new : Net) (w : Word) (kind : NameKind) (before after a b : List ℕ) → w ≡ Max → before ≡ [] → IsNumber old kind a → is_signed kind ≡ true
    → GivesNumber old new before after (length a) (extreme_jobs (length a)) (extreme_depth (length a)) (EachOf a b) (λ xs. residue (old.space * length a) (int_max (signed (old.space * length a) (number_held old a xs)) (signed (old.space * length a) (number_held old b xs))))
    → RealizesTwo w old new kind after kind a kind b
unfolding cost_by given_by
smax_line old new w kind before after a b e f n s g =
    two_numbers old new w Max kind before after a b (extreme_jobs (length a)) (extreme_depth (length a)) (λ xs. residue (old.space * length a) (int_max (signed (old.space * length a) (number_held old a xs)) (signed (old.space * length a) (number_held old b xs)))) e f n
    (ap (λ k. extreme_jobs (k)) n.count) (ap (λ k. extreme_depth (k)) n.count)
    (λ xs q. smax_whole kind (old.space * length a) (number_held old a xs) (number_held old b xs) s n.bits) g
