-- Lines of a number and an amount to shift it by.
use Rattle.std.proofs.Common.{◌≡◌, ℕ, ◌*◌, ◌/◌, ◌%◌, ◌^◌, true, false, List, [], length, refl, sym, ◌∙◌, ap, subst}
use Rattle.std.specs.Prelude.{pos}
use Rattle.std.specs.Int.{int_div_euclid}
use Rattle.std.proofs.lemmas.Bool.{false≢true}
use Rattle.rx_residue.specs.Residues.{residue, signed}
use Rattle.rx_costs.specs.declared.table.Cost.{Cost}
use Rattle.rx_costs.specs.Logs.{log_up}
use Rattle.rx_costs.specs.Table.{row, amount_shift_jobs, amount_shift_depth, signed_shift_jobs, signed_shift_depth}
use Rattle.rx_net.specs.declared.net.Net.{Net}
use Rattle.rx_plan.specs.Values.{AreInputs, number_held}
use Rattle.rx_plan.specs.Planned.{EachOf, HasRoom}
use Rattle.rx_plan.specs.Results.{GivesNumber}
use Rattle.rx_language.specs.declared.word.Word.{Word}
use Rattle.rx_language.specs.declared.word.Word.TheVariants.{Shlv, Shrv}
use Rattle.rx_language.specs.declared.kind.NameKind.{NameKind}
use Rattle.rx_language.specs.declared.kind.NameKind.TheVariants.{Int, Sint, Bit}
use Rattle.rx_language.specs.Kinds.{bits_of, is_number}
use Rattle.rx_meaning.specs.Operations.{given_by}
use Rattle.rx_meaning.specs.Values.{absent}
use Rattle.rx_meaning.specs.Costs.{cost_by, blocks_of, amount_shift, amount_shift_right}
use Rattle.rx_compile.specs.Realized.{operand, RealizesTwo}
use Rattle.rx_compile.specs.Arms.{is_signed, IsNumber}
use Rattle.rx_compile.proofs.Realizing.{number_realizes}
use Rattle.rx_compile.proofs.Numbers.{room_of}
use Rattle.rx_compile.proofs.Wholes.{raised_whole, lowered_whole, filled_whole}

amount_blocks : (space : ℕ) (kind : NameKind) → is_number kind ≡ true → blocks_of space (Int (bits_of kind)) ≡ blocks_of space kind
amount_blocks space (Int width) e = refl
amount_blocks space (Sint width) e = refl
amount_blocks space Bit e = absurd (false≢true e)

-- an amount has as many blocks as the number that it shifts
pub amount_count : (old : Net) (kind : NameKind) (a b : List ℕ) → IsNumber old kind a → IsNumber old (Int (bits_of kind)) b → length b ≡ length a
amount_count old kind a b n m = m.count ∙ amount_blocks old.space kind n.number ∙ sym n.count

-- the cost of a shift by as many bits and blocks as a number has
abbrev plain_cost : ℕ → ℕ → Cost
plain_cost bits blocks = amount_shift (log_up 2 bits) blocks

abbrev signed_cost : ℕ → ℕ → Cost
signed_cost bits blocks = row (signed_shift_jobs (log_up 2 bits) blocks) (signed_shift_depth (log_up 2 bits))

right_plain : (space : ℕ) (kind : NameKind) → is_signed kind ≡ false → amount_shift_right space kind ≡ plain_cost (bits_of kind) (blocks_of space kind)
right_plain space (Int width) e = refl
right_plain space (Sint width) e = absurd (false≢true (sym e))
right_plain space Bit e = refl

right_signed : (space : ℕ) (kind : NameKind) → is_signed kind ≡ true → amount_shift_right space kind ≡ signed_cost (bits_of kind) (blocks_of space kind)
right_signed space (Int width) e = absurd (false≢true e)
right_signed space (Sint width) e = refl
right_signed space Bit e = absurd (false≢true e)

-- a cost by the bits and the blocks of a number
cost_at : (old : Net) (kind : NameKind) (a : List ℕ) (f : ℕ → ℕ → Cost) → IsNumber old kind a → f (old.space * length a) (length a) ≡ f (bits_of kind) (blocks_of old.space kind)
cost_at old kind a f n = ap (λ v. f v (length a)) n.bits ∙ ap (f (bits_of kind)) n.count

left_cost : (old : Net) (kind : NameKind) (a : List ℕ) → IsNumber old kind a → plain_cost (old.space * length a) (length a) ≡ cost_by Shlv old.space kind kind
unfolding cost_by
left_cost old kind a n = cost_at old kind a plain_cost n

right_cost : (old : Net) (kind : NameKind) (a : List ℕ) → IsNumber old kind a → is_signed kind ≡ false → plain_cost (old.space * length a) (length a) ≡ cost_by Shrv old.space kind kind
unfolding cost_by
right_cost old kind a n s = cost_at old kind a plain_cost n ∙ sym (right_plain old.space kind s)

filled_cost : (old : Net) (kind : NameKind) (a : List ℕ) → IsNumber old kind a → is_signed kind ≡ true → signed_cost (old.space * length a) (length a) ≡ cost_by Shrv old.space kind kind
unfolding cost_by
filled_cost old kind a n s = cost_at old kind a signed_cost n ∙ sym (right_signed old.space kind s)

pub shlv_room : (old : Net) (w : Word) (kind : NameKind) (a : List ℕ) → w ≡ Shlv → IsNumber old kind a → HasRoom old (cost_by w old.space kind kind).jobs
    → HasRoom old (amount_shift_jobs (log_up 2 (old.space * length a)) (length a))
shlv_room old w kind a e n h = room_of old w Shlv kind kind (amount_shift_jobs (log_up 2 (old.space * length a)) (length a)) e (ap (λ (c : Cost). c.jobs) (left_cost old kind a n)) h

pub shrv_room : (old : Net) (w : Word) (kind : NameKind) (a : List ℕ) → w ≡ Shrv → IsNumber old kind a → is_signed kind ≡ false → HasRoom old (cost_by w old.space kind kind).jobs
    → HasRoom old (amount_shift_jobs (log_up 2 (old.space * length a)) (length a))
shrv_room old w kind a e n s h =
    room_of old w Shrv kind kind (amount_shift_jobs (log_up 2 (old.space * length a)) (length a)) e (ap (λ (c : Cost). c.jobs) (right_cost old kind a n s)) h

pub sarv_room : (old : Net) (w : Word) (kind : NameKind) (a : List ℕ) → w ≡ Shrv → IsNumber old kind a → is_signed kind ≡ true → HasRoom old (cost_by w old.space kind kind).jobs
    → HasRoom old (signed_shift_jobs (log_up 2 (old.space * length a)) (length a))
sarv_room old w kind a e n s h =
    room_of old w Shrv kind kind (signed_shift_jobs (log_up 2 (old.space * length a)) (length a)) e (ap (λ (c : Cost). c.jobs) (filled_cost old kind a n s)) h

shifted : (old new : Net) (w v : Word) (kind : NameKind) (before after a b : List ℕ) (cost : Cost) (whole : List ℕ → ℕ)
    → w ≡ v → before ≡ [] → IsNumber old kind a → cost ≡ cost_by v old.space kind kind
    → ((xs : List ℕ) → AreInputs old xs → whole xs % 2 ^ bits_of kind ≡ residue (bits_of kind) (given_by v 0 (operand old kind a xs) (operand old (Int (bits_of kind)) b xs) absent))
    → GivesNumber old new before after (length a) cost.jobs cost.depth (EachOf a b) whole
    → RealizesTwo w old new kind after kind a (Int (bits_of kind)) b
shifted old new w v kind before after a b cost whole e f n j h g =
    subst (λ (v : Word). RealizesTwo v old new kind after kind a (Int (bits_of kind)) b) (sym e)
    (number_realizes old new kind before after (length a) cost.jobs cost.depth (EachOf a b) whole
    (λ xs. given_by v 0 (operand old kind a xs) (operand old (Int (bits_of kind)) b xs) absent) (cost_by v old.space kind kind) n.number n.bits n.count f
    (ap (λ (c : Cost). c.jobs) j) (ap (λ (c : Cost). c.depth) j) h g)

pub shlv_line : (old new : Net) (w : Word) (kind : NameKind) (before after a b : List ℕ) → w ≡ Shlv → before ≡ [] → IsNumber old kind a
    → GivesNumber old new before after (length a) (amount_shift_jobs (log_up 2 (old.space * length a)) (length a)) (amount_shift_depth (log_up 2 (old.space * length a))) (EachOf a b)
    (λ xs. number_held old a xs * 2 ^ number_held old b xs)
    → RealizesTwo w old new kind after kind a (Int (bits_of kind)) b
unfolding given_by
shlv_line old new w kind before after a b e f n g =
    shifted old new w Shlv kind before after a b (plain_cost (old.space * length a) (length a)) (λ xs. number_held old a xs * 2 ^ number_held old b xs) e f n
    (left_cost old kind a n) (λ xs q. raised_whole (bits_of kind) (number_held old a xs) (number_held old b xs)) g

pub shrv_line : (old new : Net) (w : Word) (kind : NameKind) (before after a b : List ℕ) → w ≡ Shrv → before ≡ [] → IsNumber old kind a → is_signed kind ≡ false
    → GivesNumber old new before after (length a) (amount_shift_jobs (log_up 2 (old.space * length a)) (length a)) (amount_shift_depth (log_up 2 (old.space * length a))) (EachOf a b)
    (λ xs. number_held old a xs / 2 ^ number_held old b xs)
    → RealizesTwo w old new kind after kind a (Int (bits_of kind)) b
unfolding given_by
shrv_line old new w kind before after a b e f n s g =
    shifted old new w Shrv kind before after a b (plain_cost (old.space * length a) (length a)) (λ xs. number_held old a xs / 2 ^ number_held old b xs) e f n
    (right_cost old kind a n s) (λ xs q. lowered_whole kind (number_held old a xs) (number_held old b xs) s) g

pub sarv_line : (old new : Net) (w : Word) (kind : NameKind) (before after a b : List ℕ) → w ≡ Shrv → before ≡ [] → IsNumber old kind a → is_signed kind ≡ true
    → GivesNumber old new before after (length a) (signed_shift_jobs (log_up 2 (old.space * length a)) (length a)) (signed_shift_depth (log_up 2 (old.space * length a))) (EachOf a b)
    (λ xs. residue (old.space * length a) (int_div_euclid (signed (old.space * length a) (number_held old a xs)) (pos (2 ^ number_held old b xs))))
    → RealizesTwo w old new kind after kind a (Int (bits_of kind)) b
unfolding given_by
sarv_line old new w kind before after a b e f n s g =
    shifted old new w Shrv kind before after a b (signed_cost (old.space * length a) (length a))
    (λ xs. residue (old.space * length a) (int_div_euclid (signed (old.space * length a) (number_held old a xs)) (pos (2 ^ number_held old b xs)))) e f n
    (filled_cost old kind a n s) (λ xs q. filled_whole kind (old.space * length a) (number_held old a xs) (number_held old b xs) s n.bits) g
