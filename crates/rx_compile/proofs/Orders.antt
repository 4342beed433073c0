-- Lines that compare two numbers of one kind.
use Rattle.std.proofs.Common.{◌≡◌, ℕ, ◌*◌, ◌%◌, ◌^◌, ◌<◌, true, false, List, [], length, sym, ap, subst}
use Rattle.rx_residue.specs.Residues.{residue, signed}
use Rattle.rx_costs.specs.Table.{equal_jobs, equal_depth, compare_jobs, compare_depth}
use Rattle.rx_net.specs.declared.net.Net.{Net}
use Rattle.rx_net.specs.Legal.{IsBounded}
use Rattle.rx_plan.specs.Values.{AreInputs, number_held}
use Rattle.rx_language.specs.declared.word.Word.{Word}
use Rattle.rx_language.specs.declared.kind.NameKind.{NameKind}
use Rattle.rx_language.specs.Kinds.{bits_of}
use Rattle.rx_meaning.specs.Operations.{given_by}
use Rattle.rx_meaning.specs.Values.{absent}
use Rattle.rx_plan.specs.Planned.{EachOf, HasRoom}
use Rattle.rx_plan.specs.Results.{GivesBit}
use Rattle.rx_plan.proofs.Held.{held_small}
use Rattle.rx_language.specs.declared.word.Word.TheVariants.{Eq, Ne, Lt, Le, Gt, Ge}
use Rattle.rx_language.specs.declared.kind.NameKind.TheVariants.{Bit}
use Rattle.rx_meaning.specs.Costs.{cost_by}
use Rattle.rx_carry.specs.Carries.{is_less}
use Rattle.rx_cmp.specs.Equality.{equal, differ}
use Rattle.rx_cmp.specs.Order.{is_at_most, is_less_signed, is_at_most_signed}
use Rattle.rx_compile.specs.Realized.{operand, RealizesTwo}
use Rattle.rx_compile.specs.Arms.{is_signed, IsNumber}
use Rattle.rx_compile.proofs.Realizing.{bit_realizes}
use Rattle.rx_compile.proofs.Numbers.{room_of}
use Rattle.rx_compile.proofs.Wholes.{less_whole, most_whole, below_whole, at_most_whole, equal_whole, differ_whole}

-- a number is below the power of the bits of its kind
pub held_in : (old : Net) (kind : NameKind) (a : List ℕ) → IsBounded old → IsNumber old kind a → (xs : List ℕ) → AreInputs old xs → number_held old a xs < 2 ^ bits_of kind
held_in old kind a bounded n xs w = subst (λ (k : ℕ). number_held old a xs < 2 ^ k) n.bits (held_small old a bounded n.blocks xs w)

ordered : (old new : Net) (w v : Word) (kind : NameKind) (before after a b : List ℕ) (jobs levels : ℕ) (bit : List ℕ → ℕ)
    → w ≡ v → before ≡ [] → jobs ≡ (cost_by v old.space Bit kind).jobs → levels ≡ (cost_by v old.space Bit kind).depth
    → ((xs : List ℕ) → AreInputs old xs → bit xs % 2 ^ 1 ≡ residue 1 (given_by v 0 (operand old kind a xs) (operand old kind b xs) absent))
    → GivesBit old new before after jobs levels (EachOf a b) bit
    → RealizesTwo w old new Bit after kind a kind b
ordered old new w v kind before after a b jobs levels bit e f j l h g =
    subst (λ (v : Word). RealizesTwo v old new Bit after kind a kind b) (sym e)
    (bit_realizes old new before after jobs levels (EachOf a b) bit (λ xs. given_by v 0 (operand old kind a xs) (operand old kind b xs) absent)
    (cost_by v old.space Bit kind) f j l h g)

pub eq_room : (old : Net) (w : Word) (kind : NameKind) (a : List ℕ) → w ≡ Eq → IsNumber old kind a → HasRoom old (cost_by w old.space Bit kind).jobs → HasRoom old (equal_jobs (length a))
unfolding cost_by
eq_room old w kind a e n h = room_of old w Eq Bit kind (equal_jobs (length a)) e (ap (λ k. equal_jobs k) n.count) h

pub ne_room : (old : Net) (w : Word) (kind : NameKind) (a : List ℕ) → w ≡ Ne → IsNumber old kind a → HasRoom old (cost_by w old.space Bit kind).jobs → HasRoom old (equal_jobs (length a))
unfolding cost_by
ne_room old w kind a e n h = room_of old w Ne Bit kind (equal_jobs (length a)) e (ap (λ k. equal_jobs k) n.count) h

pub lt_room : (old : Net) (w : Word) (kind : NameKind) (a : List ℕ) → w ≡ Lt → IsNumber old kind a → HasRoom old (cost_by w old.space Bit kind).jobs → HasRoom old (compare_jobs (length a))
unfolding cost_by
lt_room old w kind a e n h = room_of old w Lt Bit kind (compare_jobs (length a)) e (ap (λ k. compare_jobs k) n.count) h

pub le_room : (old : Net) (w : Word) (kind : NameKind) (a : List ℕ) → w ≡ Le → IsNumber old kind a → HasRoom old (cost_by w old.space Bit kind).jobs → HasRoom old (compare_jobs (length a))
unfolding cost_by
le_room old w kind a e n h = room_of old w Le Bit kind (compare_jobs (length a)) e (ap (λ k. compare_jobs k) n.count) h

pub gt_room : (old : Net) (w : Word) (kind : NameKind) (a : List ℕ) → w ≡ Gt → IsNumber old kind a → HasRoom old (cost_by w old.space Bit kind).jobs → HasRoom old (compare_jobs (length a))
unfolding cost_by
gt_room old w kind a e n h = room_of old w Gt Bit kind (compare_jobs (length a)) e (ap (λ k. compare_jobs k) n.count) h

pub ge_room : (old : Net) (w : Word) (kind : NameKind) (a : List ℕ) → w ≡ Ge → IsNumber old kind a → HasRoom old (cost_by w old.space Bit kind).jobs → HasRoom old (compare_jobs (length a))
unfolding cost_by
ge_room old w kind a e n h = room_of old w Ge Bit kind (compare_jobs (length a)) e (ap (λ k. compare_jobs k) n.count) h

pub eq_line : (old new : Net) (w : Word) (kind : NameKind) (before after a b : List ℕ) → w ≡ Eq → before ≡ [] → IsNumber old kind a → IsBounded old → IsNumber old kind b
    → GivesBit old new before after (equal_jobs (length a)) (equal_depth old.space (length a)) (EachOf a b) (λ xs. equal (number_held old a xs) (number_held old b xs))
    → RealizesTwo w old new Bit after kind a kind b
unfolding cost_by given_by
eq_line old new w kind before after a b e f n bounded m g =
    ordered old new w Eq kind before after a b (equal_jobs (length a)) (equal_depth old.space (length a)) (λ xs. equal (number_held old a xs) (number_held old b xs)) e f
    (ap (λ k. equal_jobs k) n.count) (ap (λ k. equal_depth old.space k) n.count)
    (λ xs q. equal_whole kind (number_held old a xs) (number_held old b xs) (held_in old kind a bounded n xs q) (held_in old kind b bounded m xs q)) g

pub ne_line : (old new : Net) (w : Word) (kind : NameKind) (before after a b : List ℕ) → w ≡ Ne → before ≡ [] → IsNumber old kind a → IsBounded old → IsNumber old kind b
    → GivesBit old new before after (equal_jobs (length a)) (equal_depth old.space (length a)) (EachOf a b) (λ xs. differ (number_held old a xs) (number_held old b xs))
    → RealizesTwo w old new Bit after kind a kind b
unfolding cost_by given_by
ne_line old new w kind before after a b e f n bounded m g =
    ordered old new w Ne kind before after a b (equal_jobs (length a)) (equal_depth old.space (length a)) (λ xs. differ (number_held old a xs) (number_held old b xs)) e f
    (ap (λ k. equal_jobs k) n.count) (ap (λ k. equal_depth old.space k) n.count)
    (λ xs q. differ_whole kind (number_held old a xs) (number_held old b xs) (held_in old kind a bounded n xs q) (held_in old kind b bounded m xs q)) g

pub lt_line : (old new : Net) (w : Word) (kind : NameKind) (before after a b : List ℕ) → w ≡ Lt → before ≡ [] → IsNumber old kind a → is_signed kind ≡ false
    → GivesBit old new before after (compare_jobs (length a)) (compare_depth (length a)) (EachOf a b) (λ xs. is_less (number_held old a xs) (number_held old b xs))
    → RealizesTwo w old new Bit after kind a kind b
unfolding cost_by given_by
lt_line old new w kind before after a b e f n s g =
    ordered old new w Lt kind before after a b (compare_jobs (length a)) (compare_depth (length a)) (λ xs. is_less (number_held old a xs) (number_held old b xs)) e f
    (ap (λ k. compare_jobs k) n.count) (ap (λ k. compare_depth k) n.count)
    (λ xs q. less_whole kind (number_held old a xs) (number_held old b xs) s) g

pub slt_line : (old new : Net) (w : Word) (kind : NameKind) (before after a b : List ℕ) → w ≡ Lt → before ≡ [] → IsNumber old kind a → is_signed kind ≡ true
    → GivesBit old new before after (compare_jobs (length a)) (compare_depth (length a)) (EachOf a b) (λ xs. is_less_signed (signed (old.space * length a) (number_held old a xs)) (signed (old.space * length a) (number_held old b xs)))
    → RealizesTwo w old new Bit after kind a kind b
unfolding cost_by given_by
slt_line old new w kind before after a b e f n s g =
    ordered old new w Lt kind before after a b (compare_jobs (length a)) (compare_depth (length a)) (λ xs. is_less_signed (signed (old.space * length a) (number_held old a xs)) (signed (old.space * length a) (number_held old b xs))) e f
    (ap (λ k. compare_jobs k) n.count) (ap (λ k. compare_depth k) n.count)
    (λ xs q. below_whole kind (old.space * length a) (number_held old a xs) (number_held old b xs) s n.bits) g

pub le_line : (old new : Net) (w : Word) (kind : NameKind) (before after a b : List ℕ) → w ≡ Le → before ≡ [] → IsNumber old kind a → is_signed kind ≡ false
    → GivesBit old new before after (compare_jobs (length a)) (compare_depth (length a)) (EachOf a b) (λ xs. is_at_most (number_held old a xs) (number_held old b xs))
    → RealizesTwo w old new Bit after kind a kind b
unfolding cost_by given_by
le_line old new w kind before after a b e f n s g =
    ordered old new w Le kind before after a b (compare_jobs (length a)) (compare_depth (length a)) (λ xs. is_at_most (number_held old a xs) (number_held old b xs)) e f
    (ap (λ k. compare_jobs k) n.count) (ap (λ k. compare_depth k) n.count)
    (λ xs q. most_whole kind (number_held old a xs) (number_held old b xs) s) g

pub sle_line : (old new : Net) (w : Word) (kind : NameKind) (before after a b : List ℕ) → w ≡ Le → before ≡ [] → IsNumber old kind a → is_signed kind ≡ true
    → GivesBit old new before after (compare_jobs (length a)) (compare_depth (length a)) (EachOf a b) (λ xs. is_at_most_signed (signed (old.space * length a) (number_held old a xs)) (signed (old.space * length a) (number_held old b xs)))
    → RealizesTwo w old new Bit after kind a kind b
unfolding cost_by given_by
sle_line old new w kind before after a b e f n s g =
    ordered old new w Le kind before after a b (compare_jobs (length a)) (compare_depth (length a)) (λ xs. is_at_most_signed (signed (old.space * length a) (number_held old a xs)) (signed (old.space * length a) (number_held old b xs))) e f
    (ap (λ k. compare_jobs k) n.count) (ap (λ k. compare_depth k) n.count)
    (λ xs q. at_most_whole kind (old.space * length a) (number_held old a xs) (number_held old b xs) s n.bits) g

pub gt_line : (old new : Net) (w : Word) (kind : NameKind) (before after a b : List ℕ) → w ≡ Gt → before ≡ [] → IsNumber old kind a → is_signed kind ≡ false
    → GivesBit old new before after (compare_jobs (length a)) (compare_depth (length a)) (EachOf a b) (λ xs. is_less (number_held old b xs) (number_held old a xs))
    → RealizesTwo w old new Bit after kind a kind b
unfolding cost_by given_by
gt_line old new w kind before after a b e f n s g =
    ordered old new w Gt kind before after a b (compare_jobs (length a)) (compare_depth (length a)) (λ xs. is_less (number_held old b xs) (number_held old a xs)) e f
    (ap (λ k. compare_jobs k) n.count) (ap (λ k. compare_depth k) n.count)
    (λ xs q. less_whole kind (number_held old b xs) (number_held old a xs) s) g

pub sgt_line : (old new : Net) (w : Word) (kind : NameKind) (before after a b : List ℕ) → w ≡ Gt → before ≡ [] → IsNumber old kind a → is_signed kind ≡ true
    → GivesBit old new before after (compare_jobs (length a)) (compare_depth (length a)) (EachOf a b) (λ xs. is_less_signed (signed (old.space * length a) (number_held old b xs)) (signed (old.space * length a) (number_held old a xs)))
    → RealizesTwo w old new Bit after kind a kind b
unfolding cost_by given_by
sgt_line old new w kind before after a b e f n s g =
    ordered old new w Gt kind before after a b (compare_jobs (length a)) (compare_depth (length a)) (λ xs. is_less_signed (signed (old.space * length a) (number_held old b xs)) (signed (old.space * length a) (number_held old a xs))) e f
    (ap (λ k. compare_jobs k) n.count) (ap (λ k. compare_depth k) n.count)
    (λ xs q. below_whole kind (old.space * length a) (number_held old b xs) (number_held old a xs) s n.bits) g

pub ge_line : (old new : Net) (w : Word) (kind : NameKind) (before after a b : List ℕ) → w ≡ Ge → before ≡ [] → IsNumber old kind a → is_signed kind ≡ false
    → GivesBit old new before after (compare_jobs (length a)) (compare_depth (length a)) (EachOf a b) (λ xs. is_at_most (number_held old b xs) (number_held old a xs))
    → RealizesTwo w old new Bit after kind a kind b
unfolding cost_by given_by
ge_line old new w kind before after a b e f n s g =
    ordered old new w Ge kind before after a b (compare_jobs (length a)) (compare_depth (length a)) (λ xs. is_at_most (number_held old b xs) (number_held old a xs)) e f
    (ap (λ k. compare_jobs k) n.count) (ap (λ k. compare_depth k) n.count)
    (λ xs q. most_whole kind (number_held old b xs) (number_held old a xs) s) g

pub sge_line : (old new : Net) (w : Word) (kind : NameKind) (before after a b : List ℕ) → w ≡ Ge → before ≡ [] → IsNumber old kind a → is_signed kind ≡ true
    → GivesBit old new before after (compare_jobs (length a)) (compare_depth (length a)) (EachOf a b) (λ xs. is_at_most_signed (signed (old.space * length a) (number_held old b xs)) (signed (old.space * length a) (number_held old a xs)))
    → RealizesTwo w old new Bit after kind a kind b
unfolding cost_by given_by
sge_line old new w kind before after a b e f n s g =
    ordered old new w Ge kind before after a b (compare_jobs (length a)) (compare_depth (length a)) (λ xs. is_at_most_signed (signed (old.space * length a) (number_held old b xs)) (signed (old.space * length a) (number_held old a xs))) e f
    (ap (λ k. compare_jobs k) n.count) (ap (λ k. compare_depth k) n.count)
    (λ xs q. at_most_whole kind (old.space * length a) (number_held old b xs) (number_held old a xs) s n.bits) g
