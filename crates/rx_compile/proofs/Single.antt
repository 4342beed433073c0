-- Lines of one number.
use Rattle.std.proofs.Common.{◌≡◌, ℕ, ◌-◌, ◌*◌, ◌/◌, ◌%◌, ◌^◌, true, false, List, [], length, sym, ap, subst, refl}
use Rattle.std.specs.Prelude.{pos}
use Rattle.std.specs.Int.{int_div_euclid}
use Rattle.rx_residue.specs.Residues.{residue, signed}
use Rattle.rx_costs.specs.Table.{add_jobs, add_depth, shift_jobs, shift_depth}
use Rattle.rx_net.specs.declared.net.Net.{Net}
use Rattle.rx_net.specs.Legal.{IsBounded}
use Rattle.rx_plan.specs.Values.{AreInputs, number_held}
use Rattle.rx_language.specs.declared.word.Word.{Word}
use Rattle.rx_language.specs.declared.kind.NameKind.{NameKind}
use Rattle.rx_language.specs.Kinds.{bits_of}
use Rattle.rx_meaning.specs.Operations.{given_by}
use Rattle.rx_meaning.specs.Values.{absent}
use Rattle.rx_plan.specs.Planned.{Each, HasRoom}
use Rattle.rx_plan.specs.Results.{GivesNumber}
use Rattle.rx_plan.proofs.Held.{held_small}
use Rattle.rx_language.specs.declared.word.Word.TheVariants.{Neg, Shl, Shr}
use Rattle.rx_meaning.specs.Costs.{cost_by}
use Rattle.rx_compile.specs.Realized.{operand, RealizesOne}
use Rattle.rx_compile.specs.Arms.{is_signed, IsNumber}
use Rattle.rx_compile.proofs.Realizing.{number_realizes}
use Rattle.rx_compile.proofs.Numbers.{room_of}
use Rattle.rx_compile.proofs.Wholes.{opposite_whole, raised_whole, lowered_whole, filled_whole}

single : (old new : Net) (w v : Word) (k : ℕ) (kind : NameKind) (before after a : List ℕ) (jobs levels : ℕ) (whole : List ℕ → ℕ)
    → w ≡ v → before ≡ [] → IsNumber old kind a → jobs ≡ (cost_by v old.space kind kind).jobs → levels ≡ (cost_by v old.space kind kind).depth
    → ((xs : List ℕ) → AreInputs old xs → whole xs % 2 ^ bits_of kind ≡ residue (bits_of kind) (given_by v k (operand old kind a xs) absent absent))
    → GivesNumber old new before after (length a) jobs levels (Each a) whole
    → RealizesOne w k old new kind after kind a
single old new w v k kind before after a jobs levels whole e f n j l h g =
    subst (λ (v : Word). RealizesOne v k old new kind after kind a) (sym e)
    (number_realizes old new kind before after (length a) jobs levels (Each a) whole (λ xs. given_by v k (operand old kind a xs) absent absent)
    (cost_by v old.space kind kind) n.number n.bits n.count f j l h g)

pub neg_room : (old : Net) (w : Word) (kind : NameKind) (a : List ℕ) → w ≡ Neg → IsNumber old kind a → HasRoom old (cost_by w old.space kind kind).jobs → HasRoom old (add_jobs (length a))
unfolding cost_by
neg_room old w kind a e n h = room_of old w Neg kind kind (add_jobs (length a)) e (ap (λ k. add_jobs k) n.count) h

pub shl_room : (old : Net) (w : Word) (kind : NameKind) (a : List ℕ) → w ≡ Shl → IsNumber old kind a → HasRoom old (cost_by w old.space kind kind).jobs → HasRoom old (shift_jobs (length a))
unfolding cost_by
shl_room old w kind a e n h = room_of old w Shl kind kind (shift_jobs (length a)) e (ap (λ k. shift_jobs k) n.count) h

pub shr_room : (old : Net) (w : Word) (kind : NameKind) (a : List ℕ) → w ≡ Shr → IsNumber old kind a → HasRoom old (cost_by w old.space kind kind).jobs → HasRoom old (shift_jobs (length a))
unfolding cost_by
shr_room old w kind a e n h = room_of old w Shr kind kind (shift_jobs (length a)) e (ap (λ k. shift_jobs k) n.count) h

pub neg_line : (old new : Net) (w : Word) (k : ℕ) (kind : NameKind) (before after a : List ℕ) → w ≡ Neg → before ≡ [] → IsNumber old kind a → IsBounded old
    → GivesNumber old new before after (length a) (add_jobs (length a)) (add_depth (length a)) (Each a) (λ xs. 2 ^ (old.space * length a) - number_held old a xs)
    → RealizesOne w k old new kind after kind a
unfolding cost_by given_by
neg_line old new w k kind before after a e f n bounded g =
    single old new w Neg k kind before after a (add_jobs (length a)) (add_depth (length a)) (λ xs. 2 ^ (old.space * length a) - number_held old a xs) e f n
    (ap (λ k. add_jobs k) n.count) (ap (λ k. add_depth k) n.count) (λ xs q. opposite_whole (old.space * length a) (bits_of kind) (number_held old a xs) n.bits (held_small old a bounded n.blocks xs q)) g

pub shl_line : (old new : Net) (w : Word) (k : ℕ) (kind : NameKind) (before after a : List ℕ) → w ≡ Shl → before ≡ [] → IsNumber old kind a
    → GivesNumber old new before after (length a) (shift_jobs (length a)) (shift_depth) (Each a) (λ xs. number_held old a xs * 2 ^ k)
    → RealizesOne w k old new kind after kind a
unfolding cost_by given_by
shl_line old new w k kind before after a e f n g =
    single old new w Shl k kind before after a (shift_jobs (length a)) (shift_depth) (λ xs. number_held old a xs * 2 ^ k) e f n
    (ap (λ k. shift_jobs k) n.count) (refl) (λ xs q. raised_whole (bits_of kind) (number_held old a xs) k) g

pub shr_line : (old new : Net) (w : Word) (k : ℕ) (kind : NameKind) (before after a : List ℕ) → w ≡ Shr → before ≡ [] → IsNumber old kind a → is_signed kind ≡ false
    → GivesNumber old new before after (length a) (shift_jobs (length a)) (shift_depth) (Each a) (λ xs. number_held old a xs / 2 ^ k)
    → RealizesOne w k old new kind after kind a
unfolding cost_by given_by
shr_line old new w k kind before after a e f n s g =
    single old new w Shr k kind before after a (shift_jobs (length a)) (shift_depth) (λ xs. number_held old a xs / 2 ^ k) e f n
    (ap (λ k. shift_jobs k) n.count) (refl) (λ xs q. lowered_whole kind (number_held old a xs) k s) g

pub sar_line : (old new : Net) (w : Word) (k : ℕ) (kind : NameKind) (before after a : List ℕ) → w ≡ Shr → before ≡ [] → IsNumber old kind a → is_signed kind ≡ true
    → GivesNumber old new before after (length a) (shift_jobs (length a)) (shift_depth) (Each a) (λ xs. residue (old.space * length a) (int_div_euclid (signed (old.space * length a) (number_held old a xs)) (pos (2 ^ k))))
    → RealizesOne w k old new kind after kind a
unfolding cost_by given_by
sar_line old new w k kind before after a e f n s g =
    single old new w Shr k kind before after a (shift_jobs (length a)) (shift_depth) (λ xs. residue (old.space * length a) (int_div_euclid (signed (old.space * length a) (number_held old a xs)) (pos (2 ^ k)))) e f n
    (ap (λ k. shift_jobs k) n.count) (refl) (λ xs q. filled_whole kind (old.space * length a) (number_held old a xs) k s n.bits) g
