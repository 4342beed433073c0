-- Lines of two values of one kind, bit by bit.
use Rattle.std.proofs.Common.{◌≡◌, ℕ, ◌%◌, ◌^◌, ◌≤◌, bit_and, bit_or, bit_xor, List, [], length, refl, sym, ◌∙◌, subst}
use Rattle.rx_params.specs.declared.kind.Kind.{Kind}
use Rattle.rx_residue.specs.Residues.{residue}
use Rattle.rx_costs.specs.Table.{bitwise_jobs, bitwise_depth}
use Rattle.rx_net.specs.declared.net.Net.{Net}
use Rattle.rx_plan.specs.Values.{AreInputs, number_held}
use Rattle.rx_plan.specs.Planned.{EachOf, HasRoom}
use Rattle.rx_language.specs.declared.word.Word.{Word}
use Rattle.rx_language.specs.declared.word.Word.TheVariants.{And, Or, Xor}
use Rattle.rx_language.specs.declared.kind.NameKind.{NameKind}
use Rattle.rx_language.specs.Kinds.{bits_of}
use Rattle.rx_meaning.specs.Operations.{given_by}
use Rattle.rx_meaning.specs.Values.{absent}
use Rattle.rx_meaning.specs.Costs.{cost_by}
use Rattle.rx_bits.specs.Bits.{GivesKind}
use Rattle.rx_compile.specs.Compiled.{file_kind}
use Rattle.rx_compile.specs.Realized.{operand, RealizesTwo}
use Rattle.rx_compile.specs.Arms.{IsArgument}
use Rattle.rx_compile.proofs.Realizing.{kind_realizes}
use Rattle.rx_compile.proofs.Numbers.{room_of}
use Rattle.rx_compile.proofs.Arguments.{argument_count, argument_bits}
use Rattle.rx_compile.proofs.Wholes.{residue_natural}

pub bits_same : (old : Net) (kind : NameKind) (a b : List ℕ) → IsArgument old kind a → IsArgument old kind b → length b ≡ length a
bits_same old kind a b h k = argument_count old kind b k ∙ sym (argument_count old kind a h)

bits_line : (old new : Net) (w v : Word) (kind : NameKind) (told : Kind) (before after a b : List ℕ) (whole : List ℕ → ℕ)
    → w ≡ v → told ≡ file_kind kind → before ≡ [] → 2 ≤ old.space → IsArgument old kind a
    → bitwise_jobs (length a) ≡ (cost_by v old.space kind kind).jobs → bitwise_depth ≡ (cost_by v old.space kind kind).depth
    → ((xs : List ℕ) → AreInputs old xs → whole xs % 2 ^ bits_of kind ≡ residue (bits_of kind) (given_by v 0 (operand old kind a xs) (operand old kind b xs) absent))
    → GivesKind told old new before after (length a) (bitwise_jobs (length a)) bitwise_depth (EachOf a b) whole
    → RealizesTwo w old new kind after kind a kind b
bits_line old new w v kind told before after a b whole e t f s h j l v_is g =
    subst (λ (v : Word). RealizesTwo v old new kind after kind a kind b) (sym e)
    (kind_realizes old new kind before after (length a) (bitwise_jobs (length a)) bitwise_depth (EachOf a b) whole
    (λ xs. given_by v 0 (operand old kind a xs) (operand old kind b xs) absent) (cost_by v old.space kind kind)
    (argument_bits old kind a s h) (argument_count old kind a h) f j l v_is
    (subst (λ (t : Kind). GivesKind t old new before after (length a) (bitwise_jobs (length a)) bitwise_depth (EachOf a b) whole) t g))

pub and_room : (old : Net) (w : Word) (kind : NameKind) (a : List ℕ) → w ≡ And → IsArgument old kind a → HasRoom old (cost_by w old.space kind kind).jobs → HasRoom old (bitwise_jobs (length a))
unfolding cost_by
and_room old w kind a e h r = room_of old w And kind kind (bitwise_jobs (length a)) e (argument_count old kind a h) r

pub and_line : (old new : Net) (w : Word) (kind : NameKind) (told : Kind) (before after a b : List ℕ) → w ≡ And → told ≡ file_kind kind → before ≡ [] → 2 ≤ old.space → IsArgument old kind a
    → GivesKind told old new before after (length a) (bitwise_jobs (length a)) bitwise_depth (EachOf a b) (λ xs. bit_and (number_held old a xs) (number_held old b xs))
    → RealizesTwo w old new kind after kind a kind b
unfolding cost_by given_by
and_line old new w kind told before after a b e t f s h g =
    bits_line old new w And kind told before after a b (λ xs. bit_and (number_held old a xs) (number_held old b xs)) e t f s h (argument_count old kind a h) refl
    (λ xs q. residue_natural (bits_of kind) (bit_and (number_held old a xs) (number_held old b xs))) g

pub or_room : (old : Net) (w : Word) (kind : NameKind) (a : List ℕ) → w ≡ Or → IsArgument old kind a → HasRoom old (cost_by w old.space kind kind).jobs → HasRoom old (bitwise_jobs (length a))
unfolding cost_by
or_room old w kind a e h r = room_of old w Or kind kind (bitwise_jobs (length a)) e (argument_count old kind a h) r

pub or_line : (old new : Net) (w : Word) (kind : NameKind) (told : Kind) (before after a b : List ℕ) → w ≡ Or → told ≡ file_kind kind → before ≡ [] → 2 ≤ old.space → IsArgument old kind a
    → GivesKind told old new before after (length a) (bitwise_jobs (length a)) bitwise_depth (EachOf a b) (λ xs. bit_or (number_held old a xs) (number_held old b xs))
    → RealizesTwo w old new kind after kind a kind b
unfolding cost_by given_by
or_line old new w kind told before after a b e t f s h g =
    bits_line old new w Or kind told before after a b (λ xs. bit_or (number_held old a xs) (number_held old b xs)) e t f s h (argument_count old kind a h) refl
    (λ xs q. residue_natural (bits_of kind) (bit_or (number_held old a xs) (number_held old b xs))) g

pub xor_room : (old : Net) (w : Word) (kind : NameKind) (a : List ℕ) → w ≡ Xor → IsArgument old kind a → HasRoom old (cost_by w old.space kind kind).jobs → HasRoom old (bitwise_jobs (length a))
unfolding cost_by
xor_room old w kind a e h r = room_of old w Xor kind kind (bitwise_jobs (length a)) e (argument_count old kind a h) r

pub xor_line : (old new : Net) (w : Word) (kind : NameKind) (told : Kind) (before after a b : List ℕ) → w ≡ Xor → told ≡ file_kind kind → before ≡ [] → 2 ≤ old.space → IsArgument old kind a
    → GivesKind told old new before after (length a) (bitwise_jobs (length a)) bitwise_depth (EachOf a b) (λ xs. bit_xor (number_held old a xs) (number_held old b xs))
    → RealizesTwo w old new kind after kind a kind b
unfolding cost_by given_by
xor_line old new w kind told before after a b e t f s h g =
    bits_line old new w Xor kind told before after a b (λ xs. bit_xor (number_held old a xs) (number_held old b xs)) e t f s h (argument_count old kind a h) refl
    (λ xs q. residue_natural (bits_of kind) (bit_xor (number_held old a xs) (number_held old b xs))) g
