-- Lines that keep or turn a value: constants, casts, complements and choices.
use Rattle.std.proofs.Common.{◌≡◌, ℕ, ◌-◌, ◌*◌, ◌%◌, ◌^◌, ◌<◌, ◌≤◌, ◌⊎◌, inl, inr, Bool, true, false, cond, List, [], ◌∷◌, Some, length, get_or, refl, sym, ◌∙◌, ap, subst, arith}
use Rattle.std.specs.Prelude.{pos, IsTrue, ◌==◌}
use Rattle.std.proofs.lemmas.Bool.{false≢true}
use Rattle.rx_params.specs.declared.kind.Kind.{Kind}
use Rattle.rx_residue.specs.Residues.{residue, signed, number_as}
use Rattle.rx_costs.specs.declared.table.Cost.{Cost}
use Rattle.rx_costs.specs.Table.{row, constant_jobs, constant_depth, bitwise_jobs, bitwise_depth, select_jobs, select_depth, cast_jobs, cast_depth}
use Rattle.rx_net.specs.declared.net.Net.{Net}
use Rattle.rx_net.specs.Cells.{value}
use Rattle.rx_plan.specs.Values.{number, number_held, cell_value}
use Rattle.rx_plan.specs.Planned.{Each, HasRoom}
use Rattle.rx_plan.specs.Results.{GivesNumber}
use Rattle.rx_plan.proofs.Numbers.{number_held-is}
use Rattle.rx_plan.proofs.Given.{number_operands}
use Rattle.rx_language.specs.declared.word.Word.{Word}
use Rattle.rx_language.specs.declared.word.Word.TheVariants.{In, Inw, Ins, Inbit, Const, Constw, Add, Sub, Mul, Div, Rem, Neg, And, Or, Xor, Not, Shl, Shr, Shlv, Shrv, Eq, Ne, Lt, Le, Gt, Ge, Select, Min, Max, Cast, Casts, Out}
use Rattle.rx_language.specs.declared.form.Rule.{Rule}
use Rattle.rx_language.specs.declared.form.Rule.TheVariants.{GivesInt, GivesSint, GivesBit, OneNumber, TwoNumbers, TwoInts, OneOfAny, TwoAlike, NumberAndAmount, Compared, Chosen, CastInt, CastSint}
use Rattle.rx_language.specs.declared.kind.NameKind.{NameKind}
use Rattle.rx_language.specs.declared.kind.NameKind.TheVariants.{Int, Sint, Bit}
use Rattle.rx_language.specs.Words.{form}
use Rattle.rx_language.specs.Kinds.{bits_of, is_number, kind_by}
use Rattle.rx_meaning.specs.declared.operand.Operand.{Operand}
use Rattle.rx_meaning.specs.Kinds.{is_kind}
use Rattle.rx_meaning.specs.Operations.{number_by, number_of, given_by}
use Rattle.rx_meaning.specs.Values.{absent}
use Rattle.rx_meaning.specs.Costs.{cost_by, blocks_of, cast}
use Rattle.rx_bits.specs.Bits.{GivesKind, all_ones}
use Rattle.rx_cmp.specs.Selection.{chosen}
use Rattle.rx_compile.specs.Compiled.{file_kind}
use Rattle.rx_compile.specs.Realized.{operand, RealizesNone, RealizesOne, RealizesThree}
use Rattle.rx_compile.specs.Arms.{is_signed, Takes, IsArgument, IsNumber}
use Rattle.rx_compile.proofs.Realizing.{number_realizes, kind_realizes, one_number}
use Rattle.rx_compile.proofs.Numbers.{room_of}
use Rattle.rx_compile.proofs.Wholes.{residue_natural, residue_at}
use Rattle.rx_compile.proofs.Arguments.{number_blocks, argument_count, argument_bits}
use Rattle.rx_compile.proofs.Rules.{some_is}

-- ---- constants

constant_cost : (w : Word) (space : ℕ) (kind : NameKind) → (w ≡ Const) ⊎ (w ≡ Constw) → cost_by w space kind kind ≡ row (constant_jobs (blocks_of space kind)) constant_depth
unfolding cost_by
constant_cost w space kind (inl e) = ap (λ v. cost_by v space kind kind) e
constant_cost w space kind (inr e) = ap (λ v. cost_by v space kind kind) e

constant_given : (w : Word) (number : ℕ) → (w ≡ Const) ⊎ (w ≡ Constw) → given_by w number absent absent absent ≡ pos number
unfolding given_by
constant_given w number (inl e) = ap (λ v. given_by v number absent absent absent) e
constant_given w number (inr e) = ap (λ v. given_by v number absent absent absent) e

constant_kind : (w : Word) (width : ℕ) (kind : NameKind) → (w ≡ Const) ⊎ (w ≡ Constw) → kind_by (form w).rule width [] ≡ Some kind → is_number kind ≡ true
constant_kind w width kind (inl e) k = ap (λ k. is_number k) (sym (some_is (Int width) kind (subst (λ (v : Word). kind_by (form v).rule width [] ≡ Some kind) e k)))
constant_kind w width kind (inr e) k = ap (λ k. is_number k) (sym (some_is (Int width) kind (subst (λ (v : Word). kind_by (form v).rule width [] ≡ Some kind) e k)))

pub told_blocks : (told space blocks : ℕ) (kind : NameKind) → blocks ≡ blocks_of told kind → told ≡ space → blocks ≡ blocks_of space kind
told_blocks told space blocks kind e f = e ∙ ap (λ s. blocks_of s kind) f

pub constant_room : (old : Net) (w : Word) (kind : NameKind) (n : ℕ) → (w ≡ Const) ⊎ (w ≡ Constw) → n ≡ blocks_of old.space kind → HasRoom old (cost_by w old.space kind kind).jobs → HasRoom old n
constant_room old w kind n o e h = subst (HasRoom old) (ap (λ (c : Cost). c.jobs) (constant_cost w old.space kind o) ∙ sym e) h

pub constant_line : (old new : Net) (w : Word) (number : ℕ) (kind : NameKind) (before after : List ℕ) (n : ℕ)
    → (w ≡ Const) ⊎ (w ≡ Constw) → before ≡ [] → 2 ≤ old.space → IsTrue (is_kind old.space kind) → Takes w number [] kind → n ≡ blocks_of old.space kind
    → GivesNumber old new before after n n 1 (λ _. Unit {0}) (λ _. number)
    → RealizesNone w number old new kind after
constant_line old new w number kind before after n o f s h t e g =
    let is : is_number kind ≡ true = constant_kind w t.width kind o t.gives in
    let c = sym (constant_cost w old.space kind o) in
    number_realizes old new kind before after n n 1 (λ _. Unit {0}) (λ _. number) (λ xs. given_by w number absent absent absent) (cost_by w old.space kind kind)
    is (ap (λ k. old.space * k) e ∙ (number_blocks old.space kind s h is).0) e f
    (e ∙ ap (λ (c : Cost). c.jobs) c) (ap (λ (c : Cost). c.depth) c)
    (λ xs q. residue_natural (bits_of kind) number ∙ ap (residue (bits_of kind)) (sym (constant_given w number o))) g

-- ---- casts

abbrev pub is_cast : Rule → Bool
is_cast CastInt = true
is_cast CastSint = true
is_cast _ = false

pub cast_rule : (rule : Rule) → (rule ≡ CastInt) ⊎ (rule ≡ CastSint) → is_cast rule ≡ true
cast_rule rule (inl e) = ap (λ r. is_cast r) e
cast_rule rule (inr e) = ap (λ r. is_cast r) e

cast_cost : (w : Word) (space : ℕ) (kind first : NameKind) → is_cast (form w).rule ≡ true → cost_by w space kind first ≡ cast (blocks_of space first) (blocks_of space kind)
unfolding cost_by
cast_cost In space kind first e = absurd (false≢true e)
cast_cost Inw space kind first e = absurd (false≢true e)
cast_cost Ins space kind first e = absurd (false≢true e)
cast_cost Inbit space kind first e = absurd (false≢true e)
cast_cost Const space kind first e = absurd (false≢true e)
cast_cost Constw space kind first e = absurd (false≢true e)
cast_cost Add space kind first e = absurd (false≢true e)
cast_cost Sub space kind first e = absurd (false≢true e)
cast_cost Mul space kind first e = absurd (false≢true e)
cast_cost Div space kind first e = absurd (false≢true e)
cast_cost Rem space kind first e = absurd (false≢true e)
cast_cost Neg space kind first e = absurd (false≢true e)
cast_cost And space kind first e = absurd (false≢true e)
cast_cost Or space kind first e = absurd (false≢true e)
cast_cost Xor space kind first e = absurd (false≢true e)
cast_cost Not space kind first e = absurd (false≢true e)
cast_cost Shl space kind first e = absurd (false≢true e)
cast_cost Shr space kind first e = absurd (false≢true e)
cast_cost Shlv space kind first e = absurd (false≢true e)
cast_cost Shrv space kind first e = absurd (false≢true e)
cast_cost Eq space kind first e = absurd (false≢true e)
cast_cost Ne space kind first e = absurd (false≢true e)
cast_cost Lt space kind first e = absurd (false≢true e)
cast_cost Le space kind first e = absurd (false≢true e)
cast_cost Gt space kind first e = absurd (false≢true e)
cast_cost Ge space kind first e = absurd (false≢true e)
cast_cost Select space kind first e = absurd (false≢true e)
cast_cost Min space kind first e = absurd (false≢true e)
cast_cost Max space kind first e = absurd (false≢true e)
cast_cost Cast space kind first e = refl
cast_cost Casts space kind first e = refl
cast_cost Out space kind first e = absurd (false≢true e)

cast_given : (w : Word) (n : ℕ) (a b c : Operand) → is_cast (form w).rule ≡ true → given_by w n a b c ≡ number_of a
unfolding given_by
cast_given In n a b c e = absurd (false≢true e)
cast_given Inw n a b c e = absurd (false≢true e)
cast_given Ins n a b c e = absurd (false≢true e)
cast_given Inbit n a b c e = absurd (false≢true e)
cast_given Const n a b c e = absurd (false≢true e)
cast_given Constw n a b c e = absurd (false≢true e)
cast_given Add n a b c e = absurd (false≢true e)
cast_given Sub n a b c e = absurd (false≢true e)
cast_given Mul n a b c e = absurd (false≢true e)
cast_given Div n a b c e = absurd (false≢true e)
cast_given Rem n a b c e = absurd (false≢true e)
cast_given Neg n a b c e = absurd (false≢true e)
cast_given And n a b c e = absurd (false≢true e)
cast_given Or n a b c e = absurd (false≢true e)
cast_given Xor n a b c e = absurd (false≢true e)
cast_given Not n a b c e = absurd (false≢true e)
cast_given Shl n a b c e = absurd (false≢true e)
cast_given Shr n a b c e = absurd (false≢true e)
cast_given Shlv n a b c e = absurd (false≢true e)
cast_given Shrv n a b c e = absurd (false≢true e)
cast_given Eq n a b c e = absurd (false≢true e)
cast_given Ne n a b c e = absurd (false≢true e)
cast_given Lt n a b c e = absurd (false≢true e)
cast_given Le n a b c e = absurd (false≢true e)
cast_given Gt n a b c e = absurd (false≢true e)
cast_given Ge n a b c e = absurd (false≢true e)
cast_given Select n a b c e = absurd (false≢true e)
cast_given Min n a b c e = absurd (false≢true e)
cast_given Max n a b c e = absurd (false≢true e)
cast_given Cast n a b c e = refl
cast_given Casts n a b c e = refl
cast_given Out n a b c e = absurd (false≢true e)

cast_kind : (rule : Rule) (width : ℕ) (a kind : NameKind) → is_cast rule ≡ true → kind_by rule width (a ∷ []) ≡ Some kind → is_number kind ≡ true
cast_kind GivesInt width a kind e k = absurd (false≢true e)
cast_kind GivesSint width a kind e k = absurd (false≢true e)
cast_kind GivesBit width a kind e k = absurd (false≢true e)
cast_kind OneNumber width a kind e k = absurd (false≢true e)
cast_kind TwoNumbers width a kind e k = absurd (false≢true e)
cast_kind TwoInts width a kind e k = absurd (false≢true e)
cast_kind OneOfAny width a kind e k = absurd (false≢true e)
cast_kind TwoAlike width a kind e k = absurd (false≢true e)
cast_kind NumberAndAmount width a kind e k = absurd (false≢true e)
cast_kind Compared width a kind e k = absurd (false≢true e)
cast_kind Chosen width a kind e k = absurd (false≢true e)
cast_kind CastInt width a kind e k = ap (λ k. is_number k) (sym (some_is (Int width) kind k))
cast_kind CastSint width a kind e k = ap (λ k. is_number k) (sym (some_is (Sint width) kind k))

-- the number that blocks of a kind stand for, by whether it has a sign
told_number : (kind : NameKind) (told : Bool) (v x : ℕ) → told ≡ is_signed kind → (is_number kind ≡ true → v ≡ bits_of kind) → number_as told v x ≡ number_by kind x
told_number (Int width) told v x e b = ap (λ t. number_as t v x) e
told_number (Sint width) told v x e b = ap (λ t. number_as t v x) e ∙ ap (λ k. signed k x) (b refl)
told_number Bit told v x e b = ap (λ t. number_as t v x) e

pub cast_room : (old : Net) (w : Word) (kind first : NameKind) (a : List ℕ) (n : ℕ) → is_cast (form w).rule ≡ true → IsArgument old first a → n ≡ blocks_of old.space kind
    → HasRoom old (cost_by w old.space kind first).jobs → HasRoom old (cast_jobs (length a) n)
cast_room old w kind first a n r h e room =
    subst (HasRoom old)
    (ap (λ (c : Cost). c.jobs) (cast_cost w old.space kind first r) ∙ ap (λ k. cast_jobs k (blocks_of old.space kind)) (sym (argument_count old first a h)) ∙ ap (cast_jobs (length a)) (sym e)) room

pub cast_line : (old new : Net) (w : Word) (number : ℕ) (kind first : NameKind) (before after a : List ℕ) (told : Bool) (n : ℕ)
    → is_cast (form w).rule ≡ true → before ≡ [] → 2 ≤ old.space → IsTrue (is_kind old.space kind) → Takes w number (first ∷ []) kind → IsArgument old first a
    → told ≡ is_signed first → n ≡ blocks_of old.space kind
    → GivesNumber old new before after n (cast_jobs (length a) n) cast_depth (Each a)
    (λ xs. residue (old.space * n) (number_as told (old.space * length a) (number_held old a xs)))
    → RealizesOne w number old new kind after first a
cast_line old new w number kind first before after a told n r f s h t k e m g =
    let is : is_number kind ≡ true = cast_kind (form w).rule t.width first kind r t.gives in
    let bits : old.space * n ≡ bits_of kind = ap (λ k. old.space * k) m ∙ (number_blocks old.space kind s h is).0 in
    let c = sym (cast_cost w old.space kind first r) in
    number_realizes old new kind before after n (cast_jobs (length a) n) cast_depth (Each a)
    (λ xs. residue (old.space * n) (number_as told (old.space * length a) (number_held old a xs)))
    (λ xs. given_by w number (operand old first a xs) absent absent) (cost_by w old.space kind first) is bits m f
    (ap (λ k. cast_jobs k n) (argument_count old first a k) ∙ ap (cast_jobs (blocks_of old.space first)) m ∙ ap (λ (c : Cost). c.jobs) c)
    (ap (λ (c : Cost). c.depth) c)
    (λ xs q.
    residue_at (old.space * n) (bits_of kind) (λ v. number_as told (old.space * length a) (number_held old a xs)) bits
    ∙ ap (residue (bits_of kind)) (told_number first told (old.space * length a) (number_held old a xs) e (argument_bits old first a s k))
    ∙ ap (residue (bits_of kind)) (sym (cast_given w number (operand old first a xs) absent absent r))) g

-- ---- complements

abbrev is_any : Rule → Bool
is_any OneOfAny = true
is_any _ = false

not_by : (w : Word) → is_any (form w).rule ≡ true → 1 ≡ (form w).args → w ≡ Not
not_by In e n = absurd (false≢true e)
not_by Inw e n = absurd (false≢true e)
not_by Ins e n = absurd (false≢true e)
not_by Inbit e n = absurd (false≢true e)
not_by Const e n = absurd (false≢true e)
not_by Constw e n = absurd (false≢true e)
not_by Add e n = absurd (false≢true e)
not_by Sub e n = absurd (false≢true e)
not_by Mul e n = absurd (false≢true e)
not_by Div e n = absurd (false≢true e)
not_by Rem e n = absurd (false≢true e)
not_by Neg e n = absurd (false≢true e)
not_by And e n = absurd (false≢true e)
not_by Or e n = absurd (false≢true e)
not_by Xor e n = absurd (false≢true e)
not_by Not e n = refl
not_by Shl e n = absurd (false≢true e)
not_by Shr e n = absurd (false≢true e)
not_by Shlv e n = absurd (false≢true e)
not_by Shrv e n = absurd (false≢true e)
not_by Eq e n = absurd (false≢true e)
not_by Ne e n = absurd (false≢true e)
not_by Lt e n = absurd (false≢true e)
not_by Le e n = absurd (false≢true e)
not_by Gt e n = absurd (false≢true e)
not_by Ge e n = absurd (false≢true e)
not_by Select e n = absurd (false≢true e)
not_by Min e n = absurd (false≢true e)
not_by Max e n = absurd (false≢true e)
not_by Cast e n = absurd (false≢true e)
not_by Casts e n = absurd (false≢true e)
not_by Out e n = absurd (omega arith)

-- an argument is taken and its kind given by one word
pub only_not : (w : Word) → (form w).rule ≡ OneOfAny → 1 ≡ (form w).args → w ≡ Not
only_not w e n = not_by w (ap (λ r. is_any r) e) n

pub not_room : (old : Net) (w : Word) (kind first : NameKind) (a : List ℕ) → w ≡ Not → first ≡ kind → IsArgument old first a → HasRoom old (cost_by w old.space kind first).jobs → HasRoom old (bitwise_jobs (length a))
unfolding cost_by
not_room old w kind first a e f h r =
    room_of old w Not kind first (bitwise_jobs (length a)) e (argument_count old first a h ∙ ap (blocks_of old.space) f) r

-- the value of which each bit is 1
ones_are : (kind : NameKind) (space n : ℕ) → (is_number kind ≡ true → space * n ≡ bits_of kind) → all_ones (file_kind kind) space n ≡ 2 ^ bits_of kind - 1
ones_are (Int width) space n e = ap (λ k. 2 ^ k - 1) (e refl)
ones_are (Sint width) space n e = ap (λ k. 2 ^ k - 1) (e refl)
ones_are Bit space n e = refl

not_alone : (old new : Net) (number : ℕ) (kind : NameKind) (told : Kind) (before after a : List ℕ) → told ≡ file_kind kind → before ≡ [] → 2 ≤ old.space → IsArgument old kind a
    → GivesKind told old new before after (length a) (bitwise_jobs (length a)) bitwise_depth (Each a) (λ xs. all_ones told old.space (length a) - number_held old a xs)
    → RealizesOne Not number old new kind after kind a
unfolding cost_by given_by
not_alone old new number kind told before after a t f s h g =
    kind_realizes old new kind before after (length a) (bitwise_jobs (length a)) bitwise_depth (Each a)
    (λ xs. all_ones (file_kind kind) old.space (length a) - number_held old a xs)
    (λ xs. given_by Not number (operand old kind a xs) absent absent) (cost_by Not old.space kind kind)
    (argument_bits old kind a s h) (argument_count old kind a h) f (argument_count old kind a h) refl
    (λ xs q. ap (λ k. (k - number_held old a xs) % 2 ^ bits_of kind) (ones_are kind old.space (length a) (argument_bits old kind a s h)) ∙ residue_natural (bits_of kind) (2 ^ bits_of kind - 1 - number_held old a xs))
    (subst (λ (t : Kind). GivesKind t old new before after (length a) (bitwise_jobs (length a)) bitwise_depth (Each a) (λ xs. all_ones t old.space (length a) - number_held old a xs)) t g)

pub not_line : (old new : Net) (w : Word) (number : ℕ) (kind first : NameKind) (told : Kind) (before after a : List ℕ)
    → w ≡ Not → first ≡ kind → told ≡ file_kind kind → before ≡ [] → 2 ≤ old.space → IsArgument old first a
    → GivesKind told old new before after (length a) (bitwise_jobs (length a)) bitwise_depth (Each a) (λ xs. all_ones told old.space (length a) - number_held old a xs)
    → RealizesOne w number old new kind after first a
not_line old new w number kind first told before after a e k t f s h g =
    subst (λ (v : Word). RealizesOne v number old new kind after first a) (sym e)
    (subst (λ (l : NameKind). RealizesOne Not number old new kind after l a) (sym k)
    (not_alone old new number kind told before after a t f s (subst (λ (l : NameKind). IsArgument old l a) k h) g))

-- ---- choices

-- the number of a cell alone is what it holds
pub one_held : (net : Net) (cells xs : List ℕ) → length cells ≡ 1 → number_held net cells xs ≡ value net xs (get_or cells 0 0)
one_held net cells xs e =
    number_held-is net cells xs ∙ ap (λ n. number (2 ^ net.space) n (cell_value net cells xs)) e ∙ one_number (2 ^ net.space) (cell_value net cells xs)

pub select_room : (old : Net) (w : Word) (kind first : NameKind) (a : List ℕ) → w ≡ Select → IsNumber old kind a → HasRoom old (cost_by w old.space kind first).jobs → HasRoom old (select_jobs (length a))
unfolding cost_by
select_room old w kind first a e n h = room_of old w Select kind first (select_jobs (length a)) e (ap (λ k. select_jobs k) n.count) h

select_alone : (old new : Net) (kind : NameKind) (before after x a b : List ℕ) → before ≡ [] → length x ≡ 1 → IsNumber old kind a
    → GivesNumber old new before after (length a) (select_jobs (length a)) select_depth (λ P. P (get_or x 0 0) × Each a P × Each b P)
    (λ xs. chosen (value old xs (get_or x 0 0)) (number_held old a xs) (number_held old b xs))
    → RealizesThree Select old new kind after Bit x kind a kind b
unfolding cost_by given_by
select_alone old new kind before after x a b f l n g =
    let whole : List ℕ → ℕ = λ xs. chosen (value old xs (get_or x 0 0)) (number_held old a xs) (number_held old b xs) in
    let here : 0 < length x = omega arith in
    number_realizes old new kind before after (length a) (select_jobs (length a)) select_depth (λ P. Each x P × Each a P × Each b P) whole
    (λ xs. given_by Select 0 (operand old Bit x xs) (operand old kind a xs) (operand old kind b xs)) (cost_by Select old.space kind Bit)
    n.number n.bits n.count f (ap (λ k. select_jobs k) n.count) refl
    (λ xs q.
    residue_natural (bits_of kind) (whole xs)
    ∙ ap (λ v. residue (bits_of kind) (pos (cond (v == 1) (number_held old a xs) (number_held old b xs)))) (sym (one_held old x xs l)))
    (number_operands old new before after (length a) (select_jobs (length a)) (select_jobs (length a)) select_depth select_depth (λ P. P (get_or x 0 0) × Each a P × Each b P) (λ P. Each x P × Each a P × Each b P) whole
    (omega arith) (omega arith) (λ d q. (q.0 0 here, q.1, q.2)) g)

pub select_line : (old new : Net) (w : Word) (kind k l m : NameKind) (before after x a b : List ℕ) → w ≡ Select → k ≡ Bit → l ≡ kind → m ≡ kind → before ≡ [] → length x ≡ 1 → IsNumber old kind a
    → GivesNumber old new before after (length a) (select_jobs (length a)) select_depth (λ P. P (get_or x 0 0) × Each a P × Each b P)
    (λ xs. chosen (value old xs (get_or x 0 0)) (number_held old a xs) (number_held old b xs))
    → RealizesThree w old new kind after k x l a m b
select_line old new w kind k l m before after x a b e p q r f one n g =
    subst (λ (v : Word). RealizesThree v old new kind after k x l a m b) (sym e)
    (subst (λ (k : NameKind). RealizesThree Select old new kind after k x l a m b) (sym p)
    (subst (λ (l : NameKind). RealizesThree Select old new kind after Bit x l a m b) (sym q)
    (subst (λ (m : NameKind). RealizesThree Select old new kind after Bit x kind a m b) (sym r)
    (select_alone old new kind before after x a b f one n g))))
