-- The kinds of the arguments of a line, by its rule.
use Rattle.std.proofs.Common.{◌≡◌, ℕ, ◌≤◌, Bool, true, false, cond, ◌&&◌, List, [], ◌∷◌, Option, Some, None, refl, sym, ◌∙◌, ap, subst}
use Rattle.std.specs.Prelude.{unwrap_or}
use Rattle.std.proofs.lemmas.Bool.{false≢true, and_parts, eqb-true}
use Rattle.rx_net.specs.declared.net.Net.{Net}
use Rattle.rx_plan.specs.Planned.{HasRoom}
use Rattle.rx_language.specs.declared.word.Word.{Word}
use Rattle.rx_language.specs.declared.form.Form.{Form}
use Rattle.rx_language.specs.declared.form.Rule.{Rule}
use Rattle.rx_language.specs.declared.form.Rule.TheVariants.{OneNumber, TwoNumbers, TwoInts, TwoAlike, NumberAndAmount, Compared, Chosen}
use Rattle.rx_language.specs.declared.kind.NameKind.{NameKind}
use Rattle.rx_language.specs.declared.kind.NameKind.TheVariants.{Int, Sint, Bit}
use Rattle.rx_language.specs.Words.{form}
use Rattle.rx_language.specs.Kinds.{bits_of, is_number, same_kind, are_numbers, are_ints, kind_by}
use Rattle.rx_meaning.specs.Costs.{cost_by}
use Rattle.rx_compile.specs.Realized.{RealizesOne, RealizesTwo}
use Rattle.rx_compile.specs.Arms.{Takes, IsArgument, IsNumber}
use Rattle.rx_compile.proofs.Arguments.{number_argument}

abbrev tells : Option NameKind → Bool
tells (Some kind) = true
tells None = false

pub some_is : (a kind : NameKind) → Some a ≡ Some kind → a ≡ kind
some_is a kind e = ap (λ (o : Option NameKind). unwrap_or o a) e

given_if : (test : Bool) (a kind : NameKind) → cond test (Some a) None ≡ Some kind → (test ≡ true) × (a ≡ kind)
given_if true a kind e = (refl, some_is a kind e)
given_if false a kind e = absurd (false≢true (ap tells e))

same_is : (a b : NameKind) → same_kind a b ≡ true → b ≡ a
same_is (Int a) (Int b) e = ap (λ w. Int w) (sym (eqb-true a b e))
same_is (Int a) (Sint b) e = absurd (false≢true e)
same_is (Int a) Bit e = absurd (false≢true e)
same_is (Sint a) (Int b) e = absurd (false≢true e)
same_is (Sint a) (Sint b) e = ap (λ w. Sint w) (sym (eqb-true a b e))
same_is (Sint a) Bit e = absurd (false≢true e)
same_is Bit (Int b) e = absurd (false≢true e)
same_is Bit (Sint b) e = absurd (false≢true e)
same_is Bit Bit e = refl

pub one_number : (width : ℕ) (a kind : NameKind) → kind_by OneNumber width (a ∷ []) ≡ Some kind → (is_number a ≡ true) × (a ≡ kind)
one_number width a kind e = given_if (is_number a) a kind e

numbers_by : (a b : NameKind) → are_numbers a b ≡ true → (is_number a ≡ true) × (b ≡ a)
numbers_by a b e = let p = and_parts (is_number a) (same_kind a b) e in (p.0, same_is a b p.1)

pub two_numbers : (width : ℕ) (a b kind : NameKind) → kind_by TwoNumbers width (a ∷ b ∷ []) ≡ Some kind → ((is_number a ≡ true) × (b ≡ a)) × (a ≡ kind)
two_numbers width a b kind e = let g = given_if (are_numbers a b) a kind e in (numbers_by a b g.0, g.1)

ints_by : (a b : NameKind) → are_ints a b ≡ true → (is_number a ≡ true) × (b ≡ a)
ints_by (Int a) (Int b) e = (refl, ap (λ w. Int w) (sym (eqb-true a b e)))
ints_by (Int a) (Sint b) e = absurd (false≢true e)
ints_by (Int a) Bit e = absurd (false≢true e)
ints_by (Sint a) (Int b) e = absurd (false≢true e)
ints_by (Sint a) (Sint b) e = absurd (false≢true e)
ints_by (Sint a) Bit e = absurd (false≢true e)
ints_by Bit (Int b) e = absurd (false≢true e)
ints_by Bit (Sint b) e = absurd (false≢true e)
ints_by Bit Bit e = absurd (false≢true e)

pub two_ints : (width : ℕ) (a b kind : NameKind) → kind_by TwoInts width (a ∷ b ∷ []) ≡ Some kind → ((is_number a ≡ true) × (b ≡ a)) × (a ≡ kind)
two_ints width a b kind e = let g = given_if (are_ints a b) a kind e in (ints_by a b g.0, g.1)

pub two_alike : (width : ℕ) (a b kind : NameKind) → kind_by TwoAlike width (a ∷ b ∷ []) ≡ Some kind → (b ≡ a) × (a ≡ kind)
two_alike width a b kind e = let g = given_if (same_kind a b) a kind e in (same_is a b g.0, g.1)

pub amount : (width : ℕ) (a b kind : NameKind) → kind_by NumberAndAmount width (a ∷ b ∷ []) ≡ Some kind → ((is_number a ≡ true) × (b ≡ Int (bits_of a))) × (a ≡ kind)
amount width a b kind e =
    let g = given_if (is_number a && same_kind b (Int (bits_of a))) a kind e in
    let p = and_parts (is_number a) (same_kind b (Int (bits_of a))) g.0 in
    ((p.0, sym (same_is b (Int (bits_of a)) p.1)), g.1)

pub compared : (width : ℕ) (a b kind : NameKind) → kind_by Compared width (a ∷ b ∷ []) ≡ Some kind → ((is_number a ≡ true) × (b ≡ a)) × (Bit ≡ kind)
compared width a b kind e = let g = given_if (are_numbers a b) Bit kind e in (numbers_by a b g.0, g.1)

pub chosen : (width : ℕ) (c a b kind : NameKind) → kind_by Chosen width (c ∷ a ∷ b ∷ []) ≡ Some kind → ((c ≡ Bit) × ((is_number a ≡ true) × (b ≡ a))) × (a ≡ kind)
chosen width c a b kind e =
    let g = given_if (same_kind c Bit && are_numbers a b) a kind e in
    let p = and_parts (same_kind c Bit) (are_numbers a b) g.0 in
    ((sym (same_is c Bit p.0), numbers_by a b p.1), g.1)

-- the rule of a word whose form is told
pub rule_is : (word : Word) (told : Form) (rule : Rule) → told ≡ form word → told.rule ≡ rule → (form word).rule ≡ rule
rule_is word told rule e r = ap (λ (f : Form). f.rule) (sym e) ∙ r

pub gives_by : (word : Word) (number : ℕ) (kinds : List NameKind) (kind : NameKind) (rule : Rule) → (form word).rule ≡ rule → (t : Takes word number kinds kind) → kind_by rule t.width kinds ≡ Some kind
gives_by word number kinds kind rule e t = subst (λ (r : Rule). kind_by r t.width kinds ≡ Some kind) e t.gives

-- ---- arguments under other names of their kinds

pub number_named : (net : Net) (a kind : NameKind) (cells : List ℕ) → 2 ≤ net.space → is_number a ≡ true → a ≡ kind → IsArgument net a cells → IsNumber net kind cells
number_named net a kind cells s n e h = subst (λ (k : NameKind). IsNumber net k cells) e (number_argument net a cells s n h)

pub argument_named : (net : Net) (a kind : NameKind) (cells : List ℕ) → a ≡ kind → IsArgument net a cells → IsArgument net kind cells
argument_named net a kind cells e h = subst (λ (k : NameKind). IsArgument net k cells) e h

pub room_named : (net : Net) (word : Word) (kind known a b : NameKind) → kind ≡ known → a ≡ b → HasRoom net (cost_by word net.space kind a).jobs → HasRoom net (cost_by word net.space known b).jobs
room_named net word kind known a b e f h =
    subst (λ (k : NameKind). HasRoom net (cost_by word net.space k b).jobs) e (subst (λ (k : NameKind). HasRoom net (cost_by word net.space kind k).jobs) f h)

pub one_named : (word : Word) (number : ℕ) (old new : Net) (kind k a : NameKind) (cells xs : List ℕ) → k ≡ a → RealizesOne word number old new kind cells k xs → RealizesOne word number old new kind cells a xs
one_named word number old new kind k a cells xs e h = subst (λ (k : NameKind). RealizesOne word number old new kind cells k xs) e h

pub two_named : (word : Word) (old new : Net) (known kind k a l b : NameKind) (cells xs ys : List ℕ) → known ≡ kind → k ≡ a → l ≡ b
    → RealizesTwo word old new known cells k xs l ys → RealizesTwo word old new kind cells a xs b ys
two_named word old new known kind k a l b cells xs ys d e f h =
    subst (λ (m : NameKind). RealizesTwo word old new m cells a xs b ys) d
    (subst (λ (l : NameKind). RealizesTwo word old new known cells a xs l ys) f (subst (λ (k : NameKind). RealizesTwo word old new known cells k xs l ys) e h))
