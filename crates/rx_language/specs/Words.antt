-- The words of the language: their spelling, and what stands on a line of each.
use Rattle.std.specs.Prelude.{ℕ, Bool, true, false, List, [], ◌∷◌, codes, Option}
use Rattle.std.specs.Str.{bytes_eq}
use Rattle.std.specs.List.{find}
use Rattle.rx_language.specs.declared.word.Word.{Word}
use Rattle.rx_language.specs.declared.word.Word.TheVariants.{In, Inw, Ins, Inbit, Const, Constw, Add, Sub, Mul, Div, Rem, Neg, And, Or, Xor, Not, Shl, Shr, Shlv, Shrv, Eq, Ne, Lt, Le, Gt, Ge, Select, Min, Max, Cast, Casts, Out}
use Rattle.rx_language.specs.declared.form.Form.{Form}
use Rattle.rx_language.specs.declared.form.Tail.{Tail}
use Rattle.rx_language.specs.declared.form.Tail.TheVariants.{Nothing, Constant, Amount}
use Rattle.rx_language.specs.declared.form.Rule.{Rule}
use Rattle.rx_language.specs.declared.form.Rule.TheVariants.{GivesInt, GivesSint, GivesBit, OneNumber, TwoNumbers, TwoInts, OneOfAny, TwoAlike, NumberAndAmount, Compared, Chosen, CastInt, CastSint}

-- how a word is written
abbrev pub spelling : Word → List ℕ
spelling In = codes "in"
spelling Inw = codes "inw"
spelling Ins = codes "ins"
spelling Inbit = codes "inbit"
spelling Const = codes "const"
spelling Constw = codes "constw"
spelling Add = codes "add"
spelling Sub = codes "sub"
spelling Mul = codes "mul"
spelling Div = codes "div"
spelling Rem = codes "rem"
spelling Neg = codes "neg"
spelling And = codes "and"
spelling Or = codes "or"
spelling Xor = codes "xor"
spelling Not = codes "not"
spelling Shl = codes "shl"
spelling Shr = codes "shr"
spelling Shlv = codes "shlv"
spelling Shrv = codes "shrv"
spelling Eq = codes "eq"
spelling Ne = codes "ne"
spelling Lt = codes "lt"
spelling Le = codes "le"
spelling Gt = codes "gt"
spelling Ge = codes "ge"
spelling Select = codes "select"
spelling Min = codes "min"
spelling Max = codes "max"
spelling Cast = codes "cast"
spelling Casts = codes "casts"
spelling Out = codes "out"

abbrev pub every_word : List Word
every_word =
    In ∷ Inw ∷ Ins ∷ Inbit ∷ Const ∷ Constw ∷ Add ∷ Sub ∷ Mul ∷ Div ∷ Rem ∷ Neg ∷ And ∷ Or ∷ Xor ∷ Not ∷ Shl ∷ Shr ∷ Shlv ∷ Shrv ∷ Eq ∷ Ne ∷ Lt ∷ Le ∷ Gt ∷ Ge ∷ Select ∷ Min ∷ Max ∷ Cast ∷ Casts ∷ Out ∷ []

-- the word that a text is, none where it is none
abbrev pub word_of : List ℕ → Option Word
word_of text = find (λ word. bytes_eq text (spelling word)) every_word

-- a row: whether a width is stated, how many names of arguments stand there, the numeral at the end, the kinds
abbrev pub row : Bool → ℕ → Tail → Rule → Form
row stated args tail rule = record { stated = stated; args = args; tail = tail; rule = rule }

-- the table of lines
abbrev pub form : Word → Form
form In = row false 0 Nothing GivesInt
form Inw = row true 0 Nothing GivesInt
form Ins = row true 0 Nothing GivesSint
form Inbit = row false 0 Nothing GivesBit
form Const = row false 0 Constant GivesInt
form Constw = row true 0 Constant GivesInt
form Add = row false 2 Nothing TwoNumbers
form Sub = row false 2 Nothing TwoNumbers
form Mul = row false 2 Nothing TwoNumbers
form Div = row false 2 Nothing TwoInts
form Rem = row false 2 Nothing TwoInts
form Neg = row false 1 Nothing OneNumber
form And = row false 2 Nothing TwoAlike
form Or = row false 2 Nothing TwoAlike
form Xor = row false 2 Nothing TwoAlike
form Not = row false 1 Nothing OneOfAny
form Shl = row false 1 Amount OneNumber
form Shr = row false 1 Amount OneNumber
form Shlv = row false 2 Nothing NumberAndAmount
form Shrv = row false 2 Nothing NumberAndAmount
form Eq = row false 2 Nothing Compared
form Ne = row false 2 Nothing Compared
form Lt = row false 2 Nothing Compared
form Le = row false 2 Nothing Compared
form Gt = row false 2 Nothing Compared
form Ge = row false 2 Nothing Compared
form Select = row false 3 Nothing Chosen
form Min = row false 2 Nothing TwoNumbers
form Max = row false 2 Nothing TwoNumbers
form Cast = row true 1 Nothing CastInt
form Casts = row true 1 Nothing CastSint
form Out = row false 0 Nothing OneOfAny

-- whether a line of the word is an input
abbrev pub is_input : Word → Bool
is_input In = true
is_input Inw = true
is_input Ins = true
is_input Inbit = true
is_input _ = false

-- whether a line of the word is an output, which defines no name
abbrev pub is_output : Word → Bool
is_output Out = true
is_output _ = false
