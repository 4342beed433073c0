-- Worked lines, names and numerals, computed by the definitions.
use Rattle.std.proofs.Common.{◌≡◌, ◌-◌, ◌^◌, [], ◌∷◌, ◌++◌, true, false, Some, None, Ok, Err, refl, replicate}
use Rattle.std.specs.Prelude.{codes}
use Rattle.rx_text.specs.declared.fault.LineCause.TheVariants.{Form, Number}
use Rattle.rx_text.specs.declared.numeral.Numeral.TheVariants.{Word, Beyond}
use Rattle.rx_text.specs.Lines.{parts_of, words_of, line_of, two_of, four_of}
use Rattle.rx_text.specs.Names.{is_name, name_of}
use Rattle.rx_text.specs.Numerals.{numeral_of, numeral_below, held}

-- what follows the last line feed is a part too, and stands alone in a text of no bytes
parts : (parts_of (codes "a" ++ 10 ∷ codes "b") ≡ codes "a" ∷ codes "b" ∷ []) × (parts_of (codes "a" ++ 10 ∷ []) ≡ codes "a" ∷ [] ∷ []) × (parts_of [] ≡ [] ∷ [])
parts = (refl, refl, refl)

-- two spaces have an empty word between them
words : (words_of (codes "int a 8") ≡ codes "int" ∷ codes "a" ∷ codes "8" ∷ []) × (words_of (codes "a  b") ≡ codes "a" ∷ [] ∷ codes "b" ∷ []) × (line_of (codes "a" ∷ codes "b" ∷ []) ≡ codes "a b" ++ 10 ∷ [])
words = (refl, refl, refl)

counted : (two_of (codes "a" ∷ codes "b" ∷ []) ≡ Some (codes "a", codes "b")) × (two_of (codes "a" ∷ []) ≡ None) × (four_of (codes "a" ∷ codes "b" ∷ codes "c" ∷ []) ≡ None)
counted = (refl, refl, refl)

-- 32 bytes are the most
names : (is_name (codes "in_2") ≡ true) × (is_name (replicate 32 122) ≡ true) × (is_name (replicate 33 122) ≡ false) × (is_name [] ≡ false) × (is_name (codes "2in") ≡ false) × (is_name (codes "_in") ≡ false) × (is_name (codes "iN") ≡ false) × (name_of (codes "in-2") ≡ None)
names = (refl, refl, refl, refl, refl, refl, refl, refl)

numerals : (numeral_of (codes "0") ≡ Some 0) × (numeral_of (codes "00") ≡ None) × (numeral_of (codes "07") ≡ None) × (numeral_of (codes "-1") ≡ None) × (numeral_of [] ≡ None) × (numeral_of (codes "100000000000000000000") ≡ Some 100000000000000000000)
numerals = (refl, refl, refl, refl, refl, refl)

-- the form is tried before the range
ranges : (numeral_below 256 (codes "255") ≡ Ok 255) × (numeral_below 256 (codes "256") ≡ Err Number) × (numeral_below 256 (codes "0256") ≡ Err Form) × (held (2 ^ 64 - 1) ≡ Word (2 ^ 64 - 1)) × (held (2 ^ 64) ≡ Beyond)
ranges = (refl, refl, refl, refl, refl)
