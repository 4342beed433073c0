-- A name is text.
use Rattle.std.proofs.Common.{◌-◌, ◌≤◌, ◌++◌, length, take, drop, replicate, ap, ◌≡◌, ◌<◌, ℕ, List, [], ◌∷◌, true, IsTrue, refl, arith}
use Rattle.std.specs.List.{list_all}
use Rattle.std.specs.Str.{IsAscii, IsUtf8}
use Rattle.std.proofs.lemmas.Bool.{and_parts}
use Rattle.std.proofs.lemmas.Bool.Decides.{nat_tests}
use Rattle.std.proofs.lemmas.Str.{IsUtf8-from_ascii}
use Rattle.std.proofs.lemmas.Str.Ascii.{IsAscii-nil, IsAscii-cons}
use Rattle.std.proofs.lemmas.List.{take_at, drop-replicate, length-append, length-replicate}
use Rattle.rx_text.specs.NameFields.{IsHeldName}
use Rattle.rx_text.specs.Names.{is_letter, is_name_byte, is_name}

letter : (b : ℕ) → is_letter b ≡ true → b < 128
letter b h = grind (arith, nat_tests)

part : (b : ℕ) → is_name_byte b ≡ true → b < 128
part b h = grind (arith, nat_tests)

parts : (bytes : List ℕ) → list_all is_name_byte bytes ≡ true → IsAscii bytes
parts [] h = IsAscii-nil
parts (b ∷ bytes) h =
    let two = and_parts (is_name_byte b) (list_all is_name_byte bytes) h in
    IsAscii-cons b bytes (part b two.0) (parts bytes two.1)

name_ascii : (text : List ℕ) → IsTrue (is_name text) → IsAscii text
name_ascii [] is = IsAscii-nil
name_ascii (first ∷ others) is =
    let two = and_parts (is_letter first) _ is in
    let more = and_parts (list_all is_name_byte others) _ two.1 in
    IsAscii-cons first others (letter first two.0) (parts others more.0)

pub name_is_text : (text : List ℕ) → IsTrue (is_name text) → IsUtf8 text
name_is_text text is = IsUtf8-from_ascii text (name_ascii text is)

-- ---- a name and zeros behind it

pub held_name : (text : List ℕ) → length text ≤ 32 → IsTrue (is_name text) → IsHeldName (record { bytes = text ++ drop (length text) (replicate 32 0); len = length text })
held_name text short is =
    let front : take (length text) (text ++ drop (length text) (replicate 32 0)) ≡ text = take_at text (drop (length text) (replicate 32 0)) (length text) refl in
    let back : drop (length text) (replicate 32 0) ≡ replicate (32 - length text) 0 = drop-replicate (length text) 32 0 in
    record {
      whole = rw back (omega (arith, length-append text (replicate (32 - length text) 0), length-replicate {A = ℕ} (32 - length text) 0));
      fits = short;
      name = rw front is;
      padded = rw front (ap (λ (spare : List ℕ). text ++ spare) back);
    }
