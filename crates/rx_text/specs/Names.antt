-- Names: 1 to 32 bytes, the first a small letter, the others small letters, digits or `_`.
use Rattle.std.specs.Prelude.{ℕ, List, [], ◌∷◌, length, nat_le, ◌==◌, ◌&&◌, ◌||◌, Bool, false, Option, Some, None, if◌then◌else◌}
use Rattle.std.specs.List.{list_all}

abbrev pub is_letter : ℕ → Bool
is_letter c = nat_le 97 c && nat_le c 122

abbrev pub is_name_byte : ℕ → Bool
is_name_byte c = is_letter c || ((nat_le 48 c && nat_le c 57) || (c == 95))

abbrev pub is_name : List ℕ → Bool
is_name [] = false
is_name (first ∷ others) = is_letter first && (list_all is_name_byte others && nat_le (length (first ∷ others)) 32)

-- the name that a text is, none where it is no name
abbrev pub name_of : List ℕ → Option (List ℕ)
name_of text = if is_name text then Some text else None
