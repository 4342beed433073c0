-- Reading a file field after field. A reading of something at a place gives it and the place after it, or the first fault.
use Rattle.std.specs.Prelude.{ℕ, ℤ, zero, suc, ◌+◌, ◌-◌, ◌≡◌, nat_le, List, [], ◌∷◌, ◌++◌, length, slice_range, Bool, if◌then◌else◌, Result, Ok, Err}
use Rattle.std.specs.List.{flat_map}
use Rattle.std.specs.Int.{Width, byte_len, from_le_bytes, to_le_bytes, cast_signed, cast_unsigned}
use Rattle.std.specs.Str.{bytes_eq}
use Rattle.rx_codec.specs.declared.fault.CodecFault.{CodecFault}
use Rattle.rx_codec.specs.declared.fault.CodecFault.TheVariants.{Magic, Short, Long, Field, Params, Net, Memory}

-- one reading after another
infixl 10 ◌>>=◌
abbrev pub ◌>>=◌ : {A B : Type 0} → Result A CodecFault → (A → Result B CodecFault) → Result B CodecFault
(Ok x) >>= f = f x
(Err fault) >>= f = Err fault

-- a field of that many bytes
abbrev pub bytes_at : List ℕ → ℕ → ℕ → Result (List ℕ × ℕ) CodecFault
bytes_at file count at =
    if nat_le (at + count) (length file) then Ok (slice_range file at (at + count), at + count)
    else Err (Short (at + count) (length file))

-- a field that holds a number, the least byte first
abbrev pub number_at : Width → List ℕ → ℕ → Result (ℕ × ℕ) CodecFault
number_at width file at = do
  bytes ← bytes_at file (byte_len width) at
  Ok (from_le_bytes width bytes.0, bytes.1)

-- a field that holds a number of either sign, a negative one counted from the top
abbrev pub signed_at : Width → List ℕ → ℕ → Result (ℤ × ℕ) CodecFault
signed_at width file at = do
  number ← number_at width file at
  Ok (cast_signed width number.0, number.1)

-- its one spelling
abbrev pub signed_bytes : Width → ℤ → List ℕ
signed_bytes width number = to_le_bytes width (cast_unsigned width number)

-- a field whose value has to pass a test
abbrev pub in_range : {A : Type 0} → Bool → ℕ → A → Result A CodecFault
in_range passes at value = if passes then Ok value else Err (Field at)

-- so many more of these, each told by those before it
abbrev pub many_at : {A : Type 0} → (List A → List ℕ → ℕ → Result (A × ℕ) CodecFault) → ℕ → List A → List ℕ → ℕ → Result (List A × ℕ) CodecFault
many_at one zero before file at = Ok (before, at)
many_at one (suc count) before file at = one before file at >>= λ x. many_at one count (before ++ x.0 ∷ []) file x.1

-- how many there are, at most `most`
unfoldable pub count_at : Width → ℕ → List ℕ → ℕ → Result (ℕ × ℕ) CodecFault
count_at width most file at = do
  count ← number_at width file at
  in_range (nat_le count.0 most) at count

-- the one spelling of a list: how many there are, and then all of them
abbrev pub list_bytes : {A : Type 0} → Width → (A → List ℕ) → List A → List ℕ
list_bytes width spell entries = to_le_bytes width (length entries) ++ flat_map spell entries

unfoldable pub list_at : {A : Type 0} → Width → ℕ → (List A → List ℕ → ℕ → Result (A × ℕ) CodecFault) → List ℕ → ℕ → Result (List A × ℕ) CodecFault
list_at width most one file at = do
  count ← count_at width most file at
  many_at one count.0 [] file count.1

-- the first field of a file, which tells the format
abbrev pub magic_at : List ℕ → List ℕ → Result ℕ CodecFault
magic_at magic file = do
  bytes ← bytes_at file 4 0
  if bytes_eq bytes.0 magic then Ok bytes.1 else Err Magic

-- the file ends at this place
abbrev pub ends_at : {A : Type 0} → List ℕ → ℕ → A → Result A CodecFault
ends_at file at value = if nat_le (length file) at then Ok value else Err (Long (length file - at))

-- what a function answers, seen by a view, is what the reading gives, unless memory was wanted
abbrev pub Fails : {B : Type 0} → CodecFault → Result B CodecFault → Type 0
Fails Memory read = Unit {0}
Fails Magic read = read ≡ Err Magic
Fails (Short need have) read = read ≡ Err (Short need have)
Fails (Long extra) read = read ≡ Err (Long extra)
Fails (Field at) read = read ≡ Err (Field at)
Fails (Params refused) read = read ≡ Err (Params refused)
Fails (Net fault) read = read ≡ Err (Net fault)

abbrev pub Gives : {A B : Type 0} → (A → B) → Result A CodecFault → Result B CodecFault → Type 0
Gives view (Ok value) read = read ≡ Ok (view value)
Gives view (Err fault) read = Fails fault read

-- the same, where the reader stands at a place afterwards
abbrev pub GivesAt : {A B : Type 0} → (A → B) → ℕ → Result A CodecFault → Result (B × ℕ) CodecFault → Type 0
GivesAt view after (Ok value) read = read ≡ Ok (view value, after)
GivesAt view after (Err fault) read = Fails fault read

-- The same of a function that takes no memory: it answers what the reading gives.
abbrev pub GivesExactly : {A B : Type 0} → (A → B) → Result A CodecFault → Result B CodecFault → Type 0
GivesExactly view (Ok value) read = read ≡ Ok (view value)
GivesExactly view (Err fault) read = read ≡ Err fault

abbrev pub GivesExactlyAt : {A B : Type 0} → (A → B) → ℕ → Result A CodecFault → Result (B × ℕ) CodecFault → Type 0
GivesExactlyAt view after (Ok value) read = read ≡ Ok (view value, after)
GivesExactlyAt view after (Err fault) read = read ≡ Err fault

-- The fault is that of the reading, or where it gives something that memory was wanted: so none is wanted before all was read.
abbrev pub IsFaultOf : {B : Type 0} → Result B CodecFault → CodecFault → Type 0
IsFaultOf (Err fault) told = told ≡ fault
IsFaultOf (Ok value) told = told ≡ Memory

-- a file, and the place in it where a reader stands
pub record Cursor : Type 0 where
  pub file : List ℕ
  pub at : ℕ
