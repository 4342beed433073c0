-- Parameter text: ten lines, the name of each field, in the order of the fields, and its numeral below 2 ^ 32.
use Rattle.std.specs.Prelude.{ℕ, ◌+◌, ◌^◌, ◌<◌, ◌≡◌, List, [], ◌∷◌, codes, decimal, zip, if◌then◌else◌, Result, Ok, Err}
use Rattle.std.specs.List.{flat_map}
use Rattle.std.specs.Str.{bytes_eq}
use Rattle.rx_text.specs.Lines.{parts_of, words_of, line_of}
use Rattle.rx_text.specs.Faults.{fault_at}
use Rattle.rx_text.specs.Numerals.{numeral_below}
use Rattle.rx_text.specs.declared.fault.LineCause.{LineCause}
use Rattle.rx_text.specs.declared.fault.LineCause.TheVariants.{Form}
use Rattle.rx_text.specs.declared.fault.LineFault.{LineFault}
use Rattle.rx_params.specs.declared.params.Params.{Params}
use Rattle.rx_params.specs.Sets.{set_of}

-- the names of the fields, in order
abbrev pub field_names : List (List ℕ)
field_names =
    codes "message_bits" ∷ codes "glwe_dim" ∷ codes "poly_size" ∷ codes "lwe_dim" ∷ codes "pbs_base_log"
    ∷ codes "pbs_level" ∷ codes "ks_base_log" ∷ codes "ks_level" ∷ codes "glwe_bound" ∷ codes "lwe_bound" ∷ []

-- the values of the fields, in order
abbrev pub fields_of : Params → List ℕ
fields_of p =
    p.message_bits ∷ p.glwe_dim ∷ p.poly_size ∷ p.lwe_dim ∷ p.pbs_base_log
    ∷ p.pbs_level ∷ p.ks_base_log ∷ p.ks_level ∷ p.glwe_bound ∷ p.lwe_bound ∷ []

-- the one text of a set
abbrev pub params_text : Params → List ℕ
params_text p = flat_map (λ field. line_of (field.0 ∷ decimal field.1 ∷ [])) (zip field_names (fields_of p))

-- ---- reading, with the first line that is wrong
-- the value of the line of a field, from its words
abbrev pub field_value : List ℕ → List (List ℕ) → Result ℕ LineCause
field_value name [] = Err Form
field_value name (word ∷ []) = Err Form
field_value name (word ∷ number ∷ []) = if bytes_eq word name then numeral_below (2 ^ 32) number else Err Form
field_value name (word ∷ number ∷ more ∷ others) = Err Form

-- a value and those after it, or the first fault
abbrev pub before_values : Result ℕ LineCause → ℕ → Result (List ℕ) LineFault → Result (List ℕ) LineFault
before_values (Err cause) line rest = Err (fault_at line cause)
before_values (Ok value) line (Err fault) = Err fault
before_values (Ok value) line (Ok values) = Ok (value ∷ values)

-- the end of a text: nothing stands after the last line feed
abbrev pub end_of_text : ℕ → List (List ℕ) → Result (List ℕ) LineFault
end_of_text line ([] ∷ []) = Ok []
end_of_text line _ = Err (fault_at line Form)

-- the values of the fields of these names, from what stands between the line feeds
abbrev pub field_values_from : ℕ → List (List ℕ) → List (List ℕ) → Result (List ℕ) LineFault
field_values_from line [] parts = end_of_text line parts
field_values_from line (name ∷ names) [] = Err (fault_at line Form)
field_values_from line (name ∷ names) (last ∷ []) = Err (fault_at line Form)
field_values_from line (name ∷ names) (part ∷ next ∷ parts) =
    before_values (field_value name (words_of part)) line (field_values_from (line + 1) names (next ∷ parts))

-- the set with these values
abbrev pub as_set : Result (List ℕ) LineFault → Result Params LineFault
as_set (Ok (m ∷ k ∷ n ∷ d ∷ pb ∷ pl ∷ kb ∷ kl ∷ g ∷ l ∷ [])) = Ok (set_of m k n d pb pl kb kl g l)
as_set (Ok _) = Err (fault_at 1 Form)
as_set (Err fault) = Err fault

-- the set that a text spells, or the first line that is wrong
unfoldable pub params_from : List ℕ → Result Params LineFault
params_from bytes = as_set (field_values_from 1 field_names (parts_of bytes))

-- the fields have the range of a text
pub record HasText (p : Params) : Type 0 where
  pub message_bits : p.message_bits < 2 ^ 32
  pub glwe_dim : p.glwe_dim < 2 ^ 32
  pub poly_size : p.poly_size < 2 ^ 32
  pub lwe_dim : p.lwe_dim < 2 ^ 32
  pub pbs_base_log : p.pbs_base_log < 2 ^ 32
  pub pbs_level : p.pbs_level < 2 ^ 32
  pub ks_base_log : p.ks_base_log < 2 ^ 32
  pub ks_level : p.ks_level < 2 ^ 32
  pub glwe_bound : p.glwe_bound < 2 ^ 32
  pub lwe_bound : p.lwe_bound < 2 ^ 32

-- the bytes are the parameter text of the set
pub record ParamsText (bytes : List ℕ) (p : Params) : Type 0 where
  pub fits : HasText p
  pub spelled : bytes ≡ params_text p
