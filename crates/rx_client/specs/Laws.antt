-- The laws of items that keep numbers, as a contract can name them.
use Rattle.std.specs.Prelude.{ℕ, ◌≡◌, ◌⊎◌, List, map, None, true}
use Rattle.rx_params.specs.declared.params.Params.{Params}
use Rattle.rx_params.specs.Acceptance.{FieldsInRange, Accepts}
use Rattle.rx_circuit.specs.declared.values.ValueLine.{ValueLine}
use Rattle.rx_circuit.specs.Values.{IsValueLine, AreValues}
use Rattle.rx_codec.specs.declared.cipher.Item.{Item}
use Rattle.rx_codec.specs.Kept.{AreItemsKept}
use Rattle.rx_client.specs.Encrypt.{line_digits, encrypted_values, has_width}
use Rattle.rx_net.specs.Numbers.{number_of}
use Rattle.rx_client.specs.Decrypt.{item_lines, kept_lines, first_damage}

-- Under an accepted set items whose blocks keep digits have no damaged block, and their lines are those of the digits' numbers.
pub record ReadingLaws : Type 0 where
  pub undamaged : (p : Params) (key : List ℕ) (items : List Item) (digits : List (List ℕ)) → Accepts p →
      AreItemsKept p key items digits → first_damage p key items ≡ None
  pub lines : (p : Params) (key : List ℕ) (items : List Item) (digits : List (List ℕ)) → Accepts p →
      AreItemsKept p key items digits → item_lines p key items ≡ kept_lines p.message_bits items digits

-- Whatever the key and the seeds are, the items of encrypted lines keep the lines' digits; and the digits of a line that its
-- blocks make up are those of its number.
pub record EncryptingLaws : Type 0 where
  pub kept : (p : Params) (key mask_seed noise_seed : List ℕ) (lines : List ValueLine) → FieldsInRange p → AreValues lines →
      AreItemsKept p key (encrypted_values p key mask_seed noise_seed lines).items (map (line_digits p.message_bits) lines)
  pub number : (message_bits : ℕ) (v : ValueLine) → (message_bits ≡ 2) ⊎ (message_bits ≡ 3) → IsValueLine v →
      has_width message_bits v ≡ true → number_of message_bits (line_digits message_bits v) ≡ v.value
