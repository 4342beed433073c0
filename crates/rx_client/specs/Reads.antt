-- What a reading answers.
use Rattle.std.specs.Prelude.{ℕ, ◌≡◌, List, Some, None, Result, Ok, Err}
use Rattle.rx_params.specs.declared.params.Params.{Params}
use Rattle.rx_codec.specs.declared.cipher.Item.{Item}
use Rattle.rx_codec.specs.Kept.{AreItemsKept}
use Rattle.rx_client.specs.declared.decrypt.DecryptError.{DecryptError}
use Rattle.rx_client.specs.declared.decrypt.DecryptError.TheVariants.{Damaged, Memory}
use Rattle.rx_client.specs.Decrypt.{item_lines, kept_lines, first_damage}

-- the lines of the items, of which no block is damaged, or the first damaged block; nothing is said where memory was wanted
abbrev pub Reads : {S : Type 0} → (S → List ℕ) → Params → List ℕ → List Item → Result S DecryptError → Type 0
Reads bytes p key items (Ok lines) = (first_damage p key items ≡ None) × (bytes lines ≡ item_lines p key items)
Reads bytes p key items (Err (Damaged damage)) = first_damage p key items ≡ Some damage
Reads bytes p key items (Err Memory) = Unit {0}

-- where the items' blocks keep digits, the lines are those of the digits' numbers, and no block is damaged
abbrev pub ReadsKept : {S : Type 0} → (S → List ℕ) → Params → List ℕ → List Item → Result S DecryptError → Type 0
ReadsKept bytes p key items (Ok lines) =
    (digits : List (List ℕ)) → AreItemsKept p key items digits → bytes lines ≡ kept_lines p.message_bits items digits
ReadsKept bytes p key items (Err (Damaged damage)) = (digits : List (List ℕ)) → AreItemsKept p key items digits → ⊥
ReadsKept bytes p key items (Err Memory) = Unit {0}
