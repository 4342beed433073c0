-- The lines of items, as far as a loop over them has come.
use Rattle.std.proofs.Common.{◌≡◌, ℕ, List, drop, ◌++◌}
use Rattle.rx_params.specs.declared.params.Params.{Params}
use Rattle.rx_codec.specs.declared.cipher.Item.{Item}
use Rattle.rx_client.specs.Decrypt.{item_lines, first_damage}

-- no block of the first n items is damaged, and the text has their lines
pub record HasLines (p : Params) (key : List ℕ) (items : List Item) (n : ℕ) (text : List ℕ) : Type 0 where
  pub damage : first_damage p key (drop n items) ≡ first_damage p key items
  pub lines : text ++ item_lines p key (drop n items) ≡ item_lines p key items
