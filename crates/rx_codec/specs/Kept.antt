-- What the items of a ciphertext keep.
use Rattle.std.specs.Prelude.{ℕ, List, [], ◌∷◌}
use Rattle.rx_params.specs.declared.params.Params.{Params}
use Rattle.rx_block.specs.Keeps.{AreKept}
use Rattle.rx_codec.specs.declared.cipher.Item.{Item}

-- the blocks of each item keep the numbers of a list
abbrev pub AreItemsKept : Params → List ℕ → List Item → List (List ℕ) → Type 0
AreItemsKept p key [] [] = Unit {0}
AreItemsKept p key [] (digits ∷ lists) = ⊥
AreItemsKept p key (item ∷ items) [] = ⊥
AreItemsKept p key (item ∷ items) (digits ∷ lists) = AreKept p key item.blocks digits × AreItemsKept p key items lists
