-- Items whose blocks keep digits are read as the digits' numbers.
use Rattle.std.proofs.Common.{◌≡◌, ℕ, ◌+◌, List, [], ◌∷◌, ◌++◌, map, None, refl, sym, ap, ◌∙◌, arith}
use Rattle.std.specs.Option.{option_or}
use Rattle.rx_params.specs.declared.params.Params.{Params}
use Rattle.rx_params.specs.Acceptance.{Accepts}
use Rattle.rx_block.specs.declared.block.Block.{Block}
use Rattle.rx_block.specs.Keeps.{AreKept}
use Rattle.rx_block.specs.NoiseLaws.{KeepsLaws}
use Rattle.rx_block.proofs.KeptLists.{first_kept}
use Rattle.rx_codec.specs.declared.cipher.Item.{Item}
use Rattle.rx_codec.specs.Kept.{AreItemsKept}
use Rattle.rx_net.specs.Numbers.{number_of}
use Rattle.rx_client.specs.Decrypt.{block_number, named_line, item_lines, kept_lines, damage_here, damage_in, first_damage}
use Rattle.rx_client.specs.Laws.{ReadingLaws}
use Rattle.rx_client.proofs.Numbers.{within}

-- ---- the blocks of an item

no_damage : KeepsLaws → (p : Params) (key name : List ℕ) (place : ℕ) (blocks : List Block) (digits : List ℕ) → Accepts p →
    AreKept p key blocks digits → damage_in p key name place blocks ≡ None
no_damage laws p key name place [] digits accepted are = refl
no_damage laws p key name place (b ∷ bs) [] accepted are = absurd (omega (arith, are.count))
no_damage laws p key name place (b ∷ bs) (x ∷ xs) accepted are =
    let first = first_kept p key b bs x xs are in
    ap (λ r. damage_here name place r (damage_in p key name (place + 1) bs)) (laws.number p key b x accepted first.0)
    ∙ no_damage laws p key name (place + 1) bs xs accepted first.1

digits_read : KeepsLaws → (p : Params) (key : List ℕ) (blocks : List Block) (digits : List ℕ) → Accepts p → AreKept p key blocks digits →
    map (block_number p key) blocks ≡ digits
digits_read laws p key [] [] accepted are = refl
digits_read laws p key [] (x ∷ xs) accepted are = absurd (omega (arith, are.count))
digits_read laws p key (b ∷ bs) [] accepted are = absurd (omega (arith, are.count))
digits_read laws p key (b ∷ bs) (x ∷ xs) accepted are =
    let first = first_kept p key b bs x xs are in
    let read = within (block_number p key b) b.degree x (sym (laws.number p key b x accepted first.0)) in
    ap (λ d. d ∷ map (block_number p key) bs) (sym read.0) ∙ ap (λ ds. x ∷ ds) (digits_read laws p key bs xs accepted first.1)

-- ---- all items

items_undamaged : KeepsLaws → (p : Params) (key : List ℕ) (items : List Item) (lists : List (List ℕ)) → Accepts p →
    AreItemsKept p key items lists → first_damage p key items ≡ None
items_undamaged laws p key [] lists accepted are = refl
items_undamaged laws p key (item ∷ items) [] accepted are = absurd are
items_undamaged laws p key (item ∷ items) (digits ∷ lists) accepted are =
    ap (λ damage. option_or damage (first_damage p key items)) (no_damage laws p key item.name 0 item.blocks digits accepted are.0)
    ∙ items_undamaged laws p key items lists accepted are.1

lines_kept : KeepsLaws → (p : Params) (key : List ℕ) (items : List Item) (lists : List (List ℕ)) → Accepts p →
    AreItemsKept p key items lists → item_lines p key items ≡ kept_lines p.message_bits items lists
lines_kept laws p key [] [] accepted are = refl
lines_kept laws p key [] (digits ∷ lists) accepted are = absurd are
lines_kept laws p key (item ∷ items) [] accepted are = absurd are
lines_kept laws p key (item ∷ items) (digits ∷ lists) accepted are =
    let m : ℕ = p.message_bits in
    ap (λ ds. named_line item.name (number_of m ds) ++ item_lines p key items) (digits_read laws p key item.blocks digits accepted are.0)
    ∙ ap (λ text. named_line item.name (number_of m digits) ++ text) (lines_kept laws p key items lists accepted are.1)

pub reading_laws_from : KeepsLaws → ReadingLaws
reading_laws_from laws = record { undamaged = items_undamaged laws; lines = lines_kept laws }
