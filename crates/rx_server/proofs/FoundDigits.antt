-- The digits that are found for the inputs of a net.
use Rattle.std.proofs.Common.{ℕ, true, false, List, [], ◌∷◌, ◌++◌, cond}
use Rattle.std.specs.List.{flat_map}
use Rattle.std.specs.Str.{bytes_eq}
use Rattle.rx_params.specs.declared.params.Params.{Params}
use Rattle.rx_net.specs.declared.net.NetInput.{NetInput}
use Rattle.rx_block.specs.declared.block.Block.{Block}
use Rattle.rx_block.specs.Keeps.{AreKept}
use Rattle.rx_block.proofs.KeptLists.{none_kept, both_kept}
use Rattle.rx_codec.specs.declared.cipher.Item.{Item}
use Rattle.rx_codec.specs.Kept.{AreItemsKept}
use Rattle.rx_server.specs.Inputs.{named, blocks_found, digits_named, digits_found}

-- the items of a name
named_kept : (p : Params) (key name : List ℕ) (items : List Item) (lists : List (List ℕ)) → AreItemsKept p key items lists
    → AreKept p key (flat_map (λ (item : Item). item.blocks) (named name items)) (digits_named name items lists)
named_kept p key name [] [] are = none_kept p key
named_kept p key name [] (digits ∷ lists) are = absurd are
named_kept p key name (item ∷ items) [] are = absurd are
named_kept p key name (item ∷ items) (digits ∷ lists) are =
    let blocks : List Block = flat_map (λ (i : Item). i.blocks) (named name items) in
    let later : List ℕ = digits_named name items lists in
    let rest : AreKept p key blocks later = named_kept p key name items lists are.1 in
    elim (bytes_eq item.name name)
    as (λ b. AreKept p key (flat_map (λ (i : Item). i.blocks) (cond b (item ∷ named name items) (named name items))) (cond b (digits ++ later) later))
    [ true ↦ both_kept p key item.blocks blocks digits later are.0 rest | false ↦ rest ]

pub found_kept : (p : Params) (key : List ℕ) (inputs : List NetInput) (items : List Item) (lists : List (List ℕ)) → AreItemsKept p key items lists
    → AreKept p key (blocks_found inputs items) (digits_found inputs items lists)
found_kept p key [] items lists are = none_kept p key
found_kept p key (i ∷ inputs) items lists are =
    both_kept p key (flat_map (λ (item : Item). item.blocks) (named i.name items)) (blocks_found inputs items)
    (digits_named i.name items lists) (digits_found inputs items lists)
    (named_kept p key i.name items lists are) (found_kept p key inputs items lists are)

-- the items of several files
pub joined_kept : (p : Params) (key : List ℕ) (items more : List Item) (lists others : List (List ℕ)) → AreItemsKept p key items lists
    → AreItemsKept p key more others → AreItemsKept p key (items ++ more) (lists ++ others)
joined_kept p key [] more [] others first second = second
joined_kept p key [] more (digits ∷ lists) others first second = absurd first
joined_kept p key (item ∷ items) more [] others first second = absurd first
joined_kept p key (item ∷ items) more (digits ∷ lists) others first second =
    (first.0, joined_kept p key items more lists others first.1 second)
