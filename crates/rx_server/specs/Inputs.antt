-- The inputs of a net, found among the items of ciphertext files.
use Rattle.std.specs.Prelude.{ℕ, ◌≡◌, Bool, true, false, nat_lt, ◌&&◌, ◌==◌, List, [], ◌∷◌, ◌++◌, Option, Some, None, if◌then◌else◌, Result, Ok, Err, Vec}
use Rattle.std.specs.List.{flat_map, filter}
use Rattle.std.specs.Str.{bytes_eq}
use Rattle.std.specs.Option.{option_or}
use Rattle.std.specs.declared.alloc.Global.{Global}
use Rattle.rx_params.specs.declared.kind.Kind.{Kind}
use Rattle.rx_params.specs.declared.kind.Kind.TheVariants.{Int, Bit}
use Rattle.rx_net.specs.declared.net.NetInput.{NetInput}
use Rattle.rx_block.specs.declared.block.Block.{Block}
use Rattle.rx_codec.specs.declared.cipher.Item.{Item}
use Rattle.rx_codec.specs.declared.cipher.Cipher.{Cipher}
use Rattle.rx_server.specs.declared.fault.InputFault.{InputFault}
use Rattle.rx_server.specs.declared.fault.InputFault.TheVariants.{Missing, Twice, Form, Degree, Noise}
use Rattle.rx_server.specs.declared.fault.GatherError.{GatherError}
use Rattle.rx_server.specs.declared.fault.GatherError.TheVariants.{Input, Memory}

-- the items of some files, in order
abbrev pub items_of : List Cipher → List Item
items_of ciphers = flat_map (λ c. c.items) ciphers

-- those of a name
abbrev pub named : List ℕ → List Item → List Item
named name items = filter (λ item. bytes_eq item.name name) items

abbrev pub same_kind : Kind → Kind → Bool
same_kind Int Int = true
same_kind Int Bit = false
same_kind Bit Int = false
same_kind Bit Bit = true

-- the first block, from the least, whose degree or else noise tag passes that of the input
abbrev pub tags_fault : NetInput → List Block → Option InputFault
tags_fault input [] = None
tags_fault input (b ∷ bs) =
    if nat_lt input.degree b.degree then Some (Degree input.name b.degree input.degree)
    else if nat_lt input.noise b.noise then Some (Noise input.name b.noise input.noise)
    else tags_fault input bs

abbrev pub item_fault : NetInput → Item → Option InputFault
item_fault input item =
    if same_kind item.kind input.kind && (item.bits == input.bits) then tags_fault input item.blocks else Some (Form input.name)

-- what is wrong with an input of which these items have the name
abbrev pub found_fault : NetInput → List Item → Option InputFault
found_fault input [] = Some (Missing input.name)
found_fault input (item ∷ []) = item_fault input item
found_fault input (item ∷ more ∷ items) = Some (Twice input.name)

-- the first input that is not among the items as the net wants it
abbrev pub first_fault : List NetInput → List Item → Option InputFault
first_fault [] items = None
first_fault (input ∷ inputs) items = option_or (found_fault input (named input.name items)) (first_fault inputs items)

-- the blocks of the inputs, in the order of the net
abbrev pub blocks_found : List NetInput → List Item → List Block
blocks_found inputs items = flat_map (λ input. flat_map (λ item. item.blocks) (named input.name items)) inputs

-- What gathering the inputs answers: all blocks where no input has a fault, else the first fault; want of memory apart.
abbrev pub Gathers : List NetInput → List Item → Result (Vec Block Global) GatherError → Type 0
Gathers inputs items (Ok blocks) = (first_fault inputs items ≡ None) × (blocks.items ≡ blocks_found inputs items)
Gathers inputs items (Err (Input fault)) = first_fault inputs items ≡ Some fault
Gathers inputs items (Err Memory) = Unit {0}

-- the digits of the items of a name, where each item has those of the list at its place
abbrev pub digits_named : List ℕ → List Item → List (List ℕ) → List ℕ
digits_named name [] lists = []
digits_named name (item ∷ items) [] = []
digits_named name (item ∷ items) (digits ∷ lists) =
    if bytes_eq item.name name then digits ++ digits_named name items lists else digits_named name items lists

-- the digits of the inputs, in the order of the net
abbrev pub digits_found : List NetInput → List Item → List (List ℕ) → List ℕ
digits_found inputs items lists = flat_map (λ input. digits_named input.name items lists) inputs
