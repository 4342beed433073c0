-- Items: what is read is spelled so, and what is spelled so is read.
use Rattle.std.proofs.Common.{◌≡◌, ℕ, ◌+◌, Bool, false, List, [], ◌∷◌, ◌++◌, length, Result, Ok, sym, ap, subst, ◌∙◌, append_assoc}
use Rattle.std.specs.List.{flat_map, AllByRecursion}
use Rattle.rx_params.specs.declared.params.Params.{Params}
use Rattle.rx_params.specs.declared.kind.Kind.{Kind}
use Rattle.rx_params.specs.Acceptance.{Accepts}
use Rattle.rx_params.specs.Kinds.{block_count}
use Rattle.rx_block.specs.declared.block.Block.{Block}
use Rattle.rx_codec.specs.declared.cipher.Item.{Item}
use Rattle.rx_codec.specs.declared.fault.CodecFault.{CodecFault}
use Rattle.rx_codec.specs.Reading.{◌>>=◌}
use Rattle.rx_codec.specs.CipherFile.{has_item, item_bytes, block_bytes, IsSizedBlock, IsSizedItem, block_at, blocks_at, item_at}
use Rattle.rx_codec.specs.NamedFields.{kind_code, name_at, form_at}
use Rattle.rx_codec.proofs.Fields.{IsBytes, Stands, Stands-then, Stands-first, Stands-second, bind_ok, ok_is}
use Rattle.rx_codec.proofs.BlockFields.{BlockFits, block_tells}
use Rattle.rx_codec.proofs.Manys.{Tells, many_takes, many_again, each_of_turn, turn_of_each}
use Rattle.rx_codec.proofs.NamesAndForms.{name_takes, name_again, form_takes, form_again}

-- whether an item of these has a name
abbrev is_taken : List Item → List ℕ → Bool
is_taken before name = has_item name before

-- ---- items

abbrev item_of : List ℕ → Kind × ℕ → List Block → Item
item_of name form blocks = record { name = name; kind = form.0; bits = form.1; blocks = blocks }

abbrev after_form : ℕ → Params → List ℕ → List ℕ → (Kind × ℕ) × ℕ → Result (Item × ℕ) CodecFault
after_form size p file name form =
    blocks_at size p form.0.0 (block_count form.0.0 p.message_bits form.0.1) [] file form.1 >>= λ blocks. Ok (item_of name form.0 blocks.0, blocks.1)

abbrev after_name : ℕ → Params → List ℕ → List ℕ × ℕ → Result (Item × ℕ) CodecFault
after_name size p file name = form_at p.message_bits file name.1 >>= after_form size p file name.0

-- an item is spelled by its name, its form and its blocks
item_bytes-are : (i : Item) → item_bytes i ≡ (length i.name ∷ i.name) ++ kind_code i.kind ∷ i.bits ∷ flat_map block_bytes i.blocks
item_bytes-are i = ap (λ (t : List ℕ). length i.name ∷ t) (append_assoc i.name (kind_code i.kind ∷ i.bits ∷ []) (flat_map block_bytes i.blocks))

-- an item of a set, of a name that none before it has
pub record ItemFits (size : ℕ) (p : Params) (before : List Item) (i : Item) : Type 0 where
  pub is : IsSizedItem size p i
  pub once : has_item i.name before ≡ false

item_takes : (size : ℕ) (p : Params) → Accepts p → (before : List Item) (file : List ℕ) (at : ℕ) (x : Item × ℕ) → IsBytes file → item_at size p before file at ≡ Ok x → Stands file at (item_bytes x.0) x.1 × ItemFits size p before x.0
unfolding item_at
item_takes size p accepted before file at x fits e =
    let a = bind_ok (name_at (is_taken before) file at) (after_name size p file) x e in
    let name = a.0.0 in
    let t0 = name_takes (is_taken before) file at a.0 fits a.1 in
    let b = bind_ok (form_at p.message_bits file a.0.1) (after_form size p file name) x a.2 in
    let form = b.0.0 in
    let t1 = form_takes p.message_bits file a.0.1 b.0 fits b.1 in
    let count = block_count form.0 p.message_bits form.1 in
    let c = bind_ok (blocks_at size p form.0 count [] file b.0.1) (λ blocks. Ok (item_of name form blocks.0, blocks.1)) x b.2 in
    let t2 = many_takes (λ before. block_at size p form.0) block_bytes (BlockFits size p form.0) (block_tells size p form.0 accepted) count [] file b.0.1 c.0 fits t1.there.within c.1 in
    let each = each_of_turn (BlockFits size p form.0) (IsSizedBlock size p form.0) (λ before b is. is) [] t2.more t2.fits in
    let blocks-are : t2.more ≡ c.0.0 = sym t2.value in
    let blocks : Stands file b.0.1 (flat_map block_bytes c.0.0) c.0.1 = subst (λ (bs : List Block). Stands file b.0.1 (flat_map block_bytes bs) c.0.1) blocks-are t2.there in
    let value : Item × ℕ = (item_of name form c.0.0, c.0.1) in
    subst (λ (y : Item × ℕ). Stands file at (item_bytes y.0) y.1 × ItemFits size p before y.0) (ok_is value x c.2) (
      subst (λ (text : List ℕ). Stands file at text c.0.1) (sym (item_bytes-are (item_of name form c.0.0)))
          (Stands-then file at (length name ∷ name) a.0.1 (kind_code form.0 ∷ form.1 ∷ flat_map block_bytes c.0.0) c.0.1 t0.there
          (Stands-then file a.0.1 (kind_code form.0 ∷ form.1 ∷ []) b.0.1 (flat_map block_bytes c.0.0) c.0.1 t1.there blocks)),
      record {
        is = record {
          name = t0.name;
          form = t1.form;
          count = subst (λ (bs : List Block). length bs ≡ count) blocks-are t2.count-is;
          blocks = subst (AllByRecursion (IsSizedBlock size p form.0)) blocks-are each;
        };
        once = t0.once;
      },
    )

item_again : (size : ℕ) (p : Params) → Accepts p → (before : List Item) (file : List ℕ) (at : ℕ) (i : Item) (after : ℕ) → ItemFits size p before i → Stands file at (item_bytes i) after → item_at size p before file at ≡ Ok (i, after)
unfolding item_at
item_again size p accepted before file at i after h there =
    let head = length i.name ∷ i.name in
    let blocks = flat_map block_bytes i.blocks in
    let tail = kind_code i.kind ∷ i.bits ∷ blocks in
    let spelled : Stands file at (head ++ tail) after = subst (λ (text : List ℕ). Stands file at text after) (item_bytes-are i) there in
    let name = Stands-first file at head tail after spelled in
    let rest = Stands-second file at head tail after spelled in
    let place = at + length head in
    let form = Stands-first file place (kind_code i.kind ∷ i.bits ∷ []) blocks after rest in
    let last = Stands-second file place (kind_code i.kind ∷ i.bits ∷ []) blocks after rest in
    let each = turn_of_each (IsSizedBlock size p i.kind) (BlockFits size p i.kind) (λ before b is. is) [] i.blocks h.is.blocks in
    let read = many_again (λ before. block_at size p i.kind) block_bytes (BlockFits size p i.kind) (block_tells size p i.kind accepted) i.blocks [] file (place + 2) after each last in
    ap (λ (r : Result (List ℕ × ℕ) CodecFault). r >>= after_name size p file) (name_again (is_taken before) file at i.name place h.is.name h.once name)
    ∙ ap (λ (r : Result ((Kind × ℕ) × ℕ) CodecFault). r >>= after_form size p file i.name) (form_again p.message_bits file place i.kind i.bits (place + 2) h.is.form form)
    ∙ ap (λ (r : Result (List Block × ℕ) CodecFault). r >>= λ bs. Ok (item_of i.name (i.kind, i.bits) bs.0, bs.1))
    (ap (λ (n : ℕ). blocks_at size p i.kind n [] file (place + 2)) (sym h.is.count) ∙ read)

pub item_tells : (size : ℕ) (p : Params) → Accepts p → Tells (item_at size p) item_bytes (ItemFits size p)
item_tells size p accepted = record { takes = item_takes size p accepted; again = item_again size p accepted }
