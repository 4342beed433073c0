-- Items of bodies alone, and with the masks that a seed draws: the one gives the other back, and what each keeps to.
use Rattle.std.proofs.Common.{◌≡◌, ℕ, suc, ◌+◌, ◌*◌, ◌-◌, ◌<◌, ◌≤◌, ◌⊎◌, refl, ◌∙◌, ap, arith, inl, inr, ◌||◌, IsTrue, List, [], ◌∷◌, length, map}
use Rattle.std.specs.List.{AllByRecursion}
use Rattle.std.specs.Str.{bytes_eq}
use Rattle.std.proofs.lemmas.Bool.{cases_lt}
use Rattle.std.proofs.lemmas.Bool.Decides.{nat_tests}
use Rattle.std.proofs.lemmas.List.{length-append, length-drop, drop_at, get_or-drop, get_or_append_left, get_or-append_right}
use Rattle.rx_laws.proofs.Words.{words_below-fit}
use Rattle.rx_params.specs.declared.params.Params.{Params}
use Rattle.rx_params.specs.declared.kind.Kind.{Kind}
use Rattle.rx_params.specs.declared.kind.Kind.TheVariants.{Int, Bit}
use Rattle.rx_params.specs.Derived.{large_dim}
use Rattle.rx_params.specs.Acceptance.{FieldsInRange}
use Rattle.rx_boot.proofs.Sizes.{some_coefficients}
use Rattle.std.proofs.Math.Nat.{mul-le-mul_right}
use Rattle.rx_params.specs.Kinds.{block_count, is_form}
use Rattle.rx_lwe.specs.Seeded.{drawn_words}
use Rattle.rx_lwe.proofs.SeededRows.{drawn_words-length}
use Rattle.rx_block.specs.declared.block.Block.{Block}
use Rattle.rx_codec.specs.declared.cipher.Item.{Item}
use Rattle.rx_codec.specs.CipherFile.{has_item, IsBlock, IsSizedBlock, IsItem, IsSizedItem, ItemsOnce}
use Rattle.rx_seeded.specs.SeededCipher.{short_block, short_item, block_masks, full_block, full_blocks, full_items}

-- ---- a block

abbrev block_of : Block → List ℕ → Block
block_of b words = record { words = words; degree = b.degree; noise = b.noise }

pub short_full-block : (p : Params) (mask_seed : List ℕ) (number : ℕ) (b : Block) → short_block p (full_block p mask_seed number b) ≡ b
short_full-block p mask_seed number b =
    ap (block_of b) (drop_at (drawn_words (large_dim p) (block_masks mask_seed number)) b.words (large_dim p)
    (drawn_words-length (large_dim p) (block_masks mask_seed number)))

full_block-fits : (p : Params) (mask_seed : List ℕ) (number : ℕ) (kind : Kind) (b : Block) → IsSizedBlock 1 p kind b →
    IsBlock p kind (full_block p mask_seed number b)
full_block-fits p mask_seed number kind b is =
    let dim : ℕ = large_dim p in
    let masks : List ℕ = drawn_words dim (block_masks mask_seed number) in
    let count : length masks ≡ dim = drawn_words-length dim (block_masks mask_seed number) in
    record {
      degree = is.degree;
      noise_low = is.noise_low;
      noise_high = is.noise_high;
      size = length-append masks b.words ∙ omega (arith, count, is.size);
      words = λ i low. elim (cases_lt i dim) [
        | inl q ↦ rw (get_or_append_left masks b.words 0 i (omega (arith, q, count))) (words_below-fit dim _ i q)
        | inr q ↦
            rw (get_or-append_right masks b.words dim i 0 count q)
            (is.words (i - dim) (omega (arith, q, low, length-append masks b.words, count)))
      ];
    }

short_block-fits : (p : Params) (kind : Kind) (b : Block) → IsBlock p kind b → IsSizedBlock 1 p kind (short_block p b)
short_block-fits p kind b is = record {
  degree = is.degree;
  noise_low = is.noise_low;
  noise_high = is.noise_high;
  size = length-drop (large_dim p) b.words ∙ omega (arith, is.size);
  words = λ i low. rw (get_or-drop (large_dim p) b.words i 0)
      (is.words (large_dim p + i) (omega (arith, low, length-drop (large_dim p) b.words)));
}

-- ---- blocks

pub full_blocks-length : (p : Params) (mask_seed : List ℕ) (number : ℕ) (blocks : List Block) →
    length (full_blocks p mask_seed number blocks) ≡ length blocks
full_blocks-length p mask_seed number [] = refl
full_blocks-length p mask_seed number (b ∷ blocks) = ap suc (full_blocks-length p mask_seed (number + 1) blocks)

short_full-blocks : (p : Params) (mask_seed : List ℕ) (number : ℕ) (blocks : List Block) →
    map (short_block p) (full_blocks p mask_seed number blocks) ≡ blocks
short_full-blocks p mask_seed number [] = refl
short_full-blocks p mask_seed number (b ∷ blocks) =
    ap (λ c. c ∷ map (short_block p) (full_blocks p mask_seed (number + 1) blocks)) (short_full-block p mask_seed number b)
    ∙ ap (λ cs. b ∷ cs) (short_full-blocks p mask_seed (number + 1) blocks)

short-blocks-length : (p : Params) (blocks : List Block) → length (map (short_block p) blocks) ≡ length blocks
short-blocks-length p [] = refl
short-blocks-length p (b ∷ blocks) = ap suc (short-blocks-length p blocks)

full_blocks-fit : (p : Params) (mask_seed : List ℕ) (number : ℕ) (kind : Kind) (blocks : List Block) →
    AllByRecursion (IsSizedBlock 1 p kind) blocks → AllByRecursion (IsBlock p kind) (full_blocks p mask_seed number blocks)
full_blocks-fit p mask_seed number kind [] each = tt
full_blocks-fit p mask_seed number kind (b ∷ blocks) each =
    (full_block-fits p mask_seed number kind b each.0, full_blocks-fit p mask_seed (number + 1) kind blocks each.1)

short_blocks-fit : (p : Params) (kind : Kind) (blocks : List Block) → AllByRecursion (IsBlock p kind) blocks →
    AllByRecursion (IsSizedBlock 1 p kind) (map (short_block p) blocks)
short_blocks-fit p kind [] each = tt
short_blocks-fit p kind (b ∷ blocks) each = (short_block-fits p kind b each.0, short_blocks-fit p kind blocks each.1)

-- ---- items

abbrev item_with : Item → List Block → Item
item_with i blocks = record { name = i.name; kind = i.kind; bits = i.bits; blocks = blocks }

pub short_full-items : (p : Params) (mask_seed : List ℕ) (number : ℕ) (items : List Item) →
    map (short_item p) (full_items p mask_seed number items) ≡ items
short_full-items p mask_seed number [] = refl
short_full-items p mask_seed number (i ∷ items) =
    ap (λ bs. item_with i bs ∷ map (short_item p) (full_items p mask_seed (number + length i.blocks) items))
    (short_full-blocks p mask_seed number i.blocks)
    ∙ ap (λ js. i ∷ js) (short_full-items p mask_seed (number + length i.blocks) items)

pub full_items-length : (p : Params) (mask_seed : List ℕ) (number : ℕ) (items : List Item) →
    length (full_items p mask_seed number items) ≡ length items
full_items-length p mask_seed number [] = refl
full_items-length p mask_seed number (i ∷ items) = ap suc (full_items-length p mask_seed (number + length i.blocks) items)

pub short_items-length : (p : Params) (items : List Item) → length (map (short_item p) items) ≡ length items
short_items-length p [] = refl
short_items-length p (i ∷ items) = ap suc (short_items-length p items)

pub full_items-fit : (p : Params) (mask_seed : List ℕ) (number : ℕ) (items : List Item) → AllByRecursion (IsSizedItem 1 p) items →
    AllByRecursion (IsItem p) (full_items p mask_seed number items)
full_items-fit p mask_seed number [] each = tt
full_items-fit p mask_seed number (i ∷ items) each = (
  record {
    name = each.0.name;
    form = each.0.form;
    count = full_blocks-length p mask_seed number i.blocks ∙ each.0.count;
    blocks = full_blocks-fit p mask_seed number i.kind i.blocks each.0.blocks;
  },
  full_items-fit p mask_seed (number + length i.blocks) items each.1,
)

pub short_items-fit : (p : Params) (items : List Item) → AllByRecursion (IsItem p) items →
    AllByRecursion (IsSizedItem 1 p) (map (short_item p) items)
short_items-fit p [] each = tt
short_items-fit p (i ∷ items) each = (
  record {
    name = each.0.name;
    form = each.0.form;
    count = short-blocks-length p i.blocks ∙ each.0.count;
    blocks = short_blocks-fit p i.kind i.blocks each.0.blocks;
  },
  short_items-fit p items each.1,
)

-- names stay
full-names : (p : Params) (mask_seed name : List ℕ) (number : ℕ) (items : List Item) →
    has_item name (full_items p mask_seed number items) ≡ has_item name items
full-names p mask_seed name number [] = refl
full-names p mask_seed name number (i ∷ items) =
    ap (λ later. bytes_eq i.name name || later) (full-names p mask_seed name (number + length i.blocks) items)

short-names : (p : Params) (name : List ℕ) (items : List Item) → has_item name (map (short_item p) items) ≡ has_item name items
short-names p name [] = refl
short-names p name (i ∷ items) = ap (λ later. bytes_eq i.name name || later) (short-names p name items)

pub full_items-once : (p : Params) (mask_seed : List ℕ) (number : ℕ) (items : List Item) → ItemsOnce items →
    ItemsOnce (full_items p mask_seed number items)
full_items-once p mask_seed number [] once = tt
full_items-once p mask_seed number (i ∷ items) once = (
  full-names p mask_seed i.name (number + length i.blocks) items ∙ once.0,
  full_items-once p mask_seed (number + length i.blocks) items once.1,
)

pub short_items-once : (p : Params) (items : List Item) → ItemsOnce items → ItemsOnce (map (short_item p) items)
short_items-once p [] once = tt
short_items-once p (i ∷ items) once = (short-names p i.name items ∙ once.0, short_items-once p items once.1)

-- ---- few blocks

form_room : (m bits : ℕ) (kind : Kind) → (m ≡ 2) ⊎ (m ≡ 3) → IsTrue (is_form m kind bits) → block_count kind m bits ≤ 64
form_room m bits Int (inl two) form = grind (arith, nat_tests)
form_room m bits Int (inr three) form = grind (arith, nat_tests)
form_room m bits Bit fields form = omega arith

pub few_blocks : (p : Params) (kind : Kind) (bits count : ℕ) → (p.message_bits ≡ 2) ⊎ (p.message_bits ≡ 3) →
    IsTrue (is_form p.message_bits kind bits) → count ≡ block_count kind p.message_bits bits → count ≤ 64
few_blocks p kind bits count fields form is = rw is (form_room p.message_bits bits kind fields form)

-- a block has masks
pub some_masks : (p : Params) → FieldsInRange p → 0 < large_dim p
unfolding large_dim
some_masks p fields =
    let room : 1 * p.poly_size ≤ p.glwe_dim * p.poly_size = mul-le-mul_right p.poly_size fields.glwe_dim.0 in
    omega (arith, room, some_coefficients p fields)
