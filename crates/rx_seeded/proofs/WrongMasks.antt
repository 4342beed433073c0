-- A cipher whose masks a seed draws has no wrong one, and the other way round.
use Rattle.std.proofs.Common.{◌≡◌, ℕ, suc, ◌+◌, ◌*◌, ◌<◌, ◌≤◌, refl, sym, ◌∙◌, ap, subst, arith, List, [], ◌∷◌, ◌++◌, length, get_or, map, drop, false, Option, Some, None}
use Rattle.std.specs.Option.{option_or, is_some}
use Rattle.std.specs.List.{flat_map, AllByRecursion}
use Rattle.std.proofs.Math.Nat.{mul-le-mul}
use Rattle.std.proofs.lemmas.List.{length-append, length-drop, drop_more, drop_all}
use Rattle.std.proofs.lemmas.List.Elements.{All-from_recursion, All-get_or}
use Rattle.rx_params.specs.declared.params.Params.{Params}
use Rattle.rx_params.specs.declared.kind.Kind.{Kind}
use Rattle.rx_params.specs.Derived.{large_dim}
use Rattle.rx_lwe.specs.Seeded.{drawn_words}
use Rattle.rx_lwe.proofs.SeededRows.{drawn_words-length}
use Rattle.rx_block.specs.declared.block.Block.{Block}
use Rattle.rx_codec.specs.declared.cipher.Item.{Item}
use Rattle.rx_codec.specs.CipherFile.{block_bytes, item_bytes, IsBlock, IsWritableItem}
use Rattle.rx_params.specs.Acceptance.{FieldsInRange}
use Rattle.rx_codec.specs.WordFields.{word_bytes}
use Rattle.rx_codec.specs.NamedFields.{kind_code, named_bytes}
use Rattle.rx_codec.proofs.Words.{length-word_bytes}
use Rattle.rx_seeded.specs.Masks.{first_unlike}
use Rattle.rx_seeded.specs.SeededCipher.{HasWords, short_block, short_item, block_masks, full_block, full_blocks, full_items, wrong_in_blocks, wrong_in_items}
use Rattle.rx_seeded.proofs.Unlike.{unlike-same, unlike-none}
use Rattle.rx_seeded.proofs.Filled.{few_blocks}

abbrev redrawn_block : Params → List ℕ → ℕ → Block → Block
redrawn_block p mask_seed number b = full_block p mask_seed number (short_block p b)

pub or_none : {A : Type 0} (first second : Option A) → option_or first second ≡ None → (first ≡ None) × (second ≡ None)
or_none (Some x) second e = absurd cc
or_none None second e = (refl, e)

pub redrawn-length : (p : Params) (mask_seed : List ℕ) (number : ℕ) (kind : Kind) (b : Block) → IsBlock p kind b →
    length b.words ≡ length (redrawn_block p mask_seed number b).words
redrawn-length p mask_seed number kind b is =
    let masks : List ℕ = drawn_words (large_dim p) (block_masks mask_seed number) in
    omega (
      arith,
      is.size,
      length-append masks (drop (large_dim p) b.words),
      length-drop (large_dim p) b.words,
      drawn_words-length (large_dim p) (block_masks mask_seed number),
    )

abbrev block_of : Block → List ℕ → Block
block_of b words = record { words = words; degree = b.degree; noise = b.noise }

-- ---- no wrong mask: all are drawn

blocks-drawn : (p : Params) (mask_seed : List ℕ) (number at : ℕ) (kind : Kind) (blocks : List Block) →
    AllByRecursion (IsBlock p kind) blocks → wrong_in_blocks p mask_seed number at blocks ≡ None →
    full_blocks p mask_seed number (map (short_block p) blocks) ≡ blocks
blocks-drawn p mask_seed number at kind [] each none = refl
blocks-drawn p mask_seed number at kind (b ∷ blocks) each none =
    let parts = or_none (first_unlike (at + 2) b.words (redrawn_block p mask_seed number b).words)
    (wrong_in_blocks p mask_seed (number + 1) (at + length (block_bytes b)) blocks) none in
    let same : b.words ≡ (redrawn_block p mask_seed number b).words =
    unlike-none (at + 2) b.words (redrawn_block p mask_seed number b).words (redrawn-length p mask_seed number kind b each.0) parts.0 in
    ap (λ ws. block_of b ws ∷ full_blocks p mask_seed (number + 1) (map (short_block p) blocks)) (sym same)
    ∙ ap (λ bs. b ∷ bs) (blocks-drawn p mask_seed (number + 1) (at + length (block_bytes b)) kind blocks each.1 parts.1)

short-length : (p : Params) (blocks : List Block) → length (map (short_block p) blocks) ≡ length blocks
short-length p [] = refl
short-length p (b ∷ blocks) = ap suc (short-length p blocks)

abbrev item_with : Item → List Block → Item
item_with i blocks = record { name = i.name; kind = i.kind; bits = i.bits; blocks = blocks }

pub items-drawn : (p : Params) (mask_seed : List ℕ) (number at : ℕ) (items : List Item) →
    AllByRecursion (IsWritableItem p) items → wrong_in_items p mask_seed number at items ≡ None →
    full_items p mask_seed number (map (short_item p) items) ≡ items
items-drawn p mask_seed number at [] each none = refl
items-drawn p mask_seed number at (i ∷ items) each none =
    let start : ℕ = at + length (named_bytes i.name i.kind i.bits) in
    let next : ℕ = at + length (item_bytes i) in
    let parts = or_none (wrong_in_blocks p mask_seed number start i.blocks)
    (wrong_in_items p mask_seed (number + length i.blocks) next items) none in
    ap (λ bs. item_with i bs ∷ full_items p mask_seed (number + length (map (short_block p) i.blocks)) (map (short_item p) items))
    (blocks-drawn p mask_seed number start i.kind i.blocks each.0.blocks parts.0)
    ∙ ap (λ n. i ∷ full_items p mask_seed (number + n) (map (short_item p) items)) (short-length p i.blocks)
    ∙ ap (λ is. i ∷ is) (items-drawn p mask_seed (number + length i.blocks) next items each.1 parts.1)

-- ---- all are drawn: none is wrong

-- the words that two lists of blocks begin with
abbrev head_of : List Block → List ℕ
head_of [] = []
head_of (b ∷ blocks) = b.words

abbrev tail_of : List Block → List Block
tail_of [] = []
tail_of (b ∷ blocks) = blocks

pub blocks-right : (p : Params) (mask_seed : List ℕ) (number at : ℕ) (blocks : List Block) →
    full_blocks p mask_seed number (map (short_block p) blocks) ≡ blocks → wrong_in_blocks p mask_seed number at blocks ≡ None
blocks-right p mask_seed number at [] drawn = refl
blocks-right p mask_seed number at (b ∷ blocks) drawn =
    let same : (redrawn_block p mask_seed number b).words ≡ b.words = ap head_of drawn in
    let right : first_unlike (at + 2) b.words (redrawn_block p mask_seed number b).words ≡ None =
    ap (first_unlike (at + 2) b.words) same ∙ unlike-same (at + 2) b.words in
    ap (λ w. option_or w (wrong_in_blocks p mask_seed (number + 1) (at + length (block_bytes b)) blocks)) right
    ∙ blocks-right p mask_seed (number + 1) (at + length (block_bytes b)) blocks (ap tail_of drawn)

abbrev blocks_of : List Item → List Block
blocks_of [] = []
blocks_of (i ∷ items) = i.blocks

abbrev rest_of : List Item → List Item
rest_of [] = []
rest_of (i ∷ items) = items

pub items-right : (p : Params) (mask_seed : List ℕ) (number at : ℕ) (items : List Item) →
    full_items p mask_seed number (map (short_item p) items) ≡ items → wrong_in_items p mask_seed number at items ≡ None
items-right p mask_seed number at [] drawn = refl
items-right p mask_seed number at (i ∷ items) drawn =
    let start : ℕ = at + length (named_bytes i.name i.kind i.bits) in
    let next : ℕ = at + length (item_bytes i) in
    let rest : full_items p mask_seed (number + length i.blocks) (map (short_item p) items) ≡ items =
    ap (λ n. full_items p mask_seed (number + n) (map (short_item p) items)) (sym (short-length p i.blocks)) ∙ ap rest_of drawn in
    ap (λ w. option_or w (wrong_in_items p mask_seed (number + length i.blocks) next items))
    (blocks-right p mask_seed number start i.blocks (ap blocks_of drawn))
    ∙ items-right p mask_seed (number + length i.blocks) next items rest

pub none_of : {A : Type 0} (first : Option A) → is_some first ≡ false → first ≡ None
none_of (Some x) e = absurd cc
none_of None e = refl

-- ---- as far as a loop over blocks, or over items, has come

last_word : (words : List ℕ) (n : ℕ) → length words ≡ n + 1 → drop n words ≡ get_or words n 0 ∷ []
last_word words n count =
    drop_more words n 0 (omega (arith, count)) ∙ ap (λ rest. get_or words n 0 ∷ rest) (drop_all (n + 1) words (omega (arith, count)))

block-width : (b : Block) (n : ℕ) → HasWords n b → length (block_bytes b) ≡ 2 + 8 * n
block-width b n count =
    let words : length (word_bytes b.words) ≡ 8 * n = length-word_bytes b.words ∙ ap (λ k. 8 * k) count in
    omega (arith, words)

pub blocks-width : (blocks : List Block) (n : ℕ) → AllByRecursion (HasWords n) blocks →
    length (flat_map block_bytes blocks) ≡ (2 + 8 * n) * length blocks
blocks-width [] n each = omega arith
blocks-width (b ∷ blocks) n each =
    length-append (block_bytes b) (flat_map block_bytes blocks)
    ∙ omega (arith, block-width b n each.0, blocks-width blocks n each.1)

pub blocks-step : (p : Params) (mask_seed : List ℕ) (number at width i : ℕ) (blocks : List Block) (b : Block) (words room : List ℕ)
    (total : Option ℕ) → i < length blocks → b ≡ get_or blocks i b → words ≡ b.words → AllByRecursion (HasWords (large_dim p + 1)) blocks →
    width ≡ 2 + 8 * (large_dim p + 1) →
    room ≡ drawn_words (large_dim p) (block_masks mask_seed (number + i)) ++ get_or words (large_dim p) 0 ∷ [] →
    wrong_in_blocks p mask_seed (number + i) (at + width * i) (drop i blocks) ≡ total →
    option_or (first_unlike (at + width * i + 2) words room)
    (wrong_in_blocks p mask_seed (number + (i + 1)) (at + width * (i + 1)) (drop (i + 1) blocks)) ≡ total
blocks-step p mask_seed number at width i blocks b words room total low is are each wide drawn so_far =
    let rest : List Block = drop (i + 1) blocks in
    let here : drop i blocks ≡ b ∷ rest = drop_more blocks i b low ∙ ap (λ x. x ∷ rest) (sym is) in
    let has : HasWords (large_dim p + 1) b =
    subst (HasWords (large_dim p + 1)) (sym is)
    (All-get_or (HasWords (large_dim p + 1)) blocks i b low (All-from_recursion (HasWords (large_dim p + 1)) blocks each)) in
    let masks : List ℕ = drawn_words (large_dim p) (block_masks mask_seed (number + i)) in
    let redrawn : room ≡ (redrawn_block p mask_seed (number + i) b).words =
    drawn ∙ ap (λ ws. masks ++ get_or ws (large_dim p) 0 ∷ []) are ∙ ap (λ ys. masks ++ ys) (sym (last_word b.words (large_dim p) has)) in
    let place : at + width * (i + 1) ≡ at + width * i + length (block_bytes b) = omega (arith, wide, block-width b (large_dim p + 1) has) in
    let next : number + (i + 1) ≡ number + i + 1 = omega arith in
    ap (λ ws. option_or (first_unlike (at + width * i + 2) ws room) (wrong_in_blocks p mask_seed (number + (i + 1)) (at + width * (i + 1)) rest)) are
    ∙ ap (λ ws. option_or (first_unlike (at + width * i + 2) b.words ws) (wrong_in_blocks p mask_seed (number + (i + 1)) (at + width * (i + 1)) rest)) redrawn
    ∙ ap (λ k. option_or (first_unlike (at + width * i + 2) b.words (redrawn_block p mask_seed (number + i) b).words)
    (wrong_in_blocks p mask_seed k (at + width * (i + 1)) rest)) next
    ∙ ap (λ k. option_or (first_unlike (at + width * i + 2) b.words (redrawn_block p mask_seed (number + i) b).words)
    (wrong_in_blocks p mask_seed (number + i + 1) k rest)) place
    ∙ ap (wrong_in_blocks p mask_seed (number + i) (at + width * i)) (sym here)
    ∙ so_far

named-width : (i : Item) → length (named_bytes i.name i.kind i.bits) ≡ length i.name + 3
named-width i = omega (arith, length-append i.name (kind_code i.kind ∷ i.bits ∷ []))

words_of_blocks : (p : Params) (kind : Kind) (blocks : List Block) → AllByRecursion (IsBlock p kind) blocks →
    AllByRecursion (HasWords (large_dim p + 1)) blocks
words_of_blocks p kind [] each = tt
words_of_blocks p kind (b ∷ blocks) each = (each.0.size, words_of_blocks p kind blocks each.1)

-- an item of a list that may be written
pub record WritableAt (p : Params) (items : List Item) (n : ℕ) (i : Item) : Type 0 where
  pub words : AllByRecursion (HasWords (large_dim p + 1)) i.blocks
  pub few : length i.blocks ≤ 64
  pub rest : drop n items ≡ i ∷ drop (n + 1) items

pub writable_at : (p : Params) (items : List Item) (n : ℕ) (i : Item) → FieldsInRange p → AllByRecursion (IsWritableItem p) items →
    n < length items → i ≡ get_or items n i → WritableAt p items n i
writable_at p items n i fields each low is =
    let one : IsWritableItem p i =
    subst (IsWritableItem p) (sym is) (All-get_or (IsWritableItem p) items n i low (All-from_recursion (IsWritableItem p) items each)) in
    record {
      words = words_of_blocks p i.kind i.blocks one.blocks;
      few = few_blocks p i.kind i.bits (length i.blocks) fields.message_bits one.form one.count;
      rest = drop_more items n i low ∙ ap (λ x. x ∷ drop (n + 1) items) (sym is);
    }

pub items-step : (p : Params) (mask_seed : List ℕ) (number place width size n : ℕ) (items : List Item) (i : Item) (blocks : List Block)
    (total : Option ℕ) → WritableAt p items n i → blocks ≡ i.blocks → size ≡ length i.name → width ≡ 2 + 8 * (large_dim p + 1) →
    wrong_in_items p mask_seed number place (drop n items) ≡ total →
    option_or (wrong_in_blocks p mask_seed number (place + size + 3) blocks)
    (wrong_in_items p mask_seed (number + length blocks) (place + size + 3 + width * length blocks) (drop (n + 1) items)) ≡ total
items-step p mask_seed number place width size n items i blocks total at are named wide so_far =
    let rest : List Item = drop (n + 1) items in
    let start : place + size + 3 ≡ place + length (named_bytes i.name i.kind i.bits) = omega (arith, named, named-width i) in
    let all : length (flat_map block_bytes i.blocks) ≡ width * length i.blocks =
    blocks-width i.blocks (large_dim p + 1) at.words ∙ ap (λ k. k * length i.blocks) (sym wide) in
    let next : place + size + 3 + width * length i.blocks ≡ place + length (item_bytes i) =
    omega (arith, all, named, named-width i, length-append (named_bytes i.name i.kind i.bits) (flat_map block_bytes i.blocks)) in
    ap (λ bs. option_or (wrong_in_blocks p mask_seed number (place + size + 3) bs)
    (wrong_in_items p mask_seed (number + length bs) (place + size + 3 + width * length bs) rest)) are
    ∙ ap (λ k. option_or (wrong_in_blocks p mask_seed number k i.blocks)
    (wrong_in_items p mask_seed (number + length i.blocks) (place + size + 3 + width * length i.blocks) rest)) start
    ∙ ap (λ k. option_or (wrong_in_blocks p mask_seed number (place + length (named_bytes i.name i.kind i.bits)) i.blocks)
    (wrong_in_items p mask_seed (number + length i.blocks) k rest)) next
    ∙ ap (wrong_in_items p mask_seed number place) (sym at.rest)
    ∙ so_far

-- all blocks of an item have few bytes
pub few_bytes : (width n : ℕ) → width ≤ 131082 → n ≤ 64 → width * n ≤ 8389248
few_bytes width n wide few = mul-le-mul wide few
