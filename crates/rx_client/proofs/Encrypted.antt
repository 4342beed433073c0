-- The encryption of some lines: it has a spelling as a file, and each of its blocks keeps its digit.
use Rattle.std.proofs.Common.{◌≡◌, ◌⊎◌, inl, inr, ℕ, zero, suc, get_or, ◌+◌, ◌-◌, ◌*◌, ◌/◌, ◌%◌, ◌^◌, ◌<◌, ◌≤◌, refl, sym, ◌∙◌, ap, arith, subst, Bool, true, false, ◌||◌, IsTrue, List, [], ◌∷◌, ◌++◌, map, drop, length, Option, None, Some, if◌then◌else◌}
use Rattle.std.specs.List.{flat_map, AllByRecursion, range_with_len}
use Rattle.std.specs.Str.{bytes_eq}
use Rattle.std.proofs.lemmas.Bool.Decides.{nat_tests}
use Rattle.std.proofs.lemmas.List.{length-map}
use Rattle.std.proofs.lemmas.List.FromFn.{length-map-range_with_len}
use Rattle.rx_laws.specs.Decode.{unit}
use Rattle.rx_laws.proofs.Words.{words_below-fit}
use Rattle.rx_torus.specs.Streams.{Draws, stream_of}
use Rattle.rx_torus.specs.Kinds.{stream_number}
use Rattle.rx_torus.specs.declared.kind.StreamKind.TheVariants.{BlockMask, BlockNoise}
use Rattle.rx_params.specs.declared.params.Params.{Params}
use Rattle.rx_params.specs.declared.kind.Kind.{Kind}
use Rattle.rx_params.specs.declared.kind.Kind.TheVariants.{Int, Bit}
use Rattle.rx_params.specs.Acceptance.{Accepts, FieldsInRange}
use Rattle.rx_params.specs.Derived.{large_dim}
use Rattle.rx_params.specs.Kinds.{greatest, block_count, is_form, digit_at}
use Rattle.rx_lwe.specs.Lwe.{encrypted}
use Rattle.rx_lwe.specs.Seeded.{drawn_words}
use Rattle.rx_lwe.proofs.Made.{encrypted-length}
use Rattle.rx_lwe.proofs.SeededSwitch.{encrypted-split}
use Rattle.rx_seeded.specs.SeededCipher.{short_block, short_item, full_block, full_blocks, full_items, redrawn_items, seeded_cipher_head, seeded_cipher_bytes}
use Rattle.rx_block.specs.declared.block.Block.{Block}
use Rattle.rx_block.specs.Fresh.{fresh}
use Rattle.rx_block.proofs.FreshBlocks.{fresh-keeps}
use Rattle.rx_circuit.specs.declared.values.ValueLine.{ValueLine}
use Rattle.rx_circuit.specs.Values.{is_width, has_name, IsValueLine, NamesOnce, AreValues}
use Rattle.rx_codec.specs.declared.cipher.Item.{Item}
use Rattle.rx_codec.specs.CipherFile.{has_item, item_bytes, IsBlock, IsItem, ItemsOnce, IsCipher}
use Rattle.rx_client.specs.Encrypt.{blocks_in, line_block, line_blocks, line_item, items_from, encrypted_values, is_filled, has_width, first_width, KeepsDigits, KeepsValues}

-- ---- one block

encrypted-words : (key : List ℕ) (mask noise : Draws) (bound message i : ℕ) → i < length (encrypted key mask noise bound message) →
    get_or (encrypted key mask noise bound message) i 0 < 2 ^ 64
unfolding encrypted
encrypted-words key mask noise bound message i low =
    words_below-fit (length key + 1) _ i (omega (arith, low, encrypted-length key mask noise bound message))

fresh-fits : (p : Params) (key mask_seed noise_seed : List ℕ) (number : ℕ) (kind : Kind) (x : ℕ) → length key ≡ large_dim p →
    IsBlock p kind (fresh p key mask_seed noise_seed number kind x)
unfolding fresh
fresh-fits p key mask_seed noise_seed number kind x size =
    let mask : Draws = stream_of mask_seed (stream_number BlockMask number) in
    let noise : Draws = stream_of noise_seed (stream_number BlockNoise number) in
    record {
      degree = omega arith;
      noise_low = omega arith;
      noise_high = omega arith;
      size = encrypted-length key mask noise p.glwe_bound (unit p.message_bits * x) ∙ ap (λ d. d + 1) size;
      words = λ i low. encrypted-words key mask noise p.glwe_bound (unit p.message_bits * x) i low;
    }

-- ---- the blocks of a line

mapped : {X : Type 0} (P : X → Type 0) (f : ℕ → X) → ((i : ℕ) → P (f i)) → (is : List ℕ) → AllByRecursion P (map f is)
mapped P f each [] = tt
mapped P f each (i ∷ is) = (each i, mapped P f each is)

digits_keep : (p : Params) (key mask_seed noise_seed : List ℕ) (number : ℕ) (kind : Kind) (value start count : ℕ) → FieldsInRange p →
    ((i : ℕ) → i < start + count → digit_at p.message_bits value i ≤ greatest kind p.message_bits) →
    KeepsDigits p key
    (map (λ i. fresh p key mask_seed noise_seed (number + i) kind (digit_at p.message_bits value i)) (range_with_len start count)) value start
digits_keep p key mask_seed noise_seed number kind value start zero fields small = tt
digits_keep p key mask_seed noise_seed number kind value start (suc count) fields small = (
  fresh-keeps p key mask_seed noise_seed (number + start) kind (digit_at p.message_bits value start) fields (small start (omega arith)),
  digits_keep p key mask_seed noise_seed number kind value (start + 1) count fields (λ i low. small i (omega arith)),
)

digit-int : (m value i : ℕ) → (m ≡ 2) ⊎ (m ≡ 3) → digit_at m value i ≤ greatest Int m
digit-int m value i (inl two) = let P : ℕ → Type 0 = λ k. value / 2 ^ (k * i) % 2 ^ k ≤ 2 ^ k - 1 in subst P (sym two) (omega arith)
digit-int m value i (inr three) = let P : ℕ → Type 0 = λ k. value / 2 ^ (k * i) % 2 ^ k ≤ 2 ^ k - 1 in subst P (sym three) (omega arith)

digit-bit : (m value : ℕ) → (m ≡ 2) ⊎ (m ≡ 3) → value < 2 → digit_at m value 0 ≤ 1
digit-bit m value (inl two) below = let P : ℕ → Type 0 = λ k. value / 2 ^ (k * 0) % 2 ^ k ≤ 1 in subst P (sym two) (omega arith)
digit-bit m value (inr three) below = let P : ℕ → Type 0 = λ k. value / 2 ^ (k * 0) % 2 ^ k ≤ 1 in subst P (sym three) (omega arith)

pub digit-small : (m bits value i : ℕ) (kind : Kind) → (m ≡ 2) ⊎ (m ≡ 3) → IsTrue (is_width kind bits) → value < 2 ^ bits →
    i < block_count kind m bits → digit_at m value i ≤ greatest kind m
digit-small m bits value i Int fields width below low = digit-int m value i fields
digit-small m bits value i Bit fields width below low =
    let first : i ≡ 0 = omega arith in
    let one : bits ≡ 1 = grind (arith, nat_tests) in
    let small : value < 2 = let P : ℕ → Type 0 = λ b. value < 2 ^ b in subst P one below in
    let P : ℕ → Type 0 = λ k. digit_at m value k ≤ 1 in subst P (sym first) (digit-bit m value fields small)

line_keeps : (p : Params) (key mask_seed noise_seed : List ℕ) (number : ℕ) (v : ValueLine) → FieldsInRange p → IsValueLine v →
    KeepsDigits p key (line_blocks p key mask_seed noise_seed number v) v.value 0
line_keeps p key mask_seed noise_seed number v fields is =
    digits_keep p key mask_seed noise_seed number v.kind v.value 0 (blocks_in p v) fields
    (λ i low. digit-small p.message_bits v.bits v.value i v.kind fields.message_bits is.width is.value (omega (arith, low)))

form_of : (m bits : ℕ) (kind : Kind) → (m ≡ 2) ⊎ (m ≡ 3) → IsTrue (is_width kind bits) → is_filled m kind bits ≡ true → IsTrue (is_form m kind bits)
form_of m bits Int (inl two) width filled = grind (arith, nat_tests)
form_of m bits Int (inr three) width filled = grind (arith, nat_tests)
form_of m bits Bit fields width filled = width

line_fits : (p : Params) (key mask_seed noise_seed : List ℕ) (number : ℕ) (v : ValueLine) → FieldsInRange p → length key ≡ large_dim p →
    IsValueLine v → has_width p.message_bits v ≡ true → IsItem p (line_item p key mask_seed noise_seed number v)
line_fits p key mask_seed noise_seed number v fields size is filled =
    let f : ℕ → Block = λ i. fresh p key mask_seed noise_seed (number + i) v.kind (digit_at p.message_bits v.value i) in
    record {
      name = is.name;
      form = form_of p.message_bits v.bits v.kind fields.message_bits is.width filled;
      count = length-map-range_with_len f 0 (blocks_in p v);
      blocks = mapped (IsBlock p v.kind) f
          (λ i. fresh-fits p key mask_seed noise_seed (number + i) v.kind (digit_at p.message_bits v.value i) size)
          (range_with_len 0 (blocks_in p v));
    }

-- ---- the items of all lines

pub items_keep : (p : Params) (key mask_seed noise_seed : List ℕ) (number : ℕ) (lines : List ValueLine) → FieldsInRange p →
    AllByRecursion IsValueLine lines → KeepsValues p key (items_from p key mask_seed noise_seed number lines) lines
items_keep p key mask_seed noise_seed number [] fields each = tt
items_keep p key mask_seed noise_seed number (v ∷ lines) fields each = (
  refl,
  line_keeps p key mask_seed noise_seed number v fields each.0,
  items_keep p key mask_seed noise_seed (number + blocks_in p v) lines fields each.1,
)

items_count : (p : Params) (key mask_seed noise_seed : List ℕ) (number : ℕ) (lines : List ValueLine) →
    length (items_from p key mask_seed noise_seed number lines) ≡ length lines
items_count p key mask_seed noise_seed number [] = refl
items_count p key mask_seed noise_seed number (v ∷ lines) =
    ap suc (items_count p key mask_seed noise_seed (number + blocks_in p v) lines)

-- the widths of the first line and of those after it are right
widths : (b : Bool) (v : ValueLine) (later : Option ValueLine) → (if b then later else Some v) ≡ None → (b ≡ true) × (later ≡ None)
widths true v later none = (refl, none)
widths false v later none = absurd (cc)

items_fit : (p : Params) (key mask_seed noise_seed : List ℕ) (number : ℕ) (lines : List ValueLine) → FieldsInRange p →
    length key ≡ large_dim p → AllByRecursion IsValueLine lines → first_width p.message_bits lines ≡ None →
    AllByRecursion (IsItem p) (items_from p key mask_seed noise_seed number lines)
items_fit p key mask_seed noise_seed number [] fields size each right = tt
items_fit p key mask_seed noise_seed number (v ∷ lines) fields size each right =
    let all : (has_width p.message_bits v ≡ true) × (first_width p.message_bits lines ≡ None) =
    widths (has_width p.message_bits v) v (first_width p.message_bits lines) right in (
      line_fits p key mask_seed noise_seed number v fields size each.0 all.0,
      items_fit p key mask_seed noise_seed (number + blocks_in p v) lines fields size each.1 all.1,
    )

same_names : (p : Params) (key mask_seed noise_seed name : List ℕ) (number : ℕ) (lines : List ValueLine) →
    has_item name (items_from p key mask_seed noise_seed number lines) ≡ has_name name lines
same_names p key mask_seed noise_seed name number [] = refl
same_names p key mask_seed noise_seed name number (v ∷ lines) =
    ap (λ later. bytes_eq v.name name || later) (same_names p key mask_seed noise_seed name (number + blocks_in p v) lines)

items_once : (p : Params) (key mask_seed noise_seed : List ℕ) (number : ℕ) (lines : List ValueLine) → NamesOnce lines →
    ItemsOnce (items_from p key mask_seed noise_seed number lines)
items_once p key mask_seed noise_seed number [] once = tt
items_once p key mask_seed noise_seed number (v ∷ lines) once = (
  same_names p key mask_seed noise_seed v.name (number + blocks_in p v) lines ∙ once.0,
  items_once p key mask_seed noise_seed (number + blocks_in p v) lines once.1,
)

pub values_fit : (p : Params) (key mask_seed noise_seed : List ℕ) (lines : List ValueLine) → Accepts p → length key ≡ large_dim p →
    AreValues lines → first_width p.message_bits lines ≡ None → IsCipher (encrypted_values p key mask_seed noise_seed lines)
unfolding encrypted_values
values_fit p key mask_seed noise_seed lines accepted size are right = record {
  accepted = accepted;
  count = rw (items_count p key mask_seed noise_seed 0 lines) are.count;
  items = items_fit p key mask_seed noise_seed 0 lines accepted.fields size are.each right;
  once = items_once p key mask_seed noise_seed 0 lines are.once;
}

pub values_keep : (p : Params) (key mask_seed noise_seed : List ℕ) (lines : List ValueLine) → FieldsInRange p → AreValues lines →
    KeepsValues p key (encrypted_values p key mask_seed noise_seed lines).items lines
unfolding encrypted_values
values_keep p key mask_seed noise_seed lines fields are = items_keep p key mask_seed noise_seed 0 lines fields are.each

-- the head of the file and all items behind it are the whole
pub values_spelled : (p : Params) (key mask_seed noise_seed : List ℕ) (lines : List ValueLine) (head file : List ℕ) →
    head ≡ seeded_cipher_head p mask_seed (length lines) →
    file ≡ head ++ flat_map item_bytes (map (short_item p) (items_from p key mask_seed noise_seed 0 lines)) →
    file ≡ seeded_cipher_bytes mask_seed (encrypted_values p key mask_seed noise_seed lines)
unfolding encrypted_values
values_spelled p key mask_seed noise_seed lines head file first whole =
    let items : List Item = items_from p key mask_seed noise_seed 0 lines in
    let short : List Item = map (short_item p) items in
    whole
    ∙ ap (λ text. text ++ flat_map item_bytes short) first
    ∙ ap (λ count. seeded_cipher_head p mask_seed count ++ flat_map item_bytes short) (sym (items_count p key mask_seed noise_seed 0 lines))

-- ---- the masks are those that the seed draws

abbrev block_of : Block → List ℕ → Block
block_of b words = record { words = words; degree = b.degree; noise = b.noise }

fresh-drawn : (p : Params) (key mask_seed noise_seed : List ℕ) (number : ℕ) (kind : Kind) (x : ℕ) → length key ≡ large_dim p →
    full_block p mask_seed number (short_block p (fresh p key mask_seed noise_seed number kind x))
    ≡ fresh p key mask_seed noise_seed number kind x
unfolding fresh
fresh-drawn p key mask_seed noise_seed number kind x size =
    let mask : Draws = stream_of mask_seed (stream_number BlockMask number) in
    let noise : Draws = stream_of noise_seed (stream_number BlockNoise number) in
    let message : ℕ = unit p.message_bits * x in
    let words : List ℕ = encrypted key mask noise p.glwe_bound message in
    let block : Block = record { words = words; degree = greatest kind p.message_bits; noise = 1 } in
    ap (λ n. block_of block (drawn_words n mask ++ drop n words)) (sym size)
    ∙ ap (block_of block) (sym (encrypted-split key mask noise p.glwe_bound message))

blocks_drawn : (p : Params) (key mask_seed noise_seed : List ℕ) (number : ℕ) (v : ValueLine) (start count : ℕ) → length key ≡ large_dim p →
    full_blocks p mask_seed (number + start)
    (map (short_block p) (map (line_block p key mask_seed noise_seed number v) (range_with_len start count)))
    ≡ map (line_block p key mask_seed noise_seed number v) (range_with_len start count)
blocks_drawn p key mask_seed noise_seed number v start zero size = refl
blocks_drawn p key mask_seed noise_seed number v start (suc count) size =
    let f : ℕ → Block = line_block p key mask_seed noise_seed number v in
    let later : List Block = map (short_block p) (map f (range_with_len (start + 1) count)) in
    let next : number + start + 1 ≡ number + (start + 1) = omega arith in
    ap (λ b. b ∷ full_blocks p mask_seed (number + start + 1) later)
    (fresh-drawn p key mask_seed noise_seed (number + start) v.kind (digit_at p.message_bits v.value start) size)
    ∙ ap (λ n. f start ∷ full_blocks p mask_seed n later) next
    ∙ ap (λ bs. f start ∷ bs) (blocks_drawn p key mask_seed noise_seed number v (start + 1) count size)

line_drawn : (p : Params) (key mask_seed noise_seed : List ℕ) (number : ℕ) (v : ValueLine) → length key ≡ large_dim p →
    full_blocks p mask_seed number (map (short_block p) (line_blocks p key mask_seed noise_seed number v))
    ≡ line_blocks p key mask_seed noise_seed number v
line_drawn p key mask_seed noise_seed number v size =
    let first : number ≡ number + 0 = omega arith in
    ap (λ n. full_blocks p mask_seed n (map (short_block p) (line_blocks p key mask_seed noise_seed number v))) first
    ∙ blocks_drawn p key mask_seed noise_seed number v 0 (blocks_in p v) size

short-count : (p : Params) (key mask_seed noise_seed : List ℕ) (number : ℕ) (v : ValueLine) →
    length (map (short_block p) (line_blocks p key mask_seed noise_seed number v)) ≡ blocks_in p v
short-count p key mask_seed noise_seed number v =
    length-map (line_blocks p key mask_seed noise_seed number v) (short_block p)
    ∙ length-map-range_with_len (line_block p key mask_seed noise_seed number v) 0 (blocks_in p v)

items_drawn : (p : Params) (key mask_seed noise_seed : List ℕ) (number : ℕ) (lines : List ValueLine) → length key ≡ large_dim p →
    full_items p mask_seed number (map (short_item p) (items_from p key mask_seed noise_seed number lines))
    ≡ items_from p key mask_seed noise_seed number lines
items_drawn p key mask_seed noise_seed number [] size = refl
items_drawn p key mask_seed noise_seed number (v ∷ lines) size =
    let item : List Block → Item = λ bs. record { name = v.name; kind = v.kind; bits = v.bits; blocks = bs } in
    let next : ℕ = number + blocks_in p v in
    let later : ℕ → List Item = λ n. map (short_item p) (items_from p key mask_seed noise_seed n lines) in
    ap (λ bs. item bs ∷ full_items p mask_seed
    (number + length (map (short_block p) (line_blocks p key mask_seed noise_seed number v))) (later next))
    (line_drawn p key mask_seed noise_seed number v size)
    ∙ ap (λ k. item (line_blocks p key mask_seed noise_seed number v) ∷ full_items p mask_seed (number + k) (later next))
    (short-count p key mask_seed noise_seed number v)
    ∙ ap (λ is. item (line_blocks p key mask_seed noise_seed number v) ∷ is) (items_drawn p key mask_seed noise_seed next lines size)

pub values_drawn : (p : Params) (key mask_seed noise_seed : List ℕ) (lines : List ValueLine) → length key ≡ large_dim p →
    redrawn_items (encrypted_values p key mask_seed noise_seed lines).params mask_seed
    (encrypted_values p key mask_seed noise_seed lines).items
    ≡ (encrypted_values p key mask_seed noise_seed lines).items
unfolding encrypted_values
values_drawn p key mask_seed noise_seed lines size = items_drawn p key mask_seed noise_seed 0 lines size

-- the items of the lines under the set are the encryption
pub values_are : (p : Params) (key mask_seed noise_seed : List ℕ) (lines : List ValueLine) (items : List Item) →
    items ≡ items_from p key mask_seed noise_seed 0 lines →
    record { params = p; items = items } ≡ encrypted_values p key mask_seed noise_seed lines
unfolding encrypted_values
values_are p key mask_seed noise_seed lines items are = ap (λ (all : List Item). record { params = p; items = all }) are

pub values_params : (p : Params) (key mask_seed noise_seed : List ℕ) (lines : List ValueLine) →
    (encrypted_values p key mask_seed noise_seed lines).params ≡ p
unfolding encrypted_values
values_params p key mask_seed noise_seed lines = refl
