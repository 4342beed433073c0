-- The digits of lines: the items of encrypted lines keep them, and they make up the lines' numbers.
use Rattle.std.proofs.Common.{◌≡◌, ◌⊎◌, inl, inr, ℕ, zero, suc, ◌+◌, ◌*◌, ◌/◌, ◌%◌, ◌^◌, ◌<◌, ◌≤◌, sym, ◌∙◌, ap, arith, subst, true, IsTrue, List, [], ◌∷◌, map}
use Rattle.std.specs.List.{AllByRecursion, range_with_len}
use Rattle.std.proofs.lemmas.Bool.{eqb-true}
use Rattle.std.proofs.lemmas.Bool.Decides.{nat_tests}
use Rattle.std.proofs.Math.Nat.{mod-add-div, div-div-eq-div-mul, lt_of_mul-lt-mul_left}
use Rattle.rx_params.specs.declared.params.Params.{Params}
use Rattle.rx_params.specs.declared.kind.Kind.{Kind}
use Rattle.rx_params.specs.declared.kind.Kind.TheVariants.{Int, Bit}
use Rattle.rx_params.specs.Acceptance.{FieldsInRange}
use Rattle.rx_params.specs.Kinds.{greatest, block_count, digit_at}
use Rattle.rx_block.specs.declared.block.Block.{Block}
use Rattle.rx_block.specs.Fresh.{fresh}
use Rattle.rx_block.specs.Keeps.{AreKept}
use Rattle.rx_block.proofs.FreshBlocks.{fresh-keeps}
use Rattle.rx_block.proofs.KeptLists.{none_kept, kept_with}
use Rattle.rx_circuit.specs.declared.values.ValueLine.{ValueLine}
use Rattle.rx_circuit.specs.Values.{is_width, IsValueLine, AreValues}
use Rattle.rx_codec.specs.Kept.{AreItemsKept}
use Rattle.rx_client.specs.Encrypt.{blocks_in, line_digits, line_blocks, items_from, encrypted_values, is_filled, has_width}
use Rattle.rx_net.specs.Numbers.{number_of}
use Rattle.rx_client.proofs.Numbers.{power-more}
use Rattle.rx_client.proofs.Encrypted.{digit-small}

-- ---- the items keep the digits

digits_kept : (p : Params) (key mask_seed noise_seed : List ℕ) (number : ℕ) (kind : Kind) (value start count : ℕ) → FieldsInRange p →
    ((i : ℕ) → i < start + count → digit_at p.message_bits value i ≤ greatest kind p.message_bits) →
    AreKept p key
    (map (λ i. fresh p key mask_seed noise_seed (number + i) kind (digit_at p.message_bits value i)) (range_with_len start count))
    (map (digit_at p.message_bits value) (range_with_len start count))
digits_kept p key mask_seed noise_seed number kind value start zero fields small =
    none_kept p key
digits_kept p key mask_seed noise_seed number kind value start (suc count) fields small =
    let f : ℕ → Block = λ i. fresh p key mask_seed noise_seed (number + i) kind (digit_at p.message_bits value i) in
    kept_with p key (f start) (map f (range_with_len (start + 1) count)) (digit_at p.message_bits value start)
    (map (digit_at p.message_bits value) (range_with_len (start + 1) count))
    (fresh-keeps p key mask_seed noise_seed (number + start) kind (digit_at p.message_bits value start) fields (small start (omega arith)))
    (digits_kept p key mask_seed noise_seed number kind value (start + 1) count fields (λ i low. small i (omega (arith, low))))

line_kept : (p : Params) (key mask_seed noise_seed : List ℕ) (number : ℕ) (v : ValueLine) → FieldsInRange p → IsValueLine v →
    AreKept p key (line_blocks p key mask_seed noise_seed number v) (line_digits p.message_bits v)
line_kept p key mask_seed noise_seed number v fields is =
    digits_kept p key mask_seed noise_seed number v.kind v.value 0 (blocks_in p v) fields
    (λ i low. digit-small p.message_bits v.bits v.value i v.kind fields.message_bits is.width is.value (omega (arith, low)))

items_kept : (p : Params) (key mask_seed noise_seed : List ℕ) (number : ℕ) (lines : List ValueLine) → FieldsInRange p →
    AllByRecursion IsValueLine lines →
    AreItemsKept p key (items_from p key mask_seed noise_seed number lines) (map (line_digits p.message_bits) lines)
items_kept p key mask_seed noise_seed number [] fields each = tt
items_kept p key mask_seed noise_seed number (v ∷ lines) fields each = (
  line_kept p key mask_seed noise_seed number v fields each.0,
  items_kept p key mask_seed noise_seed (number + blocks_in p v) lines fields each.1,
)

pub values_kept : (p : Params) (key mask_seed noise_seed : List ℕ) (lines : List ValueLine) → FieldsInRange p → AreValues lines →
    AreItemsKept p key (encrypted_values p key mask_seed noise_seed lines).items (map (line_digits p.message_bits) lines)
unfolding encrypted_values
values_kept p key mask_seed noise_seed lines fields are = items_kept p key mask_seed noise_seed 0 lines fields are.each

-- ---- the digits make up the number

-- those from a place on make up what stands from there on
number_from : (m value start count : ℕ) → value / 2 ^ (m * start) < 2 ^ (m * count) →
    number_of m (map (digit_at m value) (range_with_len start count)) ≡ value / 2 ^ (m * start)
number_from m value start zero below =
    let none : m * 0 ≡ 0 = omega arith in
    let one : 2 ^ (m * 0) ≡ 1 = ap (λ k. 2 ^ k) none in
    omega (arith, below, one)
number_from m value start (suc count) below =
    let here : ℕ = value / 2 ^ (m * start) in
    let next : value / 2 ^ (m * (start + 1)) ≡ here / 2 ^ m =
    ap (λ d. value / d) (power-more m start) ∙ sym (div-div-eq-div-mul value (2 ^ (m * start)) (2 ^ m)) in
    let one_more : suc count ≡ count + 1 = omega arith in
    let more : 2 ^ (m * suc count) ≡ 2 ^ (m * count) * 2 ^ m = ap (λ n. 2 ^ (m * n)) one_more ∙ power-more m count in
    let room : here < 2 ^ (m * count) * 2 ^ m = omega (arith, below, more) in
    let less : here / 2 ^ m < 2 ^ (m * count) = lt_of_mul-lt-mul_left (2 ^ m) (omega (arith, room, mod-add-div here (2 ^ m))) in
    let rest : number_of m (map (digit_at m value) (range_with_len (start + 1) count)) ≡ value / 2 ^ (m * (start + 1)) =
    number_from m value (start + 1) count (omega (arith, less, next)) in
    ap (λ later. here % 2 ^ m + 2 ^ m * later) (rest ∙ next) ∙ mod-add-div here (2 ^ m)

-- the bits of a line are those of its blocks
line_room : (m bits value : ℕ) (kind : Kind) → (m ≡ 2) ⊎ (m ≡ 3) → IsTrue (is_width kind bits) → is_filled m kind bits ≡ true →
    value < 2 ^ bits → value < 2 ^ (m * block_count kind m bits)
line_room m bits value Int fields width filled below =
    let whole : m * (bits / m) ≡ bits = omega (arith, mod-add-div bits m, eqb-true (bits % m) 0 filled) in
    subst (λ n. value < 2 ^ n) (sym whole) below
line_room m bits value Bit (inl two) width filled below =
    let one : bits ≡ 1 = grind (arith, nat_tests) in
    let small : value < 2 = subst (λ n. value < 2 ^ n) one below in
    let P : ℕ → Type 0 = λ k. value < 2 ^ (k * 1) in subst P (sym two) (omega (arith, small))
line_room m bits value Bit (inr three) width filled below =
    let one : bits ≡ 1 = grind (arith, nat_tests) in
    let small : value < 2 = subst (λ n. value < 2 ^ n) one below in
    let P : ℕ → Type 0 = λ k. value < 2 ^ (k * 1) in subst P (sym three) (omega (arith, small))

pub line_number : (m : ℕ) (v : ValueLine) → (m ≡ 2) ⊎ (m ≡ 3) → IsValueLine v → has_width m v ≡ true →
    number_of m (line_digits m v) ≡ v.value
line_number m v fields is filled =
    let none : m * 0 ≡ 0 = omega arith in
    let one : v.value / 1 ≡ v.value = omega arith in
    let whole : v.value / 2 ^ (m * 0) ≡ v.value = ap (λ k. v.value / 2 ^ k) none ∙ one in
    let room : v.value < 2 ^ (m * block_count v.kind m v.bits) = line_room m v.bits v.value v.kind fields is.width filled is.value in
    number_from m v.value 0 (block_count v.kind m v.bits) (omega (arith, room, whole)) ∙ whole
