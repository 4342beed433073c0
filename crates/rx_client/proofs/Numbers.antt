-- The number of an item, as far as a loop over its blocks has come.
use Rattle.std.proofs.Common.{pow-add, ◌≡◌, ◌⊎◌, inl, inr, ℕ, ◌+◌, ◌-◌, ◌*◌, ◌%◌, ◌^◌, ◌<◌, ◌≤◌, refl, sym, ◌∙◌, ap, arith, subst, lit≤, Bool, true, false, IsTrue, nat_le, List, ◌∷◌, drop, map, length, get_or, Result, Ok, Err}
use Rattle.std.proofs.lemmas.Bool.Decides.{nat_tests}
use Rattle.std.proofs.lemmas.List.{drop_more}
use Rattle.std.proofs.lemmas.List.Elements.{All-from_recursion, All-get_or}
use Rattle.std.proofs.Math.Nat.{mul-le-mul_left, mul-le-mul_right}
use Rattle.std.proofs.Math.Pow.{pow_mono}
use Rattle.rx_params.specs.declared.params.Params.{Params}
use Rattle.rx_params.specs.declared.kind.Kind.{Kind}
use Rattle.rx_params.specs.declared.kind.Kind.TheVariants.{Int, Bit}
use Rattle.rx_params.specs.Acceptance.{FieldsInRange}
use Rattle.rx_params.specs.Kinds.{greatest, block_count, is_form}
use Rattle.rx_block.specs.declared.block.Block.{Block}
use Rattle.rx_block.specs.declared.block.Damaged.{Damaged}
use Rattle.rx_block.specs.Keeps.{within_degree, decrypted}
use Rattle.rx_codec.specs.declared.cipher.Item.{Item}
use Rattle.rx_codec.specs.CipherFile.{IsBlock, IsItem}
use Rattle.rx_net.specs.Numbers.{number_of}
use Rattle.rx_client.specs.Decrypt.{block_number, item_number, damage_here, damage_in}

-- the first n blocks are within their degrees and make up the number
pub record HasRead (p : Params) (key : List ℕ) (item : Item) (n number : ℕ) : Type 0 where
  pub below : number < 2 ^ (p.message_bits * n)
  pub damage : damage_in p key item.name n (drop n item.blocks) ≡ damage_in p key item.name 0 item.blocks
  pub rest : number + 2 ^ (p.message_bits * n) * number_of p.message_bits (map (block_number p key) (drop n item.blocks))
      ≡ item_number p key item

-- ---- the bits of an item

form_room : (m bits : ℕ) (kind : Kind) → (m ≡ 2) ⊎ (m ≡ 3) → IsTrue (is_form m kind bits) → m * block_count kind m bits ≤ 64
form_room m bits Int (inl two) form = grind (arith, nat_tests)
form_room m bits Int (inr three) form = grind (arith, nat_tests)
form_room m bits Bit (inl two) form = omega arith
form_room m bits Bit (inr three) form = omega arith

-- the blocks of an item have at most 64 bits
pub item_room : (p : Params) (item : Item) → FieldsInRange p → IsItem p item → p.message_bits * length item.blocks ≤ 64
item_room p item fields is = rw is.count (form_room p.message_bits item.bits item.kind fields.message_bits is.form)

-- those up to a block too
pub item_room-upto : (p : Params) (item : Item) (n : ℕ) → FieldsInRange p → IsItem p item → n < length item.blocks →
    2 ^ (p.message_bits * (n + 1)) ≤ 2 ^ 64
item_room-upto p item n fields is low =
    let upto : n + 1 ≤ length item.blocks = omega arith in
    let bits : p.message_bits * (n + 1) ≤ 64 = omega (arith, mul-le-mul_left p.message_bits upto, item_room p item fields is) in
    pow_mono bits

greatest-below : (m : ℕ) (kind : Kind) → (m ≡ 2) ⊎ (m ≡ 3) → greatest kind m + 1 ≤ 2 ^ m
greatest-below m Int (inl two) = let P : ℕ → Type 0 = λ k. 2 ^ k - 1 + 1 ≤ 2 ^ k in subst P (sym two) (lit≤ tt)
greatest-below m Int (inr three) = let P : ℕ → Type 0 = λ k. 2 ^ k - 1 + 1 ≤ 2 ^ k in subst P (sym three) (lit≤ tt)
greatest-below m Bit (inl two) = let P : ℕ → Type 0 = λ k. 1 + 1 ≤ 2 ^ k in subst P (sym two) (lit≤ tt)
greatest-below m Bit (inr three) = let P : ℕ → Type 0 = λ k. 1 + 1 ≤ 2 ^ k in subst P (sym three) (lit≤ tt)

-- ---- one more block

pub within_cases : (b : Bool) (number degree digit : ℕ) → nat_le number degree ≡ b → Ok digit ≡ within_degree number degree →
    (digit ≡ number) × (number ≤ degree)
within_cases true number degree digit test e =
    let f : within_degree number degree ≡ Ok number = rw test refl in
    (cc, grind (arith, nat_tests))
within_cases false number degree digit test e =
    let f : within_degree number degree ≡ Err (record { decoded = number; degree = degree }) = rw test refl in
    absurd (cc)

pub within : (number degree digit : ℕ) → Ok digit ≡ within_degree number degree → (digit ≡ number) × (number ≤ degree)
within number degree digit e = within_cases (nat_le number degree) number degree digit refl e

pub power-more : (m n : ℕ) → 2 ^ (m * (n + 1)) ≡ 2 ^ (m * n) * 2 ^ m
power-more m n =
    let e : m * (n + 1) ≡ m * n + m = omega arith in
    ap (λ k. 2 ^ k) e ∙ pow-add 2 (m * n) m

pub HasRead-more : (p : Params) (key : List ℕ) (item : Item) (n number digit : ℕ) (block : Block) →
    FieldsInRange p → IsItem p item → n < length item.blocks → block ≡ get_or item.blocks n block →
    Ok digit ≡ decrypted p key block → HasRead p key item n number →
    HasRead p key item (n + 1) (number + digit * 2 ^ (p.message_bits * n))
HasRead-more p key item n number digit block fields is low at read before =
    let m : ℕ = p.message_bits in
    let blocks : List Block = item.blocks in
    let here : drop n blocks ≡ block ∷ drop (n + 1) blocks = drop_more blocks n block low ∙ ap (λ b. b ∷ drop (n + 1) blocks) (sym at) in
    let one : IsBlock p item.kind block =
    subst (IsBlock p item.kind) (sym at) (All-get_or (IsBlock p item.kind) blocks n block low (All-from_recursion (IsBlock p item.kind) blocks is.blocks)) in
    let parts : (digit ≡ block_number p key block) × (block_number p key block ≤ block.degree) =
    within (block_number p key block) block.degree digit read in
    let top : digit + 1 ≤ 2 ^ m = omega (arith, parts.0, parts.1, one.degree, greatest-below m item.kind fields.message_bits) in
    let power : 2 ^ (m * (n + 1)) ≡ 2 ^ (m * n) * 2 ^ m = power-more m n in
    let later : ℕ = number_of m (map (block_number p key) (drop (n + 1) blocks)) in
    let split : number_of m (map (block_number p key) (drop n blocks)) ≡ digit + 2 ^ m * later =
    ap (λ bs. number_of m (map (block_number p key) bs)) here ∙ ap (λ d. d + 2 ^ m * later) (sym parts.0) in
    let old : number + 2 ^ (m * n) * (digit + 2 ^ m * later) ≡ item_number p key item =
    ap (λ x. number + 2 ^ (m * n) * x) (sym split) ∙ before.rest in
    record {
      below = rw power (omega (arith, before.below, mul-le-mul_right (2 ^ (m * n)) top));
      damage = ap (λ r. damage_here item.name n r (damage_in p key item.name (n + 1) (drop (n + 1) blocks))) read
          ∙ ap (λ bs. damage_in p key item.name n bs) (sym here) ∙ before.damage;
      rest = rw power (omega (arith, old));
    }

-- one turn of the loop: the sum fits a word
pub HasRead-turn : (p : Params) (key : List ℕ) (item : Item) (blocks : List Block) (n number digit value : ℕ) (block : Block)
    (answer : Result ℕ Damaged) → FieldsInRange p → IsItem p item → blocks ≡ item.blocks → n < length blocks →
    block ≡ get_or blocks n block → answer ≡ decrypted p key block → answer ≡ Ok digit → value ≡ digit →
    HasRead p key item n number →
    HasRead p key item (n + 1) (number + value * 2 ^ (p.message_bits * n) % 2 ^ 64)
    × (number + value * 2 ^ (p.message_bits * n) % 2 ^ 64 < 2 ^ 64)
HasRead-turn p key item blocks n number digit value block answer fields is same low at read ok e before =
    let low' : n < length item.blocks = omega (arith, ap length same) in
    let at' : block ≡ get_or item.blocks n block = at ∙ ap (λ bs. get_or bs n block) same in
    let more : HasRead p key item (n + 1) (number + digit * 2 ^ (p.message_bits * n)) =
    HasRead-more p key item n number digit block fields is low' at' (sym ok ∙ read) before in
    let room : 2 ^ (p.message_bits * (n + 1)) ≤ 2 ^ 64 = item_room-upto p item n fields is low' in
    let small : number + digit * 2 ^ (p.message_bits * n) < 2 ^ 64 = omega (arith, more.below, room) in
    let whole : digit * 2 ^ (p.message_bits * n) % 2 ^ 64 ≡ digit * 2 ^ (p.message_bits * n) = omega (arith, small) in
    let sum : number + value * 2 ^ (p.message_bits * n) % 2 ^ 64 ≡ number + digit * 2 ^ (p.message_bits * n) =
    ap (λ v. number + v * 2 ^ (p.message_bits * n) % 2 ^ 64) e ∙ ap (λ s. number + s) whole in
    (subst (HasRead p key item (n + 1)) (sym sum) more, omega (arith, sum, small))
