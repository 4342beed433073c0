-- Operations bit by bit go digit by digit.
use Rattle.std.proofs.Common.{◌≡◌, ◌^◌, ℕ, zero, suc, ◌+◌, ◌-◌, ◌*◌, ◌/◌, ◌%◌, ◌<◌, ◌≤◌, List, length, refl, sym, ◌∙◌, ap, arith, subst}
use Rattle.std.proofs.lemmas.Nat.{pow_pos, mul-le, mod_below, div-mul-add, mod-mul-add, and_le_l, or_lt, xor_lt, and_block, or_block, xor_block}
use Rattle.std.proofs.Math.Nat.{mod-eq_of_lt, pow-le-pow_right}
use Rattle.rx_params.specs.declared.kind.Kind.{Kind}
use Rattle.rx_params.specs.declared.kind.Kind.TheVariants.{Int, Bit}
use Rattle.rx_params.specs.Kinds.{greatest, digit_at}
use Rattle.rx_net.specs.declared.net.Net.{Net}
use Rattle.rx_net.specs.Legal.{IsBounded}
use Rattle.rx_net.specs.Tags.{greatest_of}
use Rattle.rx_plan.specs.Tables.{HasEntries, IsTable}
use Rattle.rx_plan.specs.Values.{AreInputs, number, number_held, cell_value}
use Rattle.rx_plan.specs.Planned.{AreCells, EachOf, Planned}
use Rattle.rx_plan.proofs.Numbers.{pow_pow, number_held-is}
use Rattle.rx_plan.proofs.PerBlock.{pair_values, two_blocks, greatest_entry, table_is}
use Rattle.rx_plan.proofs.Kept.{value_below}
use Rattle.rx_plan.proofs.Planned.{planned_same}
use Rattle.rx_plan.proofs.Held.{cells_under, digit_number, held_small, number_small}
use Rattle.rx_bits.specs.declared.operation.Operation.{Operation}
use Rattle.rx_bits.specs.declared.operation.Operation.TheVariants.{And, Or, Xor}
use Rattle.rx_bits.specs.Bits.{bitwise}

bitwise_none : (o : Operation) → bitwise o 0 0 ≡ 0
bitwise_none And = refl
bitwise_none Or = refl
bitwise_none Xor = refl

bitwise_block : (o : Operation) (k a b r s : ℕ) → r < 2 ^ k → s < 2 ^ k → bitwise o (a * 2 ^ k + r) (b * 2 ^ k + s) ≡ bitwise o a b * 2 ^ k + bitwise o r s
bitwise_block And k a b r s p q = and_block k a b r s p q
bitwise_block Or k a b r s p q = or_block k a b r s p q
bitwise_block Xor k a b r s p q = xor_block k a b r s p q

bitwise_below : (o : Operation) (k x y : ℕ) → x < 2 ^ k → y < 2 ^ k → bitwise o x y < 2 ^ k
bitwise_below And k x y p q = omega (arith, and_le_l x y)
bitwise_below Or k x y p q = or_lt k x y p q
bitwise_below Xor k x y p q = xor_lt k x y p q

pub number_bitwise : (o : Operation) (m n : ℕ) (f g : ℕ → ℕ) → ((i : ℕ) → i < n → f i < 2 ^ m) → ((i : ℕ) → i < n → g i < 2 ^ m)
    → number (2 ^ m) n (λ i. bitwise o (f i) (g i)) ≡ bitwise o (number (2 ^ m) n f) (number (2 ^ m) n g)
unfolding number
number_bitwise o m zero f g p q = sym (bitwise_none o)
number_bitwise o m (suc n) f g p q =
    let u : ℕ = 2 ^ m in
    let a : number u n f < 2 ^ (m * n) = number_small m n f (λ i l. p i (omega arith)) in
    let b : number u n g < 2 ^ (m * n) = number_small m n g (λ i l. q i (omega arith)) in
    let i : number u n (λ i. bitwise o (f i) (g i)) ≡ bitwise o (number u n f) (number u n g) = number_bitwise o m n f g (λ i l. p i (omega arith)) (λ i l. q i (omega arith)) in
    let k = bitwise_block o (m * n) (f n) (g n) (number u n f) (number u n g) a b in
    let swap : (h : ℕ → ℕ) → number u n h + u ^ n * h n ≡ h n * 2 ^ (m * n) + number u n h = λ h.
    let t : u ^ n * h n ≡ 2 ^ (m * n) * h n = ap (λ x. x * h n) (pow_pow m n) in omega arith in
    let r : number u n (λ i. bitwise o (f i) (g i)) + u ^ n * bitwise o (f n) (g n) ≡ bitwise o (f n) (g n) * 2 ^ (m * n) + bitwise o (number u n f) (number u n g) =
    swap (λ i. bitwise o (f i) (g i)) ∙ ap (λ x. bitwise o (f n) (g n) * 2 ^ (m * n) + x) i in
    r ∙ sym k ∙ ap (λ x. bitwise o x (g n * 2 ^ (m * n) + number u n g)) (sym (swap f)) ∙ ap (λ x. bitwise o (number u n f + u ^ n * f n) x) (sym (swap g))

-- a digit of a kind is one of the space
pub kind_low : (kind : Kind) (m : ℕ) → 1 ≤ m → greatest kind m ≤ 2 ^ m - 1
kind_low Int m h = omega arith
kind_low Bit m h = let p : 2 ^ 1 ≤ 2 ^ m = pow-le-pow_right {n = 2} (omega arith) h in omega arith

bitwise_kind : (o : Operation) (kind : Kind) (m x y : ℕ) → x < greatest kind m + 1 → y < greatest kind m + 1 → bitwise o x y ≤ greatest kind m
bitwise_kind o Int m x y p q = omega (arith, pow_pos m, bitwise_below o m x y (omega (arith, pow_pos m)) (omega (arith, pow_pos m)))
bitwise_kind o Bit m x y p q = omega (arith, bitwise_below o 1 x y p q)

abbrev pub operation_at : Operation → ℕ → ℕ → ℕ
operation_at o base i = bitwise o (i / base % base) (i % base)

pub operation_le : (o : Operation) (kind : Kind) (m i : ℕ) → operation_at o (greatest kind m + 1) i ≤ greatest kind m
operation_le o kind m i =
    let b : ℕ = greatest kind m + 1 in
    bitwise_kind o kind m (i / b % b) (i % b) (mod_below (i / b) b (omega arith)) (mod_below i b (omega arith))

operation_is : (o : Operation) (b x y : ℕ) → x < b → y < b → operation_at o b (b * x + y) ≡ bitwise o x y
operation_is o b x y p q =
    let e : b * x + y ≡ x * b + y = omega arith in
    ap (operation_at o b) e ∙ ap (λ k. bitwise o (k % b) ((x * b + y) % b)) (div-mul-add x b y q) ∙ ap (λ k. bitwise o (x % b) k) (mod-mul-add x b y q)
    ∙ ap (λ k. bitwise o k y) (mod-eq_of_lt p)

unit_square : (u : ℕ) → 0 < u → u ≤ u * u
unit_square u h = omega (arith, mul-le 1 u u u h (omega arith))

pub operation_table_is : (o : Operation) (kind : Kind) (s : ℕ) (table : List ℕ) → 1 ≤ s → HasEntries s (operation_at o (greatest kind s + 1)) table → IsTable s table
operation_table_is o kind s table l h =
    table_is s (operation_at o (greatest kind s + 1)) table h (λ i q. omega (arith, operation_le o kind s i, kind_low kind s l, unit_square (2 ^ s) (pow_pos s), pow_pos s))

pub bitwise_planned : (o : Operation) (kind : Kind) (old new : Net) (cs a b table : List ℕ) → 1 ≤ old.space → IsBounded old
    → AreCells old (greatest kind old.space) a → AreCells old (greatest kind old.space) b → length b ≡ length a
    → HasEntries old.space (operation_at o (greatest kind old.space + 1)) table
    → Planned old new cs (λ _. greatest_of table) (length a) (length a) 1 (EachOf a b) (pair_values old (greatest kind old.space + 1) table a b)
    → Planned old new cs (λ _. greatest kind old.space) (length a) (length a) 1 (EachOf a b) (λ xs i. digit_at old.space (bitwise o (number_held old a xs) (number_held old b xs)) i)
bitwise_planned o kind old new cs a b table some bounded ca cb l h p =
    let s : ℕ = old.space in
    let u : ℕ = 2 ^ s in
    let z : 0 < u = pow_pos s in
    let t : ℕ = greatest kind s in
    let low : t ≤ u - 1 = kind_low kind s some in
    planned_same old new cs (λ _. greatest_of table) (λ _. t) (length a) (length a) 1 (EachOf a b) (pair_values old (t + 1) table a b)
    (λ xs i. digit_at s (bitwise o (number_held old a xs) (number_held old b xs)) i)
    (λ i q. greatest_entry s (operation_at o (t + 1)) table t h (λ i q. operation_le o kind s i))
    (λ xs w i q.
    let f : ℕ → ℕ = cell_value old a xs in
    let g : ℕ → ℕ = cell_value old b xs in
    let fa : (i : ℕ) → i < length a → f i < t + 1 = value_below old (t + 1) a bounded (omega arith) (cells_under old t (t + 1 - 1) a (omega arith) ca) xs w in
    let gb : (i : ℕ) → i < length b → g i < t + 1 = value_below old (t + 1) b bounded (omega arith) (cells_under old t (t + 1 - 1) b (omega arith) cb) xs w in
    let x : f i < t + 1 = fa i q in
    let y : g i < t + 1 = gb i (omega arith) in
    let r : (t + 1) * f i + g i < u * u = two_blocks (t + 1) u (f i) (g i) z (omega arith) (omega arith) (omega arith) in
    let fs : (j : ℕ) → j < length a → f j < u = λ j l. omega (arith, fa j l) in
    let gs : (j : ℕ) → j < length a → g j < u = λ j m. omega (arith, gb j (omega arith)) in
    let e : number u (length a) (λ i. bitwise o (f i) (g i)) ≡ bitwise o (number_held old a xs) (number_held old b xs) =
    number_bitwise o s (length a) f g fs gs ∙ ap (λ k. bitwise o k (number u (length a) g)) (sym (number_held-is old a xs))
    ∙ ap (λ k. bitwise o (number_held old a xs) k) (ap (λ n. number u n g) (sym l) ∙ sym (number_held-is old b xs)) in
    h.each ((t + 1) * f i + g i) r ∙ operation_is o (t + 1) (f i) (g i) x y
    ∙ sym (digit_number s (length a) (λ i. bitwise o (f i) (g i)) (λ j m. bitwise_below o s (f j) (g j) (fs j m) (gs j m)) i q)
    ∙ ap (λ n. digit_at s n i) e)
    p

-- the table that was made, where it is used
pub entries_here : (o : Operation) (kind : Kind) (b space s : ℕ) (xs ys : List ℕ) → b ≡ greatest kind space → space ≡ s → ys ≡ xs → HasEntries space (operation_at o (b + 1)) xs
    → HasEntries s (operation_at o (greatest kind s + 1)) ys
entries_here o kind b space s xs ys e k l h =
    subst (λ (ys : List ℕ). HasEntries s (operation_at o (greatest kind s + 1)) ys) (sym l)
    (subst (λ (s : ℕ). HasEntries s (operation_at o (greatest kind s + 1)) xs) k
    (subst (λ (b : ℕ). HasEntries space (operation_at o (b + 1)) xs) e h))

pub planned_here : (o : Operation) (kind : Kind) (b space : ℕ) (old new : Net) (cs a c table : List ℕ) → b ≡ greatest kind space → space ≡ old.space
    → Planned old new cs (λ _. greatest_of table) (length a) (length a) 1 (EachOf a c) (pair_values old (b + 1) table a c)
    → Planned old new cs (λ _. greatest_of table) (length a) (length a) 1 (EachOf a c) (pair_values old (greatest kind old.space + 1) table a c)
planned_here o kind b space old new cs a c table e k p =
    subst (λ (b : ℕ). Planned old new cs (λ _. greatest_of table) (length a) (length a) 1 (EachOf a c) (pair_values old (b + 1) table a c)) (e ∙ ap (greatest kind) k) p

-- the number that an operation gives is no longer than its operands
pub bitwise_small : (o : Operation) (kind : Kind) (p : Net) (a b : List ℕ) → 1 ≤ p.space → IsBounded p → length b ≡ length a
    → AreCells p (greatest kind p.space) a → AreCells p (greatest kind p.space) b → (xs : List ℕ) → AreInputs p xs
    → bitwise o (number_held p a xs) (number_held p b xs) < 2 ^ (p.space * length a)
bitwise_small o kind p a b some bounded l ca cb xs w =
    let t : ℕ = greatest kind p.space in
    let u : ℕ = 2 ^ p.space in
    let low : t ≤ u - 1 = kind_low kind p.space some in
    bitwise_below o (p.space * length a) (number_held p a xs) (number_held p b xs) (held_small p a bounded (cells_under p t (u - 1) a low ca) xs w)
    (subst (λ (n : ℕ). number_held p b xs < 2 ^ (p.space * n)) l (held_small p b bounded (cells_under p t (u - 1) b low cb) xs w))
