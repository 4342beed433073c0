-- Blocks of which each bit is turned.
use Rattle.std.proofs.Common.{◌≡◌, ◌^◌, ℕ, ◌+◌, ◌-◌, ◌*◌, ◌<◌, ◌≤◌, List, length, sym, ◌∙◌, ap, arith, subst}
use Rattle.std.proofs.lemmas.Nat.{pow_pos}
use Rattle.std.proofs.Math.Nat.{pow-zero}
use Rattle.rx_params.specs.declared.kind.Kind.{Kind}
use Rattle.rx_params.specs.declared.kind.Kind.TheVariants.{Int, Bit}
use Rattle.rx_params.specs.Kinds.{greatest, digit_at}
use Rattle.rx_net.specs.declared.net.Net.{Net}
use Rattle.rx_net.specs.Tags.{greatest_of}
use Rattle.rx_net.specs.Legal.{IsBounded}
use Rattle.rx_plan.specs.Tables.{HasEntries}
use Rattle.rx_plan.specs.Values.{number, number_held, cell_value}
use Rattle.rx_plan.specs.Planned.{AreCells, Each, Planned}
use Rattle.rx_plan.proofs.Kept.{value_below}
use Rattle.rx_plan.proofs.Numbers.{number_held-is}
use Rattle.rx_plan.proofs.Planned.{planned_same}
use Rattle.rx_plan.proofs.PerBlock.{each_values, one_block, greatest_entry}
use Rattle.rx_plan.proofs.Held.{cells_under, digit_number}
use Rattle.rx_bits.specs.Bits.{IsCount, all_ones}
use Rattle.rx_bits.proofs.BitByBit.{kind_low}
use Rattle.rx_bits.proofs.SignLaws.{number_turned_digits, number_of_ones}

number_alone : (u x : ℕ) → number u 1 (λ _. x) ≡ x
unfolding number
number_alone u x = let e : u ^ 0 * x ≡ 1 * x = ap (λ y. y * x) (pow-zero u) in omega arith

ones_number : (kind : Kind) (m n : ℕ) → IsCount kind n → number (2 ^ m) n (λ _. greatest kind m) ≡ all_ones kind m n
ones_number Int m n h = omega (arith, number_of_ones m n)
ones_number Bit m n h = ap (λ n. number (2 ^ m) n (λ _. 1)) h ∙ number_alone (2 ^ m) 1

pub turned_small : (kind : Kind) (m n : ℕ) → 1 ≤ m → IsCount kind n → all_ones kind m n < 2 ^ (m * n)
turned_small Int m n s h = omega (arith, pow_pos (m * n))
turned_small Bit m n s h =
    let a : greatest Bit m ≤ 2 ^ m - 1 = kind_low Bit m s in
    let e : m * n ≡ m = (let x : m * 1 ≡ m = omega arith in ap (λ n. m * n) h ∙ x) in
    subst (λ (k : ℕ). 1 < 2 ^ k) (sym e) (omega (arith, pow_pos m))

pub turned_planned : (kind : Kind) (old new : Net) (cs a table : List ℕ) (most : ℕ) → 1 ≤ old.space → IsBounded old → IsCount kind (length a) → most ≡ greatest kind old.space
    → AreCells old (greatest kind old.space) a → HasEntries old.space (λ i. most - i) table
    → Planned old new cs (λ _. greatest_of table) (length a) (length a) 1 (Each a) (each_values old table a)
    → Planned old new cs (λ _. greatest kind old.space) (length a) (length a) 1 (Each a) (λ xs i. digit_at old.space (all_ones kind old.space (length a) - number_held old a xs) i)
turned_planned kind old new cs a table most some bounded count e k h p =
    let s : ℕ = old.space in
    let u : ℕ = 2 ^ s in
    let t : ℕ = greatest kind s in
    let low : t ≤ u - 1 = kind_low kind s some in
    planned_same old new cs (λ _. greatest_of table) (λ _. t) (length a) (length a) 1 (Each a) (each_values old table a) (λ xs i. digit_at s (all_ones kind s (length a) - number_held old a xs) i)
    (λ i q. greatest_entry s (λ i. most - i) table t h (λ i r. omega arith))
    (λ xs w i q.
    let f : ℕ → ℕ = cell_value old a xs in
    let small : (i : ℕ) → i < length a → f i < t + 1 = value_below old (t + 1) a bounded (omega arith) (cells_under old t (t + 1 - 1) a (omega arith) k) xs w in
    let x : f i < t + 1 = small i q in
    let sum : number u (length a) (λ i. t - f i) + number u (length a) f ≡ number u (length a) (λ _. t) = number_turned_digits u (length a) t f (λ i q. omega (arith, small i q)) in
    let ones : number u (length a) (λ _. t) ≡ all_ones kind s (length a) = ones_number kind s (length a) count in
    let held : number_held old a xs ≡ number u (length a) f = number_held-is old a xs in
    let whole : number u (length a) (λ i. t - f i) ≡ all_ones kind s (length a) - number_held old a xs = omega arith in
    h.each (f i) (one_block u (f i) (pow_pos s) (omega arith)) ∙ ap (λ m. m - f i) e
    ∙ sym (digit_number s (length a) (λ i. t - f i) (λ i q. omega (arith, pow_pos s)) i q)
    ∙ ap (λ z. digit_at s z i) whole)
    p
