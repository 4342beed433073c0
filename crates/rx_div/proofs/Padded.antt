-- Cells with cells of 0 above them, and the low cells of a number.
use Rattle.std.proofs.Common.{◌≡◌, ◌^◌, ℕ, zero, suc, ◌+◌, ◌-◌, ◌*◌, ◌%◌, ◌<◌, ◌≤◌, List, [], ◌∷◌, ◌++◌, length, get_or, take, replicate, refl, sym, ◌∙◌, ap, arith, subst, length-append}
use Rattle.std.proofs.lemmas.List.{length-replicate, get_or-replicate, get_or_append_left, get_or-append_right, get_or-take, length-take-le}
use Rattle.std.proofs.lemmas.Nat.{pow_pos, mod-mul-add}
use Rattle.rx_net.specs.declared.net.Net.{Net}
use Rattle.rx_net.specs.Cells.{value, depth}
use Rattle.rx_net.specs.Legal.{IsBounded}
use Rattle.rx_net.specs.Growth.{Extends}
use Rattle.rx_plan.specs.Values.{AreInputs, number, number_held, cell_value}
use Rattle.rx_plan.specs.Planned.{Each, IsCell, AreBlocks}
use Rattle.rx_plan.specs.Rows.{IsNought}
use Rattle.rx_plan.proofs.Lists.{by_append}
use Rattle.rx_plan.proofs.Kept.{value_in, value_below, cell_within, cell_kept}
use Rattle.rx_plan.proofs.Numbers.{number_same, number_held-is, pow_pow}
use Rattle.rx_plan.proofs.RowLaws.{number_split}
use Rattle.rx_plan.proofs.Held.{number_small}

pub nought_value : (p : Net) (z : ℕ) (xs : List ℕ) → IsBounded p → IsNought p z → AreInputs p xs → value p xs z ≡ 0
nought_value p z xs b h w = omega (arith, value_in p 0 z b h.cell xs w)

pub nought_block : (p : Net) (z : ℕ) → IsNought p z → IsCell p (2 ^ p.space - 1) z
nought_block p z h = cell_within p 0 (2 ^ p.space - 1) z (omega arith) h.cell

pub nought_later : (old now : Net) (z : ℕ) → Extends old now → IsNought old z → IsNought now z
nought_later old now z e h =
    let d : depth now z ≡ depth old z = e.depths z h.cell.there in
    record { cell = cell_kept old now 0 z e h.cell; shallow = omega (arith, h.shallow) }

pub padded_count : (cs : List ℕ) (k z : ℕ) → length (cs ++ replicate k z) ≡ length cs + k
padded_count cs k z = length-append cs (replicate k z) ∙ ap (λ n. length cs + n) (length-replicate k z)

pub padded_each : (cs : List ℕ) (k z : ℕ) (P : ℕ → Type 0) → Each cs P → P z → Each (cs ++ replicate k z) P
padded_each cs k z P h p =
    by_append cs (replicate k z) P h
    (λ i q. let l : i < k = omega (arith, length-replicate k z) in subst P (sym (get_or-replicate k i z 0 l)) p)

number_none : (u n : ℕ) (f : ℕ → ℕ) → ((i : ℕ) → i < n → f i ≡ 0) → number u n f ≡ 0
unfolding number
number_none u zero f h = refl
number_none u (suc n) f h =
    let e : u ^ n * f n ≡ u ^ n * 0 = ap (λ x. u ^ n * x) (h n (omega arith)) in
    omega (arith, number_none u n f (λ i q. h i (omega arith)))

-- cells of 0 above a number do not change it
pub padded_number : (p : Net) (cs xs : List ℕ) (k z : ℕ) → value p xs z ≡ 0 → number_held p (cs ++ replicate k z) xs ≡ number_held p cs xs
padded_number p cs xs k z h =
    let u : ℕ = 2 ^ p.space in
    let n : ℕ = length cs in
    let f : ℕ → ℕ = cell_value p (cs ++ replicate k z) xs in
    let low : number u n f ≡ number u n (cell_value p cs xs) = number_same u n f (cell_value p cs xs) (λ i q. ap (value p xs) (get_or_append_left cs (replicate k z) 0 i q)) in
    let high : number u k (λ i. f (n + i)) ≡ 0 =
    number_none u k (λ i. f (n + i)) (λ i q.
    let l : n ≤ n + i = omega arith in
    let e : n + i - n ≡ i = omega arith in
    ap (value p xs) (get_or-append_right cs (replicate k z) n (n + i) 0 refl l)
    ∙ ap (λ j. value p xs (get_or (replicate k z) j 0)) e ∙ ap (value p xs) (get_or-replicate k i z 0 q) ∙ h) in
    let none : u ^ n * number u k (λ i. f (n + i)) ≡ u ^ n * 0 = ap (λ x. u ^ n * x) high in
    let sum : number u (n + k) f ≡ number u n (cell_value p cs xs) = omega (arith, number_split u n k f) in
    number_held-is p (cs ++ replicate k z) xs ∙ ap (λ m. number u m f) (padded_count cs k z) ∙ sum ∙ sym (number_held-is p cs xs)

-- the low cells hold what the number leaves
pub low_number : (p : Net) (cs xs : List ℕ) (n : ℕ) → IsBounded p → AreBlocks p cs → AreInputs p xs → n ≤ length cs
    → number_held p (take n cs) xs ≡ number_held p cs xs % 2 ^ (p.space * n)
low_number p cs xs n bounded h w l =
    let s : ℕ = p.space in
    let u : ℕ = 2 ^ s in
    let k : ℕ = length cs - n in
    let f : ℕ → ℕ = cell_value p cs xs in
    let size : length (take n cs) ≡ n = length-take-le n cs l in
    let parts : length cs ≡ n + k = omega arith in
    let low : ℕ = number u n f in
    let high : ℕ = number u k (λ i. f (n + i)) in
    let below : low < 2 ^ (s * n) = number_small s n f (λ i q. value_below p u cs bounded (pow_pos s) h xs w i (omega arith)) in
    let power : u ^ n * high ≡ 2 ^ (s * n) * high = ap (λ x. x * high) (pow_pow s n) in
    let whole : number u (n + k) f ≡ high * 2 ^ (s * n) + low = omega (arith, number_split u n k f) in
    number_held-is p (take n cs) xs ∙ ap (λ m. number u m (cell_value p (take n cs) xs)) size
    ∙ number_same u n (cell_value p (take n cs) xs) f (λ i q. ap (value p xs) (get_or-take n cs i 0 q))
    ∙ sym (mod-mul-add high (2 ^ (s * n)) low below)
    ∙ ap (λ x. x % 2 ^ (s * n)) (sym (number_held-is p cs xs ∙ ap (λ m. number u m f) parts ∙ whole))
