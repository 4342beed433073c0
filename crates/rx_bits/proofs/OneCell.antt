-- Jobs over one cell, and tables where they are used.
use Rattle.std.proofs.Common.{◌≡◌, ◌^◌, ℕ, ◌+◌, ◌-◌, ◌*◌, ◌<◌, ◌≤◌, List, [], ◌∷◌, length, get_or, take, drop, replicate, sym, ◌∙◌, ap, subst, arith}
use Rattle.std.proofs.lemmas.Nat.{pow_pos}
use Rattle.std.proofs.lemmas.List.{length-drop, length-replicate, get_or-replicate}
use Rattle.std.proofs.Math.Seq.{take-length}
use Rattle.rx_net.specs.declared.net.Net.{Net}
use Rattle.rx_net.specs.Cells.{value, degree, depth}
use Rattle.rx_net.specs.Legal.{IsBounded}
use Rattle.rx_plan.specs.Tables.{HasEntries}
use Rattle.rx_plan.specs.Values.{AreInputs}
use Rattle.rx_plan.specs.Planned.{IsCell, Makes, Gives, Planned}
use Rattle.rx_plan.proofs.Kept.{value_in}
use Rattle.rx_plan.proofs.Planned.{makes_gives, planned_one}
use Rattle.rx_plan.proofs.PerBlock.{one_block}

-- a slice to the end
pub tail_is : (w : ℕ) (xs : List ℕ) → take (length xs - w) (drop w xs) ≡ drop w xs
tail_is w xs = ap (λ n. take n (drop w xs)) (sym (length-drop w xs)) ∙ take-length (drop w xs)

pub single_gives : (p new : Net) (x c : ℕ) (f : ℕ → ℕ) (table : List ℕ) → IsCell p (2 ^ p.space - 1) x → HasEntries p.space f table → ((j : ℕ) → f j ≤ 2 ^ p.space - 1)
    → Makes p new c (λ P. P x) (degree p x) (λ v. v x) table → Gives p new c (2 ^ p.space - 1) 1
single_gives p new x c f table k h l m =
    let u : ℕ = 2 ^ p.space in
    let b : degree p x < u * u = one_block u (degree p x) (pow_pos p.space) k.degree_in in
    makes_gives p new c (u - 1) (λ P. P x) (degree p x) (λ v. v x) table m
    (m.degree_in (u - 1) (λ i q. let e : get_or table i 0 ≡ f i = h.each i (omega arith) in omega (arith, l i)))

pub single_value : (p new : Net) (x c : ℕ) (f : ℕ → ℕ) (table : List ℕ) → IsBounded p → IsCell p (2 ^ p.space - 1) x → HasEntries p.space f table
    → Makes p new c (λ P. P x) (degree p x) (λ v. v x) table → (xs : List ℕ) → AreInputs p xs → value new xs c ≡ f (value p xs x)
single_value p new x c f table bounded k h m xs w =
    let u : ℕ = 2 ^ p.space in
    m.value_is xs w ∙ h.each (value p xs x) (one_block u (value p xs x) (pow_pos p.space) (value_in p (u - 1) x bounded k xs w))

-- a cell that was looked up, as a planner of one block
pub single_planned : (p new : Net) (x c : ℕ) (f : ℕ → ℕ) (table : List ℕ) → IsBounded p → IsCell p (2 ^ p.space - 1) x → HasEntries p.space f table
    → ((j : ℕ) → f j ≤ 2 ^ p.space - 1) → Makes p new c (λ P. P x) (degree p x) (λ v. v x) table
    → Planned p new (c ∷ []) (λ _. 2 ^ p.space - 1) 1 1 1 (λ P. P x) (λ xs _. f (value p xs x))
single_planned p new x c f table bounded k h l m =
    planned_one p new c (2 ^ p.space - 1) 1 1 (λ P. P x) (λ xs. f (value p xs x)) (single_gives p new x c f table k h l m)
    (λ d o. m.depth_in d o) (λ xs w. single_value p new x c f table bounded k h m xs w)

-- a cell without operands
pub fixed_gives : (p new : Net) (c : ℕ) (f : ℕ → ℕ) (table : List ℕ) → HasEntries p.space f table → ((j : ℕ) → f j ≤ 2 ^ p.space - 1)
    → Makes p new c (λ _. Unit {0}) 0 (λ _. 0) table → Gives p new c (2 ^ p.space - 1) 1
fixed_gives p new c f table h l m =
    let u : ℕ = 2 ^ p.space in
    let b : 0 < u * u = one_block u 0 (pow_pos p.space) (omega arith) in
    makes_gives p new c (u - 1) (λ _. Unit {0}) 0 (λ _. 0) table m
    (m.degree_in (u - 1) (λ i q. let e : get_or table i 0 ≡ f i = h.each i (omega arith) in omega (arith, l i)))

-- a cell that stands so many times
pub repeated : (old new : Net) (cell top count : ℕ) (cells : List ℕ) (Operands : (ℕ → Type 0) → Type 0) (says : List ℕ → ℕ)
    → cells ≡ replicate count cell → 1 ≤ count → Gives old new cell top 1
    → ((d : ℕ) → Operands (λ o. depth old o ≤ d) → depth new cell ≤ d + 1)
    → ((inputs : List ℕ) → AreInputs old inputs → value new inputs cell ≡ says inputs)
    → Planned old new cells (λ _. top) count count 1 Operands (λ inputs _. says inputs)
repeated old new cell top count cells Operands says e some g deep holds =
    let size : length cells ≡ count = ap length e ∙ length-replicate count cell in
    let at : (i : ℕ) → i < count → get_or cells i 0 ≡ cell = λ i l. ap (λ (xs : List ℕ). get_or xs i 0) e ∙ get_or-replicate count i cell 0 l in
    record {
      extends = g.extends;
      bounded = g.bounded;
      count_is = size;
      jobs_in = omega (arith, g.jobs_in, some);
      cells_are = λ i l. subst (IsCell new top) (sym (at i (omega (arith, l, size)))) g.cell;
      deep = λ d o c b m. omega (arith, g.deep c b m, deep d o);
      deep_cells = λ d o i l. subst (λ (x : ℕ). depth new x ≤ d + 1) (sym (at i (omega (arith, l, size)))) (deep d o);
      values_are = λ inputs a i l. ap (value new inputs) (at i l) ∙ holds inputs a;
    }
