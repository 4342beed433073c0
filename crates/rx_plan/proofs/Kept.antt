-- What stays of cells where a net grows.
use Rattle.std.proofs.Common.{◌≡◌, ◌^◌, ℕ, ◌+◌, ◌-◌, ◌<◌, ◌≤◌, List, length, get_or, sym, ◌∙◌, arith, subst}
use Rattle.rx_net.specs.declared.net.NetInput.{NetInput}
use Rattle.rx_net.specs.declared.net.Net.{Net}
use Rattle.rx_net.specs.Cells.{Within, value, degree, noise, depth}
use Rattle.rx_net.specs.Legal.{IsBounded}
use Rattle.rx_net.specs.Growth.{Extends}
use Rattle.rx_plan.specs.Values.{AreInputs}
use Rattle.rx_plan.specs.Planned.{Each, IsCell, AreCells, AreCellsBy, AreBlocks}

-- the inputs of a net are those of the net that it grows to
pub within_now : (a b : Net) → Extends a b → (xs : List ℕ) → AreInputs a xs → AreInputs b xs
within_now a b h xs w =
    subst (λ (is : List NetInput). Within b.space is xs) (sym h.inputs) (subst (λ (s : ℕ). Within s a.inputs xs) (sym h.space) w)

pub within_then : (a b : Net) → Extends a b → (xs : List ℕ) → AreInputs b xs → AreInputs a xs
within_then a b h xs w =
    subst (λ (is : List NetInput). Within a.space is xs) h.inputs (subst (λ (s : ℕ). Within s b.inputs xs) h.space w)

pub cell_kept : (a b : Net) (top c : ℕ) → Extends a b → IsCell a top c → IsCell b top c
cell_kept a b top c h k =
    let d : degree b c ≡ degree a c = h.degrees c k.there in
    let n : noise b c ≡ noise a c = h.noises c k.there in
    record { there = omega (arith, h.cells_grow, k.there); degree_in = omega (arith, k.degree_in); noise_is = n ∙ k.noise_is }

pub cells_kept : (a b : Net) (top : ℕ) (cs : List ℕ) → Extends a b → AreCells a top cs → AreCells b top cs
cells_kept a b top cs h k i p = cell_kept a b top (get_or cs i 0) h (k i p)

pub cells_by_kept : (a b : Net) (tops : ℕ → ℕ) (cs : List ℕ) → Extends a b → AreCellsBy a tops cs → AreCellsBy b tops cs
cells_by_kept a b tops cs h k i p = cell_kept a b (tops i) (get_or cs i 0) h (k i p)

-- a cell of a greater bound
pub cell_within : (p : Net) (top more c : ℕ) → top ≤ more → IsCell p top c → IsCell p more c
cell_within p top more c h k = record { there = k.there; degree_in = omega (arith, k.degree_in); noise_is = k.noise_is }

pub block_now : (old now : Net) (c : ℕ) → Extends old now → IsCell old (2 ^ old.space - 1) c → IsCell now (2 ^ now.space - 1) c
block_now old now c e k = subst (λ (s : ℕ). IsCell now (2 ^ s - 1) c) (sym e.space) (cell_kept old now (2 ^ old.space - 1) c e k)

pub blocks_now : (old now : Net) (cs : List ℕ) → Extends old now → AreBlocks old cs → AreBlocks now cs
blocks_now old now cs e k i q = block_now old now (get_or cs i 0) e (k i q)

pub depths_kept : (old now : Net) (cs : List ℕ) (d top : ℕ) → Extends old now → AreCells old top cs → Each cs (λ o. depth old o ≤ d) → Each cs (λ o. depth now o ≤ d)
depths_kept old now cs d top e k o i q =
    let x : depth now (get_or cs i 0) ≡ depth old (get_or cs i 0) = e.depths (get_or cs i 0) (k i q).there in
    let y : depth old (get_or cs i 0) ≤ d = o i q in
    omega arith

-- the same, where operands may be deeper by some levels
pub depths_later : (old now : Net) (cs : List ℕ) (d levels top : ℕ) → Extends old now → AreCells old top cs → Each cs (λ o. depth old o ≤ d) → Each cs (λ o. depth now o ≤ d + levels)
depths_later old now cs d levels top e k o i q =
    let x : depth now (get_or cs i 0) ≡ depth old (get_or cs i 0) = e.depths (get_or cs i 0) (k i q).there in
    let y : depth old (get_or cs i 0) ≤ d = o i q in
    omega arith

-- a value is at most what the degree is
pub value_in : (p : Net) (top c : ℕ) → IsBounded p → IsCell p top c → (xs : List ℕ) → AreInputs p xs → value p xs c ≤ top
value_in p top c b k xs w = let l : value p xs c ≤ degree p c = b xs w c k.there in omega (arith, k.degree_in)

-- the value of a cell is below the unit where its degree is
pub value_below : (p : Net) (u : ℕ) (cs : List ℕ) → IsBounded p → 0 < u → AreCells p (u - 1) cs → (xs : List ℕ) → AreInputs p xs → (i : ℕ) → i < length cs → value p xs (get_or cs i 0) < u
value_below p u cs b z h xs w i q =
    let k : IsCell p (u - 1) (get_or cs i 0) = h i q in
    let l : value p xs (get_or cs i 0) ≤ degree p (get_or cs i 0) = b xs w (get_or cs i 0) k.there in
    omega (arith, k.degree_in)
