-- Blocks that are moved: those between two, the lowest and the top one, and those that come in.
use Rattle.std.proofs.Common.{◌≡◌, ◌^◌, ℕ, Bool, suc, ◌+◌, ◌-◌, ◌*◌, ◌/◌, ◌%◌, ◌<◌, ◌≤◌, List, [], ◌∷◌, ◌++◌, length, get_or, take, drop, sym, ◌∙◌, ap, arith, subst}
use Rattle.std.proofs.lemmas.Nat.{pow_pos, mod_below}
use Rattle.std.proofs.lemmas.List.{get_or-drop, get_or-take, length-drop, length-take-le}
use Rattle.std.proofs.Math.Nat.{mod-eq_of_lt}
use Rattle.rx_net.specs.declared.net.Net.{Net}
use Rattle.rx_net.specs.Tags.{greatest_of}
use Rattle.rx_net.specs.Cells.{value, degree, depth}
use Rattle.rx_net.specs.Legal.{IsBounded}
use Rattle.rx_net.specs.Growth.{Extends}
use Rattle.rx_plan.specs.Tables.{HasEntries}
use Rattle.rx_plan.specs.Values.{cell_value}
use Rattle.rx_plan.specs.Planned.{Each, EachOf, IsCell, AreBlocks, Makes, Planned}
use Rattle.rx_plan.proofs.Kept.{blocks_now, depths_kept, value_below}
use Rattle.rx_plan.proofs.Planned.{planned_same, planned_weaken, planned_beside}
use Rattle.rx_plan.proofs.PerBlock.{pair_values, two_blocks, greatest_entry}
use Rattle.rx_plan.proofs.Held.{cell_same}
use Rattle.rx_bits.specs.Signs.{fill_digit, filled_digit, between}
use Rattle.rx_bits.specs.Shifts.{raised_digit, lowered_digit}
use Rattle.rx_bits.proofs.OneCell.{single_planned}
use Rattle.rx_bits.proofs.SignLaws.{filled_low, filled_high}

-- ---- what cells hold, before and after
pub each_drop : (w : ℕ) (cs : List ℕ) (P : ℕ → Type 0) → Each cs P → Each (drop w cs) P
each_drop w cs P h i q = let l : w + i < length cs = omega (arith, length-drop w cs) in subst P (sym (get_or-drop w cs i 0)) (h (w + i) l)

pub each_take : (n : ℕ) (cs : List ℕ) (P : ℕ → Type 0) → n ≤ length cs → Each cs P → Each (take n cs) P
each_take n cs P l h i q =
    let k : i < n = omega (arith, length-take-le n cs l) in
    subst P (sym (get_or-take n cs i 0 k)) (h i (omega arith))

-- ---- digits between two blocks
pub between_le : (m r a b : ℕ) → between m r a b ≤ 2 ^ m - 1
between_le m r a b = omega (arith, mod_below ((2 ^ m * a + b) / 2 ^ r) (2 ^ m) (pow_pos m))

pub between_planned : (old new : Net) (cs part table : List ℕ) (bits unit : ℕ) → IsBounded old → unit ≡ 2 ^ old.space → AreBlocks old part → 1 ≤ length part
    → HasEntries old.space (λ i. i / 2 ^ bits % 2 ^ old.space) table
    → Planned old new cs (λ _. greatest_of table) (length (drop 1 part)) (length (drop 1 part)) 1 (EachOf (drop 1 part) (take (length part - 1) part))
    (pair_values old unit table (drop 1 part) (take (length part - 1) part))
    → Planned old new cs (λ _. 2 ^ old.space - 1) (length part - 1) (length part - 1) 1 (Each part) (λ xs i. between old.space bits (cell_value old part xs (i + 1)) (cell_value old part xs i))
between_planned old new cs part table bits unit bounded e k some h p =
    let s : ℕ = old.space in
    let u : ℕ = 2 ^ s in
    let ups : List ℕ = drop 1 part in
    let downs : List ℕ = take (length part - 1) part in
    let says : List ℕ → ℕ → ℕ = λ xs i. between s bits (cell_value old part xs (i + 1)) (cell_value old part xs i) in
    let n : length ups ≡ length part - 1 = length-drop 1 part in
    subst (λ (n : ℕ). Planned old new cs (λ _. u - 1) n n 1 (Each part) says) n
    (planned_weaken old new cs (λ _. u - 1) (length ups) (length ups) (length ups) 1 1 (EachOf ups downs) (Each part) says (omega arith) (omega arith)
    (λ d o. (each_drop 1 part (λ o. depth old o ≤ d) o, each_take (length part - 1) part (λ o. depth old o ≤ d) (omega arith) o))
    (planned_same old new cs (λ _. greatest_of table) (λ _. u - 1) (length ups) (length ups) 1 (EachOf ups downs) (pair_values old unit table ups downs) says
    (λ i q. greatest_entry s (λ i. i / 2 ^ bits % u) table (u - 1) h (λ i r. omega (arith, mod_below (i / 2 ^ bits) u (pow_pos s))))
    (λ xs w i q.
    let a : get_or ups i 0 ≡ get_or part (i + 1) 0 = get_or-drop 1 part i 0 ∙ (let o : 1 + i ≡ i + 1 = omega arith in ap (λ j. get_or part j 0) o) in
    let b : get_or downs i 0 ≡ get_or part i 0 = get_or-take (length part - 1) part i 0 (omega arith) in
    let x : ℕ = cell_value old part xs (i + 1) in
    let y : ℕ = cell_value old part xs i in
    let bx : x < u = value_below old u part bounded (pow_pos s) k xs w (i + 1) (omega arith) in
    let by : y < u = value_below old u part bounded (pow_pos s) k xs w i (omega arith) in
    ap (λ f. get_or table (f * value old xs (get_or ups i 0) + value old xs (get_or downs i 0)) 0) e
    ∙ ap (λ c. get_or table (u * value old xs c + value old xs (get_or downs i 0)) 0) a
    ∙ ap (λ c. get_or table (u * x + value old xs c) 0) b
    ∙ h.each (u * x + y) (two_blocks u u x y (pow_pos s) (omega arith) (omega arith) (omega arith)))
    p))

-- ---- blocks that are moved up by some bits
pub raised_planned : (old now new : Net) (part others table : List ℕ) (low bits back : ℕ) → IsBounded old → 1 ≤ length part → AreBlocks old part → back ≡ old.space - bits
    → HasEntries old.space (λ i. i % 2 ^ old.space * 2 ^ bits % 2 ^ old.space) table
    → Makes old now low (λ P. P (get_or part 0 0)) (degree old (get_or part 0 0)) (λ v. v (get_or part 0 0)) table
    → Planned now new others (λ _. 2 ^ now.space - 1) (length part - 1) (length part - 1) 1 (Each part) (λ xs i. between now.space back (cell_value now part xs (i + 1)) (cell_value now part xs i))
    → Planned old new (low ∷ [] ++ others) (λ _. 2 ^ old.space - 1) (length part) (length part) 1 (Each part) (λ xs i. raised_digit old.space bits (cell_value old part xs) i)
raised_planned old now new part others table low bits back bounded some k e h m q =
    let s : ℕ = old.space in
    let u : ℕ = 2 ^ s in
    let x : ℕ = get_or part 0 0 in
    let kx : IsCell old (u - 1) x = k 0 (omega arith) in
    let f : ℕ → ℕ = λ i. i % u * 2 ^ bits % u in
    let ext : Extends old now = m.extends in
    let says : List ℕ → ℕ → ℕ = λ xs i. raised_digit s bits (cell_value old part xs) i in
    let n : 1 + (length part - 1) ≡ length part = omega arith in
    let p = planned_weaken old now (low ∷ []) (λ _. u - 1) 1 1 1 1 1 (λ P. P x) (Each part) (λ xs _. f (value old xs x)) (omega arith) (omega arith) (λ d o. o 0 (omega arith))
    (single_planned old now x low f table bounded kx h (λ j. omega (arith, mod_below (j % u * 2 ^ bits) u (pow_pos s))) m) in
    subst (λ (n : ℕ). Planned old new (low ∷ [] ++ others) (λ _. u - 1) n n 1 (Each part) says) n
    (planned_beside old now new (low ∷ []) others (λ _. u - 1) (λ _. 2 ^ now.space - 1) (λ _. u - 1) 1 (length part - 1) 1 (length part - 1) 1 (Each part) (Each part)
    (λ xs _. f (value old xs x)) (λ xs i. between now.space back (cell_value now part xs (i + 1)) (cell_value now part xs i)) says p q
    (λ d o. depths_kept old now part d (u - 1) ext k o)
    (λ i l. omega arith)
    (λ i l. let z : 2 ^ now.space ≡ u = ap (λ s. 2 ^ s) ext.space in omega arith)
    (λ xs w i l.
    let z : 0 ≡ i = omega arith in
    let v : value old xs x < u = value_below old u part bounded (pow_pos s) k xs w 0 (omega arith) in
    ap (λ y. y * 2 ^ bits % u) (mod-eq_of_lt v) ∙ ap (says xs) z)
    (λ xs w i l.
    let o : suc i ≡ i + 1 = omega arith in
    let o2 : suc i ≡ 1 + i = omega arith in
    ap (λ s. between s back (cell_value now part xs (i + 1)) (cell_value now part xs i)) ext.space
    ∙ ap (λ b. between s b (cell_value now part xs (i + 1)) (cell_value now part xs i)) e
    ∙ ap (λ y. between s (s - bits) y (cell_value now part xs i)) (cell_same old now part xs (i + 1) ext k w (omega arith))
    ∙ ap (λ y. between s (s - bits) (cell_value old part xs (i + 1)) y) (cell_same old now part xs i ext k w (omega arith))
    ∙ ap (λ j. between s (s - bits) (cell_value old part xs j) (cell_value old part xs i)) (sym o)
    ∙ ap (says xs) o2))

-- ---- blocks that are moved down by some bits
pub lowered_planned : (old now new : Net) (part others table : List ℕ) (top bits : ℕ) (signed : Bool) → IsBounded old → 1 ≤ length part → AreBlocks old part
    → HasEntries now.space (λ i. between now.space bits (fill_digit signed now.space (i % 2 ^ now.space)) (i % 2 ^ now.space)) table
    → Planned old now others (λ _. 2 ^ old.space - 1) (length part - 1) (length part - 1) 1 (Each part) (λ xs i. between old.space bits (cell_value old part xs (i + 1)) (cell_value old part xs i))
    → Makes now new top (λ P. P (get_or part (length part - 1) 0)) (degree now (get_or part (length part - 1) 0)) (λ v. v (get_or part (length part - 1) 0)) table
    → Planned old new (others ++ top ∷ []) (λ _. 2 ^ old.space - 1) (length part) (length part) 1 (Each part) (λ xs i. lowered_digit signed old.space (length part) bits (cell_value old part xs) i)
lowered_planned old now new part others table top bits signed bounded_old some k h p m =
    let s : ℕ = old.space in
    let t : ℕ = now.space in
    let u : ℕ = 2 ^ s in
    let n : ℕ = length part in
    let x : ℕ = get_or part (n - 1) 0 in
    let ext : Extends old now = p.extends in
    let kx : IsCell now (2 ^ t - 1) x = blocks_now old now part ext k (n - 1) (omega arith) in
    let f : ℕ → ℕ = λ i. between t bits (fill_digit signed t (i % 2 ^ t)) (i % 2 ^ t) in
    let says : List ℕ → ℕ → ℕ = λ xs i. lowered_digit signed s n bits (cell_value old part xs) i in
    let c : n - 1 + 1 ≡ n = omega arith in
    let q = single_planned now new x top f table p.bounded kx h (λ j. between_le t bits (fill_digit signed t (j % 2 ^ t)) (j % 2 ^ t)) m in
    subst (λ (n : ℕ). Planned old new (others ++ top ∷ []) (λ _. u - 1) n n 1 (Each part) says) c
    (planned_beside old now new others (top ∷ []) (λ _. u - 1) (λ _. 2 ^ t - 1) (λ _. u - 1) (n - 1) 1 (n - 1) 1 1 (Each part) (λ P. P x)
    (λ xs i. between s bits (cell_value old part xs (i + 1)) (cell_value old part xs i)) (λ xs _. f (value now xs x)) says p q
    (λ d o. depths_kept old now part d (u - 1) ext k o (n - 1) (omega arith))
    (λ i l. omega arith)
    (λ i l. let z : 2 ^ t ≡ u = ap (λ s. 2 ^ s) ext.space in omega arith)
    (λ xs w i l.
    ap (λ y. between s bits y (cell_value old part xs i)) (sym (filled_low signed s n (cell_value old part xs) (i + 1) (omega arith)))
    ∙ ap (λ y. between s bits (filled_digit signed s n (cell_value old part xs) (i + 1)) y) (sym (filled_low signed s n (cell_value old part xs) i (omega arith))))
    (λ xs w i l.
    let z : n - 1 ≡ n - 1 + i = omega arith in
    let d : ℕ → ℕ = cell_value old part xs in
    let v : value now xs x ≡ d (n - 1) = cell_same old now part xs (n - 1) ext k w (omega arith) in
    let b : d (n - 1) < u = value_below old (2 ^ s) part bounded_old (pow_pos s) k xs w (n - 1) (omega arith) in
    ap (λ t. between t bits (fill_digit signed t (value now xs x % 2 ^ t)) (value now xs x % 2 ^ t)) ext.space
    ∙ ap (λ y. between s bits (fill_digit signed s (y % u)) (y % u)) v
    ∙ ap (λ y. between s bits (fill_digit signed s y) y) (mod-eq_of_lt b)
    ∙ ap (λ y. between s bits y (d (n - 1))) (sym (filled_high signed s n d (n - 1 + 1) (omega arith)))
    ∙ ap (λ y. between s bits (filled_digit signed s n d (n - 1 + 1)) y) (sym (filled_low signed s n d (n - 1) (omega arith)))
    ∙ ap (says xs) z))
