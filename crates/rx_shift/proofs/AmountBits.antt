-- The low bits of an amount, and what stands above them, as cells.
use Rattle.std.proofs.Common.{◌≡◌, ◌^◌, ℕ, false, zero, suc, ◌+◌, ◌-◌, ◌*◌, ◌/◌, ◌%◌, ◌<◌, ◌≤◌, List, [], ◌∷◌, ◌++◌, length, get_or, drop, max, refl, sym, ◌∙◌, ap, arith, subst, length-append}
use Rattle.std.proofs.lemmas.Nat.{pow_pos, mod_below}
use Rattle.std.proofs.lemmas.List.{get_or-drop, length-drop}
use Rattle.std.proofs.Math.Nat.{mod-eq_of_lt, div-le_self, pow-le-pow_left}
use Rattle.rx_params.specs.Derived.{noise_limit}
use Rattle.rx_net.specs.declared.net.Net.{Net}
use Rattle.rx_net.specs.Cells.{value, degree, depth}
use Rattle.rx_net.specs.Legal.{IsBounded}
use Rattle.rx_net.specs.Growth.{Extends}
use Rattle.rx_plan.specs.Tables.{HasEntries}
use Rattle.rx_plan.specs.Values.{AreInputs, number, number_held, cell_value, total}
use Rattle.rx_plan.specs.Planned.{Each, IsCell, AreBlocks, Makes, Planned}
use Rattle.rx_plan.proofs.Kept.{value_in, value_below, blocks_now, depths_kept}
use Rattle.rx_plan.proofs.Numbers.{number_held-is}
use Rattle.rx_plan.proofs.Planned.{makes_gives, planned_one, planned_same, planned_start, planned_weaken, planned_beside, planned_chain}
use Rattle.rx_plan.proofs.PerBlock.{one_block}
use Rattle.rx_plan.proofs.Totals.{total_same}
use Rattle.rx_plan.proofs.Held.{cell_same, held_digit}
use Rattle.rx_costs.specs.Logs.{log_up}
use Rattle.rx_costs.proofs.Exponents.{log_least}
use Rattle.rx_carry.specs.Carries.{flipped}
use Rattle.rx_bits.proofs.OneCell.{single_value}
use Rattle.rx_bits.proofs.MovedBlocks.{each_drop}
use Rattle.rx_cmp.specs.Groups.{is_some, any_jobs}
use Rattle.rx_shift.specs.Amount.{bit_at, is_wide, digit_above}
use Rattle.rx_shift.proofs.BitLaws.{bit_in, node_value, wide_by_nodes}

-- a cell that was looked up, of a degree of its own
pub looked_up : (p new : Net) (x c top : ℕ) (f : ℕ → ℕ) (table : List ℕ) → IsBounded p → IsCell p (2 ^ p.space - 1) x → HasEntries p.space f table
    → ((j : ℕ) → f j ≤ top) → Makes p new c (λ P. P x) (degree p x) (λ v. v x) table
    → Planned p new (c ∷ []) (λ _. top) 1 1 1 (λ P. P x) (λ xs _. f (value p xs x))
looked_up p new x c top f table bounded k h l m =
    let u : ℕ = 2 ^ p.space in
    let b : degree p x < u * u = one_block u (degree p x) (pow_pos p.space) k.degree_in in
    planned_one p new c top 1 1 (λ P. P x) (λ xs. f (value p xs x))
    (makes_gives p new c top (λ P. P x) (degree p x) (λ v. v x) table m
    (m.degree_in top (λ i q. let e : get_or table i 0 ≡ f i = h.each i (omega arith) in omega (arith, l i))))
    (λ d o. m.depth_in d o) (λ xs w. single_value p new x c f table bounded k h m xs w)

pub bit_le : (place i : ℕ) → bit_at i place ≤ 1
bit_le place i = omega (arith, mod_below (i / 2 ^ place) 2 (omega arith))

-- what stands in a block from a bit on
pub above_planned : (p new : Net) (x c bits : ℕ) (table : List ℕ) → IsBounded p → IsCell p (2 ^ p.space - 1) x → HasEntries p.space (digit_above (2 ^ p.space) bits) table
    → Makes p new c (λ P. P x) (degree p x) (λ v. v x) table
    → Planned p new (c ∷ []) (λ _. 2 ^ p.space - 1) 1 1 1 (λ P. P x) (λ xs _. value p xs x / 2 ^ bits)
above_planned p new x c bits table bounded k h m =
    let u : ℕ = 2 ^ p.space in
    planned_same p new (c ∷ []) (λ _. u - 1) (λ _. u - 1) 1 1 1 (λ P. P x) (λ xs _. digit_above u bits (value p xs x)) (λ xs _. value p xs x / 2 ^ bits) (λ i q. omega arith)
    (λ xs w i q.
    let l : value p xs x ≤ u - 1 = value_in p (u - 1) x bounded k xs w in
    let z : 0 < u = pow_pos p.space in
    ap (λ y. y / 2 ^ bits) (mod-eq_of_lt (omega arith)))
    (looked_up p new x c (u - 1) (digit_above u bits) table bounded k h (λ j. omega (arith, mod_below j u (pow_pos p.space), div-le_self (j % u) (2 ^ bits))) m)

-- ---- one low bit more
pub bits_push : (old now new : Net) (cs amount : List ℕ) (j q r c : ℕ) → IsBounded old → AreBlocks old amount → r < old.space → old.space * q + r ≡ j → q < length amount
    → Planned old now cs (λ _. 1) j j 1 (Each amount) (λ xs i. bit_at (number_held old amount xs) i)
    → Planned now new (c ∷ []) (λ _. 1) 1 1 1 (λ P. P (get_or amount q 0)) (λ xs _. bit_at (value now xs (get_or amount q 0)) r)
    → Planned old new (cs ++ c ∷ []) (λ _. 1) (j + 1) (j + 1) 1 (Each amount) (λ xs i. bit_at (number_held old amount xs) i)
bits_push old now new cs amount j q r c bounded k low e here p m =
    let x : ℕ = get_or amount q 0 in
    let says : List ℕ → ℕ → ℕ = λ xs i. bit_at (number_held old amount xs) i in
    planned_beside old now new cs (c ∷ []) (λ _. 1) (λ _. 1) (λ _. 1) j 1 j 1 1 (Each amount) (λ P. P x) says (λ xs _. bit_at (value now xs x) r) says p m
    (λ d o. depths_kept old now amount d (2 ^ old.space - 1) p.extends k o q here)
    (λ i l. omega arith) (λ i l. omega arith) (λ xs w i l. refl)
    (λ xs w i l.
    let z : j ≡ j + i = omega arith in
    ap (λ v. bit_at v r) (cell_same old now amount xs q p.extends k w here)
    ∙ ap (λ v. bit_at v r) (sym (held_digit old amount xs q bounded k w here))
    ∙ bit_in old.space q r (number_held old amount xs) low
    ∙ ap (says xs) (e ∙ z))

-- ---- what stands above the low bits

-- the block that is shared and the blocks above it
pub nodes_planned : (old now : Net) (amount : List ℕ) (s q r k : ℕ) → AreBlocks old amount → length amount ≡ q + suc k
    → Planned old now (s ∷ []) (λ _. 2 ^ old.space - 1) 1 1 1 (λ P. P (get_or amount q 0)) (λ xs _. value old xs (get_or amount q 0) / 2 ^ r)
    → Planned old now (s ∷ [] ++ drop (q + 1) amount) (λ _. 2 ^ old.space - 1) (suc k) 1 1 (Each amount) (λ xs i. node_value q r (cell_value old amount xs) i)
nodes_planned old now amount s q r k are n p =
    let u : ℕ = 2 ^ old.space in
    let x : ℕ = get_or amount q 0 in
    let rest : List ℕ = drop (q + 1) amount in
    let says : List ℕ → ℕ → ℕ = λ xs i. node_value q r (cell_value old amount xs) i in
    let size : length rest ≡ k = omega (arith, length-drop (q + 1) amount) in
    let later : AreBlocks now rest = each_drop (q + 1) amount (IsCell now (2 ^ now.space - 1)) (blocks_now old now amount p.extends are) in
    let first = planned_weaken old now (s ∷ []) (λ _. u - 1) 1 1 1 1 1 (λ P. P x) (Each amount) (λ xs _. value old xs x / 2 ^ r) (omega arith) (omega arith) (λ d o. o q (omega arith)) p in
    let second = planned_weaken now now rest (λ _. 2 ^ now.space - 1) k 0 0 0 1 (Each rest) (Each rest) (λ xs i. cell_value now rest xs i) (omega arith) (omega arith) (λ d o. o)
    (planned_start now rest (λ _. 2 ^ now.space - 1) k size p.bounded later) in
    let count : 1 + k ≡ suc k = omega arith in
    subst (λ (n : ℕ). Planned old now (s ∷ [] ++ rest) (λ _. u - 1) n 1 1 (Each amount) says) count
    (planned_beside old now now (s ∷ []) rest (λ _. u - 1) (λ _. 2 ^ now.space - 1) (λ _. u - 1) 1 k 1 0 1 (Each amount) (Each rest) (λ xs _. value old xs x / 2 ^ r) (λ xs i. cell_value now rest xs i) says
    first second
    (λ d o. each_drop (q + 1) amount (λ o. depth now o ≤ d) (depths_kept old now amount d (u - 1) p.extends are o))
    (λ i l. omega arith)
    (λ i l. let z : 2 ^ now.space ≡ u = ap (λ s. 2 ^ s) p.extends.space in omega arith)
    (λ xs w i l. let z : 0 ≡ i = omega arith in ap (says xs) z)
    (λ xs w i l.
    let place : q + 1 + i ≡ q + suc i = omega arith in
    let o : suc i ≡ 1 + i = omega arith in
    ap (value now xs) (get_or-drop (q + 1) amount i 0) ∙ cell_same old now amount xs (q + 1 + i) p.extends are w (omega arith)
    ∙ ap (cell_value old amount xs) place ∙ ap (says xs) o))

-- a base of two is the least
pub enough_levels : (base count n : ℕ) → 2 ≤ base → count ≤ n → count ≤ base ^ log_up 2 n
enough_levels base count n b h =
    let t : ℕ = log_up 2 n in
    let e : n ≤ 2 ^ t = (log_least 2 n (omega arith)).enough in
    let p : 2 ^ t ≤ base ^ t = pow-le-pow_left b t in
    omega arith

pub wide_planned : (old now new : Net) (amount nodes : List ℕ) (q r k t c : ℕ) → IsBounded old → AreBlocks old amount → r ≤ old.space → length amount ≡ q + suc k
    → Planned old now nodes (λ _. 2 ^ old.space - 1) (suc k) 1 1 (Each amount) (λ xs i. node_value q r (cell_value old amount xs) i)
    → Planned now new (c ∷ []) (λ _. 1) 1 (any_jobs (length nodes)) (max 1 t) (Each nodes) (λ xs _. flipped false (is_some (total (length nodes) (cell_value now nodes xs))))
    → Planned old new (c ∷ []) (λ _. 1) 1 (length amount + 1) (2 + t) (Each amount) (λ xs _. is_wide (number_held old amount xs) (old.space * q + r))
wide_planned old now new amount nodes q r k t c bounded are low n p m =
    let u : ℕ = 2 ^ old.space in
    let size : length nodes ≡ suc k = p.count_is in
    let says : List ℕ → ℕ → ℕ = λ xs _. is_wide (number_held old amount xs) (old.space * q + r) in
    planned_weaken old new (c ∷ []) (λ _. 1) 1 (1 + any_jobs (length nodes)) (length amount + 1) (1 + max 1 t) (2 + t) (Each amount) (Each amount) says (omega arith) (omega arith) (λ d o. o)
    (planned_chain old now new nodes (c ∷ []) (λ _. u - 1) (λ _. 1) (suc k) 1 1 (any_jobs (length nodes)) 1 (max 1 t) (Each amount) (Each nodes) (λ xs i. node_value q r (cell_value old amount xs) i)
    (λ xs _. flipped false (is_some (total (length nodes) (cell_value now nodes xs)))) says p m p.deep_cells
    (λ xs w i l.
    let f : ℕ → ℕ = cell_value old amount xs in
    ap (λ n. is_some (total n (cell_value now nodes xs))) size
    ∙ ap is_some (total_same (suc k) (cell_value now nodes xs) (node_value q r f) (λ i x. p.values_are xs w i x))
    ∙ wide_by_nodes old.space q r k f low (λ i x. value_below old u amount bounded (pow_pos old.space) are xs w i (omega arith))
    ∙ ap (λ n. is_wide (number u n f) (old.space * q + r)) (sym n)
    ∙ ap (λ z. is_wide z (old.space * q + r)) (sym (number_held-is old amount xs))))
