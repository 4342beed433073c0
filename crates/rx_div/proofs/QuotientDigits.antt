-- Blocks that are made of borrows.
use Rattle.std.proofs.Common.{◌≡◌, ◌^◌, ℕ, zero, suc, ◌+◌, ◌-◌, ◌*◌, ◌<◌, ◌≤◌, List, [], ◌∷◌, ◌++◌, length, get_or, refl, sym, ◌∙◌, ap, arith, subst}
use Rattle.std.proofs.lemmas.Nat.{mul-le}
use Rattle.rx_net.specs.declared.net.Net.{Net}
use Rattle.rx_net.specs.Cells.{cell_count, value, degree, noise, depth}
use Rattle.rx_net.specs.Legal.{IsBounded}
use Rattle.rx_net.specs.Growth.{Extends}
use Rattle.rx_plan.specs.Tables.{entries, HasEntries}
use Rattle.rx_plan.specs.Values.{AreInputs, number, cell_value, total}
use Rattle.rx_plan.specs.Planned.{Each, IsCell, AreCells, Makes, Planned}
use Rattle.rx_plan.proofs.Kept.{value_in, depths_kept}
use Rattle.rx_plan.proofs.Numbers.{number_same}
use Rattle.rx_plan.proofs.Planned.{makes_gives, planned_one, planned_beside}
use Rattle.rx_plan.proofs.PerBlock.{entries_big}

pub two_bits : (f : ℕ → ℕ) → number 2 2 f ≡ 2 * f 1 + f 0
unfolding number
two_bits f = omega arith

pub three_bits : (f : ℕ → ℕ) → number 2 3 f ≡ f 0 + 2 * f 1 + 4 * f 2
unfolding number
three_bits f = omega arith

-- the bits of a block, of which the lowest stands at a place, and the others before it
abbrev pub bits_down : Net → List ℕ → List ℕ → ℕ → ℕ → ℕ
bits_down p borrows xs low k = cell_value p borrows xs (low - k)

-- a cell that looks the opposite of a block up
opposite_planned : (p new : Net) (c most low : ℕ) (Q : (ℕ → Type 0) → Type 0) (at : (ℕ → ℕ) → ℕ) (borrows table : List ℕ)
    → HasEntries p.space (λ i. 2 ^ p.space - 1 - i) table → most < entries p.space
    → ((d : ℕ) → Each borrows (λ o. depth p o ≤ d) → Q (λ o. depth p o ≤ d))
    → ((xs : List ℕ) → AreInputs p xs → at (value p xs) ≤ most)
    → ((xs : List ℕ) → at (value p xs) ≡ number 2 p.space (bits_down p borrows xs low))
    → Makes p new c Q most at table
    → Planned p new (c ∷ []) (λ _. 2 ^ p.space - 1) 1 1 1 (Each borrows) (λ xs _. 2 ^ p.space - 1 - number 2 p.space (bits_down p borrows xs low))
opposite_planned p new c most low Q at borrows table h l t b v m =
    let u : ℕ = 2 ^ p.space in
    planned_one p new c (u - 1) 1 1 (Each borrows) (λ xs. u - 1 - number 2 p.space (bits_down p borrows xs low))
    (makes_gives p new c (u - 1) Q most at table m (m.degree_in (u - 1) (λ i q. let e : get_or table i 0 ≡ u - 1 - i = h.each i (omega arith) in omega arith)))
    (λ d o. m.depth_in d (t d o))
    (λ xs w.
    let k : at (value p xs) ≤ most = b xs w in
    m.value_is xs w ∙ h.each (at (value p xs)) (omega arith) ∙ ap (λ z. u - 1 - z) (v xs))

pub each_more : (x : ℕ) (xs : List ℕ) (P : ℕ → Type 0) → P x → Each xs P → Each (x ∷ xs) P
each_more x xs P p h zero q = p
each_more x xs P p h (suc i) q = h i (omega arith)

pub each_none : (P : ℕ → Type 0) → Each [] P
each_none P i q = absurd (omega arith)

-- ---- blocks of two bits
pub digit_two : (p new : Net) (borrows table : List ℕ) (low c : ℕ) → IsBounded p → p.space ≡ 2 → low < length borrows → 2 ≤ low + 1 → AreCells p 1 borrows
    → HasEntries p.space (λ i. 2 ^ p.space - 1 - i) table
    → Makes p new c (λ P. P (get_or borrows (low - 1) 0) × P (get_or borrows low 0)) (2 * degree p (get_or borrows (low - 1) 0) + degree p (get_or borrows low 0))
    (λ v. 2 * v (get_or borrows (low - 1) 0) + v (get_or borrows low 0)) table
    → Planned p new (c ∷ []) (λ _. 2 ^ p.space - 1) 1 1 1 (Each borrows) (λ xs _. 2 ^ p.space - 1 - number 2 p.space (bits_down p borrows xs low))
digit_two p new borrows table low c bounded two here enough k h m =
    let a : ℕ = get_or borrows low 0 in
    let b : ℕ = get_or borrows (low - 1) 0 in
    let ka : IsCell p 1 a = k low here in
    let kb : IsCell p 1 b = k (low - 1) (omega arith) in
    let big : 16 ≤ entries p.space = entries_big p.space (omega arith) in
    let none : low ≡ low - 0 = omega arith in
    opposite_planned p new c (2 * degree p b + degree p a) low (λ P. P b × P a) (λ v. 2 * v b + v a) borrows table h
    (omega (arith, ka.degree_in, kb.degree_in))
    (λ d o. (o (low - 1) (omega arith), o low here))
    (λ xs w. omega (arith, bounded xs w a ka.there, bounded xs w b kb.there))
    (λ xs. ap (λ i. 2 * value p xs b + cell_value p borrows xs i) none ∙ sym (two_bits (bits_down p borrows xs low)) ∙ ap (λ s. number 2 s (bits_down p borrows xs low)) (sym two))
    m

-- ---- blocks of three bits
abbrev pub three_cells : List ℕ → ℕ → List ℕ
three_cells borrows low =
    get_or borrows low 0 ∷ get_or borrows (low - 1) 0 ∷ get_or borrows (low - 1) 0
    ∷ get_or borrows (low - 2) 0 ∷ get_or borrows (low - 2) 0 ∷ get_or borrows (low - 2) 0 ∷ get_or borrows (low - 2) 0 ∷ []

pub seven : (v : ℕ → ℕ) (a b c : ℕ) → total 7 (λ i. v (get_or (a ∷ b ∷ b ∷ c ∷ c ∷ c ∷ c ∷ []) i 0)) ≡ v a + 2 * v b + 4 * v c
unfolding total
seven v a b c = omega arith

pub three_each : (borrows : List ℕ) (low : ℕ) (P : ℕ → Type 0) → low < length borrows → 3 ≤ low + 1 → Each borrows P → Each (three_cells borrows low) P
three_each borrows low P here enough h =
    let x : ℕ = get_or borrows low 0 in
    let y : ℕ = get_or borrows (low - 1) 0 in
    let z : ℕ = get_or borrows (low - 2) 0 in
    let a : P x = h low here in
    let b : P y = h (low - 1) (omega arith) in
    let c : P z = h (low - 2) (omega arith) in
    let fourth : Each (z ∷ []) P = each_more z [] P c (each_none P) in
    let third : Each (z ∷ z ∷ z ∷ z ∷ []) P = each_more z (z ∷ z ∷ z ∷ []) P c (each_more z (z ∷ z ∷ []) P c (each_more z (z ∷ []) P c fourth)) in
    each_more x (y ∷ y ∷ z ∷ z ∷ z ∷ z ∷ []) P a (each_more y (y ∷ z ∷ z ∷ z ∷ z ∷ []) P b (each_more y (z ∷ z ∷ z ∷ z ∷ []) P b third))

pub digit_three : (p new : Net) (borrows table : List ℕ) (low c : ℕ) → IsBounded p → p.space ≡ 3 → low < length borrows → 3 ≤ low + 1 → AreCells p 1 borrows
    → HasEntries p.space (λ i. 2 ^ p.space - 1 - i) table
    → Makes p new c (Each (three_cells borrows low)) (total 7 (λ i. degree p (get_or (three_cells borrows low) i 0)))
    (λ v. total 7 (λ i. v (get_or (three_cells borrows low) i 0))) table
    → Planned p new (c ∷ []) (λ _. 2 ^ p.space - 1) 1 1 1 (Each borrows) (λ xs _. 2 ^ p.space - 1 - number 2 p.space (bits_down p borrows xs low))
digit_three p new borrows table low c bounded three here enough k h m =
    let a : ℕ = get_or borrows low 0 in
    let b : ℕ = get_or borrows (low - 1) 0 in
    let e : ℕ = get_or borrows (low - 2) 0 in
    let ka : IsCell p 1 a = k low here in
    let kb : IsCell p 1 b = k (low - 1) (omega arith) in
    let ke : IsCell p 1 e = k (low - 2) (omega arith) in
    let big : 16 ≤ entries p.space = entries_big p.space (omega arith) in
    let none : low ≡ low - 0 = omega arith in
    let sevens : (v : ℕ → ℕ) → total 7 (λ i. v (get_or (three_cells borrows low) i 0)) ≡ v a + 2 * v b + 4 * v e = λ v. seven v a b e in
    opposite_planned p new c (total 7 (λ i. degree p (get_or (three_cells borrows low) i 0))) low (Each (three_cells borrows low)) (λ v. total 7 (λ i. v (get_or (three_cells borrows low) i 0))) borrows table h
    (omega (arith, sevens (degree p), ka.degree_in, kb.degree_in, ke.degree_in))
    (λ d o. three_each borrows low (λ o. depth p o ≤ d) here enough o)
    (λ xs w. omega (arith, sevens (degree p), sevens (value p xs), bounded xs w a ka.there, bounded xs w b kb.there, bounded xs w e ke.there))
    (λ xs. sevens (value p xs) ∙ ap (λ i. cell_value p borrows xs i + 2 * value p xs b + 4 * value p xs e) none ∙ sym (three_bits (bits_down p borrows xs low)) ∙ ap (λ s. number 2 s (bits_down p borrows xs low)) (sym three))
    m

-- ---- one block more
abbrev pub digit_says : Net → List ℕ → List ℕ → ℕ → ℕ
digit_says p borrows xs i = 2 ^ p.space - 1 - number 2 p.space (λ k. cell_value p borrows xs (length borrows - 1 - (p.space * i + k)))

pub digits_push : (old now new : Net) (cs borrows : List ℕ) (i c low count : ℕ) → AreCells old 1 borrows → length borrows ≡ old.space * count → i < count → low ≡ length borrows - 1 - old.space * i
    → Planned old now cs (λ _. 2 ^ old.space - 1) i i 1 (Each borrows) (digit_says old borrows)
    → Planned now new (c ∷ []) (λ _. 2 ^ now.space - 1) 1 1 1 (Each borrows) (λ xs _. 2 ^ now.space - 1 - number 2 now.space (bits_down now borrows xs low))
    → Planned old new (cs ++ c ∷ []) (λ _. 2 ^ old.space - 1) (i + 1) (i + 1) 1 (Each borrows) (digit_says old borrows)
digits_push old now new cs borrows i c low count k size here e p m =
    let s : ℕ = old.space in
    let ext : Extends old now = p.extends in
    let room : s * (i + 1) ≤ s * count = mul-le s (i + 1) s count (omega arith) (omega arith) in
    let split : s * (i + 1) ≡ s * i + s = omega arith in
    planned_beside old now new cs (c ∷ []) (λ _. 2 ^ s - 1) (λ _. 2 ^ now.space - 1) (λ _. 2 ^ s - 1) i 1 i 1 1 (Each borrows) (Each borrows) (digit_says old borrows)
    (λ xs _. 2 ^ now.space - 1 - number 2 now.space (bits_down now borrows xs low)) (digit_says old borrows) p m
    (λ d o. depths_kept old now borrows d 1 ext k o)
    (λ j q. omega arith)
    (λ j q. let z : 2 ^ now.space ≡ 2 ^ s = ap (λ s. 2 ^ s) ext.space in omega arith)
    (λ xs w j q. refl)
    (λ xs w j q.
    let z : i ≡ i + j = omega arith in
    ap (λ s. 2 ^ s - 1 - number 2 s (bits_down now borrows xs low)) ext.space
    ∙ ap (λ x. 2 ^ s - 1 - x) (number_same 2 s (bits_down now borrows xs low) (λ k. cell_value old borrows xs (length borrows - 1 - (s * i + k)))
    (λ k q.
    let place : low - k ≡ length borrows - 1 - (s * i + k) = omega arith in
    ext.values xs w (get_or borrows (low - k) 0) (k_there k q).there ∙ ap (cell_value old borrows xs) place))
    ∙ ap (digit_says old borrows xs) z)
  where
    k_there : (j : ℕ) → j < old.space → IsCell old 1 (get_or borrows (low - j) 0)
    k_there j q = k (low - j) (omega (arith, mul-le old.space (i + 1) old.space count (omega arith) (omega arith)))
