-- The lesser and the greater of two numbers, as the bit of their order selects them.
use Rattle.std.proofs.Common.{◌≡◌, ◌^◌, ℕ, Bool, true, false, ◌+◌, ◌-◌, ◌*◌, ◌<◌, ◌≤◌, inl, inr, List, [], ◌∷◌, length, min, max, refl, sym, ◌∙◌, ap, arith, subst, cond, nat_lt}
use Rattle.std.specs.Prelude.{int_lt}
use Rattle.std.specs.Int.{int_min, int_max}
use Rattle.std.proofs.lemmas.Bool.{cases_lt, lt-ltb, le-ltb}
use Rattle.rx_params.specs.Kinds.{digit_at}
use Rattle.rx_net.specs.declared.net.Net.{Net}
use Rattle.rx_net.specs.Cells.{value, depth}
use Rattle.rx_net.specs.Growth.{Extends}
use Rattle.rx_residue.specs.Residues.{residue, signed}
use Rattle.rx_residue.proofs.Turns.{residue_signed}
use Rattle.rx_plan.specs.Values.{number_held}
use Rattle.rx_plan.specs.Planned.{Each, EachOf, AreBlocks, Planned}
use Rattle.rx_plan.proofs.Kept.{depths_later}
use Rattle.rx_plan.proofs.Planned.{planned_weaken, planned_chain}
use Rattle.rx_plan.proofs.Held.{held_same}
use Rattle.rx_costs.specs.Table.{compare_jobs, compare_depth, extreme_jobs, extreme_depth}
use Rattle.rx_carry.specs.Carries.{flipped, is_less}
use Rattle.rx_cmp.specs.Selection.{chosen}
use Rattle.rx_cmp.specs.Order.{turned}
use Rattle.rx_cmp.proofs.Ordered.{half_of, turned_small, turned_big, signed_order}

-- a choice by a bit that was made first
pub outermost : (old one new : Net) (cells a b x y : List ℕ) (c : ℕ) (bit : List ℕ → ℕ) → 1 ≤ length a → length b ≡ length a → AreBlocks old x → AreBlocks old y → length x ≡ length a
    → ((P : ℕ → Type 0) → EachOf a b P → Each x P × Each y P)
    → Planned old one (c ∷ []) (λ _. 1) 1 (compare_jobs (length a)) (compare_depth (length a)) (EachOf a b) (λ xs _. flipped false (bit xs))
    → Planned one new cells (λ _. 2 ^ one.space - 1) (length x) (3 * length x) 2 (λ P. P c × Each x P × Each y P)
    (λ xs i. digit_at one.space (chosen (value one xs c) (number_held one x xs) (number_held one y xs)) i)
    → Planned old new cells (λ _. 2 ^ old.space - 1) (length a) (extreme_jobs (length a)) (extreme_depth (length a)) (EachOf a b)
    (λ xs i. digit_at old.space (chosen (bit xs) (number_held old x xs) (number_held old y xs)) i)
outermost old one new cells a b x y c bit some l kx ky lx t p q =
    let e : Extends old one = p.extends in
    let n : ℕ = length a in
    let j : ℕ = compare_jobs n in
    let d : ℕ = compare_depth n in
    let says : List ℕ → ℕ → ℕ = λ xs i. digit_at old.space (chosen (bit xs) (number_held old x xs) (number_held old y xs)) i in
    let q' = subst (λ (s : ℕ). Planned one new cells (λ _. 2 ^ s - 1) (length x) (3 * length x) 2 (λ P. P c × Each x P × Each y P) (λ xs i. digit_at one.space (chosen (value one xs c) (number_held one x xs) (number_held one y xs)) i)) e.space q in
    subst (λ (k : ℕ). Planned old new cells (λ _. 2 ^ old.space - 1) k (extreme_jobs n) (extreme_depth n) (EachOf a b) says) lx
    (planned_weaken old new cells (λ _. 2 ^ old.space - 1) (length x) (j + 3 * length x) (extreme_jobs n) (d + 2) (extreme_depth n) (EachOf a b) (EachOf a b) says (omega arith) (omega arith) (λ d o. o)
    (planned_chain old one new (c ∷ []) cells (λ _. 1) (λ _. 2 ^ old.space - 1) 1 (length x) j (3 * length x) d 2 (EachOf a b) (λ P. P c × Each x P × Each y P) (λ xs _. flipped false (bit xs))
    (λ xs i. digit_at one.space (chosen (value one xs c) (number_held one x xs) (number_held one y xs)) i) says p q'
    (λ m o.
    let both = t (λ o. depth old o ≤ m) o in
    (p.deep_cells m o 0 (omega arith), depths_later old one x m d (2 ^ old.space - 1) e kx both.0, depths_later old one y m d (2 ^ old.space - 1) e ky both.1))
    (λ xs w i z.
    ap (λ s. digit_at s (chosen (value one xs c) (number_held one x xs) (number_held one y xs)) i) e.space
    ∙ ap (λ v. digit_at old.space (chosen v (number_held one x xs) (number_held one y xs)) i) (p.values_are xs w 0 (omega arith))
    ∙ ap (λ v. digit_at old.space (chosen (bit xs) v (number_held one y xs)) i) (held_same old one x xs e kx w)
    ∙ ap (λ v. digit_at old.space (chosen (bit xs) (number_held old x xs) v) i) (held_same old one y xs e ky w))))

-- ---- what is chosen
pub chosen_min : (x y : ℕ) → chosen (is_less x y) x y ≡ min x y
chosen_min x y =
    elim (cases_lt x y) [
      | inl l ↦ ap (λ b. chosen (cond b 1 0) x y) (lt-ltb x y l) ∙ (let e : x ≡ min x y = omega arith in e)
      | inr l ↦ ap (λ b. chosen (cond b 1 0) x y) (le-ltb x y l) ∙ (let e : y ≡ min x y = omega arith in e)
    ]

pub chosen_max : (x y : ℕ) → chosen (is_less x y) y x ≡ max x y
chosen_max x y =
    elim (cases_lt x y) [
      | inl l ↦ ap (λ b. chosen (cond b 1 0) y x) (lt-ltb x y l) ∙ (let e : y ≡ max x y = omega arith in e)
      | inr l ↦ ap (λ b. chosen (cond b 1 0) y x) (le-ltb x y l) ∙ (let e : x ≡ max x y = omega arith in e)
    ]

abbrev bit_of : Bool → ℕ
bit_of true = 1
bit_of false = 0

bit_same : (b c : Bool) → bit_of b ≡ bit_of c → b ≡ c
bit_same true true e = refl
bit_same true false e = absurd (omega arith)
bit_same false true e = absurd (omega arith)
bit_same false false e = refl

bit_is : (b : Bool) → bit_of b ≡ cond b 1 0
bit_is true = refl
bit_is false = refl

-- two numbers are one where they are turned to one
turned_once : (w x y : ℕ) → 1 ≤ w → x < 2 ^ w → y < 2 ^ w → turned w x ≡ turned w y → x ≡ y
turned_once w x y o hx hy e =
    let h : ℕ = 2 ^ (w - 1) in
    elim (cases_lt x h) [
      | inl p ↦
          elim (cases_lt y h) [
            | inl q ↦ omega (arith, turned_small w x o p, turned_small w y o q)
            | inr q ↦ omega (arith, half_of w o, turned_small w x o p, turned_big w y o q hy)
          ]
      | inr p ↦
          elim (cases_lt y h) [
            | inl q ↦ omega (arith, half_of w o, turned_big w x o p hx, turned_small w y o q)
            | inr q ↦ omega (arith, turned_big w x o p hx, turned_big w y o q hy)
          ]
    ]

-- the bit of the order, as the order of numbers with a sign
sign_test : (w x y : ℕ) → 1 ≤ w → x < 2 ^ w → y < 2 ^ w → nat_lt (turned w x) (turned w y) ≡ int_lt (signed w x) (signed w y)
sign_test w x y o hx hy = bit_same (nat_lt (turned w x) (turned w y)) (int_lt (signed w x) (signed w y))
    (bit_is (nat_lt (turned w x) (turned w y)) ∙ signed_order w x y o hx hy ∙ sym (bit_is (int_lt (signed w x) (signed w y))))

pub chosen_smin : (w x y : ℕ) → 1 ≤ w → x < 2 ^ w → y < 2 ^ w → chosen (is_less (turned w x) (turned w y)) x y ≡ residue w (int_min (signed w x) (signed w y))
chosen_smin w x y o hx hy =
    let t = sign_test w y x o hy hx in
    let rx = residue_signed w x o hx in
    let ry = residue_signed w y o hy in
    elim (cases_lt (turned w x) (turned w y)) [
      | inl l ↦
          ap (λ b. chosen (cond b 1 0) x y) (lt-ltb (turned w x) (turned w y) l) ∙ sym rx
          ∙ ap (λ b. residue w (cond b (signed w y) (signed w x))) (sym (sym t ∙ le-ltb (turned w y) (turned w x) (omega arith)))
      | inr l ↦
          ap (λ b. chosen (cond b 1 0) x y) (le-ltb (turned w x) (turned w y) l)
          ∙ elim (cases_lt (turned w y) (turned w x)) as (λ _. y ≡ residue w (int_min (signed w x) (signed w y))) [
            | inl k ↦ sym ry ∙ ap (λ b. residue w (cond b (signed w y) (signed w x))) (sym (sym t ∙ lt-ltb (turned w y) (turned w x) k))
            | inr k ↦
                turned_once w y x o hy hx (omega arith) ∙ sym rx
                ∙ ap (λ b. residue w (cond b (signed w y) (signed w x))) (sym (sym t ∙ le-ltb (turned w y) (turned w x) k))
          ]
    ]

pub chosen_smax : (w x y : ℕ) → 1 ≤ w → x < 2 ^ w → y < 2 ^ w → chosen (is_less (turned w x) (turned w y)) y x ≡ residue w (int_max (signed w x) (signed w y))
chosen_smax w x y o hx hy =
    let t = sign_test w y x o hy hx in
    let rx = residue_signed w x o hx in
    let ry = residue_signed w y o hy in
    elim (cases_lt (turned w x) (turned w y)) [
      | inl l ↦
          ap (λ b. chosen (cond b 1 0) y x) (lt-ltb (turned w x) (turned w y) l) ∙ sym ry
          ∙ ap (λ b. residue w (cond b (signed w x) (signed w y))) (sym (sym t ∙ le-ltb (turned w y) (turned w x) (omega arith)))
      | inr l ↦
          ap (λ b. chosen (cond b 1 0) y x) (le-ltb (turned w x) (turned w y) l)
          ∙ elim (cases_lt (turned w y) (turned w x)) as (λ _. x ≡ residue w (int_max (signed w x) (signed w y))) [
            | inl k ↦ sym rx ∙ ap (λ b. residue w (cond b (signed w x) (signed w y))) (sym (sym t ∙ lt-ltb (turned w y) (turned w x) k))
            | inr k ↦
                turned_once w x y o hx hy (omega arith) ∙ sym ry
                ∙ ap (λ b. residue w (cond b (signed w x) (signed w y))) (sym (sym t ∙ le-ltb (turned w y) (turned w x) k))
          ]
    ]
