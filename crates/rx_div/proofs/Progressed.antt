-- What stands after some steps of a division.
use Rattle.std.proofs.Common.{◌≡◌, ◌^◌, ℕ, zero, suc, ◌+◌, ◌-◌, ◌*◌, ◌/◌, ◌%◌, ◌<◌, ◌≤◌, inl, inr, List, [], ◌∷◌, ◌++◌, length, get_or, replicate, refl, sym, ◌∙◌, ap, arith, subst}
use Rattle.std.proofs.lemmas.Bool.{cases_lt}
use Rattle.std.proofs.lemmas.Nat.{pow_pos, mul-le, mod_below, div-add-mod'}
use Rattle.std.proofs.Math.Nat.{mod-eq_of_lt, pow-le-pow_right}
use Rattle.rx_params.specs.Kinds.{digit_at}
use Rattle.rx_residue.specs.Division.{remainder}
use Rattle.rx_residue.proofs.Divisions.{remainder_le}
use Rattle.rx_net.specs.declared.net.Net.{Net}
use Rattle.rx_net.specs.Cells.{cell_count, value, depth}
use Rattle.rx_net.specs.Legal.{IsBounded}
use Rattle.rx_net.specs.Growth.{Extends}
use Rattle.rx_costs.specs.Table.{div_step_jobs, div_step_depth}
use Rattle.rx_plan.specs.Values.{AreInputs, number_held, cell_value}
use Rattle.rx_plan.specs.Planned.{Each, IsCell, AreCells, AreBlocks, HasRoom, Planned}
use Rattle.rx_plan.specs.Rows.{IsNought}
use Rattle.rx_plan.proofs.Kept.{value_in, within_now, depths_later}
use Rattle.rx_plan.proofs.Planned.{planned_none, planned_weaken}
use Rattle.rx_plan.proofs.Given.{planned_number}
use Rattle.rx_plan.proofs.Held.{held_same, low_digits}
use Rattle.rx_carry.specs.Carries.{is_less}
use Rattle.rx_div.specs.Steps.{leading, with_next, borrow_at, taken_in, reduced}
use Rattle.rx_div.proofs.Leading.{leading_below, leading_more, taken_is, rest_digit}
use Rattle.rx_div.proofs.Composed.{planned_later, planned_among, planned_both}
use Rattle.rx_div.proofs.Padded.{padded_count, padded_each, padded_number, nought_value}
use Rattle.rx_div.proofs.Stepped.{step_operands, number_then, StepIs}

-- ---- blocks by bits
pub blocks_enough : (s t : ℕ) → 0 < s → t + 1 ≤ s * (t / s + 1)
blocks_enough s t h =
    let d : t / s * s + t % s ≡ t = div-add-mod' t s in
    let e : s * (t / s + 1) ≡ t / s * s + s = omega arith in
    omega (arith, mod_below t s h)

pub blocks_few : (s t : ℕ) → s * (t / s + 1) ≤ t + s
blocks_few s t =
    let d : t / s * s + t % s ≡ t = div-add-mod' t s in
    let e : s * (t / s + 1) ≡ t / s * s + s = omega arith in
    omega arith

pub blocks_grow : (s t r : ℕ) → 0 < s → s * r < t + s → r ≤ t / s + 1
blocks_grow s t r h l =
    elim (cases_lt (t / s + 1) r) [
      | inl q ↦
          let m : s * (t / s + 2) ≤ s * r = mul-le s (t / s + 2) s r (omega arith) (omega arith) in
          let e : s * (t / s + 2) ≡ t / s * s + 2 * s = omega arith in
          let d : t / s * s + t % s ≡ t = div-add-mod' t s in
          absurd (omega (arith, mod_below t s h))
      | inr q ↦ omega arith
    ]

pub blocks_last : (s r b : ℕ) → 0 < s → s * b ≤ s * r → s * r < s * b + s → r ≡ b
blocks_last s r b h l q =
    elim (cases_lt r b) [
      | inl x ↦
          let m : s * (r + 1) ≤ s * b = mul-le s (r + 1) s b (omega arith) (omega arith) in
          let e : s * (r + 1) ≡ s * r + s = omega arith in
          absurd (omega arith)
      | inr x ↦
          elim (cases_lt b r) [
            | inl y ↦
                let m : s * (b + 1) ≤ s * r = mul-le s (b + 1) s r (omega arith) (omega arith) in
                let e : s * (b + 1) ≡ s * b + s = omega arith in
                absurd (omega arith)
            | inr y ↦ omega arith
          ]
    ]

pub one_more : (t j : ℕ) → t * j + j ≡ (t + 1) * j
one_more t j = omega arith

pub room_left : (old now : Net) (j k total : ℕ) → Extends old now → cell_count now ≤ cell_count old + j → HasRoom old total → j + k ≤ total → HasRoom now k
room_left old now j k total e c h l = omega (arith, e.jobs_grow)

-- ---- the invariant
abbrev pub loop_operands : List ℕ → List ℕ → ℕ → (ℕ → Type 0) → Type 0
loop_operands bits b z P = Each bits P × Each b P × P z

abbrev pub rest_says : Net → List ℕ → List ℕ → ℕ → List ℕ → ℕ → ℕ
rest_says p bits b t xs i = digit_at p.space (remainder (leading (cell_value p bits xs) (length bits) t) (number_held p b xs)) i

abbrev pub borrow_says : Net → List ℕ → List ℕ → List ℕ → ℕ → ℕ
borrow_says p bits b xs k = borrow_at (cell_value p bits xs) (length bits) (number_held p b xs) k

pub record Progressed (old now : Net) (bits b : List ℕ) (z t : ℕ) (rest borrows : List ℕ) : Type 0 where
  pub enough : t ≤ old.space * length rest
  pub few : old.space * length rest < t + old.space
  pub rest_is : Planned old now rest (λ _. 2 ^ old.space - 1) (length rest) (t * div_step_jobs (length b)) (t * div_step_depth (length b)) (loop_operands bits b z) (rest_says old bits b t)
  pub borrows_are : Planned old now borrows (λ _. 1) t (t * div_step_jobs (length b)) (t * div_step_depth (length b)) (loop_operands bits b z) (borrow_says old bits b)

pub progress_none : (old : Net) (bits b rest borrows : List ℕ) (z : ℕ) → IsBounded old → 1 ≤ old.space → rest ≡ [] → borrows ≡ [] → Progressed old old bits b z 0 rest borrows
progress_none old bits b rest borrows z bounded some e f =
    let u : ℕ = 2 ^ old.space in
    let j : ℕ = 0 * div_step_jobs (length b) in
    let l : ℕ = 0 * div_step_depth (length b) in
    let O : (ℕ → Type 0) → Type 0 = loop_operands bits b z in
    let n : length rest ≡ 0 = ap length e in
    let r : Planned old old [] (λ _. u - 1) 0 j l O (rest_says old bits b 0) =
    planned_weaken old old [] (λ _. u - 1) 0 0 j 0 l O O (rest_says old bits b 0) (omega arith) (omega arith) (λ d o. o) (planned_none old (λ _. u - 1) 0 O (rest_says old bits b 0) bounded) in
    let c : Planned old old [] (λ _. 1) 0 j l O (borrow_says old bits b) =
    planned_weaken old old [] (λ _. 1) 0 0 j 0 l O O (borrow_says old bits b) (omega arith) (omega arith) (λ d o. o) (planned_none old (λ _. 1) 0 O (borrow_says old bits b) bounded) in
    let m : old.space * length rest ≡ old.space * 0 = ap (λ k. old.space * k) n in
    record {
      enough = omega arith;
      few = omega arith;
      rest_is = subst (λ (cs : List ℕ). Planned old old cs (λ _. u - 1) (length cs) j l O (rest_says old bits b 0)) (sym e) r;
      borrows_are = subst (λ (cs : List ℕ). Planned old old cs (λ _. 1) 0 j l O (borrow_says old bits b)) (sym f) c;
    }

-- one step more
pub progress_more : (old now new : Net) (bits b rest borrows cells : List ℕ) (z t k c : ℕ) → IsBounded old → 1 ≤ old.space → t < length bits → AreCells old 1 bits → AreBlocks old b → IsNought old z
    → length rest + k ≡ t / old.space + 1
    → Progressed old now bits b z t rest borrows
    → StepIs now new (rest ++ replicate k z) b cells (get_or bits (length bits - 1 - t) 0) z c
    → Progressed old new bits b z (t + 1) cells (borrows ++ c ∷ [])
progress_more old now new bits b rest borrows cells z t k c bounded some here kbits kb nought wide h g =
    let s : ℕ = old.space in
    let u : ℕ = 2 ^ s in
    let r : ℕ = length rest in
    let n : ℕ = t / s + 1 in
    let w : ℕ = length bits in
    let J : ℕ = div_step_jobs (length b) in
    let D : ℕ = div_step_depth (length b) in
    let O : (ℕ → Type 0) → Type 0 = loop_operands bits b z in
    let place : ℕ = w - 1 - t in
    let bit : ℕ = get_or bits place 0 in
    let padded : List ℕ = rest ++ replicate k z in
    let Q : (ℕ → Type 0) → Type 0 = step_operands bit padded b z in
    let e : Extends old now = h.rest_is.extends in
    let inside : place < w = omega arith in
    let size : length padded ≡ n = padded_count rest k z ∙ wide in
    let A : List ℕ → ℕ = λ xs. leading (cell_value old bits xs) w t in
    let B : List ℕ → ℕ = number_held old b in
    let d : List ℕ → ℕ = λ xs. cell_value old bits xs place in
    let bits_low : (xs : List ℕ) → AreInputs old xs → (i : ℕ) → i < w → cell_value old bits xs i ≤ 1 = λ xs v i q. value_in old 1 (get_or bits i 0) bounded (kbits i q) xs v in
    let below : (xs : List ℕ) → AreInputs old xs → A xs < 2 ^ t = λ xs v. leading_below (cell_value old bits xs) w t (bits_low xs v) (omega arith) in
    let fits : t + 1 ≤ s * n = blocks_enough s t (omega arith) in
    let held : (xs : List ℕ) → AreInputs old xs → number_held now padded xs ≡ remainder (A xs) (B xs) = λ xs v.
    let v' : AreInputs now xs = within_now old now e xs v in
    let nv : value now xs z ≡ 0 = e.values xs v z nought.cell.there ∙ nought_value old z xs bounded nought v in
    let p : 2 ^ t ≤ 2 ^ (s * r) = pow-le-pow_right {n = 2} (omega arith) h.enough in
    let m : remainder (A xs) (B xs) ≤ A xs = remainder_le (A xs) (B xs) in
    let q : A xs < 2 ^ t = below xs v in
    padded_number now rest xs k z nv
    ∙ planned_number old now rest (λ _. u - 1) r (t * J) (t * D) O (rest_says old bits b t) h.rest_is xs v
    ∙ low_digits s r (remainder (A xs) (B xs)) ∙ mod-eq_of_lt (omega arith) in
    let then : (xs : List ℕ) → AreInputs old xs → number_then now padded bit xs ≡ taken_in (s * n) (remainder (A xs) (B xs)) (d xs) = λ xs v.
    ap (λ k. taken_in (k * length padded) (number_held now padded xs) (value now xs bit)) e.space
    ∙ ap (λ k. taken_in (s * k) (number_held now padded xs) (value now xs bit)) size
    ∙ ap (λ x. taken_in (s * n) x (value now xs bit)) (held xs v)
    ∙ ap (λ x. taken_in (s * n) (remainder (A xs) (B xs)) x) (e.values xs v bit (kbits place inside).there) in
    let next : suc t ≡ t + 1 = omega arith in
    let deep : (x : ℕ) → O (λ o. depth old o ≤ x) → Q (λ o. depth now o ≤ x + t * D) = λ x o.
    let zd : depth now z ≤ x + t * D = (let y : depth now z ≡ depth old z = e.depths z nought.cell.there in let a : depth old z ≤ x = o.2 in omega arith) in (
      depths_later old now bits x (t * D) 1 e kbits o.0 place inside,
      padded_each rest k z (λ o. depth now o ≤ x + t * D) (h.rest_is.deep_cells x o) zd,
      depths_later old now b x (t * D) (u - 1) e kb o.1,
      zd,
    ) in
    let few_levels : t * D ≤ t * D + D = omega arith in
    let same_levels : t * D + D ≤ t * D + D = omega arith in
    let step_says : List ℕ → ℕ → ℕ = λ xs i. digit_at now.space (reduced (now.space * length padded) (number_held now b xs) (number_then now padded bit xs)) i in
    let rest_new : Planned old new cells (λ _. 2 ^ now.space - 1) (length padded) (t * J + J) (t * D + D) O (rest_says old bits b (t + 1)) =
    planned_later old now new rest cells (λ _. u - 1) (λ _. 2 ^ now.space - 1) r (length padded) (t * J) J (t * D) (t * D) D (t * D + D) O Q (rest_says old bits b t) step_says (rest_says old bits b (t + 1))
    few_levels same_levels h.rest_is g.rest_is deep
    (λ xs v i q.
    ap (λ k. digit_at k (reduced (k * length padded) (number_held now b xs) (number_then now padded bit xs)) i) e.space
    ∙ ap (λ k. digit_at s (reduced (s * k) (number_held now b xs) (number_then now padded bit xs)) i) size
    ∙ ap (λ y. digit_at s (reduced (s * n) y (number_then now padded bit xs)) i) (held_same old now b xs e kb v)
    ∙ ap (λ x. digit_at s (reduced (s * n) (B xs) x) i) (then xs v)
    ∙ rest_digit s n t (A xs) (B xs) (d xs) i (below xs v) (bits_low xs v place inside) fits (omega arith)
    ∙ ap (λ a. digit_at s (remainder a (B xs)) i) (sym (leading_more (cell_value old bits xs) w t))
    ∙ ap (λ t. rest_says old bits b t xs i) next) in
    let borrow_new : Planned old new (c ∷ []) (λ _. 1) 1 (t * J + J) (t * D + D) O (λ xs _. borrow_says old bits b xs t) =
    planned_later old now new rest (c ∷ []) (λ _. u - 1) (λ _. 1) r 1 (t * J) J (t * D) (t * D) D (t * D + D) O Q (rest_says old bits b t)
    (λ xs _. is_less (number_then now padded bit xs) (number_held now b xs)) (λ xs _. borrow_says old bits b xs t)
    few_levels same_levels h.rest_is g.borrow_is deep
    (λ xs v i q.
    ap (λ x. is_less x (number_held now b xs)) (then xs v ∙ taken_is (s * n) t (A xs) (B xs) (d xs) (below xs v) (bits_low xs v place inside) fits)
    ∙ ap (λ y. is_less (with_next (cell_value old bits xs) w (B xs) t) y) (held_same old now b xs e kb v)) in
    let kept : Planned old new borrows (λ _. 1) t (t * J + J) (t * D + D) O (borrow_says old bits b) =
    planned_among old now new borrows cells (λ _. 1) (λ _. 2 ^ now.space - 1) t (length padded) (t * J) (t * J + J) (t * D) (t * D + D) O (borrow_says old bits b) (rest_says old bits b (t + 1))
    few_levels h.borrows_are g.rest_is.extends rest_new in
    let both : Planned old new (borrows ++ c ∷ []) (λ _. 1) (t + 1) (t * J + J) (t * D + D) O (borrow_says old bits b) =
    planned_both old new borrows (c ∷ []) (λ _. 1) (λ _. 1) (λ _. 1) t 1 (t * J + J) (t * D + D) O (borrow_says old bits b) (λ xs _. borrow_says old bits b xs t) (borrow_says old bits b) kept borrow_new
    (λ i q. omega arith) (λ i q. omega arith) (λ xs v i q. refl) (λ xs v i q. let y : t ≡ t + i = omega arith in ap (borrow_says old bits b xs) y) in
    let count : length cells ≡ n = rest_new.count_is ∙ size in
    let wide_cells : s * length cells ≡ s * n = ap (λ k. s * k) count in
    let count_cells : length padded ≡ length cells = sym rest_new.count_is in
    record {
      enough = omega arith;
      few = omega (arith, blocks_few s t);
      rest_is =
          subst (λ (j : ℕ). Planned old new cells (λ _. u - 1) (length cells) j ((t + 1) * D) O (rest_says old bits b (t + 1))) (one_more t J)
          (subst (λ (l : ℕ). Planned old new cells (λ _. u - 1) (length cells) (t * J + J) l O (rest_says old bits b (t + 1))) (one_more t D)
          (subst (λ (k : ℕ). Planned old new cells (λ _. u - 1) k (t * J + J) (t * D + D) O (rest_says old bits b (t + 1))) count_cells
          (subst (λ (k : ℕ). Planned old new cells (λ _. 2 ^ k - 1) (length padded) (t * J + J) (t * D + D) O (rest_says old bits b (t + 1))) e.space rest_new)));
      borrows_are =
          subst (λ (j : ℕ). Planned old new (borrows ++ c ∷ []) (λ _. 1) (t + 1) j ((t + 1) * D) O (borrow_says old bits b)) (one_more t J)
          (subst (λ (l : ℕ). Planned old new (borrows ++ c ∷ []) (λ _. 1) (t + 1) (t * J + J) l O (borrow_says old bits b)) (one_more t D) both);
    }

-- after the last step there are as many blocks as the divisor has
pub progress_ends : (old now : Net) (bits b rest borrows : List ℕ) (z t : ℕ) → 1 ≤ old.space → t ≡ old.space * length b → Progressed old now bits b z t rest borrows → length rest ≡ length b
progress_ends old now bits b rest borrows z t some e h =
    let x : t ≤ old.space * length rest = h.enough in
    let y : old.space * length rest < t + old.space = h.few in
    blocks_last old.space (length rest) (length b) some (omega arith) (omega arith)
