-- A whole division, of its stages.
use Rattle.std.proofs.Common.{◌≡◌, ◌^◌, ℕ, zero, suc, ◌+◌, ◌-◌, ◌*◌, ◌%◌, ◌<◌, ◌≤◌, List, [], ◌∷◌, ◌++◌, length, get_or, refl, sym, ◌∙◌, ap, arith, subst}
use Rattle.std.proofs.lemmas.Nat.{pow_pos, mul-le}
use Rattle.std.proofs.Math.Nat.{mod-eq_of_lt}
use Rattle.rx_params.specs.Kinds.{digit_at}
use Rattle.rx_residue.specs.Division.{quotient, remainder}
use Rattle.rx_net.specs.declared.net.Net.{Net}
use Rattle.rx_net.specs.Cells.{value, depth}
use Rattle.rx_net.specs.Legal.{IsBounded}
use Rattle.rx_net.specs.Growth.{Extends}
use Rattle.rx_costs.specs.Table.{div_step_jobs, div_step_depth, div_jobs, div_depth}
use Rattle.rx_plan.specs.Values.{AreInputs, number, number_held, cell_value}
use Rattle.rx_plan.specs.Planned.{Each, EachOf, IsCell, AreBlocks, Gives, Planned}
use Rattle.rx_plan.specs.Rows.{IsNought}
use Rattle.rx_plan.proofs.Kept.{value_in, within_now, depths_later}
use Rattle.rx_plan.proofs.Numbers.{number_same, number_below, pow_pow}
use Rattle.rx_plan.proofs.Planned.{planned_one, planned_same, planned_weaken, planned_then}
use Rattle.rx_plan.proofs.Given.{planned_digits}
use Rattle.rx_plan.proofs.Held.{held_same, held_small}
use Rattle.rx_carry.specs.Carries.{is_less}
use Rattle.rx_shift.specs.Amount.{bit_at}
use Rattle.rx_div.specs.Steps.{leading, with_next, borrow_at}
use Rattle.rx_div.proofs.Leading.{leading_same, leading_bits, quotient_number}
use Rattle.rx_div.proofs.Composed.{planned_later, planned_among}
use Rattle.rx_div.proofs.Padded.{nought_value}
use Rattle.rx_div.proofs.Progressed.{loop_operands, rest_says, borrow_says}
use Rattle.rx_div.proofs.QuotientDigits.{digit_says}

-- borrows of the same bits
borrow_same : (f g : ℕ → ℕ) (w b c t : ℕ) → ((i : ℕ) → i < w → f i ≡ g i) → b ≡ c → t < w → borrow_at f w b t ≡ borrow_at g w c t
borrow_same f g w b c t h e l =
    ap (λ b. borrow_at f w b t) e
    ∙ ap (λ a. is_less (2 * remainder a c + f (w - 1 - t)) c) (leading_same f g w t h (omega arith))
    ∙ ap (λ d. is_less (2 * remainder (leading g w t) c + d) c) (h (w - 1 - t) (omega arith))

-- places of bits
below_width : (s n i : ℕ) {k : ℕ} → i < n → k < s → s * n - 1 - (s * i + k) < s * n
below_width s n i q l =
    let m : s * (i + 1) ≤ s * n = mul-le s (i + 1) s n (omega arith) (omega arith) in
    let e : s * (i + 1) ≡ s * i + s = omega arith in
    omega arith

totals : (j w n : ℕ) → 1 + w + j + n ≤ j + w + 2 * n + 2
totals j w n = omega arith

pub record DivisionIs (old new : Net) (a b quot rest : List ℕ) : Type 0 where
  pub quotient_is : Planned old new quot (λ _. 2 ^ old.space - 1) (length a) (div_jobs old.space (length a)) (div_depth old.space (length a)) (EachOf a b)
      (λ xs i. digit_at old.space (quotient (old.space * length a) (number_held old a xs) (number_held old b xs)) i)
  pub remainder_is : Planned old new rest (λ _. 2 ^ old.space - 1) (length a) (div_jobs old.space (length a)) (div_depth old.space (length a)) (EachOf a b)
      (λ xs i. digit_at old.space (remainder (number_held old a xs) (number_held old b xs)) i)

pub division_is : (old one two three new : Net) (a b bits rest borrows quot : List ℕ) (z : ℕ) → IsBounded old → length b ≡ length a → AreBlocks old a → AreBlocks old b
    → Gives old one z 0 1 → IsNought one z
    → Planned one two bits (λ _. 1) (old.space * length a) (old.space * length a) 1 (Each a) (λ xs j. bit_at (number_held one a xs) j)
    → Planned two three rest (λ _. 2 ^ two.space - 1) (length b) (length bits * div_step_jobs (length b)) (length bits * div_step_depth (length b)) (loop_operands bits b z) (rest_says two bits b (length bits))
    → Planned two three borrows (λ _. 1) (length bits) (length bits * div_step_jobs (length b)) (length bits * div_step_depth (length b)) (loop_operands bits b z) (borrow_says two bits b)
    → Planned three new quot (λ _. 2 ^ three.space - 1) (length a) (length a) 1 (Each borrows) (digit_says three borrows)
    → DivisionIs old new a b quot rest
division_is old one two three new a b bits rest borrows quot z bounded same ka kb g0 nought p1 p2r p2b p3 =
    let s : ℕ = old.space in
    let u : ℕ = 2 ^ s in
    let n : ℕ = length a in
    let w : ℕ = s * n in
    let J : ℕ = div_step_jobs n in
    let D : ℕ = div_step_depth n in
    let O : (ℕ → Type 0) → Type 0 = EachOf a b in
    let A : List ℕ → ℕ = number_held old a in
    let B : List ℕ → ℕ = number_held old b in
    let e0 : Extends old one = g0.extends in
    let q0 : Planned old one (z ∷ []) (λ _. 0) 1 1 1 O (λ xs _. 0) =
    planned_one old one z 0 1 1 O (λ xs. 0) g0 (λ d o. omega (arith, nought.shallow)) (λ xs v. nought_value one z xs g0.bounded nought (within_now old one e0 xs v)) in
    let size : length bits ≡ w = p1.count_is in
    let q1 : Planned old two bits (λ _. 1) w (1 + w) 1 O (λ xs j. bit_at (A xs) j) =
    planned_later old one two (z ∷ []) bits (λ _. 0) (λ _. 1) 1 w 1 w 1 0 1 1 O (Each a) (λ xs _. 0) (λ xs j. bit_at (number_held one a xs) j) (λ xs j. bit_at (A xs) j)
    (omega arith) (omega arith) q0 p1
    (λ d o. depths_later old one a d 0 (u - 1) e0 ka o.0)
    (λ xs v i q. ap (λ x. bit_at x i) (held_same old one a xs e0 ka v)) in
    let e1 : Extends old two = q1.extends in
    let e01 : Extends one two = p1.extends in
    let small : (xs : List ℕ) → AreInputs old xs → A xs < 2 ^ w = λ xs v. held_small old a bounded ka xs v in
    let p2rs : Planned two three rest (λ _. u - 1) n (w * J) (w * D) (loop_operands bits b z) (λ xs i. digit_at s (remainder (leading (cell_value two bits xs) w w) (number_held two b xs)) i) =
    subst (λ (k : ℕ). Planned two three rest (λ _. 2 ^ k - 1) n (w * J) (w * D) (loop_operands bits b z) (λ xs i. digit_at k (remainder (leading (cell_value two bits xs) w w) (number_held two b xs)) i)) e1.space
    (subst (λ (w : ℕ). Planned two three rest (λ _. 2 ^ two.space - 1) n (w * J) (w * D) (loop_operands bits b z) (λ xs i. digit_at two.space (remainder (leading (cell_value two bits xs) w w) (number_held two b xs)) i)) size
    (subst (λ (m : ℕ). Planned two three rest (λ _. 2 ^ two.space - 1) m (length bits * div_step_jobs m) (length bits * div_step_depth m) (loop_operands bits b z) (rest_says two bits b (length bits))) same p2r)) in
    let p2bs : Planned two three borrows (λ _. 1) w (w * J) (w * D) (loop_operands bits b z) (λ xs k. borrow_at (cell_value two bits xs) w (number_held two b xs) k) =
    subst (λ (w : ℕ). Planned two three borrows (λ _. 1) w (w * J) (w * D) (loop_operands bits b z) (λ xs k. borrow_at (cell_value two bits xs) w (number_held two b xs) k)) size
    (subst (λ (m : ℕ). Planned two three borrows (λ _. 1) (length bits) (length bits * div_step_jobs m) (length bits * div_step_depth m) (loop_operands bits b z) (borrow_says two bits b)) same p2b) in
    let deep : (d : ℕ) → O (λ o. depth old o ≤ d) → loop_operands bits b z (λ o. depth two o ≤ d + 1) = λ d o. (
      q1.deep_cells d o,
      depths_later old two b d 1 (u - 1) e1 kb o.1,
      (let x : depth two z ≡ depth one z = e01.depths z nought.cell.there in let y : depth one z ≤ 1 = nought.shallow in omega arith),
    ) in
    let one_first : 1 ≤ 1 + w * D = omega arith in
    let then : 1 + w * D ≤ 1 + w * D = omega arith in
    let q2r : Planned old three rest (λ _. u - 1) n (1 + w + w * J) (1 + w * D) O (λ xs i. digit_at s (remainder (A xs) (B xs)) i) =
    planned_later old two three bits rest (λ _. 1) (λ _. u - 1) w n (1 + w) (w * J) 1 1 (w * D) (1 + w * D) O (loop_operands bits b z) (λ xs j. bit_at (A xs) j)
    (λ xs i. digit_at s (remainder (leading (cell_value two bits xs) w w) (number_held two b xs)) i) (λ xs i. digit_at s (remainder (A xs) (B xs)) i)
    one_first then q1 p2rs deep
    (λ xs v i q.
    ap (λ y. digit_at s (remainder (leading (cell_value two bits xs) w w) y) i) (held_same old two b xs e1 kb v)
    ∙ ap (λ x. digit_at s (remainder x (B xs)) i) (leading_same (cell_value two bits xs) (bit_at (A xs)) w w (λ j l. q1.values_are xs v j l) (omega arith) ∙ leading_bits w (A xs) (small xs v))) in
    let q2b : Planned old three borrows (λ _. 1) w (1 + w + w * J) (1 + w * D) O (λ xs k. borrow_at (bit_at (A xs)) w (B xs) k) =
    planned_later old two three bits borrows (λ _. 1) (λ _. 1) w w (1 + w) (w * J) 1 1 (w * D) (1 + w * D) O (loop_operands bits b z) (λ xs j. bit_at (A xs) j)
    (λ xs k. borrow_at (cell_value two bits xs) w (number_held two b xs) k) (λ xs k. borrow_at (bit_at (A xs)) w (B xs) k)
    one_first then q1 p2bs deep
    (λ xs v i q. borrow_same (cell_value two bits xs) (bit_at (A xs)) w (number_held two b xs) (B xs) i (λ j l. q1.values_are xs v j l) (held_same old two b xs e1 kb v) q) in
    let e2 : Extends old three = q2b.extends in
    let count : length borrows ≡ w = q2b.count_is in
    let says : List ℕ → ℕ → ℕ = λ xs i. u - 1 - number 2 s (λ k. borrow_at (bit_at (A xs)) w (B xs) (w - 1 - (s * i + k))) in
    let p3s : Planned three new quot (λ _. u - 1) n n 1 (Each borrows) (λ xs i. u - 1 - number 2 s (λ k. cell_value three borrows xs (w - 1 - (s * i + k)))) =
    subst (λ (w : ℕ). Planned three new quot (λ _. u - 1) n n 1 (Each borrows) (λ xs i. u - 1 - number 2 s (λ k. cell_value three borrows xs (w - 1 - (s * i + k))))) count
    (subst (λ (k : ℕ). Planned three new quot (λ _. 2 ^ k - 1) n n 1 (Each borrows) (λ xs i. 2 ^ k - 1 - number 2 k (λ j. cell_value three borrows xs (length borrows - 1 - (k * i + j))))) e2.space p3) in
    let q3 : Planned old new quot (λ _. u - 1) n (1 + w + w * J + n) (1 + w * D + 1) O says =
    planned_then old three new borrows quot (λ _. 1) (λ _. u - 1) w n (1 + w + w * J) n (1 + w * D) 1 O (λ xs k. borrow_at (bit_at (A xs)) w (B xs) k)
    (λ xs i. u - 1 - number 2 s (λ k. cell_value three borrows xs (w - 1 - (s * i + k)))) says q2b p3s
    (λ xs v i q.
    ap (λ x. u - 1 - x) (number_same 2 s (λ k. cell_value three borrows xs (w - 1 - (s * i + k))) (λ k. borrow_at (bit_at (A xs)) w (B xs) (w - 1 - (s * i + k)))
    (λ k l. q2b.values_are xs v (w - 1 - (s * i + k)) (below_width s n i q l)))) in
    let said : Planned old new quot (λ _. u - 1) n (1 + w + w * J + n) (1 + w * D + 1) O (λ xs i. digit_at s (quotient w (A xs) (B xs)) i) =
    planned_digits old new quot n (1 + w + w * J + n) (1 + w * D + 1) O says (λ xs. quotient w (A xs) (B xs))
    (λ xs v.
    let below : number u n (says xs) < u ^ n = number_below u n (says xs) (λ i q. omega (arith, pow_pos s)) in
    sym (mod-eq_of_lt below) ∙ ap (λ x. x % u ^ n) (quotient_number s n (A xs) (B xs) (small xs v))) q3 in
    let jobs : 1 + w + w * J + n ≤ div_jobs s n = totals (w * J) w n in
    let levels : 1 + w * D + 1 ≤ div_depth s n = omega arith in
    let quotient_is : Planned old new quot (λ _. u - 1) n (div_jobs s n) (div_depth s n) O (λ xs i. digit_at s (quotient w (A xs) (B xs)) i) =
    planned_weaken old new quot (λ _. u - 1) n (1 + w + w * J + n) (div_jobs s n) (1 + w * D + 1) (div_depth s n) O O (λ xs i. digit_at s (quotient w (A xs) (B xs)) i) jobs levels (λ d o. o) said in
    let deeper : 1 + w * D ≤ div_depth s n = omega arith in
    record {
      quotient_is = quotient_is;
      remainder_is =
          planned_among old three new rest quot (λ _. u - 1) (λ _. u - 1) n n (1 + w + w * J) (div_jobs s n) (1 + w * D) (div_depth s n) O (λ xs i. digit_at s (remainder (A xs) (B xs)) i)
          (λ xs i. digit_at s (quotient w (A xs) (B xs)) i) deeper q2r p3.extends quotient_is;
    }
