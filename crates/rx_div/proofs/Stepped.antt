-- A step of a division, of its parts.
use Rattle.std.proofs.Common.{false, ◌≡◌, ◌^◌, ℕ, zero, suc, ◌+◌, ◌-◌, ◌*◌, ◌/◌, ◌%◌, ◌<◌, ◌≤◌, List, [], ◌∷◌, ◌++◌, length, get_or, take, replicate, refl, sym, ◌∙◌, ap, arith, subst}
use Rattle.std.proofs.lemmas.List.{length-take-le}
use Rattle.std.proofs.lemmas.Nat.{pow_pos, mul-le, mod_below, div-add-mod'}
use Rattle.rx_params.specs.Kinds.{digit_at}
use Rattle.rx_net.specs.declared.net.Net.{Net}
use Rattle.rx_net.specs.Cells.{value, depth}
use Rattle.rx_net.specs.Legal.{IsBounded}
use Rattle.rx_net.specs.Growth.{Extends}
use Rattle.rx_net.proofs.Grows.{extends_same, extends_onward}
use Rattle.rx_costs.specs.Logs.{log_up}
use Rattle.rx_costs.specs.Table.{add_jobs, add_depth, compare_jobs, compare_depth, select_jobs, select_depth, div_step_jobs, div_step_depth}
use Rattle.rx_costs.proofs.Exponents.{log_least}
use Rattle.rx_plan.specs.Values.{AreInputs, number_held, cell_value}
use Rattle.rx_plan.specs.Planned.{Each, EachOf, IsCell, AreBlocks, Planned}
use Rattle.rx_plan.specs.Results.{GivesNumber}
use Rattle.rx_plan.specs.Rows.{IsNought}
use Rattle.rx_plan.proofs.Kept.{within_now, blocks_now, depths_later}
use Rattle.rx_plan.proofs.Planned.{planned_same, planned_weaken}
use Rattle.rx_plan.proofs.Given.{planned_number}
use Rattle.rx_plan.proofs.Held.{held_same, low_digits, digit_under}
use Rattle.rx_bits.proofs.MovedBlocks.{each_take}
use Rattle.rx_carry.specs.declared.operation.Operation.TheVariants.{Difference}
use Rattle.rx_carry.specs.Carries.{is_less, flipped, passed, joint}
use Rattle.rx_carry.proofs.Summed.{less_out}
use Rattle.rx_cmp.specs.Selection.{chosen}
use Rattle.rx_cmp.proofs.Chosen.{chosen_of}
use Rattle.rx_div.specs.Steps.{taken_in, reduced}
use Rattle.rx_div.proofs.Composed.{planned_later, planned_among}
use Rattle.rx_div.proofs.Padded.{padded_each, padded_number, nought_value, low_number}

-- ---- what public planners gave into an empty list
pub fresh_number : (old new : Net) (start out : List ℕ) (count jobs levels : ℕ) (O : (ℕ → Type 0) → Type 0) (whole : List ℕ → ℕ) → start ≡ []
    → GivesNumber old new start out count jobs levels O whole → Planned old new out (λ _. 2 ^ old.space - 1) count jobs levels O (λ xs i. digit_at old.space (whole xs) i)
fresh_number old new start out count jobs levels O whole e h =
    let g : GivesNumber old new [] out count jobs levels O whole = subst (λ (start : List ℕ). GivesNumber old new start out count jobs levels O whole) e h in
    subst (λ (cs : List ℕ). Planned old new cs (λ _. 2 ^ old.space - 1) count jobs levels O (λ xs i. digit_at old.space (whole xs) i)) (sym g.kept) g.blocks

-- ---- the borrow, over a number with cells of 0 above it
pub borrow_planned : (old new : Net) (number b ds : List ℕ) (k z c : ℕ) → IsBounded old → ds ≡ number ++ replicate k z → length ds ≡ length b → IsNought old z
    → Planned old new (c ∷ []) (λ _. 1) 1 (compare_jobs (length ds)) (compare_depth (length ds)) (EachOf ds b)
    (λ xs _. flipped false (passed Difference (2 ^ (old.space * length ds)) (joint Difference (2 ^ (old.space * length ds)) (number_held old ds xs) (number_held old b xs) 0)))
    → Planned old new (c ∷ []) (λ _. 1) 1 (compare_jobs (length b)) (compare_depth (length b)) (λ P. Each number P × Each b P × P z)
    (λ xs _. is_less (number_held old number xs) (number_held old b xs))
borrow_planned old new number b ds k z c bounded full size nought p =
    let O : (ℕ → Type 0) → Type 0 = λ (P : ℕ → Type 0). Each number P × Each b P × P z in
    let u : ℕ = 2 ^ (old.space * length ds) in
    let says : List ℕ → ℕ → ℕ = λ xs _. is_less (number_held old number xs) (number_held old b xs) in
    subst (λ (n : ℕ). Planned old new (c ∷ []) (λ _. 1) 1 (compare_jobs n) (compare_depth n) O says) size
    (planned_weaken old new (c ∷ []) (λ _. 1) 1 (compare_jobs (length ds)) (compare_jobs (length ds)) (compare_depth (length ds)) (compare_depth (length ds)) (EachOf ds b) O says (omega arith) (omega arith)
    (λ d o. (subst (λ (ds : List ℕ). Each ds (λ o. depth old o ≤ d)) (sym full) (padded_each number k z (λ o. depth old o ≤ d) o.0 o.2), o.1))
    (planned_same old new (c ∷ []) (λ _. 1) (λ _. 1) 1 (compare_jobs (length ds)) (compare_depth (length ds)) (EachOf ds b)
    (λ xs _. flipped false (passed Difference u (joint Difference u (number_held old ds xs) (number_held old b xs) 0))) says
    (λ i q. omega arith)
    (λ xs w i q.
    less_out u (number_held old ds xs) (number_held old b xs) (pow_pos (old.space * length ds))
    ∙ ap (λ ds. is_less (number_held old ds xs) (number_held old b xs)) full
    ∙ ap (λ n. is_less n (number_held old b xs)) (padded_number old number xs k z (nought_value old z xs bounded nought w)))
    p))

-- ---- jobs and levels
log_mono : (a b : ℕ) → a ≤ b → log_up 2 a ≤ log_up 2 b
log_mono a b h = let e : b ≤ 2 ^ log_up 2 b = (log_least 2 b (omega arith)).enough in (log_least 2 a (omega arith)).least (log_up 2 b) (omega arith)

pub step_jobs : (n b : ℕ) → 1 ≤ n → n ≤ b → n + compare_jobs b + add_jobs n + select_jobs n ≤ div_step_jobs b
step_jobs n b l h =
    let m : (n - 1) * log_up 2 n ≤ b * log_up 2 (b + 1) = mul-le (n - 1) (log_up 2 n) b (log_up 2 (b + 1)) (omega arith) (log_mono n (b + 1) (omega arith)) in
    omega arith

-- ---- numbers

-- the low digits of what a power leaves
left_digit : (m n z i : ℕ) → i < n → digit_at m (z % 2 ^ (m * n)) i ≡ digit_at m z i
left_digit m n z i l =
    let p : ℕ = 2 ^ (m * n) in
    let d : z / p * p + z % p ≡ z = div-add-mod' z p in
    let e : z ≡ z % p + p * (z / p) = omega arith in
    sym (ap (λ y. digit_at m y i) e ∙ digit_under m n (z % p) (z / p) i l)

chosen_digit : (m n c x y i : ℕ) → i < n → digit_at m (chosen c x (y % 2 ^ (m * n))) i ≡ digit_at m (chosen c x y) i
chosen_digit m n c x y i l =
    chosen_of (λ z. digit_at m z i) c x (y % 2 ^ (m * n))
    ∙ ap (λ v. chosen c (digit_at m x i) v) (left_digit m n y i l)
    ∙ sym (chosen_of (λ z. digit_at m z i) c x y)

-- blocks that hold the digits of a number, later
held_digits : (old now later : Net) (cs : List ℕ) (count jobs levels : ℕ) (O : (ℕ → Type 0) → Type 0) (f : List ℕ → ℕ) → Extends now later
    → Planned old now cs (λ _. 2 ^ old.space - 1) count jobs levels O (λ xs i. digit_at old.space (f xs) i)
    → (xs : List ℕ) → AreInputs old xs → number_held later cs xs ≡ f xs % 2 ^ (old.space * count)
held_digits old now later cs count jobs levels O f e p xs w =
    let blocks : AreBlocks now cs = subst (λ (s : ℕ). (i : ℕ) → i < length cs → IsCell now (2 ^ s - 1) (get_or cs i 0)) (sym p.extends.space) p.cells_are in
    held_same now later cs xs e blocks (within_now old now p.extends xs w)
    ∙ planned_number old now cs (λ _. 2 ^ old.space - 1) count jobs levels O (λ xs i. digit_at old.space (f xs) i) p xs w
    ∙ low_digits old.space count (f xs)

pub blocks_given : (old new : Net) (cs : List ℕ) (count jobs levels : ℕ) (O : (ℕ → Type 0) → Type 0) (f : List ℕ → ℕ → ℕ)
    → Planned old new cs (λ _. 2 ^ old.space - 1) count jobs levels O f → AreBlocks new cs
blocks_given old new cs count jobs levels O f p =
    subst (λ (s : ℕ). (i : ℕ) → i < length cs → IsCell new (2 ^ s - 1) (get_or cs i 0)) (sym p.extends.space) p.cells_are

-- ---- the step
abbrev pub step_operands : ℕ → List ℕ → List ℕ → ℕ → (ℕ → Type 0) → Type 0
step_operands bit rest b z P = P bit × Each rest P × Each b P × P z

abbrev pub number_then : Net → List ℕ → ℕ → List ℕ → ℕ
number_then p rest bit xs = taken_in (p.space * length rest) (number_held p rest xs) (value p xs bit)

pub record StepIs (old new : Net) (rest b cells : List ℕ) (bit z c : ℕ) : Type 0 where
  pub rest_is : Planned old new cells (λ _. 2 ^ old.space - 1) (length rest) (div_step_jobs (length b)) (div_step_depth (length b)) (step_operands bit rest b z)
      (λ xs i. digit_at old.space (reduced (old.space * length rest) (number_held old b xs) (number_then old rest bit xs)) i)
  pub borrow_is : Planned old new (c ∷ []) (λ _. 1) 1 (div_step_jobs (length b)) (div_step_depth (length b)) (step_operands bit rest b z)
      (λ xs _. is_less (number_then old rest bit xs) (number_held old b xs))

pub step_is : (old one two three new : Net) (rest b number less cells : List ℕ) (bit z c : ℕ) → IsBounded old → 1 ≤ length rest → length rest ≤ length b → AreBlocks old b → IsNought old z
    → Planned old one number (λ _. 2 ^ old.space - 1) (length rest) (length rest) 1 (λ P. P bit × Each rest P) (λ xs i. digit_at old.space (2 * number_held old rest xs + value old xs bit) i)
    → Planned one two (c ∷ []) (λ _. 1) 1 (compare_jobs (length b)) (compare_depth (length b)) (λ P. Each number P × Each b P × P z) (λ xs _. is_less (number_held one number xs) (number_held one b xs))
    → Planned two three less (λ _. 2 ^ two.space - 1) (length number) (add_jobs (length number)) (add_depth (length number)) (EachOf number (take (length rest) b))
    (λ xs i. digit_at two.space (number_held two number xs + 2 ^ (two.space * length number) - number_held two (take (length rest) b) xs) i)
    → Planned three new cells (λ _. 2 ^ three.space - 1) (length number) (select_jobs (length number)) select_depth (λ P. P c × Each number P × Each less P)
    (λ xs i. digit_at three.space (chosen (value three xs c) (number_held three number xs) (number_held three less xs)) i)
    → StepIs old new rest b cells bit z c
step_is old one two three new rest b number less cells bit z c bounded some few kb nought p1 p2 p3g p4g =
    let s : ℕ = old.space in
    let u : ℕ = 2 ^ s in
    let n : ℕ = length rest in
    let w : ℕ = s * n in
    let m : ℕ = length b in
    let L : ℕ = 2 + log_up 2 (m + 1) in
    let O : (ℕ → Type 0) → Type 0 = step_operands bit rest b z in
    let T : List ℕ → ℕ = number_then old rest bit in
    let B : List ℕ → ℕ = number_held old b in
    let Y : List ℕ → ℕ = λ xs. T xs + 2 ^ w - B xs % 2 ^ w in
    let first : List ℕ → ℕ → ℕ = λ xs i. digit_at s (2 * number_held old rest xs + value old xs bit) i in
    let borrow : List ℕ → ℕ → ℕ = λ xs _. is_less (T xs) (B xs) in
    let says : List ℕ → ℕ → ℕ = λ xs i. digit_at s (reduced w (B xs) (T xs)) i in
    let logn : log_up 2 n ≤ log_up 2 (m + 1) = log_mono n (m + 1) (omega arith) in
    let logm : log_up 2 m ≤ log_up 2 (m + 1) = log_mono m (m + 1) (omega arith) in
    let e1 : Extends old one = p1.extends in
    let size : length number ≡ n = p1.count_is in
    let q1 = planned_weaken old one number (λ _. u - 1) n n n 1 1 (λ P. P bit × Each rest P) O first (omega arith) (omega arith) (λ d o. (o.0, o.1)) p1 in
    let q2 : Planned old two (c ∷ []) (λ _. 1) 1 (n + compare_jobs m) (1 + L) O borrow =
    planned_later old one two number (c ∷ []) (λ _. u - 1) (λ _. 1) n 1 n (compare_jobs m) 1 1 (compare_depth m) (1 + L) O (λ P. Each number P × Each b P × P z) first (λ xs _. is_less (number_held one number xs) (number_held one b xs)) borrow
    (omega arith) (omega arith) q1 p2
    (λ d o. (
      q1.deep_cells d o,
      depths_later old one b d 1 (u - 1) e1 kb o.2,
      (let x : depth one z ≡ depth old z = e1.depths z nought.cell.there in let y : depth old z ≤ d = o.3 in omega arith),
    ))
    (λ xs v i q.
    ap (λ t. is_less t (number_held one b xs)) (held_digits old one one number n n 1 (λ P. P bit × Each rest P) (λ xs. 2 * number_held old rest xs + value old xs bit) (extends_same one) p1 xs v)
    ∙ ap (λ y. is_less (T xs) y) (held_same old one b xs e1 kb v)) in
    let e2 : Extends old two = q2.extends in
    let e12 : Extends one two = p2.extends in
    let blocks : AreBlocks one number = subst (λ (s : ℕ). (i : ℕ) → i < length number → IsCell one (2 ^ s - 1) (get_or number i 0)) (sym e1.space) p1.cells_are in
    let p3n : Planned two three less (λ _. 2 ^ two.space - 1) n (add_jobs n) (add_depth n) (EachOf number (take n b)) (λ xs i. digit_at two.space (number_held two number xs + 2 ^ (two.space * n) - number_held two (take n b) xs) i) =
    subst (λ (k : ℕ). Planned two three less (λ _. 2 ^ two.space - 1) k (add_jobs k) (add_depth k) (EachOf number (take n b)) (λ xs i. digit_at two.space (number_held two number xs + 2 ^ (two.space * k) - number_held two (take n b) xs) i)) size p3g in
    let p3 : Planned two three less (λ _. u - 1) n (add_jobs n) (add_depth n) (EachOf number (take n b)) (λ xs i. digit_at s (number_held two number xs + 2 ^ (s * n) - number_held two (take n b) xs) i) =
    subst (λ (s : ℕ). Planned two three less (λ _. 2 ^ s - 1) n (add_jobs n) (add_depth n) (EachOf number (take n b)) (λ xs i. digit_at s (number_held two number xs + 2 ^ (s * n) - number_held two (take n b) xs) i)) e2.space p3n in
    let low : (xs : List ℕ) → AreInputs old xs → number_held two (take n b) xs ≡ B xs % 2 ^ w = λ xs v.
    low_number two b xs n q2.bounded (blocks_now old two b e2 kb) (within_now old two e2 xs v) few
    ∙ ap (λ y. y % 2 ^ (two.space * n)) (held_same old two b xs e2 kb v)
    ∙ ap (λ s. B xs % 2 ^ (s * n)) e2.space in
    let deep2 : (d : ℕ) → O (λ o. depth old o ≤ d) → Each number (λ o. depth two o ≤ d + 1) = λ d o i q.
    let x : depth two (get_or number i 0) ≡ depth one (get_or number i 0) = e12.depths (get_or number i 0) (blocks i q).there in
    let y : depth one (get_or number i 0) ≤ d + 1 = q1.deep_cells d o i q in
    omega arith in
    let q3 : Planned old three less (λ _. u - 1) n (n + compare_jobs m + add_jobs n) (1 + L) O (λ xs i. digit_at s (Y xs) i) =
    planned_later old two three (c ∷ []) less (λ _. 1) (λ _. u - 1) 1 n (n + compare_jobs m) (add_jobs n) (1 + L) 1 (add_depth n) (1 + L) O (EachOf number (take n b)) borrow
    (λ xs i. digit_at s (number_held two number xs + 2 ^ (s * n) - number_held two (take n b) xs) i) (λ xs i. digit_at s (Y xs) i)
    (omega arith) (omega arith) q2 p3
    (λ d o. (deep2 d o, each_take n b (λ o. depth two o ≤ d + 1) few (depths_later old two b d 1 (u - 1) e2 kb o.2)))
    (λ xs v i q.
    ap (λ t. digit_at s (t + 2 ^ w - number_held two (take n b) xs) i) (held_digits old one two number n n 1 (λ P. P bit × Each rest P) (λ xs. 2 * number_held old rest xs + value old xs bit) e12 p1 xs v)
    ∙ ap (λ y. digit_at s (T xs + 2 ^ w - y) i) (low xs v)) in
    let e3 : Extends old three = q3.extends in
    let e23 : Extends two three = p3g.extends in
    let e13 : Extends one three = extends_onward one two three e12 e23 in
    let p4n : Planned three new cells (λ _. 2 ^ three.space - 1) n (select_jobs n) select_depth (λ P. P c × Each number P × Each less P) (λ xs i. digit_at three.space (chosen (value three xs c) (number_held three number xs) (number_held three less xs)) i) =
    subst (λ (n : ℕ). Planned three new cells (λ _. 2 ^ three.space - 1) n (select_jobs n) select_depth (λ P. P c × Each number P × Each less P) (λ xs i. digit_at three.space (chosen (value three xs c) (number_held three number xs) (number_held three less xs)) i)) size p4g in
    let p4 : Planned three new cells (λ _. u - 1) n (select_jobs n) select_depth (λ P. P c × Each number P × Each less P) (λ xs i. digit_at s (chosen (value three xs c) (number_held three number xs) (number_held three less xs)) i) =
    subst (λ (s : ℕ). Planned three new cells (λ _. 2 ^ s - 1) n (select_jobs n) select_depth (λ P. P c × Each number P × Each less P) (λ xs i. digit_at s (chosen (value three xs c) (number_held three number xs) (number_held three less xs)) i)) e3.space p4n in
    let there : IsCell two 1 c = q2.cells_are 0 (omega arith) in
    let q4 : Planned old new cells (λ _. u - 1) n (n + compare_jobs m + add_jobs n + select_jobs n) (3 + L) O says =
    planned_later old three new less cells (λ _. u - 1) (λ _. u - 1) n n (n + compare_jobs m + add_jobs n) (select_jobs n) (1 + L) (1 + L) 2 (3 + L) O (λ P. P c × Each number P × Each less P) (λ xs i. digit_at s (Y xs) i)
    (λ xs i. digit_at s (chosen (value three xs c) (number_held three number xs) (number_held three less xs)) i) says
    (omega arith) (omega arith) q3 p4
    (λ d o. (
      (let x : depth three c ≡ depth two c = e23.depths c there.there in let y : depth two c ≤ d + (1 + L) = q2.deep_cells d o 0 (omega arith) in omega arith),
      (λ i q.
          let x : depth three (get_or number i 0) ≡ depth one (get_or number i 0) = e13.depths (get_or number i 0) (blocks i q).there in
          let y : depth one (get_or number i 0) ≤ d + 1 = q1.deep_cells d o i q in
          omega arith),
      q3.deep_cells d o,
    ))
    (λ xs v i q.
    let bit_is : value three xs c ≡ is_less (T xs) (B xs) = e23.values xs (within_now old two e2 xs v) c there.there ∙ q2.values_are xs v 0 (omega arith) in
    let one_is : number_held three number xs ≡ T xs = held_digits old one three number n n 1 (λ P. P bit × Each rest P) (λ xs. 2 * number_held old rest xs + value old xs bit) e13 p1 xs v in
    let less_is : number_held three less xs ≡ Y xs % 2 ^ w = held_digits old three three less n (n + compare_jobs m + add_jobs n) (1 + L) O Y (extends_same three) q3 xs v in
    ap (λ k. digit_at s (chosen k (number_held three number xs) (number_held three less xs)) i) bit_is
    ∙ ap (λ x. digit_at s (chosen (is_less (T xs) (B xs)) x (number_held three less xs)) i) one_is
    ∙ ap (λ y. digit_at s (chosen (is_less (T xs) (B xs)) (T xs) y) i) less_is
    ∙ chosen_digit s n (is_less (T xs) (B xs)) (T xs) (Y xs) i q) in
    let jobs : n + compare_jobs m + add_jobs n + select_jobs n ≤ div_step_jobs m = step_jobs n m some few in
    let levels : 3 + L ≤ div_step_depth m = omega arith in
    let rest_is : Planned old new cells (λ _. u - 1) n (div_step_jobs m) (div_step_depth m) O says =
    planned_weaken old new cells (λ _. u - 1) n (n + compare_jobs m + add_jobs n + select_jobs n) (div_step_jobs m) (3 + L) (div_step_depth m) O O says jobs levels (λ d o. o) q4 in
    record {
      rest_is = rest_is;
      borrow_is = planned_among old two new (c ∷ []) cells (λ _. 1) (λ _. u - 1) 1 n (n + compare_jobs m) (div_step_jobs m) (1 + L) (div_step_depth m) O borrow says (omega arith) q2 (extends_onward two three new e23 p4g.extends) rest_is;
    }
