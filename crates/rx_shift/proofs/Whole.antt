-- A whole shift: the stages of the low bits of the amount, and what the flag of the others clears.
use Rattle.std.proofs.Common.{◌≡◌, ◌^◌, ℕ, zero, suc, ◌+◌, ◌-◌, ◌*◌, ◌/◌, ◌%◌, ◌<◌, ◌≤◌, inl, inr, List, [], ◌∷◌, length, get_or, refl, sym, ◌∙◌, ap, arith, subst}
use Rattle.std.proofs.lemmas.Bool.{cases_lt}
use Rattle.std.proofs.lemmas.Nat.{mul-le, pow_pos, pow-add, mod_below, le-div}
use Rattle.std.proofs.Math.Nat.{mod-eq_of_lt, div-eq_of_lt, pow-suc, pow-le-pow_right}
use Rattle.rx_params.specs.Kinds.{digit_at}
use Rattle.rx_net.specs.declared.net.Net.{Net}
use Rattle.rx_net.specs.Cells.{value, depth}
use Rattle.rx_net.specs.Legal.{IsBounded}
use Rattle.rx_net.specs.Growth.{Extends}
use Rattle.rx_net.proofs.Grows.{extends_onward}
use Rattle.rx_costs.specs.Logs.{log_up, IsLogUp}
use Rattle.rx_costs.specs.Table.{amount_shift_jobs, amount_shift_depth}
use Rattle.rx_costs.proofs.Exponents.{log_least}
use Rattle.rx_plan.specs.Values.{AreInputs, cell_value, number, number_held}
use Rattle.rx_plan.specs.Planned.{Each, EachOf, IsCell, AreBlocks, Gives, Planned}
use Rattle.rx_plan.specs.Rows.{IsNought}
use Rattle.rx_plan.proofs.Kept.{within_now, depths_kept, depths_later}
use Rattle.rx_plan.proofs.Planned.{planned_same, planned_weaken, planned_chain, planned_under, planned_one}
use Rattle.rx_plan.proofs.Numbers.{number_same, number_digits}
use Rattle.rx_plan.proofs.Held.{digit_below, held_same, held_small}
use Rattle.rx_plan.proofs.RowCells.{nought_is}
use Rattle.rx_bits.proofs.Digits.{raised_below}
use Rattle.rx_cmp.specs.Selection.{kept_entry}
use Rattle.rx_cmp.specs.Groups.{is_some}
use Rattle.rx_shift.specs.Amount.{bit_at, is_wide}
use Rattle.rx_shift.specs.declared.direction.Direction.{Direction}
use Rattle.rx_shift.specs.declared.direction.Direction.TheVariants.{Up, Down}
use Rattle.rx_shift.specs.Shifts.{moved, stage_jobs, moving_jobs}
use Rattle.rx_shift.proofs.Parts.{kept_yes, kept_no}
use Rattle.rx_shift.proofs.Staging.{stages_say}

-- ---- the number of the low bits

abbrev pub low_says : Net → Direction → List ℕ → List ℕ → ℕ → List ℕ → ℕ → ℕ
low_says p d a amount count xs i = digit_at p.space (moved d (number_held p a xs) (number_held p amount xs % 2 ^ count)) i

pub low_planned : (old one two new : Net) (d : Direction) (a amount bits cells : List ℕ) (c count : ℕ) → IsBounded old → AreBlocks old a
    → Planned old one bits (λ _. 1) count count 1 (Each amount) (λ xs j. bit_at (number_held old amount xs) j)
    → Gives one two c 0 1 → IsNought two c
    → Planned two new cells (λ _. 2 ^ two.space - 1) (length a) (length bits * stage_jobs (length a)) (2 * length bits) (EachOf a bits) (stages_say two d a bits (length bits))
    → Planned old new cells (λ _. 2 ^ old.space - 1) (length a) (moving_jobs count (length a)) (1 + 2 * count) (EachOf a amount) (low_says old d a amount count)
low_planned old one two new d a amount bits cells c count bounded ka p g z q =
    let s : ℕ = old.space in
    let u : ℕ = 2 ^ s in
    let n : ℕ = length a in
    let O : (ℕ → Type 0) → Type 0 = EachOf a amount in
    let says : List ℕ → ℕ → ℕ = low_says old d a amount count in
    let e12 : Extends one two = g.extends in
    let e : Extends old two = extends_onward old one two p.extends e12 in
    let k : length bits ≡ count = p.count_is in
    let pb : Planned old one bits (λ _. 1) count count 1 O (λ xs j. bit_at (number_held old amount xs) j) =
    planned_weaken old one bits (λ _. 1) count count count 1 1 (Each amount) O (λ xs j. bit_at (number_held old amount xs) j) (omega arith) (omega arith) (λ g o. o.1) p in
    let pz : Planned one two (c ∷ []) (λ _. 0) 1 1 1 (λ _. Unit {0}) (λ xs _. 0) =
    planned_one one two c 0 1 1 (λ _. Unit {0}) (λ _. 0) g (λ g o. omega (arith, z.shallow)) (λ xs w. nought_is two c g.bounded z xs (within_now one two e12 xs w)) in
    let pbz : Planned old two (c ∷ []) (λ _. 0) 1 (count + 1) 1 O (λ xs _. 0) =
    planned_under old one two bits (c ∷ []) (λ _. 1) (λ _. 0) count 1 count 1 1 O (λ _. Unit {0}) (λ xs j. bit_at (number_held old amount xs) j) (λ xs _. 0) (λ xs _. 0) pb pz (λ g o. tt) (λ xs w i r. refl) in
    let t : Planned old new cells (λ _. 2 ^ two.space - 1) n (count + 1 + length bits * stage_jobs n) (1 + 2 * length bits) O says =
    planned_chain old two new (c ∷ []) cells (λ _. 0) (λ _. 2 ^ two.space - 1) 1 n (count + 1) (length bits * stage_jobs n) 1 (2 * length bits) O (EachOf a bits) (λ xs _. 0) (stages_say two d a bits (length bits)) says pbz q
    (λ g o. (
      depths_later old two a g 1 (u - 1) e ka o.0,
      (λ i r.
          let x : depth two (get_or bits i 0) ≡ depth one (get_or bits i 0) = e12.depths (get_or bits i 0) (p.cells_are i r).there in
          let y : depth one (get_or bits i 0) ≤ g + 1 = pb.deep_cells g o i r in
          omega arith),
    ))
    (λ xs w i r.
    let w1 : AreInputs one xs = within_now old one p.extends xs w in
    let zed : ℕ = number_held old amount xs in
    let m : number 2 (length bits) (cell_value two bits xs) ≡ zed % 2 ^ count =
    ap (λ k. number 2 k (cell_value two bits xs)) k
    ∙ number_same 2 count (cell_value two bits xs) (λ j. zed / 2 ^ j % 2) (λ j v. e12.values xs w1 (get_or bits j 0) (p.cells_are j (omega arith)).there ∙ p.values_are xs w j v)
    ∙ number_digits 2 count zed (omega arith) in
    ap (λ s. digit_at s (moved d (number_held two a xs) (number 2 (length bits) (cell_value two bits xs))) i) e.space
    ∙ ap (λ x. digit_at s (moved d x (number 2 (length bits) (cell_value two bits xs))) i) (held_same old two a xs e ka w)
    ∙ ap (λ x. digit_at s (moved d (number_held old a xs) x) i) m) in
    let top : 2 ^ two.space - 1 ≡ u - 1 = ap (λ s. 2 ^ s - 1) e.space in
    let jobs : length bits * stage_jobs n ≡ count * stage_jobs n = ap (λ k. k * stage_jobs n) k in
    planned_weaken old new cells (λ _. u - 1) n (count + 1 + length bits * stage_jobs n) (moving_jobs count n) (1 + 2 * length bits) (1 + 2 * count) O O says (omega arith) (omega arith) (λ g o. o)
    (planned_same old new cells (λ _. 2 ^ two.space - 1) (λ _. u - 1) n (count + 1 + length bits * stage_jobs n) (1 + 2 * length bits) O says says (λ i r. omega arith) (λ xs w i r. refl) t)

-- ---- what the flag clears

-- a number that is moved by its width or more
moved_out : (d : Direction) (m n a z i : ℕ) → a < 2 ^ (m * n) → m * n ≤ z → i < n → digit_at m (moved d a z) i ≡ 0
moved_out Up m n a z i h l r =
    let e : m * suc i ≤ m * n = mul-le m (suc i) m n (omega arith) r in
    raised_below m z a i (omega arith)
moved_out Down m n a z i h l r =
    let p : 2 ^ (m * n) ≤ 2 ^ z = pow-le-pow_right {n = 2} (omega arith) l in
    let e : a / 2 ^ z ≡ 0 = div-eq_of_lt (omega arith) in
    let o : 0 / 2 ^ (m * i) ≡ 0 = div-eq_of_lt (pow_pos (m * i)) in
    ap (λ x. x / 2 ^ (m * i) % 2 ^ m) e ∙ ap (λ x. x % 2 ^ m) o ∙ mod-eq_of_lt (pow_pos m)

some_is : (x : ℕ) → 1 ≤ x → is_some x ≡ 1
some_is zero h = absurd (omega arith)
some_is (suc x) h = refl

none_is : (x : ℕ) → x ≡ 0 → is_some x ≡ 0
none_is zero h = refl
none_is (suc x) h = absurd (omega arith)

cleared_is : (d : Direction) (m n k a z i : ℕ) → a < 2 ^ (m * n) → m * n ≤ 2 ^ k → i < n
    → kept_entry 0 (2 ^ m) (2 ^ m * is_wide z k + digit_at m (moved d a (z % 2 ^ k)) i) ≡ digit_at m (moved d a z) i
cleared_is d m n k a z i h l r =
    let w : ℕ = 2 ^ k in
    let x : ℕ = digit_at m (moved d a (z % w)) i in
    let b : x < 2 ^ m = digit_below m (moved d a (z % w)) i in
    elim (cases_lt z w) [
      | inl s ↦ kept_yes 0 (2 ^ m) (is_wide z k) x b (none_is (z / w) (div-eq_of_lt s)) ∙ ap (λ y. digit_at m (moved d a y) i) (mod-eq_of_lt s)
      | inr s ↦
          let o : 1 ≤ z / w = le-div 1 z w (pow_pos k) (omega arith) in
          let f : is_wide z k ≡ 1 = some_is (z / w) o in
          kept_no 0 (2 ^ m) (is_wide z k) x b (λ e. absurd (omega arith)) ∙ sym (moved_out d m n a z i h (omega arith) r)
    ]

-- ---- how many bits are looked at one by one

pub log_enough : (w : ℕ) → w ≤ 2 ^ log_up 2 w
log_enough w = (log_least 2 w (omega arith)).enough

pub log_some : (w : ℕ) → 2 ≤ w → 1 ≤ log_up 2 w
log_some w h =
    let e : w ≤ 2 ^ log_up 2 w = log_enough w in
    elim (cases_lt 0 (log_up 2 w)) [
      | inl l ↦ l
      | inr l ↦ let z : log_up 2 w ≡ 0 = omega arith in let p : 2 ^ log_up 2 w ≡ 1 = ap (λ k. 2 ^ k) z in absurd (omega arith)
    ]

double_power : (t : ℕ) → 2 + t ≤ 2 ^ suc t
double_power zero = omega arith
double_power (suc t) = let i : 2 + t ≤ 2 ^ suc t = double_power t in let e : 2 ^ suc (suc t) ≡ 2 ^ suc t * 2 = pow-suc 2 (suc t) in omega arith

-- fewer than the width
pub log_below : (w : ℕ) → 2 ≤ w → log_up 2 w < w
log_below w h =
    let p : 2 + (w - 2) ≤ 2 ^ suc (w - 2) = double_power (w - 2) in
    let l : log_up 2 w ≤ suc (w - 2) = (log_least 2 w (omega arith)).least (suc (w - 2)) (omega arith) in
    omega arith

-- blocks of two bits or more have one level less than their bits
pub log_less : (m n : ℕ) → 2 ≤ m → 1 ≤ n → log_up 2 n + 1 ≤ log_up 2 (m * n)
log_less m n h l =
    let k : ℕ = log_up 2 (m * n) in
    let mn : 2 * n ≤ m * n = mul-le 2 n m n h (omega arith) in
    let o : 1 ≤ k = log_some (m * n) (omega arith) in
    let e : m * n ≤ 2 ^ k = log_enough (m * n) in
    let s : k ≡ k - 1 + 1 = omega arith in
    let p : 2 ^ k ≡ 2 ^ (k - 1) * 2 = ap (λ k. 2 ^ k) s ∙ pow-add 2 (k - 1) 1 in
    let q : log_up 2 n ≤ k - 1 = (log_least 2 n (omega arith)).least (k - 1) (omega arith) in
    omega arith

-- the jobs of all together
pub whole_jobs : (k n : ℕ) → 1 ≤ k → 1 ≤ n → moving_jobs k n + (n + 1) + n ≤ amount_shift_jobs k n
whole_jobs k n h l =
    let s : 4 * n - 1 + 1 ≡ 4 * n = omega arith in
    let e : k * (4 * n - 1 + 1) ≡ k * (4 * n) = ap (λ x. k * x) s in
    omega arith

abbrev pub whole_says : Net → Direction → List ℕ → List ℕ → List ℕ → ℕ → ℕ
whole_says p d a amount xs i = digit_at p.space (moved d (number_held p a xs) (number_held p amount xs)) i

-- a whole shift
pub whole_planned : (old one two new : Net) (d : Direction) (a amount cells out : List ℕ) (flag k : ℕ) → 2 ≤ old.space → IsBounded old → AreBlocks old a → AreBlocks old amount
    → 1 ≤ length a → length amount ≡ length a → k ≡ log_up 2 (old.space * length a)
    → Planned old one cells (λ _. 2 ^ old.space - 1) (length a) (moving_jobs k (length a)) (1 + 2 * k) (EachOf a amount) (low_says old d a amount k)
    → Planned one two (flag ∷ []) (λ _. 1) 1 (length amount + 1) (2 + log_up 2 (length amount)) (Each amount) (λ xs _. is_wide (number_held one amount xs) k)
    → Planned two new out (λ _. 2 ^ two.space - 1) (length cells) (length cells) 1 (λ P. P flag × Each cells P) (λ xs i. kept_entry 0 (2 ^ two.space) (2 ^ two.space * value two xs flag + cell_value two cells xs i))
    → Planned old new out (λ _. 2 ^ old.space - 1) (length a) (amount_shift_jobs k (length a)) (amount_shift_depth k) (EachOf a amount) (whole_says old d a amount)
whole_planned old one two new d a amount cells out flag k m2 bounded ka kb some same kl p q r =
    let s : ℕ = old.space in
    let u : ℕ = 2 ^ s in
    let n : ℕ = length a in
    let b : ℕ = length amount in
    let l : ℕ = 1 + 2 * k in
    let O : (ℕ → Type 0) → Type 0 = EachOf a amount in
    let says : List ℕ → ℕ → ℕ = whole_says old d a amount in
    let low : List ℕ → ℕ → ℕ = low_says old d a amount k in
    let wide : List ℕ → ℕ → ℕ = λ xs _. is_wide (number_held old amount xs) k in
    let e1 : Extends old one = p.extends in
    let e2 : Extends one two = q.extends in
    let e : Extends old two = extends_onward old one two e1 e2 in
    let c : length cells ≡ n = p.count_is in
    let width : 2 * 1 ≤ s * n = mul-le 2 1 s n m2 some in
    let k1 : 1 ≤ k = omega (arith, log_some (s * n) (omega arith)) in
    let levels : 2 + log_up 2 b ≤ l = (let x : log_up 2 b ≡ log_up 2 n = ap (log_up 2) same in omega (arith, log_less s n m2 some)) in
    let enough : s * n ≤ 2 ^ k = subst (λ (k : ℕ). s * n ≤ 2 ^ k) (sym kl) (log_enough (s * n)) in
    let q' : Planned one two (flag ∷ []) (λ _. 1) 1 (n + 1) l (Each amount) (λ xs _. is_wide (number_held one amount xs) k) =
    planned_weaken one two (flag ∷ []) (λ _. 1) 1 (b + 1) (n + 1) (2 + log_up 2 b) l (Each amount) (Each amount) (λ xs _. is_wide (number_held one amount xs) k) (omega arith) levels (λ g o. o) q in
    let pq : Planned old two (flag ∷ []) (λ _. 1) 1 (moving_jobs k n + (n + 1)) l O wide =
    planned_under old one two cells (flag ∷ []) (λ _. u - 1) (λ _. 1) n 1 (moving_jobs k n) (n + 1) l O (Each amount) low (λ xs _. is_wide (number_held one amount xs) k) wide p q'
    (λ g o. depths_kept old one amount g (u - 1) e1 kb o.1)
    (λ xs w i v. ap (λ z. is_wide z k) (held_same old one amount xs e1 kb w)) in
    let one_in : 0 < length (flag ∷ []) = omega arith in
    let t : Planned old new out (λ _. 2 ^ two.space - 1) (length cells) (moving_jobs k n + (n + 1) + length cells) (l + 1) O says =
    planned_chain old two new (flag ∷ []) out (λ _. 1) (λ _. 2 ^ two.space - 1) 1 (length cells) (moving_jobs k n + (n + 1)) (length cells) l 1 O (λ P. P flag × Each cells P) wide
    (λ xs i. kept_entry 0 (2 ^ two.space) (2 ^ two.space * value two xs flag + cell_value two cells xs i)) says pq r
    (λ g o. (
      pq.deep_cells g o 0 one_in,
      (λ i v.
          let x : depth two (get_or cells i 0) ≡ depth one (get_or cells i 0) = e2.depths (get_or cells i 0) (p.cells_are i v).there in
          let y : depth one (get_or cells i 0) ≤ g + l = p.deep_cells g o i v in
          omega arith),
    ))
    (λ xs w i v.
    let w1 : AreInputs one xs = within_now old one e1 xs w in
    let i1 : i < n = omega arith in
    let x : cell_value two cells xs i ≡ low xs i = e2.values xs w1 (get_or cells i 0) (p.cells_are i v).there ∙ p.values_are xs w i i1 in
    ap (λ s. kept_entry 0 (2 ^ s) (2 ^ s * value two xs flag + cell_value two cells xs i)) e.space
    ∙ ap (λ f. kept_entry 0 u (u * f + cell_value two cells xs i)) (pq.values_are xs w 0 (omega arith))
    ∙ ap (λ x. kept_entry 0 u (u * wide xs 0 + x)) x
    ∙ cleared_is d s n k (number_held old a xs) (number_held old amount xs) i (held_small old a bounded ka xs w) enough i1) in
    let top : 2 ^ two.space - 1 ≡ u - 1 = ap (λ s. 2 ^ s - 1) e.space in
    let jobs : moving_jobs k n + (n + 1) + n ≤ amount_shift_jobs k n = whole_jobs k n k1 some in
    subst (λ (n : ℕ). Planned old new out (λ _. u - 1) n (amount_shift_jobs k (length a)) (amount_shift_depth k) O says) c
    (planned_weaken old new out (λ _. u - 1) (length cells) (moving_jobs k n + (n + 1) + length cells) (amount_shift_jobs k n) (l + 1) (amount_shift_depth k) O O says (omega arith) (omega arith) (λ g o. o)
    (planned_same old new out (λ _. 2 ^ two.space - 1) (λ _. u - 1) (length cells) (moving_jobs k n + (n + 1) + length cells) (l + 1) O says says (λ i v. omega arith) (λ xs w i v. refl) t))

pub log_few : (w : ℕ) → w ≤ 2 ^ 17 → log_up 2 w ≤ 17
log_few w h = (log_least 2 w (omega arith)).least 17 h
