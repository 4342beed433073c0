-- The complement of a negative number goes block by block under its top block, and so does its shift.
use Rattle.std.proofs.Common.{◌≡◌, ◌^◌, ℕ, Bool, true, false, ◌+◌, ◌-◌, ◌*◌, ◌/◌, ◌%◌, ◌<◌, ◌≤◌, List, [], ◌++◌, length, get_or, refl, sym, ◌∙◌, ap, arith, subst, cond}
use Rattle.std.proofs.lemmas.Nat.{pow_pos, mod_below, div-mul-add, mod-mul-add}
use Rattle.std.proofs.Math.Nat.{mod-eq_of_lt, div-le_self}
use Rattle.rx_params.specs.Kinds.{digit_at}
use Rattle.rx_net.specs.declared.net.Net.{Net}
use Rattle.rx_net.specs.Tags.{greatest_of}
use Rattle.rx_net.specs.Cells.{value, depth}
use Rattle.rx_net.specs.Legal.{IsBounded}
use Rattle.rx_net.specs.Growth.{Extends}
use Rattle.rx_plan.specs.Tables.{HasEntries}
use Rattle.rx_plan.specs.Values.{AreInputs, number, number_held, cell_value}
use Rattle.rx_plan.specs.Planned.{Each, EachOf, IsCell, AreBlocks, Planned}
use Rattle.rx_plan.specs.Results.{appended, GivesNumber}
use Rattle.rx_plan.proofs.Kept.{within_now, value_in, value_below, depths_later}
use Rattle.rx_plan.proofs.Numbers.{number_same}
use Rattle.rx_plan.proofs.Given.{planned_number}
use Rattle.rx_plan.proofs.Planned.{planned_same, planned_weaken, planned_chain}
use Rattle.rx_plan.proofs.PerBlock.{against_values, two_blocks, greatest_entry}
use Rattle.rx_plan.proofs.Held.{held_digit, held_same, held_small, low_digits}
use Rattle.rx_costs.specs.Logs.{log_up}
use Rattle.rx_costs.specs.Table.{amount_shift_jobs, amount_shift_depth, signed_shift_jobs, signed_shift_depth}
use Rattle.rx_bits.specs.Signs.{is_negative, complement, shifted_down}
use Rattle.rx_bits.proofs.SignLaws.{complement_digit, negative_top}
use Rattle.rx_shift.specs.Signed.{turned_under, turned_entry}

-- ---- laws of numbers
turned_le : (m top x : ℕ) → x ≤ 2 ^ m - 1 → turned_under m top x ≤ 2 ^ m - 1
turned_le m top x h = le_case (is_negative true m top) where
  le_case : (b : Bool) → cond b (2 ^ m - 1 - x) x ≤ 2 ^ m - 1
  le_case true = omega arith
  le_case false = h

entry_le : (m i : ℕ) → turned_entry m i ≤ 2 ^ m - 1
entry_le m i = turned_le m (i / 2 ^ m) (i % 2 ^ m) (omega (arith, mod_below i (2 ^ m) (pow_pos m)))

entry_at : (m top x : ℕ) → x < 2 ^ m → turned_entry m (2 ^ m * top + x) ≡ turned_under m top x
entry_at m top x h =
    let u : ℕ = 2 ^ m in
    let e : u * top + x ≡ top * u + x = omega arith in
    ap (turned_entry m) e ∙ ap (λ t. turned_under m t ((top * u + x) % u)) (div-mul-add top u x h) ∙ ap (turned_under m top) (mod-mul-add top u x h)

-- the number, or its complement where it is negative
abbrev pub turned_number : ℕ → ℕ → ℕ
turned_number w z = cond (is_negative true w z) (complement w z) z

turned_small : (w z : ℕ) → z < 2 ^ w → turned_number w z < 2 ^ w
turned_small w z h = small_case (is_negative true w z) where
  small_case : (b : Bool) → cond b (complement w z) z < 2 ^ w
  small_case true = omega (arith, pow_pos w)
  small_case false = h

-- its digits
turned_digit : (m n z i : ℕ) → 1 ≤ m → 1 ≤ n → z < 2 ^ (m * n) → i < n
    → turned_under m (digit_at m z (n - 1)) (digit_at m z i) ≡ digit_at m (turned_number (m * n) z) i
turned_digit m n z i m1 n1 h l =
    ap (λ b. cond b (2 ^ m - 1 - digit_at m z i) (digit_at m z i)) (sym (negative_top true m n z m1 n1 h))
    ∙ digit_case (is_negative true (m * n) z)
  where
    digit_case : (b : Bool) → cond b (2 ^ m - 1 - digit_at m z i) (digit_at m z i) ≡ digit_at m (cond b (complement (m * n) z) z) i
    digit_case true = sym (complement_digit m n z i h l)
    digit_case false = refl

-- and the digits of what is turned back after a shift
moved_digit : (m n k z i : ℕ) → 1 ≤ m → 1 ≤ n → z < 2 ^ (m * n) → i < n
    → turned_under m (digit_at m z (n - 1)) (digit_at m (turned_number (m * n) z / 2 ^ k) i) ≡ digit_at m (shifted_down true (m * n) k z) i
moved_digit m n k z i m1 n1 h l =
    ap (λ b. cond b (2 ^ m - 1 - digit_at m (turned_number (m * n) z / 2 ^ k) i) (digit_at m (turned_number (m * n) z / 2 ^ k) i)) (sym (negative_top true m n z m1 n1 h))
    ∙ moved_case (is_negative true (m * n) z)
  where
    moved_case : (b : Bool)
        → cond b (2 ^ m - 1 - digit_at m (cond b (complement (m * n) z) z / 2 ^ k) i) (digit_at m (cond b (complement (m * n) z) z / 2 ^ k) i)
        ≡ digit_at m (cond b (complement (m * n) (complement (m * n) z / 2 ^ k)) (z / 2 ^ k)) i
    moved_case true = sym (complement_digit m n (complement (m * n) z / 2 ^ k) i (omega (arith, pow_pos (m * n), div-le_self (complement (m * n) z) (2 ^ k))) l)
    moved_case false = refl

-- ---- the blocks that are turned
pub turned_planned : (old new : Net) (cs a table : List ℕ) (top unit : ℕ) → IsBounded old → unit ≡ 2 ^ old.space → IsCell old (2 ^ old.space - 1) top → AreBlocks old a
    → HasEntries old.space (turned_entry old.space) table
    → Planned old new cs (λ _. greatest_of table) (length a) (length a) 1 (λ P. P top × Each a P) (against_values old unit table top a)
    → Planned old new cs (λ _. 2 ^ old.space - 1) (length a) (length a) 1 (λ P. P top × Each a P) (λ xs i. turned_under old.space (value old xs top) (cell_value old a xs i))
turned_planned old new cs a table top unit bounded e kt k h p =
    let s : ℕ = old.space in
    let u : ℕ = 2 ^ s in
    planned_same old new cs (λ _. greatest_of table) (λ _. u - 1) (length a) (length a) 1 (λ P. P top × Each a P) (against_values old unit table top a)
    (λ xs i. turned_under s (value old xs top) (cell_value old a xs i))
    (λ i q. greatest_entry s (turned_entry s) table (u - 1) h (λ j r. entry_le s j))
    (λ xs w i q.
    let t : ℕ = value old xs top in
    let x : ℕ = cell_value old a xs i in
    let bt : t ≤ u - 1 = value_in old (u - 1) top bounded kt xs w in
    let bx : x < u = value_below old u a bounded (pow_pos s) k xs w i q in
    ap (λ f. get_or table (f * t + x) 0) e ∙ h.each (u * t + x) (two_blocks u u t x (pow_pos s) (omega arith) bt (omega arith)) ∙ entry_at s t x bx)
    p

-- the number of the blocks that are turned
pub turned_held : (old one : Net) (cs a : List ℕ) (O : (ℕ → Type 0) → Type 0) → IsBounded old → 1 ≤ old.space → 1 ≤ length a → AreBlocks old a
    → Planned old one cs (λ _. 2 ^ old.space - 1) (length a) (length a) 1 O
    (λ xs i. turned_under old.space (value old xs (get_or a (length a - 1) 0)) (cell_value old a xs i))
    → (xs : List ℕ) → AreInputs old xs → number_held one cs xs ≡ turned_number (old.space * length a) (number_held old a xs)
turned_held old one cs a O bounded m1 n1 k p xs w =
    let s : ℕ = old.space in
    let n : ℕ = length a in
    let z : ℕ = number_held old a xs in
    let small : z < 2 ^ (s * n) = held_small old a bounded k xs w in
    let says : List ℕ → ℕ → ℕ = λ xs i. turned_under s (value old xs (get_or a (n - 1) 0)) (cell_value old a xs i) in
    planned_number old one cs (λ _. 2 ^ s - 1) n n 1 O says p xs w
    ∙ number_same (2 ^ s) n (says xs) (digit_at s (turned_number (s * n) z)) (λ i q.
    ap (λ t. turned_under s t (cell_value old a xs i)) (sym (held_digit old a xs (n - 1) bounded k w (omega arith)))
    ∙ ap (turned_under s (digit_at s z (n - 1))) (sym (held_digit old a xs i bounded k w q))
    ∙ turned_digit s n z i m1 n1 small q)
    ∙ low_digits s n (turned_number (s * n) z)
    ∙ mod-eq_of_lt (turned_small (s * n) z small)

-- ---- the whole
pub signed_planned : (old one two new : Net) (cs moved cells a amount : List ℕ) → IsBounded old → 1 ≤ old.space → 1 ≤ length a → AreBlocks old a → AreBlocks old amount
    → Planned old one cs (λ _. 2 ^ old.space - 1) (length a) (length a) 1 (λ P. P (get_or a (length a - 1) 0) × Each a P)
    (λ xs i. turned_under old.space (value old xs (get_or a (length a - 1) 0)) (cell_value old a xs i))
    → GivesNumber one two [] moved (length cs) (amount_shift_jobs (log_up 2 (one.space * length cs)) (length cs)) (amount_shift_depth (log_up 2 (one.space * length cs))) (EachOf cs amount)
    (λ xs. number_held one cs xs / 2 ^ number_held one amount xs)
    → Planned two new cells (λ _. 2 ^ two.space - 1) (length moved) (length moved) 1 (λ P. P (get_or a (length a - 1) 0) × Each moved P)
    (λ xs i. turned_under two.space (value two xs (get_or a (length a - 1) 0)) (cell_value two moved xs i))
    → Planned old new cells (λ _. 2 ^ old.space - 1) (length a) (signed_shift_jobs (log_up 2 (old.space * length a)) (length a)) (signed_shift_depth (log_up 2 (old.space * length a))) (EachOf a amount)
    (λ xs i. digit_at old.space (shifted_down true (old.space * length a) (number_held old amount xs) (number_held old a xs)) i)
signed_planned old one two new cs moved cells a amount bounded m1 n1 ka kb p g q =
    let s : ℕ = old.space in
    let u : ℕ = 2 ^ s in
    let n : ℕ = length a in
    let top : ℕ = get_or a (n - 1) 0 in
    let O : (ℕ → Type 0) → Type 0 = EachOf a amount in
    let K : ℕ = log_up 2 (s * n) in
    let J : ℕ = amount_shift_jobs K n in
    let L : ℕ = amount_shift_depth K in
    let e1 : Extends old one = p.extends in
    let kt : IsCell old (u - 1) top = ka (n - 1) (omega arith) in
    let first : List ℕ → ℕ → ℕ = λ xs i. turned_under s (value old xs top) (cell_value old a xs i) in
    let second : List ℕ → ℕ → ℕ = λ xs i. digit_at s (turned_number (s * n) (number_held old a xs) / 2 ^ number_held old amount xs) i in
    let says : List ℕ → ℕ → ℕ = λ xs i. digit_at s (shifted_down true (s * n) (number_held old amount xs) (number_held old a xs)) i in
    let shifts : List ℕ → ℕ = λ xs. number_held one cs xs / 2 ^ number_held one amount xs in
    let p1 : Planned old one cs (λ _. u - 1) n n 1 O first =
    planned_weaken old one cs (λ _. u - 1) n n n 1 1 (λ P. P top × Each a P) O first (omega arith) (omega arith) (λ d o. (o.0 (n - 1) (omega arith), o.0)) p in
    let b : Planned one two moved (λ _. 2 ^ one.space - 1) (length cs) (amount_shift_jobs (log_up 2 (one.space * length cs)) (length cs)) (amount_shift_depth (log_up 2 (one.space * length cs))) (EachOf cs amount) (λ xs i. digit_at one.space (shifts xs) i) =
    subst (λ (ds : List ℕ). Planned one two ds (λ _. 2 ^ one.space - 1) (length cs) (amount_shift_jobs (log_up 2 (one.space * length cs)) (length cs)) (amount_shift_depth (log_up 2 (one.space * length cs))) (EachOf cs amount) (λ xs i. digit_at one.space (shifts xs) i))
    (sym g.kept) g.blocks in
    let bn : Planned one two moved (λ _. 2 ^ one.space - 1) n (amount_shift_jobs (log_up 2 (one.space * n)) n) (amount_shift_depth (log_up 2 (one.space * n))) (EachOf cs amount) (λ xs i. digit_at one.space (shifts xs) i) =
    subst (λ (k : ℕ). Planned one two moved (λ _. 2 ^ one.space - 1) k (amount_shift_jobs (log_up 2 (one.space * k)) k) (amount_shift_depth (log_up 2 (one.space * k))) (EachOf cs amount) (λ xs i. digit_at one.space (shifts xs) i)) p.count_is b in
    let bs : Planned one two moved (λ _. u - 1) n J L (EachOf cs amount) (λ xs i. digit_at s (shifts xs) i) =
    subst (λ (k : ℕ). Planned one two moved (λ _. 2 ^ k - 1) n (amount_shift_jobs (log_up 2 (k * n)) n) (amount_shift_depth (log_up 2 (k * n))) (EachOf cs amount) (λ xs i. digit_at k (shifts xs) i)) e1.space bn in
    let p2 : Planned old two moved (λ _. u - 1) n (n + J) (1 + L) O second =
    planned_chain old one two cs moved (λ _. u - 1) (λ _. u - 1) n n n J 1 L O (EachOf cs amount) first (λ xs i. digit_at s (shifts xs) i) second p1 bs
    (λ d o. (p1.deep_cells d o, depths_later old one amount d 1 (u - 1) e1 kb o.1))
    (λ xs w i x.
    ap (λ z. digit_at s (z / 2 ^ number_held one amount xs) i) (turned_held old one cs a (λ P. P top × Each a P) bounded m1 n1 ka p xs w)
    ∙ ap (λ k. digit_at s (turned_number (s * n) (number_held old a xs) / 2 ^ k) i) (held_same old one amount xs e1 kb w)) in
    let e2 : Extends old two = p2.extends in
    let size : length moved ≡ n = p2.count_is in
    let qs : Planned two new cells (λ _. u - 1) n n 1 (λ P. P top × Each moved P) (λ xs i. turned_under s (value two xs top) (cell_value two moved xs i)) =
    subst (λ (k : ℕ). Planned two new cells (λ _. 2 ^ k - 1) n n 1 (λ P. P top × Each moved P) (λ xs i. turned_under k (value two xs top) (cell_value two moved xs i))) e2.space
    (subst (λ (k : ℕ). Planned two new cells (λ _. 2 ^ two.space - 1) k k 1 (λ P. P top × Each moved P) (λ xs i. turned_under two.space (value two xs top) (cell_value two moved xs i))) size q) in
    planned_weaken old new cells (λ _. u - 1) n (n + J + n) (signed_shift_jobs K n) (1 + L + 1) (signed_shift_depth K) O O says (omega arith) (omega arith) (λ d o. o)
    (planned_chain old two new moved cells (λ _. u - 1) (λ _. u - 1) n n (n + J) n (1 + L) 1 O (λ P. P top × Each moved P) second (λ xs i. turned_under s (value two xs top) (cell_value two moved xs i)) says p2 qs
    (λ d o. (
      (let x : depth two top ≡ depth old top = e2.depths top kt.there in let y : depth old top ≤ d = o.0 (n - 1) (omega arith) in omega arith),
      p2.deep_cells d o,
    ))
    (λ xs w i x.
    let z : ℕ = number_held old a xs in
    ap (λ t. turned_under s t (cell_value two moved xs i)) (e2.values xs w top kt.there ∙ sym (held_digit old a xs (n - 1) bounded ka w (omega arith)))
    ∙ ap (turned_under s (digit_at s z (n - 1))) (p2.values_are xs w i x)
    ∙ moved_digit s n (number_held old amount xs) z i m1 n1 (held_small old a bounded ka xs w) x))
