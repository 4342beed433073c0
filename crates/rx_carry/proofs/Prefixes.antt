-- A prefix of states, level by level.
use Rattle.std.proofs.Common.{◌≡◌, ℕ, zero, suc, List, [], ◌∷◌, ◌++◌, ◌<◌, ◌≤◌, ◌+◌, ◌-◌, ◌*◌, ◌/◌, ◌%◌, ◌^◌, ◌⊎◌, inl, inr, length, get_or, cond, sym, ◌∙◌, ap, refl, arith, subst}
use Rattle.std.proofs.lemmas.Bool.{cases_lt, cases_eq, eq-eqb, ne_eqb}
use Rattle.std.proofs.lemmas.Nat.{mul-le, pow_pos, div-mul-add, div-add-mod'}
use Rattle.std.proofs.Math.Nat.{pow-suc, pow-zero, pow-le-pow_right, div-div-eq-div-mul}
use Rattle.rx_net.specs.declared.net.Net.{Net}
use Rattle.rx_net.specs.Cells.{value, degree, noise, depth}
use Rattle.rx_net.specs.Legal.{IsBounded}
use Rattle.rx_net.specs.Growth.{Extends}
use Rattle.rx_costs.specs.Logs.{log_up, IsLogUp}
use Rattle.rx_costs.proofs.Exponents.{log_least}
use Rattle.rx_plan.specs.Tables.{entries, IsTable, HasEntries}
use Rattle.rx_plan.specs.Values.{AreInputs, cell_value, total}
use Rattle.rx_plan.specs.Planned.{Each, IsCell, AreCellsBy, Makes, Gives, Planned}
use Rattle.rx_plan.proofs.Totals.{total_none, total_more}
use Rattle.rx_plan.proofs.PerBlock.{unit_big, entries_big, table_is}
use Rattle.rx_plan.proofs.Kept.{within_now, cell_within, value_in}
use Rattle.rx_plan.proofs.Planned.{makes_gives, keeps_gives, planned_push, planned_start, planned_then, planned_same, planned_weaken}
use Rattle.rx_carry.specs.Carries.{combine, carry_of, tops_at}
use Rattle.rx_carry.specs.Prefix.{stepped, combined_at, ones_below}
use Rattle.rx_carry.proofs.Carried.{combine_assoc, combine_none, combine_below, tops_low, tops_high, tops_le, pair_entry, entry_le, entry_one}

-- ---- places and spans
even_or_odd : (q : ℕ) → (q % 2 ≡ 0) ⊎ (q % 2 ≡ 1)
even_or_odd q = elim (cases_lt (q % 2) 1) [ inl l ↦ inl (omega arith) | inr l ↦ inr (omega arith) ]

pub stepped_even : (span : ℕ) (v : ℕ → ℕ) (i : ℕ) → i / span % 2 ≡ 0 → stepped span v i ≡ v i
unfolding stepped
stepped_even span v i h = ap (λ b. cond b (v i) (combine (v i) (v (i / span * span - 1)))) (eq-eqb (i / span % 2) 0 h)

pub stepped_odd : (span : ℕ) (v : ℕ → ℕ) (i : ℕ) → (i / span % 2 ≡ 0 → ⊥) → stepped span v i ≡ combine (v i) (v (i / span * span - 1))
unfolding stepped
stepped_odd span v i h = ap (λ b. cond b (v i) (combine (v i) (v (i / span * span - 1)))) (ne_eqb (i / span % 2) 0 h)

-- the place before a span is there, where the number of the span is odd
pub before_span : (span i : ℕ) → 1 ≤ span → (i / span % 2 ≡ 0 → ⊥) → (1 ≤ i / span * span) × (i / span * span ≤ i)
before_span span i s h =
    let d : i / span * span + i % span ≡ i = div-add-mod' i span in
    let q : 1 ≤ i / span = elim (cases_lt (i / span) 1) [ inl l ↦ let z : i / span ≡ 0 = omega arith in absurd (h (ap (λ x. x % 2) z)) | inr l ↦ l ] in
    let m : 1 * 1 ≤ i / span * span = mul-le 1 1 (i / span) span q s in
    (omega arith, omega arith)

-- below a span, the number of the span is 0
quotient_none : (span i : ℕ) → i < span → i / span ≡ 0
quotient_none span i h = let e : i ≡ 0 * span + i = omega arith in ap (λ x. x / span) e ∙ div-mul-add 0 span i h

quotient_one : (span i : ℕ) → span ≤ i → i < 2 * span → i / span ≡ 1
quotient_one span i h k = let e : i ≡ 1 * span + (i - span) = omega arith in ap (λ x. x / span) e ∙ div-mul-add 1 span (i - span) (omega arith)

-- ---- what the levels make
unfoldable pub after : (ℕ → ℕ) → ℕ → ℕ → ℕ
after v zero i = v i
after v (suc t) i = stepped (2 ^ t) (after v t) i

module _ (v : ℕ → ℕ) where
  -- after t levels a place says what goes out of it, over what comes into its span
  pub after_carries : (t i : ℕ) → combine (after v t i) (carry_of v (i / 2 ^ t * 2 ^ t)) ≡ carry_of v (i + 1)
  unfolding after carry_of
  after_carries zero i =
      let o : 2 ^ zero ≡ 1 = pow-zero 2 in
      let z : i / 2 ^ zero * 2 ^ zero ≡ i = ap (λ x. i / x * x) o ∙ (let e : i / 1 * 1 ≡ i = omega arith in e) in
      let s : i + 1 ≡ suc i = omega arith in
      ap (λ j. combine (v i) (carry_of v j)) z ∙ ap (carry_of v) (sym s)
  after_carries (suc t) i =
      let u : ℕ = 2 ^ t in
      let q : ℕ = i / u in
      let up : 0 < u = pow_pos t in
      let p : 2 ^ suc t ≡ u * 2 = pow-suc 2 t in
      let b : i / 2 ^ suc t * 2 ^ suc t ≡ q / 2 * (u * 2) = ap (λ x. i / x * x) p ∙ ap (λ x. x * (u * 2)) (sym (div-div-eq-div-mul i u 2)) in
      elim (even_or_odd q) as (λ _. combine (stepped (2 ^ t) (after v t) i) (carry_of v (i / 2 ^ suc t * 2 ^ suc t)) ≡ carry_of v (i + 1)) [
        | inl e ↦
            let h : ℕ = q / 2 in
            let w : q ≡ 2 * h = omega arith in
            let same : i / 2 ^ suc t * 2 ^ suc t ≡ q * u = b ∙ (let m : h * (u * 2) ≡ 2 * h * u = omega arith in m ∙ ap (λ x. x * u) (sym w)) in
            ap (λ s. combine s (carry_of v (i / 2 ^ suc t * 2 ^ suc t))) (stepped_even u (after v t) i e)
            ∙ ap (λ j. combine (after v t i) (carry_of v j)) same ∙ after_carries t i
        | inr o ↦
            let h : ℕ = q / 2 in
            let w : q ≡ 2 * h + 1 = omega arith in
            let k : ℕ = q * u - 1 in
            let qu : q * u ≡ 2 * h * u + u = ap (λ x. x * u) w ∙ (let m : (2 * h + 1) * u ≡ 2 * h * u + u = omega arith in m) in
            let lower : k ≡ 2 * h * u + (u - 1) = omega arith in
            let ku : k / u ≡ 2 * h = ap (λ x. x / u) lower ∙ div-mul-add (2 * h) u (u - 1) (omega arith) in
            let start : i / 2 ^ suc t * 2 ^ suc t ≡ k / u * u = b ∙ (let m : h * (u * 2) ≡ 2 * h * u = omega arith in m) ∙ ap (λ x. x * u) (sym ku) in
            let next : k + 1 ≡ q * u = omega arith in
            ap (λ s. combine s (carry_of v (i / 2 ^ suc t * 2 ^ suc t))) (stepped_odd u (after v t) i (λ z. absurd (omega arith)))
            ∙ ap (λ j. combine (combine (after v t i) (after v t k)) (carry_of v j)) start
            ∙ combine_assoc (after v t i) (after v t k) (carry_of v (k / u * u))
            ∙ ap (combine (after v t i)) (after_carries t k ∙ ap (carry_of v) next)
            ∙ after_carries t i
      ]

  pub after_all : (t i : ℕ) → i < 2 ^ t → after v t i ≤ 1 → after v t i ≡ carry_of v (i + 1)
  unfolding carry_of
  after_all t i p q =
      let z : i / 2 ^ t * 2 ^ t ≡ 0 = ap (λ x. x * 2 ^ t) (quotient_none (2 ^ t) i p) ∙ (let m : 0 * 2 ^ t ≡ 0 = omega arith in m) in
      sym (combine_none (after v t i) q) ∙ ap (λ j. combine (after v t i) (carry_of v j)) (sym z) ∙ after_carries t i

pub stepped_same : (span : ℕ) (v w : ℕ → ℕ) (n i : ℕ) → 1 ≤ span → ((j : ℕ) → j < n → v j ≡ w j) → i < n → stepped span v i ≡ stepped span w i
stepped_same span v w n i s h q =
    elim (cases_eq (i / span % 2) 0) [
      | inl e ↦ stepped_even span v i e ∙ h i q ∙ sym (stepped_even span w i e)
      | inr o ↦
          let k = before_span span i s o in
          stepped_odd span v i o ∙ ap (λ x. combine x (v (i / span * span - 1))) (h i q) ∙ ap (combine (w i)) (h (i / span * span - 1) (omega (arith, k.0, k.1))) ∙ sym (stepped_odd span w i o)
    ]

-- ---- one place of a level
pub combine_is_table : (s : ℕ) (table : List ℕ) → 2 ≤ s → HasEntries s (λ i. combine (i / 3) (i % 3)) table → IsTable s table
combine_is_table s table p h =
    let b : 16 ≤ entries s = entries_big s p in
    table_is s (λ i. combine (i / 3) (i % 3)) table h (λ i q. combine_below (i / 3) (i % 3) (entries s) (omega arith) (omega arith))

module _ (p : Net) (span i : ℕ) (states : List ℕ) (sp : 1 ≤ span) (s : 2 ≤ p.space) (h : AreCellsBy p (tops_at span) states) (q : i < length states) where
  pub advance_keeps : IsBounded p → i / span % 2 ≡ 0 → Gives p p (get_or states i 0) (tops_at (2 * span) i) (i / span % 2)
  advance_keeps b e =
      let t : tops_at span i ≤ tops_at (2 * span) i = elim (cases_lt i span) [
        | inl l ↦ omega (arith, tops_low span i l, tops_low (2 * span) i (omega arith))
        | inr l ↦ elim (cases_lt i (2 * span)) [
          | inl m ↦ let o : i / span % 2 ≡ 1 = ap (λ x. x % 2) (quotient_one span i l m) in absurd (omega arith)
          | inr m ↦ omega (arith, tops_le span i, tops_high (2 * span) i m)
        ]
      ] in
      subst (λ (j : ℕ). Gives p p (get_or states i 0) (tops_at (2 * span) i) j) (sym e)
      (keeps_gives p (get_or states i 0) (tops_at (2 * span) i) b (cell_within p (tops_at span i) (tops_at (2 * span) i) (get_or states i 0) t (h i q)))

  pub low_there : (i / span % 2 ≡ 0 → ⊥) → i / span * span - 1 < length states
  low_there o = let k = before_span span i sp o in omega (arith, k.0, k.1)

  pub advance_range : (i / span % 2 ≡ 0 → ⊥) → 3 * degree p (get_or states i 0) + degree p (get_or states (i / span * span - 1) 0) < entries p.space
  advance_range o =
      let a : IsCell p (tops_at span i) (get_or states i 0) = h i q in
      let b : IsCell p (tops_at span (i / span * span - 1)) (get_or states (i / span * span - 1) 0) = h (i / span * span - 1) (low_there o) in
      omega (arith, tops_le span i, tops_le span (i / span * span - 1), entries_big p.space s, a.degree_in, b.degree_in)

  pub advance_noises : (i / span % 2 ≡ 0 → ⊥) → 3 * noise p (get_or states i 0) + noise p (get_or states (i / span * span - 1) 0) ≤ 2 ^ p.space + 1
  advance_noises o =
      let a : IsCell p (tops_at span i) (get_or states i 0) = h i q in
      let b : IsCell p (tops_at span (i / span * span - 1)) (get_or states (i / span * span - 1) 0) = h (i / span * span - 1) (low_there o) in
      omega (arith, unit_big p.space s, a.noise_is, b.noise_is)

  pub advance_gives : (new : Net) (c : ℕ) (table : List ℕ) → (i / span % 2 ≡ 0 → ⊥) → HasEntries p.space (λ i. combine (i / 3) (i % 3)) table
      → Makes p new c (λ P. P (get_or states i 0) × P (get_or states (i / span * span - 1) 0)) (3 * degree p (get_or states i 0) + degree p (get_or states (i / span * span - 1) 0))
      (λ v. 3 * v (get_or states i 0) + v (get_or states (i / span * span - 1) 0)) table
      → Gives p new c (tops_at (2 * span) i) (i / span % 2)
  advance_gives new c table o t m =
      let x : ℕ = get_or states i 0 in
      let j : ℕ = i / span * span - 1 in
      let y : ℕ = get_or states j 0 in
      let big : 16 ≤ entries p.space = entries_big p.space s in
      let a : IsCell p (tops_at span i) x = h i q in
      let b : IsCell p (tops_at span j) y = h j (low_there o) in
      let a' : degree p x ≤ 2 = omega (arith, tops_le span i, a.degree_in) in
      let b' : degree p y ≤ 2 = omega (arith, tops_le span j, b.degree_in) in
      let one : 1 ≡ i / span % 2 = elim (even_or_odd (i / span)) [ inl e ↦ absurd (o e) | inr e ↦ sym e ] in
      subst (λ (k : ℕ). Gives p new c (tops_at (2 * span) i) k) one
      (makes_gives p new c (tops_at (2 * span) i) _ _ _ table m (elim (cases_lt i (2 * span)) [
        | inl z ↦
            let w : tops_at (2 * span) i ≡ 1 = tops_low (2 * span) i z in
            let lq : i / span ≡ 1 = elim (cases_lt i span) [ inl l ↦ absurd (o (ap (λ x. x % 2) (quotient_none span i l))) | inr l ↦ quotient_one span i l z ] in
            let jl : i / span * span ≡ 1 * span = ap (λ x. x * span) lq in
            let b1 : degree p y ≤ 1 = omega (arith, tops_low span j (omega arith), b.degree_in) in
            let k : degree new c ≤ 1 = m.degree_in 1 (λ j r. let e : get_or table j 0 ≡ combine (j / 3) (j % 3) = t.each j (omega arith) in omega (arith, entry_one j (omega arith))) in
            omega arith
        | inr z ↦
            let w : tops_at (2 * span) i ≡ 2 = tops_high (2 * span) i z in
            let k : degree new c ≤ 2 = m.degree_in 2 (λ j r. let e : get_or table j 0 ≡ combine (j / 3) (j % 3) = t.each j (omega arith) in omega (arith, entry_le j (omega arith))) in
            omega arith
      ]))

  pub advance_value : (new : Net) (c : ℕ) (table : List ℕ) → IsBounded p → (i / span % 2 ≡ 0 → ⊥) → HasEntries p.space (λ i. combine (i / 3) (i % 3)) table
      → (xs : List ℕ) → AreInputs p xs
      → value new xs c ≡ get_or table (3 * value p xs (get_or states i 0) + value p xs (get_or states (i / span * span - 1) 0)) 0
      → value new xs c ≡ stepped span (cell_value p states xs) i
  advance_value new c table bounded o t xs w e =
      let x : ℕ = get_or states i 0 in
      let j : ℕ = i / span * span - 1 in
      let y : ℕ = get_or states j 0 in
      let big : 16 ≤ entries p.space = entries_big p.space s in
      let a' : value p xs x ≤ 2 = omega (arith, tops_le span i, value_in p (tops_at span i) x bounded (h i q) xs w) in
      let b' : value p xs y < 3 = omega (arith, tops_le span j, value_in p (tops_at span j) y bounded (h j (low_there o)) xs w) in
      e ∙ t.each (3 * value p xs x + value p xs y) (omega arith) ∙ pair_entry (value p xs x) (value p xs y) b' ∙ sym (stepped_odd span (cell_value p states xs) i o)

-- ---- one level
pub level_push : (old now new : Net) (cs states : List ℕ) (span i c : ℕ) → 1 ≤ span → AreCellsBy old (tops_at span) states → i < length states
    → Planned old now cs (tops_at (2 * span)) i (combined_at span i) 1 (Each states) (λ xs i. stepped span (cell_value old states xs) i)
    → Gives now new c (tops_at (2 * span) i) (i / span % 2)
    → ((d : ℕ) → Each states (λ o. depth now o ≤ d) → depth new c ≤ d + 1)
    → ((xs : List ℕ) → AreInputs now xs → value new xs c ≡ stepped span (cell_value now states xs) i)
    → Planned old new (cs ++ c ∷ []) (tops_at (2 * span)) (i + 1) (combined_at span (i + 1)) 1 (Each states) (λ xs i. stepped span (cell_value old states xs) i)
level_push old now new cs states span i c s h q p g d v =
    let e : Extends old now = p.extends in
    subst (λ (j : ℕ). Planned old new (cs ++ c ∷ []) (tops_at (2 * span)) (i + 1) j 1 (Each states) (λ xs i. stepped span (cell_value old states xs) i))
    (total_more (combined_at span i) i (i / span % 2) (λ i. i / span % 2) refl refl)
    (planned_push old now new cs (tops_at (2 * span)) i (combined_at span i) 1 (i / span % 2) (Each states) (λ xs i. stepped span (cell_value old states xs) i) c p g
    (λ n o. d n (λ j r. let k : depth now (get_or states j 0) ≡ depth old (get_or states j 0) = e.depths (get_or states j 0) (h j r).there in let m : depth old (get_or states j 0) ≤ n = o j r in omega arith))
    (λ xs w. v xs (within_now old now e xs w) ∙ stepped_same span (cell_value now states xs) (cell_value old states xs) (length states) i s (λ j r. e.values xs w (get_or states j 0) (h j r).there) q))

pub total_upto : (m n : ℕ) (f : ℕ → ℕ) → m ≤ n → total m f ≤ total n f
unfolding total
total_upto m zero f h = let e : m ≡ 0 = omega arith in omega (arith, ap (λ m. total m f) e)
total_upto m (suc n) f h =
    elim (cases_lt m (suc n)) [
      | inl l ↦ omega (arith, total_upto m n f (omega arith))
      | inr l ↦ let e : m ≡ suc n = omega arith in omega (arith, ap (λ m. total m f) e)
    ]

pub level_room : (span i n : ℕ) → i < n → combined_at span i + i / span % 2 ≤ combined_at span n
level_room span i n h = omega (arith, total_more (combined_at span i) i (i / span % 2) (λ i. i / span % 2) refl refl, total_upto (i + 1) n (λ i. i / span % 2) (omega arith))

-- ---- all levels
abbrev pub levelled : Net → List ℕ → ℕ → List ℕ → ℕ → ℕ
levelled p states t xs i = after (cell_value p states xs) t i

abbrev pub combined_so : ℕ → ℕ → ℕ
combined_so n t = total t (λ t. combined_at (2 ^ t) n)

pub record Levelled (old now : Net) (states cs : List ℕ) (span : ℕ) : Type 0 where
  pub levels : ℕ
  pub power : span ≡ 2 ^ levels
  pub needed : levels ≤ log_up 2 (length states)
  pub planned : Planned old now cs (tops_at span) (length states) (combined_so (length states) levels) levels (Each states) (levelled old states levels)

pub levelled_start : (p : Net) (states : List ℕ) → IsBounded p → AreCellsBy p (tops_at 1) states → Levelled p p states states 1
unfolding after
levelled_start p states b h = record {
  levels = 0;
  power = sym (pow-zero 2);
  needed = omega arith;
  planned = subst (λ (j : ℕ). Planned p p states (tops_at 1) (length states) j 0 (Each states) (levelled p states 0)) (sym (total_none (λ t. combined_at (2 ^ t) (length states))))
      (planned_start p states (tops_at 1) (length states) refl b h);
}

-- a level is needed where a span is less than the whole
pub level_needed : (n t : ℕ) → 2 ^ t < n → t < log_up 2 n
level_needed n t h =
    let l : IsLogUp 2 n (log_up 2 n) = log_least 2 n (omega arith) in
    elim (cases_lt t (log_up 2 n)) [
      | inl k ↦ k
      | inr k ↦ let p : 2 ^ log_up 2 n ≤ 2 ^ t = pow-le-pow_right {n = 2} (omega arith) k in absurd (omega (arith, l.enough))
    ]

pub levels_room : (n t : ℕ) → 2 ^ t < n → combined_so n t + combined_at (2 ^ t) n ≤ ones_below n
unfolding ones_below
levels_room n t h =
    let l : t < log_up 2 n = level_needed n t h in
    omega (arith, total_more (combined_so n t) t (combined_at (2 ^ t) n) (λ t. combined_at (2 ^ t) n) refl refl, total_upto (t + 1) (log_up 2 n) (λ t. combined_at (2 ^ t) n) (omega arith))

pub levelled_more : (old now new : Net) (states cs ds : List ℕ) (span : ℕ) → span < length cs → 1 ≤ span → Levelled old now states cs span
    → Planned now new ds (tops_at (2 * span)) (length cs) (combined_at span (length cs)) 1 (Each cs) (λ xs i. stepped span (cell_value now cs xs) i)
    → Levelled old new states ds (span * 2)
unfolding after
levelled_more old now new states cs ds span l one h q =
    let p = h.planned in
    let t : ℕ = h.levels in
    let n : ℕ = length states in
    let c : length cs ≡ n = p.count_is in
    let s : 2 * span ≡ span * 2 = omega arith in
    let t1 : suc t ≡ t + 1 = omega arith in
    let q' : Planned now new ds (tops_at (2 * span)) n (combined_at span n) 1 (Each cs) (λ xs i. stepped span (cell_value now cs xs) i) =
    subst (λ (n : ℕ). Planned now new ds (tops_at (2 * span)) n (combined_at span n) 1 (Each cs) (λ xs i. stepped span (cell_value now cs xs) i)) c q in
    let r : Planned old new ds (tops_at (2 * span)) n (combined_so n t + combined_at span n) (t + 1) (Each states) (levelled old states (suc t)) =
    planned_then old now new cs ds (tops_at span) (tops_at (2 * span)) n n (combined_so n t) (combined_at span n) t 1 (Each states) (levelled old states t) (λ xs i. stepped span (cell_value now cs xs) i) (levelled old states (suc t)) p q'
    (λ xs w i x. stepped_same span (cell_value now cs xs) (after (cell_value old states xs) t) n i one (λ k y. p.values_are xs w k y) x ∙ ap (λ u. stepped u (after (cell_value old states xs) t) i) h.power) in
    let j : combined_so n t + combined_at span n ≡ combined_so n (t + 1) = total_more (combined_so n t) t (combined_at span n) (λ t. combined_at (2 ^ t) n) refl (ap (λ u. combined_at u n) h.power) in
    let low : 2 ^ t < n = omega (arith, h.power) in
    record {
      levels = t + 1;
      power = ap (λ k. k * 2) h.power ∙ sym (pow-suc 2 t) ∙ ap (λ k. 2 ^ k) t1;
      needed = omega (arith, level_needed n t low);
      planned =
          subst (λ (k : ℕ). Planned old new ds (tops_at (span * 2)) n (combined_so n (t + 1)) (t + 1) (Each states) (levelled old states k)) t1
          (subst (λ (k : ℕ). Planned old new ds (tops_at (span * 2)) n k (t + 1) (Each states) (levelled old states (suc t))) j
          (subst (λ (k : ℕ). Planned old new ds (tops_at k) n (combined_so n t + combined_at span n) (t + 1) (Each states) (levelled old states (suc t))) s r));
    }

pub levelled_end : (old new : Net) (states cs : List ℕ) (span : ℕ) → length cs ≤ span → Levelled old new states cs span
    → Planned old new cs (λ _. 1) (length states) (ones_below (length states)) (log_up 2 (length states)) (Each states) (λ xs i. carry_of (cell_value old states xs) (i + 1))
unfolding ones_below
levelled_end old new states cs span l h =
    let p = h.planned in
    let t : ℕ = h.levels in
    let n : ℕ = length states in
    let b : n ≤ 2 ^ t = omega (arith, h.power, p.count_is) in
    planned_weaken old new cs (λ _. 1) n (combined_so n t) (total (log_up 2 n) (λ t. combined_at (2 ^ t) n)) t (log_up 2 n) (Each states) (Each states) (λ xs i. carry_of (cell_value old states xs) (i + 1))
    (total_upto t (log_up 2 n) (λ t. combined_at (2 ^ t) n) h.needed) h.needed (λ d o. o)
    (planned_same old new cs (tops_at span) (λ _. 1) n (combined_so n t) t (Each states) (levelled old states t) (λ xs i. carry_of (cell_value old states xs) (i + 1))
    (λ i q. omega (arith, tops_low span i (omega (arith, p.count_is))))
    (λ xs w i q.
    let q' : i < length cs = omega (arith, p.count_is) in
    let v : value new xs (get_or cs i 0) ≡ after (cell_value old states xs) t i = p.values_are xs w i q in
    let k : value new xs (get_or cs i 0) ≤ tops_at span i = value_in new (tops_at span i) (get_or cs i 0) p.bounded (p.cells_are i q') xs (within_now old new p.extends xs w) in
    after_all (cell_value old states xs) t i (omega arith) (omega (arith, tops_low span i (omega arith))))
    p)
