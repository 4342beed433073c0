-- The block that is kept and the 0 in place of the other add up to the block that is chosen.
use Rattle.std.proofs.Common.{◌≡◌, ◌^◌, ℕ, Bool, true, false, ◌+◌, ◌-◌, ◌*◌, ◌/◌, ◌%◌, ◌<◌, ◌≤◌, inl, inr, List, length, get_or, refl, sym, ◌∙◌, ap, arith, subst, cond}
use Rattle.std.specs.Prelude.{◌==◌}
use Rattle.std.proofs.lemmas.Bool.{cases_eq, eq-eqb, ne_eqb}
use Rattle.std.proofs.lemmas.Nat.{pow_pos, mod_below, div-mul-add, mod-mul-add}
use Rattle.std.proofs.Math.Nat.{mod-eq_of_lt}
use Rattle.rx_params.specs.Kinds.{digit_at}
use Rattle.rx_net.specs.declared.net.Net.{Net}
use Rattle.rx_net.specs.Tags.{greatest_of}
use Rattle.rx_net.specs.Cells.{value, depth}
use Rattle.rx_net.specs.Legal.{IsBounded}
use Rattle.rx_net.specs.Growth.{Extends}
use Rattle.rx_plan.specs.Tables.{entries, HasEntries}
use Rattle.rx_plan.specs.Values.{number_held, cell_value}
use Rattle.rx_plan.specs.Planned.{Each, EachOf, IsCell, AreBlocks, Planned}
use Rattle.rx_plan.proofs.Kept.{value_in, value_below, depths_kept, within_now}
use Rattle.rx_plan.proofs.Planned.{planned_same, planned_weaken, planned_chain, planned_under}
use Rattle.rx_plan.proofs.PerBlock.{pair_values, against_values, two_blocks, one_block, greatest_entry}
use Rattle.rx_plan.proofs.Held.{cell_same, held_digit}
use Rattle.rx_cmp.specs.Selection.{chosen, kept_entry}

pub chosen_yes : (c x y : ℕ) → c ≡ 1 → chosen c x y ≡ x
chosen_yes c x y h = ap (λ b. cond b x y) (eq-eqb c 1 h)

pub chosen_no : (c x y : ℕ) → c ≡ 0 → chosen c x y ≡ y
chosen_no c x y h = ap (λ b. cond b x y) (ne_eqb c 1 (λ e. absurd (omega arith)))

pub kept_le : (w u i : ℕ) → 0 < u → kept_entry w u i ≤ u - 1
kept_le w u i h = kept_case (i / u == w) where
  kept_case : (b : Bool) → cond b (i % u) 0 ≤ u - 1
  kept_case true = omega (arith, mod_below i u h)
  kept_case false = omega arith

entry_is : (w u c x : ℕ) → x < u → kept_entry w u (u * c + x) ≡ cond (c == w) x 0
entry_is w u c x h =
    let e : u * c + x ≡ c * u + x = omega arith in
    ap (kept_entry w u) e ∙ ap (λ q. cond (q == w) ((c * u + x) % u) 0) (div-mul-add c u x h) ∙ ap (λ r. cond (c == w) r 0) (mod-mul-add c u x h)

-- what is kept of both adds up to what is chosen
pub kept_sum : (u c x y : ℕ) → c ≤ 1 → x < u → y < u → 1 * kept_entry 1 u (u * c + x) + kept_entry 0 u (u * c + y) ≡ chosen c x y
kept_sum u c x y h p q =
    elim (cases_eq c 1) [
      | inl e ↦
          let a : kept_entry 1 u (u * c + x) ≡ x = entry_is 1 u c x p ∙ ap (λ b. cond b x 0) (eq-eqb c 1 e) in
          let b : kept_entry 0 u (u * c + y) ≡ 0 = entry_is 0 u c y q ∙ ap (λ b. cond b y 0) (ne_eqb c 0 (λ z. absurd (omega arith))) in
          (let r : 1 * kept_entry 1 u (u * c + x) + kept_entry 0 u (u * c + y) ≡ x = omega arith in r) ∙ sym (chosen_yes c x y e)
      | inr n ↦
          let z : c ≡ 0 = omega arith in
          let a : kept_entry 1 u (u * c + x) ≡ 0 = entry_is 1 u c x p ∙ ap (λ b. cond b x 0) (ne_eqb c 1 n) in
          let b : kept_entry 0 u (u * c + y) ≡ y = entry_is 0 u c y q ∙ ap (λ b. cond b y 0) (eq-eqb c 0 z) in
          (let r : 1 * kept_entry 1 u (u * c + x) + kept_entry 0 u (u * c + y) ≡ y = omega arith in r) ∙ sym (chosen_no c x y z)
    ]

-- a function of the two numbers goes to the one that is chosen
pub chosen_of : (f : ℕ → ℕ) (c x y : ℕ) → f (chosen c x y) ≡ chosen c (f x) (f y)
chosen_of f c x y = chosen_case (c == 1) where
  chosen_case : (b : Bool) → f (cond b x y) ≡ cond b (f x) (f y)
  chosen_case true = refl
  chosen_case false = refl

pub chosen_below : (u c x y : ℕ) → x < u → y < u → chosen c x y < u
chosen_below u c x y p q = below_case (c == 1) where
  below_case : (b : Bool) → cond b x y < u
  below_case true = p
  below_case false = q

abbrev pub kept_values : Net → ℕ → ℕ → List ℕ → List ℕ → ℕ → ℕ
kept_values p w bit a inputs i = kept_entry w (2 ^ p.space) (2 ^ p.space * value p inputs bit + cell_value p a inputs i)

pub kept_planned : (old new : Net) (cells a table : List ℕ) (bit w unit : ℕ) → IsBounded old → unit ≡ 2 ^ old.space → IsCell old 1 bit → 1 ≤ 2 ^ old.space - 1 → AreBlocks old a
    → HasEntries old.space (kept_entry w (2 ^ old.space)) table
    → Planned old new cells (λ _. greatest_of table) (length a) (length a) 1 (λ P. P bit × Each a P) (against_values old unit table bit a)
    → Planned old new cells (λ _. 2 ^ old.space - 1) (length a) (length a) 1 (λ P. P bit × Each a P) (kept_values old w bit a)
kept_planned old new cells a table bit w unit bounded e kb some k h p =
    let s : ℕ = old.space in
    let u : ℕ = 2 ^ s in
    planned_same old new cells (λ _. greatest_of table) (λ _. u - 1) (length a) (length a) 1 (λ P. P bit × Each a P) (against_values old unit table bit a) (kept_values old w bit a)
    (λ i q. greatest_entry s (kept_entry w u) table (u - 1) h (λ j r. kept_le w u j (pow_pos s)))
    (λ xs v i q.
    let c : value old xs bit ≤ 1 = value_in old 1 bit bounded kb xs v in
    let x : cell_value old a xs i < u = value_below old u a bounded (pow_pos s) k xs v i q in
    ap (λ f. get_or table (f * value old xs bit + cell_value old a xs i) 0) e
    ∙ h.each (u * value old xs bit + cell_value old a xs i) (two_blocks u u (value old xs bit) (cell_value old a xs i) (pow_pos s) (omega arith) (omega arith) (omega arith)))
    p

pub selected_planned : (old one two new : Net) (cells first second a b table : List ℕ) (bit : ℕ) → IsBounded old → length b ≡ length a → IsCell old 1 bit → AreBlocks old a → AreBlocks old b
    → HasEntries two.space (λ i. i % 2 ^ two.space) table
    → Planned old one first (λ _. 2 ^ old.space - 1) (length a) (length a) 1 (λ P. P bit × Each a P) (kept_values old 1 bit a)
    → Planned one two second (λ _. 2 ^ one.space - 1) (length b) (length b) 1 (λ P. P bit × Each b P) (kept_values one 0 bit b)
    → Planned two new cells (λ _. greatest_of table) (length first) (length first) 1 (EachOf first second) (pair_values two 1 table first second)
    → Planned old new cells (λ _. 2 ^ old.space - 1) (length a) (3 * length a) 2 (λ P. P bit × Each a P × Each b P)
    (λ inputs i. digit_at old.space (chosen (value old inputs bit) (number_held old a inputs) (number_held old b inputs)) i)
selected_planned old one two new cells first second a b table bit bounded l kb ka kc h p q r =
    let s : ℕ = old.space in
    let u : ℕ = 2 ^ s in
    let n : ℕ = length a in
    let O : (ℕ → Type 0) → Type 0 = λ (P : ℕ → Type 0). P bit × Each a P × Each b P in
    let e1 : Extends old one = p.extends in
    let says : List ℕ → ℕ → ℕ = λ inputs i. digit_at s (chosen (value old inputs bit) (number_held old a inputs) (number_held old b inputs)) i in
    let p1 = planned_weaken old one first (λ _. u - 1) n n n 1 1 (λ P. P bit × Each a P) O (kept_values old 1 bit a) (omega arith) (omega arith) (λ d o. (o.0, o.1)) p in
    let p12 : Planned old two second (λ _. 2 ^ one.space - 1) (length b) (n + length b) 1 O (kept_values old 0 bit b) =
    planned_under old one two first second (λ _. u - 1) (λ _. 2 ^ one.space - 1) n (length b) n (length b) 1 O (λ P. P bit × Each b P) (kept_values old 1 bit a) (kept_values one 0 bit b) (kept_values old 0 bit b) p1 q
    (λ d o. (
      (let x : depth one bit ≡ depth old bit = e1.depths bit kb.there in let y : depth old bit ≤ d = o.0 in omega arith),
      depths_kept old one b d (u - 1) e1 kc o.2,
    ))
    (λ xs w i z.
    ap (λ s. kept_entry 0 (2 ^ s) (2 ^ s * value one xs bit + cell_value one b xs i)) e1.space
    ∙ ap (λ c. kept_entry 0 u (u * c + cell_value one b xs i)) (e1.values xs w bit kb.there)
    ∙ ap (λ y. kept_entry 0 u (u * value old xs bit + y)) (cell_same old one b xs i e1 kc w z)) in
    let e2 : Extends old two = p12.extends in
    let eq : Extends one two = q.extends in
    let nf : length first ≡ n = p.count_is in
    let jobs : n + length b + length first ≡ 3 * n = omega arith in
    let levels : 1 + 1 ≡ 2 = refl in
    let chain : Planned old new cells (λ _. greatest_of table) (length first) (n + length b + length first) (1 + 1) O says =
    planned_chain old two new second cells (λ _. 2 ^ one.space - 1) (λ _. greatest_of table) (length b) (length first) (n + length b) (length first) 1 1 O (EachOf first second) (kept_values old 0 bit b) (pair_values two 1 table first second) says p12 r
    (λ d o. (
      (λ i z.
          let x : depth two (get_or first i 0) ≡ depth one (get_or first i 0) = eq.depths (get_or first i 0) (p.cells_are i z).there in
          let y : depth one (get_or first i 0) ≤ d + 1 = p1.deep_cells d o i z in
          omega arith),
      p12.deep_cells d o,
    ))
    (λ xs w i z.
    let c : ℕ = value old xs bit in
    let x : ℕ = cell_value old a xs i in
    let y : ℕ = cell_value old b xs i in
    let cs : c ≤ 1 = value_in old 1 bit bounded kb xs w in
    let bx : x < u = value_below old u a bounded (pow_pos s) ka xs w i (omega arith) in
    let by : y < u = value_below old u b bounded (pow_pos s) kc xs w i (omega arith) in
    let vf : cell_value two first xs i ≡ kept_values old 1 bit a xs i = eq.values xs (within_now old one e1 xs w) (get_or first i 0) (p.cells_are i z).there ∙ p.values_are xs w i (omega arith) in
    let vs : cell_value two second xs i ≡ kept_values old 0 bit b xs i = p12.values_are xs w i (omega arith) in
    let sum : 1 * kept_values old 1 bit a xs i + kept_values old 0 bit b xs i ≡ chosen c x y = kept_sum u c x y cs bx by in
    let low : chosen c x y < u = chosen_below u c x y bx by in
    let two_u : 2 ^ two.space ≡ u = ap (λ s. 2 ^ s) e2.space in
    let index : 1 * cell_value two first xs i + cell_value two second xs i ≡ chosen c x y = ap (λ v. 1 * v + cell_value two second xs i) vf ∙ ap (λ v. 1 * kept_values old 1 bit a xs i + v) vs ∙ sum in
    let wide : chosen c x y < entries two.space = subst (λ (v : ℕ). chosen c x y < v * v) (sym two_u) (one_block u (chosen c x y) (pow_pos s) (omega arith)) in
    ap (λ k. get_or table k 0) index ∙ h.each (chosen c x y) wide ∙ ap (λ v. chosen c x y % v) two_u ∙ mod-eq_of_lt low
    ∙ ap (λ v. chosen c v y) (sym (held_digit old a xs i bounded ka w (omega arith)))
    ∙ ap (λ v. chosen c (digit_at s (number_held old a xs) i) v) (sym (held_digit old b xs i bounded kc w (omega arith)))
    ∙ sym (chosen_of (λ z. digit_at s z i) c (number_held old a xs) (number_held old b xs))) in
    subst (λ (k : ℕ). Planned old new cells (λ _. u - 1) k (3 * n) 2 O says) nf
    (subst (λ (j : ℕ). Planned old new cells (λ _. u - 1) (length first) j 2 O says) jobs
    (planned_same old new cells (λ _. greatest_of table) (λ _. u - 1) (length first) (n + length b + length first) 2 O says says
    (λ i z. greatest_entry two.space (λ i. i % 2 ^ two.space) table (u - 1) h (λ j t. let v : 2 ^ two.space ≡ u = ap (λ s. 2 ^ s) e2.space in omega (arith, mod_below j (2 ^ two.space) (pow_pos two.space))))
    (λ xs w i z. refl) chain))
