-- A balanced tree of states.
use Rattle.std.proofs.Common.{◌≡◌, ℕ, Bool, zero, suc, List, [], ◌∷◌, ◌++◌, ◌<◌, ◌≤◌, ◌+◌, ◌-◌, ◌*◌, ◌/◌, ◌%◌, ◌^◌, inl, inr, length, get_or, min, cond, sym, ◌∙◌, ap, refl, arith, subst}
use Rattle.std.proofs.lemmas.Bool.{cases_lt, lt-ltb, le-ltb}
use Rattle.std.proofs.Math.Nat.{pow-suc, pow-zero}
use Rattle.rx_net.specs.declared.net.Net.{Net}
use Rattle.rx_net.specs.Cells.{value, degree, noise, depth}
use Rattle.rx_net.specs.Legal.{IsBounded}
use Rattle.rx_net.specs.Growth.{Extends}
use Rattle.rx_costs.specs.Logs.{log_up, IsLogUp}
use Rattle.rx_costs.proofs.Exponents.{log_least}
use Rattle.rx_plan.specs.Tables.{entries, IsTable, HasEntries}
use Rattle.rx_plan.specs.Values.{AreInputs, cell_value}
use Rattle.rx_plan.specs.Planned.{Each, IsCell, AreCellsBy, Makes, Gives, Planned}
use Rattle.rx_plan.proofs.PerBlock.{unit_big, entries_big, table_is}
use Rattle.rx_plan.proofs.Kept.{within_now, value_in}
use Rattle.rx_plan.proofs.Planned.{makes_gives, keeps_gives, planned_push, planned_start, planned_then, planned_one, planned_weaken}
use Rattle.rx_carry.specs.Carries.{combine, carry_of, tops_at, flipped}
use Rattle.rx_carry.specs.Tree.{halved, join_jobs}
use Rattle.rx_carry.proofs.Carried.{combine_assoc, combine_none, combine_below, tops_low, tops_high, tops_le, carry_same, pair_entry, entry_le, entry_one, flipped_le, flipped_below}
use Rattle.rx_carry.proofs.Prefixes.{level_needed}

pub halved_low : (n : ℕ) (v : ℕ → ℕ) (i : ℕ) → 2 * i + 1 < n → halved n v i ≡ combine (v (2 * i + 1)) (v (2 * i))
unfolding halved
halved_low n v i h = ap (λ b. cond b (combine (v (2 * i + 1)) (v (2 * i))) (v (2 * i))) (lt-ltb (2 * i + 1) n h)

pub halved_high : (n : ℕ) (v : ℕ → ℕ) (i : ℕ) → n ≤ 2 * i + 1 → halved n v i ≡ v (2 * i)
unfolding halved
halved_high n v i h = ap (λ b. cond b (combine (v (2 * i + 1)) (v (2 * i))) (v (2 * i))) (le-ltb (2 * i + 1) n h)

pub jobs_low : (n i : ℕ) → 2 * i + 1 < n → join_jobs n i ≡ 1
unfolding join_jobs
jobs_low n i h = ap (λ b. cond b 1 0) (lt-ltb (2 * i + 1) n h)

pub jobs_high : (n i : ℕ) → n ≤ 2 * i + 1 → join_jobs n i ≡ 0
unfolding join_jobs
jobs_high n i h = ap (λ b. cond b 1 0) (le-ltb (2 * i + 1) n h)

pub jobs_more : (n i : ℕ) → min i (n / 2) + join_jobs n i ≡ min (i + 1) (n / 2)
jobs_more n i =
    elim (cases_lt (2 * i + 1) n) [
      | inl l ↦ omega (arith, jobs_low n i l)
      | inr l ↦ omega (arith, jobs_high n i l)
    ]

-- what goes out of the pairs goes out of the states
pub halved_carry : (n : ℕ) (v : ℕ → ℕ) (i : ℕ) → 2 * i ≤ n → carry_of (halved n v) i ≡ carry_of v (2 * i)
unfolding carry_of
halved_carry n v zero h = refl
halved_carry n v (suc i) h =
    let s : ℕ = 2 * i in
    let e : suc (suc s) ≡ 2 * suc i = omega arith in
    let o : s + 1 ≡ suc s = omega arith in
    ap (λ x. combine x (carry_of (halved n v) i)) (halved_low n v i (omega arith))
    ∙ ap (combine (combine (v (s + 1)) (v s))) (halved_carry n v i (omega arith))
    ∙ combine_assoc (v (s + 1)) (v s) (carry_of v s)
    ∙ ap (λ k. combine (v k) (combine (v s) (carry_of v s))) o
    ∙ ap (carry_of v) e

pub halved_all : (n : ℕ) (v : ℕ → ℕ) → carry_of (halved n v) ((n + 1) / 2) ≡ carry_of v n
unfolding carry_of
halved_all n v =
    let q : ℕ = (n + 1) / 2 in
    elim (cases_lt n (2 * q)) [
      | inl l ↦
          let p : ℕ = q - 1 in
          let e : q ≡ suc p = omega arith in
          let f : suc (2 * p) ≡ n = omega arith in
          ap (carry_of (halved n v)) e
          ∙ ap (λ x. combine x (carry_of (halved n v) p)) (halved_high n v p (omega arith))
          ∙ ap (combine (v (2 * p))) (halved_carry n v p (omega arith))
          ∙ ap (carry_of v) f
      | inr l ↦ let e : 2 * q ≡ n = omega arith in halved_carry n v q l ∙ ap (carry_of v) e
    ]

pub halved_same : (n : ℕ) (v w : ℕ → ℕ) (i : ℕ) → ((j : ℕ) → j < n → v j ≡ w j) → 2 * i < n → halved n v i ≡ halved n w i
halved_same n v w i h q =
    elim (cases_lt (2 * i + 1) n) [
      | inl l ↦ halved_low n v i l ∙ ap (λ x. combine x (v (2 * i))) (h (2 * i + 1) l) ∙ ap (combine (w (2 * i + 1))) (h (2 * i) q) ∙ sym (halved_low n w i l)
      | inr l ↦ halved_high n v i l ∙ h (2 * i) q ∙ sym (halved_high n w i l)
    ]

-- two nodes of a level
pub join_range : (p : Net) (x y i j : ℕ) → 2 ≤ p.space → IsCell p (tops_at 1 i) x → IsCell p (tops_at 1 j) y → 3 * degree p x + degree p y < entries p.space
join_range p x y i j s a b = omega (arith, tops_le 1 i, tops_le 1 j, entries_big p.space s, a.degree_in, b.degree_in)

pub join_noises : (p : Net) (x y i j : ℕ) → 2 ≤ p.space → IsCell p (tops_at 1 i) x → IsCell p (tops_at 1 j) y → 3 * noise p x + noise p y ≤ 2 ^ p.space + 1
join_noises p x y i j s a b = omega (arith, unit_big p.space s, a.noise_is, b.noise_is)

pub join_makes : (p new : Net) (x y i c : ℕ) (table : List ℕ) → 2 ≤ p.space → IsCell p (tops_at 1 (2 * i + 1)) x → IsCell p (tops_at 1 (2 * i)) y
    → HasEntries p.space (λ i. combine (i / 3) (i % 3)) table
    → Makes p new c (λ P. P x × P y) (3 * degree p x + degree p y) (λ v. 3 * v x + v y) table
    → Gives p new c (tops_at 1 i) 1
join_makes p new x y i c table s a b t m =
    let big : 16 ≤ entries p.space = entries_big p.space s in
    let a' : degree p x ≤ 2 = omega (arith, tops_le 1 (2 * i + 1), a.degree_in) in
    let b' : degree p y ≤ 2 = omega (arith, tops_le 1 (2 * i), b.degree_in) in
    makes_gives p new c (tops_at 1 i) _ _ _ table m (elim (cases_lt i 1) [
      | inl z ↦
          let w : tops_at 1 i ≡ 1 = tops_low 1 i z in
          let b1 : degree p y ≤ 1 = omega (arith, tops_low 1 (2 * i) (omega arith), b.degree_in) in
          let k : degree new c ≤ 1 = m.degree_in 1 (λ j r. let e : get_or table j 0 ≡ combine (j / 3) (j % 3) = t.each j (omega arith) in omega (arith, entry_one j (omega arith))) in
          omega arith
      | inr z ↦
          let w : tops_at 1 i ≡ 2 = tops_high 1 i z in
          let k : degree new c ≤ 2 = m.degree_in 2 (λ j r. let e : get_or table j 0 ≡ combine (j / 3) (j % 3) = t.each j (omega arith) in omega (arith, entry_le j (omega arith))) in
          omega arith
    ])

pub join_gives : (p new : Net) (nodes : List ℕ) (i c : ℕ) (table : List ℕ) → 2 ≤ p.space → AreCellsBy p (tops_at 1) nodes → 2 * i + 1 < length nodes
    → HasEntries p.space (λ i. combine (i / 3) (i % 3)) table
    → Makes p new c (λ P. P (get_or nodes (2 * i + 1) 0) × P (get_or nodes (2 * i) 0)) (3 * degree p (get_or nodes (2 * i + 1) 0) + degree p (get_or nodes (2 * i) 0)) (λ v. 3 * v (get_or nodes (2 * i + 1) 0) + v (get_or nodes (2 * i) 0)) table
    → Gives p new c (tops_at 1 i) (join_jobs (length nodes) i)
join_gives p new nodes i c table s h l t m =
    subst (λ (j : ℕ). Gives p new c (tops_at 1 i) j) (sym (jobs_low (length nodes) i l))
    (join_makes p new (get_or nodes (2 * i + 1) 0) (get_or nodes (2 * i) 0) i c table s (h (2 * i + 1) l) (h (2 * i) (omega arith)) t m)

-- what a pair looks up
pub pair_at : (p new : Net) (x y i j c : ℕ) (f : ℕ → ℕ) (table : List ℕ) → 2 ≤ p.space → IsBounded p → IsCell p (tops_at 1 i) x → IsCell p (tops_at 1 j) y
    → HasEntries p.space f table
    → Makes p new c (λ P. P x × P y) (3 * degree p x + degree p y) (λ v. 3 * v x + v y) table
    → (xs : List ℕ) → AreInputs p xs → value new xs c ≡ f (3 * value p xs x + value p xs y)
pair_at p new x y i j c f table s bounded a b t m xs w =
    let big : 16 ≤ entries p.space = entries_big p.space s in
    let vx : value p xs x ≤ degree p x = bounded xs w x a.there in
    let vy : value p xs y ≤ degree p y = bounded xs w y b.there in
    m.value_is xs w ∙ t.each (3 * value p xs x + value p xs y) (omega (arith, tops_le 1 i, tops_le 1 j, a.degree_in, b.degree_in))

pub node_small : (p : Net) (x i : ℕ) → IsBounded p → IsCell p (tops_at 1 i) x → (xs : List ℕ) → AreInputs p xs → value p xs x < 3
node_small p x i bounded a xs w = omega (arith, bounded xs w x a.there, a.degree_in, tops_le 1 i)

pub join_value : (p new : Net) (nodes : List ℕ) (i c : ℕ) (table : List ℕ) → 2 ≤ p.space → IsBounded p → AreCellsBy p (tops_at 1) nodes → 2 * i + 1 < length nodes
    → HasEntries p.space (λ i. combine (i / 3) (i % 3)) table
    → Makes p new c (λ P. P (get_or nodes (2 * i + 1) 0) × P (get_or nodes (2 * i) 0)) (3 * degree p (get_or nodes (2 * i + 1) 0) + degree p (get_or nodes (2 * i) 0)) (λ v. 3 * v (get_or nodes (2 * i + 1) 0) + v (get_or nodes (2 * i) 0)) table
    → (xs : List ℕ) → AreInputs p xs → value new xs c ≡ halved (length nodes) (cell_value p nodes xs) i
join_value p new nodes i c table s bounded h l t m xs w =
    let x : ℕ = get_or nodes (2 * i + 1) 0 in
    let y : ℕ = get_or nodes (2 * i) 0 in
    let a : IsCell p (tops_at 1 (2 * i + 1)) x = h (2 * i + 1) l in
    let b : IsCell p (tops_at 1 (2 * i)) y = h (2 * i) (omega arith) in
    pair_at p new x y (2 * i + 1) (2 * i) c (λ i. combine (i / 3) (i % 3)) table s bounded a b t m xs w
    ∙ pair_entry (value p xs x) (value p xs y) (node_small p y (2 * i) bounded b xs w) ∙ sym (halved_low (length nodes) (cell_value p nodes xs) i l)

pub join_keeps : (p : Net) (nodes : List ℕ) (i : ℕ) → IsBounded p → AreCellsBy p (tops_at 1) nodes → 2 * i < length nodes → length nodes ≤ 2 * i + 1 → Gives p p (get_or nodes (2 * i) 0) (tops_at 1 i) (join_jobs (length nodes) i)
join_keeps p nodes i b h q l =
    let k : IsCell p (tops_at 1 (2 * i)) (get_or nodes (2 * i) 0) = h (2 * i) q in
    let e : tops_at 1 (2 * i) ≡ tops_at 1 i = elim (cases_lt i 1) [ inl z ↦ tops_low 1 (2 * i) (omega arith) ∙ sym (tops_low 1 i z) | inr z ↦ tops_high 1 (2 * i) (omega arith) ∙ sym (tops_high 1 i z) ] in
    subst (λ (j : ℕ). Gives p p (get_or nodes (2 * i) 0) (tops_at 1 i) j) (sym (jobs_high (length nodes) i l))
    (keeps_gives p (get_or nodes (2 * i) 0) (tops_at 1 i) b record { there = k.there; degree_in = omega (arith, k.degree_in); noise_is = k.noise_is })

pub halve_push : (old now new : Net) (cs nodes : List ℕ) (i c : ℕ) → AreCellsBy old (tops_at 1) nodes → 2 * i < length nodes
    → Planned old now cs (tops_at 1) i (min i (length nodes / 2)) 1 (Each nodes) (λ xs i. halved (length nodes) (cell_value old nodes xs) i)
    → Gives now new c (tops_at 1 i) (join_jobs (length nodes) i)
    → ((d : ℕ) → Each nodes (λ o. depth now o ≤ d) → depth new c ≤ d + 1)
    → ((xs : List ℕ) → AreInputs now xs → value new xs c ≡ halved (length nodes) (cell_value now nodes xs) i)
    → Planned old new (cs ++ c ∷ []) (tops_at 1) (i + 1) (min (i + 1) (length nodes / 2)) 1 (Each nodes) (λ xs i. halved (length nodes) (cell_value old nodes xs) i)
halve_push old now new cs nodes i c h q p g d v =
    let e : Extends old now = p.extends in
    subst (λ (j : ℕ). Planned old new (cs ++ c ∷ []) (tops_at 1) (i + 1) j 1 (Each nodes) (λ xs i. halved (length nodes) (cell_value old nodes xs) i)) (jobs_more (length nodes) i)
    (planned_push old now new cs (tops_at 1) i (min i (length nodes / 2)) 1 (join_jobs (length nodes) i) (Each nodes) (λ xs i. halved (length nodes) (cell_value old nodes xs) i) c p g
    (λ n o. d n (λ j r. let k : depth now (get_or nodes j 0) ≡ depth old (get_or nodes j 0) = e.depths (get_or nodes j 0) (h j r).there in let m : depth old (get_or nodes j 0) ≤ n = o j r in omega arith))
    (λ xs w. v xs (within_now old now e xs w) ∙ halved_same (length nodes) (cell_value now nodes xs) (cell_value old nodes xs) i (λ j r. e.values xs w (get_or nodes j 0) (h j r).there) q))

pub halve_room : (n i : ℕ) → 2 * i < n → min i (n / 2) + join_jobs n i ≤ n / 2
halve_room n i h = omega (arith, jobs_more n i)

-- ---- the levels so far
pub record Tree (old now : Net) (all nodes : List ℕ) : Type 0 where
  pub levels : ℕ
  pub planned : Planned old now nodes (tops_at 1) (length nodes) (length all - length nodes) levels (Each all) (λ xs i. cell_value now nodes xs i)
  pub levels_in : (t : ℕ) → length all ≤ 2 ^ t → (levels ≤ t) × (length nodes ≤ 2 ^ (t - levels))
  pub carry_is : (xs : List ℕ) → AreInputs old xs → carry_of (cell_value now nodes xs) (length nodes) ≡ carry_of (cell_value old all xs) (length all)
  pub some : 2 ≤ length nodes
  pub fewer : length nodes ≤ length all

pub tree_start : (p : Net) (all : List ℕ) → IsBounded p → AreCellsBy p (tops_at 1) all → 2 ≤ length all → Tree p p all all
tree_start p all b h n = record {
  levels = 0;
  planned = planned_weaken p p all (tops_at 1) (length all) 0 (length all - length all) 0 0 (Each all) (Each all) (λ xs i. cell_value p all xs i) (omega arith) (omega arith) (λ d o. o) (planned_start p all (tops_at 1) (length all) refl b h);
  levels_in = λ t k. let e : t ≡ t - 0 = omega arith in (omega arith, subst (λ (s : ℕ). length all ≤ 2 ^ s) e k);
  carry_is = λ xs w. refl;
  some = n;
  fewer = omega arith;
}

halves : (n s : ℕ) → 2 < n → n ≤ 2 ^ s → (1 ≤ s) × ((n + 1) / 2 ≤ 2 ^ (s - 1))
halves n zero h k = absurd (omega (arith, pow-zero 2))
halves n (suc r) h k =
    let e : suc r - 1 ≡ r = omega arith in
    let p : 2 ^ suc r ≡ 2 ^ r * 2 = pow-suc 2 r in
    let q : (n + 1) / 2 ≤ 2 ^ r = omega arith in
    (omega arith, subst (λ (k : ℕ). (n + 1) / 2 ≤ 2 ^ k) (sym e) q)

pub tree_more : (old now new : Net) (all nodes ds : List ℕ) → 2 < length nodes → Tree old now all nodes
    → Planned now new ds (tops_at 1) ((length nodes + 1) / 2) (length nodes / 2) 1 (Each nodes) (λ xs i. halved (length nodes) (cell_value now nodes xs) i)
    → Tree old new all ds
tree_more old now new all nodes ds l r q =
    let n : ℕ = length nodes in
    let m : ℕ = (n + 1) / 2 in
    let c : length ds ≡ m = q.count_is in
    let p : Planned old new ds (tops_at 1) m (length all - n + n / 2) (r.levels + 1) (Each all) (λ xs i. cell_value new ds xs i) =
    planned_then old now new nodes ds (tops_at 1) (tops_at 1) n m (length all - n) (n / 2) r.levels 1 (Each all) (λ xs i. cell_value now nodes xs i) (λ xs i. halved n (cell_value now nodes xs) i) (λ xs i. cell_value new ds xs i) r.planned q
    (λ xs w i x. sym (q.values_are xs (within_now old now r.planned.extends xs w) i x)) in
    record {
      levels = r.levels + 1;
      planned =
          planned_weaken old new ds (tops_at 1) (length ds) (length all - n + n / 2) (length all - length ds) (r.levels + 1) (r.levels + 1) (Each all) (Each all) (λ xs i. cell_value new ds xs i) (omega (arith, r.fewer)) (omega arith) (λ d o. o)
          (subst (λ (k : ℕ). Planned old new ds (tops_at 1) k (length all - n + n / 2) (r.levels + 1) (Each all) (λ xs i. cell_value new ds xs i)) (sym c) p);
      levels_in = λ t h.
          let k = r.levels_in t h in
          let b : r.levels ≤ t = k.0 in
          let v = halves n (t - r.levels) l k.1 in
          let z : 1 ≤ t - r.levels = v.0 in
          let e : t - r.levels - 1 ≡ t - (r.levels + 1) = omega arith in
          (omega arith, subst (λ (k : ℕ). k ≤ 2 ^ (t - (r.levels + 1))) (sym c) (subst (λ (s : ℕ). m ≤ 2 ^ s) e v.1));
      carry_is = λ xs w.
          ap (carry_of (cell_value new ds xs)) c
          ∙ carry_same (cell_value new ds xs) (halved n (cell_value now nodes xs)) m (λ k x. q.values_are xs (within_now old now r.planned.extends xs w) k x)
          ∙ halved_all n (cell_value now nodes xs) ∙ r.carry_is xs w;
      some = omega arith;
      fewer = omega (arith, r.fewer);
    }

levels_up : (n l t : ℕ) → 2 ≤ n → l ≤ t → n ≤ 2 ^ (t - l) → l + 1 ≤ t
levels_up n l t h p q =
    elim (cases_lt l t) [
      | inl z ↦ omega arith
      | inr z ↦ let e : t - l ≡ 0 = omega arith in let f : 2 ^ (t - l) ≡ 2 ^ 0 = ap (λ k. 2 ^ k) e in absurd (omega (arith, pow-zero 2))
    ]

-- two nodes are left
pub tree_two : (old now : Net) (all nodes : List ℕ) → length nodes ≤ 2 → Tree old now all nodes
    → Planned old now nodes (tops_at 1) 2 (length all - 2) (log_up 2 (length all) - 1) (Each all) (λ xs i. cell_value now nodes xs i)
tree_two old now all nodes l r =
    let two : length nodes ≡ 2 = omega (arith, r.some) in
    let t : ℕ = log_up 2 (length all) in
    let k : IsLogUp 2 (length all) t = log_least 2 (length all) (omega arith) in
    let lv = r.levels_in t k.enough in
    let up : r.levels + 1 ≤ t = levels_up (length nodes) r.levels t r.some lv.0 lv.1 in
    planned_weaken old now nodes (tops_at 1) 2 (length all - 2) (length all - 2) r.levels (t - 1) (Each all) (Each all) (λ xs i. cell_value now nodes xs i) (omega arith) (omega arith) (λ d o. o)
    (subst (λ (n : ℕ). Planned old now nodes (tops_at 1) n (length all - n) r.levels (Each all) (λ xs i. cell_value now nodes xs i)) two r.planned)

pub two_carry : (old now : Net) (all nodes : List ℕ) → length nodes ≤ 2 → Tree old now all nodes → (xs : List ℕ) → AreInputs old xs
    → carry_of (cell_value now nodes xs) 2 ≡ carry_of (cell_value old all xs) (length all)
two_carry old now all nodes l r xs w = let two : 2 ≡ length nodes = omega (arith, r.some) in ap (carry_of (cell_value now nodes xs)) two ∙ r.carry_is xs w

carry_two : (v : ℕ → ℕ) → v 0 ≤ 1 → carry_of v 2 ≡ combine (v 1) (v 0)
unfolding carry_of
carry_two v h = ap (combine (v 1)) (combine_none (v 0) h)

pub last_is_table : (b : Bool) (s : ℕ) (table : List ℕ) → 2 ≤ s → HasEntries s (λ i. flipped b (combine (i / 3) (i % 3))) table → IsTable s table
last_is_table b s table p h =
    let big : 16 ≤ entries s = entries_big s p in
    table_is s (λ i. flipped b (combine (i / 3) (i % 3))) table h (λ i q. flipped_below b (combine (i / 3) (i % 3)) (entries s) (combine_below (i / 3) (i % 3) (entries s) (omega arith) (omega arith)) (omega arith))

-- the last two nodes by the last table
pub tree_end : (old now new : Net) (all nodes : List ℕ) (c : ℕ) (b : Bool) (table : List ℕ) → 2 ≤ now.space → 2 ≤ length all
    → Planned old now nodes (tops_at 1) 2 (length all - 2) (log_up 2 (length all) - 1) (Each all) (λ xs i. cell_value now nodes xs i)
    → ((xs : List ℕ) → AreInputs old xs → carry_of (cell_value now nodes xs) 2 ≡ carry_of (cell_value old all xs) (length all))
    → HasEntries now.space (λ i. flipped b (combine (i / 3) (i % 3))) table
    → Makes now new c (λ P. P (get_or nodes 1 0) × P (get_or nodes 0 0)) (3 * degree now (get_or nodes 1 0) + degree now (get_or nodes 0 0)) (λ v. 3 * v (get_or nodes 1 0) + v (get_or nodes 0 0)) table
    → Planned old new (c ∷ []) (λ _. 1) 1 (length all - 1) (log_up 2 (length all)) (Each all) (λ xs _. flipped b (carry_of (cell_value old all xs) (length all)))
tree_end old now new all nodes c b table s n p carry h m =
    let t : ℕ = log_up 2 (length all) in
    let x : ℕ = get_or nodes 1 0 in
    let y : ℕ = get_or nodes 0 0 in
    let kx : IsCell now (tops_at 1 1) x = p.cells_are 1 (omega (arith, p.count_is)) in
    let ky : IsCell now (tops_at 1 0) y = p.cells_are 0 (omega (arith, p.count_is)) in
    let big : 16 ≤ entries now.space = entries_big now.space s in
    let a' : degree now x ≤ 2 = omega (arith, tops_le 1 1, kx.degree_in) in
    let b' : degree now y ≤ 1 = omega (arith, tops_low 1 0 (omega arith), ky.degree_in) in
    let up : 0 < t = level_needed (length all) 0 (omega (arith, pow-zero 2)) in
    let g : Gives now new c 1 1 =
    makes_gives now new c 1 _ _ _ table m (m.degree_in 1 (λ j r. let e : get_or table j 0 ≡ flipped b (combine (j / 3) (j % 3)) = h.each j (omega arith) in omega (arith, flipped_le b (combine (j / 3) (j % 3)) (entry_one j (omega arith))))) in
    let f : List ℕ → ℕ → ℕ = λ xs i. flipped b (combine (cell_value now nodes xs 1) (cell_value now nodes xs 0)) in
    let q : Planned now new (c ∷ []) (λ _. 1) 1 1 1 (Each nodes) f =
    planned_one now new c 1 1 1 (Each nodes) (λ xs. flipped b (combine (cell_value now nodes xs 1) (cell_value now nodes xs 0))) g
    (λ d o. m.depth_in d (o 1 (omega (arith, p.count_is)), o 0 (omega (arith, p.count_is))))
    (λ xs w. pair_at now new x y 1 0 c (λ i. flipped b (combine (i / 3) (i % 3))) table s p.bounded kx ky h m xs w ∙ ap (flipped b) (pair_entry (value now xs x) (value now xs y) (node_small now y 0 p.bounded ky xs w))) in
    planned_weaken old new (c ∷ []) (λ _. 1) 1 (length all - 2 + 1) (length all - 1) (t - 1 + 1) t (Each all) (Each all) (λ xs _. flipped b (carry_of (cell_value old all xs) (length all))) (omega arith) (omega arith) (λ d o. o)
    (planned_then old now new nodes (c ∷ []) (tops_at 1) (λ _. 1) 2 1 (length all - 2) 1 (t - 1) 1 (Each all) (λ xs i. cell_value now nodes xs i) f (λ xs _. flipped b (carry_of (cell_value old all xs) (length all))) p q
    (λ xs w i z.
    let vy : value now xs y ≤ 1 = omega (arith, value_in now (tops_at 1 0) y p.bounded ky xs (within_now old now p.extends xs w), tops_low 1 0 (omega arith)) in
    ap (flipped b) (sym (carry_two (cell_value now nodes xs) vy) ∙ carry xs w)))

pub pair_same : (now new : Net) (c x x' y y' : ℕ) (table : List ℕ) → x ≡ x' → y ≡ y'
    → Makes now new c (λ P. P x × P y) (3 * degree now x + degree now y) (λ v. 3 * v x + v y) table
    → Makes now new c (λ P. P x' × P y') (3 * degree now x' + degree now y') (λ v. 3 * v x' + v y') table
pair_same now new c x x' y y' table p q m =
    subst (λ (y : ℕ). Makes now new c (λ P. P x' × P y) (3 * degree now x' + degree now y) (λ v. 3 * v x' + v y) table) q
    (subst (λ (x : ℕ). Makes now new c (λ P. P x × P y) (3 * degree now x + degree now y) (λ v. 3 * v x + v y) table) p m)
