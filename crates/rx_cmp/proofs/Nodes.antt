-- Level after level, down to one bit.
use Rattle.std.proofs.Common.{◌≡◌, ◌^◌, ℕ, Bool, true, false, zero, suc, ◌+◌, ◌-◌, ◌*◌, ◌<◌, ◌≤◌, inl, inr, List, [], ◌∷◌, length, get_or, max, refl, sym, ◌∙◌, ap, arith, subst}
use Rattle.std.proofs.lemmas.Bool.{cases_lt}
use Rattle.std.proofs.lemmas.Nat.{mul-le}
use Rattle.std.proofs.Math.Nat.{pow-suc, pow-zero}
use Rattle.rx_params.specs.Derived.{noise_limit}
use Rattle.rx_net.specs.declared.net.Net.{Net}
use Rattle.rx_net.specs.Cells.{value, degree}
use Rattle.rx_net.specs.Legal.{IsBounded}
use Rattle.rx_plan.specs.Tables.{entries, HasEntries}
use Rattle.rx_plan.specs.Values.{AreInputs, cell_value, total}
use Rattle.rx_plan.specs.Planned.{Each, AreBlocks, AreCells, Makes, Gives, Planned}
use Rattle.rx_plan.proofs.Kept.{within_now}
use Rattle.rx_plan.proofs.Planned.{makes_gives, planned_one, planned_then, planned_start, planned_weaken}
use Rattle.rx_plan.proofs.Totals.{total_same}
use Rattle.rx_costs.specs.Rounds.{groups}
use Rattle.rx_costs.proofs.Groupings.{groups_hold, groups_needed}
use Rattle.rx_carry.specs.Carries.{flipped}
use Rattle.rx_cmp.specs.Groups.{is_some, grouped, any_jobs}
use Rattle.rx_cmp.proofs.Grouping.{some_le, some_all, part_range, part_value_in}

pub flipped_le : (v : Bool) (x : ℕ) → x ≤ 1 → flipped v x ≤ 1
flipped_le true x h = omega arith
flipped_le false x h = h

-- ---- how many groups there are
pub groups_below : (most n s : ℕ) → 1 ≤ most → most < n → n ≤ most ^ s → (1 ≤ s) × (groups most n ≤ most ^ (s - 1))
groups_below most n zero o h k = absurd (omega (arith, pow-zero most))
groups_below most n (suc r) o h k =
    let e : suc r - 1 ≡ r = omega arith in
    let p : most ^ suc r ≡ most ^ r * most = pow-suc most r in
    let g : groups most n * most < n + most = groups_needed most n o in
    let q : groups most n ≤ most ^ r =
    elim (cases_lt (most ^ r) (groups most n)) [
      | inl l ↦ let m : (most ^ r + 1) * most ≤ groups most n * most = mul-le (most ^ r + 1) most (groups most n) most (omega arith) (omega arith) in absurd (omega arith)
      | inr l ↦ l
    ] in
    (omega arith, subst (λ (k : ℕ). groups most n ≤ most ^ k) (sym e) q)

pub groups_two : (most n : ℕ) → 1 ≤ most → most < n → 2 ≤ groups most n
groups_two most n o h =
    let a : n ≤ groups most n * most = groups_hold most n o in
    elim (cases_lt (groups most n) 2) [
      | inl l ↦ let m : groups most n * most ≤ 1 * most = mul-le (groups most n) most 1 most (omega arith) (omega arith) in absurd (omega arith)
      | inr l ↦ l
    ]

pub groups_fall : (most n : ℕ) → 2 ≤ most → most < n → groups most n < n
groups_fall most n o l =
    let g : groups most n * most < n + most = groups_needed most n (omega arith) in
    let k : n * 2 ≤ n * most = mul-le n 2 n most (omega arith) o in
    elim (cases_lt (groups most n) n) [
      | inl c ↦ c
      | inr c ↦ let m : n * most ≤ groups most n * most = mul-le n most (groups most n) most c (omega arith) in absurd (omega arith)
    ]

-- ---- the levels so far
pub record Nodes (old now : Net) (all nodes : List ℕ) (most : ℕ) : Type 0 where
  pub levels : ℕ
  pub planned : Planned old now nodes (λ _. 2 ^ old.space - 1) (length nodes) (length all - length nodes) levels (Each all) (λ xs i. cell_value now nodes xs i)
  pub levels_in : (t : ℕ) → length all ≤ most ^ t → (levels ≤ t) × (length nodes ≤ most ^ (t - levels))
  pub some_is : (xs : List ℕ) → AreInputs old xs → is_some (total (length nodes) (cell_value now nodes xs)) ≡ is_some (total (length all) (cell_value old all xs))
  pub some : 1 ≤ length nodes
  pub alone : length nodes ≤ 1 → (length all ≤ 1) × (levels ≡ 0)
  pub fewer : length nodes ≤ length all

pub nodes_start : (p : Net) (all : List ℕ) (most : ℕ) → IsBounded p → AreBlocks p all → 1 ≤ length all → Nodes p p all all most
nodes_start p all most b h n = record {
  levels = 0;
  planned = planned_weaken p p all (λ _. 2 ^ p.space - 1) (length all) 0 (length all - length all) 0 0 (Each all) (Each all) (λ xs i. cell_value p all xs i) (omega arith) (omega arith) (λ d o. o) (planned_start p all (λ _. 2 ^ p.space - 1) (length all) refl b h);
  levels_in = λ t k. let e : t ≡ t - 0 = omega arith in (omega arith, subst (λ (s : ℕ). length all ≤ most ^ s) e k);
  some_is = λ xs w. refl;
  some = n;
  alone = λ l. (l, refl);
  fewer = omega arith;
}

pub nodes_more : (old now new : Net) (all nodes ds : List ℕ) (most : ℕ) → 2 ≤ most → most < length nodes → Nodes old now all nodes most
    → Planned now new ds (λ _. 2 ^ now.space - 1) (groups most (length nodes)) (length nodes - groups most (length nodes)) 1 (Each nodes) (λ xs i. grouped most (length nodes) (cell_value now nodes xs) i)
    → Nodes old new all ds most
nodes_more old now new all nodes ds most o l r q =
    let n : ℕ = length nodes in
    let turns : ℕ = groups most n in
    let u : 2 ^ now.space - 1 ≡ 2 ^ old.space - 1 = ap (λ s. 2 ^ s - 1) r.planned.extends.space in
    let q' = subst (λ (k : ℕ). Planned now new ds (λ _. k) turns (n - turns) 1 (Each nodes) (λ xs i. grouped most n (cell_value now nodes xs) i)) u q in
    let c : length ds ≡ turns = q.count_is in
    let two : 2 ≤ turns = groups_two most n (omega arith) l in
    let le : turns < n = groups_fall most n o l in
    let p : Planned old new ds (λ _. 2 ^ old.space - 1) turns (length all - n + (n - turns)) (r.levels + 1) (Each all) (λ xs i. cell_value new ds xs i) =
    planned_then old now new nodes ds (λ _. 2 ^ old.space - 1) (λ _. 2 ^ old.space - 1) n turns (length all - n) (n - turns) r.levels 1 (Each all) (λ xs i. cell_value now nodes xs i) (λ xs i. grouped most n (cell_value now nodes xs) i) (λ xs i. cell_value new ds xs i) r.planned q'
    (λ xs w i x. sym (q.values_are xs (within_now old now r.planned.extends xs w) i x)) in
    record {
      levels = r.levels + 1;
      planned =
          planned_weaken old new ds (λ _. 2 ^ old.space - 1) (length ds) (length all - n + (n - turns)) (length all - length ds) (r.levels + 1) (r.levels + 1) (Each all) (Each all) (λ xs i. cell_value new ds xs i) (omega (arith, r.fewer)) (omega arith) (λ d o. o)
          (subst (λ (k : ℕ). Planned old new ds (λ _. 2 ^ old.space - 1) k (length all - n + (n - turns)) (r.levels + 1) (Each all) (λ xs i. cell_value new ds xs i)) (sym c) p);
      levels_in = λ t h.
          let k = r.levels_in t h in
          let b : r.levels ≤ t = k.0 in
          let v = groups_below most n (t - r.levels) (omega arith) l k.1 in
          let z : 1 ≤ t - r.levels = v.0 in
          let e : t - r.levels - 1 ≡ t - (r.levels + 1) = omega arith in
          (omega arith, subst (λ (k : ℕ). k ≤ most ^ (t - (r.levels + 1))) (sym c) (subst (λ (s : ℕ). turns ≤ most ^ s) e v.1));
      some_is = λ xs w.
          ap (λ k. is_some (total k (cell_value new ds xs))) c
          ∙ ap is_some (total_same turns (cell_value new ds xs) (grouped most n (cell_value now nodes xs)) (λ i x. q.values_are xs (within_now old now r.planned.extends xs w) i x))
          ∙ some_all most n (cell_value now nodes xs) (omega arith) ∙ r.some_is xs w;
      some = omega arith;
      alone = λ z. absurd (omega arith);
      fewer = omega (arith, r.fewer);
    }

levels_up : (most n l t : ℕ) → 2 ≤ n → l ≤ t → n ≤ most ^ (t - l) → l + 1 ≤ t
levels_up most n l t h p q =
    elim (cases_lt l t) [
      | inl z ↦ omega arith
      | inr z ↦ let e : t - l ≡ 0 = omega arith in let f : most ^ (t - l) ≡ most ^ 0 = ap (λ k. most ^ k) e in absurd (omega (arith, pow-zero most))
    ]

pub nodes_end : (old now new : Net) (all nodes : List ℕ) (c : ℕ) (b : Bool) (table : List ℕ) (most t : ℕ) → most ≡ noise_limit now.space → length nodes ≤ most → Nodes old now all nodes most
    → HasEntries now.space (λ i. flipped b (is_some i)) table
    → Makes now new c (Each nodes) (total (length nodes) (λ i. degree now (get_or nodes i 0))) (λ v. total (length nodes) (λ i. v (get_or nodes i 0))) table
    → length all ≤ most ^ t
    → Planned old new (c ∷ []) (λ _. 1) 1 (any_jobs (length all)) (max 1 t) (Each all) (λ xs _. flipped b (is_some (total (length all) (cell_value old all xs))))
nodes_end old now new all nodes c b table most t e l r h m k =
    let p = r.planned in
    let are : AreBlocks now nodes = subst (λ (s : ℕ). AreCells now (2 ^ s - 1) nodes) (sym p.extends.space) p.cells_are in
    let range : total (length nodes) (λ i. degree now (get_or nodes i 0)) < entries now.space = part_range now nodes (omega arith) are in
    let g : Gives now new c 1 1 =
    makes_gives now new c 1 (Each nodes) (total (length nodes) (λ i. degree now (get_or nodes i 0))) (λ v. total (length nodes) (λ i. v (get_or nodes i 0))) table m
    (m.degree_in 1 (λ j x. let z : get_or table j 0 ≡ flipped b (is_some j) = h.each j (omega arith) in omega (arith, flipped_le b (is_some j) (some_le j)))) in
    let f : List ℕ → ℕ = λ xs. flipped b (is_some (total (length nodes) (cell_value now nodes xs))) in
    let q : Planned now new (c ∷ []) (λ _. 1) 1 1 1 (Each nodes) (λ xs _. f xs) =
    planned_one now new c 1 1 1 (Each nodes) f g (λ d o. m.depth_in d o)
    (λ xs w. m.value_is xs w ∙ h.each (total (length nodes) (λ i. value now xs (get_or nodes i 0))) (part_value_in now nodes p.bounded (omega arith) are xs w)) in
    let lv = r.levels_in t k in
    let up : r.levels + 1 ≤ max 1 t =
    elim (cases_lt 1 (length nodes)) [
      | inl z ↦ omega (arith, levels_up most (length nodes) r.levels t z lv.0 lv.1)
      | inr z ↦ omega (arith, (r.alone z).1)
    ] in
    let jobs : length all - length nodes + 1 ≤ any_jobs (length all) =
    elim (cases_lt 1 (length nodes)) [
      | inl z ↦ omega (arith, r.fewer)
      | inr z ↦ omega (arith, (r.alone z).0, r.some)
    ] in
    planned_weaken old new (c ∷ []) (λ _. 1) 1 (length all - length nodes + 1) (any_jobs (length all)) (r.levels + 1) (max 1 t) (Each all) (Each all) (λ xs _. flipped b (is_some (total (length all) (cell_value old all xs)))) jobs up (λ d o. o)
    (planned_then old now new nodes (c ∷ []) (λ _. 2 ^ old.space - 1) (λ _. 1) (length nodes) 1 (length all - length nodes) 1 r.levels 1 (Each all) (λ xs i. cell_value now nodes xs i) (λ xs _. f xs) (λ xs _. flipped b (is_some (total (length all) (cell_value old all xs)))) p q
    (λ xs w i z. ap (flipped b) (r.some_is xs w)))

-- the blocks of a level, where the pen stands
pub nodes_blocks : (old now : Net) (all nodes cs : List ℕ) (most : ℕ) → Nodes old now all nodes most → cs ≡ nodes → AreBlocks now cs
nodes_blocks old now all nodes cs most r e =
    subst (λ (cs : List ℕ). AreBlocks now cs) (sym e) (subst (λ (s : ℕ). AreCells now (2 ^ s - 1) nodes) (sym r.planned.extends.space) r.planned.cells_are)
