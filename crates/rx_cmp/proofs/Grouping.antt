-- What stands for groups of cells says whether one of the cells is not 0.
use Rattle.std.proofs.Common.{◌≡◌, ◌^◌, ℕ, zero, suc, ◌+◌, ◌-◌, ◌*◌, ◌<◌, ◌≤◌, inl, inr, List, [], ◌∷◌, ◌++◌, length, get_or, take, drop, min, refl, sym, ◌∙◌, ap, arith, subst, cond}
use Rattle.std.specs.Prelude.{◌==◌}
use Rattle.std.specs.Int.{div_ceil}
use Rattle.std.proofs.lemmas.Bool.{cases_lt, cases_eq, eq-eqb, ne_eqb}
use Rattle.std.proofs.lemmas.Nat.{mul-le, pow_pos}
use Rattle.std.proofs.lemmas.List.{get_or-take, get_or-drop, length-take-le, length-drop}
use Rattle.rx_params.specs.Derived.{noise_limit}
use Rattle.rx_net.specs.declared.net.Net.{Net}
use Rattle.rx_net.specs.Cells.{value, degree, noise, depth}
use Rattle.rx_net.specs.Legal.{IsBounded}
use Rattle.rx_net.specs.Growth.{Extends}
use Rattle.rx_plan.specs.Tables.{entries, HasEntries}
use Rattle.rx_plan.specs.Values.{AreInputs, cell_value, total}
use Rattle.rx_plan.specs.Planned.{Each, AreBlocks, Makes, Gives, Planned}
use Rattle.rx_plan.proofs.Kept.{within_now}
use Rattle.rx_plan.proofs.Planned.{makes_gives, planned_push}
use Rattle.rx_plan.proofs.PerBlock.{unit_big}
use Rattle.rx_plan.proofs.Totals.{total_same, total_le, total_split, total_mono}
use Rattle.rx_costs.specs.Rounds.{groups}
use Rattle.rx_costs.proofs.Groupings.{groups_hold, group_start}
use Rattle.rx_cmp.specs.Groups.{is_some, joined, group_size, grouped}

pub some_le : (x : ℕ) → is_some x ≤ 1
some_le zero = omega arith
some_le (suc x) = omega arith

pub some_add : (a b : ℕ) → is_some (a + b) ≡ is_some (is_some a + is_some b)
some_add zero zero = refl
some_add zero (suc b) = let e : 0 + suc b ≡ suc b = omega arith in ap is_some e
some_add (suc a) zero = let e : suc a + 0 ≡ suc a = omega arith in ap is_some e
some_add (suc a) (suc b) = let e : suc a + suc b ≡ suc (a + suc b) = omega arith in ap is_some e

some_idem : (x : ℕ) → is_some (is_some x) ≡ is_some x
some_idem zero = refl
some_idem (suc x) = refl

pub joined_alone : (size : ℕ) (v : ℕ → ℕ) → size ≡ 1 → joined size v ≡ v 0
joined_alone size v h = ap (λ b. cond b (v 0) (is_some (total size v))) (eq-eqb size 1 h)

pub joined_more : (size : ℕ) (v : ℕ → ℕ) → 2 ≤ size → joined size v ≡ is_some (total size v)
joined_more size v h = ap (λ b. cond b (v 0) (is_some (total size v))) (ne_eqb size 1 (λ e. absurd (omega arith)))

total_alone : (v : ℕ → ℕ) → total 1 v ≡ v 0
unfolding total
total_alone v = omega arith

-- what stands for a group is not 0 where one of the group is not
joined_some : (size : ℕ) (v : ℕ → ℕ) → is_some (joined size v) ≡ is_some (total size v)
joined_some size v =
    elim (cases_eq size 1) [
      | inl e ↦ ap is_some (joined_alone size v e ∙ sym (total_alone v) ∙ ap (λ n. total n v) (sym e))
      | inr n ↦ ap is_some (ap (λ b. cond b (v 0) (is_some (total size v))) (ne_eqb size 1 n)) ∙ some_idem (total size v)
    ]

pub joined_same : (size : ℕ) (v w : ℕ → ℕ) → 1 ≤ size → ((j : ℕ) → j < size → v j ≡ w j) → joined size v ≡ joined size w
joined_same size v w s h = ap (λ x. cond (size == 1) x (is_some (total size v))) (h 0 s) ∙ ap (λ x. cond (size == 1) (w 0) (is_some x)) (total_same size v w h)

pub size_is : (most n i : ℕ) → group_size most n i ≡ min most (n - i * most)
unfolding group_size
size_is most n i = refl

-- the groups so far
some_groups : (most n g : ℕ) (v : ℕ → ℕ) → ((i : ℕ) → i < g → i * most < n) → is_some (total g (grouped most n v)) ≡ is_some (total (min (g * most) n) v)
unfolding total
some_groups most n zero v h =
    let z : min (0 * most) n ≡ 0 = omega arith in
    sym (ap (λ k. is_some (total k v)) z)
some_groups most n (suc g) v h =
    let l : g * most < n = h g (omega arith) in
    let k : ℕ = group_size most n g in
    let a : min (g * most) n ≡ g * most = omega arith in
    let e : g * most + k ≡ min (suc g * most) n = omega (arith, size_is most n g) in
    let r : is_some (total g (grouped most n v)) ≡ is_some (total (g * most) v) = some_groups most n g v (λ i p. h i (omega arith)) ∙ ap (λ k. is_some (total k v)) a in
    some_add (total g (grouped most n v)) (grouped most n v g)
    ∙ ap (λ x. is_some (x + is_some (grouped most n v g))) r
    ∙ ap (λ x. is_some (is_some (total (g * most) v) + x)) (joined_some k (λ j. v (g * most + j)))
    ∙ sym (some_add (total (g * most) v) (total k (λ j. v (g * most + j))))
    ∙ ap is_some (sym (total_split (g * most) k v))
    ∙ ap (λ k. is_some (total k v)) e

pub some_all : (most n : ℕ) (v : ℕ → ℕ) → 1 ≤ most → is_some (total (groups most n) (grouped most n v)) ≡ is_some (total n v)
some_all most n v h =
    let e : min (groups most n * most) n ≡ n = omega (arith, groups_hold most n h) in
    some_groups most n (groups most n) v (λ i p. group_start most n i h p) ∙ ap (λ k. is_some (total k v)) e

-- ---- the cells of a group
pub each_part : (cs : List ℕ) (first size : ℕ) (P : ℕ → Type 0) → first + size ≤ length cs → Each cs P → Each (take size (drop first cs)) P
each_part cs first size P h k i q =
    let d : length (drop first cs) ≡ length cs - first = length-drop first cs in
    let n : length (take size (drop first cs)) ≡ size = length-take-le size (drop first cs) (omega arith) in
    let l : i < size = omega arith in
    subst P (sym (get_or-take size (drop first cs) i 0 l ∙ get_or-drop first cs i 0)) (k (first + i) (omega arith))

pub part_count : (cs : List ℕ) (first size : ℕ) → first + size ≤ length cs → length (take size (drop first cs)) ≡ size
part_count cs first size h = let d : length (drop first cs) ≡ length cs - first = length-drop first cs in length-take-le size (drop first cs) (omega arith)

-- a group of blocks ends within the table
square_less : (u n : ℕ) → 1 ≤ u → n ≤ u + 1 → n * (u - 1) < u * u
square_less zero n p q = absurd (omega arith)
square_less (suc v) n p q =
    let e : suc v - 1 ≡ v = omega arith in
    let m : n * v ≤ (suc v + 1) * v = mul-le n v (suc v + 1) v q (omega arith) in
    let z : n * (suc v - 1) ≡ n * v = ap (λ x. n * x) e in
    omega arith

pub part_range : (p : Net) (cs : List ℕ) → length cs ≤ noise_limit p.space → AreBlocks p cs → total (length cs) (λ i. degree p (get_or cs i 0)) < entries p.space
part_range p cs h k =
    let u : ℕ = 2 ^ p.space in
    let a : total (length cs) (λ i. degree p (get_or cs i 0)) ≤ length cs * (u - 1) = total_le (length cs) (u - 1) (λ i. degree p (get_or cs i 0)) (λ i r. (k i r).degree_in) in
    omega (arith, square_less u (length cs) (pow_pos p.space) h)

pub part_noises : (p : Net) (cs : List ℕ) → length cs ≤ noise_limit p.space → AreBlocks p cs → total (length cs) (λ i. noise p (get_or cs i 0)) ≤ noise_limit p.space
part_noises p cs h k =
    let a : total (length cs) (λ i. noise p (get_or cs i 0)) ≤ length cs * 1 = total_le (length cs) 1 (λ i. noise p (get_or cs i 0)) (λ i r. omega (arith, (k i r).noise_is)) in
    omega arith

-- a sum of cells within their degrees stays within the table
pub part_value_in : (p : Net) (cs : List ℕ) → IsBounded p → length cs ≤ noise_limit p.space → AreBlocks p cs → (xs : List ℕ) → AreInputs p xs
    → total (length cs) (λ i. value p xs (get_or cs i 0)) < entries p.space
part_value_in p cs bounded h k xs w =
    let r : total (length cs) (λ i. degree p (get_or cs i 0)) < entries p.space = part_range p cs h k in
    let b : total (length cs) (λ i. value p xs (get_or cs i 0)) ≤ total (length cs) (λ i. degree p (get_or cs i 0)) = total_mono (length cs) (λ i. value p xs (get_or cs i 0)) (λ i. degree p (get_or cs i 0)) (λ i q. bounded xs w (get_or cs i 0) (k i q).there) in
    omega arith

pub part_gives : (p new : Net) (cs table : List ℕ) (c size : ℕ) → 2 ≤ p.space → 2 ≤ size → length cs ≤ noise_limit p.space → AreBlocks p cs → HasEntries p.space is_some table
    → Makes p new c (Each cs) (total (length cs) (λ i. degree p (get_or cs i 0))) (λ v. total (length cs) (λ i. v (get_or cs i 0))) table
    → Gives p new c (2 ^ p.space - 1) (size - 1)
part_gives p new cs table c size s two h k t m =
    let r : total (length cs) (λ i. degree p (get_or cs i 0)) < entries p.space = part_range p cs h k in
    let u : 4 ≤ 2 ^ p.space = unit_big p.space s in
    let g : Gives p new c (2 ^ p.space - 1) 1 = makes_gives p new c (2 ^ p.space - 1) (Each cs) (total (length cs) (λ i. degree p (get_or cs i 0))) (λ v. total (length cs) (λ i. v (get_or cs i 0))) table m
    (m.degree_in (2 ^ p.space - 1) (λ j q. let e : get_or table j 0 ≡ is_some j = t.each j (omega arith) in omega (arith, some_le j))) in
    record { extends = g.extends; bounded = g.bounded; cell = g.cell; jobs_in = omega (arith, g.jobs_in); deep = g.deep }

pub part_value : (p new : Net) (nodes cs table : List ℕ) (first size c : ℕ) → IsBounded p → 2 ≤ size → first + size ≤ length nodes → cs ≡ take size (drop first nodes) → length cs ≤ noise_limit p.space → AreBlocks p cs → HasEntries p.space is_some table
    → Makes p new c (Each cs) (total (length cs) (λ i. degree p (get_or cs i 0))) (λ v. total (length cs) (λ i. v (get_or cs i 0))) table
    → (xs : List ℕ) → AreInputs p xs → value new xs c ≡ joined size (λ j. cell_value p nodes xs (first + j))
part_value p new nodes cs table first size c bounded two fit e h k t m xs w =
    let n : length cs ≡ size = ap length e ∙ part_count nodes first size fit in
    m.value_is xs w ∙ t.each (total (length cs) (λ i. value p xs (get_or cs i 0))) (part_value_in p cs bounded h k xs w)
    ∙ ap is_some (ap (λ n. total n (λ i. value p xs (get_or cs i 0))) n
    ∙ total_same size (λ i. value p xs (get_or cs i 0)) (λ j. cell_value p nodes xs (first + j)) (λ i l. ap (value p xs) (ap (λ l. get_or l i 0) e ∙ get_or-take size (drop first nodes) i 0 l ∙ get_or-drop first nodes i 0)))
    ∙ sym (joined_more size (λ j. cell_value p nodes xs (first + j)) two)

-- one group more
pub gather_push : (old now new : Net) (cs nodes : List ℕ) (most i c : ℕ) → AreBlocks old nodes → i * most < length nodes → 1 ≤ most → i ≤ i * most
    → Planned old now cs (λ _. 2 ^ old.space - 1) i (min (i * most) (length nodes) - i) 1 (Each nodes) (λ xs i. grouped most (length nodes) (cell_value old nodes xs) i)
    → Gives now new c (2 ^ now.space - 1) (group_size most (length nodes) i - 1)
    → ((d : ℕ) → Each nodes (λ o. depth now o ≤ d) → depth new c ≤ d + 1)
    → ((xs : List ℕ) → AreInputs now xs → value new xs c ≡ joined (group_size most (length nodes) i) (λ j. cell_value now nodes xs (i * most + j)))
    → Planned old new (cs ++ c ∷ []) (λ _. 2 ^ old.space - 1) (i + 1) (min ((i + 1) * most) (length nodes) - (i + 1)) 1 (Each nodes) (λ xs i. grouped most (length nodes) (cell_value old nodes xs) i)
gather_push old now new cs nodes most i c h q one le p g d v =
    let e : Extends old now = p.extends in
    let n : ℕ = length nodes in
    let sz : group_size most n i ≡ min most (n - i * most) = size_is most n i in
    let j : min (i * most) n - i + (group_size most n i - 1) ≡ min ((i + 1) * most) n - (i + 1) = omega arith in
    subst (λ (j : ℕ). Planned old new (cs ++ c ∷ []) (λ _. 2 ^ old.space - 1) (i + 1) j 1 (Each nodes) (λ xs i. grouped most n (cell_value old nodes xs) i)) j
    (planned_push old now new cs (λ _. 2 ^ old.space - 1) i (min (i * most) n - i) 1 (group_size most n i - 1) (Each nodes) (λ xs i. grouped most n (cell_value old nodes xs) i) c p
    (subst (λ (s : ℕ). Gives now new c (2 ^ s - 1) (group_size most n i - 1)) e.space g)
    (λ m o. d m (λ j r. let k : depth now (get_or nodes j 0) ≡ depth old (get_or nodes j 0) = e.depths (get_or nodes j 0) (h j r).there in let l : depth old (get_or nodes j 0) ≤ m = o j r in omega arith))
    (λ xs w. v xs (within_now old now e xs w)
    ∙ joined_same (group_size most n i) (λ j. cell_value now nodes xs (i * most + j)) (λ j. cell_value old nodes xs (i * most + j)) (omega arith) (λ j r. e.values xs w (get_or nodes (i * most + j) 0) (h (i * most + j) (omega arith)).there)))

pub gather_room : (most n i q : ℕ) → 1 ≤ most → i < q → (q - 1) * most < n → n ≤ q * most → min ((i + 1) * most) n - (i + 1) ≤ n - q
gather_room zero n i q h l s k = absurd (omega arith)
gather_room (suc m) n i q h l s k =
    elim (cases_lt (i + 1) q) [
      | inl z ↦
          let a : (i + 1) * m ≤ (q - 1) * m = mul-le (i + 1) m (q - 1) m (omega arith) (omega arith) in
          omega arith
      | inr z ↦
          let e : i + 1 ≡ q = omega arith in
          let f : (i + 1) * suc m ≡ q * suc m = ap (λ k. k * suc m) e in
          omega arith
    ]

pub up_to : (most i : ℕ) → 1 ≤ most → i ≤ i * most
up_to most i h = let m : i * 1 ≤ i * most = mul-le i 1 i most (omega arith) h in omega arith

-- how many groups there are, as the code counts them
pub groups_counted : (most n : ℕ) → groups most n ≡ div_ceil n most
unfolding groups
groups_counted most n = refl
