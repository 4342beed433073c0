-- The last sum of a product, and the whole.
use Rattle.std.proofs.Common.{◌≡◌, ℕ, List, [], ◌<◌, ◌≤◌, ◌+◌, ◌-◌, ◌*◌, ◌%◌, ◌^◌, inl, inr, length, get_or, ◌++◌, drop, take, sym, ◌∙◌, ap, refl, arith, subst}
use Rattle.std.proofs.lemmas.Bool.{cases_lt}
use Rattle.std.proofs.lemmas.Nat.{pow_pos, mod-mul-add}
use Rattle.rx_net.specs.declared.net.Net.{Net}
use Rattle.rx_net.specs.Cells.{cell_count, value, depth}
use Rattle.rx_net.specs.Legal.{IsBounded}
use Rattle.rx_net.specs.Growth.{Extends}
use Rattle.rx_net.proofs.Grows.{extends_onward}
use Rattle.rx_costs.specs.Rounds.{groups, rounds, round_jobs}
use Rattle.rx_costs.proofs.Groupings.{rounds_step, rounds_few}
use Rattle.rx_plan.specs.Values.{AreInputs, cell_value, number, number_held, total}
use Rattle.rx_plan.specs.Planned.{Each, EachOf, AreCells, AreBlocks, Planned, Lays}
use Rattle.rx_plan.specs.Rows.{IsNought, rows_number}
use Rattle.rx_plan.proofs.PerBlock.{unit_big}
use Rattle.rx_plan.proofs.Kept.{within_now, depths_kept, value_below}
use Rattle.rx_plan.proofs.Planned.{planned_start, planned_chain, planned_lays, lays_then, lays_weaken}
use Rattle.rx_plan.proofs.Numbers.{number_same, number_below, number_held-is, pow_pow}
use Rattle.rx_plan.proofs.Given.{blocks_number, planned_digits}
use Rattle.rx_plan.proofs.RowCells.{row_alone}
use Rattle.std.proofs.lemmas.List.{get_or-take, get_or-drop, length-drop, length-take-le}
use Rattle.std.proofs.Math.Seq.{take-length}
use Rattle.rx_params.specs.Kinds.{digit_at}
use Rattle.rx_costs.specs.Table.{add_jobs, add_depth, mul_jobs, mul_depth}
use Rattle.rx_plan.specs.Planned.{Gives}
use Rattle.rx_plan.specs.Results.{appended, GivesNumber}
use Rattle.rx_plan.proofs.Given.{appended-is}

pub each_take : (cs : List ℕ) (w : ℕ) (P : ℕ → Type 0) → w ≤ length cs → Each cs P → Each (take w cs) P
each_take cs w P h k i q =
    let n : length (take w cs) ≡ w = length-take-le w cs h in
    let l : i < w = omega arith in
    subst P (sym (get_or-take w cs i 0 l)) (k i (omega arith))

pub each_drop : (cs : List ℕ) (w : ℕ) (P : ℕ → Type 0) → Each cs P → Each (drop w cs) P
each_drop cs w P k i q =
    let n : length (drop w cs) ≡ length cs - w = length-drop w cs in
    subst P (sym (get_or-drop w cs i 0)) (k (w + i) (omega arith))

-- two rows, each as a list
pub two_rows : (u : ℕ) (p : Net) (cs : List ℕ) (w : ℕ) (xs : List ℕ) → length cs ≡ 2 * w
    → rows_number u p cs w 2 xs ≡ number u (length (take w cs)) (cell_value p (take w cs) xs) + number u (length (drop w cs)) (cell_value p (drop w cs) xs)
unfolding total
two_rows u p cs w xs n =
    let lt : length (take w cs) ≡ w = length-take-le w cs (omega arith) in
    let ld : length (drop w cs) ≡ w = length-drop w cs ∙ (omega arith) in
    let a : number u w (λ k. cell_value p cs xs (0 * w + k)) ≡ number u w (cell_value p (take w cs) xs) =
    number_same u w (λ k. cell_value p cs xs (0 * w + k)) (cell_value p (take w cs) xs) (λ k q.
    let z : 0 * w + k ≡ k = omega arith in ap (λ i. cell_value p cs xs i) z ∙ ap (value p xs) (sym (get_or-take w cs k 0 q))) in
    let b : number u w (λ k. cell_value p cs xs (1 * w + k)) ≡ number u w (cell_value p (drop w cs) xs) =
    number_same u w (λ k. cell_value p cs xs (1 * w + k)) (cell_value p (drop w cs) xs) (λ k q.
    let z : 1 * w + k ≡ w + k = omega arith in ap (λ i. cell_value p cs xs i) z ∙ ap (value p xs) (sym (get_or-drop w cs k 0))) in
    let s : 0 + number u w (λ k. cell_value p cs xs (0 * w + k)) + number u w (λ k. cell_value p cs xs (1 * w + k)) ≡ number u w (cell_value p (take w cs) xs) + number u w (cell_value p (drop w cs) xs) = omega arith in
    s ∙ ap (λ n. number u n (cell_value p (take w cs) xs) + number u w (cell_value p (drop w cs) xs)) (sym lt) ∙ ap (λ n. number u (length (take w cs)) (cell_value p (take w cs) xs) + number u n (cell_value p (drop w cs) xs)) (sym ld)

pub tail_is : (xs : List ℕ) (w : ℕ) → take (length xs - w) (drop w xs) ≡ drop w xs
tail_is xs w = ap (λ n. take n (drop w xs)) (sym (length-drop w xs)) ∙ take-length (drop w xs)

-- one row of one block
pub single_planned : (p : Net) (rows : List ℕ) (w jobs levels : ℕ) → IsBounded p → 1 ≤ w → w < 2 → length rows ≡ (2 * w - 1) * w → AreBlocks p rows
    → Lays p p rows w jobs levels (Each rows)
single_planned p rows w jobs levels b l h n k =
    let o : 2 * w - 1 ≡ 1 = omega arith in
    let s : length rows ≡ w = (let m : (2 * w - 1) * w ≡ 1 * w = ap (λ x. x * w) o in omega arith) in
    lays_weaken p p rows w w 0 jobs 0 levels (Each rows) refl (omega arith) (omega arith)
    (planned_lays p p rows (λ _. 2 ^ p.space - 1) w 0 0 0 (Each rows) _ (λ i q. omega arith) (omega arith) (planned_start p rows (λ _. 2 ^ p.space - 1) w s b k))

-- the cell that is 0, and then the rows
pub nought_under : (old s0 s1 : Net) (rows a b : List ℕ) (n jobs : ℕ) → Extends old s0 → cell_count s0 ≤ cell_count old + 1 → ((c : ℕ) → cell_count old ≤ c → c < cell_count s0 → depth s0 c ≤ 1)
    → AreBlocks old a → AreBlocks old b
    → Lays s0 s1 rows n jobs 1 (EachOf a b) → Lays old s1 rows n (1 + jobs) 1 (EachOf a b)
nought_under old s0 s1 rows a b n jobs e j sh ka kb p =
    let tr : (d : ℕ) → Each a (λ o. depth old o ≤ d) × Each b (λ o. depth old o ≤ d) → Each a (λ o. depth s0 o ≤ d) × Each b (λ o. depth s0 o ≤ d) =
    λ d x. (depths_kept old s0 a d (2 ^ old.space - 1) e ka x.0, depths_kept old s0 b d (2 ^ old.space - 1) e kb x.1) in
    record {
      extends = extends_onward old s0 s1 e p.extends;
      bounded = p.bounded;
      count_is = p.count_is;
      jobs_in = omega (arith, p.jobs_in);
      cells_are = subst (λ (s : ℕ). AreCells s1 (2 ^ s - 1) rows) e.space p.cells_are;
      deep = λ d x c q r.
          elim (cases_lt c (cell_count s0)) [
            | inl z ↦
                let f : depth s1 c ≡ depth s0 c = p.extends.depths c z in
                let g : depth s0 c ≤ 1 = sh c q z in
                omega arith
            | inr z ↦ p.deep d (tr d x) c z r
          ];
      deep_cells = λ d x i q. p.deep_cells d (tr d x) i q;
      values_are = λ xs w i q. refl;
    }

-- ---- the sum of two rows
module _ (old s1 s2 : Net) (rows two x y before out : List ℕ) (w jobs levels : ℕ) (ex : x ≡ take w two) (ey : y ≡ drop w two) (eb : before ≡ [])
    (p : Lays old s1 two (2 * w) jobs levels (Each rows))
    (g : GivesNumber s1 s2 before out (length x) (add_jobs (length x)) (add_depth (length x)) (EachOf x y) (λ xs. number_held s1 x xs + number_held s1 y xs)) where
  width-is : length x ≡ w
  width-is = ap length ex ∙ length-take-le w two (omega (arith, p.count_is))

  out-is : appended before out ≡ out
  out-is = appended-is before out out (ap (λ b. b ++ out) (sym eb))

  parts_deep : (s : Net) (d : ℕ) → Each two (λ c. depth s c ≤ d) → Each x (λ c. depth s c ≤ d) × Each y (λ c. depth s c ≤ d)
  parts_deep s d h = (
    subst (λ (l : List ℕ). Each l (λ c. depth s c ≤ d)) (sym ex) (each_take two w (λ c. depth s c ≤ d) (omega (arith, p.count_is)) h),
    subst (λ (l : List ℕ). Each l (λ c. depth s c ≤ d)) (sym ey) (each_drop two w (λ c. depth s c ≤ d) h),
  )

  pub summed_planned : Lays old s2 out w (jobs + add_jobs w) (levels + add_depth w) (Each rows)
  summed_planned =
      let says : List ℕ → ℕ → ℕ = λ xs i. digit_at s1.space (number_held s1 x xs + number_held s1 y xs) i in
      let q : Planned s1 s2 out (λ _. 2 ^ s1.space - 1) w (add_jobs w) (add_depth w) (EachOf x y) says =
      subst (λ (n : ℕ). Planned s1 s2 out (λ _. 2 ^ s1.space - 1) n (add_jobs n) (add_depth n) (EachOf x y) says) width-is
      (subst (λ (o : List ℕ). Planned s1 s2 o (λ _. 2 ^ s1.space - 1) (length x) (add_jobs (length x)) (add_depth (length x)) (EachOf x y) says) out-is g.blocks) in
      let r : Planned old s2 out (λ _. 2 ^ s1.space - 1) w (jobs + add_jobs w) (levels + add_depth w) (Each rows) says =
      planned_chain old s1 s2 two out (λ _. 2 ^ old.space - 1) (λ _. 2 ^ s1.space - 1) (2 * w) w jobs (add_jobs w) levels (add_depth w) (Each rows) (EachOf x y) _ says says p q
      (λ d o. parts_deep s1 (d + levels) (p.deep_cells d o)) (λ xs v i l. refl) in
      planned_lays old s2 out (λ _. 2 ^ s1.space - 1) w (jobs + add_jobs w) (levels + add_depth w) (jobs + add_jobs w) (Each rows) says
      (λ i l. omega (arith, ap (λ s. 2 ^ s) p.extends.space)) (omega arith) r

  pub summed_number : (xs : List ℕ) → AreInputs old xs → (count : ℕ)
      → rows_number (2 ^ old.space) s1 two w 2 xs % (2 ^ old.space) ^ w ≡ rows_number (2 ^ old.space) old rows w count xs % (2 ^ old.space) ^ w
      → number (2 ^ old.space) w (cell_value s2 out xs) ≡ rows_number (2 ^ old.space) old rows w count xs % (2 ^ old.space) ^ w
  summed_number xs v count h =
      let u : ℕ = 2 ^ old.space in
      let v' : AreInputs s1 xs = within_now old s1 p.extends xs v in
      let sp : s2.space ≡ old.space = g.blocks.extends.space ∙ p.extends.space in
      let lo : length out ≡ w = ap length (sym out-is) ∙ g.blocks.count_is ∙ width-is in
      let a : number u w (cell_value s2 out xs) ≡ number_held s2 out xs = ap (λ s. number (2 ^ s) w (cell_value s2 out xs)) (sym sp) ∙ blocks_number s2 out xs w lo in
      let b : number_held s2 out xs ≡ (number_held s1 x xs + number_held s1 y xs) % 2 ^ (s1.space * length x) = ap (λ o. number_held s2 o xs) (sym out-is) ∙ g.number xs v' in
      let c : 2 ^ (s1.space * length x) ≡ u ^ w = ap (λ n. 2 ^ (s1.space * n)) width-is ∙ ap (λ s. 2 ^ (s * w)) p.extends.space ∙ sym (pow_pow old.space w) in
      let hx : number_held s1 x xs ≡ number u (length (take w two)) (cell_value s1 (take w two) xs) =
      number_held-is s1 x xs ∙ ap (λ s. number (2 ^ s) (length x) (cell_value s1 x xs)) p.extends.space ∙ ap (λ l. number u (length l) (cell_value s1 l xs)) ex in
      let hy : number_held s1 y xs ≡ number u (length (drop w two)) (cell_value s1 (drop w two) xs) =
      number_held-is s1 y xs ∙ ap (λ s. number (2 ^ s) (length y) (cell_value s1 y xs)) p.extends.space ∙ ap (λ l. number u (length l) (cell_value s1 l xs)) ey in
      a ∙ b ∙ ap (λ m. (number_held s1 x xs + number_held s1 y xs) % m) c
      ∙ ap (λ z. (z + number_held s1 y xs) % u ^ w) hx ∙ ap (λ z. (number u (length (take w two)) (cell_value s1 (take w two) xs) + z) % u ^ w) hy
      ∙ ap (λ z. z % u ^ w) (sym (two_rows u s1 two w xs p.count_is)) ∙ h

-- rounds, and then a sum
pub rounds_summed : (old new : Net) (rows out : List ℕ) (w : ℕ) → 2 ≤ w → 2 ≤ old.space
    → Lays old new out w (round_jobs w (2 ^ old.space + 1) (2 * w - 1) - rounds (2 ^ old.space + 1) (2 * w - 1) + add_jobs w) (rounds (2 ^ old.space + 1) (2 * w - 1) + add_depth w) (Each rows)
    → Lays old new out w (round_jobs w (2 ^ old.space + 1) (2 * w - 1) + add_jobs w - 1) (rounds (2 ^ old.space + 1) (2 * w - 1) + add_depth w) (Each rows)
rounds_summed old new rows out w l s p =
    let most : ℕ = 2 ^ old.space + 1 in
    let five : 5 ≤ most = omega (arith, unit_big old.space s) in
    let r : rounds most (2 * w - 1) ≡ 1 + rounds most (2 * groups most (2 * w - 1)) = rounds_step most (2 * w - 1) five (omega arith) in
    let f : rounds most (2 * w - 1) ≤ round_jobs w most (2 * w - 1) = rounds_few w most (2 * w - 1) five (omega arith) in
    lays_weaken old new out w w (round_jobs w most (2 * w - 1) - rounds most (2 * w - 1) + add_jobs w) (round_jobs w most (2 * w - 1) + add_jobs w - 1)
    (rounds most (2 * w - 1) + add_depth w) (rounds most (2 * w - 1) + add_depth w) (Each rows) refl (omega arith) (omega arith) p

-- one row of one block
pub single_number : (p : Net) (rows : List ℕ) (w : ℕ) → IsBounded p → 1 ≤ w → w < 2 → length rows ≡ (2 * w - 1) * w → AreBlocks p rows
    → (xs : List ℕ) → AreInputs p xs → number (2 ^ p.space) w (cell_value p rows xs) ≡ rows_number (2 ^ p.space) p rows w (2 * w - 1) xs % (2 ^ p.space) ^ w
single_number p rows w b l h n k xs v =
    let u : ℕ = 2 ^ p.space in
    let f : ℕ → ℕ = cell_value p rows xs in
    let o : 2 * w - 1 ≡ 1 = omega arith in
    let s : length rows ≡ w = (let m : (2 * w - 1) * w ≡ 1 * w = ap (λ x. x * w) o in omega arith) in
    let t : number u w f < u ^ w = number_below u w f (λ i q. value_below p u rows b (pow_pos p.space) k xs v i (omega arith)) in
    let z : number u w f ≡ 0 * u ^ w + number u w f = omega arith in
    let m : number u w f ≡ number u w f % u ^ w = sym (mod-mul-add 0 (u ^ w) (number u w f) t) ∙ ap (λ x. x % u ^ w) (sym z) in
    m ∙ ap (λ x. x % u ^ w) (sym (row_alone u p rows w xs)) ∙ ap (λ c. rows_number u p rows w c xs % u ^ w) (sym o)

-- ---- the whole
held_kept : (old now : Net) (cs xs : List ℕ) → Extends old now → AreBlocks old cs → AreInputs old xs → number_held now cs xs ≡ number_held old cs xs
held_kept old now cs xs e k v =
    number_held-is now cs xs ∙ ap (λ s. number (2 ^ s) (length cs) (cell_value now cs xs)) e.space
    ∙ number_same (2 ^ old.space) (length cs) (cell_value now cs xs) (cell_value old cs xs) (λ i q. e.values xs v (get_or cs i 0) (k i q).there)
    ∙ sym (number_held-is old cs xs)

module _ (old s0 s1 s2 : Net) (nought : ℕ) (rows out a b : List ℕ) (some : 1 ≤ length a) (ka : AreBlocks old a) (kb : AreBlocks old b)
    (z : Gives old s0 nought 0 1) (zn : IsNought s0 nought)
    (p : Lays s0 s1 rows ((2 * length a - 1) * length a) (length a * length a) 1 (EachOf a b))
    (q : Lays s1 s2 out (length a) (round_jobs (length a) (2 ^ s1.space + 1) (2 * length a - 1) + add_jobs (length a) - 1) (rounds (2 ^ s1.space + 1) (2 * length a - 1) + add_depth (length a)) (Each rows)) where
  whole_laid : Lays old s2 out (length a) (mul_jobs old.space (length a)) (mul_depth old.space (length a)) (EachOf a b)
  whole_laid =
      let w : ℕ = length a in
      let shallow : (c : ℕ) → cell_count old ≤ c → c < cell_count s0 → depth s0 c ≤ 1 = λ c x y. omega (arith, z.deep c x y, zn.shallow) in
      let p' : Lays old s1 rows ((2 * w - 1) * w) (1 + w * w) 1 (EachOf a b) = nought_under old s0 s1 rows a b ((2 * w - 1) * w) (w * w) z.extends z.jobs_in shallow ka kb p in
      let q' : Lays s1 s2 out w (round_jobs w (2 ^ old.space + 1) (2 * w - 1) + add_jobs w - 1) (rounds (2 ^ old.space + 1) (2 * w - 1) + add_depth w) (Each rows) =
      subst (λ (s : ℕ). Lays s1 s2 out w (round_jobs w (2 ^ s + 1) (2 * w - 1) + add_jobs w - 1) (rounds (2 ^ s + 1) (2 * w - 1) + add_depth w) (Each rows)) p'.extends.space q in
      lays_weaken old s2 out w w (1 + w * w + (round_jobs w (2 ^ old.space + 1) (2 * w - 1) + add_jobs w - 1)) (mul_jobs old.space w) (1 + (rounds (2 ^ old.space + 1) (2 * w - 1) + add_depth w)) (mul_depth old.space w) (EachOf a b) refl
      (omega arith) (omega arith)
      (lays_then old s1 s2 rows out ((2 * w - 1) * w) w (1 + w * w) (round_jobs w (2 ^ old.space + 1) (2 * w - 1) + add_jobs w - 1) 1 (rounds (2 ^ old.space + 1) (2 * w - 1) + add_depth w) (EachOf a b) p' q')

  pub mul_planned : ((xs : List ℕ) → AreInputs s0 xs
      → rows_number (2 ^ s0.space) s1 rows (length a) (2 * length a - 1) xs % (2 ^ s0.space) ^ length a ≡ (number_held s0 a xs * number_held s0 b xs) % (2 ^ s0.space) ^ length a)
      → ((xs : List ℕ) → AreInputs s1 xs → number (2 ^ s1.space) (length a) (cell_value s2 out xs) ≡ rows_number (2 ^ s1.space) s1 rows (length a) (2 * length a - 1) xs % (2 ^ s1.space) ^ length a)
      → Planned old s2 out (λ _. 2 ^ old.space - 1) (length a) (mul_jobs old.space (length a)) (mul_depth old.space (length a)) (EachOf a b)
      (λ xs i. digit_at old.space (number_held old a xs * number_held old b xs) i)
  mul_planned f g =
      let w : ℕ = length a in
      let e0 : Extends old s0 = z.extends in
      let e1 : Extends s0 s1 = p.extends in
      planned_digits old s2 out w (mul_jobs old.space w) (mul_depth old.space w) (EachOf a b) (λ xs i. cell_value s2 out xs i) (λ xs. number_held old a xs * number_held old b xs)
      (λ xs v.
      let v0 : AreInputs s0 xs = within_now old s0 e0 xs v in
      let v1 : AreInputs s1 xs = within_now s0 s1 e1 xs v0 in
      ap (λ s. number (2 ^ s) w (cell_value s2 out xs)) (sym (e1.space ∙ e0.space))
      ∙ g xs v1 ∙ ap (λ s. rows_number (2 ^ s) s1 rows w (2 * w - 1) xs % (2 ^ s) ^ w) e1.space ∙ f xs v0
      ∙ ap (λ s. (number_held s0 a xs * number_held s0 b xs) % (2 ^ s) ^ w) e0.space
      ∙ ap (λ x. (x * number_held s0 b xs) % (2 ^ old.space) ^ w) (held_kept old s0 a xs e0 ka v)
      ∙ ap (λ x. (number_held old a xs * x) % (2 ^ old.space) ^ w) (held_kept old s0 b xs e0 kb v))
      whole_laid
