-- The stages of sums and differences one after another.
use Rattle.std.proofs.Common.{◌≡◌, ℕ, Bool, List, [], ◌∷◌, ◌<◌, ◌≤◌, ◌+◌, ◌-◌, ◌*◌, ◌/◌, ◌%◌, ◌^◌, inl, inr, length, get_or, cond, sym, ◌∙◌, ap, refl, arith, subst}
use Rattle.std.proofs.lemmas.Bool.{cases_lt, lt-ltb, le-ltb}
use Rattle.std.proofs.lemmas.Nat.{mul-le, pow_pos}
use Rattle.rx_params.specs.Kinds.{digit_at}
use Rattle.rx_net.specs.declared.net.Net.{Net}
use Rattle.rx_net.specs.Cells.{value}
use Rattle.rx_net.specs.Legal.{IsBounded}
use Rattle.rx_net.specs.Growth.{Extends}
use Rattle.rx_costs.specs.Logs.{log_up, IsLogUp}
use Rattle.rx_costs.specs.Table.{add_jobs, add_depth, compare_jobs, compare_depth}
use Rattle.rx_costs.proofs.Exponents.{log_least}
use Rattle.rx_plan.specs.Tables.{entries, IsTable, HasEntries}
use Rattle.rx_plan.specs.Values.{AreInputs, cell_value, number, number_held, total}
use Rattle.rx_plan.specs.Planned.{Each, EachOf, AreBlocks, Makes, Planned}
use Rattle.rx_plan.proofs.Totals.{total_le}
use Rattle.rx_plan.proofs.PerBlock.{unit_big, entries_wide, entries_big, table_is}
use Rattle.rx_plan.proofs.Kept.{value_below, value_in, depths_later}
use Rattle.rx_plan.proofs.Planned.{makes_gives, planned_chain, planned_weaken, planned_one}
use Rattle.rx_plan.proofs.Numbers.{pow_pow}
use Rattle.rx_plan.proofs.Given.{blocks_number, planned_digits}
use Rattle.rx_carry.specs.declared.operation.Operation.{Operation}
use Rattle.rx_carry.specs.declared.operation.Operation.TheVariants.{Sum, Difference}
use Rattle.rx_carry.specs.Carries.{is_less, joint, passed, digit_left, whole, combine, state_of, carry_of, carried_in, tops_at, flipped}
use Rattle.rx_carry.specs.Prefix.{combined_at, ones_below, sum_jobs}
use Rattle.rx_carry.proofs.Carried.{joint_in, state_le, state_below, combine_bits, combine_below, combine_assoc, state_first, carry_same, carried_carry, lefts_number, carries_out, flipped_le, flipped_below, states_of, lefts_of}
use Rattle.rx_carry.proofs.BlockJobs.{state_values, left_values, EachThree}

-- ---- the jobs of a prefix are within the cost table's
log_within : (m n : ℕ) → m ≤ n → log_up 2 m ≤ log_up 2 n
log_within m n h =
    let l : IsLogUp 2 m (log_up 2 m) = log_least 2 m (omega arith) in
    let k : IsLogUp 2 n (log_up 2 n) = log_least 2 n (omega arith) in
    l.least (log_up 2 n) (omega (arith, k.enough))

pub ones_le : (m n : ℕ) → m ≤ n → ones_below m ≤ m * log_up 2 n
unfolding ones_below
ones_le m n h =
    let f : ℕ → ℕ = λ t. combined_at (2 ^ t) m in
    let each : (t : ℕ) → f t ≤ m = λ (t : ℕ). let k : combined_at (2 ^ t) m ≤ m * 1 = total_le m 1 (λ i. i / 2 ^ t % 2) (λ i q. omega arith) in omega arith in
    let a : total (log_up 2 m) f ≤ log_up 2 m * m = total_le (log_up 2 m) m f (λ t q. each t) in
    let b : log_up 2 m * m ≤ log_up 2 n * m = mul-le (log_up 2 m) m (log_up 2 n) m (log_within m n h) (omega arith) in
    omega arith

pub sum_jobs-within : (n : ℕ) → 1 ≤ n → sum_jobs n ≤ add_jobs n
sum_jobs-within n h = omega (arith, ones_le (n - 1) n (omega arith))

-- ---- numbers of operands
module _ (old : Net) (a b : List ℕ) (l : length b ≡ length a) (s : 2 ≤ old.space) (bounded : IsBounded old) (ca : AreBlocks old a) (cb : AreBlocks old b) (xs : List ℕ) (w : AreInputs old xs) where
  big : 2 ≤ 2 ^ old.space
  big = omega (arith, unit_big old.space s)

  below_a : (i : ℕ) → i < length a → cell_value old a xs i < 2 ^ old.space
  below_a i q = value_below old (2 ^ old.space) a bounded (pow_pos old.space) ca xs w i q

  below_b : (i : ℕ) → i < length a → cell_value old b xs i < 2 ^ old.space
  below_b i q = value_below old (2 ^ old.space) b bounded (pow_pos old.space) cb xs w i (omega arith)

  pub held_number : (op : Operation) → number (2 ^ old.space) (length a) (lefts_of op (2 ^ old.space) (cell_value old a xs) (cell_value old b xs))
      ≡ whole op (2 ^ (old.space * length a)) (number_held old a xs) (number_held old b xs) % (2 ^ old.space) ^ length a
  held_number op =
      lefts_number op (2 ^ old.space) (length a) (cell_value old a xs) (cell_value old b xs) big below_a below_b
      ∙ ap (λ x. whole op ((2 ^ old.space) ^ length a) x (number (2 ^ old.space) (length a) (cell_value old b xs)) % (2 ^ old.space) ^ length a) (blocks_number old a xs (length a) refl)
      ∙ ap (λ y. whole op ((2 ^ old.space) ^ length a) (number_held old a xs) y % (2 ^ old.space) ^ length a) (blocks_number old b xs (length a) l)
      ∙ ap (λ p. whole op p (number_held old a xs) (number_held old b xs) % (2 ^ old.space) ^ length a) (pow_pow old.space (length a))

  pub held_out : (op : Operation) → carry_of (states_of op (2 ^ old.space) (cell_value old a xs) (cell_value old b xs)) (length a)
      ≡ passed op (2 ^ (old.space * length a)) (joint op (2 ^ (old.space * length a)) (number_held old a xs) (number_held old b xs) 0)
  held_out op =
      carries_out op (2 ^ old.space) (length a) (cell_value old a xs) (cell_value old b xs) big below_a below_b
      ∙ ap (λ x. passed op ((2 ^ old.space) ^ length a) (joint op ((2 ^ old.space) ^ length a) x (number (2 ^ old.space) (length a) (cell_value old b xs)) 0)) (blocks_number old a xs (length a) refl)
      ∙ ap (λ y. passed op ((2 ^ old.space) ^ length a) (joint op ((2 ^ old.space) ^ length a) (number_held old a xs) y 0)) (blocks_number old b xs (length a) l)
      ∙ ap (λ p. passed op p (joint op p (number_held old a xs) (number_held old b xs) 0)) (pow_pow old.space (length a))

-- ---- the blocks of a sum or a difference
module _ (op : Operation) (old s1 s2 s3 : Net) (a b ss cs rs : List ℕ) (n1 : 1 ≤ length a) (l : length b ≡ length a) (ca : AreBlocks old a) (cb : AreBlocks old b)
    (p1 : Planned old s1 ss (tops_at 1) (length a - 1) (length a - 1) 1 (EachOf a b) (state_values op old a b))
    (p2 : Planned s1 s2 cs (λ _. 1) (length ss) (ones_below (length ss)) (log_up 2 (length ss)) (Each ss) (λ xs i. carry_of (cell_value s1 ss xs) (i + 1)))
    (p3 : Planned s2 s3 rs (λ _. 2 ^ s2.space - 1) (length a) (length a) 1 (EachThree a b cs) (left_values op s2 a b cs)) where
  carries : Planned old s2 cs (λ _. 1) (length ss) (length a - 1 + ones_below (length ss)) (1 + log_up 2 (length ss)) (EachOf a b) (λ xs i. carry_of (state_values op old a b xs) (i + 1))
  carries =
      planned_chain old s1 s2 ss cs (tops_at 1) (λ _. 1) (length a - 1) (length ss) (length a - 1) (ones_below (length ss)) 1 (log_up 2 (length ss)) (EachOf a b) (Each ss) (state_values op old a b)
      (λ xs i. carry_of (cell_value s1 ss xs) (i + 1)) (λ xs i. carry_of (state_values op old a b xs) (i + 1)) p1 p2 p1.deep_cells
      (λ xs w i q. carry_same (cell_value s1 ss xs) (state_values op old a b xs) (i + 1) (λ k r. p1.values_are xs w k (omega (arith, p1.count_is))))

  lefts : Planned old s3 rs (λ _. 2 ^ s2.space - 1) (length a) (length a - 1 + ones_below (length ss) + length a) (1 + log_up 2 (length ss) + 1) (EachOf a b)
      (λ xs i. lefts_of op (2 ^ old.space) (cell_value old a xs) (cell_value old b xs) i)
  lefts =
      let e2 : Extends old s2 = carries.extends in
      let u : ℕ = 2 ^ old.space in
      planned_chain old s2 s3 cs rs (λ _. 1) (λ _. 2 ^ s2.space - 1) (length ss) (length a) (length a - 1 + ones_below (length ss)) (length a) (1 + log_up 2 (length ss)) 1 (EachOf a b) (EachThree a b cs)
      (λ xs i. carry_of (state_values op old a b xs) (i + 1)) (left_values op s2 a b cs) (λ xs i. lefts_of op (2 ^ old.space) (cell_value old a xs) (cell_value old b xs) i) carries p3
      (λ d o. (depths_later old s2 a d (1 + log_up 2 (length ss)) (2 ^ old.space - 1) e2 ca o.0, depths_later old s2 b d (1 + log_up 2 (length ss)) (2 ^ old.space - 1) e2 cb o.1, carries.deep_cells d o))
      (λ xs w i q.
      let q' : i < length b = omega arith in
      ap (λ s. digit_left op (2 ^ s) (joint op (2 ^ s) (cell_value s2 a xs i) (cell_value s2 b xs i) (carried_in (cell_value s2 cs xs) i))) e2.space
      ∙ ap (λ x. digit_left op u (joint op u x (cell_value s2 b xs i) (carried_in (cell_value s2 cs xs) i))) (e2.values xs w (get_or a i 0) (ca i q).there)
      ∙ ap (λ x. digit_left op u (joint op u (cell_value old a xs i) x (carried_in (cell_value s2 cs xs) i))) (e2.values xs w (get_or b i 0) (cb i q').there)
      ∙ ap (λ x. digit_left op u (joint op u (cell_value old a xs i) (cell_value old b xs i) x))
      (carried_carry (cell_value s2 cs xs) (state_values op old a b xs) (length ss) i (λ k r. carries.values_are xs w k r) (omega (arith, p1.count_is))))

  pub blocks_planned : 2 ≤ old.space → IsBounded old
      → Planned old s3 rs (λ _. 2 ^ old.space - 1) (length a) (sum_jobs (length a)) (add_depth (length a)) (EachOf a b)
      (λ xs i. digit_at old.space (whole op (2 ^ (old.space * length a)) (number_held old a xs) (number_held old b xs)) i)
  blocks_planned s bounded =
      let e2 : Extends old s2 = carries.extends in
      let c : length ss ≡ length a - 1 = p1.count_is in
      let j : length a - 1 + ones_below (length ss) + length a ≤ sum_jobs (length a) = omega (arith, ap ones_below c) in
      let r : 1 + log_up 2 (length ss) + 1 ≤ add_depth (length a) = omega (arith, log_within (length ss) (length a) (omega arith)) in
      let p : Planned old s3 rs (λ _. 2 ^ old.space - 1) (length a) (length a - 1 + ones_below (length ss) + length a) (1 + log_up 2 (length ss) + 1) (EachOf a b)
      (λ xs i. lefts_of op (2 ^ old.space) (cell_value old a xs) (cell_value old b xs) i) =
      subst (λ (s : ℕ). Planned old s3 rs (λ _. 2 ^ s - 1) (length a) (length a - 1 + ones_below (length ss) + length a) (1 + log_up 2 (length ss) + 1) (EachOf a b)
      (λ xs i. lefts_of op (2 ^ old.space) (cell_value old a xs) (cell_value old b xs) i)) e2.space lefts in
      planned_digits old s3 rs (length a) (sum_jobs (length a)) (add_depth (length a)) (EachOf a b) (λ xs i. lefts_of op (2 ^ old.space) (cell_value old a xs) (cell_value old b xs) i)
      (λ xs. whole op (2 ^ (old.space * length a)) (number_held old a xs) (number_held old b xs))
      (λ xs w. held_number old a b l s bounded ca cb xs w op)
      (planned_weaken old s3 rs (λ _. 2 ^ old.space - 1) (length a) (length a - 1 + ones_below (length ss) + length a) (sum_jobs (length a)) (1 + log_up 2 (length ss) + 1) (add_depth (length a)) (EachOf a b) (EachOf a b)
      (λ xs i. lefts_of op (2 ^ old.space) (cell_value old a xs) (cell_value old b xs) i) j r (λ d o. o) p)

-- ---- what goes out
pub many_out : (op : Operation) (old s1 s2 : Net) (a b ss : List ℕ) (c : ℕ) (v : Bool) → 2 ≤ length a → length b ≡ length a → AreBlocks old a → AreBlocks old b → 2 ≤ old.space → IsBounded old
    → Planned old s1 ss (tops_at 1) (length a) (length a) 1 (EachOf a b) (state_values op old a b)
    → Planned s1 s2 (c ∷ []) (λ _. 1) 1 (length ss - 1) (log_up 2 (length ss)) (Each ss) (λ xs _. flipped v (carry_of (cell_value s1 ss xs) (length ss)))
    → Planned old s2 (c ∷ []) (λ _. 1) 1 (compare_jobs (length a)) (compare_depth (length a)) (EachOf a b)
    (λ xs _. flipped v (passed op (2 ^ (old.space * length a)) (joint op (2 ^ (old.space * length a)) (number_held old a xs) (number_held old b xs) 0)))
many_out op old s1 s2 a b ss c v n2 l ca cb s bounded p1 p2 =
    let n : length ss ≡ length a = p1.count_is in
    let says : List ℕ → ℕ → ℕ = λ xs _. flipped v (passed op (2 ^ (old.space * length a)) (joint op (2 ^ (old.space * length a)) (number_held old a xs) (number_held old b xs) 0)) in
    planned_weaken old s2 (c ∷ []) (λ _. 1) 1 (length a + (length ss - 1)) (compare_jobs (length a)) (1 + log_up 2 (length ss)) (compare_depth (length a)) (EachOf a b) (EachOf a b) says
    (omega arith) (omega (arith, ap (log_up 2) n)) (λ d o. o)
    (planned_chain old s1 s2 ss (c ∷ []) (tops_at 1) (λ _. 1) (length a) 1 (length a) (length ss - 1) 1 (log_up 2 (length ss)) (EachOf a b) (Each ss) (state_values op old a b)
    (λ xs _. flipped v (carry_of (cell_value s1 ss xs) (length ss))) says p1 p2 p1.deep_cells
    (λ xs w i q. ap (flipped v) (ap (carry_of (cell_value s1 ss xs)) n ∙ carry_same (cell_value s1 ss xs) (state_values op old a b xs) (length a) (λ k r. p1.values_are xs w k r)
    ∙ held_out old a b l s bounded ca cb xs w op)))

carry_one : (op : Operation) (u : ℕ) (f g : ℕ → ℕ) → combine (state_of op u (joint op u (f 0) (g 0) 0)) 0 ≡ carry_of (states_of op u f g) 1
unfolding carry_of
carry_one op u f g =
    let t : ℕ = joint op u (f 0) (g 0) 0 in
    sym (ap (λ s. combine s 0) (state_first op u 0 t (omega arith)) ∙ combine_assoc (state_of op u t) 0 0)

pub first_is_table : (op : Operation) (v : Bool) (s : ℕ) (table : List ℕ) → 2 ≤ s → HasEntries s (λ i. flipped v (combine (state_of op (2 ^ s) i) 0)) table → IsTable s table
first_is_table op v s table p h =
    table_is s (λ i. flipped v (combine (state_of op (2 ^ s) i) 0)) table h (λ i q. flipped_below v (combine (state_of op (2 ^ s) i) 0) (entries s)
    (combine_below (state_of op (2 ^ s) i) 0 (entries s) (state_below op (2 ^ s) i (entries s) (omega (arith, unit_big s p)) (omega (arith, entries_big s p)) q) (omega (arith, entries_big s p))) (omega (arith, entries_big s p)))

pub one_out : (op : Operation) (old new : Net) (a b table : List ℕ) (c : ℕ) (v : Bool) → length a ≡ 1 → length b ≡ length a → AreBlocks old a → AreBlocks old b → 2 ≤ old.space → IsBounded old
    → HasEntries old.space (λ i. flipped v (combine (state_of op (2 ^ old.space) i) 0)) table
    → Makes old new c (λ P. P (get_or a 0 0) × P (get_or b 0 0)) (2 * 2 ^ old.space - 1) (λ v. joint op (2 ^ old.space) (v (get_or a 0 0)) (v (get_or b 0 0)) 0) table
    → Planned old new (c ∷ []) (λ _. 1) 1 1 1 (EachOf a b)
    (λ xs _. flipped v (passed op (2 ^ (old.space * length a)) (joint op (2 ^ (old.space * length a)) (number_held old a xs) (number_held old b xs) 0)))
one_out op old new a b table c v n1 l ca cb s bounded h m =
    let u : ℕ = 2 ^ old.space in
    let big : 4 ≤ u = unit_big old.space s in
    let wide : 4 * u ≤ entries old.space = entries_wide old.space s in
    let x : ℕ = get_or a 0 0 in
    let y : ℕ = get_or b 0 0 in
    let a0 : 0 < length a = omega arith in
    let b0 : 0 < length b = omega arith in
    planned_one old new c 1 1 1 (EachOf a b) (λ xs. flipped v (passed op (2 ^ (old.space * length a)) (joint op (2 ^ (old.space * length a)) (number_held old a xs) (number_held old b xs) 0)))
    (makes_gives old new c 1 _ _ _ table m (m.degree_in 1 (λ j q. omega (arith, h.each j (omega arith), flipped_le v (combine (state_of op u j) 0) (combine_bits (state_of op u j) 0 (state_le op u j q (omega arith)) (omega arith))))))
    (λ d o. m.depth_in d (o.0 0 a0, o.1 0 b0))
    (λ xs w.
    let bx : value old xs x ≤ u - 1 = value_in old (u - 1) x bounded (ca 0 a0) xs w in
    let by : value old xs y ≤ u - 1 = value_in old (u - 1) y bounded (cb 0 b0) xs w in
    let j : joint op u (value old xs x) (value old xs y) 0 ≤ 2 * u - 1 = joint_in op u (value old xs x) (value old xs y) 0 bx by (omega arith) (omega arith) in
    m.value_is xs w ∙ h.each (joint op u (value old xs x) (value old xs y) 0) (omega arith)
    ∙ ap (flipped v) (carry_one op u (cell_value old a xs) (cell_value old b xs) ∙ ap (carry_of (states_of op u (cell_value old a xs) (cell_value old b xs))) (sym n1)
    ∙ held_out old a b l s bounded ca cb xs w op))

-- ---- carries and borrows as the public planners say them
pub less_out : (p a b : ℕ) → 0 < p → passed Difference p (joint Difference p a b 0) ≡ is_less a b
less_out p a b z =
    elim (cases_lt a b) as (λ _. is_less (p + a - (b + 0)) p ≡ is_less a b) [
      | inl l ↦ ap (λ x. cond x 1 0) (lt-ltb (p + a - (b + 0)) p (omega arith)) ∙ sym (ap (λ x. cond x 1 0) (lt-ltb a b l))
      | inr l ↦ ap (λ x. cond x 1 0) (le-ltb (p + a - (b + 0)) p (omega arith)) ∙ sym (ap (λ x. cond x 1 0) (le-ltb a b l))
    ]

pub sum_out : (p a b : ℕ) → passed Sum p (joint Sum p a b 0) ≡ (a + b) / p
sum_out p a b = let e : a + b + 0 ≡ a + b = omega arith in ap (λ t. t / p) e
