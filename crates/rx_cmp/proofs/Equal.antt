-- Numbers differ where a digit differs.
use Rattle.std.proofs.Common.{◌≡◌, ◌^◌, ℕ, Bool, true, false, zero, suc, ◌+◌, ◌-◌, ◌*◌, ◌/◌, ◌%◌, ◌<◌, ◌≤◌, inl, inr, List, [], ◌∷◌, length, get_or, max, refl, sym, ◌∙◌, ap, arith, subst, cond}
use Rattle.std.proofs.lemmas.Bool.{cases_eq, eq-eqb, ne_eqb}
use Rattle.std.proofs.lemmas.Nat.{pow_pos, div-mul-add, mod-mul-add, same_from_place}
use Rattle.rx_params.specs.Derived.{noise_limit}
use Rattle.rx_net.specs.declared.net.Net.{Net}
use Rattle.rx_net.specs.Tags.{greatest_of}
use Rattle.rx_net.specs.Legal.{IsBounded}
use Rattle.rx_plan.specs.Tables.{HasEntries}
use Rattle.rx_plan.specs.Values.{AreInputs, cell_value, number, number_held, total}
use Rattle.rx_plan.specs.Planned.{Each, EachOf, AreBlocks, Planned}
use Rattle.rx_plan.proofs.Kept.{value_below}
use Rattle.rx_plan.proofs.Numbers.{number_below, number_held-is}
use Rattle.rx_plan.proofs.Planned.{planned_same, planned_weaken, planned_chain}
use Rattle.rx_plan.proofs.PerBlock.{pair_values, two_blocks, greatest_entry}
use Rattle.rx_plan.proofs.Totals.{total_same}
use Rattle.rx_costs.specs.Logs.{log_up}
use Rattle.rx_costs.specs.Table.{equal_jobs, equal_depth}
use Rattle.rx_carry.specs.Carries.{flipped}
use Rattle.rx_cmp.specs.Groups.{is_some, any_jobs}
use Rattle.rx_cmp.specs.Equality.{equal, differ, digits_differ}
use Rattle.rx_cmp.proofs.Grouping.{some_add}
use Rattle.rx_cmp.proofs.Nodes.{flipped_le}

differ_same : (x y : ℕ) → x ≡ y → differ x y ≡ 0
differ_same x y e = ap (λ b. cond b 0 1) (eq-eqb x y e)

differ_not : (x y : ℕ) → (x ≡ y → ⊥) → differ x y ≡ 1
differ_not x y n = ap (λ b. cond b 0 1) (ne_eqb x y n)

pub differ_le : (x y : ℕ) → differ x y ≤ 1
differ_le x y = elim (cases_eq x y) [ inl e ↦ omega (arith, differ_same x y e) | inr n ↦ omega (arith, differ_not x y n) ]

-- what does not differ is equal
pub not_differ : (x y : ℕ) → flipped true (differ x y) ≡ equal x y
not_differ x y =
    elim (cases_eq x y) [
      | inl e ↦ ap (λ d. 1 - d) (differ_same x y e) ∙ sym (ap (λ b. cond b 1 0) (eq-eqb x y e))
      | inr n ↦ ap (λ d. 1 - d) (differ_not x y n) ∙ sym (ap (λ b. cond b 1 0) (ne_eqb x y n))
    ]

some_more : (x : ℕ) → is_some (x + 1) ≡ 1
some_more x = let e : x + 1 ≡ suc x = omega arith in ap is_some e

pub some_differ : (u n : ℕ) (f g : ℕ → ℕ) → ((i : ℕ) → i < n → f i < u) → ((i : ℕ) → i < n → g i < u)
    → is_some (total n (λ i. differ (f i) (g i))) ≡ differ (number u n f) (number u n g)
unfolding total number
some_differ u zero f g p q = refl
some_differ u (suc n) f g p q =
    let a : ℕ = number u n f in
    let b : ℕ = number u n g in
    let fa : a < u ^ n = number_below u n f (λ i l. p i (omega arith)) in
    let gb : b < u ^ n = number_below u n g (λ i l. q i (omega arith)) in
    let r : is_some (total n (λ i. differ (f i) (g i))) ≡ differ a b = some_differ u n f g (λ i l. p i (omega arith)) (λ i l. q i (omega arith)) in
    some_add (total n (λ i. differ (f i) (g i))) (differ (f n) (g n)) ∙ ap (λ x. is_some (x + is_some (differ (f n) (g n)))) r
    ∙ elim (cases_eq (f n) (g n)) as (λ _. is_some (differ a b + is_some (differ (f n) (g n))) ≡ differ (a + u ^ n * f n) (b + u ^ n * g n)) [
      | inl e ↦
          let m : u ^ n * f n ≡ u ^ n * g n = ap (λ x. u ^ n * x) e in
          ap (λ x. is_some (differ a b + is_some x)) (differ_same (f n) (g n) e) ∙ elim (cases_eq a b) as (λ _. is_some (differ a b + 0) ≡ differ (a + u ^ n * f n) (b + u ^ n * g n)) [
            | inl z ↦ ap (λ x. is_some (x + 0)) (differ_same a b z) ∙ sym (differ_same (a + u ^ n * f n) (b + u ^ n * g n) (omega arith))
            | inr z ↦ ap (λ x. is_some (x + 0)) (differ_not a b z) ∙ sym (differ_not (a + u ^ n * f n) (b + u ^ n * g n) (λ k. z (omega arith)))
          ]
      | inr e ↦
          ap (λ x. is_some (differ a b + is_some x)) (differ_not (f n) (g n) e)
          ∙ some_more (differ a b)
          ∙ sym (differ_not (a + u ^ n * f n) (b + u ^ n * g n) (λ k.
          let h : f n * u ^ n + a ≡ g n * u ^ n + b = omega arith in
          e (same_from_place (f n) a (g n) b (u ^ n) fa gb h).0))
    ]

differ_at : (u x y : ℕ) → y < u → digits_differ u (u * x + y) ≡ differ x y
differ_at u x y h =
    let e : u * x + y ≡ x * u + y = omega arith in
    ap (λ i. differ (i / u) (i % u)) e ∙ ap (λ i. differ i ((x * u + y) % u)) (div-mul-add x u y h) ∙ ap (λ i. differ x i) (mod-mul-add x u y h)

pub leaves_planned : (old new : Net) (cs a b table : List ℕ) (f : ℕ) (v : Bool) → f ≡ 2 ^ old.space → IsBounded old → AreBlocks old a → AreBlocks old b → length b ≡ length a
    → HasEntries old.space (λ i. flipped v (digits_differ (2 ^ old.space) i)) table
    → Planned old new cs (λ _. greatest_of table) (length a) (length a) 1 (EachOf a b) (pair_values old f table a b)
    → Planned old new cs (λ _. 1) (length a) (length a) 1 (EachOf a b) (λ xs i. flipped v (differ (cell_value old a xs i) (cell_value old b xs i)))
leaves_planned old new cs a b table f v e bounded ca cb l h p =
    let u : ℕ = 2 ^ old.space in
    let z : 0 < u = pow_pos old.space in
    planned_same old new cs (λ _. greatest_of table) (λ _. 1) (length a) (length a) 1 (EachOf a b) (pair_values old f table a b)
    (λ xs i. flipped v (differ (cell_value old a xs i) (cell_value old b xs i)))
    (λ i q. greatest_entry old.space (λ i. flipped v (digits_differ u i)) table 1 h (λ i q. flipped_le v (digits_differ u i) (differ_le (i / u) (i % u))))
    (λ xs w i q.
    let x : ℕ = cell_value old a xs i in
    let y : ℕ = cell_value old b xs i in
    let bx : x < u = value_below old u a bounded z ca xs w i q in
    let by : y < u = value_below old u b bounded z cb xs w i (omega arith) in
    let r : u * x + y < u * u = two_blocks u u x y z (omega arith) (omega arith) (omega arith) in
    ap (λ f. get_or table (f * x + y) 0) e ∙ h.each (u * x + y) r ∙ ap (flipped v) (differ_at u x y by))
    p

-- the digits of two numbers tell whether they differ
pub held_differ : (p : Net) (a b xs : List ℕ) → IsBounded p → length b ≡ length a → AreBlocks p a → AreBlocks p b → AreInputs p xs
    → is_some (total (length a) (λ i. differ (cell_value p a xs i) (cell_value p b xs i))) ≡ differ (number_held p a xs) (number_held p b xs)
held_differ p a b xs bounded l ka kb w =
    let u : ℕ = 2 ^ p.space in
    some_differ u (length a) (cell_value p a xs) (cell_value p b xs) (λ i x. value_below p u a bounded (pow_pos p.space) ka xs w i x) (λ i x. value_below p u b bounded (pow_pos p.space) kb xs w i (omega arith))
    ∙ ap (λ z. differ z (number u (length a) (cell_value p b xs))) (sym (number_held-is p a xs))
    ∙ ap (differ (number_held p a xs)) (ap (λ n. number u n (cell_value p b xs)) (sym l) ∙ sym (number_held-is p b xs))

some_bit : (x : ℕ) → x ≤ 1 → x ≡ is_some (0 + x)
some_bit zero h = refl
some_bit (suc zero) h = refl
some_bit (suc (suc x)) h = absurd (omega arith)

total_first : (f : ℕ → ℕ) → total 1 f ≡ 0 + f 0
unfolding total
total_first f = refl

pub one_planned : (old new : Net) (cs a b : List ℕ) (v : Bool) → IsBounded old → length a ≡ 1 → length b ≡ length a → AreBlocks old a → AreBlocks old b
    → Planned old new cs (λ _. 1) (length a) (length a) 1 (EachOf a b) (λ xs i. flipped v (differ (cell_value old a xs i) (cell_value old b xs i)))
    → Planned old new cs (λ _. 1) 1 (equal_jobs (length a)) (equal_depth old.space (length a)) (EachOf a b) (λ xs _. flipped v (differ (number_held old a xs) (number_held old b xs)))
one_planned old new cs a b v bounded n l ka kb p =
    let O : (ℕ → Type 0) → Type 0 = EachOf a b in
    let d : List ℕ → ℕ → ℕ = λ xs i. differ (cell_value old a xs i) (cell_value old b xs i) in
    let p1 : Planned old new cs (λ _. 1) 1 1 1 O (λ xs i. flipped v (d xs i)) = subst (λ (n : ℕ). Planned old new cs (λ _. 1) n n 1 O (λ xs i. flipped v (d xs i))) n p in
    planned_weaken old new cs (λ _. 1) 1 1 (equal_jobs (length a)) 1 (equal_depth old.space (length a)) O O (λ xs _. flipped v (differ (number_held old a xs) (number_held old b xs))) (omega arith) (omega arith) (λ d o. o)
    (planned_same old new cs (λ _. 1) (λ _. 1) 1 1 1 O (λ xs i. flipped v (d xs i)) (λ xs _. flipped v (differ (number_held old a xs) (number_held old b xs))) (λ i q. omega arith)
    (λ xs w i q.
    let z : i ≡ 0 = omega arith in
    ap (λ i. flipped v (d xs i)) z
    ∙ ap (flipped v) (some_bit (d xs 0) (differ_le (cell_value old a xs 0) (cell_value old b xs 0)) ∙ ap is_some (sym (total_first (d xs))) ∙ ap (λ n. is_some (total n (d xs))) (sym n)
    ∙ held_differ old a b xs bounded l ka kb w)) p1)

pub more_planned : (old s1 s2 : Net) (a b nodes : List ℕ) (c t : ℕ) (v : Bool) → IsBounded old → length b ≡ length a → 2 ≤ length a → 1 ≤ t → t ≡ log_up (noise_limit old.space) (length a)
    → AreBlocks old a → AreBlocks old b
    → Planned old s1 nodes (λ _. 1) (length a) (length a) 1 (EachOf a b) (λ xs i. flipped false (differ (cell_value old a xs i) (cell_value old b xs i)))
    → Planned s1 s2 (c ∷ []) (λ _. 1) 1 (any_jobs (length nodes)) (max 1 t) (Each nodes) (λ xs _. flipped v (is_some (total (length nodes) (cell_value s1 nodes xs))))
    → Planned old s2 (c ∷ []) (λ _. 1) 1 (equal_jobs (length a)) (equal_depth old.space (length a)) (EachOf a b) (λ xs _. flipped v (differ (number_held old a xs) (number_held old b xs)))
more_planned old s1 s2 a b nodes c t v bounded l o t1 te ka kb p q =
    let n : ℕ = length a in
    let k : length nodes ≡ n = p.count_is in
    let O : (ℕ → Type 0) → Type 0 = EachOf a b in
    let d : List ℕ → ℕ → ℕ = λ xs i. differ (cell_value old a xs i) (cell_value old b xs i) in
    let h : List ℕ → ℕ → ℕ = λ xs _. flipped v (differ (number_held old a xs) (number_held old b xs)) in
    planned_weaken old s2 (c ∷ []) (λ _. 1) 1 (n + any_jobs (length nodes)) (equal_jobs n) (1 + max 1 t) (equal_depth old.space n) O O h (omega arith) (omega arith) (λ d x. x)
    (planned_chain old s1 s2 nodes (c ∷ []) (λ _. 1) (λ _. 1) n 1 n (any_jobs (length nodes)) 1 (max 1 t) O (Each nodes) (λ xs i. flipped false (d xs i)) (λ xs _. flipped v (is_some (total (length nodes) (cell_value s1 nodes xs)))) h p q
    p.deep_cells
    (λ xs w i z.
    ap (flipped v) (ap (λ k. is_some (total k (cell_value s1 nodes xs))) k ∙ ap is_some (total_same n (cell_value s1 nodes xs) (d xs) (λ j x. p.values_are xs w j x)) ∙ held_differ old a b xs bounded l ka kb w)))
