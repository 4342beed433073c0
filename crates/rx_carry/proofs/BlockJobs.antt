-- Jobs over two blocks, and the loops over places.
use Rattle.std.proofs.Common.{◌≡◌, ℕ, List, [], ◌∷◌, ◌++◌, ◌<◌, ◌≤◌, ◌+◌, ◌-◌, ◌*◌, ◌^◌, inl, inr, length, get_or, nat_lt, cond, if◌then◌else◌, sym, ◌∙◌, ap, refl, arith, subst}
use Rattle.std.proofs.lemmas.Bool.{cases_lt, lt-ltb, le-ltb}
use Rattle.std.proofs.lemmas.Nat.{pow_pos}
use Rattle.rx_net.specs.declared.net.Net.{Net}
use Rattle.rx_net.specs.Cells.{value, degree, depth}
use Rattle.rx_net.specs.Legal.{IsBounded}
use Rattle.rx_net.specs.Growth.{Extends}
use Rattle.rx_plan.specs.Tables.{entries, IsTable, HasEntries}
use Rattle.rx_plan.specs.Values.{AreInputs, cell_value}
use Rattle.rx_plan.specs.Planned.{Each, EachOf, IsCell, AreCells, AreBlocks, Makes, Gives, Planned}
use Rattle.rx_plan.proofs.PerBlock.{unit_big, entries_wide, entries_big, table_is}
use Rattle.rx_plan.proofs.Kept.{within_now, cell_kept, block_now, value_in}
use Rattle.rx_plan.proofs.Planned.{makes_same, makes_gives, planned_push, planned_none}
use Rattle.rx_carry.specs.declared.operation.Operation.{Operation}
use Rattle.rx_carry.specs.declared.operation.Operation.TheVariants.{Sum, Difference, Negation}
use Rattle.rx_carry.specs.Carries.{joint, digit_left, combine, state_of, state_at, carried_in, tops_at}
use Rattle.rx_carry.proofs.Carried.{joint_in, state_below, combine_below, digit_below, state_first, state_later, state_at_le, carried_more}

-- ---- one job
pub looks_as : (op o : Operation) (p new : Net) (x y c most : ℕ) (table : List ℕ) → op ≡ o
    → Makes p new c (λ P. P x × P y) most (λ v. joint o (2 ^ p.space) (v x) (v y) 0) table
    → Makes p new c (λ P. P x × P y) most (λ v. joint op (2 ^ p.space) (v x) (v y) 0) table
looks_as op o p new x y c most table e m = subst (λ (o : Operation). Makes p new c (λ P. P x × P y) most (λ v. joint o (2 ^ p.space) (v x) (v y) 0) table) (sym e) m

pub looks_with_as : (op o : Operation) (p new : Net) (x y z c most : ℕ) (table : List ℕ) → op ≡ o
    → Makes p new c (λ P. P x × P y × P z) most (λ v. joint o (2 ^ p.space) (v x) (v y) (v z)) table
    → Makes p new c (λ P. P x × P y × P z) most (λ v. joint op (2 ^ p.space) (v x) (v y) (v z)) table
looks_with_as op o p new x y z c most table e m = subst (λ (o : Operation). Makes p new c (λ P. P x × P y × P z) most (λ v. joint o (2 ^ p.space) (v x) (v y) (v z)) table) (sym e) m

module _ (p new : Net) (x y c : ℕ) (table : List ℕ) (a : IsCell p (2 ^ p.space - 1) x) (b : IsCell p (2 ^ p.space - 1) y) where
  pub sum_looks : Makes p new c (λ P. P x × P y) (1 * degree p x + degree p y) (λ v. 1 * v x + v y) table
      → Makes p new c (λ P. P x × P y) (2 * 2 ^ p.space - 1) (λ v. joint Sum (2 ^ p.space) (v x) (v y) 0) table
  sum_looks m = makes_same p new c _ (λ P. P x × P y) _ (2 * 2 ^ p.space - 1) _ (λ v. joint Sum (2 ^ p.space) (v x) (v y) 0) table m (λ Q q. q) (omega (arith, pow_pos p.space, a.degree_in, b.degree_in)) (λ xs w. omega arith)

  pub difference_looks : (unit : ℕ) → unit ≡ 2 ^ p.space → Makes p new c (λ P. P x × P y) (unit + degree p x) (λ v. unit + v x - v y) table
      → Makes p new c (λ P. P x × P y) (2 * 2 ^ p.space - 1) (λ v. joint Difference (2 ^ p.space) (v x) (v y) 0) table
  difference_looks unit e m = makes_same p new c _ (λ P. P x × P y) _ (2 * 2 ^ p.space - 1) _ (λ v. joint Difference (2 ^ p.space) (v x) (v y) 0) table m (λ Q q. q) (omega (arith, pow_pos p.space, a.degree_in)) (λ xs w. omega arith)

  pub negation_looks : Makes p new c (λ P. P y) (degree p y) (λ v. v y) table
      → Makes p new c (λ P. P x × P y) (2 * 2 ^ p.space - 1) (λ v. joint Negation (2 ^ p.space) (v x) (v y) 0) table
  negation_looks m = makes_same p new c _ (λ P. P x × P y) _ (2 * 2 ^ p.space - 1) _ (λ v. joint Negation (2 ^ p.space) (v x) (v y) 0) table m (λ Q q. q.1) (omega (arith, pow_pos p.space, b.degree_in)) (λ xs w. omega arith)

module _ (p new : Net) (x y z c : ℕ) (table : List ℕ) (a : IsCell p (2 ^ p.space - 1) x) (b : IsCell p (2 ^ p.space - 1) y) (k : IsCell p 1 z) where
  pub sum_looks_with : Makes p new c (λ P. P x × P y × P z) (degree p x + degree p y + degree p z) (λ v. v x + v y + v z) table
      → Makes p new c (λ P. P x × P y × P z) (2 * 2 ^ p.space - 1) (λ v. joint Sum (2 ^ p.space) (v x) (v y) (v z)) table
  sum_looks_with m = makes_same p new c _ (λ P. P x × P y × P z) _ (2 * 2 ^ p.space - 1) _ (λ v. joint Sum (2 ^ p.space) (v x) (v y) (v z)) table m (λ Q q. q) (omega (arith, pow_pos p.space, a.degree_in, b.degree_in, k.degree_in)) (λ xs w. refl)

  pub difference_looks_with : (unit : ℕ) → unit ≡ 2 ^ p.space → Makes p new c (λ P. P x × P y × P z) (unit + degree p x) (λ v. unit + v x - (v y + v z)) table
      → Makes p new c (λ P. P x × P y × P z) (2 * 2 ^ p.space - 1) (λ v. joint Difference (2 ^ p.space) (v x) (v y) (v z)) table
  difference_looks_with unit e m = makes_same p new c _ (λ P. P x × P y × P z) _ (2 * 2 ^ p.space - 1) _ (λ v. joint Difference (2 ^ p.space) (v x) (v y) (v z)) table m (λ Q q. q) (omega (arith, pow_pos p.space, a.degree_in)) (λ xs w. omega arith)

  pub negation_looks_with : Makes p new c (λ P. P y × P z) (1 * degree p y + degree p z) (λ v. 1 * v y + v z) table
      → Makes p new c (λ P. P x × P y × P z) (2 * 2 ^ p.space - 1) (λ v. joint Negation (2 ^ p.space) (v x) (v y) (v z)) table
  negation_looks_with m = makes_same p new c _ (λ P. P x × P y × P z) _ (2 * 2 ^ p.space - 1) _ (λ v. joint Negation (2 ^ p.space) (v x) (v y) (v z)) table m (λ Q q. (q.1, q.2)) (omega (arith, pow_pos p.space, b.degree_in, k.degree_in)) (λ xs w. omega arith)

-- ---- tables
pub state_at_below : (op : Operation) (u i t n : ℕ) → 2 ≤ u → 3 ≤ n → t < n → state_at op u i t < n
state_at_below op u i t n h k q =
    elim (cases_lt i 1) [
      | inl l ↦ subst (λ (s : ℕ). s < n) (sym (state_first op u i t l)) (combine_below (state_of op u t) 0 n (state_below op u t n h k q) (omega arith))
      | inr l ↦ subst (λ (s : ℕ). s < n) (sym (state_later op u i t l)) (state_below op u t n h k q)
    ]

-- the table of a place
pub place_table : (op : Operation) (s i : ℕ) (first rest table : List ℕ) → table ≡ (if nat_lt i 1 then first else rest)
    → HasEntries s (λ t. combine (state_of op (2 ^ s) t) 0) first → HasEntries s (state_of op (2 ^ s)) rest → HasEntries s (state_at op (2 ^ s) i) table
place_table op s i first rest table e f r =
    elim (cases_lt i 1) [
      | inl l ↦
          let t : table ≡ first = e ∙ ap (λ b. cond b first rest) (lt-ltb i 1 l) in
          subst (HasEntries s (state_at op (2 ^ s) i)) (sym t) record { count = f.count; each = λ j q. f.each j q ∙ sym (state_first op (2 ^ s) i j l) }
      | inr l ↦
          let t : table ≡ rest = e ∙ ap (λ b. cond b first rest) (le-ltb i 1 l) in
          subst (HasEntries s (state_at op (2 ^ s) i)) (sym t) record { count = r.count; each = λ j q. r.each j q ∙ sym (state_later op (2 ^ s) i j l) }
    ]

pub state_table_is : (op : Operation) (s i : ℕ) (table : List ℕ) → 2 ≤ s → HasEntries s (state_at op (2 ^ s) i) table → IsTable s table
state_table_is op s i table p h =
    table_is s (state_at op (2 ^ s) i) table h (λ j q. state_at_below op (2 ^ s) i j (entries s) (omega (arith, unit_big s p)) (omega (arith, entries_big s p)) q)

pub left_table_is : (op : Operation) (s : ℕ) (table : List ℕ) → 2 ≤ s → HasEntries s (digit_left op (2 ^ s)) table → IsTable s table
left_table_is op s table p h =
    table_is s (digit_left op (2 ^ s)) table h (λ j q. omega (arith, digit_below op (2 ^ s) j (pow_pos s), entries_wide s p))

-- ---- states
abbrev pub state_values : Operation → Net → List ℕ → List ℕ → List ℕ → ℕ → ℕ
state_values op p a b xs i = state_at op (2 ^ p.space) i (joint op (2 ^ p.space) (cell_value p a xs i) (cell_value p b xs i) 0)

module _ (op : Operation) (old now new : Net) (cs a b table : List ℕ) (i c : ℕ) (s : 2 ≤ old.space) (ca : AreBlocks old a) (cb : AreBlocks old b) (pa : i < length a) (pb : i < length b) where
  pub states_push : Planned old now cs (tops_at 1) i i 1 (EachOf a b) (state_values op old a b)
      → HasEntries now.space (state_at op (2 ^ now.space) i) table
      → Makes now new c (λ P. P (get_or a i 0) × P (get_or b i 0)) (2 * 2 ^ now.space - 1) (λ v. joint op (2 ^ now.space) (v (get_or a i 0)) (v (get_or b i 0)) 0) table
      → Planned old new (cs ++ c ∷ []) (tops_at 1) (i + 1) (i + 1) 1 (EachOf a b) (state_values op old a b)
  states_push p t m =
      let e : Extends old now = p.extends in
      let u : ℕ = 2 ^ now.space in
      let s' : 2 ≤ now.space = omega (arith, e.space) in
      let big : 4 ≤ u = unit_big now.space s' in
      let wide : 4 * u ≤ entries now.space = entries_wide now.space s' in
      let x : ℕ = get_or a i 0 in
      let y : ℕ = get_or b i 0 in
      let kx = ca i pa in
      let ky = cb i pb in
      let se : 2 ^ now.space ≡ 2 ^ old.space = ap (λ s. 2 ^ s) e.space in
      let g : Gives now new c (tops_at 1 i) 1 = makes_gives now new c (tops_at 1 i) _ _ _ table m (m.degree_in (tops_at 1 i) (λ j q. omega (arith, t.each j (omega arith), state_at_le op u i j q (omega arith)))) in
      planned_push old now new cs (tops_at 1) i i 1 1 (EachOf a b) (state_values op old a b) c p g
      (λ d o.
      let dx : depth now x ≡ depth old x = e.depths x kx.there in
      let dy : depth now y ≡ depth old y = e.depths y ky.there in
      let ox = o.0 i pa in
      let oy = o.1 i pb in
      m.depth_in d (omega arith, omega arith))
      (λ xs w.
      let w' : AreInputs now xs = within_now old now e xs w in
      let ex : value now xs x ≡ value old xs x = e.values xs w x kx.there in
      let ey : value now xs y ≡ value old xs y = e.values xs w y ky.there in
      let bx : value now xs x ≤ u - 1 = value_in now (u - 1) x p.bounded (block_now old now x e kx) xs w' in
      let by : value now xs y ≤ u - 1 = value_in now (u - 1) y p.bounded (block_now old now y e ky) xs w' in
      let j : joint op u (value now xs x) (value now xs y) 0 ≤ 2 * u - 1 = joint_in op u (value now xs x) (value now xs y) 0 bx by (omega arith) (omega arith) in
      m.value_is xs w' ∙ t.each (joint op u (value now xs x) (value now xs y) 0) (omega arith)
      ∙ ap (λ s. state_at op (2 ^ s) i (joint op (2 ^ s) (value now xs x) (value now xs y) 0)) e.space
      ∙ ap (λ v. state_at op (2 ^ old.space) i (joint op (2 ^ old.space) v (value now xs y) 0)) ex
      ∙ ap (λ v. state_at op (2 ^ old.space) i (joint op (2 ^ old.space) (value old xs x) v 0)) ey)

-- ---- blocks that are left
abbrev pub left_values : Operation → Net → List ℕ → List ℕ → List ℕ → List ℕ → ℕ → ℕ
left_values op p a b cs xs i = digit_left op (2 ^ p.space) (joint op (2 ^ p.space) (cell_value p a xs i) (cell_value p b xs i) (carried_in (cell_value p cs xs) i))

abbrev pub EachThree : List ℕ → List ℕ → List ℕ → (ℕ → Type 0) → Type 0
EachThree a b cs P = Each a P × Each b P × Each cs P

left_gives : (op : Operation) (now new : Net) (c : ℕ) (table : List ℕ) (O : (ℕ → Type 0) → Type 0) (at : (ℕ → ℕ) → ℕ) → 2 ≤ now.space → HasEntries now.space (digit_left op (2 ^ now.space)) table
    → Makes now new c O (2 * 2 ^ now.space - 1) at table → Gives now new c (2 ^ now.space - 1) 1
left_gives op now new c table O at s t m =
    let u : ℕ = 2 ^ now.space in
    let big : 4 ≤ u = unit_big now.space s in
    let wide : 4 * u ≤ entries now.space = entries_wide now.space s in
    makes_gives now new c (u - 1) O (2 * u - 1) at table m (m.degree_in (u - 1) (λ j q. omega (arith, t.each j (omega arith), digit_below op u j (pow_pos now.space))))

-- block 0
pub least_push : (op : Operation) (old new : Net) (a b carries table : List ℕ) (c : ℕ) → 2 ≤ old.space → IsBounded old → AreBlocks old a → AreBlocks old b → 0 < length a → 0 < length b
    → HasEntries old.space (digit_left op (2 ^ old.space)) table
    → Makes old new c (λ P. P (get_or a 0 0) × P (get_or b 0 0)) (2 * 2 ^ old.space - 1) (λ v. joint op (2 ^ old.space) (v (get_or a 0 0)) (v (get_or b 0 0)) 0) table
    → Planned old new ([] ++ c ∷ []) (λ _. 2 ^ old.space - 1) (0 + 1) (0 + 1) 1 (EachThree a b carries) (left_values op old a b carries)
unfolding carried_in
least_push op old new a b carries table c s bounded ca cb pa pb t m =
    let u : ℕ = 2 ^ old.space in
    let big : 4 ≤ u = unit_big old.space s in
    let wide : 4 * u ≤ entries old.space = entries_wide old.space s in
    let x : ℕ = get_or a 0 0 in
    let y : ℕ = get_or b 0 0 in
    planned_push old old new [] (λ _. u - 1) 0 0 1 1 (EachThree a b carries) (left_values op old a b carries) c (planned_none old (λ _. u - 1) 1 (EachThree a b carries) (left_values op old a b carries) bounded)
    (left_gives op old new c table _ _ s t m)
    (λ d o. m.depth_in d (o.0 0 pa, o.1 0 pb))
    (λ xs w.
    let bx : value old xs x ≤ u - 1 = value_in old (u - 1) x bounded (ca 0 pa) xs w in
    let by : value old xs y ≤ u - 1 = value_in old (u - 1) y bounded (cb 0 pb) xs w in
    let j : joint op u (value old xs x) (value old xs y) 0 ≤ 2 * u - 1 = joint_in op u (value old xs x) (value old xs y) 0 bx by (omega arith) (omega arith) in
    m.value_is xs w ∙ t.each (joint op u (value old xs x) (value old xs y) 0) (omega arith))

-- a block above
pub blocks_push : (op : Operation) (old now new : Net) (cs a b carries table : List ℕ) (i c : ℕ) → 2 ≤ old.space → AreBlocks old a → AreBlocks old b → AreCells old 1 carries
    → i < length a → i < length b → 1 ≤ i → i ≤ length carries
    → Planned old now cs (λ _. 2 ^ old.space - 1) i i 1 (EachThree a b carries) (left_values op old a b carries)
    → HasEntries now.space (digit_left op (2 ^ now.space)) table
    → Makes now new c (λ P. P (get_or a i 0) × P (get_or b i 0) × P (get_or carries (i - 1) 0)) (2 * 2 ^ now.space - 1)
    (λ v. joint op (2 ^ now.space) (v (get_or a i 0)) (v (get_or b i 0)) (v (get_or carries (i - 1) 0))) table
    → Planned old new (cs ++ c ∷ []) (λ _. 2 ^ old.space - 1) (i + 1) (i + 1) 1 (EachThree a b carries) (left_values op old a b carries)
blocks_push op old now new cs a b carries table i c s ca cb cc pa pb some pc p t m =
    let e : Extends old now = p.extends in
    let u : ℕ = 2 ^ now.space in
    let s' : 2 ≤ now.space = omega (arith, e.space) in
    let big : 4 ≤ u = unit_big now.space s' in
    let wide : 4 * u ≤ entries now.space = entries_wide now.space s' in
    let x : ℕ = get_or a i 0 in
    let y : ℕ = get_or b i 0 in
    let z : ℕ = get_or carries (i - 1) 0 in
    let pz : i - 1 < length carries = omega arith in
    let kx = ca i pa in
    let ky = cb i pb in
    let kz = cc (i - 1) pz in
    planned_push old now new cs (λ _. 2 ^ old.space - 1) i i 1 1 (EachThree a b carries) (left_values op old a b carries) c p
    (subst (λ (s : ℕ). Gives now new c (2 ^ s - 1) 1) e.space (left_gives op now new c table _ _ s' t m))
    (λ d o.
    let dx : depth now x ≡ depth old x = e.depths x kx.there in
    let dy : depth now y ≡ depth old y = e.depths y ky.there in
    let dz : depth now z ≡ depth old z = e.depths z kz.there in
    let ox = o.0 i pa in
    let oy = o.1 i pb in
    let oz = o.2 (i - 1) pz in
    m.depth_in d (omega arith, omega arith, omega arith))
    (λ xs w.
    let w' : AreInputs now xs = within_now old now e xs w in
    let ex : value now xs x ≡ value old xs x = e.values xs w x kx.there in
    let ey : value now xs y ≡ value old xs y = e.values xs w y ky.there in
    let ez : value now xs z ≡ value old xs z = e.values xs w z kz.there in
    let bx : value now xs x ≤ u - 1 = value_in now (u - 1) x p.bounded (block_now old now x e kx) xs w' in
    let by : value now xs y ≤ u - 1 = value_in now (u - 1) y p.bounded (block_now old now y e ky) xs w' in
    let bz : value now xs z ≤ 1 = value_in now 1 z p.bounded (cell_kept old now 1 z e kz) xs w' in
    let j : joint op u (value now xs x) (value now xs y) (value now xs z) ≤ 2 * u - 1 = joint_in op u (value now xs x) (value now xs y) (value now xs z) bx by bz (omega arith) in
    m.value_is xs w' ∙ t.each (joint op u (value now xs x) (value now xs y) (value now xs z)) (omega arith)
    ∙ ap (λ s. digit_left op (2 ^ s) (joint op (2 ^ s) (value now xs x) (value now xs y) (value now xs z))) e.space
    ∙ ap (λ v. digit_left op (2 ^ old.space) (joint op (2 ^ old.space) v (value now xs y) (value now xs z))) ex
    ∙ ap (λ v. digit_left op (2 ^ old.space) (joint op (2 ^ old.space) (value old xs x) v (value now xs z))) ey
    ∙ ap (λ v. digit_left op (2 ^ old.space) (joint op (2 ^ old.space) (value old xs x) (value old xs y) v)) (ez ∙ sym (carried_more (cell_value old carries xs) i some)))
