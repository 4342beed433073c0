-- Each atomic step keeps the rule of the board and tells what its play says.
use Rattle.std.proofs.Common.{◌≡◌, ◌≢◌, ℕ, ◌+◌, ◌-◌, ◌*◌, ◌%◌, ◌<◌, ◌≤◌, inl, inr, ⊎_elim, Bool, cond, eqb, List, [], ◌∷◌, ◌++◌, length, get_or, set, sym, refl, ap, ◌∙◌, subst, arith, eq-eqb, ne_eqb, get_or-set_same, length-set}
use Rattle.std.specs.Prelude.{Some, None, Contains}
use Rattle.std.proofs.lemmas.List.Elements.{Contains-append_left, Contains-append_right, Contains-append_cases}
use mathlib.Core.Logic.{dite}
use mathlib.Core.Option.{some, none}
use native.Mathlib.Decide.{ℕ_discrete}
use lib.ListN.{get_elem?}
use lib.Seq.{set-get_or}
use prog.Atomic.{either}
use Rattle.atomic_table.specs.Table.{State, Me, step, keeps, stepped, Allows, Splits, Joins}
use Rattle.atomic_table.proofs.Lists.{at_set, at_snoc}
use Rattle.rx_board.specs.declared.view.Plan.{Plan}
use Rattle.rx_board.specs.declared.view.Held.{Held}
use Rattle.rx_board.specs.declared.view.View.{View}
use Rattle.rx_board.specs.Rule.{input_count, one_if, total, times, holding, holds_job, spent, job_count, cell, credits, uses_in, owner_in, owed, passed, HasWords, HeldOk, Knows, Lawful, state_place, count_place, word_place, state_in, count_in, word_in, BoardValue}
use Rattle.rx_board.specs.Steps.{found_at, counted_at, claimed_at, published_at, given, both_of, looked, counted_load, read_word, claimed, stored, credited, published, given_back, IsReady, MayRead}
use Rattle.rx_board.proofs.Totals.{one, no, total_set, total_append, single, credits_own, credits_else, credits_none}
use Rattle.rx_uses.proofs.UsesLaw.{node_operand}
use Rattle.rx_board.proofs.Counts.{same_owed, one_less}
use Rattle.rx_board.proofs.Keeps.{quiet, moves, pass_kept, pass_published, owed_less, credit_keeps}
use Rattle.rx_board.proofs.Ready.{may_read, none_owed}
use Rattle.rx_board.proofs.Places.{apart, inside, state_row, state_else, word_else, own_state, own_word, count_else, counts_stay, states_stay, words_stay}

abbrev U : Type 0
U = Unit {0}

-- the plan of a view and the job of a place are each one
at_place : (v : View) (p : Plan) (j : ℕ) → v.plan ≡ Some p → (P : Plan → ℕ → Type 0) → P p j → (p' : Plan) (j' : ℕ) → v.plan ≡ Some p' → state_place p.width j ≡ state_place p'.width j' → P p' j'
at_place v p j is P h p' j' is' e =
    let same : p ≡ p' = let q : Some p ≡ Some p' = sym is ∙ is' in cc in
    let n : ℕ = p.width + 2 in
    let e' : 1 + (j * n + 0) ≡ 1 + (j' * n + 0) = (let x : ℕ = j * n in let y : ℕ = j' * n in let z : 1 + x ≡ 1 + y = e ∙ ap (λ (u : Plan). state_place u.width j') (sym same) in omega arith) in
    let job : j ≡ j' = dite (ℕ_discrete j j') (λ q. q) (λ ne. absurd (apart n j j' 0 0 (omega arith) (omega arith) ne e')) in
    subst (λ (u : Plan × ℕ). P u.0 u.1) (λ i. (same i, job i)) h

count_at_place : (v : View) (p : Plan) (j : ℕ) → v.plan ≡ Some p → (P : Plan → ℕ → Type 0) → P p j → (p' : Plan) (j' : ℕ) → v.plan ≡ Some p' → count_place p.width j ≡ count_place p'.width j' → P p' j'
count_at_place v p j is P h p' j' is' e =
    let same : p ≡ p' = let q : Some p ≡ Some p' = sym is ∙ is' in cc in
    let e' : count_place p.width j ≡ count_place p.width j' = e ∙ ap (λ (u : Plan). count_place u.width j') (sym same) in
    let job : j ≡ j' = dite (ℕ_discrete j j') (λ q. q) (λ ne. absurd (apart (p.width + 2) j j' 1 1 (omega arith) (omega arith) ne e')) in
    subst (λ (u : Plan × ℕ). P u.0 u.1) (λ i. (same i, job i)) h

word_at_place : (v : View) (p : Plan) (j q : ℕ) → v.plan ≡ Some p → (P : Plan → ℕ → ℕ → Type 0) → P p j q → q < p.width → (p' : Plan) (j' q' : ℕ) → v.plan ≡ Some p' → q' < p'.width
    → word_place p.width j q ≡ word_place p'.width j' q' → P p' j' q'
word_at_place v p j q is P h l p' j' q' is' l' e =
    let same : p' ≡ p = let a : Some p' ≡ Some p = sym is' ∙ is in cc in
    let n : ℕ = p.width + 2 in
    let l2 : q' < p.width = subst (λ (u : Plan). q' < u.width) same l' in
    let e' : word_place p.width j q ≡ word_place p.width j' q' = e ∙ ap (λ (u : Plan). word_place u.width j' q') same in
    let job : j ≡ j' = dite (ℕ_discrete j j') (λ z. z) (λ ne. absurd (apart n j j' (2 + q) (2 + q') (omega arith) (omega arith) ne e')) in
    let place : q ≡ q' = (let x : ℕ = j * n in let e2 : 1 + (x + (2 + q)) ≡ 1 + (x + (2 + q')) = e' ∙ ap (λ (u : ℕ). word_place p.width u q') (sym job) in omega arith) in
    subst (λ (u : Plan × ℕ × ℕ). P u.0 u.1 u.2) (λ i. (sym same i, job i, place i)) h

module _ (p : Plan) where
  -- what a seat knows after it has found j in its state
  knows_found : (st : ℕ → ℕ) (wd : ℕ → ℕ → ℕ) (ct : ℕ → ℕ) (v : View) (j : ℕ) → v.plan ≡ Some p → j < job_count p → Knows p st wd ct v → Knows p st wd ct (found_at v j (st j))
  knows_found st wd ct v j is b kn = dite (ℕ_discrete (st j) 2)
      (λ two. record {
        plan = inl is;
        known = subst (λ (c : Bool). (i : ℕ) → Contains (cond c (v.known ++ j ∷ []) v.known) i → (i < job_count p) × (st i ≡ 2)) (sym (eq-eqb (st j) 2 two))
            (λ i h. ⊎_elim (kn.known i) (λ t. subst (λ (z : ℕ). (z < job_count p) × (st z ≡ 2)) (single j i t) (b, two)) (Contains-append_cases v.known (j ∷ []) i h));
        ran = λ i h. subst (λ (c : Bool). Contains (cond c (v.known ++ j ∷ []) v.known) i) (sym (eq-eqb (st j) 2 two)) (Contains-append_left v.known (j ∷ []) i (kn.ran i h));
        held = kn.held;
        ready = kn.ready;
      })
      (λ other. let e = sym (ne_eqb (st j) 2 other) in record {
        plan = inl is;
        known = subst (λ (c : Bool). (i : ℕ) → Contains (cond c (v.known ++ j ∷ []) v.known) i → (i < job_count p) × (st i ≡ 2)) e kn.known;
        ran = λ i h. subst (λ (c : Bool). Contains (cond c (v.known ++ j ∷ []) v.known) i) e (kn.ran i h);
        held = kn.held;
        ready = kn.ready;
      })

  -- what a seat knows after it has found the count of j
  knows_counted : (st : ℕ → ℕ) (wd : ℕ → ℕ → ℕ) (ct : ℕ → ℕ) (v : View) (j : ℕ) → v.plan ≡ Some p → j < job_count p → Knows p st wd ct v → Knows p st wd ct (counted_at v j (ct j))
  knows_counted st wd ct v j is b kn = record {
    plan = inl is;
    known = kn.known;
    ran = kn.ran;
    held = kn.held;
    ready = dite (ℕ_discrete (ct j) 0)
        (λ z. subst (λ (c : Bool). (i : ℕ) → Contains (cond c (v.ready ++ j ∷ []) v.ready) i → (i < job_count p) × (ct i ≡ 0)) (sym (eq-eqb (ct j) 0 z))
        (λ i h. ⊎_elim (kn.ready i) (λ t. subst (λ (n : ℕ). (n < job_count p) × (ct n ≡ 0)) (single j i t) (b, z)) (Contains-append_cases v.ready (j ∷ []) i h)))
        (λ ne. subst (λ (c : Bool). (i : ℕ) → Contains (cond c (v.ready ++ j ∷ []) v.ready) i → (i < job_count p) × (ct i ≡ 0)) (sym (ne_eqb (ct j) 0 ne)) kn.ready);
  }

  unmoved : (s : State U View) → Lawful p s → (i id : ℕ) (v w : View) (cs : List (ℕ × U)) → get_elem? s.views id ≡ some v → Knows p (state_in p.width s.words) (word_in p.width s.words) (count_in p.width s.words) w
      → w.held ≡ v.held → w.ran ≡ v.ran → Lawful p (stepped s i (get_or s.words i 0) id cs w keeps)
  unmoved s r i id v w cs at mine held ran = subst (λ (ws : List ℕ). Lawful p record { words = ws; homes = s.homes; views = set s.views id w }) (sym (set-get_or s.words i 0))
      (r.0, quiet p (state_in p.width s.words) (word_in p.width s.words) (count_in p.width s.words) s.views r.1 id v w at mine held ran)

  pub looks : (slots id : ℕ) (me : Me U View) (j : ℕ) → me.0.plan ≡ Some p → me.0.held ≡ None → j < job_count p
      → Allows (Lawful p) slots id me (state_place p.width j) (λ n. n) (looked (step slots (state_place p.width j) 0 0 none) me)
  looks slots id me j is idle b s r _ at _ = let v : View = me.0 in let x : ℕ = state_in p.width s.words j in let w : View = found_at v j x in let kn = r.1.each id v at in let me' : Me U View = (w, me.1) in (
    w,
    keeps,
    tt,
    unmoved s r (state_place p.width j) id v w me.1 at (knows_found (state_in p.width s.words) (word_in p.width s.words) (count_in p.width s.words) v j is b kn) refl refl,
    λ p' j' is' b' e. at_place v p j is (λ q i. (me' ≡ (found_at v i x, me.1)) × (x ≤ 2) × (holds_job i v.held ≡ 0) × (Contains v.known i → x ≡ 2)) (refl, r.1.states j b, ap (holds_job j) idle, λ h. (kn.known j h).1) p' j' is' e,
  )

  pub counts_load : (slots id : ℕ) (me : Me U View) (j : ℕ) → me.0.plan ≡ Some p → j < job_count p
      → Allows (Lawful p) slots id me (count_place p.width j) (λ n. n) (counted_load (step slots (count_place p.width j) 0 0 none) me)
  counts_load slots id me j is b s r _ at _ = let v : View = me.0 in let x : ℕ = count_in p.width s.words j in let w : View = counted_at v j x in let kn = r.1.each id v at in let me' : Me U View = (w, me.1) in (
    w,
    keeps,
    tt,
    unmoved s r (count_place p.width j) id v w me.1 at (knows_counted (state_in p.width s.words) (word_in p.width s.words) (count_in p.width s.words) v j is b kn) refl refl,
    λ p' j' is' b' e. count_at_place v p j is (λ q i. (me' ≡ (counted_at v i x, me.1)) × (IsReady q v i → x ≡ 0))
        (refl, none_owed p (state_in p.width s.words) (word_in p.width s.words) (count_in p.width s.words) s.views r.1 id v at j b) p' j' is' e,
  )

  pub reads : (slots id : ℕ) (me : Me U View) (j q : ℕ) → me.0.plan ≡ Some p → j < job_count p → MayRead p me.0 j → q < p.width
      → Allows (Lawful p) slots id me (word_place p.width j q) (λ n. n) (read_word (step slots (word_place p.width j q) 0 0 none) me)
  reads slots id me j q is b may l s r _ at _ = let v : View = me.0 in let kn = r.1.each id v at in
      let full = may_read p (state_in p.width s.words) (word_in p.width s.words) (count_in p.width s.words) s.views r.1 id v at j b may in (
        v,
        keeps,
        tt,
        unmoved s r (word_place p.width j q) id v v me.1 at kn refl refl,
        λ p' j' q' is' b' l' e. word_at_place v p j q is (λ u i k. (me ≡ me) × MayRead u v i × (word_in p.width s.words j q ≡ get_or (cell u i) k 0) × (length (cell u i) ≡ u.width))
            (refl, may, full.1 q l, full.0) l p' j' q' is' l' e,
      )

  -- a step that writes a word of the job k, which is free or taken by the own view
  written : (s : State U View) → Lawful p s → (id : ℕ) (v w : View) (cs : List (ℕ × U)) → get_elem? s.views id ≡ some v → (k a x i : ℕ) → i ≡ 1 + (k * (p.width + 2) + a) → k < job_count p → a < p.width + 2 → 1 ≢ a
      → ((c : ℕ) → passed p (state_in p.width (set s.words i x)) (set s.views id w) c ≡ passed p (state_in p.width s.words) s.views c)
      → state_in p.width s.words k ≢ 2 → holds_job k v.held ≡ one_if (eqb (state_in p.width s.words k) 1)
      → state_in p.width (set s.words i x) k ≤ 2
      → (state_in p.width (set s.words i x) k ≡ 2 → (length (cell p k) ≡ p.width) × HasWords p (state_in p.width (set s.words i x)) (word_in p.width (set s.words i x)) (count_in p.width (set s.words i x)) k p.width)
      → Knows p (state_in p.width (set s.words i x)) (word_in p.width (set s.words i x)) (count_in p.width (set s.words i x)) w
      → ((j : ℕ) → j ≢ k → holds_job j w.held ≡ holds_job j v.held) → holds_job k w.held ≡ one_if (eqb (state_in p.width (set s.words i x) k) 1)
      → ((j : ℕ) → j ≢ k → times j w.ran ≡ times j v.ran) → (times k v.ran ≡ 0 → times k w.ran ≡ one_if (eqb (state_in p.width (set s.words i x) k) 2))
      → Lawful p (stepped s i x id cs w keeps)
  written s r id v w cs at k a x i here b in_row apart_1 pass not own small full mine holds_off holds_k ran_off ran_k = (
    length-set s.words i x ∙ r.0,
    moves p (state_in p.width s.words) (state_in p.width (set s.words i x)) (word_in p.width s.words) (word_in p.width (set s.words i x)) (count_in p.width s.words) (count_in p.width (set s.words i x)) s.views r.1 id v w at k b not own
        (state_else p.width s.words k a x i here in_row) (word_else p.width s.words k a x i here in_row) (counts_stay p.width s.words k a x i here in_row apart_1) pass small full mine holds_off holds_k ran_off ran_k,
  )

  -- what was known of other jobs is known after a write to k
  still_known : (s : State U View) (v : View) → Knows p (state_in p.width s.words) (word_in p.width s.words) (count_in p.width s.words) v → (k a x i : ℕ) → i ≡ 1 + (k * (p.width + 2) + a) → a < p.width + 2 → state_in p.width s.words k ≢ 2
      → (j : ℕ) → Contains v.known j → (j < job_count p) × (state_in p.width (set s.words i x) j ≡ 2)
  still_known s v kn k a x i here in_row not j h = let t = kn.known j h in
      (t.0, state_else p.width s.words k a x i here in_row j (λ e. not (subst (λ (z : ℕ). state_in p.width s.words z ≡ 2) e t.1)) ∙ t.1)

  still_ready : (s : State U View) (v : View) → Knows p (state_in p.width s.words) (word_in p.width s.words) (count_in p.width s.words) v → (k a x i : ℕ) → i ≡ 1 + (k * (p.width + 2) + a) → a < p.width + 2 → 1 ≢ a
      → (j : ℕ) → Contains v.ready j → (j < job_count p) × (count_in p.width (set s.words i x) j ≡ 0)
  still_ready s v kn k a x i here in_row ne j h = let t = kn.ready j h in (t.0, counts_stay p.width s.words k a x i here in_row ne j ∙ t.1)

  -- the nodes credited stay, where the own view credited as many and the state of k does not become 2
  still_passed : (s : State U View) (id : ℕ) (v w : View) → get_elem? s.views id ≡ some v → (k a x i : ℕ) → i ≡ 1 + (k * (p.width + 2) + a) → a < p.width + 2 → state_in p.width s.words k ≢ 2 → state_in p.width (set s.words i x) k ≢ 2
      → ((c : ℕ) → credits c w.held ≡ credits c v.held) → (c : ℕ) → passed p (state_in p.width (set s.words i x)) (set s.views id w) c ≡ passed p (state_in p.width s.words) s.views c
  still_passed s id v w at k a x i here in_row n n' own = pass_kept p (state_in p.width s.words) (state_in p.width (set s.words i x)) s.views id v w at k n n' (state_else p.width s.words k a x i here in_row) own

  pub claims : (slots id : ℕ) (me : Me U View) (k : ℕ) → me.0.plan ≡ Some p → me.0.held ≡ None → k < job_count p → Contains me.0.ready k
      → Allows (Lawful p) slots id me (state_place p.width k) (λ n. either (eqb n 0) 1 n) (claimed (step slots (state_place p.width k) 0 1 none) me)
  claims slots id me k is idle b ready s r _ at _ =
      let v : View = me.0 in let i : ℕ = state_place p.width k in let x : ℕ = state_in p.width s.words k in let kn = r.1.each id v at in let two = r.1.states k b in dite (ℕ_discrete x 0)
      (λ hit. let w : View = claimed_at v k 0 in let me' : Me U View = (w, me.1) in
      let here = state_row p.width k in
      let long : i < length s.words = (let l = inside (p.width + 2) k (job_count p) 0 b (omega arith) in subst (λ (z : ℕ × ℕ). z.0 < z.1) (λ j. (sym here j, sym r.0 j)) l) in
      let now : state_in p.width (set s.words i 1) k ≡ 1 = get_or-set_same s.words i 1 0 long in
      let not : x ≢ 2 = (λ e. omega arith) in
      let new : Knows p (state_in p.width (set s.words i 1)) (word_in p.width (set s.words i 1)) (count_in p.width (set s.words i 1)) w = record {
        plan = inl is;
        known = still_known s v kn k 0 1 i here (omega arith) not;
        ran = kn.ran;
        held = (b, now, omega arith, (λ q l. absurd (omega arith)), omega arith, λ l. absurd (omega arith));
        ready = still_ready s v kn k 0 1 i here (omega arith) (λ e. omega arith);
      } in (
        w,
        keeps,
        tt,
        subst (λ c. Lawful p (stepped s i (either c 1 x) id me.1 w keeps)) (sym (eq-eqb x 0 hit))
            (written s r id v w me.1 at k 0 1 i here b (omega arith) (λ e. omega arith)
            (still_passed s id v w at k 0 1 i here (omega arith) not (λ e. omega arith) (λ c. credits_none k 0 c ∙ sym (ap (credits c) idle))) not (ap (holds_job k) idle ∙ sym (no x 1 (λ e. omega arith)))
            (omega arith) (λ e. absurd (omega arith)) new
            (λ j ne. no k j (λ e. ne (sym e)) ∙ sym (ap (holds_job j) idle)) (one k k refl ∙ sym (one (state_in p.width (set s.words i 1) k) 1 now))
            (λ j ne. refl) (λ z. z ∙ sym (no (state_in p.width (set s.words i 1) k) 2 (λ e. omega arith)))),
        λ p' j' is' b' e. at_place v p k is (λ q j. (me' ≡ (claimed_at v j x, me.1)) × (x ≤ 2) × (v.held ≡ None) × Contains v.ready j × (Contains v.known j → x ≡ 2) × (Contains v.ran j → x ≡ 2)) (ap (λ (z : ℕ). (claimed_at v k z, me.1)) (sym hit), two, idle, ready, (λ h. (kn.known k h).1), (λ h. (kn.known k (kn.ran k h)).1)) p' j' is' e,
      ))
      (λ miss. let w : View = found_at v k x in let me' : Me U View = (w, me.1) in
      let same : me' ≡ (claimed_at v k x, me.1) = ap (λ (c : Bool). (record (found_at v k x) { held = cond c (Some (holding k 0 0)) v.held }, me.1)) (sym (ne_eqb x 0 miss)) in (
        w,
        keeps,
        tt,
        subst (λ c. Lawful p (stepped s i (either c 1 x) id me.1 w keeps)) (sym (ne_eqb x 0 miss))
            (unmoved s r i id v w me.1 at (knows_found (state_in p.width s.words) (word_in p.width s.words) (count_in p.width s.words) v k is b kn) refl refl),
        λ p' j' is' b' e. at_place v p k is (λ q j. (me' ≡ (claimed_at v j x, me.1)) × (x ≤ 2) × (v.held ≡ None) × Contains v.ready j × (Contains v.known j → x ≡ 2) × (Contains v.ran j → x ≡ 2)) (same, two, idle, ready, (λ h. (kn.known k h).1), (λ h. (kn.known k (kn.ran k h)).1)) p' j' is' e,
      ))

  pub stores : (slots id : ℕ) (me : Me U View) (k q x : ℕ) → me.0.plan ≡ Some p → me.0.held ≡ Some (holding k q 0) → q < p.width → x ≡ get_or (cell p k) q 0
      → Allows (Lawful p) slots id me (word_place p.width k q) (λ _. x) (λ _. stored (step slots (word_place p.width k q) x 0 none) me x)
  stores slots id me k q x is holds l right s r _ at _ =
      let v : View = me.0 in let i : ℕ = word_place p.width k q in let kn = r.1.each id v at in
      let mine : HeldOk p (state_in p.width s.words) (word_in p.width s.words) (count_in p.width s.words) (Some (holding k q 0)) = subst (HeldOk p (state_in p.width s.words) (word_in p.width s.words) (count_in p.width s.words)) holds kn.held in
      let w : View = record v { held = Some (holding k (q + 1) 0) } in let me' : Me U View = (w, me.1) in
      let b = mine.0 in let taken = mine.1 in
      let long : i < length s.words = (let l = inside (p.width + 2) k (job_count p) (2 + q) b (omega arith) in subst (λ (z : ℕ). i < z) (sym r.0) l) in
      let now : state_in p.width (set s.words i x) k ≡ 1 = own_state p.width s.words k (2 + q) x i refl (omega arith) (omega arith) ∙ taken in
      let not : state_in p.width s.words k ≢ 2 = (λ e. omega arith) in
      let new : Knows p (state_in p.width (set s.words i x)) (word_in p.width (set s.words i x)) (count_in p.width (set s.words i x)) w = record {
        plan = inl is;
        known = still_known s v kn k (2 + q) x i refl (omega arith) not;
        ran = kn.ran;
        held = (
          b,
          now,
          omega arith,
          λ j m. dite (ℕ_discrete j q)
              (λ e. subst (λ (z : ℕ). word_in p.width (set s.words i x) k z ≡ get_or (cell p k) z 0) (sym e) (get_or-set_same s.words i x 0 long ∙ right))
              (λ ne. own_word p.width s.words k (2 + q) x i refl (omega arith) j (λ e. ne (omega arith)) ∙ mine.3 j (omega arith)),
          omega arith,
          λ l'. absurd (omega arith),
        );
        ready = still_ready s v kn k (2 + q) x i refl (omega arith) (λ e. omega arith);
      } in (
        w,
        keeps,
        tt,
        written s r id v w me.1 at k (2 + q) x i refl b (omega arith) (λ e. omega arith)
            (still_passed s id v w at k (2 + q) x i refl (omega arith) not (λ e. omega arith) (λ c. credits_none k (q + 1) c ∙ sym (ap (credits c) holds ∙ credits_none k q c))) not (ap (holds_job k) holds ∙ (one k k refl ∙ sym (one (state_in p.width s.words k) 1 taken)))
            (omega arith) (λ e. absurd (omega arith)) new
            (λ j ne. sym (ap (holds_job j) holds)) (one k k refl ∙ sym (one (state_in p.width (set s.words i x) k) 1 now))
            (λ j ne. refl) (λ z. z ∙ sym (no (state_in p.width (set s.words i x) k) 2 (λ e. omega arith))),
        λ p' j' q' is' holds' e. let same : holding k q 0 ≡ holding j' q' 0 = (let z : Some (holding k q 0) ≡ Some (holding j' q' 0) = sym holds ∙ holds' in cc) in
            ap (λ (h : Held). (record v { held = Some (holding h.job (h.filled + 1) 0) }, me.1)) same,
      )

  pub publishes : (slots id : ℕ) (me : Me U View) (k : ℕ) → me.0.plan ≡ Some p → me.0.held ≡ Some (holding k p.width (length (uses_in p k))) → length (cell p k) ≡ p.width
      → Allows (Lawful p) slots id me (state_place p.width k) (λ _. 2) (λ _. published (step slots (state_place p.width k) 2 0 none) me 2)
  publishes slots id me k is holds wide s r _ at _ =
      let v : View = me.0 in let i : ℕ = state_place p.width k in let kn = r.1.each id v at in
      let mine : HeldOk p (state_in p.width s.words) (word_in p.width s.words) (count_in p.width s.words) (Some (holding k p.width (length (uses_in p k)))) = subst (HeldOk p (state_in p.width s.words) (word_in p.width s.words) (count_in p.width s.words)) holds kn.held in
      let w : View = published_at v k in let me' : Me U View = (w, me.1) in
      let b = mine.0 in let taken = mine.1 in let here = state_row p.width k in
      let long : i < length s.words = (let l = inside (p.width + 2) k (job_count p) 0 b (omega arith) in subst (λ (z : ℕ × ℕ). z.0 < z.1) (λ j. (sym here j, sym r.0 j)) l) in
      let now : state_in p.width (set s.words i 2) k ≡ 2 = get_or-set_same s.words i 2 0 long in
      let not : state_in p.width s.words k ≢ 2 = (λ e. omega arith) in
      let new : Knows p (state_in p.width (set s.words i 2)) (word_in p.width (set s.words i 2)) (count_in p.width (set s.words i 2)) w = record {
        plan = inl is;
        known = λ j h. ⊎_elim (still_known s v kn k 0 2 i here (omega arith) not j) (λ t. subst (λ (z : ℕ). (z < job_count p) × (state_in p.width (set s.words i 2) z ≡ 2)) (single k j t) (b, now)) (Contains-append_cases v.known (k ∷ []) j h);
        ran = λ j h. ⊎_elim (λ t. Contains-append_left v.known (k ∷ []) j (kn.ran j t)) (λ t. Contains-append_right v.known (k ∷ []) j t) (Contains-append_cases v.ran (k ∷ []) j h);
        held = tt;
        ready = still_ready s v kn k 0 2 i here (omega arith) (λ e. omega arith);
      } in let own : holds_job k v.held ≡ 1 = ap (holds_job k) holds ∙ one k k refl in (
        w,
        keeps,
        tt,
        written s r id v w me.1 at k 0 2 i here b (omega arith) (λ e. omega arith)
            (pass_published p (state_in p.width s.words) (state_in p.width (set s.words i 2)) s.views id v w at k not now (state_else p.width s.words k 0 2 i here (omega arith))
            (r.1.holders k b ∙ one (state_in p.width s.words k) 1 taken) own (ap (credits k) holds ∙ credits_own k p.width (length (uses_in p k)))
            (λ c ne. sym (ap (credits c) holds ∙ credits_else k p.width (length (uses_in p k)) c ne))) not (ap (holds_job k) holds ∙ (one k k refl ∙ sym (one (state_in p.width s.words k) 1 taken)))
            (omega arith) (λ _. (wide, λ q l. own_word p.width s.words k 0 2 i here (omega arith) q (λ e. omega arith) ∙ mine.3 q l)) new
            (λ j ne. sym (ap (holds_job j) holds ∙ no k j (λ e. ne (sym e)))) (sym (no (state_in p.width (set s.words i 2) k) 1 (λ e. omega arith)))
            (λ j ne. let t = total_append (λ y. one_if (eqb y j)) v.ran (k ∷ []) in let z = no k j (λ e. ne (sym e)) in omega arith)
            (λ z. let t = total_append (λ y. one_if (eqb y k)) v.ran (k ∷ []) in let y = one k k refl in let o = one (state_in p.width (set s.words i 2) k) 2 now in omega arith),
        λ p' j' is' holds' e. let same : holding k p.width (length (uses_in p k)) ≡ holding j' p'.width (length (uses_in p' j')) = (let z : Some (holding k p.width (length (uses_in p k))) ≡ Some (holding j' p'.width (length (uses_in p' j'))) = sym holds ∙ holds' in cc) in
            ap (λ (h : Held). (published_at v h.job, me.1)) same,
      )

  pub gives_back : (slots id : ℕ) (me : Me U View) (k : ℕ) → me.0.plan ≡ Some p → me.0.held ≡ Some (holding k 0 0)
      → Allows (Lawful p) slots id me (state_place p.width k) (λ _. 0) (λ _. given_back (step slots (state_place p.width k) 0 0 none) me 0)
  gives_back slots id me k is holds s r _ at _ =
      let v : View = me.0 in let i : ℕ = state_place p.width k in let kn = r.1.each id v at in
      let mine : HeldOk p (state_in p.width s.words) (word_in p.width s.words) (count_in p.width s.words) (Some (holding k 0 0)) = subst (HeldOk p (state_in p.width s.words) (word_in p.width s.words) (count_in p.width s.words)) holds kn.held in
      let w : View = record v { held = None } in let me' : Me U View = (w, me.1) in
      let b = mine.0 in let taken = mine.1 in let here = state_row p.width k in
      let long : i < length s.words = (let l = inside (p.width + 2) k (job_count p) 0 b (omega arith) in subst (λ (z : ℕ × ℕ). z.0 < z.1) (λ j. (sym here j, sym r.0 j)) l) in
      let now : state_in p.width (set s.words i 0) k ≡ 0 = get_or-set_same s.words i 0 0 long in
      let not : state_in p.width s.words k ≢ 2 = (λ e. omega arith) in
      let new : Knows p (state_in p.width (set s.words i 0)) (word_in p.width (set s.words i 0)) (count_in p.width (set s.words i 0)) w = record { plan = inl is; known = still_known s v kn k 0 0 i here (omega arith) not; ran = kn.ran; held = tt; ready = still_ready s v kn k 0 0 i here (omega arith) (λ e. omega arith) } in (
        w,
        keeps,
        tt,
        written s r id v w me.1 at k 0 0 i here b (omega arith) (λ e. omega arith)
            (still_passed s id v w at k 0 0 i here (omega arith) not (λ e. omega arith) (λ c. sym (ap (credits c) holds ∙ credits_none k 0 c))) not (ap (holds_job k) holds ∙ (one k k refl ∙ sym (one (state_in p.width s.words k) 1 taken)))
            (omega arith) (λ e. absurd (omega arith)) new
            (λ j ne. sym (ap (holds_job j) holds ∙ no k j (λ e. ne (sym e)))) (sym (no (state_in p.width (set s.words i 0) k) 1 (λ e. omega arith)))
            (λ j ne. refl) (λ z. z ∙ sym (no (state_in p.width (set s.words i 0) k) 2 (λ e. omega arith))),
        λ p' j' is' holds' e. refl,
      )

  pub credits_node : (slots id : ℕ) (me : Me U View) (k e : ℕ) → me.0.plan ≡ Some p → me.0.held ≡ Some (holding k p.width e) → e < length (uses_in p k) → length (cell p k) ≡ p.width
      → Allows (Lawful p) slots id me (count_place p.width (owner_in p (get_or (uses_in p k) e 0))) (λ n. (n + (18446744073709551616 - 1)) % 18446744073709551616)
      (credited (step slots (count_place p.width (owner_in p (get_or (uses_in p k) e 0))) 1 0 none) me)
  credits_node slots id me k e is holds more wide s r _ at small =
      let v : View = me.0 in let o : ℕ = owner_in p (get_or (uses_in p k) e 0) in let i : ℕ = count_place p.width o in let kn = r.1.each id v at in
      let mine : HeldOk p (state_in p.width s.words) (word_in p.width s.words) (count_in p.width s.words) (Some (holding k p.width e)) = subst (HeldOk p (state_in p.width s.words) (word_in p.width s.words) (count_in p.width s.words)) holds kn.held in
      let w : View = record v { held = Some (holding k p.width (e + 1)) } in let me' : Me U View = (w, me.1) in
      let node = node_operand p.net (input_count p.net + k) e more in
      let b : o < job_count p = node.1 in
      let n : ℕ = count_in p.width s.words o in
      let before : n ≡ owed (uses_in p) (owner_in p) (passed p (state_in p.width s.words) (set s.views id w)) o (job_count p) + one_if (eqb o o)
      = owed_less p (state_in p.width s.words) (word_in p.width s.words) (count_in p.width s.words) s.views r.1 id v at k e mine.0 mine.1 holds more o b in
      let x : ℕ = (n + (18446744073709551616 - 1)) % 18446744073709551616 in
      let less : x + 1 ≡ n = (let y = one o o refl in one_less n (omega arith) small) in
      let long : i < length s.words = (let l = inside (p.width + 2) o (job_count p) 1 b (omega arith) in subst (λ (z : ℕ). i < z) (sym r.0) l) in
      let now : count_in p.width (set s.words i x) o ≡ x = get_or-set_same s.words i x 0 long in (
        w,
        keeps,
        tt,
        (
          length-set s.words i x ∙ r.0,
          credit_keeps p (state_in p.width s.words) (state_in p.width (set s.words i x)) (word_in p.width s.words) (word_in p.width (set s.words i x)) (count_in p.width s.words) (count_in p.width (set s.words i x)) s.views r.1 id v at k e holds more wide
              (states_stay p.width s.words o 1 x i refl (omega arith) (omega arith)) (words_stay p.width s.words o 1 x i refl (omega arith) (omega arith))
              (ap (λ (z : ℕ). z + 1) now ∙ less) (count_else p.width s.words o 1 x i refl (omega arith)),
        ),
        λ p' j' e' is' holds' more' here. let same : holding k p.width e ≡ holding j' p'.width e' = (let z : Some (holding k p.width e) ≡ Some (holding j' p'.width e') = sym holds ∙ holds' in cc) in
            ap (λ (h : Held). (record v { held = Some (holding h.job h.filled (h.credited + 1)) }, me.1)) same,
      )

  -- of a view that the words leave as they are
  pub splits : (id : ℕ) (v : View) → v.plan ≡ Some p → v.held ≡ None → Splits (Lawful p) id v v (given v)
  splits id v is idle s r at = (
    r.0,
    let st = state_in p.width s.words in let wd = word_in p.width s.words in let ct = count_in p.width s.words in let kn = r.1.each id v at in record {
      states = r.1.states;
      present = r.1.present;
      each = λ i u e. ⊎_elim (λ t. ⊎_elim (λ m. subst (Knows p st wd ct) m.1 kn) (λ m. r.1.each i u m.1) (at_set s.views id i v u t))
          (λ t. subst (Knows p st wd ct) t (record { plan = inl is; known = kn.known; ran = λ j h. absurd (let n = h.1 in omega arith); held = tt; ready = kn.ready })) (at_snoc (set s.views id v) (given v) u i e);
      holders = λ j b. let a = total_append (λ u. holds_job j u.held) (set s.views id v) (given v ∷ []) in let t = total_set (λ u. holds_job j u.held) s.views id v v at in let o = r.1.holders j b in omega arith;
      runners = λ j b. let a = total_append (λ u. times j u.ran) (set s.views id v) (given v ∷ []) in let t = total_set (λ u. times j u.ran) s.views id v v at in let o = r.1.runners j b in omega arith;
      counts = λ j b. r.1.counts j b ∙ sym (same_owed (uses_in p) (owner_in p) (passed p st s.views) (passed p st (set s.views id v ++ given v ∷ [])) j (job_count p) (λ c l.
          let a = total_append (λ (u : View). credits c u.held) (set s.views id v) (given v ∷ []) in let t = total_set (λ (u : View). credits c u.held) s.views id v v at in
          let e : total (λ u. credits c u.held) (set s.views id v ++ given v ∷ []) ≡ total (λ u. credits c u.held) s.views = omega arith in λ i. cond (eqb (st c) 2) (length (uses_in p c)) (e i)));
    },
  )

  pub joins : (id : ℕ) (v : View) (other : ℕ) (u : View) → v.plan ≡ Some p → v.held ≡ None → u.held ≡ None → Joins (Lawful p) id v other u (both_of v u) spent
  joins id v other u is idle idle' s r at ne there = (
    r.0,
    let st = state_in p.width s.words in let wd = word_in p.width s.words in let ct = count_in p.width s.words in let kn = r.1.each id v at in let vs : List View = set s.views id (both_of v u) in
        let there' : get_elem? s.views other ≡ some u = ⊎_elim (λ t. absurd (ne t.0)) (λ t. t.1) (at_set s.views id other (both_of v u) u there) in
        let kn' = r.1.each other u there' in
        let new : Knows p st wd ct (both_of v u) = record {
          plan = inl is;
          known = λ j h. ⊎_elim (kn.known j) (kn'.known j) (Contains-append_cases v.known u.known j h);
          ran = λ j h. ⊎_elim (λ t. Contains-append_left v.known u.known j (kn.ran j t)) (λ t. Contains-append_right v.known u.known j (kn'.ran j t)) (Contains-append_cases v.ran u.ran j h);
          held = kn.held;
          ready = λ j h. ⊎_elim (kn.ready j) (kn'.ready j) (Contains-append_cases v.ready u.ready j h);
        } in
        let none : Knows p st wd ct spent = record { plan = inr refl; known = λ j h. absurd (let n = h.1 in omega arith); ran = λ j h. absurd (let n = h.1 in omega arith); held = tt; ready = λ j h. absurd (let n = h.1 in omega arith) } in record {
          states = r.1.states;
          present = r.1.present;
          each = λ i z e. ⊎_elim (λ t. subst (Knows p st wd ct) t.1 none) (λ t. ⊎_elim (λ m. subst (Knows p st wd ct) m.1 new) (λ m. r.1.each i z m.1) (at_set s.views id i (both_of v u) z t.1)) (at_set vs other i spent z e);
          holders = λ j b. let o = r.1.holders j b in let t = total_set (λ y. holds_job j y.held) s.views id v (both_of v u) at in let t' = total_set (λ y. holds_job j y.held) vs other u spent there in
              let e = ap (holds_job j) idle' in omega arith;
          runners = λ j b. let o = r.1.runners j b in let t = total_set (λ y. times j y.ran) s.views id v (both_of v u) at in let t' = total_set (λ y. times j y.ran) vs other u spent there in
              let a = total_append (λ y. one_if (eqb y j)) v.ran u.ran in omega arith;
          counts = λ j b. r.1.counts j b ∙ sym (same_owed (uses_in p) (owner_in p) (passed p st s.views) (passed p st (set vs other spent)) j (job_count p) (λ c l.
              let t = total_set (λ (y : View). credits c y.held) s.views id v (both_of v u) at in let t' = total_set (λ (y : View). credits c y.held) vs other u spent there in let z = ap (credits c) idle' in
              let e : total (λ y. credits c y.held) (set vs other spent) ≡ total (λ y. credits c y.held) s.views = omega arith in λ i. cond (eqb (st c) 2) (length (uses_in p c)) (e i)));
        },
  )

-- the same of a board, whose rule is that of its value, at a place that was computed
module _ (a b : BoardValue) (same : b ≡ a) where
  pub looks_at : (slots id : ℕ) (me : Me U View) (j i : ℕ) → i ≡ state_place a.plan.width j → me.0.plan ≡ Some a.plan → me.0.held ≡ None → j < job_count a.plan → Allows (Lawful b.plan) slots id me i (λ n. n) (looked (step slots i 0 0 none) me)
  looks_at slots id me j i here is idle l = subst (λ (z : ℕ × BoardValue). Allows (Lawful z.1.plan) slots id me z.0 (λ n. n) (looked (step slots z.0 0 0 none) me)) (λ k. (sym here k, sym same k)) (looks a.plan slots id me j is idle l)

  pub counts_load_at : (slots id : ℕ) (me : Me U View) (j i : ℕ) → i ≡ count_place a.plan.width j → me.0.plan ≡ Some a.plan → j < job_count a.plan → Allows (Lawful b.plan) slots id me i (λ n. n) (counted_load (step slots i 0 0 none) me)
  counts_load_at slots id me j i here is l = subst (λ (z : ℕ × BoardValue). Allows (Lawful z.1.plan) slots id me z.0 (λ n. n) (counted_load (step slots z.0 0 0 none) me)) (λ k. (sym here k, sym same k)) (counts_load a.plan slots id me j is l)

  pub reads_at : (slots id : ℕ) (me : Me U View) (j q i : ℕ) → i ≡ word_place a.plan.width j q → me.0.plan ≡ Some a.plan → j < job_count a.plan → MayRead a.plan me.0 j → q < a.plan.width → Allows (Lawful b.plan) slots id me i (λ n. n) (read_word (step slots i 0 0 none) me)
  reads_at slots id me j q i here is b may l = subst (λ (z : ℕ × BoardValue). Allows (Lawful z.1.plan) slots id me z.0 (λ n. n) (read_word (step slots z.0 0 0 none) me)) (λ k. (sym here k, sym same k)) (reads a.plan slots id me j q is b may l)

  pub claims_at : (slots id : ℕ) (me : Me U View) (k i : ℕ) → i ≡ state_place a.plan.width k → me.0.plan ≡ Some a.plan → me.0.held ≡ None → k < job_count a.plan → Contains me.0.ready k
      → Allows (Lawful b.plan) slots id me i (λ n. either (eqb n 0) 1 n) (claimed (step slots i 0 1 none) me)
  claims_at slots id me k i here is idle l ready = subst (λ (z : ℕ × BoardValue). Allows (Lawful z.1.plan) slots id me z.0 (λ n. either (eqb n 0) 1 n) (claimed (step slots z.0 0 1 none) me)) (λ k. (sym here k, sym same k)) (claims a.plan slots id me k is idle l ready)

  pub stores_at : (slots id : ℕ) (me : Me U View) (k q x i : ℕ) → i ≡ word_place a.plan.width k q → me.0.plan ≡ Some a.plan → me.0.held ≡ Some (holding k q 0) → q < a.plan.width → x ≡ get_or (cell a.plan k) q 0
      → Allows (Lawful b.plan) slots id me i (λ _. x) (λ _. stored (step slots i x 0 none) me x)
  stores_at slots id me k q x i here is holds l right = subst (λ (z : ℕ × BoardValue). Allows (Lawful z.1.plan) slots id me z.0 (λ _. x) (λ _. stored (step slots z.0 x 0 none) me x)) (λ k. (sym here k, sym same k)) (stores a.plan slots id me k q x is holds l right)

  pub publishes_at : (slots id : ℕ) (me : Me U View) (k i : ℕ) → i ≡ state_place a.plan.width k → me.0.plan ≡ Some a.plan → me.0.held ≡ Some (holding k a.plan.width (length (uses_in a.plan k))) → length (cell a.plan k) ≡ a.plan.width
      → Allows (Lawful b.plan) slots id me i (λ _. 2) (λ _. published (step slots i 2 0 none) me 2)
  publishes_at slots id me k i here is holds wide = subst (λ (z : ℕ × BoardValue). Allows (Lawful z.1.plan) slots id me z.0 (λ _. 2) (λ _. published (step slots z.0 2 0 none) me 2)) (λ k. (sym here k, sym same k)) (publishes a.plan slots id me k is holds wide)

  pub gives_back_at : (slots id : ℕ) (me : Me U View) (k i : ℕ) → i ≡ state_place a.plan.width k → me.0.plan ≡ Some a.plan → me.0.held ≡ Some (holding k 0 0)
      → Allows (Lawful b.plan) slots id me i (λ _. 0) (λ _. given_back (step slots i 0 0 none) me 0)
  gives_back_at slots id me k i here is holds = subst (λ (z : ℕ × BoardValue). Allows (Lawful z.1.plan) slots id me z.0 (λ _. 0) (λ _. given_back (step slots z.0 0 0 none) me 0)) (λ k. (sym here k, sym same k)) (gives_back a.plan slots id me k is holds)

  pub credits_at : (slots id : ℕ) (me : Me U View) (k e i : ℕ) → i ≡ count_place a.plan.width (owner_in a.plan (get_or (uses_in a.plan k) e 0)) → me.0.plan ≡ Some a.plan → me.0.held ≡ Some (holding k a.plan.width e)
      → e < length (uses_in a.plan k) → length (cell a.plan k) ≡ a.plan.width
      → Allows (Lawful b.plan) slots id me i (λ n. (n + (18446744073709551616 - 1)) % 18446744073709551616) (credited (step slots i 1 0 none) me)
  credits_at slots id me k e i here is holds more wide = subst (λ (z : ℕ × BoardValue). Allows (Lawful z.1.plan) slots id me z.0 (λ n. (n + (18446744073709551616 - 1)) % 18446744073709551616) (credited (step slots z.0 1 0 none) me)) (λ k. (sym here k, sym same k))
      (credits_node a.plan slots id me k e is holds more wide)
