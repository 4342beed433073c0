-- Each step keeps the laws of the board: over states, words and views alone, apart from atomic steps.
use Rattle.std.proofs.Common.{◌≡◌, ◌≢◌, ℕ, ◌+◌, ◌<◌, ◌≤◌, inl, ⊎_elim, Bool, cond, eqb, List, length, get_or, set, sym, refl, ap, ◌∙◌, subst, arith, eq-eqb, ne_eqb}
use Rattle.std.specs.Prelude.{Option, Some, None}
use mathlib.Core.Logic.{dite}
use mathlib.Core.Option.{some}
use native.Mathlib.Decide.{ℕ_discrete}
use lib.ListN.{get_elem?}
use Rattle.atomic_table.proofs.Lists.{at_set}
use Rattle.rx_board.specs.declared.view.Plan.{Plan}
use Rattle.rx_board.specs.declared.view.Held.{Held}
use Rattle.rx_board.specs.declared.view.View.{View}
use Rattle.rx_board.specs.Rule.{one_if, total, times, holding, holds_job, credits, job_count, cell, uses_in, owner_in, owed, passed, HasWords, HeldOk, Knows, Laws}
use Rattle.rx_board.proofs.Totals.{one, no, total_set, total_at, total_two, credits_own, credits_else, sole_credits}
use Rattle.rx_board.proofs.Counts.{same_owed, credited}

module _ (p : Plan) where
  pub passed_part : (st : ℕ → ℕ) (views : List View) (c : ℕ) → st c ≢ 2 → passed p st views c ≡ total (λ v. credits c v.held) views
  passed_part st views c ne = ap (λ (b : Bool). cond b (length (uses_in p c)) (total (λ v. credits c v.held) views)) (ne_eqb (st c) 2 ne)

  pub passed_whole : (st : ℕ → ℕ) (views : List View) (c : ℕ) → st c ≡ 2 → passed p st views c ≡ length (uses_in p c)
  passed_whole st views c e = ap (λ (b : Bool). cond b (length (uses_in p c)) (total (λ v. credits c v.held) views)) (eq-eqb (st c) 2 e)

  -- as many nodes of c are credited, where its state is the same and the own view credited as many
  pub pass_same : (st st' : ℕ → ℕ) (views : List View) (i : ℕ) (v w : View) → get_elem? views i ≡ some v → (c : ℕ) → st' c ≡ st c → credits c w.held ≡ credits c v.held → passed p st' (set views i w) c ≡ passed p st views c
  pass_same st st' views i v w at c same own = let t = total_set (λ (u : View). credits c u.held) views i v w at in
      let e : total (λ u. credits c u.held) (set views i w) ≡ total (λ u. credits c u.held) views = omega arith in
      λ k. cond (eqb (same k) 2) (length (uses_in p c)) (e k)

  pub pass_states : (st st' : ℕ → ℕ) (views : List View) (c : ℕ) → st' c ≡ st c → passed p st' views c ≡ passed p st views c
  pass_states st st' views c same = λ k. cond (eqb (same k) 2) (length (uses_in p c)) (total (λ v. credits c v.held) views)

  -- and where its state becomes another one that is not 2
  pub pass_kept : (st st' : ℕ → ℕ) (views : List View) (i : ℕ) (v w : View) → get_elem? views i ≡ some v → (k : ℕ) → st k ≢ 2 → st' k ≢ 2 → ((j : ℕ) → j ≢ k → st' j ≡ st j)
      → ((c : ℕ) → credits c w.held ≡ credits c v.held) → (c : ℕ) → passed p st' (set views i w) c ≡ passed p st views c
  pass_kept st st' views i v w at k a b off own c = dite (ℕ_discrete c k)
      (λ e. let a' : st c ≢ 2 = subst (λ (z : ℕ). st z ≢ 2) (sym e) a in let b' : st' c ≢ 2 = subst (λ (z : ℕ). st' z ≢ 2) (sym e) b in
      let t = total_set (λ (u : View). credits c u.held) views i v w at in let o = own c in
      let s : total (λ u. credits c u.held) (set views i w) ≡ total (λ u. credits c u.held) views = omega arith in
      passed_part st' (set views i w) c b' ∙ (s ∙ sym (passed_part st views c a')))
      (λ ne. pass_same st st' views i v w at c (off c ne) (own c))

  -- a publish: all nodes of k were credited by the view that held it
  pub pass_published : (st st' : ℕ → ℕ) (views : List View) (i : ℕ) (v w : View) → get_elem? views i ≡ some v → (k : ℕ) → st k ≢ 2 → st' k ≡ 2 → ((j : ℕ) → j ≢ k → st' j ≡ st j)
      → total (λ u. holds_job k u.held) views ≡ 1 → holds_job k v.held ≡ 1 → credits k v.held ≡ length (uses_in p k)
      → ((c : ℕ) → c ≢ k → credits c w.held ≡ credits c v.held) → (c : ℕ) → passed p st' (set views i w) c ≡ passed p st views c
  pass_published st st' views i v w at k a b off all own whole else c = dite (ℕ_discrete c k)
      (λ e. subst (λ (z : ℕ). passed p st' (set views i w) z ≡ passed p st views z) (sym e)
      (passed_whole st' (set views i w) k b ∙ (sym whole ∙ (sym (sole_credits k views i v at all own) ∙ sym (passed_part st views k a)))))
      (λ ne. pass_same st st' views i v w at c (off c ne) (else c ne))

  held_keeps : (st st' : ℕ → ℕ) (wd wd' : ℕ → ℕ → ℕ) (ct ct' : ℕ → ℕ) (k : ℕ) → ((j : ℕ) → j ≢ k → st' j ≡ st j) → ((j q : ℕ) → j ≢ k → q < p.width → wd' j q ≡ wd j q)
      → (h : Option Held) → holds_job k h ≡ 0 → HeldOk p st wd ct h → HeldOk p st' wd' ct' h
  held_keeps st st' wd wd' ct ct' k off offw None f t = tt
  held_keeps st st' wd wd' ct ct' k off offw (Some h) f t = let ne : h.job ≢ k = λ e. (let o = one h.job k e in omega arith) in
      let short = t.2 in
      (t.0, off h.job ne ∙ t.1, t.2, λ q l. offw h.job q ne (omega arith) ∙ t.3 q l, t.4, t.5)

  -- who does not hold k, whose state was not 2, knows as much after k has changed
  keeps_knowing : (st st' : ℕ → ℕ) (wd wd' : ℕ → ℕ → ℕ) (ct ct' : ℕ → ℕ) (k : ℕ) → st k ≢ 2 → ((j : ℕ) → j ≢ k → st' j ≡ st j) → ((j q : ℕ) → j ≢ k → q < p.width → wd' j q ≡ wd j q)
      → ((j : ℕ) → ct' j ≡ ct j) → (v : View) → holds_job k v.held ≡ 0 → Knows p st wd ct v → Knows p st' wd' ct' v
  keeps_knowing st st' wd wd' ct ct' k not off offw offc v free kn = record {
    plan = kn.plan;
    known = λ j h. let t = kn.known j h in (t.0, off j (λ e. not (subst (λ (z : ℕ). st z ≡ 2) e t.1)) ∙ t.1);
    ran = kn.ran;
    held = held_keeps st st' wd wd' ct ct' k off offw v.held free kn.held;
    ready = λ j h. let t = kn.ready j h in (t.0, offc j ∙ t.1);
  }

  -- a step that changes no word
  pub quiet : (st : ℕ → ℕ) (wd : ℕ → ℕ → ℕ) (ct : ℕ → ℕ) (views : List View) → Laws p st wd ct views → (i : ℕ) (v w : View) → get_elem? views i ≡ some v → Knows p st wd ct w → w.held ≡ v.held → w.ran ≡ v.ran
      → Laws p st wd ct (set views i w)
  quiet st wd ct views l i v w at mine held ran = record {
    states = l.states;
    present = l.present;
    each = λ i' v' e. ⊎_elim (λ t. subst (λ (z : View). Knows p st wd ct z) t.1 mine) (λ t. l.each i' v' t.1) (at_set views i i' w v' e);
    holders = λ j b. let t = total_set (λ u. holds_job j u.held) views i v w at in let e = ap (holds_job j) held in let o = l.holders j b in omega arith;
    runners = λ j b. let t = total_set (λ u. times j u.ran) views i v w at in let e = ap (times j) ran in let o = l.runners j b in omega arith;
    counts = λ j b. l.counts j b ∙ sym (same_owed (uses_in p) (owner_in p) (passed p st views) (passed p st (set views i w)) j (job_count p) (λ c s. pass_same st st views i v w at c refl (ap (credits c) held)));
  }

  -- a step that changes the job k, which is free, or taken by the own view
  pub moves : (st st' : ℕ → ℕ) (wd wd' : ℕ → ℕ → ℕ) (ct ct' : ℕ → ℕ) (views : List View) → Laws p st wd ct views → (i : ℕ) (v w : View) → get_elem? views i ≡ some v → (k : ℕ) → k < job_count p → st k ≢ 2
      → holds_job k v.held ≡ one_if (eqb (st k) 1) → ((j : ℕ) → j ≢ k → st' j ≡ st j) → ((j q : ℕ) → j ≢ k → q < p.width → wd' j q ≡ wd j q)
      → ((j : ℕ) → ct' j ≡ ct j) → ((c : ℕ) → passed p st' (set views i w) c ≡ passed p st views c)
      → st' k ≤ 2 → (st' k ≡ 2 → (length (cell p k) ≡ p.width) × HasWords p st' wd' ct' k p.width) → Knows p st' wd' ct' w
      → ((j : ℕ) → j ≢ k → holds_job j w.held ≡ holds_job j v.held) → holds_job k w.held ≡ one_if (eqb (st' k) 1)
      → ((j : ℕ) → j ≢ k → times j w.ran ≡ times j v.ran) → (times k v.ran ≡ 0 → times k w.ran ≡ one_if (eqb (st' k) 2))
      → Laws p st' wd' ct' (set views i w)
  moves st st' wd wd' ct ct' views l i v w at k in_net not own off offw offc pass small full mine holds_off holds_k ran_off ran_k =
      let all = l.holders k in_net in
      let never : total (λ u. times k u.ran) views ≡ 0 = l.runners k in_net ∙ no (st k) 2 not in
      let mine_never : times k v.ran ≡ 0 = (let t = total_at (λ u. times k u.ran) views i v at in omega arith) in
      let ran_now = ran_k mine_never in
      record {
        states = λ j b. dite (ℕ_discrete j k) (λ e. subst (λ (z : ℕ). st' z ≤ 2) (sym e) small) (λ ne. subst (λ (z : ℕ). z ≤ 2) (sym (off j ne)) (l.states j b));
        present = λ j b. dite (ℕ_discrete j k)
            (λ e. subst (λ (z : ℕ). st' z ≡ 2 → (length (cell p z) ≡ p.width) × HasWords p st' wd' ct' z p.width) (sym e) full)
            (λ ne is. let t = l.present j b (sym (off j ne) ∙ is) in (t.0, λ q s. offw j q ne s ∙ t.1 q s));
        each = λ i' v' e. ⊎_elim (λ t. subst (λ (z : View). Knows p st' wd' ct' z) t.1 mine)
            (λ t. let two = total_two (λ u. holds_job k u.held) views i i' v v' (λ q. t.0 (sym q)) at t.1 in
            keeps_knowing st st' wd wd' ct ct' k not off offw offc v' (omega arith) (l.each i' v' t.1))
            (at_set views i i' w v' e);
        holders = λ j b. dite (ℕ_discrete j k)
            (λ e. subst (λ (z : ℕ). total (λ u. holds_job z u.held) (set views i w) ≡ one_if (eqb (st' z) 1)) (sym e)
            (let t = total_set (λ u. holds_job k u.held) views i v w at in omega arith))
            (λ ne. let t = total_set (λ u. holds_job j u.held) views i v w at in let h = holds_off j ne in let o = l.holders j b in
            subst (λ (z : ℕ). total (λ u. holds_job j u.held) (set views i w) ≡ one_if (eqb z 1)) (sym (off j ne)) (omega arith));
        runners = λ j b. dite (ℕ_discrete j k)
            (λ e. subst (λ (z : ℕ). total (λ u. times z u.ran) (set views i w) ≡ one_if (eqb (st' z) 2)) (sym e)
            (let t = total_set (λ u. times k u.ran) views i v w at in omega arith))
            (λ ne. let t = total_set (λ u. times j u.ran) views i v w at in let h = ran_off j ne in let o = l.runners j b in
            subst (λ (z : ℕ). total (λ u. times j u.ran) (set views i w) ≡ one_if (eqb z 2)) (sym (off j ne)) (omega arith));
        counts = λ j b. offc j ∙ (l.counts j b ∙ sym (same_owed (uses_in p) (owner_in p) (passed p st views) (passed p st' (set views i w)) j (job_count p) (λ c s. pass c)));
      }

  -- a credit: the counts before it, by the nodes credited after it
  pub owed_less : (st : ℕ → ℕ) (wd : ℕ → ℕ → ℕ) (ct : ℕ → ℕ) (views : List View) → Laws p st wd ct views → (i : ℕ) (v : View) → get_elem? views i ≡ some v
      → (k e : ℕ) → k < job_count p → st k ≡ 1 → v.held ≡ Some (holding k p.width e) → e < length (uses_in p k)
      → (j : ℕ) → j < job_count p → ct j ≡ owed (uses_in p) (owner_in p) (passed p st (set views i (record v { held = Some (holding k p.width (e + 1)) }))) j (job_count p) + one_if (eqb (owner_in p (get_or (uses_in p k) e 0)) j)
  owed_less st wd ct views l i v at k e b taken holds more j bj = let w : View = record v { held = Some (holding k p.width (e + 1)) } in
      let own : holds_job k v.held ≡ 1 = ap (holds_job k) holds ∙ one k k refl in
      let all : total (λ u. holds_job k u.held) views ≡ 1 = l.holders k b ∙ one (st k) 1 taken in
      let mine : credits k v.held ≡ e = ap (credits k) holds ∙ credits_own k p.width e in
      let sole = sole_credits k views i v at all own in
      let not : st k ≢ 2 = (λ z. omega arith) in
      let now : passed p st views k ≡ e = passed_part st views k not ∙ (sole ∙ mine) in
      let after : credits k w.held ≡ e + 1 = credits_own k p.width (e + 1) in
      let t = total_set (λ (u : View). credits k u.held) views i v w at in
      let next : passed p st (set views i w) k ≡ passed p st views k + 1 = (let a = passed_part st (set views i w) k not in omega arith) in
      let c = credited (uses_in p) (owner_in p) (passed p st views) (passed p st (set views i w)) j (job_count p) k b (omega arith) next
      (λ c ne. pass_same st st views i v w at c refl (credits_else k p.width (e + 1) c ne ∙ sym (ap (credits c) holds ∙ credits_else k p.width e c ne))) in
      l.counts j bj ∙ (c ∙ ap (λ (z : ℕ). owed (uses_in p) (owner_in p) (passed p st (set views i w)) j (job_count p) + one_if (eqb (owner_in p (get_or (uses_in p k) z 0)) j)) now)

  still_held : (st st' : ℕ → ℕ) (wd wd' : ℕ → ℕ → ℕ) (ct ct' : ℕ → ℕ) → ((j : ℕ) → st' j ≡ st j) → ((j q : ℕ) → q < p.width → wd' j q ≡ wd j q) → (h : Option Held) → HeldOk p st wd ct h → HeldOk p st' wd' ct' h
  still_held st st' wd wd' ct ct' off offw None t = tt
  still_held st st' wd wd' ct ct' off offw (Some h) t = let short = t.2 in (t.0, off h.job ∙ t.1, t.2, λ q l. offw h.job q (omega arith) ∙ t.3 q l, t.4, t.5)

  -- after a credit to o each view knows as much
  still_knows : (st st' : ℕ → ℕ) (wd wd' : ℕ → ℕ → ℕ) (ct ct' : ℕ → ℕ) → ((j : ℕ) → st' j ≡ st j) → ((j q : ℕ) → q < p.width → wd' j q ≡ wd j q) → (o : ℕ) → ct' o + 1 ≡ ct o → ((j : ℕ) → j ≢ o → ct' j ≡ ct j)
      → (v : View) → Knows p st wd ct v → Knows p st' wd' ct' v
  still_knows st st' wd wd' ct ct' off offw o less offc v kn = record {
    plan = kn.plan;
    known = λ j h. let t = kn.known j h in (t.0, off j ∙ t.1);
    ran = kn.ran;
    held = still_held st st' wd wd' ct ct' off offw v.held kn.held;
    ready = λ j h. let t = kn.ready j h in (t.0, dite (ℕ_discrete j o) (λ e. let z : ct o ≡ 0 = ap ct (sym e) ∙ t.1 in absurd (omega arith)) (λ ne. offc j ne ∙ t.1));
  }

  -- a credit
  pub credit_keeps : (st st' : ℕ → ℕ) (wd wd' : ℕ → ℕ → ℕ) (ct ct' : ℕ → ℕ) (views : List View) → Laws p st wd ct views → (i : ℕ) (v : View) → get_elem? views i ≡ some v → (k e : ℕ)
      → v.held ≡ Some (holding k p.width e) → e < length (uses_in p k) → length (cell p k) ≡ p.width
      → ((j : ℕ) → st' j ≡ st j) → ((j q : ℕ) → q < p.width → wd' j q ≡ wd j q)
      → ct' (owner_in p (get_or (uses_in p k) e 0)) + 1 ≡ ct (owner_in p (get_or (uses_in p k) e 0)) → ((j : ℕ) → j ≢ owner_in p (get_or (uses_in p k) e 0) → ct' j ≡ ct j)
      → Laws p st' wd' ct' (set views i (record v { held = Some (holding k p.width (e + 1)) }))
  credit_keeps st st' wd wd' ct ct' views l i v at k e holds more wide off offw less offc = let o : ℕ = owner_in p (get_or (uses_in p k) e 0) in
      let w : View = record v { held = Some (holding k p.width (e + 1)) } in
      let kn = l.each i v at in let mine : HeldOk p st wd ct (Some (holding k p.width e)) = subst (HeldOk p st wd ct) holds kn.held in
      let kn' = still_knows st st' wd wd' ct ct' off offw o less offc v kn in
      let new : Knows p st' wd' ct' w = record {
        plan = ⊎_elim (λ t. inl t) (λ t. absurd (let z : None ≡ Some (holding k p.width e) = sym (ap (λ (u : View). u.held) t) ∙ holds in cc)) kn.plan;
        known = kn'.known;
        ran = kn'.ran;
        held = (mine.0, off k ∙ mine.1, mine.2, λ q s. offw k q s ∙ mine.3 q s, omega arith, λ _. (refl, wide));
        ready = kn'.ready;
      } in record {
        states = λ j b. subst (λ (z : ℕ). z ≤ 2) (sym (off j)) (l.states j b);
        present = λ j b is. let t = l.present j b (sym (off j) ∙ is) in (t.0, λ q s. offw j q s ∙ t.1 q s);
        each = λ i' v' a. ⊎_elim (λ t. subst (λ (z : View). Knows p st' wd' ct' z) t.1 new) (λ t. still_knows st st' wd wd' ct ct' off offw o less offc v' (l.each i' v' t.1)) (at_set views i i' w v' a);
        holders = λ j b. let t = total_set (λ u. holds_job j u.held) views i v w at in let s = ap (holds_job j) holds in let h = l.holders j b in
            subst (λ (z : ℕ). total (λ u. holds_job j u.held) (set views i w) ≡ one_if (eqb z 1)) (sym (off j)) (omega arith);
        runners = λ j b. let t = total_set (λ u. times j u.ran) views i v w at in let h = l.runners j b in
            subst (λ (z : ℕ). total (λ u. times j u.ran) (set views i w) ≡ one_if (eqb z 2)) (sym (off j)) (omega arith);
        counts = λ j b. let was = owed_less st wd ct views l i v at k e mine.0 mine.1 holds more j b in
            let same = same_owed (uses_in p) (owner_in p) (passed p st (set views i w)) (passed p st' (set views i w)) j (job_count p) (λ c s. pass_states st st' (set views i w) c (off c)) in
            dite (ℕ_discrete j o)
            (λ q. let x = one o j (sym q) in let n : ct' j + 1 ≡ ct j = subst (λ (z : ℕ). ct' z + 1 ≡ ct z) (sym q) less in omega arith)
            (λ ne. let x = no o j (λ q. ne (sym q)) in let n = offc j ne in omega arith);
      }
