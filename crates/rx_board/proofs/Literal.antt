-- The laws in words of single views: what the totals say.
use Rattle.std.proofs.Common.{◌≡◌, ◌≢◌, ℕ, zero, suc, ◌<◌, ◌≤◌, ◌⊎◌, inl, inr, Bool, cond, eqb, ne_eqb, List, [], ◌∷◌, length, get_or, refl, ap, ◌∙◌, subst, arith, eq-eqb}
use Rattle.std.specs.Prelude.{Option, Some, None, Contains}
use mathlib.Core.Logic.{dite}
use mathlib.Core.Option.{some}
use native.Mathlib.Decide.{ℕ_discrete}
use lib.ListN.{get_elem?}
use Rattle.rx_board.specs.declared.view.Held.{Held}
use Rattle.rx_board.specs.declared.view.Plan.{Plan}
use Rattle.rx_board.specs.declared.view.View.{View}
use Rattle.rx_board.specs.Meaning.{LawsMean}
use Rattle.rx_board.specs.Rule.{one_if, total, times, holding, holds_job, credits, uses_in, passed, job_count, HeldOk, Laws}
use Rattle.rx_board.proofs.Totals.{one, no, total_at, total_two, total_some, credits_own, sole_credits}
use Rattle.rx_board.proofs.Keeps.{passed_part}

holds_one : (j : ℕ) (h : Option Held) → 1 ≤ holds_job j h → (q : ℕ) × (e : ℕ) × (h ≡ Some (holding j q e))
holds_one j None l = absurd (omega arith)
holds_one j (Some h) l = dite (ℕ_discrete h.job j) (λ e. (h.filled, h.credited, ap (λ (z : ℕ). Some (holding z h.filled h.credited)) e)) (λ ne. let z = no h.job j ne in absurd (omega arith))

times_in : (j : ℕ) (xs : List ℕ) → 1 ≤ times j xs → Contains xs j
times_in j [] l = absurd (omega arith)
times_in j (x ∷ xs) l = dite (ℕ_discrete x j) (λ e. (0, omega arith, e)) (λ ne. let z = no x j ne in let t = times_in j xs (omega arith) in (suc t.0, (let m = t.1 in omega arith), t.2))

in_times : (j k : ℕ) (xs : List ℕ) → k < length xs → get_or xs k j ≡ j → 1 ≤ times j xs
in_times j k [] l e = absurd (omega arith)
in_times j zero (x ∷ xs) l e = let o = one x j e in omega arith
in_times j (suc k) (x ∷ xs) l e = let h = in_times j k xs (omega arith) e in omega arith

credits_one : (j : ℕ) (h : Option Held) → 1 ≤ credits j h → (q : ℕ) × (e : ℕ) × (h ≡ Some (holding j q e))
credits_one j None l = absurd (omega arith)
credits_one j (Some h) l = dite (ℕ_discrete h.job j) (λ e. (h.filled, h.credited, ap (λ (z : ℕ). Some (holding z h.filled h.credited)) e))
    (λ ne. let z : credits j (Some h) ≡ 0 = ap (λ (b : Bool). cond b h.credited 0) (ne_eqb h.job j ne) in absurd (omega arith))

module _ (p : Plan) (st : ℕ → ℕ) (wd : ℕ → ℕ → ℕ) (ct : ℕ → ℕ) (views : List View) (l : Laws p st wd ct views) (j : ℕ) (in_net : j < job_count p) where
  -- a taken job is held by some view
  pub taken_is_held : st j ≡ 1 → (i : ℕ) × (v : View) × (q : ℕ) × (e : ℕ) × (get_elem? views i ≡ some v) × (v.held ≡ Some (holding j q e))
  taken_is_held e = let t = total_some (λ v. holds_job j v.held) views (let h = l.holders j in_net in let o = one (st j) 1 e in omega arith) in
      let h = holds_one j t.1.held t.3 in (t.0, t.1, h.0, h.1, t.2, h.2)

  -- and by no second one
  pub held_alone : (i k : ℕ) (v w : View) (q e r f : ℕ) → get_elem? views i ≡ some v → get_elem? views k ≡ some w → v.held ≡ Some (holding j q e) → w.held ≡ Some (holding j r f) → i ≡ k
  held_alone i k v w q e r f a b hv hw = dite (ℕ_discrete i k) (λ e. e) (λ ne. let two = total_two (λ v. holds_job j v.held) views i k v w ne a b in
      let x = ap (holds_job j) hv ∙ one j j refl in let y = ap (holds_job j) hw ∙ one j j refl in let h = l.holders j in_net in
      absurd (dite (ℕ_discrete (st j) 1) (λ e. let o = one (st j) 1 e in omega arith) (λ n. let o = no (st j) 1 n in omega arith)))

  -- a present job stands in some list of jobs run
  pub present_was_run : st j ≡ 2 → (i : ℕ) × (v : View) × (get_elem? views i ≡ some v) × Contains v.ran j
  present_was_run e = let t = total_some (λ v. times j v.ran) views (let h = l.runners j in_net in let o = one (st j) 2 e in omega arith) in (t.0, t.1, t.2, times_in j t.1.ran t.3)

  -- once in that list, and in no other view's
  pub run_once : (i : ℕ) (v : View) → get_elem? views i ≡ some v → Contains v.ran j → times j v.ran ≡ 1
  run_once i v a has = let some = in_times j has.0 v.ran has.1 has.2 in let at = total_at (λ v. times j v.ran) views i v a in let h = l.runners j in_net in
      dite (ℕ_discrete (st j) 2) (λ e. let o = one (st j) 2 e in omega arith) (λ n. let o = no (st j) 2 n in omega arith)

  pub run_by_one : (i k : ℕ) (v w : View) → get_elem? views i ≡ some v → get_elem? views k ≡ some w → Contains v.ran j → Contains w.ran j → i ≡ k
  run_by_one i k v w a b hv hw = dite (ℕ_discrete i k) (λ e. e) (λ ne. let two = total_two (λ v. times j v.ran) views i k v w ne a b in
      let x = in_times j hv.0 v.ran hv.1 hv.2 in let y = in_times j hw.0 w.ran hw.1 hw.2 in let h = l.runners j in_net in
      absurd (dite (ℕ_discrete (st j) 2) (λ e. let o = one (st j) 2 e in omega arith) (λ n. let o = no (st j) 2 n in omega arith)))

  -- a credited node is one of a present job's cell, or one that the view which holds the job with all words has passed
  pub node_credited : (k : ℕ) → k < passed p st views j → (st j ≡ 2) ⊎ ((i : ℕ) × (v : View) × (e : ℕ) × (get_elem? views i ≡ some v) × (v.held ≡ Some (holding j p.width e)) × (k < e))
  node_credited k b = dite (ℕ_discrete (st j) 2) (λ e. inl e) (λ ne. let part = passed_part p st views j ne in
      let who = total_some (λ (u : View). credits j u.held) views (omega arith) in let h = credits_one j who.1.held who.3 in
      let holds = ap (holds_job j) h.2 ∙ one j j refl in let at = total_at (λ (u : View). holds_job j u.held) views who.0 who.1 who.2 in let all = l.holders j in_net in
      let taken : one_if (eqb (st j) 1) ≡ 1 = dite (ℕ_discrete (st j) 1) (λ e. one (st j) 1 e) (λ n. let z = no (st j) 1 n in absurd (omega arith)) in
      let sole = sole_credits j views who.0 who.1 who.2 (all ∙ taken) holds in
      let own : credits j who.1.held ≡ h.1 = ap (credits j) h.2 ∙ credits_own j h.0 h.1 in
      let ok : HeldOk p st wd ct (Some (holding j h.0 h.1)) = subst (HeldOk p st wd ct) h.2 (l.each who.0 who.1 who.2).held in
      let full = ok.5 (omega arith) in
      inr (who.0, who.1, h.1, who.2, h.2 ∙ ap (λ (q : ℕ). Some (holding j q h.1)) full.0, omega arith))

  -- and each such node is credited
  pub passed_node : (k i : ℕ) (v : View) (q e : ℕ) → get_elem? views i ≡ some v → v.held ≡ Some (holding j q e) → k < e → k < passed p st views j
  passed_node k i v q e a h b = let ok : HeldOk p st wd ct (Some (holding j q e)) = subst (HeldOk p st wd ct) h (l.each i v a).held in
      let ne : st j ≢ 2 = (λ z. let t = ok.1 in omega arith) in let part = passed_part p st views j ne in
      let at = total_at (λ (u : View). credits j u.held) views i v a in let own : credits j v.held ≡ e = ap (credits j) h ∙ credits_own j q e in omega arith

pub all_meant : LawsMean
all_meant p st wd ct views l = let job : (i : ℕ) (v : View) (j : ℕ) → get_elem? views i ≡ some v → Contains v.ran j → j < job_count p = λ i v j a h. let kn = l.each i v a in (kn.known j (kn.ran j h)).0 in
    let held_job : (i : ℕ) (v : View) (j q e : ℕ) → get_elem? views i ≡ some v → v.held ≡ Some (holding j q e) → HeldOk p st wd ct (Some (holding j q e)) = λ i v j q e a h. subst (HeldOk p st wd ct) h (l.each i v a).held in record {
      states = l.states;
      plans = λ i v a. (l.each i v a).plan;
      present = l.present;
      known = λ i v j a h. ((l.each i v a).known j h).1;
      held = λ i v j q e a h. let ok = held_job i v j q e a h in (ok.1, ok.2, ok.3, ok.4);
      held_alone = λ i k v w j q e r f a b h g. held_alone p st wd ct views l j (held_job i v j q e a h).0 i k v w q e r f a b h g;
      taken_held = λ j b t. taken_is_held p st wd ct views l j b t;
      ran = λ i v j a h. let kn = l.each i v a in let b = job i v j a h in ((kn.known j (kn.ran j h)).1, kn.ran j h, run_once p st wd ct views l j b i v a h);
      ran_alone = λ i k v w j a b h g. run_by_one p st wd ct views l j (job i v j a h) i k v w a b h g;
      present_ran = λ j b t. present_was_run p st wd ct views l j b t;
      credited = λ j b k m. node_credited p st wd ct views l j b k m;
      present_credited = λ j b e. ap (λ (x : Bool). cond x (length (uses_in p j)) (total (λ v. credits j v.held) views)) (eq-eqb (st j) 2 e);
      passed_credited = λ j b k i v q e a h m. passed_node p st wd ct views l j b k i v q e a h m;
      counts = l.counts;
      ready = λ i v j a h. ((l.each i v a).ready j h).1;
    }
