-- One turn of the search for a job.
use Rattle.std.proofs.Common.{◌≡◌, ◌≢◌, ℕ, ◌+◌, ◌<◌, ◌≤◌, ◌⊎◌, inl, inr, ⊎_elim, List, [], ◌∷◌, ◌++◌, sym, refl, ap, ◌∙◌, subst, arith, below_more, append_assoc}
use Rattle.std.specs.Prelude.{Option, Some, None, Contains}
use Rattle.std.proofs.lemmas.List.Elements.{Contains-append_left, Contains-append_right}
use Rattle.rx_board.specs.declared.view.Step.TheVariants.{Ran, NotReady, Done, Refused}
use Rattle.rx_board.specs.declared.view.Plan.{Plan}
use Rattle.rx_board.specs.declared.view.View.{View}
use Rattle.rx_board.specs.declared.view.Seek.{Seek}
use Rattle.rx_board.specs.declared.view.Seek.TheVariants.{Won, Lost, AllPresent}
use Rattle.rx_board.specs.declared.view.Step.{Step}
use Rattle.rx_board.specs.declared.view.Trial.{Trial}
use Rattle.rx_board.specs.declared.view.Trial.TheVariants.{Present, Taken, Waiting, Claimed}
use Rattle.rx_board.specs.Rule.{job_count}
use Rattle.rx_board.specs.Steps.{published_at}
use Rattle.rx_board.specs.Tells.{Keeps, Told, Grows, MetSince, IsBlocked, Tried, Sought, Seen, first_taken}
use Rattle.rx_board.proofs.Views.{alone_job, grows_on, ends_earlier, met_later, met_earlier, blocked_later}

pub record Searched (p : Plan) (u v : View) (n : ℕ) (taken : Option ℕ) : Type 0 where
  pub grows : Grows u v
  pub seen : Seen p u v n
  pub none : taken ≡ None → (k : ℕ) → k < n → Contains v.known k
  pub some : (k : ℕ) → taken ≡ Some k → (k < job_count p) × MetSince u v k 1

module _ (p : Plan) (u v w : View) (n : ℕ) (due : n < job_count p) (more : Grows v w) where
  older : Seen p u v n → (k : ℕ) → k < n → Contains w.known k ⊎ IsBlocked p u w k
  older seen k l = ⊎_elim (λ h. inl (more.known k h)) (λ b. inr (blocked_later p u v w k b more)) (seen k l)

  seen_more : Seen p u v n → Contains w.known n ⊎ IsBlocked p u w n → Seen p u w (n + 1)
  seen_more seen last = below_more (λ k. Contains w.known k ⊎ IsBlocked p u w k) n (older seen) last

  some_more : (k : ℕ) → (k < job_count p) × MetSince u v k 1 → (k < job_count p) × MetSince u w k 1
  some_more k t = (t.0, met_later u v w k 1 t.1 more)

  pub searched_more : (taken : Option ℕ) → Searched p u v n taken → (t : Trial) → t ≢ Claimed → Tried p v w n t → Searched p u w (n + 1) (first_taken taken n t)
  searched_more (Some c) s Present not told = record {
    grows = grows_on u v w s.grows more;
    seen = seen_more s.seen (inl told.1);
    none = λ e. absurd (let z : Some c ≡ None = e in cc);
    some = λ k e. some_more k (s.some k e);
  }
  searched_more (Some c) s Taken not told = record {
    grows = grows_on u v w s.grows more;
    seen = seen_more s.seen (inr (inl (met_earlier u v w n 1 s.grows told.1)));
    none = λ e. absurd (let z : Some c ≡ None = e in cc);
    some = λ k e. some_more k (s.some k e);
  }
  searched_more (Some c) s Waiting not told = record {
    grows = grows_on u v w s.grows more;
    seen = let t = told.1.1 in seen_more s.seen (inr (inr (t.operand, t.state, told.1.0, t.is, t.not_present, met_earlier u v w t.operand t.state s.grows t.met)));
    none = λ e. absurd (let z : Some c ≡ None = e in cc);
    some = λ k e. some_more k (s.some k e);
  }
  searched_more None s Present not told = record {
    grows = grows_on u v w s.grows more;
    seen = seen_more s.seen (inl told.1);
    none = λ e. below_more (Contains w.known) n (λ k l. more.known k (s.none refl k l)) told.1;
    some = λ k e. absurd (let z : None ≡ Some k = e in cc);
  }
  searched_more None s Taken not told = record {
    grows = grows_on u v w s.grows more;
    seen = seen_more s.seen (inr (inl (met_earlier u v w n 1 s.grows told.1)));
    none = λ e. absurd (let z : Some n ≡ None = e in cc);
    some = λ k e. let z : Some n ≡ Some k = e in let same : n ≡ k = cc in subst (λ (j : ℕ). (j < job_count p) × MetSince u w j 1) same (due, met_earlier u v w n 1 s.grows told.1);
  }
  searched_more None s Waiting not told = let t = told.1.1 in absurd (t.not_present (t.unknown (s.none refl t.operand t.earlier)))
  searched_more (Some c) s Claimed not told = absurd (not refl)
  searched_more None s Claimed not told = absurd (not refl)

pub tried_idle : (p : Plan) (v w : View) (j : ℕ) (t : Trial) → t ≢ Claimed → Tried p v w j t → w.held ≡ None
tried_idle p v w j Present not told = told.0
tried_idle p v w j Taken not told = told.0
tried_idle p v w j Waiting not told = told.0
tried_idle p v w j Claimed not told = absurd (not refl)

pub published_keeps : (u v m : View) (j : ℕ) → Grows u v → m ≡ published_at v j → Keeps u m
published_keeps u v m j g e = subst (Keeps u) (sym e) record { plan = g.plan; known = λ i h. Contains-append_left v.known (j ∷ []) i (g.known i h); ready = g.ready; met = g.met }

pub published_told : (p : Plan) (u v m : View) (j : ℕ) → Grows u v → m ≡ published_at v j → j < job_count p → (Contains u.ran j → ⊥) → Contains v.ready j → Told p u m (Ran j)
published_told p u v m j g e l new due = (l, ap (λ (z : View). z.ran) e ∙ ap (λ xs. xs ++ j ∷ []) g.ran, new, subst (λ (z : View). Contains z.known j) (sym e) (Contains-append_right v.known (j ∷ []) j (alone_job j)), subst (λ (z : View). Contains z.ready j) (sym e) due)

pub lost_told : (p : Plan) (u v w : View) (j : ℕ) → j < job_count p → Grows u v → MetSince u v j 1 → Seen p u v (job_count p) → Grows v w → ((k : ℕ) × (k < job_count p) × (Contains w.known k → ⊥)) → Told p u w (NotReady j)
lost_told p u v w j few g met seen more one = (few, more.ran ∙ g.ran, met_later u v w j 1 met more, λ k l. ⊎_elim (λ h. inl (more.known k h)) (λ b. inr (blocked_later p u v w k b more)) (seen k l), one)

-- a search that found a job taken, and none to take
pub lost_found : (p : Plan) (u w : View) (n j : ℕ) (taken : Option ℕ) → Searched p u w n taken → taken ≡ Some j → w.held ≡ None → job_count p ≤ n → Sought p u w (Lost j)
lost_found p u w n j taken s e idle all = let t = s.some j e in (t.0, idle, t.1, λ k l. s.seen k (omega (arith, all, l)))

-- what a search finds after others, which found no job to take
pub won_later : (p : Plan) (u v w : View) (j : ℕ) → Grows u v → Tried p v w j Claimed → j < job_count p → Sought p u w (Won j)
won_later p u v w j g t l = (l, t.0, t.1, (λ h. t.2 (subst (λ (xs : List ℕ). Contains xs j) (sym g.ran) h)), ends_earlier u v w j 0 g t.3, t.4)

-- a job that was given back
pub back_keeps : (u v m : View) → Grows u v → m ≡ (record v { held = None }) → Keeps u m
back_keeps u v m g e = subst (Keeps u) (sym e) record { plan = g.plan; known = g.known; ready = g.ready; met = g.met }

pub back_told : (p : Plan) (u v m : View) (j : ℕ) → Grows u v → Sought p u v (Won j) → m ≡ (record v { held = None }) → Told p u m (Refused j)
back_told p u v m j g s e = (
  s.0,
  ap (λ (z : View). z.ran) e ∙ g.ran,
  (let d = s.4 in record { more = d.more; is = ap (λ (z : View). z.met) e ∙ d.is }),
  (λ h. s.5 (subst (λ (z : View). Contains z.known j) e h)),
  subst (λ (z : View). Contains z.ready j) (sym e) s.2,
)

-- what is told since v is told since an earlier u
module _ (p : Plan) (u v w : View) (g : Grows u v) where
  since : (k : ℕ) → Contains w.known k ⊎ IsBlocked p v w k → Contains w.known k ⊎ IsBlocked p u w k
  since k t = ⊎_elim (λ h. inl h) (λ b. inr (⊎_elim (λ m. inl (met_earlier u v w k 1 g m)) (λ o. inr (o.0, o.1, o.2, o.3, o.4, met_earlier u v w o.0 o.1 g o.5)) b)) t

  pub sought_later : (s : Seek) → Sought p v w s → Sought p u w s
  sought_later (Won j) t = (t.0, t.1, t.2, (λ h. t.3 (subst (λ (xs : List ℕ). Contains xs j) (sym g.ran) h)), ends_earlier u v w j 0 g t.4, t.5)
  sought_later (Lost j) t = (t.0, t.1, met_earlier u v w j 1 g t.2, λ k l. since k (t.3 k l))
  sought_later AllPresent t = t

  pub told_later : (s : Step) → Told p v w s → Told p u w s
  told_later (Ran j) t = (t.0, t.1 ∙ ap (λ xs. xs ++ j ∷ []) g.ran, (λ h. t.2 (subst (λ (xs : List ℕ). Contains xs j) (sym g.ran) h)), t.3, t.4)
  told_later (NotReady j) t = (t.0, t.1 ∙ g.ran, met_earlier u v w j 1 g t.2, (λ k l. since k (t.3 k l)), t.4)
  told_later Done t = (t.0 ∙ g.ran, t.1)
  told_later (Refused j) t = (t.0, t.1 ∙ g.ran, ends_earlier u v w j 0 g t.2, t.3, t.4)

  pub keeps_later : Keeps v w → Keeps u w
  keeps_later k = record {
    plan = k.plan ∙ g.plan;
    known = λ j h. k.known j (g.known j h);
    ready = λ j h. k.ready j (g.ready j h);
    met = (g.met.0 ++ k.met.0, k.met.1 ∙ (ap (λ xs. xs ++ k.met.0) g.met.1 ∙ append_assoc u.met g.met.0 k.met.0));
  }
