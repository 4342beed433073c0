-- How a view grows.
use Rattle.std.proofs.Common.{◌≡◌, ◌≢◌, ℕ, ◌+◌, ◌<◌, ◌≤◌, inl, inr, ⊎_elim, Bool, cond, List, [], ◌∷◌, ◌++◌, length, sym, refl, ap, ◌∙◌, subst, arith, append_assoc, append-nil, get_or, ◌-◌, eq-eqb, ne_eqb}
use Rattle.std.specs.Prelude.{Contains, Some}
use Rattle.std.proofs.lemmas.List.{get_or_read}
use Rattle.std.proofs.lemmas.List.Elements.{Contains-append_left, Contains-append_right}
use mathlib.Core.Logic.{dite}
use native.Mathlib.Decide.{ℕ_discrete}
use Rattle.rx_net.specs.declared.term.Term.{Term}
use Rattle.rx_board.specs.declared.view.Plan.{Plan}
use Rattle.rx_board.specs.declared.view.Found.{Found}
use Rattle.rx_board.specs.declared.view.View.{View}
use Rattle.rx_uses.specs.Cells.{terms_at}
use Rattle.rx_board.specs.Rule.{input_count, IsOperandAt, holding}
use Rattle.rx_board.specs.Steps.{found_at, counted_at, claimed_at}
use Rattle.rx_board.specs.Tells.{WaitsFor, Grows, MetSince, EndsWith, IsBlocked}

pub grows_on : (u v w : View) → Grows u v → Grows v w → Grows u w
grows_on u v w a b = record {
  plan = b.plan ∙ a.plan;
  ran = b.ran ∙ a.ran;
  known = λ j h. b.known j (a.known j h);
  ready = λ j h. b.ready j (a.ready j h);
  met = (a.met.0 ++ b.met.0, b.met.1 ∙ (ap (λ xs. xs ++ b.met.0) a.met.1 ∙ append_assoc u.met a.met.0 b.met.0));
}

pub alone : (x : Found) → Contains (x ∷ []) x
alone x = (0, omega arith, refl)

pub alone_job : (j : ℕ) → Contains (j ∷ []) j
alone_job j = (0, omega arith, refl)

pub found_knows : (v : View) (j r k : ℕ) → Contains v.known k → Contains (found_at v j r).known k
found_knows v j r k h = dite (ℕ_discrete r 2)
    (λ e. subst (λ (c : Bool). Contains (cond c (v.known ++ j ∷ []) v.known) k) (sym (eq-eqb r 2 e)) (Contains-append_left v.known (j ∷ []) k h))
    (λ e. subst (λ (c : Bool). Contains (cond c (v.known ++ j ∷ []) v.known) k) (sym (ne_eqb r 2 e)) h)

pub found_grows : (v : View) (j r : ℕ) → Grows v (found_at v j r)
found_grows v j r = record { plan = refl; ran = refl; known = found_knows v j r; ready = λ i h. h; met = (record { job = j; state = r } ∷ [], refl) }

pub found_met : (v : View) (j r : ℕ) → MetSince v (found_at v j r) j r
found_met v j r = record { more = record { job = j; state = r } ∷ []; is = refl; has = alone record { job = j; state = r } }

pub found_present : (v : View) (j r : ℕ) → r ≡ 2 → Contains (found_at v j r).known j
found_present v j r e = subst (λ (z : ℕ). Contains (found_at v j z).known j) (sym e) (Contains-append_right v.known (j ∷ []) j (alone_job j))

pub claimed_grows : (v : View) (j r : ℕ) → Grows v (claimed_at v j r)
claimed_grows v j r = record { plan = refl; ran = refl; known = found_knows v j r; ready = λ i h. h; met = (record { job = j; state = r } ∷ [], refl) }

pub claimed_met : (v : View) (j r : ℕ) → MetSince v (claimed_at v j r) j r
claimed_met v j r = record { more = record { job = j; state = r } ∷ []; is = refl; has = alone record { job = j; state = r } }

pub claimed_present : (v : View) (j r : ℕ) → r ≡ 2 → Contains (claimed_at v j r).known j
claimed_present v j r e = found_present v j r e

pub claimed_held : (v : View) (j r : ℕ) → r ≡ 0 → (claimed_at v j r).held ≡ Some (holding j 0 0)
claimed_held v j r e = ap (λ z. (claimed_at v j z).held) e

pub claimed_missed : (v : View) (j r : ℕ) → r ≢ 0 → (claimed_at v j r).held ≡ v.held
claimed_missed v j r ne = ap (λ (c : Bool). cond c (Some (holding j 0 0)) v.held) (ne_eqb r 0 ne)

pub met_later : (u v w : View) (j r : ℕ) → MetSince u v j r → Grows v w → MetSince u w j r
met_later u v w j r m g = record { more = m.more ++ g.met.0; is = g.met.1 ∙ (ap (λ xs. xs ++ g.met.0) m.is ∙ append_assoc u.met m.more g.met.0); has = Contains-append_left m.more g.met.0 record { job = j; state = r } m.has }

pub met_earlier : (u v w : View) (j r : ℕ) → Grows u v → MetSince v w j r → MetSince u w j r
met_earlier u v w j r g m = record { more = g.met.0 ++ m.more; is = m.is ∙ (ap (λ xs. xs ++ m.more) g.met.1 ∙ append_assoc u.met g.met.0 m.more); has = Contains-append_right g.met.0 m.more record { job = j; state = r } m.has }

pub blocked_later : (p : Plan) (u v w : View) (j : ℕ) → IsBlocked p u v j → Grows v w → IsBlocked p u w j
blocked_later p u v w j b g = ⊎_elim (λ m. inl (met_later u v w j 1 m g)) (λ t. inr (t.0, t.1, t.2, t.3, t.4, met_later u v w t.0 t.1 t.5 g)) b

pub waits_earlier : (p : Plan) (u v w : View) (j k : ℕ) → Grows u v → WaitsFor p v w j k → WaitsFor p u w j k
waits_earlier p u v w j k g t = record { operand = t.operand; state = t.state; is = t.is; not_present = t.not_present; met = met_earlier u v w t.operand t.state g t.met; unknown = λ h. t.unknown (g.known t.operand h); earlier = t.earlier }

pub found_absent : (v : View) (j r : ℕ) → r ≢ 2 → (found_at v j r).known ≡ v.known
found_absent v j r ne = ap (λ (c : Bool). cond c (v.known ++ j ∷ []) v.known) (ne_eqb r 2 ne)

pub operand_at : (p : Plan) (j k n : ℕ) (ts : List Term) (t : Term) → terms_at p.net.jobs j ≡ ts → k < length ts → t ≡ get_or ts k t → n ≡ input_count p.net → n ≤ t.cell → IsOperandAt p j k (t.cell - n)
operand_at p j k n ts t same l here inputs le = record {
  within = subst (λ (zs : List Term). k < length zs) (sym same) l;
  names = λ d. ap (λ (zs : List Term). (get_or zs k d).cell) same ∙ (ap (λ (z : Term). z.cell) (sym (get_or_read ts k t l here d)) ∙ (let e : t.cell ≡ input_count p.net + (t.cell - n) = omega arith in e));
}

counted_readies : (v : View) (j r k : ℕ) → Contains v.ready k → Contains (counted_at v j r).ready k
counted_readies v j r k h = dite (ℕ_discrete r 0)
    (λ e. subst (λ (c : Bool). Contains (cond c (v.ready ++ j ∷ []) v.ready) k) (sym (eq-eqb r 0 e)) (Contains-append_left v.ready (j ∷ []) k h))
    (λ e. subst (λ (c : Bool). Contains (cond c (v.ready ++ j ∷ []) v.ready) k) (sym (ne_eqb r 0 e)) h)

pub counted_grows : (v : View) (j r : ℕ) → Grows v (counted_at v j r)
counted_grows v j r = record { plan = refl; ran = refl; known = λ i h. h; ready = counted_readies v j r; met = ([], sym (append-nil v.met)) }

pub counted_ready : (v : View) (j r : ℕ) → r ≡ 0 → Contains (counted_at v j r).ready j
counted_ready v j r e = subst (λ (z : ℕ). Contains (counted_at v j z).ready j) (sym e) (Contains-append_right v.ready (j ∷ []) j (alone_job j))

pub claimed_ends : (v : View) (j r : ℕ) → EndsWith v (claimed_at v j r) j r
claimed_ends v j r = record { more = []; is = refl }

pub ends_earlier : (u v w : View) (j r : ℕ) → Grows u v → EndsWith v w j r → EndsWith u w j r
ends_earlier u v w j r g m = record {
  more = g.met.0 ++ m.more;
  is = m.is ∙ (ap (λ xs. xs ++ (m.more ++ record { job = j; state = r } ∷ [])) g.met.1
      ∙ (append_assoc u.met g.met.0 (m.more ++ record { job = j; state = r } ∷ []) ∙ ap (λ xs. u.met ++ xs) (sym (append_assoc g.met.0 m.more (record { job = j; state = r } ∷ [])))));
}
