-- What the counts say: an operand of a ready job has its words, and a job whose operands are known has the count 0.
use Rattle.std.proofs.Common.{◌≡◌, ℕ, ◌+◌, ◌<◌, ◌≤◌, ⊎_elim, Bool, cond, List, length, get_or, sym, ap, ◌∙◌, subst, arith, eq-eqb, ne_eqb}
use Rattle.std.specs.Prelude.{Option, Some, None}
use mathlib.Core.Logic.{dite}
use mathlib.Core.Option.{some}
use native.Mathlib.Decide.{ℕ_discrete}
use lib.ListN.{get_elem?}
use Rattle.rx_net.specs.declared.term.Term.{Term}
use Rattle.rx_uses.specs.Cells.{terms_at}
use Rattle.rx_uses.proofs.UsesLaw.{operand_node, node_operand}
use Rattle.rx_board.specs.declared.view.Plan.{Plan}
use Rattle.rx_board.specs.declared.view.Held.{Held}
use Rattle.rx_board.specs.declared.view.View.{View}
use Rattle.rx_board.specs.Rule.{input_count, credits, job_count, cell, uses_in, owner_in, passed, HasWords, HeldOk, Laws}
use Rattle.rx_board.specs.Steps.{IsReady, MayRead}
use Rattle.rx_board.proofs.Totals.{total_some}
use Rattle.rx_board.proofs.Counts.{all_credited, nothing_owed, all_passed, rest_not_owned}
use Rattle.rx_board.proofs.Keeps.{passed_part, passed_whole}

module _ (p : Plan) (st : ℕ → ℕ) (wd : ℕ → ℕ → ℕ) (ct : ℕ → ℕ) where
  -- who credited a node of c has all its words
  credited_full : (c : ℕ) (h : Option Held) → HeldOk p st wd ct h → 1 ≤ credits c h → (length (cell p c) ≡ p.width) × HasWords p st wd ct c p.width
  credited_full c None t l = absurd (omega arith)
  credited_full c (Some h) t l = dite (ℕ_discrete h.job c)
      (λ e. let n : credits c (Some h) ≡ h.credited = ap (λ (b : Bool). cond b h.credited 0) (eq-eqb h.job c e) in
      let full = t.5 (omega arith) in
      subst (λ (z : ℕ × ℕ). (length (cell p z.0) ≡ p.width) × HasWords p st wd ct z.0 z.1) (λ i. (e i, full.0 i)) (full.1, t.3))
      (λ ne. let n : credits c (Some h) ≡ 0 = ap (λ (b : Bool). cond b h.credited 0) (ne_eqb h.job c ne) in absurd (omega arith))

  module _ (views : List View) (l : Laws p st wd ct views) (i : ℕ) (v : View) (at : get_elem? views i ≡ some v) where
    pub may_read : (c : ℕ) → c < job_count p → MayRead p v c → (length (cell p c) ≡ p.width) × HasWords p st wd ct c p.width
    may_read c b may = ⊎_elim (λ h. let k = (l.each i v at).known c h in l.present c k.0 k.1)
        (λ t. let kn = (l.each i v at).ready t.0 t.2 in
        let n = operand_node p.net t.0 t.1 (input_count p.net + c) t.3.within t.3.names in
        let gone : ct t.0 ≡ 0 = kn.1 in
        let some = all_credited (uses_in p) (owner_in p) (passed p st views) t.0 (job_count p) c n.0 (sym (l.counts t.0 kn.0) ∙ gone) b n.1 n.2 in
        dite (ℕ_discrete (st c) 2) (λ e. l.present c b e) (λ ne. let part = passed_part p st views c ne in
        let who = total_some (λ (u : View). credits c u.held) views (omega arith) in
        credited_full c who.1.held (l.each who.0 who.1 who.2).held who.3)) may

    pub none_owed : (j : ℕ) → j < job_count p → IsReady p v j → ct j ≡ 0
    none_owed j b ready = l.counts j b ∙ nothing_owed (uses_in p) (owner_in p) (passed p st views) j (job_count p) (λ c s. dite (ℕ_discrete (st c) 2)
        (λ e. let w = passed_whole p st views c e in all_passed (uses_in p) (owner_in p) j (passed p st views c) (uses_in p c) (omega arith))
        (λ ne. rest_not_owned (uses_in p) (owner_in p) j (passed p st views c) (uses_in p c) (λ q lq own. let n = node_operand p.net (input_count p.net + c) q lq in
        let here : (k : ℕ) × (k < length (terms_at p.net.jobs j)) × ((d : Term) → (get_or (terms_at p.net.jobs j) k d).cell ≡ input_count p.net + c)
        = subst (λ (z : ℕ). (k : ℕ) × (k < length (terms_at p.net.jobs z)) × ((d : Term) → (get_or (terms_at p.net.jobs z) k d).cell ≡ input_count p.net + c)) own (n.0, n.2, n.3) in
        let known = (l.each i v at).known c (ready.all here.0 c (record { within = here.1; names = here.2 })) in
        ne known.1)))
