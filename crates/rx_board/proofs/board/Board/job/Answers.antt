use Rattle.std.proofs.Common.{rules, ◌≡◌, ◌<◌, ◌≤◌, ◌+◌, ◌^◌, List, sym, ap, ◌∙◌, subst, length, get_or}
use Rattle.rx_net.specs.declared.net.Net.{Net}
use Rattle.rx_net.specs.declared.net.Job.{Job}
use Rattle.rx_net.specs.declared.term.Term.{Term}
use Rattle.rx_net.specs.Cells.{operand_words}
use Rattle.rx_net.specs.Legal.{Legal}
use Rattle.rx_uses.specs.Cells.{IsJobAt, terms_at}
use Rattle.rx_uses.proofs.CellsLaw.{cell_is}
use Rattle.rx_uses.proofs.Legality.{lawful, job_at}
use Rattle.rx_board.specs.Rule.{BoardValue, input_count, cell}
use Rattle.rx_board.proofs.board.Board.job.Goals as goal

pub returns-clause-is : goal.returns-clause-is
returns-clause-is g c = let n = c.self.inside.net.now in let x : Job = c.index-as_slice-job.result in
    let e : n ≡ c.args.self.now.plan.net = sym c.self.invariant.0 ∙ ap (λ (b : BoardValue). b.plan.net) c.self.view_is in
    let within : c.args.job < length n.jobs = subst (λ (m : Net). c.args.job < length m.jobs) (sym e) c.requires in
    let read : x ≡ get_or n.jobs c.args.job x = search rules in
    subst (λ (m : Net). terms_at m.jobs c.args.job ≡ x.terms) e (job_at n.jobs c.args.job x within read).0

pub returns-clause-words : goal.returns-clause-words
returns-clause-words g c = let n = c.self.inside.net.now in let x : Job = c.index-as_slice-job.result in let k = c.self.inside.table.shared.key in
    let e : n ≡ c.args.self.now.plan.net = sym c.self.invariant.0 ∙ ap (λ (b : BoardValue). b.plan.net) c.self.view_is in
    let within : c.args.job < length n.jobs = subst (λ (m : Net). c.args.job < length m.jobs) (sym e) c.requires in
    let read : x ≡ get_or n.jobs c.args.job x = search rules in
    let back : n ≡ k.net.now = sym c.self.invariant.0 in
    subst (λ (b : BoardValue). cell b.plan c.args.job ≡ g.K.JobWords.words_of b.basis x (operand_words b.plan.cells x.terms)) c.self.view_is
    (cell_is g.K.JobWords.words_of (g.K.Kernel.basis k.kernel.value) k.net.now k.width k.inputs.now c.args.job x
    (subst Legal back c.self.invariant.4.legal)
    (subst (λ (m : Net). c.args.job < length m.jobs) back within)
    (subst (λ (m : Net). IsJobAt m.jobs c.args.job x) back (job_at n.jobs c.args.job x within read)))

pub returns-clause-few : goal.returns-clause-few
returns-clause-few g c = let n = c.self.inside.net.now in let x : Job = c.index-as_slice-job.result in
    let e : n ≡ c.args.self.now.plan.net = sym c.self.invariant.0 ∙ ap (λ (b : BoardValue). b.plan.net) c.self.view_is in
    let within : c.args.job < length n.jobs = subst (λ (m : Net). c.args.job < length m.jobs) (sym e) c.requires in
    let read : x ≡ get_or n.jobs c.args.job x = search rules in
    subst (λ (ts : List Term). length ts ≤ 16) (job_at n.jobs c.args.job x within read).0 ((lawful n c.self.invariant.4.legal).few c.args.job within)

pub returns-clause-table : goal.returns-clause-table
returns-clause-table g c = let n = c.self.inside.net.now in let x : Job = c.index-as_slice-job.result in
    let e : n ≡ c.args.self.now.plan.net = sym c.self.invariant.0 ∙ ap (λ (b : BoardValue). b.plan.net) c.self.view_is in
    let within : c.args.job < length n.jobs = subst (λ (m : Net). c.args.job < length m.jobs) (sym e) c.requires in
    let read : x ≡ get_or n.jobs c.args.job x = search rules in
    ap length (sym (job_at n.jobs c.args.job x within read).2) ∙ ((lawful n c.self.invariant.4.legal).tables c.args.job within ∙ ap (λ (m : Net). 4 ^ m.space) e)

pub returns-clause-forward : goal.returns-clause-forward
returns-clause-forward g c = let n = c.self.inside.net.now in let x : Job = c.index-as_slice-job.result in
    let e : n ≡ c.args.self.now.plan.net = sym c.self.invariant.0 ∙ ap (λ (b : BoardValue). b.plan.net) c.self.view_is in
    let within : c.args.job < length n.jobs = subst (λ (m : Net). c.args.job < length m.jobs) (sym e) c.requires in
    let read : x ≡ get_or n.jobs c.args.job x = search rules in
    let terms = (job_at n.jobs c.args.job x within read).0 in
    λ k d l. subst (λ (m : Net). (get_or x.terms k d).cell < input_count m + c.args.job) e
    (subst (λ (ts : List Term). (get_or ts k d).cell < input_count n + c.args.job) terms
    ((lawful n c.self.invariant.4.legal).forward c.args.job k d within (subst (λ (ts : List Term). k < length ts) (sym terms) l)))
