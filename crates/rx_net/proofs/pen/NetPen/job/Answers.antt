use Rattle.std.proofs.Common.{ℕ, ℤ, List, rules}
use Rattle.std.proofs.lemmas.Int.{to_z-of_z}
use mir.Syntax.{w16}
use mir.Val.{SFits, to_z, of_z}
use Rattle.rx_net.specs.declared.term.Term.{Term}
use Rattle.rx_net.specs.declared.net.Net.{Net}
use Rattle.rx_net.proofs.Additions.{added_is, added_legal, added_adds}
use Rattle.rx_net.proofs.Named.{job_named}
use Rattle.rx_net.proofs.pen.NetPen.job.Goals as goal

pub invariant_of-self-2 : goal.invariant_of-self-2
invariant_of-self-2 c =
    let net : Net = c.self.inside.net in
    let ts : List Term = c.args.terms.now in
    let k : ℤ = to_z w16 (of_z w16 c.args.constant) in
    let table : List ℕ = c.args.table.now in
    let d : ℕ = c.in_ok-degree.degree in
    let new : Net = c.add_job.new.net in
    let e = added_is net ts k table d new c.in_ok-add_job.ensures.added c.in_ok-degree.ensures.degree in
    let legal = added_legal net ts k table d new c.in_ok-add_job.ensures.added c.in_ok-degree.ensures.degree c.in_ok-degree.ensures.fault in
    job_named net ts k table new c.self.invariant e legal

pub returns-clause-adds : goal.returns-clause-adds
returns-clause-adds c =
    let fits : SFits w16 c.args.constant = search rules in
    added_adds c.self.inside.net c.args.terms.now (to_z w16 (of_z w16 c.args.constant)) c.args.table.now c.in_ok-degree.degree c.add_job.new.net c.in_ok-add_job.ensures.added c.in_ok-degree.ensures.degree c.in_ok-degree.ensures.fault c.cell_count-cell.result c.cell_count-cell.ensures c.args.self.now c.self.view_is c.args.constant (to_z-of_z w16 c.args.constant fits)
