use Rattle.std.proofs.Common.{◌≡◌, ◌<◌, ℤ, length, None, sym, subst, rules}
use Rattle.std.proofs.lemmas.Int.{to_z-of_z}
use mir.Syntax.{w16}
use mir.Val.{SFits, to_z, of_z}
use Rattle.rx_net.specs.declared.net.Net.{Net}
use Rattle.rx_net.specs.Cells.{cell_count, degree, noise}
use Rattle.rx_net.specs.Legal.{JobFits}
use Rattle.rx_net.specs.Faults.{fault_of}
use Rattle.rx_net.specs.Pen.{with_job}
use Rattle.rx_net.proofs.Additions.{added_is, added_legal, added_adds, fits_fault}
use Rattle.rx_net.proofs.Named.{job_named}
use Rattle.rx_net.proofs.pen.NetPen.place.Goals as goal

pub invariant_of-self-2 : goal.invariant_of-self-2
invariant_of-self-2 c =
    let fits : SFits w16 c.args.constant = search rules in
    let same = to_z-of_z w16 c.args.constant fits in
    let own : JobFits c.self.inside.net.space (cell_count c.self.inside.net) (degree c.self.inside.net) (noise c.self.inside.net) c.args.terms.now c.args.constant c.args.table.now =
    subst (λ (net : Net). JobFits net.space (cell_count net) (degree net) (noise net) c.args.terms.now c.args.constant c.args.table.now) (sym c.self.view_is) c.requires.fits in
    let room : length c.self.inside.net.jobs < 65536 = subst (λ (net : Net). length net.jobs < 65536) (sym c.self.view_is) c.requires.room in
    let n : fault_of (with_job c.self.inside.net c.args.terms.now (to_z w16 (of_z w16 c.args.constant)) c.args.table.now) ≡ None =
    fits_fault c.self.inside.net c.args.terms.now (to_z w16 (of_z w16 c.args.constant)) c.args.table.now c.self.invariant.legal room c.requires.few
    (subst (λ (k : ℤ). JobFits c.self.inside.net.space (cell_count c.self.inside.net) (degree c.self.inside.net) (noise c.self.inside.net) c.args.terms.now k c.args.table.now) (sym same) own) in
    let k : ℤ = to_z w16 (of_z w16 c.args.constant) in
    let e = added_is c.self.inside.net c.args.terms.now k c.args.table.now c.known_degree-degree.result c.add_job.new.net c.in_ok-add_job.ensures.added c.known_degree-degree.ensures in
    let legal = added_legal c.self.inside.net c.args.terms.now k c.args.table.now c.known_degree-degree.result c.add_job.new.net c.in_ok-add_job.ensures.added c.known_degree-degree.ensures n in
    job_named c.self.inside.net c.args.terms.now k c.args.table.now c.add_job.new.net c.self.invariant e legal

pub returns-clause-adds : goal.returns-clause-adds
returns-clause-adds c =
    let fits : SFits w16 c.args.constant = search rules in
    let same = to_z-of_z w16 c.args.constant fits in
    let own : JobFits c.self.inside.net.space (cell_count c.self.inside.net) (degree c.self.inside.net) (noise c.self.inside.net) c.args.terms.now c.args.constant c.args.table.now =
    subst (λ (net : Net). JobFits net.space (cell_count net) (degree net) (noise net) c.args.terms.now c.args.constant c.args.table.now) (sym c.self.view_is) c.requires.fits in
    let room : length c.self.inside.net.jobs < 65536 = subst (λ (net : Net). length net.jobs < 65536) (sym c.self.view_is) c.requires.room in
    let n : fault_of (with_job c.self.inside.net c.args.terms.now (to_z w16 (of_z w16 c.args.constant)) c.args.table.now) ≡ None =
    fits_fault c.self.inside.net c.args.terms.now (to_z w16 (of_z w16 c.args.constant)) c.args.table.now c.self.invariant.legal room c.requires.few
    (subst (λ (k : ℤ). JobFits c.self.inside.net.space (cell_count c.self.inside.net) (degree c.self.inside.net) (noise c.self.inside.net) c.args.terms.now k c.args.table.now) (sym same) own) in
    added_adds c.self.inside.net c.args.terms.now (to_z w16 (of_z w16 c.args.constant)) c.args.table.now c.known_degree-degree.result c.add_job.new.net c.in_ok-add_job.ensures.added c.known_degree-degree.ensures n c.cell_count-cell.result c.cell_count-cell.ensures c.args.self.now c.self.view_is c.args.constant same
