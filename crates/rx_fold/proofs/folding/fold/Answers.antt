use Rattle.std.proofs.Common.{◌≡◌, List, map, sym, subst, rules}
use Rattle.rx_net.specs.declared.net.Job.{Job}
use Rattle.rx_net.specs.declared.net.NetOutput.{NetOutput}
use Rattle.rx_net.specs.declared.net.Net.{Net}
use Rattle.rx_net.specs.Legal.{Legal}
use Rattle.rx_fold.specs.Jobs.{moved_output}
use Rattle.rx_fold.specs.Folded.{anew, folded_jobs, folded}
use Rattle.rx_fold.proofs.Results.{folds}
use Rattle.rx_fold.proofs.folding.fold.Goals as goal

is_folded : (net : Net) (jobs : List Job) (outputs : List NetOutput) → jobs ≡ folded_jobs net → outputs ≡ map (moved_output (anew net)) net.outputs
    → (let x : Net = record { space = net.space; inputs = net.inputs; jobs = jobs; outputs = outputs } in x) ≡ folded net
unfolding folded
is_folded net jobs outputs e f = λ i. record { space = net.space; inputs = net.inputs; jobs = e i; outputs = f i }

pub returns-clause-folded : goal.returns-clause-folded
returns-clause-folded c =
    let j : c.from_vec.result ≡ folded_jobs c.args.net = search rules in
    let o : c.from_vec-2.result ≡ map (moved_output (anew c.args.net)) c.args.net.outputs = search rules in
    is_folded c.args.net c.from_vec.result c.from_vec-2.result j o

pub returns-clause-legal : goal.returns-clause-legal
returns-clause-legal c =
    let j : c.from_vec.result ≡ folded_jobs c.args.net = search rules in
    let o : c.from_vec-2.result ≡ map (moved_output (anew c.args.net)) c.args.net.outputs = search rules in
    subst Legal (sym (is_folded c.args.net c.from_vec.result c.from_vec-2.result j o)) (folds c.args.net c.requires).legal
