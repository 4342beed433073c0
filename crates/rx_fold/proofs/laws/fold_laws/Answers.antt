use Rattle.rx_fold.proofs.laws.fold_laws.Goals as goal
use Rattle.rx_fold.specs.Folded.{folded}
use Rattle.rx_fold.proofs.Results.{folds}
use Rattle.rx_fold.proofs.Again.{has_reps, has_live, stays}

pub returns : goal.returns
returns c = record {
  reps = has_reps;
  live = has_live;
  folds = folds;
  stays = stays;
  once = λ net legal. let f = folds net legal in stays (folded net) f.legal f.folded;
}
