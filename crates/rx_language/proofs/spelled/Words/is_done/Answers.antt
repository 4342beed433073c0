use Rattle.rx_language.proofs.Loops.{none_left}
use Rattle.rx_language.proofs.spelled.Words.is_done.Goals as goal

pub returns : goal.returns
returns c = none_left c.self.inside.rest c.args.self.now c.is_none.result c.self.view_is c.is_none.ensures
