use Rattle.rx_board.proofs.Literal.{all_meant}
use Rattle.rx_board.proofs.meaning.laws_mean.Goals as goal

pub returns : goal.returns
returns c = all_meant
