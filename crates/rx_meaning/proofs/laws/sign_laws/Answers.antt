use Rattle.rx_meaning.proofs.Numbers.{sums, differences, products, opposites, shifts}
use Rattle.rx_meaning.proofs.laws.sign_laws.Goals as goal

pub returns : goal.returns
returns c = record { sums = sums; differences = differences; products = products; opposites = opposites; shifts = shifts }
