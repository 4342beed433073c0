use Rattle.rx_net.proofs.Numbers.{number_of-digits, digits_of-number, number-below, digits-small}
use Rattle.rx_net.proofs.laws.number_laws.Goals as goal

pub returns : goal.returns
returns c = record {
  number_of_digits = number_of-digits;
  digits_of_number = digits_of-number;
  below = number-below;
  small = digits-small;
}
