use Rattle.std.proofs.Common.{arith}
use Rattle.rx_laws.proofs.Digits.{digits_once}
use Rattle.rx_laws.proofs.DigitValue.{IsDigits-digit}
use Rattle.rx_laws.proofs.digit_laws.Goals as goal

pub returns : goal.returns
returns c = record {
  one = λ w base_log levels ds es low high. digits_once w base_log levels ds es low (omega arith);
  computed = λ w base_log levels ds low high count each. IsDigits-digit w base_log levels low high ds count each;
}
