use Rattle.std.proofs.Common.{◌-◌, ◌/◌, ◌^◌, ◌∙◌, ap}
use Rattle.rx_language.specs.Kinds.{bits_of}
use Rattle.rx_meaning.proofs.Shifts.{ones_are}
use Rattle.rx_meaning.proofs.operations.all_ones.Goals as goal

pub returns : goal.returns
returns c = ap (λ k. (2 ^ 64 - 1) / 2 ^ (64 - k)) c.bits.ensures ∙ ones_are (bits_of c.args.kind) c.requires.few
