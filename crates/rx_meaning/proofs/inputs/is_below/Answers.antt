use Rattle.std.proofs.Common.{ℕ, ◌-◌, ◌/◌, ◌^◌, leb, ◌∙◌, ap}
use Rattle.std.proofs.lemmas.Nat.{pow_pos}
use Rattle.rx_language.specs.Kinds.{bits_of}
use Rattle.rx_meaning.proofs.Shifts.{ones_are}
use Rattle.rx_meaning.proofs.Taken.{most_below}
use Rattle.rx_meaning.proofs.inputs.is_below.Goals as goal

pub returns : goal.returns
returns c =
    let bits : ℕ = bits_of c.args.kind in
    ap (leb c.args.number) (ap (λ k. (2 ^ 64 - 1) / 2 ^ (64 - k)) c.bits.ensures ∙ ones_are bits c.requires.few)
    ∙ most_below c.args.number (2 ^ bits) (pow_pos bits)
