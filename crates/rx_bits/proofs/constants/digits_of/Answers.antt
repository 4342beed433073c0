use Rattle.std.proofs.Common.{◌%◌, refl, ◌∙◌}
use Rattle.rx_bits.proofs.ToldDigits.{told_more}
use Rattle.rx_bits.proofs.constants.digits_of.Goals as goal

pub loop-preserved : goal.loop-preserved
loop-preserved c =
    let l = c.loop in
    rw c.in_ok-push.ensures.items (told_more c.args.space c.args.number l.counter l.digits.items l.rest (l.rest % c.from-unit.result) c.from-unit.result (c.from-unit.ensures ∙ c.unit_of.ensures.value) refl l.invariant)
