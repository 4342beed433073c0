use Rattle.std.proofs.Common.{◌≡◌, ◌/◌, ◌∙◌, refl}
use Rattle.rx_laws.specs.Decode.{unit}
use Rattle.rx_params.proofs.Rotations.{bounds_by-from}
use Rattle.rx_params.proofs.Sizes.{half_unit}
use Rattle.rx_params.proofs.bounds.sums.Goals as goal

pub returns : goal.returns
returns c =
    let half : c.two_to-2.result ≡ unit c.args.p.now.message_bits / 2 =
    c.two_to-2.ensures.value ∙ half_unit c.args.p.now.message_bits c.requires.message_bits in
    rw (bounds_by-from c.args.rotation c.args.p.now, ← c.turn_count.ensures.value, c.max-base.ensures, c.from-2.ensures, c.noise_limit.ensures.value, c.two_to.ensures.value, half, c.from.ensures, c.step-step.ensures.value, c.switch-switch.ensures.value, c.round-round.ensures.value) refl
