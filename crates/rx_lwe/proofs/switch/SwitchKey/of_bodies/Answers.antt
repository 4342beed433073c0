use Rattle.std.proofs.Common.{◌∙◌, ap, length}
use Rattle.rx_lwe.proofs.SeededSwitch.{seeded_switch-length}
use Rattle.rx_lwe.proofs.switch.SwitchKey.of_bodies.Goals as goal

pub of_words-requires-clause-size : goal.of_words-requires-clause-size
of_words-requires-clause-size c =
    ap length (c.from_vec.ensures ∙ c.in_ok-words.ensures)
    ∙ seeded_switch-length c.args.p.now c.args.mask_seed.now c.args.bodies.now c.requires.size
