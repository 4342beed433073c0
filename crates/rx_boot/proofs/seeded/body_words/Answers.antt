use Rattle.std.proofs.Common.{arith}
use Rattle.rx_boot.proofs.SeededKeys.{body_size-few}
use Rattle.rx_boot.proofs.seeded.body_words.Goals as goal

pub returns-clause-few : goal.returns-clause-few
returns-clause-few c =
    omega (arith, c.boot_body_words.ensures.value, c.switch_rows.ensures.value, body_size-few c.args.p.now c.requires)
