use Rattle.std.proofs.Common.{ap, ◌*◌, arith}
use Rattle.rx_boot.proofs.SeededKeys.{boot_body_size-few}
use Rattle.rx_boot.proofs.seeded.boot_body_words.Goals as goal

pub returns-clause-few : goal.returns-clause-few
returns-clause-few c =
    omega (arith, ap (λ k. k * c.args.p.now.poly_size) c.boot_rows.ensures.value, boot_body_size-few c.args.p.now c.requires)
