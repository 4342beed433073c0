use Rattle.std.proofs.Common.{length, ap, ◌∙◌}
use Rattle.rx_params.specs.declared.rotation.Rotation.TheVariants.{Bits}
use Rattle.rx_boot.specs.BootKeys.{key_rows}
use Rattle.rx_boot.proofs.Sizes.{some_coefficients}
use Rattle.rx_boot.proofs.RowWords.{key_rows-length}
use Rattle.rx_boot.proofs.boot_key.BootKey.make.Goals as goal

pub returns-clause-words : goal.returns-clause-words
returns-clause-words c =
    c.from_vec.ensures ∙ c.in_ok-words.ensures
    ∙ ap (λ bits. key_rows Bits c.args.p.now bits c.args.large.now c.args.mask_seed.now c.args.noise_seed.now) c.bits-bits.ensures.value

pub returns-clause-size : goal.returns-clause-size
returns-clause-size c =
    ap length (returns-clause-words c)
    ∙ key_rows-length Bits c.args.p.now c.args.small.now c.args.large.now c.args.mask_seed.now c.args.noise_seed.now
    (some_coefficients c.args.p.now c.requires.fields)
