use Rattle.std.proofs.Common.{◌∙◌}
use Rattle.rx_client.proofs.Encrypted.{values_fit, values_keep, values_spelled, values_drawn}
use Rattle.rx_client.proofs.LineDigits.{values_kept}
use Rattle.rx_client.proofs.encrypt.encrypt_values.Goals as goal

pub returns-clause-file : goal.returns-clause-file
returns-clause-file c = record {
  seed = c.in_ok-file.ensures.seed;
  fits = values_fit c.args.p.now c.args.key.now c.args.mask_seed.now c.args.noise_seed.now c.args.lines.now
      c.requires.accepted c.requires.key c.requires.values c.requires.widths;
  drawn = values_drawn c.args.p.now c.args.key.now c.args.mask_seed.now c.args.noise_seed.now c.args.lines.now c.requires.key;
  spelled = values_spelled c.args.p.now c.args.key.now c.args.mask_seed.now c.args.noise_seed.now c.args.lines.now _ _
      c.in_ok-file.ensures.file (c.finish.ensures ∙ c.in_ok-write_items.ensures);
}

pub returns-clause-keeps : goal.returns-clause-keeps
returns-clause-keeps c =
    values_keep c.args.p.now c.args.key.now c.args.mask_seed.now c.args.noise_seed.now c.args.lines.now
    c.requires.accepted.fields c.requires.values

pub returns-clause-kept : goal.returns-clause-kept
returns-clause-kept c =
    values_kept c.args.p.now c.args.key.now c.args.mask_seed.now c.args.noise_seed.now c.args.lines.now
    c.requires.accepted.fields c.requires.values
