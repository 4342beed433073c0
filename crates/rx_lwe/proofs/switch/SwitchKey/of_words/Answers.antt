use Rattle.std.proofs.Common.{refl}
use Rattle.rx_params.specs.Derived.{large_dim}
use Rattle.rx_params.proofs.Sizes.{large_dim-high}
use Rattle.rx_lwe.proofs.switch.SwitchKey.of_words.Goals as goal

pub invariant_of-result : goal.invariant_of-result
unfolding large_dim
invariant_of-result c = record {
  big = large_dim-high c.args.p.now c.requires.fields;
  small = c.requires.fields.lwe_dim.1;
  base_low = c.requires.fields.ks_base_log.0;
  base_high = c.requires.fields.ks_base_log.1;
  levels_low = c.requires.fields.ks_level.0.0;
  levels_high = c.requires.fields.ks_level.0.1;
  digits = c.requires.fields.ks_level.1;
  count = c.requires.size;
}

pub returns : goal.returns
unfolding large_dim
returns c = refl
