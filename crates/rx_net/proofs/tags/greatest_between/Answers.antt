use Rattle.std.proofs.Common.{add-one, slice_range, ap, ◌∙◌}
use Rattle.rx_net.specs.Tags.{greatest_of, greatest_between}
use Rattle.rx_net.proofs.tags.greatest_between.Goals as goal

pub returns : goal.returns
unfolding greatest_between
returns c = c.greatest_of.ensures ∙ ap (λ n. greatest_of (slice_range c.args.table.now c.args.low n)) (add-one c.args.high)
