use Rattle.rx_plan.proofs.PerBlock.{table_here}
use Rattle.rx_mul.proofs.PairRows.{low_entry, high_entry}
use Rattle.rx_mul.proofs.products.products.Goals as goal

pub pair_rows-requires-clause-low : goal.pair_rows-requires-clause-low
pair_rows-requires-clause-low c = table_here low_entry c.space-space.result c.args.pen.now.space c.in_ok-low.low.items c.deref.result.now c.space-space.ensures.value c.deref.ensures.value c.in_ok-low.ensures

pub pair_rows-requires-clause-high : goal.pair_rows-requires-clause-high
pair_rows-requires-clause-high c = table_here high_entry c.space-space.result c.args.pen.now.space c.in_ok-high.high.items c.deref-2.result.now c.space-space.ensures.value c.deref-2.ensures.value c.in_ok-high.ensures
