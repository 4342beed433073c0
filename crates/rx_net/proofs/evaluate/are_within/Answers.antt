use Rattle.std.proofs.Common.{ap, arith}
use Rattle.rx_net.specs.Cells.{input_cells}
use Rattle.rx_net.proofs.Limits.{few_input_cells}
use Rattle.rx_net.proofs.evaluate.are_within.Goals as goal

pub input_cells-requires-clause-few : goal.input_cells-requires-clause-few
input_cells-requires-clause-few c = let e = ap (input_cells c.args.net.now.space) c.as_slice.ensures in omega (arith, few_input_cells c.args.net.now c.requires.limits)

pub are_bounded-requires-clause-few : goal.are_bounded-requires-clause-few
are_bounded-requires-clause-few c =
    let e = ap (input_cells c.args.net.now.space) c.as_slice.ensures in
    omega (arith, few_input_cells c.args.net.now c.requires.limits, c.input_cells.ensures, c.if-inputs-input_cells.true)
