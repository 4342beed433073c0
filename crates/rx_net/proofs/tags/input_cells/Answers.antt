use Rattle.std.proofs.Common.{arith}
use Rattle.rx_net.proofs.Inputs.{input_cells_drop, input_cells_past}
use Rattle.rx_net.proofs.tags.input_cells.Goals as goal

pub overflow_add-count : goal.overflow_add-count
overflow_add-count c = omega (arith, c.loop-input.invariant, input_cells_drop c.args.space c.args.inputs.now c.loop-input.input-index c.input-item.result c.loop-input-test.true c.input-item.is)

pub loop-input-preserved : goal.loop-input-preserved
loop-input-preserved c = omega (arith, c.loop-input.invariant, input_cells_drop c.args.space c.args.inputs.now c.loop-input.input-index c.input-item.result c.loop-input-test.true c.input-item.is)

pub returns : goal.returns
returns c = omega (arith, c.loop-input.invariant, input_cells_past c.args.space c.args.inputs.now c.loop-input.input-index c.loop-input-test.false)
