use Rattle.std.proofs.Common.{◌≡◌, ◌+◌, ap, arith, length, refl}
use Rattle.rx_net.specs.Cells.{input_cells, cell_count}
use Rattle.rx_net.proofs.Limits.{few_input_cells, cell_count_is, few_cells}
use Rattle.rx_net.proofs.legality.cell_count.Goals as goal

pub input_cells-requires-clause-few : goal.input_cells-requires-clause-few
input_cells-requires-clause-few c = let e = ap (input_cells c.args.net.now.space) c.as_slice.ensures in omega (arith, e, few_input_cells c.args.net.now c.requires)

pub overflow_add-result : goal.overflow_add-result
overflow_add-result c =
    let t : c.input_cells.result + length c.as_slice-2.result.now ≡ cell_count c.args.net.now = cell_count_is c.args.net.now c.as_slice.result.now c.as_slice-2.result.now c.input_cells.result (length c.as_slice-2.result.now) c.as_slice.ensures c.as_slice-2.ensures c.input_cells.ensures refl in
    omega (arith, few_cells c.args.net.now c.requires)

pub returns : goal.returns
returns c = cell_count_is c.args.net.now c.as_slice.result.now c.as_slice-2.result.now c.input_cells.result _ c.as_slice.ensures c.as_slice-2.ensures c.input_cells.ensures (omega arith)
