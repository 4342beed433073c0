use Rattle.std.proofs.Common.{◌≡◌, ◌+◌, ◌<◌, ℕ, List, get_or, drop, length, ap, ◌∙◌, subst, arith}
use Rattle.rx_params.specs.Kinds.{block_count}
use Rattle.rx_net.specs.declared.net.NetInput.{NetInput}
use Rattle.rx_net.specs.Cells.{input_cells}
use Rattle.rx_net.proofs.Inputs.{input_cells_drop, input_cells_past}
use Rattle.rx_net.proofs.Limits.{few_input_cells}
use Rattle.rx_uses.proofs.inputs.input_cells.Goals as goal

-- one input more, read from a list that is the net's
step : (space count : ℕ) (is items : List NetInput) (k : ℕ) (i : NetInput) → items ≡ is → k < length items → i ≡ get_or items k i
    → count + input_cells space (drop k is) ≡ input_cells space is → count + block_count i.kind space i.bits + input_cells space (drop (k + 1) is) ≡ input_cells space is
step space count is items k i same l e before = let l' : k < length is = subst (λ (js : List NetInput). k < length js) same l in
    let d = input_cells_drop space is k i l' (e ∙ ap (λ (js : List NetInput). get_or js k i) same) in omega arith

pub overflow_add-count : goal.overflow_add-count
overflow_add-count c = let few = few_input_cells c.args.net.now c.requires.limits in
    let s = step c.args.net.now.space c.loop-input.count c.args.net.now.inputs c.as_slice-input-items.result.now c.loop-input.input-index c.input-item.result
    c.as_slice-input-items.ensures c.loop-input-test.true c.input-item.is c.loop-input.invariant in omega arith

pub loop-input-preserved : goal.loop-input-preserved
loop-input-preserved c =
    let s = step c.args.net.now.space c.loop-input.count c.args.net.now.inputs c.as_slice-input-items.result.now c.loop-input.input-index c.input-item.result
    c.as_slice-input-items.ensures c.loop-input-test.true c.input-item.is c.loop-input.invariant in omega arith

pub returns-clause-count : goal.returns-clause-count
returns-clause-count c = let n : length c.as_slice-input-items.result.now ≡ length c.args.net.now.inputs = ap (λ (is : List NetInput). length is) c.as_slice-input-items.ensures in
    omega (arith, c.loop-input.invariant, input_cells_past c.args.net.now.space c.args.net.now.inputs c.loop-input.input-index (omega (arith, c.loop-input-test.false)))

pub returns-clause-few : goal.returns-clause-few
returns-clause-few c = let n : length c.as_slice-input-items.result.now ≡ length c.args.net.now.inputs = ap (λ (is : List NetInput). length is) c.as_slice-input-items.ensures in
    omega (arith, c.loop-input.invariant, input_cells_past c.args.net.now.space c.args.net.now.inputs c.loop-input.input-index (omega (arith, c.loop-input-test.false)), few_input_cells c.args.net.now c.requires.limits)
