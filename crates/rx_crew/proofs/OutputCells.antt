-- The cells of the outputs of a legal net.
use Rattle.std.proofs.Common.{◌≡◌, ℕ, ◌+◌, ◌<◌, Bool, List, [], ◌∷◌, ◌++◌, length, sym, subst}
use Rattle.std.specs.Prelude.{◌&&◌, ◌==◌, not, IsTrue}
use Rattle.std.specs.List.{AllByRecursion}
use Rattle.std.proofs.lemmas.Bool.{and_parts}
use Rattle.rx_params.specs.Kinds.{greatest, block_count, is_form}
use Rattle.rx_net.specs.declared.net.NetOutput.{NetOutput}
use Rattle.rx_net.specs.declared.net.Net.{Net}
use Rattle.rx_net.specs.Cells.{input_cells, cell_count, degree}
use Rattle.rx_net.specs.Legal.{InTurn, Legal, is_output, names_output, are_cells}
use Rattle.rx_net.proofs.Each.{all_append}
use Rattle.rx_net.proofs.Fits.{cells_below}
use Rattle.rx_block.specs.Outputs.{numbers_of}

outputs-below : (space count : ℕ) (degree : ℕ → ℕ) (before os : List NetOutput) → InTurn (λ before o. IsTrue (is_output space count degree before o)) before os →
    AllByRecursion (λ c. c < count) (numbers_of os)
outputs-below space count degree before [] h = tt
outputs-below space count degree before (o ∷ os) h =
    let cells : Bool = are_cells count degree (greatest o.kind space) o.cells in
    let a = and_parts (is_form space o.kind o.bits) ((length o.cells == block_count o.kind space o.bits) && (not (names_output o.name before) && cells)) h.0 in
    let b = and_parts (length o.cells == block_count o.kind space o.bits) (not (names_output o.name before) && cells) a.1 in
    let d = and_parts (not (names_output o.name before)) cells b.1 in
    all_append (λ c. c < count) o.cells (numbers_of os) (cells_below count degree (greatest o.kind space) o.cells d.1)
    (outputs-below space count degree (before ++ o ∷ []) os h.1)

pub numbers-below : (net : Net) (n : ℕ) → Legal net → n ≡ input_cells net.space net.inputs + length net.jobs → AllByRecursion (λ c. c < n) (numbers_of net.outputs)
unfolding cell_count
numbers-below net n legal e =
    subst (λ (m : ℕ). AllByRecursion (λ c. c < m) (numbers_of net.outputs)) (sym e)
    (outputs-below net.space (cell_count net) (degree net) [] net.outputs legal.outputs)
