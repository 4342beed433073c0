use Rattle.std.proofs.Common.{◌≡◌, ℕ, List, [], get_or, sym, subst, ◌∙◌, arith}
use Rattle.rx_net.specs.declared.net.Net.{Net}
use Rattle.rx_language.specs.Programs.{Program}
use Rattle.rx_compile.specs.States.{source_at, Plans}
use Rattle.rx_compile.proofs.InputCells.{output_sources, output_plans}
use Rattle.rx_compile.proofs.planning.given_cells.Goals as goal

pub argument-given-requires-clause-number : goal.argument-given-requires-clause-number
argument-given-requires-clause-number c = omega (arith, output_sources c.args.circuit.now c.args.place c.space-lawful.ensures.lawful c.requires.next.there c.requires.output)

pub returns : goal.returns
returns c =
    let p : Program = c.args.circuit.now in
    let k : ℕ = c.args.place in
    let net : Net = c.args.pen.now in
    let cells : List ℕ = get_or c.args.cells.now (source_at p k 0) [] in
    let e : c.from_vec.result ≡ cells = c.from_vec.ensures ∙ c.in_ok-from_slice.ensures.items ∙ c.argument-given.ensures.cells in
    subst (λ (xs : List ℕ). Plans p k net net xs) (sym e) (output_plans p k net c.args.cells.now c.requires.next c.space-lawful.ensures.lawful c.requires.output)
