use Rattle.std.proofs.Common.{pos, [], ◌∷◌, sym, ◌∙◌, ap, subst, lit≤}
use Rattle.rx_net.specs.declared.net.Net.{Net}
use Rattle.rx_net.specs.Cells.{cell_count, degree, noise}
use Rattle.rx_net.specs.Legal.{JobFits}
use Rattle.rx_net.proofs.TestNets.{less_one, sixteen, first_input, number_within, less_fits}
use Rattle.rx_net.proofs.tests.a_job_that_is_placed.Goals as goal

pub place-requires-clause-fits : goal.place-requires-clause-fits
place-requires-clause-fits g c =
    let one = first_input _ _ _ c.in-Some.a c.new-pen.ensures c.in_ok-input.ensures.added c.number.ensures in
    subst (λ (n : Net). JobFits n.space (cell_count n) (degree n) (noise n) (less_one ∷ []) (pos 3) sixteen) (sym one) (less_fits c.in-Some.a)

pub plain-requires-clause-within : goal.plain-requires-clause-within
plain-requires-clause-within g c =
    let one = first_input _ _ _ c.in-Some.a c.new-pen.ensures c.in_ok-input.ensures.added c.number.ensures in
    let whole = c.finish-net.ensures.value ∙ c.in_ok-cell.ensures.added in
    number_within c.input.new.self c.finish-net.result c.in-Some.a 1 one (ap (λ (n : Net). n.space) whole) (ap (λ (n : Net). n.inputs) whole) (lit≤ tt)
