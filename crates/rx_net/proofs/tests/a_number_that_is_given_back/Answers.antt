use Rattle.std.proofs.Common.{◌∙◌, ap, lit≤}
use Rattle.rx_net.specs.declared.net.Net.{Net}
use Rattle.rx_net.proofs.TestNets.{first_input, number_within}
use Rattle.rx_net.proofs.tests.a_number_that_is_given_back.Goals as goal

pub plain-requires-clause-within : goal.plain-requires-clause-within
plain-requires-clause-within g c =
    let one = first_input _ _ _ c.in-Some.a c.new-pen.ensures c.in_ok-input.ensures.added c.number.ensures in
    let whole = c.finish-net.ensures.value ∙ c.in_ok-output.ensures.added in
    number_within c.input.new.self c.finish-net.result c.in-Some.a 2 one (ap (λ (n : Net). n.space) whole) (ap (λ (n : Net). n.inputs) whole) (lit≤ tt)
