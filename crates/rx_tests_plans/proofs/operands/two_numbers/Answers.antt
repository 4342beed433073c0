use Rattle.std.proofs.Common.{ap}
use Rattle.rx_tests_plans.proofs.InputBlocks.{made}
use Rattle.rx_tests_plans.proofs.operands.two_numbers.Goals as goal

pub returns : goal.returns
returns c =
    made c.new-pen.result c.input.new.self c.input-2.new.self c.args.space c.args.blocks _ _ c.in_ok-a.a.items c.in_ok-b.b.items c.number.result c.number-2.result c.requires.space c.new-pen.ensures
    c.number.ensures c.in_ok-input.ensures.added c.number-2.ensures c.in_ok-input-2.ensures.added c.in_ok-a.ensures.count c.in_ok-a.ensures.each c.in_ok-b.ensures.count c.in_ok-b.ensures.each
