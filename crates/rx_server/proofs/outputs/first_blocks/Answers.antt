use Rattle.std.proofs.Common.{◌∙◌}
use Rattle.std.specs.Vec.Iter.{into_iter_items}
use Rattle.rx_server.proofs.OutputItems.{taken_on, left_over}
use Rattle.rx_server.proofs.outputs.first_blocks.Goals as goal

pub loop-preserved : goal.loop-preserved
loop-preserved c =
    let left = into_iter_items c.loop.rest in
    let rest = into_iter_items c.next.new.self in
    record {
      taken = rw c.in_ok-push-in-Some.ensures.items
          (taken_on c.args.count c.loop.counter c.loop.blocks.items left rest c.in-Some.block c.loop-test.true c.in-Some.ensures.items
          ∙ c.loop.invariant.taken);
      left = left_over c.args.count c.loop.counter left rest c.in-Some.block c.loop-test.true c.in-Some.ensures.items ∙ c.loop.invariant.left;
    }
