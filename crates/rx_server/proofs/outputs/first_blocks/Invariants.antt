use Rattle.std.proofs.Common.{◌≡◌, ◌-◌, ◌++◌, take, drop}
use Rattle.std.specs.Vec.Iter.{into_iter_items}
use Rattle.rx_server.proofs.outputs.first_blocks.Given as goal

-- the blocks so far, and how many are yet to be taken of those that are left
abbrev pub invariant-loop : goal.invariant-loop
invariant-loop l = record {
  taken : l.blocks.items ++ take (l.count - l.counter) (into_iter_items l.rest) ≡ take l.count (into_iter_items l.fn.rest);
  left : drop (l.count - l.counter) (into_iter_items l.rest) ≡ drop l.count (into_iter_items l.fn.rest);
}
