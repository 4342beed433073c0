use Rattle.std.proofs.Common.{◌≡◌, ◌<◌, length, rules, arith}
use Rattle.rx_workers.proofs.draining.drain_all.Goals as goal

pub returns-clause-drained : goal.returns-clause-drained
returns-clause-drained g c = λ i d l. let same : length c.for_each_mut.new.s ≡ length c.args.workers.now = search rules in let m : i < length c.args.workers.now = omega arith in let e = (c.for_each_mut.ensures i d m).1 in search rules

pub returns-clause-knows : goal.returns-clause-knows
returns-clause-knows g c = λ i d l. let same : length c.for_each_mut.new.s ≡ length c.args.workers.now = search rules in let m : i < length c.args.workers.now = omega arith in let e = (c.for_each_mut.ensures i d m).1 in search rules
