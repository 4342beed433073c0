use Rattle.std.proofs.Common.{◌≡◌, ◌≤◌, ◌+◌, ◌-◌, ◌^◌, ℕ, List, length, take, drop, ap, arith}
use Rattle.std.proofs.lemmas.Result.{IfOk-weaker}
use Rattle.rx_net.specs.Cells.{depth}
use Rattle.rx_plan.specs.Planned.{AreBlocks, IsCell}
use Rattle.rx_cmp.proofs.Grouping.{each_part, part_count, part_range, part_noises, part_gives, part_value}
use Rattle.rx_cmp.proofs.any.join.Goals as goal

pub sum-requires-clause-range : goal.sum-requires-clause-range
sum-requires-clause-range c =
    let p = c.args.pen.now in
    let k : ℕ = c.args.first + c.args.size - c.args.first in
    let cs : List ℕ = take k (drop c.args.first c.args.nodes.now) in
    let fit : c.args.first + k ≤ length c.args.nodes.now = omega arith in
    let n : length cs ≡ k = part_count c.args.nodes.now c.args.first k fit in
    part_range p cs (omega arith) (each_part c.args.nodes.now c.args.first k (IsCell p (2 ^ p.space - 1)) fit c.requires.blocks)

pub sum-requires-clause-noises : goal.sum-requires-clause-noises
sum-requires-clause-noises c =
    let p = c.args.pen.now in
    let k : ℕ = c.args.first + c.args.size - c.args.first in
    let cs : List ℕ = take k (drop c.args.first c.args.nodes.now) in
    let fit : c.args.first + k ≤ length c.args.nodes.now = omega arith in
    let n : length cs ≡ k = part_count c.args.nodes.now c.args.first k fit in
    part_noises p cs (omega arith) (each_part c.args.nodes.now c.args.first k (IsCell p (2 ^ p.space - 1)) fit c.requires.blocks)

pub returns-else-size-eq1-clause-gives : goal.returns-else-size-eq1-clause-gives
returns-else-size-eq1-clause-gives c =
    let p = c.args.pen.now in
    let k : ℕ = c.args.first + c.args.size - c.args.first in
    let cs : List ℕ = take k (drop c.args.first c.args.nodes.now) in
    let fit : c.args.first + k ≤ length c.args.nodes.now = omega arith in
    let n : length cs ≡ k = part_count c.args.nodes.now c.args.first k fit in
    let are : AreBlocks p cs = each_part c.args.nodes.now c.args.first k (IsCell p (2 ^ p.space - 1)) fit c.requires.blocks in
    IfOk-weaker c.sum.result _ _ (λ x m. part_gives p c.sum.new.pen cs c.args.table.now x c.args.size (omega arith) (omega arith) (omega arith) are c.requires.table m) c.sum.ensures.makes

pub returns-else-size-eq1-clause-deep : goal.returns-else-size-eq1-clause-deep
returns-else-size-eq1-clause-deep c =
    let p = c.args.pen.now in
    let k : ℕ = c.args.first + c.args.size - c.args.first in
    let fit : c.args.first + k ≤ length c.args.nodes.now = omega arith in
    IfOk-weaker c.sum.result _ _ (λ x m. λ d o. m.depth_in d (each_part c.args.nodes.now c.args.first k (λ o. depth p o ≤ d) fit o)) c.sum.ensures.makes

pub returns-else-size-eq1-clause-value : goal.returns-else-size-eq1-clause-value
returns-else-size-eq1-clause-value c =
    let p = c.args.pen.now in
    let k : ℕ = c.args.first + c.args.size - c.args.first in
    let cs : List ℕ = take k (drop c.args.first c.args.nodes.now) in
    let fit : c.args.first + k ≤ length c.args.nodes.now = omega arith in
    let n : length cs ≡ k = part_count c.args.nodes.now c.args.first k fit in
    let are : AreBlocks p cs = each_part c.args.nodes.now c.args.first k (IsCell p (2 ^ p.space - 1)) fit c.requires.blocks in
    let z : k ≡ c.args.size = omega arith in
    let e : cs ≡ take c.args.size (drop c.args.first c.args.nodes.now) = ap (λ k. take k (drop c.args.first c.args.nodes.now)) z in
    IfOk-weaker c.sum.result _ _ (λ x m. part_value p c.sum.new.pen c.args.nodes.now cs c.args.table.now c.args.first c.args.size x c.space-space.ensures.bounded (omega arith) c.requires.place e (omega arith) are c.requires.table m) c.sum.ensures.makes
