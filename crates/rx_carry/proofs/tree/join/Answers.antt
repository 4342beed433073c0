use Rattle.std.proofs.Common.{◌≡◌, ℕ, ◌<◌, ◌≤◌, ◌+◌, ◌*◌, length, get_or, sym, arith}
use Rattle.std.proofs.lemmas.Result.{IfOk-weaker}
use Rattle.rx_plan.specs.Values.{cell_value}
use Rattle.rx_plan.proofs.PerBlock.{space_low}
use Rattle.rx_carry.proofs.Prefixes.{combine_is_table}
use Rattle.rx_carry.proofs.Trees.{halved_high, jobs_low, join_range, join_noises, join_gives, join_value, join_keeps}
use Rattle.rx_carry.proofs.tree.join.Goals as goal

two : (r s : ℕ) → r ≡ s → 2 ≤ r → 2 ≤ s
two r s e h = omega arith

pub pair-requires-clause-range : goal.pair-requires-clause-range
pair-requires-clause-range c =
    let i : ℕ = c.args.i in
    join_range c.args.pen.now (get_or c.args.nodes.now (2 * i + 1) 0) (get_or c.args.nodes.now (2 * i) 0) (2 * i + 1) (2 * i) (two c.space-space.result c.args.pen.now.space c.space-space.ensures.value (space_low c.space-space.result c.space-space.ensures.known)) (c.requires.nodes (2 * i + 1) (omega arith)) (c.requires.nodes (2 * i) (omega arith))

pub pair-requires-clause-noises : goal.pair-requires-clause-noises
pair-requires-clause-noises c =
    let i : ℕ = c.args.i in
    join_noises c.args.pen.now (get_or c.args.nodes.now (2 * i + 1) 0) (get_or c.args.nodes.now (2 * i) 0) (2 * i + 1) (2 * i) (two c.space-space.result c.args.pen.now.space c.space-space.ensures.value (space_low c.space-space.result c.space-space.ensures.known)) (c.requires.nodes (2 * i + 1) (omega arith)) (c.requires.nodes (2 * i) (omega arith))

pub pair-requires-clause-table : goal.pair-requires-clause-table
pair-requires-clause-table c = combine_is_table c.args.pen.now.space c.args.table.now (two c.space-space.result c.args.pen.now.space c.space-space.ensures.value (space_low c.space-space.result c.space-space.ensures.known)) c.requires.table

pub pair-requires-clause-room : goal.pair-requires-clause-room
pair-requires-clause-room c = omega (arith, c.requires.room, jobs_low (length c.args.nodes.now) c.args.i (omega arith))

pub returns-then-i-nodes-clause-gives : goal.returns-then-i-nodes-clause-gives
returns-then-i-nodes-clause-gives c =
    IfOk-weaker c.pair.result _ _ (λ k m. join_gives c.args.pen.now c.pair.new.pen c.args.nodes.now c.args.i k c.args.table.now (two c.space-space.result c.args.pen.now.space c.space-space.ensures.value (space_low c.space-space.result c.space-space.ensures.known)) c.requires.nodes c.if-i-nodes.true c.requires.table m) c.pair.ensures.makes

pub returns-then-i-nodes-clause-deep : goal.returns-then-i-nodes-clause-deep
returns-then-i-nodes-clause-deep c =
    let i : ℕ = c.args.i in
    let h : 2 * i + 1 < length c.args.nodes.now = c.if-i-nodes.true in
    IfOk-weaker c.pair.result _ _ (λ k m. λ d o. m.depth_in d (o (2 * i + 1) h, o (2 * i) (omega arith))) c.pair.ensures.makes

pub returns-then-i-nodes-clause-value : goal.returns-then-i-nodes-clause-value
returns-then-i-nodes-clause-value c =
    IfOk-weaker c.pair.result _ _ (λ k m. join_value c.args.pen.now c.pair.new.pen c.args.nodes.now c.args.i k c.args.table.now (two c.space-space.result c.args.pen.now.space c.space-space.ensures.value (space_low c.space-space.result c.space-space.ensures.known)) c.space-space.ensures.bounded c.requires.nodes c.if-i-nodes.true c.requires.table m) c.pair.ensures.makes

pub returns-else-i-nodes-clause-gives : goal.returns-else-i-nodes-clause-gives
returns-else-i-nodes-clause-gives c = join_keeps c.args.pen.now c.args.nodes.now c.args.i c.space-space.ensures.bounded c.requires.nodes c.requires.place c.if-i-nodes.false

pub returns-else-i-nodes-clause-value : goal.returns-else-i-nodes-clause-value
returns-else-i-nodes-clause-value c = λ xs w. sym (halved_high (length c.args.nodes.now) (cell_value c.args.pen.now c.args.nodes.now xs) c.args.i c.if-i-nodes.false)
