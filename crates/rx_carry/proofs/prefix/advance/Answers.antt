use Rattle.std.proofs.Common.{◌≡◌, ℕ, ◌<◌, ◌≤◌, ◌-◌, ◌*◌, ◌/◌, length, sym, arith}
use Rattle.std.proofs.lemmas.Result.{IfOk-weaker}
use Rattle.rx_plan.specs.Values.{cell_value}
use Rattle.rx_plan.proofs.PerBlock.{space_low}
use Rattle.rx_carry.proofs.Prefixes.{stepped_even, combine_is_table, advance_keeps, low_there, advance_range, advance_noises, advance_gives, advance_value}
use Rattle.rx_carry.proofs.prefix.advance.Goals as goal

two : (r s : ℕ) → r ≡ s → 2 ≤ r → 2 ≤ s
two r s e h = omega arith

pub pair-requires-clause-range : goal.pair-requires-clause-range
pair-requires-clause-range c =
    advance_range c.args.pen.now c.args.span c.args.i c.args.states.now c.requires.span (two c.space-space.result c.args.pen.now.space c.space-space.ensures.value (space_low c.space-space.result c.space-space.ensures.known)) c.requires.states c.requires.place c.if-i-span-eq0.false

pub pair-requires-clause-noises : goal.pair-requires-clause-noises
pair-requires-clause-noises c =
    advance_noises c.args.pen.now c.args.span c.args.i c.args.states.now c.requires.span (two c.space-space.result c.args.pen.now.space c.space-space.ensures.value (space_low c.space-space.result c.space-space.ensures.known)) c.requires.states c.requires.place c.if-i-span-eq0.false

pub pair-requires-clause-table : goal.pair-requires-clause-table
pair-requires-clause-table c = combine_is_table c.args.pen.now.space c.args.table.now (two c.space-space.result c.args.pen.now.space c.space-space.ensures.value (space_low c.space-space.result c.space-space.ensures.known)) c.requires.table

pub returns-then-i-span-eq0-clause-gives : goal.returns-then-i-span-eq0-clause-gives
returns-then-i-span-eq0-clause-gives c =
    advance_keeps c.args.pen.now c.args.span c.args.i c.args.states.now c.requires.span (two c.space-space.result c.args.pen.now.space c.space-space.ensures.value (space_low c.space-space.result c.space-space.ensures.known)) c.requires.states c.requires.place c.space-space.ensures.bounded c.if-i-span-eq0.true

pub returns-then-i-span-eq0-clause-value : goal.returns-then-i-span-eq0-clause-value
returns-then-i-span-eq0-clause-value c = λ xs w. sym (stepped_even c.args.span (cell_value c.args.pen.now c.args.states.now xs) c.args.i c.if-i-span-eq0.true)

pub returns-else-i-span-eq0-clause-gives : goal.returns-else-i-span-eq0-clause-gives
returns-else-i-span-eq0-clause-gives c =
    IfOk-weaker c.pair.result _ _ (λ k m. advance_gives c.args.pen.now c.args.span c.args.i c.args.states.now c.requires.span (two c.space-space.result c.args.pen.now.space c.space-space.ensures.value (space_low c.space-space.result c.space-space.ensures.known)) c.requires.states c.requires.place
    c.pair.new.pen k c.args.table.now c.if-i-span-eq0.false c.requires.table m) c.pair.ensures.makes

pub returns-else-i-span-eq0-clause-deep : goal.returns-else-i-span-eq0-clause-deep
returns-else-i-span-eq0-clause-deep c =
    let l : c.args.i / c.args.span * c.args.span - 1 < length c.args.states.now =
    low_there c.args.pen.now c.args.span c.args.i c.args.states.now c.requires.span (two c.space-space.result c.args.pen.now.space c.space-space.ensures.value (space_low c.space-space.result c.space-space.ensures.known)) c.requires.states c.requires.place c.if-i-span-eq0.false in
    IfOk-weaker c.pair.result _ _ (λ k m. λ d o. m.depth_in d (o c.args.i c.requires.place, o (c.args.i / c.args.span * c.args.span - 1) l)) c.pair.ensures.makes

pub returns-else-i-span-eq0-clause-value : goal.returns-else-i-span-eq0-clause-value
returns-else-i-span-eq0-clause-value c =
    IfOk-weaker c.pair.result _ _ (λ k m. λ xs w. advance_value c.args.pen.now c.args.span c.args.i c.args.states.now c.requires.span (two c.space-space.result c.args.pen.now.space c.space-space.ensures.value (space_low c.space-space.result c.space-space.ensures.known)) c.requires.states c.requires.place
    c.pair.new.pen k c.args.table.now c.space-space.ensures.bounded c.if-i-span-eq0.false c.requires.table xs w (m.value_is xs w)) c.pair.ensures.makes
