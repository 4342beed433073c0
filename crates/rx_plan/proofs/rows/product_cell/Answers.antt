use Rattle.std.proofs.Common.{◌≡◌, ◌-◌, ◌^◌, get_or, ◌∙◌, ap, arith}
use Rattle.std.proofs.lemmas.Result.{IfOk-weaker}
use Rattle.rx_plan.specs.Rows.{product_at}
use Rattle.rx_plan.proofs.RowLaws.{step_high}
use Rattle.rx_plan.proofs.RowCells.{low_gives, low_value, product_gives, product_value}
use Rattle.rx_plan.proofs.rows.product_cell.Goals as goal

pub pair-requires-clause-room : goal.pair-requires-clause-room
pair-requires-clause-room c = omega (arith, step_high c.args.shift c.args.k c.if-k-shift.false)

pub returns-then-k-shift-clause-value : goal.returns-then-k-shift-clause-value
returns-then-k-shift-clause-value c =
    let p = c.args.pen.now in
    low_value p c.args.nought c.args.shift c.args.k (λ xs. product_at (2 ^ p.space) p c.args.table.now c.args.x c.args.b.now xs) c.space-space.ensures.bounded c.requires.nought c.if-k-shift.true

pub returns-then-k-shift-clause-gives : goal.returns-then-k-shift-clause-gives
returns-then-k-shift-clause-gives c = low_gives c.args.pen.now c.args.nought c.args.shift c.args.k c.space-space.ensures.bounded c.requires.nought c.if-k-shift.true

pub returns-else-k-shift-clause-gives : goal.returns-else-k-shift-clause-gives
returns-else-k-shift-clause-gives c =
    let p = c.args.pen.now in
    let e : c.unit_of.result ≡ 2 ^ p.space = c.unit_of.ensures.value ∙ ap (λ s. 2 ^ s) c.space-space.ensures.value in
    IfOk-weaker c.pair.result _ _ (λ k m. product_gives p c.pair.new.pen c.unit_of.result c.args.x (get_or c.args.b.now (c.args.k - c.args.shift) 0) k c.args.shift c.args.k c.args.table.now e c.requires.small c.requires.table
    c.requires.first (c.requires.second (c.args.k - c.args.shift) (omega arith)) c.if-k-shift.false m) c.pair.ensures.makes

pub returns-else-k-shift-clause-deep : goal.returns-else-k-shift-clause-deep
returns-else-k-shift-clause-deep c =
    IfOk-weaker c.pair.result _ _ (λ k m. λ d x b. m.depth_in d (x, b (c.args.k - c.args.shift) (omega arith))) c.pair.ensures.makes

pub returns-else-k-shift-clause-value : goal.returns-else-k-shift-clause-value
returns-else-k-shift-clause-value c =
    let p = c.args.pen.now in
    let e : c.unit_of.result ≡ 2 ^ p.space = c.unit_of.ensures.value ∙ ap (λ s. 2 ^ s) c.space-space.ensures.value in
    IfOk-weaker c.pair.result _ _ (λ k m. product_value p c.pair.new.pen c.unit_of.result c.args.x k c.args.shift c.args.k c.args.b.now c.args.table.now e c.if-k-shift.false m) c.pair.ensures.makes
