use Rattle.std.proofs.Common.{◌≡◌, ◌-◌, ◌%◌, ◌^◌, length, sym, refl, ◌∙◌, arith}
use Rattle.std.proofs.lemmas.Result.{IfOk-weaker}
use Rattle.std.proofs.lemmas.Nat.{pow_pos}
use Rattle.rx_plan.specs.Values.{cell_value}
use Rattle.rx_plan.proofs.Kept.{value_below}
use Rattle.rx_plan.proofs.RowCells.{nought_is, group_degrees, group_noises, group_gives, group_value, digit_none, digit_one, mod_le}
use Rattle.rx_net.proofs.Fits.{same_yes}
use Rattle.rx_plan.proofs.rows.digit_cell.Goals as goal

pub sum-requires-clause-range : goal.sum-requires-clause-range
sum-requires-clause-range c = group_degrees c.args.pen.now c.args.blocks.now (length c.args.blocks.now) refl c.requires.few c.requires.blocks

pub sum-requires-clause-noises : goal.sum-requires-clause-noises
sum-requires-clause-noises c = group_noises c.args.pen.now c.args.blocks.now (length c.args.blocks.now) (2 ^ c.args.pen.now.space - 1) refl c.requires.few c.requires.blocks

pub returns-then-is_empty-clause-value : goal.returns-then-is_empty-clause-value
returns-then-is_empty-clause-value c =
    let p = c.args.pen.now in
    λ xs w. nought_is p c.args.nought c.space-space.ensures.bounded c.requires.nought xs w ∙ digit_none (length c.args.blocks.now) (2 ^ p.space) (cell_value p c.args.blocks.now xs) (pow_pos p.space)
    (same_yes (length c.args.blocks.now) 0 (sym c.is_empty.ensures ∙ c.if-is_empty.true))

pub returns-then-blocks-eq1-clause-value : goal.returns-then-blocks-eq1-clause-value
returns-then-blocks-eq1-clause-value c =
    let p = c.args.pen.now in
    let n : length c.args.blocks.now ≡ 1 = omega arith in
    λ xs w. digit_one (length c.args.blocks.now) (2 ^ p.space) (cell_value p c.args.blocks.now xs) n
    (value_below p (2 ^ p.space) c.args.blocks.now c.space-space.ensures.bounded (pow_pos p.space) c.requires.blocks xs w 0 (omega arith))

pub returns-else-blocks-eq1-clause-gives : goal.returns-else-blocks-eq1-clause-gives
returns-else-blocks-eq1-clause-gives c =
    let p = c.args.pen.now in
    IfOk-weaker c.sum.result _ _ (λ k m. group_gives p c.sum.new.pen c.args.blocks.now c.args.digits.now (λ i. i % 2 ^ p.space) k c.requires.few c.requires.blocks c.requires.digits
    (λ i q. mod_le (2 ^ p.space) i (pow_pos p.space)) m) c.sum.ensures.makes

pub returns-else-blocks-eq1-clause-value : goal.returns-else-blocks-eq1-clause-value
returns-else-blocks-eq1-clause-value c =
    let p = c.args.pen.now in
    IfOk-weaker c.sum.result _ _ (λ k m. group_value p c.sum.new.pen c.args.blocks.now c.args.digits.now (λ i. i % 2 ^ p.space) k c.space-space.ensures.bounded c.requires.few c.requires.blocks c.requires.digits m) c.sum.ensures.makes
