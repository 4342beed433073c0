use Rattle.std.proofs.Common.{ℕ}
use Rattle.std.proofs.lemmas.Result.{IfOk-weaker}
use Rattle.rx_plan.proofs.PerBlock.{table_here}
use Rattle.rx_shift.specs.Amount.{bit_at}
use Rattle.rx_shift.proofs.AmountBits.{looked_up, bit_le}
use Rattle.rx_shift.proofs.amount.bit_of.Goals as goal

pub returns-clause-planned : goal.returns-clause-planned
returns-clause-planned c =
    let p = c.args.pen.now in
    let bit : ℕ → ℕ = λ i. bit_at i c.args.place in
    let h = table_here (λ _. bit) c.space-space.result p.space c.in_ok-table.table.items c.deref.result.now c.space-space.ensures.value c.deref.ensures.value c.in_ok-table.ensures in
    IfOk-weaker c.single.result _ _ (λ k m. looked_up p c.single.new.pen c.args.block k 1 bit c.deref.result.now c.space-space.ensures.bounded c.requires.block h (bit_le c.args.place) m) c.single.ensures.makes
