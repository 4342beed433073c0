use Rattle.std.proofs.Common.{◌≡◌, ◌<◌, ◌≤◌, ◌+◌, ◌*◌, ◌++◌, ◌-◌, [], ℕ, List, take, rules, ap, ◌∙◌, length, arith, get_or}
use Rattle.std.specs.Prelude.{pos}
use Rattle.std.proofs.lemmas.Slice.{take-put_mid}
use Rattle.rx_net.specs.declared.term.Term.{Term}
use Rattle.rx_uses.specs.Cells.{terms_at}
use Rattle.rx_board.proofs.Places.{further, times_more}
use Rattle.rx_uses.proofs.CellsLaw.{operand_words_more}
use Rattle.rx_board.proofs.board.Board.gather.Goals as goal

pub loop-place-preserved : goal.loop-place-preserved
loop-place-preserved g c = record {
  table = c.copy_operand.ensures.seat.0 ∙ c.loop-place.invariant.table;
  id = c.copy_operand.ensures.seat.1 ∙ c.loop-place.invariant.id;
  me = c.copy_operand.ensures.seat.2 ∙ c.loop-place.invariant.me;
  gathered =
      let p = c.args.self.now.plan in let place : ℕ = c.loop-place.place in let w : ℕ = p.width in let u : ℕ = c.width-width.result in
      let ts : List Term = terms_at p.net.jobs c.args.job in let d : Term = record { cell = 0; weight = pos 0 } in
      let same : u ≡ w = c.width-width.ensures.0 in
      let e : c.job.result.now.terms ≡ c.as_slice-count.result.now = search rules in
      let test : place < length c.as_slice-count.result.now = c.loop-place-test.true in
      let count : length ts ≡ length c.as_slice-count.result.now = ap length c.job.ensures.is ∙ ap length e in
      let within : place < length ts = omega arith in
      let room : length c.loop-place.operands ≡ length ts * w = c.loop-place.auto.operands ∙ c.requires.room in
      let far : place * w + w ≤ length ts * w = further place (length ts) w within in
      let part : length c.copy_operand.new.out ≡ u = search rules in
      let turn : (place + 1) * w ≡ place * w + w = times_more place w in
      let row : place * u ≡ place * w = ap (λ (z : ℕ). place * z) same in
      take-put_mid (place * u) ((place * u + u) - place * u) c.loop-place.operands c.copy_operand.new.out ((place + 1) * w) (omega arith) (omega arith)
      ∙ ((λ i. take (row i) c.loop-place.operands ++ c.copy_operand.ensures.words d i)
      ∙ (ap (λ xs. xs ++ get_or p.cells (get_or ts place d).cell []) c.loop-place.invariant.gathered ∙ operand_words_more p.cells ts place d within));
}
