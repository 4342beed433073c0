use Rattle.std.proofs.Common.{◌≡◌, ℕ, ◌+◌, ◌-◌, ◌*◌, ◌≤◌, List, length, get_or, take, drop, ◌∙◌, ap, arith}
use Rattle.std.proofs.lemmas.List.{length-take, length-drop}
use Rattle.std.proofs.lemmas.Nat.{mul-le}
use Rattle.rx_ring.proofs.Parts.{parts_more}
use Rattle.rx_points.proofs.RowsEvaluated.{word_rows}
use Rattle.rx_points.proofs.evaluation.block_words.Goals as goal

pub loop-t-preserved : goal.loop-t-preserved
loop-t-preserved c =
    let rows : ℕ = c.args.rows in
    let t : ℕ = c.loop-t.t in
    let m : ℕ = t * rows + rows - t * rows in
    let part : List ℕ = take m (drop (t * rows) c.loop-t.part) in
    let room : t * rows + rows ≤ length c.loop-t.part =
    omega (arith, c.loop-t.auto.part, c.requires.size, mul-le (t + 1) rows c.args.places rows (omega arith) (omega arith)) in
    let size : length part ≡ rows = omega (arith, length-take m (drop (t * rows) c.loop-t.part), length-drop (t * rows) c.loop-t.part, room) in
    record {
      written = parts_more rows _ t c.loop-t.part c.row_words.new.part
          (λ q i. get_or c.args.words.now ((rows - 1 - i) * c.args.stride + (q * 16 + c.args.block)) 0)
          (omega (arith, room)) (omega (arith, c.row_words.auto.part, size)) c.loop-t.invariant.written
          (λ i p. c.row_words.ensures i (omega (arith, size, p))
          ∙ ap (λ k. get_or c.args.words.now ((k - 1 - i) * c.args.stride + (t * 16 + c.args.block)) 0) size);
    }

pub returns : goal.returns
returns c = λ i p.
    word_rows c.args.rows c.args.stride c.args.block c.args.places i c.loop-t.part c.args.words.now c.requires.some p
    (λ t v q r. c.loop-t.invariant.written t v (omega arith) r)
