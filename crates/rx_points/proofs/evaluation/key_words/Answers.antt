use Rattle.std.proofs.Common.{◌≡◌, ℕ, ◌+◌, ◌-◌, ◌*◌, ◌≤◌, length, take, drop, arith}
use Rattle.std.proofs.lemmas.List.{length-take, length-drop}
use Rattle.std.proofs.lemmas.Nat.{mul-le}
use Rattle.rx_ring.proofs.Parts.{parts_more}
use Rattle.rx_points.specs.Rows.{key_word}
use Rattle.rx_points.proofs.evaluation.key_words.Goals as goal

pub loop-block-preserved : goal.loop-block-preserved
loop-block-preserved c =
    let n : ℕ = c.args.rows * c.args.places in
    let t : ℕ = c.loop-block.block in
    let m : ℕ = t * n + n - t * n in
    let room : t * n + n ≤ length c.loop-block.values =
    omega (arith, c.loop-block.auto.values, c.requires.size, mul-le (t + 1) n 16 n (omega arith) (omega arith)) in
    let size : length (take m (drop (t * n) c.loop-block.values)) ≡ n =
    omega (arith, length-take m (drop (t * n) c.loop-block.values), length-drop (t * n) c.loop-block.values, room) in
    record {
      written = parts_more n _ t c.loop-block.values c.block_words.new.part (key_word c.args.rows c.args.stride c.args.words.now)
          (omega (arith, room)) (omega (arith, c.block_words.auto.part, size)) c.loop-block.invariant.written c.block_words.ensures;
    }

pub returns : goal.returns
returns c = λ j i p q. c.loop-block.invariant.written j i (omega arith) q
