use Rattle.std.proofs.Common.{◌≡◌, ◌+◌, ◌-◌, ◌*◌, length, get_or, refl, arith}
use Rattle.rx_points.proofs.LimbProducts.{each_written}
use Rattle.rx_points.proofs.evaluation.row_words.Goals as goal

pub loop-w-preserved : goal.loop-w-preserved
loop-w-preserved c = record {
  written = each_written (λ k v. v ≡ get_or c.args.words.now ((length c.args.part.now - 1 - k) * c.args.stride + c.args.offset) 0)
      c.loop-w.part c.loop-w.w _ (omega arith) c.loop-w.invariant.written refl;
}

pub returns : goal.returns
returns c = λ w p. c.loop-w.invariant.written w (omega arith)
