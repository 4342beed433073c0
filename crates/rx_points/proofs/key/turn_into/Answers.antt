use Rattle.std.proofs.Common.{◌≡◌, pos, length, arith}
use Rattle.rx_laws.specs.Words.{of_words}
use Rattle.rx_ring.specs.Polynomial.{turned}
use Rattle.rx_points.specs.Residues.{residue}
use Rattle.rx_points.proofs.LimbProducts.{each_written}
use Rattle.rx_points.proofs.key.turn_into.Goals as goal

pub loop-i-preserved : goal.loop-i-preserved
loop-i-preserved c = record {
  written = each_written
      (λ k v. residue (pos v) ≡ residue (turned (length c.args.block.now) (of_words c.args.block.now) c.args.s k))
      c.loop-i.room c.loop-i.i _ (omega arith) c.loop-i.invariant.written c.turned_at.ensures;
}

pub returns : goal.returns
returns c = record { count = omega arith; each = λ i p. c.loop-i.invariant.written i (omega arith) }
