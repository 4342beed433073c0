use Rattle.std.proofs.Common.{◌≡◌, pos, length, arith}
use Rattle.rx_laws.specs.Words.{of_words}
use Rattle.rx_points.specs.Residues.{residue, turned_back}
use Rattle.rx_points.proofs.LimbProducts.{each_written}
use Rattle.rx_points.proofs.way_up.difference_into.Goals as goal

pub loop-i-preserved : goal.loop-i-preserved
loop-i-preserved c = record {
  written = each_written
      (λ k v. residue (pos v) ≡ residue (turned_back (length c.args.near.now) c.args.s (of_words c.args.near.now) (of_words c.args.away.now) k))
      c.loop-i.room c.loop-i.i _ (omega arith) c.loop-i.invariant.written c.difference_at.ensures;
}

pub returns : goal.returns
returns c = record { count = omega arith; each = λ i p. c.loop-i.invariant.written i (omega arith) }
