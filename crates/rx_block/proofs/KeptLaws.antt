-- The laws of what blocks keep, from that of the bootstrap.
use Rattle.rx_boot.specs.NoiseLaws.{LookupLaws}
use Rattle.rx_block.specs.NoiseLaws.{KeepsLaws}
use Rattle.rx_block.proofs.KeptBounds.{kept-low, kept-high}
use Rattle.rx_block.proofs.KeptSums.{kept-near, kept-sum}
use Rattle.rx_block.proofs.KeptNumbers.{kept-entry_from, kept_number}

pub keeps_laws_from : LookupLaws → KeepsLaws
keeps_laws_from laws = record {
  low = kept-low;
  high = kept-high;
  near = kept-near;
  sum = kept-sum;
  entry = kept-entry_from laws;
  number = kept_number;
}
