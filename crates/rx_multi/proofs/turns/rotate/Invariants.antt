use Rattle.std.proofs.Common.{◌≡◌, ◌+◌, ◌-◌, ◌*◌}
use Rattle.rx_ring.specs.Polynomial.{turns}
use Rattle.rx_ring.specs.Parts.{AreParts}
use Rattle.rx_ring.specs.Pairs.{pair_turn}
use Rattle.rx_boot.specs.BootKeys.{boot_rows}
use Rattle.rx_boot.specs.Bootstrap.{marks, table_accumulator}
use Rattle.rx_multi.proofs.turns.rotate.Given as goal

abbrev pub invariant-loop-i : goal.invariant-loop-i
invariant-loop-i l = record {
  turned : AreParts l.p.poly_size (l.p.glwe_dim + 1)
      (pair_turn l.p.poly_size l.p.glwe_dim l.p.pbs_base_log l.p.pbs_level (boot_rows l.p l.rows) (marks l.p l.switched)
      (turns l.p.poly_size (table_accumulator l.p l.table) (2 * l.p.poly_size - marks l.p l.switched l.p.lwe_dim)) l.i) l.turning;
  room : l.room ≡ l.p;
}
