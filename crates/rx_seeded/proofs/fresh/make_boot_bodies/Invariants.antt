use Rattle.std.proofs.Common.{◌≡◌, ◌++◌}
use Rattle.rx_boot.specs.FreshRows.{fresh_boot_bodies}
use Rattle.rx_codec.specs.WordFields.{word_bytes}
use Rattle.rx_seeded.proofs.fresh.make_boot_bodies.Given as goal

abbrev pub invariant-loop-number : goal.invariant-loop-number
invariant-loop-number l = l.out.items ≡ l.fn.out.items ++ word_bytes (fresh_boot_bodies l.rows l.number)
