use Rattle.std.proofs.Common.{◌≡◌, ℕ, ◌+◌, ◌*◌, List, ◌++◌, drop, refl}
use Rattle.rx_params.specs.Derived.{large_dim}
use Rattle.rx_boot.specs.BootKeys.{boot_row_count}
use Rattle.rx_boot.specs.FreshRows.{KeySeeds, fresh_boot_row, fresh_boot_bodies}
use Rattle.rx_codec.specs.WordFields.{word_bytes}
use Rattle.rx_seeded.proofs.FreshBodies.{no_bodies, body_added}
use Rattle.rx_seeded.proofs.fresh.make_boot_bodies.Goals as goal

pub loop-number-init : goal.loop-number-init
unfolding fresh_boot_bodies
loop-number-init c = no_bodies c.args.out.now.items

pub loop-number-preserved : goal.loop-number-preserved
unfolding fresh_boot_bodies
loop-number-preserved c =
    let s : KeySeeds = c.args.rows.now in
    body_added (λ row. drop (large_dim s.params) (fresh_boot_row s row)) c.loop-number.number c.args.out.now.items
    c.loop-number.out.items c.add_boot_body.new.out.items (drop (large_dim s.params) (fresh_boot_row s c.loop-number.number))
    c.loop-number.invariant c.in_ok-add_boot_body.ensures refl
