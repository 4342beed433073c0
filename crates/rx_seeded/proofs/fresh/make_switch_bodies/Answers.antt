use Rattle.std.proofs.Common.{◌≡◌, ℕ, ◌+◌, ◌*◌, List, ◌++◌, drop, refl}
use Rattle.rx_boot.specs.FreshRows.{KeySeeds, fresh_switch_row, fresh_switch_bodies}
use Rattle.rx_codec.specs.WordFields.{word_bytes}
use Rattle.rx_seeded.proofs.FreshBodies.{no_bodies, body_added}
use Rattle.rx_seeded.proofs.fresh.make_switch_bodies.Goals as goal

pub loop-number-init : goal.loop-number-init
unfolding fresh_switch_bodies
loop-number-init c = no_bodies c.args.out.now.items

pub loop-number-preserved : goal.loop-number-preserved
unfolding fresh_switch_bodies
loop-number-preserved c =
    let s : KeySeeds = c.args.rows.now in
    body_added (λ row. drop s.params.lwe_dim (fresh_switch_row s row)) c.loop-number.number c.args.out.now.items
    c.loop-number.out.items c.add_switch_body.new.out.items (drop s.params.lwe_dim (fresh_switch_row s c.loop-number.number))
    c.loop-number.invariant c.in_ok-add_switch_body.ensures refl
