use Rattle.std.proofs.Common.{ℕ, ◌+◌, ◌-◌, ◌*◌, ◌∙◌, arith}
use Rattle.rx_ring.specs.Polynomial.{turns}
use Rattle.rx_lwe.proofs.Made.{row_room}
use Rattle.rx_glwe.specs.Sizes.{ggsw_size}
use Rattle.rx_boot.specs.Bootstrap.{marks, table_accumulator}
use Rattle.rx_boot.proofs.MadeKeys.{boot_size-few}
use Rattle.rx_boot.proofs.Turning.{start_are, turned_once}
use Rattle.rx_boot.proofs.rotation.rotate.Goals as goal

pub loop-i-init : goal.loop-i-init
loop-i-init c = record {
  turned = start_are c.args.p.now c.args.rows.now c.args.switched.now c.args.table.now c.start_rotation.new.turning
      (c.start_rotation.auto.turning ∙ c.requires.turning_size) c.start_rotation.ensures.masks c.start_rotation.ensures.body;
  room = c.requires.product_room;
}

pub offset_bounds-rows-i : goal.offset_bounds-rows-i
offset_bounds-rows-i c =
    let p = c.args.p.now in
    record { fits = omega (arith, row_room c.loop-i.i p.lwe_dim (ggsw_size p) (omega arith), boot_size-few p c.requires.accepted) }

pub slice_bounds-bit-end : goal.slice_bounds-bit-end
slice_bounds-bit-end c =
    let p = c.args.p.now in
    omega (arith, row_room c.loop-i.i p.lwe_dim (ggsw_size p) (omega arith), c.requires.rows_size)

pub loop-i-preserved : goal.loop-i-preserved
loop-i-preserved c =
    let p = c.args.p.now in
    let i : ℕ = c.loop-i.i in
    let width : ℕ = ggsw_size p in
    record {
      turned = turned_once p c.args.rows.now c.args.switched.now c.loop-i.turning c.turn.new.away c.turn.new.turning
          (turns p.poly_size (table_accumulator p c.args.table.now) (2 * p.poly_size - marks p c.args.switched.now p.lwe_dim)) i
          ((i + 1) * width - i * width) c.mark_of.result (omega arith) c.mark_of.ensures.value c.loop-i.invariant.turned c.turn.ensures.away c.turn.ensures.added;
      room = c.turn.ensures.product_stays;
    }
