use Rattle.std.proofs.Common.{◌≡◌, ℕ, ◌+◌, ◌-◌, ◌*◌, ◌/◌, ◌∙◌, ap, subst, arith, take, drop}
use Rattle.std.proofs.Math.Facts.{Fits-of_lt}
use Rattle.rx_ring.specs.Polynomial.{turns}
use Rattle.rx_ring.specs.Parts.{AreParts}
use Rattle.rx_lwe.proofs.Made.{row_room}
use Rattle.rx_glwe.specs.Sizes.{ggsw_size}
use Rattle.rx_boot.specs.Bootstrap.{marks, table_accumulator}
use Rattle.rx_multi.specs.Turns.{turned_by}
use Rattle.rx_multi.proofs.Keys.{pair_size-few, pairs_size}
use Rattle.rx_multi.proofs.Turning.{begins, turned_once}
use Rattle.rx_multi.proofs.turns.rotate.Goals as goal

pub loop-i-init : goal.loop-i-init
loop-i-init c = record {
  turned = begins c.args.p.now c.args.rows.now c.args.switched.now c.args.table.now c.start.new.turning
      (c.start.auto.turning ∙ c.requires.turning_size) c.start.ensures.started;
  room = c.start.ensures.room_stays;
}

pub offset_bounds-rows-i : goal.offset_bounds-rows-i
offset_bounds-rows-i c =
    let p = c.args.p.now in
    let i : ℕ = c.loop-i.i in
    let g : ℕ = 3 * ggsw_size p in
    let start : i * c.products_size-width.result ≡ i * g = ap (λ w. i * w) c.products_size-width.ensures in
    record { fits = omega (arith, start, row_room i (p.lwe_dim / 2) g (omega arith), pairs_size p, pair_size-few p c.requires.accepted) }

pub slice_bounds-products-end : goal.slice_bounds-products-end
slice_bounds-products-end c =
    let p = c.args.p.now in
    let i : ℕ = c.loop-i.i in
    let g : ℕ = 3 * ggsw_size p in
    let end : (i + 1) * c.products_size-width.result ≡ (i + 1) * g = ap (λ w. (i + 1) * w) c.products_size-width.ensures in
    omega (arith, end, row_room i (p.lwe_dim / 2) g (omega arith), pairs_size p, c.requires.rows_size)

pub loop-i-preserved : goal.loop-i-preserved
loop-i-preserved c =
    let p = c.args.p.now in
    let i : ℕ = c.loop-i.i in
    let g : ℕ = 3 * ggsw_size p in
    let made : AreParts p.poly_size (p.glwe_dim + 1)
    (turned_by p (take ((i + 1) * g - i * g) (drop (i * g) c.args.rows.now)) c.mark_of-first.result c.mark_of-second.result c.loop-i.turning) c.turn.new.turning =
    subst (λ (w : ℕ). AreParts p.poly_size (p.glwe_dim + 1)
    (turned_by p (take ((i + 1) * w - i * w) (drop (i * w) c.args.rows.now)) c.mark_of-first.result c.mark_of-second.result c.loop-i.turning) c.turn.new.turning)
    c.products_size-width.ensures c.turn.ensures.turned in
    record {
      turned = turned_once p c.args.rows.now c.args.switched.now c.loop-i.turning c.turn.new.turning
          (turns p.poly_size (table_accumulator p c.args.table.now) (2 * p.poly_size - marks p c.args.switched.now p.lwe_dim)) i
          ((i + 1) * g - i * g) c.mark_of-first.result c.mark_of-second.result (omega arith) c.mark_of-first.ensures.value c.mark_of-second.ensures.value
          c.loop-i.invariant.turned made;
      room = c.turn.ensures.room_stays;
    }

pub overflow_mul-products : goal.overflow_mul-products
overflow_mul-products c =
    let p = c.args.p.now in
    let i : ℕ = c.loop-i.i in
    let g : ℕ = 3 * ggsw_size p in
    let start : i * c.products_size-width.result ≡ i * g = ap (λ w. i * w) c.products_size-width.ensures in
    Fits-of_lt (omega (arith, start, row_room i (p.lwe_dim / 2) g (omega arith), pairs_size p, pair_size-few p c.requires.accepted))

pub overflow_mul-products-in-loop-i : goal.overflow_mul-products-in-loop-i
overflow_mul-products-in-loop-i c =
    let p = c.args.p.now in
    let i : ℕ = c.loop-i.i in
    let g : ℕ = 3 * ggsw_size p in
    let end : (i + 1) * c.products_size-width.result ≡ (i + 1) * g = ap (λ w. (i + 1) * w) c.products_size-width.ensures in
    Fits-of_lt (omega (arith, end, row_room i (p.lwe_dim / 2) g (omega arith), pairs_size p, pair_size-few p c.requires.accepted))
