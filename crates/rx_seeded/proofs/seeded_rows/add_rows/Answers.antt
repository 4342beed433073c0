use Rattle.std.proofs.Common.{◌≡◌, ℕ, ◌+◌, ◌*◌, ◌<◌, ◌≤◌, List, ◌++◌, length, ap, refl, ◌∙◌, arith}
use Rattle.rx_torus.specs.Streams.{Draws, stream_of}
use Rattle.rx_lwe.specs.Seeded.{seeded_rows}
use Rattle.rx_lwe.proofs.SeededRows.{row_ends}
use Rattle.rx_codec.specs.WordFields.{words_in}
use Rattle.rx_seeded.specs.Masks.{row_masks}
use Rattle.rx_seeded.proofs.RowParts.{row_added}
use Rattle.rx_seeded.proofs.seeded_rows.add_rows.Goals as goal

pub slice_bounds-body-end : goal.slice_bounds-body-end
slice_bounds-body-end c =
    let room = row_ends c.loop-number.number c.args.rows.count (8 * c.args.rows.wide) (omega arith) in
    omega (arith, room, c.requires.size)

pub loop-number-preserved : goal.loop-number-preserved
loop-number-preserved c =
    let number : ℕ = c.loop-number.number in
    let size : ℕ = 8 * c.args.rows.wide in
    let mask : ℕ → Draws = row_masks c.args.rows.kind c.args.mask_seed.now in
    let stream : c.new-stream.result ≡ mask number =
    c.new-stream.ensures ∙ ap (λ n. stream_of c.args.mask_seed.now n) c.stream_number.ensures in
    row_added mask c.args.rows.masks c.args.rows.wide c.args.rows.count number (number * size) size c.new-stream.result
    c.args.bodies.now c.args.out.now.items c.loop-number.out.items c.extend_from_slice.new.self.items c.write_row.new.row
    (omega arith) refl refl stream c.write_row.ensures c.loop-number.invariant c.in_ok-extend_from_slice.ensures.items

pub returns : goal.returns
returns c =
    let rows = c.args.rows in
    let bodies : List ℕ = words_in (rows.count * rows.wide) c.args.bodies.now in
    let e : c.loop-number.number ≡ rows.count = omega arith in
    c.loop-number.invariant
    ∙ ap (λ k. c.args.out.now.items ++ seeded_rows (row_masks rows.kind c.args.mask_seed.now) rows.masks rows.wide k bodies) e
