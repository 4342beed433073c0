use Rattle.std.proofs.Common.{◌≡◌, ℕ, ◌+◌, ◌-◌, ◌*◌, ◌<◌, List, ◌++◌, length, take, drop, ap, sym, refl, ◌∙◌, arith}
use Rattle.std.proofs.lemmas.List.{take_all}
use Rattle.rx_params.specs.Derived.{large_dim}
use Rattle.rx_torus.specs.Streams.{Draws, stream_of}
use Rattle.rx_lwe.specs.Seeded.{drawn_words, seeded_row, seeded_rows}
use Rattle.rx_lwe.proofs.Rows.{rows-written}
use Rattle.rx_lwe.proofs.SeededRows.{row_ends, seeded_row-length}
use Rattle.rx_glwe.specs.Sizes.{glwe_size}
use Rattle.rx_boot.specs.BootKeys.{boot_row_count}
use Rattle.rx_boot.specs.Seeded.{boot_masks, seeded_boot}
use Rattle.rx_boot.proofs.SeededKeys.{row_width}
use Rattle.rx_boot.proofs.seeded.write_rows.Goals as goal

pub loop-row-init : goal.loop-row-init
loop-row-init c =
    let e : 0 * glwe_size c.args.p.now ≡ 0 = omega arith in
    ap (λ k. take k c.args.out.now) e

pub slice_bounds-body-end : goal.slice_bounds-body-end
slice_bounds-body-end c =
    let p = c.args.p.now in
    let room = row_ends c.loop-row.row (boot_row_count p) p.poly_size (omega arith) in
    omega (arith, room, c.requires.size)

pub slice_bounds-words-end : goal.slice_bounds-words-end
slice_bounds-words-end c =
    let p = c.args.p.now in
    let room = row_ends c.loop-row.row (boot_row_count p) (glwe_size p) (omega arith) in
    omega (arith, room, c.requires.room)

pub loop-row-preserved : goal.loop-row-preserved
loop-row-preserved c =
    let p = c.args.p.now in
    let row : ℕ = c.loop-row.row in
    let wide : ℕ = p.poly_size in
    let width : ℕ = glwe_size p in
    let mask : ℕ → Draws = boot_masks c.args.mask_seed.now in
    let bodies : List ℕ = c.args.bodies.now in
    let below : row < boot_row_count p = omega arith in
    let room = row_ends row (boot_row_count p) width below in
    let stream : c.new-mask.result ≡ mask row =
    c.new-mask.ensures ∙ ap (λ n. stream_of c.args.mask_seed.now n) c.stream_number.ensures in
    let count : length c.loop-row.out ≡ boot_row_count p * width = omega (arith, c.loop-row.auto.out, c.requires.room) in
    let part : row * wide + wide - row * wide ≡ wide = omega arith in
    let written : c.row_of_body.new.out ≡ seeded_row mask (large_dim p) wide bodies row =
    c.row_of_body.ensures.row
    ∙ ap (λ s. drawn_words (large_dim p) s ++ take (row * wide + wide - row * wide) (drop (row * wide) bodies)) stream
    ∙ ap (λ k. drawn_words (large_dim p) (mask row) ++ take k (drop (row * wide) bodies)) part in
    rows-written (seeded_row mask (large_dim p) wide bodies) row width (row * width)
    ((row + 1) * width) (row * width + width - row * width) c.loop-row.out c.row_of_body.new.out refl refl
    (omega (arith, room, count))
    (ap length written ∙ seeded_row-length mask (large_dim p) wide (boot_row_count p) row bodies c.requires.size below ∙ row_width p)
    c.loop-row.invariant written

pub returns : goal.returns
unfolding seeded_boot
returns c =
    let p = c.args.p.now in
    let width : ℕ = glwe_size p in
    let e : c.loop-row.row ≡ boot_row_count p = omega arith in
    sym (take_all (c.loop-row.row * width) c.loop-row.out (omega (arith, c.requires.room, ap (λ k. k * width) e)))
    ∙ c.loop-row.invariant
    ∙ ap (λ k. seeded_rows (boot_masks c.args.mask_seed.now) (large_dim p) p.poly_size k c.args.bodies.now) e
