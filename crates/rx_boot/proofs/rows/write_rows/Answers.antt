use Rattle.std.proofs.Common.{◌≡◌, ℕ, ◌+◌, ◌-◌, ◌*◌, ◌/◌, ◌%◌, length, take, ap, sym, refl, ◌∙◌, arith}
use Rattle.std.specs.List.{range_with_len, flat_map}
use Rattle.std.proofs.lemmas.List.{take_all}
use Rattle.rx_glwe.specs.Sizes.{glwe_size}
use Rattle.rx_lwe.proofs.Made.{row_room}
use Rattle.rx_lwe.proofs.Rows.{rows-written}
use Rattle.rx_boot.specs.BootKeys.{ggsw_row_count, key_row_count, numbered_row, key_rows}
use Rattle.rx_boot.proofs.Sizes.{some_coefficients}
use Rattle.rx_boot.proofs.RowWords.{key_row-length}
use Rattle.rx_boot.proofs.rows.write_rows.Goals as goal

pub loop-row-init : goal.loop-row-init
loop-row-init c =
    let e : 0 * glwe_size c.args.source.now.p.now ≡ 0 = omega arith in
    ap (λ k. take k c.args.out.now) e

pub slice_bounds-words-end : goal.slice_bounds-words-end
slice_bounds-words-end c =
    let p = c.args.source.now.p.now in
    let all : c.encrypted_count.result * ggsw_row_count p ≡ key_row_count c.args.source.now.rotation p =
    ap (λ n. n * ggsw_row_count p) c.encrypted_count.ensures.value in
    let room = row_room c.loop-row.row (key_row_count c.args.source.now.rotation p) (glwe_size p) (omega arith) in
    omega (arith, room, c.requires.size)

pub loop-row-preserved : goal.loop-row-preserved
loop-row-preserved c =
    let p = c.args.source.now.p.now in
    let all : c.encrypted_count.result * ggsw_row_count p ≡ key_row_count c.args.source.now.rotation p =
    ap (λ n. n * ggsw_row_count p) c.encrypted_count.ensures.value in
    let row : ℕ = c.loop-row.row in
    let width : ℕ = glwe_size p in
    let room = row_room row (key_row_count c.args.source.now.rotation p) width (omega arith) in
    rows-written (numbered_row c.args.source.now.rotation p c.args.source.now.bits.now c.args.source.now.large.now c.args.source.now.mask_seed.now c.args.source.now.noise_seed.now) row width (row * width)
    ((row + 1) * width) (row * width + width - row * width) c.loop-row.out c.write_row.new.out refl refl
    (omega (arith, room, c.requires.size))
    (ap length c.write_row.ensures
    ∙ key_row-length c.args.source.now.rotation p c.args.source.now.bits.now c.args.source.now.large.now c.args.source.now.mask_seed.now c.args.source.now.noise_seed.now (row / ggsw_row_count p)
    (row / p.pbs_level % (p.glwe_dim + 1)) (row % p.pbs_level) (some_coefficients p c.requires.fields))
    c.loop-row.invariant c.write_row.ensures

pub returns : goal.returns
unfolding key_rows
returns c =
    let p = c.args.source.now.p.now in
    let all : c.encrypted_count.result * ggsw_row_count p ≡ key_row_count c.args.source.now.rotation p =
    ap (λ n. n * ggsw_row_count p) c.encrypted_count.ensures.value in
    let width : ℕ = glwe_size p in
    let e : c.loop-row.row ≡ key_row_count c.args.source.now.rotation p = omega arith in
    sym (take_all (c.loop-row.row * width) c.loop-row.out (omega (arith, c.requires.size, ap (λ k. k * width) e)))
    ∙ c.loop-row.invariant
    ∙ ap (λ k. flat_map (numbered_row c.args.source.now.rotation p c.args.source.now.bits.now c.args.source.now.large.now c.args.source.now.mask_seed.now c.args.source.now.noise_seed.now) (range_with_len 0 k)) e
