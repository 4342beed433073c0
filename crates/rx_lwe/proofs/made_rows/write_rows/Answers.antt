use Rattle.std.proofs.Common.{◌≡◌, ℕ, ◌+◌, ◌-◌, ◌*◌, length, take, ap, sym, refl, ◌∙◌, arith}
use Rattle.std.specs.List.{range_with_len, flat_map}
use Rattle.std.proofs.lemmas.List.{take_all}
use Rattle.rx_params.specs.declared.params.Params.{Params}
use Rattle.rx_params.specs.Derived.{large_dim}
use Rattle.rx_lwe.specs.SwitchKeys.{switch_row, switch_key_words}
use Rattle.rx_lwe.proofs.Made.{row_room, switch_row-length}
use Rattle.rx_lwe.proofs.Rows.{rows-written}
use Rattle.rx_lwe.proofs.made_rows.write_rows.Goals as goal

rows_are : (p : Params) → p.glwe_dim * p.poly_size * p.ks_level ≡ large_dim p * p.ks_level
unfolding large_dim
rows_are p = omega arith

pub loop-row-init : goal.loop-row-init
loop-row-init c =
    let e : 0 * (c.args.p.now.lwe_dim + 1) ≡ 0 = omega arith in
    ap (λ k. take k c.args.out.now) e

pub slice_bounds-words-end : goal.slice_bounds-words-end
slice_bounds-words-end c =
    let p = c.args.p.now in
    let room = row_room c.loop-row.row (large_dim p * p.ks_level) (p.lwe_dim + 1) (omega (arith, rows_are p)) in
    omega (arith, room, c.requires.room)

pub switch_row_into-requires-clause-place : goal.switch_row_into-requires-clause-place
switch_row_into-requires-clause-place c = omega (arith, rows_are c.args.p.now)

pub loop-row-preserved : goal.loop-row-preserved
loop-row-preserved c =
    let p = c.args.p.now in
    let row : ℕ = c.loop-row.row in
    let width : ℕ = p.lwe_dim + 1 in
    let room = row_room row (large_dim p * p.ks_level) width (omega (arith, rows_are p)) in
    rows-written (switch_row p c.args.large.now c.args.small.now c.args.mask_seed.now c.args.noise_seed.now) row width (row * width)
    ((row + 1) * width) (row * width + width - row * width) c.loop-row.out c.switch_row_into.new.out refl refl
    (omega (arith, room, c.requires.room))
    (ap length c.switch_row_into.ensures ∙ switch_row-length p c.args.large.now c.args.small.now c.args.mask_seed.now c.args.noise_seed.now row c.requires.small_size)
    c.loop-row.invariant c.switch_row_into.ensures

pub returns : goal.returns
unfolding switch_key_words
returns c =
    let p = c.args.p.now in
    let width : ℕ = p.lwe_dim + 1 in
    let e : c.loop-row.row ≡ large_dim p * p.ks_level = omega (arith, rows_are p) in
    sym (take_all (c.loop-row.row * width) c.loop-row.out (omega (arith, c.requires.room, ap (λ k. k * width) e)))
    ∙ c.loop-row.invariant
    ∙ ap (λ k. flat_map (switch_row p c.args.large.now c.args.small.now c.args.mask_seed.now c.args.noise_seed.now) (range_with_len 0 k)) e
