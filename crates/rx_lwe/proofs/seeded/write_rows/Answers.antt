use Rattle.std.proofs.Common.{◌≡◌, ℕ, ◌+◌, ◌-◌, ◌*◌, ◌<◌, List, ◌++◌, ◌∷◌, [], length, get_or, take, ap, sym, refl, ◌∙◌, arith}
use Rattle.std.proofs.lemmas.List.{take_all}
use Rattle.rx_params.specs.declared.params.Params.{Params}
use Rattle.rx_params.specs.Derived.{large_dim}
use Rattle.rx_torus.specs.Streams.{Draws, stream_of}
use Rattle.rx_lwe.specs.Seeded.{drawn_words, seeded_row, seeded_rows, seeded_switch, switch_masks, switch_row_count}
use Rattle.rx_lwe.proofs.Rows.{rows-written}
use Rattle.rx_lwe.proofs.SeededRows.{row_ends, one_word, seeded_row-length}
use Rattle.rx_lwe.proofs.seeded.write_rows.Goals as goal

rows_are : (p : Params) → p.glwe_dim * p.poly_size * p.ks_level ≡ switch_row_count p
unfolding large_dim
rows_are p = omega arith

pub loop-row-init : goal.loop-row-init
loop-row-init c =
    let e : 0 * (c.args.p.now.lwe_dim + 1) ≡ 0 = omega arith in
    ap (λ k. take k c.args.out.now) e

pub bounds-bodies-row : goal.bounds-bodies-row
bounds-bodies-row c = omega (arith, rows_are c.args.p.now, c.requires.size)

pub slice_bounds-words-end : goal.slice_bounds-words-end
slice_bounds-words-end c =
    let p = c.args.p.now in
    let room = row_ends c.loop-row.row (switch_row_count p) (p.lwe_dim + 1) (omega (arith, rows_are p)) in
    omega (arith, room, c.requires.room)

pub loop-row-preserved : goal.loop-row-preserved
loop-row-preserved c =
    let p = c.args.p.now in
    let row : ℕ = c.loop-row.row in
    let width : ℕ = p.lwe_dim + 1 in
    let mask : ℕ → Draws = switch_masks c.args.mask_seed.now in
    let bodies : List ℕ = c.args.bodies.now in
    let below : row < switch_row_count p = omega (arith, rows_are p) in
    let room = row_ends row (switch_row_count p) width below in
    let stream : c.new-mask.result ≡ mask row =
    c.new-mask.ensures ∙ ap (λ n. stream_of c.args.mask_seed.now n) c.stream_number.ensures in
    let count : length c.loop-row.out ≡ switch_row_count p * width = omega (arith, c.loop-row.auto.out, c.requires.room) in
    let written : c.write_row.new.out ≡ seeded_row mask p.lwe_dim 1 bodies row =
    c.write_row.ensures
    ∙ ap (λ s. drawn_words p.lwe_dim s ++ get_or bodies row 0 ∷ []) stream
    ∙ ap (λ ys. drawn_words p.lwe_dim (mask row) ++ ys) (sym (one_word bodies row (omega (arith, below, c.requires.size)))) in
    rows-written (seeded_row mask p.lwe_dim 1 bodies) row width (row * width)
    ((row + 1) * width) (row * width + width - row * width) c.loop-row.out c.write_row.new.out refl refl
    (omega (arith, room, count))
    (ap length written ∙ seeded_row-length mask p.lwe_dim 1 (switch_row_count p) row bodies (omega (arith, c.requires.size)) below)
    c.loop-row.invariant written

pub returns : goal.returns
unfolding seeded_switch
returns c =
    let p = c.args.p.now in
    let width : ℕ = p.lwe_dim + 1 in
    let e : c.loop-row.row ≡ switch_row_count p = omega (arith, rows_are p) in
    sym (take_all (c.loop-row.row * width) c.loop-row.out (omega (arith, c.requires.room, ap (λ k. k * width) e)))
    ∙ c.loop-row.invariant
    ∙ ap (λ k. seeded_rows (switch_masks c.args.mask_seed.now) p.lwe_dim 1 k c.args.bodies.now) e
