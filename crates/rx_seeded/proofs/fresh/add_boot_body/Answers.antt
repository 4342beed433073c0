use Rattle.std.proofs.Common.{◌≡◌, ap, ◌∙◌, arith}
use Rattle.rx_params.specs.declared.params.Params.{Params}
use Rattle.rx_params.specs.Derived.{large_dim}
use Rattle.rx_boot.proofs.SeededKeys.{row_width}
use Rattle.rx_seeded.proofs.fresh.add_boot_body.Goals as goal

pub slice_bounds-write_words-count : goal.slice_bounds-write_words-count
slice_bounds-write_words-count c =
    let p : Params = c.args.rows.now.params in
    let masks : c.large_dim-masks.result ≡ large_dim p = c.large_dim-masks.ensures.value ∙ ap large_dim c.params.ensures.value in
    omega (arith, masks, row_width p, c.boot_row_into.auto.out, c.requires.row)

pub slice_bounds-write_words-start : goal.slice_bounds-write_words-start
slice_bounds-write_words-start c = slice_bounds-write_words-count c
