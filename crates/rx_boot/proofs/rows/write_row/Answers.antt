use Rattle.std.proofs.Common.{ap, ◌∙◌}
use Rattle.rx_torus.specs.Kinds.{stream_number}
use Rattle.rx_boot.proofs.Sizes.{some_coefficients}
use Rattle.rx_boot.proofs.RowWords.{encrypted_row}
use Rattle.rx_boot.proofs.rows.write_row.Goals as goal

pub returns : goal.returns
returns c =
    encrypted_row c.args.source.now.rotation c.args.source.now.p.now c.args.source.now.bits.now c.args.source.now.large.now c.args.source.now.mask_seed.now c.args.source.now.noise_seed.now c.hide.new.hidden
    c.encrypt_row_into.new.out c.new-mask.result c.new-noise.result c.args.row c.stream_number.result c.stream_number-2.result
    (some_coefficients c.args.source.now.p.now c.requires.fields) (c.stream_number.ensures ∙ ap (λ kind. stream_number kind c.args.row) c.mask_kind.ensures) (c.stream_number-2.ensures ∙ ap (λ kind. stream_number kind c.args.row) c.noise_kind.ensures) c.new-mask.ensures c.new-noise.ensures
    c.hide.ensures c.encrypt_row_into.ensures.row
