use Rattle.std.proofs.Common.{ℕ, suc, ◌-◌, ◌*◌, ◌/◌, ◌%◌, ◌^◌, ◌<◌, length, get_or, ap, ◌∙◌, arith}
use Rattle.std.proofs.lemmas.Nat.{div_below}
use Rattle.rx_params.specs.Derived.{large_dim}
use Rattle.rx_lwe.proofs.Made.{message_whole, switch_row-is}
use Rattle.rx_lwe.proofs.made_rows.switch_row_into.Goals as goal

pub returns : goal.returns
returns c =
    let p = c.args.p.now in
    let row : ℕ = c.args.row in
    let place : ℕ = row / p.ks_level in
    let power : ℕ = 2 ^ (64 - p.ks_base_log * suc (row % p.ks_level)) in
    let bit : ℕ = get_or c.bits.result.now place 0 in
    let within : place < length c.bits.result.now =
    omega (arith, div_below row p.ks_level (large_dim p) (omega (arith, c.requires.fields.ks_level.0.0)) c.requires.place, ap length c.bits.ensures.value, c.requires.large_size) in
    let binary : bit < 2 = c.bits.ensures.binary place within in
    switch_row-is p c.args.large.now c.args.small.now c.args.mask_seed.now c.args.noise_seed.now row c.encrypt_into.new.out
    c.new-mask.result c.new-noise.result c.stream_number.result c.stream_number-2.result _ c.encrypt_into.ensures.words
    c.new-mask.ensures c.stream_number.ensures c.new-noise.ensures c.stream_number-2.ensures
    (message_whole bit p.ks_base_log (row % p.ks_level) binary c.requires.fields.ks_base_log.0
    ∙ ap (λ xs. get_or xs place 0 * power) c.bits.ensures.value)
