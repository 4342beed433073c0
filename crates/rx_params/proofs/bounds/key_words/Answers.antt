use Rattle.std.proofs.Common.{◌≤◌, ◌+◌, ◌*◌, ◌^◌, arith}
use Rattle.std.proofs.Math.Nat.{mul-le-mul}
use Rattle.rx_params.proofs.Rotations.{words_by-with}
use Rattle.rx_params.proofs.Sizes.{poly_size-high, large_dim-high, square}
use Rattle.rx_params.proofs.bounds.key_words.Goals as goal

pub overflow_mul-result : goal.overflow_mul-result
overflow_mul-result c =
    let dim : c.args.p.now.glwe_dim + 1 ≤ 5 = omega (arith, c.requires.glwe_dim) in
    let row : (c.args.p.now.glwe_dim + 1) * c.args.p.now.poly_size ≤ 5 * 4096 = mul-le-mul dim (poly_size-high c.args.p.now c.requires) in
    let rows : c.encrypted_count.result * (c.args.p.now.glwe_dim + 1) * c.args.p.now.pbs_level ≤ 1536 * 5 * 30 =
    mul-le-mul (mul-le-mul c.encrypted_count.ensures.few dim) c.requires.pbs_level.0.1 in
    let row_is : c.from-row.result ≤ 5 * 4096 = omega (arith, c.from-row.ensures) in
    let rows_is : c.from-rows.result ≤ 1536 * 5 * 30 = omega (arith, c.from-rows.ensures) in
    let words : c.from-rows.result * c.from-row.result ≤ 1536 * 5 * 30 * (5 * 4096) = mul-le-mul rows_is row_is in
    omega arith

pub overflow_add-result : goal.overflow_add-result
overflow_add-result c =
    let dim : c.args.p.now.glwe_dim + 1 ≤ 5 = omega (arith, c.requires.glwe_dim) in
    let row : (c.args.p.now.glwe_dim + 1) * c.args.p.now.poly_size ≤ 5 * 4096 = mul-le-mul dim (poly_size-high c.args.p.now c.requires) in
    let rows : c.encrypted_count.result * (c.args.p.now.glwe_dim + 1) * c.args.p.now.pbs_level ≤ 1536 * 5 * 30 =
    mul-le-mul (mul-le-mul c.encrypted_count.ensures.few dim) c.requires.pbs_level.0.1 in
    let switch_rows : c.args.p.now.glwe_dim * c.args.p.now.poly_size * c.args.p.now.ks_level ≤ 2 ^ 14 * 30 =
    mul-le-mul (large_dim-high c.args.p.now c.requires) c.requires.ks_level.0.1 in
    let row_is : c.from-row.result ≤ 5 * 4096 = omega (arith, c.from-row.ensures) in
    let rows_is : c.from-rows.result ≤ 1536 * 5 * 30 = omega (arith, c.from-rows.ensures) in
    let switch_is : c.from-switch_rows.result ≤ 2 ^ 14 * 30 = omega (arith, c.from-switch_rows.ensures) in
    let mask_is : c.from.result ≤ 1025 = omega (arith, c.from.ensures, c.requires.lwe_dim) in
    let words : c.from-rows.result * c.from-row.result ≤ 1536 * 5 * 30 * (5 * 4096) = mul-le-mul rows_is row_is in
    let switch_words : c.from-switch_rows.result * c.from.result ≤ 2 ^ 14 * 30 * 1025 = mul-le-mul switch_is mask_is in
    omega arith

pub returns : goal.returns
returns c =
    rw (c.from-rows.ensures, c.from-row.ensures, c.from-switch_rows.ensures, c.from.ensures, words_by-with c.args.rotation c.args.p.now, c.encrypted_count.ensures.value, square (c.args.p.now.glwe_dim + 1)) (omega arith)
