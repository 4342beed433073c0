use Rattle.std.proofs.Common.{◌≡◌, ◌*◌, ap, arith}
use Rattle.std.proofs.Math.Facts.{Fits-of_lt}
use Rattle.rx_glwe.specs.Sizes.{ggsw_size}
use Rattle.rx_multi.specs.PairKeys.{pair_size}
use Rattle.rx_multi.proofs.Keys.{pair_size-few}
use Rattle.rx_multi.proofs.word_counts.pair_row_words.Goals as goal

pub overflow_mul-result-3 : goal.overflow_mul-result-3
overflow_mul-result-3 c =
    let p = c.args.p.now in
    let same : c.encrypted_count-bits.result * ggsw_size p ≡ pair_size p = ap (λ n. n * ggsw_size p) c.encrypted_count-bits.ensures.value in
    Fits-of_lt (omega (arith, same, pair_size-few p c.requires))

pub returns-clause-few : goal.returns-clause-few
returns-clause-few c =
    let p = c.args.p.now in
    let same : c.encrypted_count-bits.result * ggsw_size p ≡ pair_size p = ap (λ n. n * ggsw_size p) c.encrypted_count-bits.ensures.value in
    omega (arith, same, pair_size-few p c.requires)
