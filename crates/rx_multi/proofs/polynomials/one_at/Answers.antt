use Rattle.std.proofs.Common.{ℕ, ◌+◌, ◌/◌, ◌%◌, arith}
use Rattle.rx_multi.proofs.ChosenParts.{one_here, one_other}
use Rattle.rx_multi.proofs.polynomials.one_at.Goals as goal

pub returns-then-place-count : goal.returns-then-place-count
returns-then-place-count c x =
    let p = c.args.p.now in
    let row : ℕ = c.args.place / (p.glwe_dim + 1) in
    one_here p.pbs_base_log (row / p.pbs_level) (row % p.pbs_level) (c.args.place % (p.glwe_dim + 1)) c.two_to.result x
    (omega (arith, c.if-place-count.true)) c.two_to.ensures

pub returns-else-place-count : goal.returns-else-place-count
returns-else-place-count c x =
    let p = c.args.p.now in
    let row : ℕ = c.args.place / (p.glwe_dim + 1) in
    one_other p.pbs_base_log (row / p.pbs_level) (row % p.pbs_level) (c.args.place % (p.glwe_dim + 1)) x c.if-place-count.false
