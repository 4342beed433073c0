use Rattle.std.proofs.Common.{◌≡◌, ℕ, ◌+◌, ◌*◌, ◌/◌, ◌%◌, ◌≤◌, length, ◌∙◌, ap, arith, refl}
use Rattle.std.proofs.Math.Nat.{mul-le-mul_right}
use Rattle.rx_params.specs.Derived.{large_dim}
use Rattle.rx_boot.proofs.HiddenWords.{hidden_polynomial, hidden_number}
use Rattle.rx_boot.proofs.hidden.hide.Goals as goal

pub slice_bounds-hide_opposite-end : goal.slice_bounds-hide_opposite-end
unfolding large_dim
slice_bounds-hide_opposite-end c =
    let n : ℕ = c.args.p.now.poly_size in
    let j : ℕ = c.args.number / c.args.p.now.pbs_level % (c.args.p.now.glwe_dim + 1) in
    let room : (j + 1) * n ≤ c.args.p.now.glwe_dim * n = mul-le-mul_right n (omega arith) in
    let size : length c.bits.result.now ≡ c.args.p.now.glwe_dim * n = ap length c.bits.ensures.value ∙ c.requires.large_size in
    omega (arith, room, size)

pub returns-then-polynomial-p : goal.returns-then-polynomial-p
returns-then-polynomial-p c =
    let p = c.args.p.now in
    let row : ℕ = c.args.number in
    hidden_polynomial p c.args.bits.now c.args.large.now c.args.bits.now c.bits.result.now c.hide_opposite.new.hidden
    (row / ((p.glwe_dim + 1) * p.pbs_level)) (row / p.pbs_level % (p.glwe_dim + 1)) (row % p.pbs_level) (length c.args.hidden.now) _
    c.requires.room (omega arith) refl c.bits.ensures.value c.if-polynomial-p.true c.hide_opposite.ensures

pub returns-else-polynomial-p : goal.returns-else-polynomial-p
returns-else-polynomial-p c =
    let p = c.args.p.now in
    let row : ℕ = c.args.number in
    hidden_number p c.args.bits.now c.args.large.now c.args.bits.now c.hide_number.new.hidden
    (row / ((p.glwe_dim + 1) * p.pbs_level)) (row / p.pbs_level % (p.glwe_dim + 1)) (row % p.pbs_level) (length c.args.hidden.now)
    c.requires.room refl c.if-polynomial-p.false c.hide_number.ensures
