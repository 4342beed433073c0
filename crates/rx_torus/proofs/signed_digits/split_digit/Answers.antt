use Rattle.std.proofs.Common.{◌≡◌, ℕ, suc, ap, ◌∙◌, arith, ◌-◌, ◌^◌, ◌*◌, ◌%◌, ◌/◌, ◌≤◌}
use Rattle.std.proofs.lemmas.Nat.{one_shl, pow_pos, div-add-mod'}
use Rattle.std.proofs.Math.Nat.{mul-le-mul_left, pow-succ'}
use Rattle.rx_torus.proofs.signed_digits.split_digit.Goals as goal

pub overflow_add-result : goal.overflow_add-result
overflow_add-result c =
    let b : ℕ = c.args.base_log in
    let base : ℕ = 1 * 2 ^ b % 2 ^ 64 in
    let e : base ≡ 2 ^ b = one_shl b 64 (omega (arith, c.requires.base_high)) in
    let i : b ≡ suc (b - 1) = omega (arith, c.requires.base_low) in
    let f : 2 ^ b ≡ 2 * 2 ^ (b - 1) = ap (λ k. 2 ^ k) i ∙ pow-succ' 2 (b - 1) in
    let two : 2 ≤ base = omega (arith, e, f, pow_pos (b - 1)) in
    omega (arith, div-add-mod' c.args.rest base, mul-le-mul_left (c.args.rest / base) two, c.ranges.rest)
