use Rattle.std.proofs.Common.{◌≡◌, ℕ, ◌+◌, ◌-◌, ◌*◌, ◌%◌, ◌^◌, ap, sym, ◌∙◌, arith}
use Rattle.rx_torus.specs.Offsets.{halves, offset}
use Rattle.rx_torus.proofs.Offset.{halves_none, halves_step, next_below, some_bits, offset_below, offset_is}
use Rattle.rx_torus.proofs.signed_digits.digit_offset.Goals as goal

pub loop-init : goal.loop-init
loop-init c = sym (halves_none c.args.base_log)

pub overflow_add-sum : goal.overflow_add-sum
overflow_add-sum c =
    let b : ℕ = c.args.base_log in
    let l : ℕ = c.args.levels in
    let j : ℕ = c.loop.counter in
    let e : c.loop.sum * 2 ^ b % 2 ^ 64 + 1 * 2 ^ (b - 1) % 2 ^ 64 ≡ halves b (j + 1) =
    halves_step b l j c.loop.sum c.requires.base_low c.requires.all c.loop-test.true c.loop.invariant in
    omega (arith, e, next_below b l j c.requires.base_low c.requires.all c.loop-test.true)

pub loop-preserved : goal.loop-preserved
loop-preserved c =
    halves_step c.args.base_log c.args.levels c.loop.counter c.loop.sum c.requires.base_low c.requires.all c.loop-test.true c.loop.invariant

all : (b l j s : ℕ) → j ≡ l → s ≡ halves b j → s ≡ halves b l
all b l j s e f = f ∙ ap (halves b) e

pub overflow_shl-result : goal.overflow_shl-result
overflow_shl-result c = omega (arith, some_bits c.args.base_log c.args.levels c.requires.base_low c.requires.levels_low)

pub overflow_add-result : goal.overflow_add-result
overflow_add-result c =
    let b : ℕ = c.args.base_log in
    let l : ℕ = c.args.levels in
    let s : ℕ = c.loop.sum in
    let is_s : s ≡ halves b l = all b l c.loop.counter s (omega arith) c.loop.invariant in
    let e : s * 2 ^ (64 - b * l) % 2 ^ 64 + 1 * 2 ^ (63 - b * l) % 2 ^ 64 ≡ offset b l =
    offset_is b l s c.requires.base_low c.requires.levels_low c.requires.all is_s in
    omega (arith, e, offset_below b l c.requires.base_low c.requires.levels_low c.requires.all)

pub returns : goal.returns
returns c =
    let b : ℕ = c.args.base_log in
    let l : ℕ = c.args.levels in
    let s : ℕ = c.loop.sum in
    offset_is b l s c.requires.base_low c.requires.levels_low c.requires.all (all b l c.loop.counter s (omega arith) c.loop.invariant)
