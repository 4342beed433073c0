use Rattle.std.proofs.Common.{rules, ◌≡◌, ℕ, ℤ, pos, neg_ℤ, ◌≤ℤ◌, ◌<ℤ◌, ◌-◌, ◌<◌, ◌*◌, ◌+◌, ◌^◌, length, get_or, ◌/◌, ap, sym, ◌∙◌, arith, subst, set}
use Rattle.std.proofs.lemmas.Int.{ints, to_z-of_z}
use Rattle.std.proofs.Math.Nat.{pow-zero}
use Rattle.rx_laws.specs.Digits.{rounded}
use Rattle.rx_laws.proofs.Digits.{rounded_multiple}
use Rattle.rx_laws.proofs.DigitLoop.{taken-none, digits_step, digits_done, set_before_last}
use Rattle.rx_torus.proofs.signed_digits.digits.Invariants.{DigitsSoFar}
use mir.Syntax.{w64}
use mir.Val.{SFits, of_z, to_z}
use Rattle.rx_torus.proofs.signed_digits.digits.Goals as goal

pub loop-done-init : goal.loop-done-init
loop-done-init c =
    let b : ℕ = c.args.base_log in
    let n : ℕ = length c.args.out.now in
    let v : ℕ = c.round_to.result / 2 ^ (64 - b * c.args.levels) in
    let z : b * 0 ≡ 0 = omega arith in
    let one : 2 ^ (b * 0) ≡ 1 = ap (λ k. 2 ^ k) z ∙ pow-zero 2 in
    let w : v * 2 ^ (b * 0) ≡ v * 1 = ap (λ k. v * k) one in
    record {
      total = omega (arith, ints, taken-none b n (λ t. get_or c.args.out.now t (pos 0)));
      low = λ t p q. absurd (omega arith);
      high = λ t p q. absurd (omega arith);
    }

pub loop-done-preserved : goal.loop-done-preserved
loop-done-preserved c =
    let b : ℕ = c.args.base_log in
    let n : ℕ = length c.args.out.now in
    let m : ℕ = c.loop-done.done in
    let ds = c.loop-done.out in
    let d : ℤ = c.split_digit-digit.result.0 in
    let next : ℕ = c.split_digit-digit.result.1 in
    let start : ℕ = c.round_to.result / 2 ^ (64 - b * c.args.levels) in
    let fits : SFits w64 d = search rules in
    let e : d ≡ to_z w64 (of_z w64 d) = sym (to_z-of_z w64 d fits) in
    let l : length ds ≡ n = c.loop-done.auto.out in
    let p : m < n = c.loop-done-test.true in
    subst (λ (x : ℤ). DigitsSoFar b n (m + 1) next start (set ds (n - 1 - m) x)) e
    record {
      total = digits_step b n m c.loop-done.rest next d ds (pos start) p l c.split_digit-digit.ensures.whole c.loop-done.invariant.total;
      low = set_before_last (λ x. neg_ℤ (pos (2 ^ (b - 1))) ≤ℤ x) ds n m d l p c.split_digit-digit.ensures.low c.loop-done.invariant.low;
      high = set_before_last (λ x. x <ℤ pos (2 ^ (b - 1))) ds n m d l p c.split_digit-digit.ensures.high c.loop-done.invariant.high;
    }

pub returns : goal.returns
returns c =
    let b : ℕ = c.args.base_log in
    let n : ℕ = length c.args.out.now in
    let k : ℕ = c.args.levels in
    let w : ℕ = c.args.word in
    let e : n ≡ k = c.requires.places in
    let l : length c.loop-done.out ≡ n = c.loop-done.auto.out in
    let m : c.loop-done.done ≡ n = omega arith in
    let v : ℕ = c.round_to.result / 2 ^ (64 - b * k) in
    let g : DigitsSoFar b k k c.loop-done.rest v c.loop-done.out =
    subst (λ (x : ℕ). DigitsSoFar b x x c.loop-done.rest v c.loop-done.out) e
    (subst (λ (x : ℕ). DigitsSoFar b n x c.loop-done.rest v c.loop-done.out) m c.loop-done.invariant) in
    let r : v * 2 ^ (64 - b * k) ≡ rounded w (b * k) =
    ap (λ x. x / 2 ^ (64 - b * k) * 2 ^ (64 - b * k)) c.round_to.ensures ∙ rounded_multiple w (b * k) (omega arith) in
    record {
      count = l ∙ e;
      low = λ t p. g.low t (omega arith) p;
      high = λ t p. g.high t (omega arith) p;
      total = digits_done w b k v c.loop-done.rest (λ t. get_or c.loop-done.out t (pos 0)) (omega arith) r g.total;
    }
