use Rattle.std.proofs.Common.{◌≡◌, ◌^◌, ℕ, ◌+◌, ◌*◌, ◌<◌, ◌≤◌, suc, sym, ◌∙◌, ap, arith, subst}
use Rattle.std.proofs.Math.Nat.{pow-suc, pow-le-pow_left}
use Rattle.std.proofs.lemmas.Nat.{mul-le}
use Rattle.rx_costs.proofs.Exponents.{log_is, log_more}
use Rattle.rx_costs.proofs.counts.log_up.Goals as goal

pub loop-power-preserved : goal.loop-power-preserved
loop-power-preserved c =
    let b : ℕ = c.args.base in
    let p : ℕ = c.loop-power.power in
    let t : ℕ = c.loop-power.exponent in
    let h = c.loop-power.invariant in
    let below : b ^ t < c.args.number = subst (λ (k : ℕ). k < c.args.number) h.is (omega arith) in
    let more : (s : ℕ) → c.args.number ≤ b ^ s → t + 1 ≤ s = log_more b c.args.number t c.requires below h.least in
    let wide : 2 ^ 32 ≤ b ^ 32 = pow-le-pow_left c.requires 32 in
    let few : t + 1 ≤ 32 = more 32 (omega arith) in
    let s : suc t ≡ t + 1 = omega arith in
    let e : p * b ≡ b ^ (t + 1) = ap (λ k. k * b) h.is ∙ sym (pow-suc b t) ∙ ap (λ k. b ^ k) s in
    let some : 1 * 1 ≤ p * b = mul-le 1 1 p b h.some (omega arith) in
    let f : c.from-power.result ≡ b = c.from-power.ensures in
    record {
      some = subst (λ (k : ℕ). 1 ≤ p * k) (sym f) (omega arith);
      is = ap (λ k. p * k) f ∙ e;
      few = few;
      least = more;
    }

pub returns-clause-value : goal.returns-clause-value
returns-clause-value c =
    let h = c.loop-power.invariant in
    log_is c.args.base c.args.number c.loop-power.exponent c.requires
    (subst (λ (k : ℕ). c.args.number ≤ k) h.is (omega arith)) h.least
