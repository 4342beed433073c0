use Rattle.std.proofs.Common.{◌≡◌, ◌<◌, ◌≤◌, ◌^◌, ℕ, inl, inr, length, refl, sym, ap, arith, subst}
use Rattle.std.proofs.lemmas.Result.{IfOk-weaker}
use Rattle.std.proofs.Math.Nat.{pow-zero}
use Rattle.std.proofs.lemmas.Bool.{cases_lt}
use Rattle.std.proofs.lemmas.Nat.{pow_pos}
use Rattle.rx_params.specs.Derived.{noise_limit}
use Rattle.rx_costs.specs.Logs.{log_up}
use Rattle.rx_costs.proofs.Exponents.{log_least}
use Rattle.rx_cmp.proofs.Equal.{more_planned}
use Rattle.rx_cmp.proofs.equality.unequal_more.Goals as goal

log_some : (base n : ℕ) → 2 ≤ base → 2 ≤ n → 1 ≤ log_up base n
log_some base n b h =
    let t : ℕ = log_up base n in
    let e = (log_least base n b).enough in
    let z : t < 1 → ⊥ = λ l. let o : t ≡ 0 = omega arith in let p : base ^ t ≡ base ^ 0 = ap (λ k. base ^ k) o in absurd (omega (arith, pow-zero base)) in
    elim (cases_lt t 1) [ inl l ↦ absurd (z l) | inr l ↦ l ]

pub returns-clause-planned : goal.returns-clause-planned
returns-clause-planned c =
    let p = c.args.pen.now in
    let one = c.leaves.new.pen in
    let n : ℕ = length c.args.a.now in
    let q = c.in_ok-nodes.ensures.planned in
    let base : ℕ = noise_limit p.space in
    let t : ℕ = log_up base n in
    let two : 2 ≤ base = omega (arith, pow_pos p.space) in
    let enough : n ≤ base ^ t = (log_least base n two).enough in
    let e : noise_limit one.space ≡ base = ap noise_limit q.extends.space in
    let fits : length c.in_ok-nodes.nodes.items ≤ noise_limit one.space ^ t = subst (λ (b : ℕ). length c.in_ok-nodes.nodes.items ≤ b ^ t) (sym e) (subst (λ (k : ℕ). k ≤ base ^ t) (sym q.count_is) enough) in
    IfOk-weaker c.any_set.result _ _ (λ k m.
    more_planned p one c.any_set.new.pen c.args.a.now c.args.b.now c.in_ok-nodes.nodes.items k t c.args.invert c.space-space.ensures.bounded c.requires.same c.requires.more (log_some base n two c.requires.more) refl c.requires.first c.requires.second
    q (m t fits)) c.any_set.ensures.planned
