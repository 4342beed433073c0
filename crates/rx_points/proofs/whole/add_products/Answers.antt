use Rattle.std.proofs.Common.{◌≡◌, ℕ, ◌*◌, ◌/◌, length, get_or, refl, ◌∙◌, ap, arith, inl, inr}
use Rattle.std.proofs.lemmas.Bool.{cases_lt}
use Rattle.std.proofs.lemmas.List.{get_or_past}
use Rattle.rx_laws.specs.Sum.{sum_to}
use Rattle.rx_ring.specs.Polynomial.{product}
use Rattle.rx_points.proofs.RowPoints.{elements_are}
use Rattle.rx_points.proofs.whole.add_products.Goals as goal

pub all_products-requires-clause-vectors : goal.all_products-requires-clause-vectors
all_products-requires-clause-vectors c =
    let even : length c.args.acc.now / 16 ≡ 8 * (2 * (length c.args.acc.now / 256)) = omega (arith, c.requires.words) in
    let whole : c.args.rows * (length c.args.acc.now / 16) ≡ 8 * (c.args.rows * (2 * (length c.args.acc.now / 256))) =
    ap (λ k. c.args.rows * k) even ∙ omega arith in
    omega (arith, whole)

pub returns-clause-sum : goal.returns-clause-sum
returns-clause-sum c = λ a b are key i p.
    let size : ℕ = length c.args.acc.now in
    let places : ℕ = size / 16 in
    let none : (j : ℕ) → get_or c.fill.new.self j 0 ≡ 0 =
    λ j. elim (cases_lt j (length c.fill.new.self)) as (λ _. get_or c.fill.new.self j 0 ≡ 0) [
      | inl r ↦ c.fill.ensures.clones j 0 (omega (arith, r, c.fill.ensures.len)) refl
      | inr r ↦ get_or_past c.fill.new.self j 0 r
    ] in
    let whole : size ≡ 16 * places = omega (arith, c.requires.words) in
    let even : places ≡ 16 * (size / 256) = omega (arith, c.requires.words) in
    c.add_elements.ensures (λ k. sum_to c.args.rows (λ w. product (length c.args.acc.now) (a w) (b w) k))
    (λ k q. elements_are c.args.rows places (size / 256) size k a b c.args.points.now c.args.limbs.now c.fill.new.self c.all_products.new.sums c.all_up.new.sums
    c.requires.some even whole (omega (arith, q, whole)) none are key (c.all_products.ensures.products key.value key.limbs) c.all_up.ensures.near c.all_up.ensures.away)
    i (omega (arith, p, whole))
