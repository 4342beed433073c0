use Rattle.std.proofs.Common.{◌≡◌, ℕ, ◌≤◌, ◌+◌, ◌-◌, ◌*◌, ◌/◌, ◌%◌, ◌^◌, length, sym, refl, ◌∙◌, ap, arith, subst}
use Rattle.std.proofs.lemmas.Nat.{mul-le}
use Rattle.rx_net.proofs.Grows.{extends_onward}
use Rattle.rx_costs.specs.Rounds.{round_jobs}
use Rattle.rx_plan.specs.Planned.{AreCells}
use Rattle.rx_plan.proofs.PerBlock.{table_here}
use Rattle.rx_plan.proofs.RowCells.{nought_kept}
use Rattle.rx_mul.proofs.LastSum.{mul_planned}
use Rattle.std.proofs.Common.{Result, Ok, Err, IfOk}
use Rattle.rx_mul.proofs.planner.mul_cells.Goals as goal

pub nought-requires : goal.nought-requires
nought-requires c = omega (arith, c.requires.room, c.requires.some)

pub products-requires-clause-room : goal.products-requires-clause-room
products-requires-clause-room c =
    let z = c.in_ok-nought.ensures.gives in
    omega (arith, z.jobs_in, z.extends.jobs_grow, c.requires.room, c.requires.some)

pub settle-requires-clause-shared : goal.settle-requires-clause-shared
settle-requires-clause-shared c = record {
  wide = c.requires.some;
  nought = nought_kept c.nought.new.pen c.products.new.pen c.in_ok-nought.nought c.in_ok-rows.ensures.kept c.in_ok-nought.ensures.nought;
  digits =
      table_here (λ u i. i % u) c.space-space.result c.products.new.pen.space c.in_ok-digits.digits.items c.in_ok-digits.digits.items
      (c.space-space.ensures.value ∙ sym c.in_ok-nought.ensures.kept.space ∙ sym c.in_ok-rows.ensures.kept.space) refl c.in_ok-digits.ensures;
  carries =
      table_here (λ u i. i / u) c.space-space.result c.products.new.pen.space c.in_ok-carries.carries.items c.in_ok-carries.carries.items
      (c.space-space.ensures.value ∙ sym c.in_ok-nought.ensures.kept.space ∙ sym c.in_ok-rows.ensures.kept.space) refl c.in_ok-carries.ensures;
}

pub settle-requires-clause-few : goal.settle-requires-clause-few
settle-requires-clause-few c =
    let n : ℕ = length c.args.a.now in
    let m : n * 1 ≤ n * n = mul-le n 1 n n (omega arith) c.requires.some in
    omega (arith, c.requires.room)

pub settle-requires-clause-size : goal.settle-requires-clause-size
settle-requires-clause-size c = c.in_ok-rows.ensures.planned.count_is

pub settle-requires-clause-rows : goal.settle-requires-clause-rows
settle-requires-clause-rows c =
    let p = c.in_ok-rows.ensures.planned in
    subst (λ (s : ℕ). AreCells c.products.new.pen (2 ^ s - 1) c.in_ok-rows.rows.items) (sym p.extends.space) p.cells_are

pub settle-requires-clause-room : goal.settle-requires-clause-room
settle-requires-clause-room c =
    let p = c.in_ok-rows.ensures.planned in
    let z = c.in_ok-nought.ensures.gives in
    let w : ℕ = length c.args.a.now in
    let s : round_jobs w (2 ^ c.products.new.pen.space + 1) (2 * w - 1) ≡ round_jobs w (2 ^ c.args.pen.now.space + 1) (2 * w - 1) = ap (λ s. round_jobs w (2 ^ s + 1) (2 * w - 1)) (p.extends.space ∙ z.extends.space) in
    omega (arith, s, z.jobs_in, z.extends.jobs_grow, p.jobs_in, p.extends.jobs_grow, c.requires.room, c.requires.some)

pub returns-clause-kept : goal.returns-clause-kept
returns-clause-kept c =
    extends_onward c.args.pen.now c.products.new.pen c.settle.new.pen (extends_onward c.args.pen.now c.nought.new.pen c.products.new.pen c.in_ok-nought.ensures.kept c.in_ok-rows.ensures.kept) c.settle.ensures.kept

ok_both : {T E : Type 0} (r : Result T E) (P Q R : T → Type 0) → ((x : T) → P x → Q x → R x) → IfOk r P → IfOk r Q → IfOk r R
ok_both (Ok x) P Q R f p q = f x p q
ok_both (Err e) P Q R f p q = p

pub returns-clause-planned : goal.returns-clause-planned
returns-clause-planned c =
    let z = c.in_ok-nought.ensures in
    let r = c.requires in
    ok_both c.settle.result _ _ _ (λ k q v.
    mul_planned c.args.pen.now c.nought.new.pen c.products.new.pen c.settle.new.pen c.in_ok-nought.nought c.in_ok-rows.rows.items k.items c.args.a.now c.args.b.now r.some r.first r.second z.gives z.nought
    c.in_ok-rows.ensures.planned q c.in_ok-rows.ensures.value v) c.settle.ensures.planned c.settle.ensures.value
