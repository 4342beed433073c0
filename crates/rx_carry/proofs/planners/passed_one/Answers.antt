use Rattle.std.proofs.Common.{◌≡◌, ℕ, ◌≤◌, arith}
use Rattle.std.proofs.lemmas.Result.{IfOk-weaker}
use Rattle.rx_plan.proofs.PerBlock.{space_low}
use Rattle.rx_carry.specs.Carries.{combine, state_of, flipped}
use Rattle.rx_plan.proofs.PerBlock.{table_here}
use Rattle.rx_carry.proofs.Summed.{first_is_table, one_out}
use Rattle.rx_carry.proofs.planners.passed_one.Goals as goal

two : (r s : ℕ) → r ≡ s → 2 ≤ r → 2 ≤ s
two r s e h = omega arith

pub look_up-requires-clause-table : goal.look_up-requires-clause-table
look_up-requires-clause-table c =
    let p = c.args.pen.now in
    first_is_table c.args.operation c.args.invert p.space c.deref.result.now (two c.space-space.result p.space c.space-space.ensures.value (space_low c.space-space.result c.space-space.ensures.known))
    (table_here (λ u i. flipped c.args.invert (combine (state_of c.args.operation u i) 0)) c.space-space.result p.space c.in_ok-table.table.items c.deref.result.now c.space-space.ensures.value c.deref.ensures.value c.in_ok-table.ensures)

pub returns-clause-planned : goal.returns-clause-planned
returns-clause-planned c =
    let p = c.args.pen.now in
    let h = table_here (λ u i. flipped c.args.invert (combine (state_of c.args.operation u i) 0)) c.space-space.result p.space c.in_ok-table.table.items c.deref.result.now c.space-space.ensures.value c.deref.ensures.value c.in_ok-table.ensures in
    IfOk-weaker c.look_up.result _ _ (λ k m. one_out c.args.operation p c.look_up.new.pen c.args.a.now c.args.b.now c.deref.result.now k c.args.invert c.requires.one c.requires.same c.requires.first c.requires.second
    (two c.space-space.result p.space c.space-space.ensures.value (space_low c.space-space.result c.space-space.ensures.known)) c.space-space.ensures.bounded h m) c.look_up.ensures.makes
