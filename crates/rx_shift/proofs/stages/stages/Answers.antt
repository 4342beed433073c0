use Rattle.std.proofs.Common.{◌≡◌, ℕ, List, ◌<◌, ◌≤◌, ◌-◌, ◌*◌, ◌^◌, length, get_or, sym, ◌∙◌, ap, arith, subst}
use Rattle.rx_plan.specs.Planned.{Each, EachOf, IsCell, AreCells, Planned}
use Rattle.rx_plan.proofs.Kept.{cell_kept}
use Rattle.rx_plan.proofs.RowCells.{nought_kept}
use Rattle.rx_shift.specs.Shifts.{stage_jobs}
use Rattle.rx_shift.proofs.Staging.{Staged, stage_says, stages_say, staged_start, staged_more, stage_room, small_distance}
use Rattle.rx_shift.proofs.stages.stages.Goals as goal

pub loop-j-init : goal.loop-j-init
loop-j-init c = rw c.in_ok-cells.ensures.items (staged_start c.args.pen.now c.args.direction c.args.a.now c.args.bits.now c.space-space.ensures.bounded c.requires.blocks)

pub loop-j-preserved : goal.loop-j-preserved
loop-j-preserved c =
    let now = c.loop-j.pen in
    let new = c.stage.new.pen in
    let bit : ℕ = get_or c.args.bits.now c.loop-j.j 0 in
    let ds : List ℕ = c.in_ok-cells-2.cells.items in
    let d = c.args.direction in
    let q = subst (λ (cs : List ℕ). Planned now new ds (λ _. 2 ^ now.space - 1) (length cs) (stage_jobs (length cs)) 2 (λ P. P bit × Each cs P) (stage_says now d cs bit c.loop-j.distance))
    c.deref.ensures.value c.in_ok-cells-2.ensures.planned in
    staged_more c.args.pen.now now new d c.args.a.now c.args.bits.now c.loop-j.cells.items ds c.loop-j.j c.loop-j.distance
    c.space-space.ensures.bounded c.requires.blocks c.requires.bits c.loop-j-test.true c.loop-j.invariant q

pub stage-requires-clause-some : goal.stage-requires-clause-some
stage-requires-clause-some c = omega (arith, ap length c.deref.ensures.value, c.loop-j.invariant.planned.count_is)

pub stage-requires-clause-blocks : goal.stage-requires-clause-blocks
stage-requires-clause-blocks c =
    rw c.deref.ensures.value (subst (λ (s : ℕ). AreCells c.loop-j.pen (2 ^ s - 1) c.loop-j.cells.items) (sym c.loop-j.invariant.planned.extends.space) c.loop-j.invariant.planned.cells_are)

pub stage-requires-clause-bit : goal.stage-requires-clause-bit
stage-requires-clause-bit c = cell_kept c.args.pen.now c.loop-j.pen 1 (get_or c.args.bits.now c.loop-j.j 0) c.loop-j.invariant.planned.extends (c.requires.bits c.loop-j.j c.loop-j-test.true)

pub stage-requires-clause-nought : goal.stage-requires-clause-nought
stage-requires-clause-nought c = nought_kept c.args.pen.now c.loop-j.pen c.args.nought c.loop-j.invariant.planned.extends c.requires.nought

pub stage-requires-clause-room : goal.stage-requires-clause-room
stage-requires-clause-room c =
    let p = c.loop-j.invariant.planned in
    omega (arith, stage_room (length c.args.a.now) c.loop-j.j (length c.args.bits.now) c.loop-j-test.true, ap length c.deref.ensures.value, p.count_is, p.jobs_in, p.extends.jobs_grow, c.requires.room)

pub overflow_mul-distance : goal.overflow_mul-distance
overflow_mul-distance c = omega (arith, small_distance c.loop-j.distance c.loop-j.j (length c.args.bits.now) c.loop-j.invariant.power c.loop-j-test.true c.requires.few)

pub returns-clause-kept : goal.returns-clause-kept
returns-clause-kept c = c.loop-j.invariant.planned.extends

pub returns-clause-planned : goal.returns-clause-planned
returns-clause-planned c =
    let n : ℕ = length c.args.a.now in
    let e : c.loop-j.j ≡ length c.args.bits.now = omega arith in
    subst (λ (j : ℕ). Planned c.args.pen.now c.loop-j.pen c.loop-j.cells.items (λ _. 2 ^ c.args.pen.now.space - 1) n (j * stage_jobs n) (2 * j) (EachOf c.args.a.now c.args.bits.now)
    (stages_say c.args.pen.now c.args.direction c.args.a.now c.args.bits.now j)) e c.loop-j.invariant.planned
