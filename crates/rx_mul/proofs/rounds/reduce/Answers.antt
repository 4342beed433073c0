use Rattle.std.proofs.Common.{◌≡◌, ℕ, List, ◌≤◌, ◌+◌, ◌-◌, ◌*◌, ◌%◌, ◌^◌, length, sym, ◌∙◌, ap, arith, subst}
use Rattle.rx_net.proofs.Grows.{extends_onward}
use Rattle.rx_costs.specs.Rounds.{groups, round_jobs}
use Rattle.rx_costs.proofs.Groupings.{groups_fewer}
use Rattle.rx_plan.specs.Values.{AreInputs}
use Rattle.rx_plan.specs.Planned.{Each, AreCells, Lays}
use Rattle.rx_plan.specs.Rows.{rows_number}
use Rattle.rx_plan.proofs.RowCells.{nought_kept}
use Rattle.rx_mul.proofs.Grouped.{groups-are, most-is}
use Rattle.rx_mul.proofs.Reduction.{reduced_start, reduced_more, reduced_end, reduced_number, round_fits}
use Rattle.rx_mul.proofs.rounds.reduce.Goals as goal

five : (wide unit : ℕ) → wide ≡ unit → 4 ≤ unit → 5 ≤ wide + 1
five wide unit e h = omega arith

pub loop-count-init : goal.loop-count-init
loop-count-init c = reduced_start c.args.pen.now c.args.rows.items c.args.shared.now.width c.args.count (c.from-most.result + 1) c.space.ensures.bounded c.requires.some c.requires.size c.requires.rows

pub loop-count-preserved : goal.loop-count-preserved
loop-count-preserved c =
    let now = c.loop-count.pen in
    let new = c.round.new.pen in
    let ds : List ℕ = c.in_ok-rows.rows.items in
    let w : ℕ = c.args.shared.now.width in
    let n : ℕ = c.loop-count.count in
    let most : ℕ = c.from-most.result + 1 in
    let m : most ≡ 2 ^ c.args.pen.now.space + 1 = most-is c.args.pen.now.space c.space.result c.unit_of.result c.from-most.result c.space.ensures.value c.unit_of.ensures.value c.from-most.ensures in
    let x : 2 * c.div_ceil-count.result ≡ 2 * groups most n = ap (λ q. 2 * q) (groups-are c.div_ceil-count.result most n c.div_ceil-count.ensures) in
    let q = subst (λ (cs : List ℕ). Lays now new ds (2 * groups (2 ^ now.space + 1) n * w) (groups (2 ^ now.space + 1) n * (2 * w - 1)) 1 (Each cs)) c.deref.ensures.value c.in_ok-rows.ensures.planned in
    let v = subst (λ (cs : List ℕ). (xs : List ℕ) → AreInputs now xs → rows_number (2 ^ now.space) new ds w (2 * groups (2 ^ now.space + 1) n) xs % (2 ^ now.space) ^ w ≡ rows_number (2 ^ now.space) now cs w n xs % (2 ^ now.space) ^ w) c.deref.ensures.value c.in_ok-rows.ensures.value in
    reduced_more c.args.pen.now now new c.args.rows.items c.loop-count.rows.items ds w c.args.count n (2 * c.div_ceil-count.result) most (five c.from-most.result c.unit_of.result c.from-most.ensures c.unit_of.ensures.low) c.requires.shared.wide c.loop-count-test.true m x c.loop-count.invariant q v

pub loop-count-smaller : goal.loop-count-smaller
loop-count-smaller c =
    let most : ℕ = c.from-most.result + 1 in
    let g : c.div_ceil-count.result ≡ groups most c.loop-count.count = groups-are c.div_ceil-count.result most c.loop-count.count c.div_ceil-count.ensures in
    omega (arith, g, groups_fewer most c.loop-count.count (five c.from-most.result c.unit_of.result c.from-most.ensures c.unit_of.ensures.low) c.loop-count-test.true)

pub round-requires-clause-shared : goal.round-requires-clause-shared
round-requires-clause-shared c =
    let e = c.loop-count.invariant.planned.extends in
    let h = c.requires.shared in
    record {
      wide = h.wide;
      nought = nought_kept c.args.pen.now c.loop-count.pen c.args.shared.now.nought e h.nought;
      digits = rw e.space h.digits;
      carries = rw e.space h.carries;
    }

pub round-requires-clause-size : goal.round-requires-clause-size
round-requires-clause-size c = ap length c.deref.ensures.value ∙ c.loop-count.invariant.planned.count_is

pub round-requires-clause-few : goal.round-requires-clause-few
round-requires-clause-few c = omega (arith, c.loop-count.invariant.high, c.requires.few)

pub round-requires-clause-rows : goal.round-requires-clause-rows
round-requires-clause-rows c =
    rw c.deref.ensures.value (subst (λ (s : ℕ). AreCells c.loop-count.pen (2 ^ s - 1) c.loop-count.rows.items) (sym c.loop-count.invariant.planned.extends.space) c.loop-count.invariant.planned.cells_are)

pub round-requires-clause-room : goal.round-requires-clause-room
round-requires-clause-room c =
    let h = c.loop-count.invariant in
    let w : ℕ = c.args.shared.now.width in
    let most : ℕ = c.from-most.result + 1 in
    let m0 : most ≡ 2 ^ c.args.pen.now.space + 1 = most-is c.args.pen.now.space c.space.result c.unit_of.result c.from-most.result c.space.ensures.value c.unit_of.ensures.value c.from-most.ensures in
    let m : 2 ^ c.loop-count.pen.space + 1 ≡ most = ap (λ s. 2 ^ s + 1) h.planned.extends.space ∙ sym m0 in
    let g : groups (2 ^ c.loop-count.pen.space + 1) c.loop-count.count * (2 * w - 1) ≡ groups most c.loop-count.count * (2 * w - 1) = ap (λ k. groups k c.loop-count.count * (2 * w - 1)) m in
    let j : round_jobs w (2 ^ c.args.pen.now.space + 1) c.args.count ≡ round_jobs w most c.args.count = ap (λ k. round_jobs w k c.args.count) (sym m0) in
    let f = round_fits w most c.loop-count.count (five c.from-most.result c.unit_of.result c.from-most.ensures c.unit_of.ensures.low) c.requires.shared.wide c.loop-count-test.true in
    omega (arith, f, h.jobs_are, h.planned.jobs_in, h.planned.extends.jobs_grow, c.requires.room)

pub returns-in_err-rows-clause-kept : goal.returns-in_err-rows-clause-kept
returns-in_err-rows-clause-kept c = extends_onward c.args.pen.now c.loop-count.pen c.round.new.pen c.loop-count.invariant.planned.extends c.round.ensures.kept

pub returns-clause-kept : goal.returns-clause-kept
returns-clause-kept c = c.loop-count.invariant.planned.extends

pub returns-clause-planned : goal.returns-clause-planned
returns-clause-planned c =
    let m : c.from-most.result + 1 ≡ 2 ^ c.args.pen.now.space + 1 = most-is c.args.pen.now.space c.space.result c.unit_of.result c.from-most.result c.space.ensures.value c.unit_of.ensures.value c.from-most.ensures in
    reduced_end c.args.pen.now c.loop-count.pen c.args.rows.items c.loop-count.rows.items c.args.shared.now.width c.args.count c.loop-count.count (c.from-most.result + 1) c.loop-count-test.false m c.loop-count.invariant

pub returns-clause-value : goal.returns-clause-value
returns-clause-value c = reduced_number c.args.pen.now c.loop-count.pen c.args.rows.items c.loop-count.rows.items c.args.shared.now.width c.args.count c.loop-count.count (c.from-most.result + 1) c.loop-count-test.false c.loop-count.invariant
