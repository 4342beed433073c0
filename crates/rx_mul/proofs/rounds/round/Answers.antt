use Rattle.std.proofs.Common.{◌≡◌, ℕ, List, ◌≤◌, ◌+◌, ◌-◌, ◌*◌, ◌%◌, ◌^◌, sym, ◌∙◌, ap, arith}
use Rattle.std.proofs.lemmas.Nat.{mul-le}
use Rattle.rx_net.proofs.Grows.{extends_onward}
use Rattle.rx_costs.specs.Rounds.{groups}
use Rattle.rx_costs.proofs.Groupings.{groups_hold}
use Rattle.rx_plan.specs.Planned.{IsCell}
use Rattle.rx_plan.proofs.Kept.{blocks_now}
use Rattle.rx_plan.proofs.RowCells.{nought_kept}
use Rattle.rx_mul.proofs.Grouped.{groups-are, most-is, round_start, round_more, round_end, round_number, turn_room, part_count, part_each, part_number, part_lays}
use Rattle.rx_mul.proofs.rounds.round.Goals as goal

pub loop-g-init : goal.loop-g-init
loop-g-init c =
    let most : ℕ = c.from-most.result + 1 in
    let g : c.div_ceil-turns.result ≡ groups most c.args.count = groups-are c.div_ceil-turns.result most c.args.count c.div_ceil-turns.ensures in
    let h : c.args.count ≤ c.div_ceil-turns.result * most = omega (arith, groups_hold most c.args.count (omega arith), ap (λ q. q * most) g) in
    rw c.new-next.ensures.items (round_start c.args.pen.now c.args.rows.now c.args.shared.now.width c.args.count c.div_ceil-turns.result most c.space.ensures.bounded h)

pub group_end-last-requires : goal.group_end-last-requires
group_end-last-requires c = c.loop-g.invariant.within

pub slice_bounds-members-count : goal.slice_bounds-members-count
slice_bounds-members-count c = mul-le c.loop-g.first c.args.shared.now.width c.group_end-last.result c.args.shared.now.width c.group_end-last.ensures.order (omega arith)

pub slice_bounds-members-start : goal.slice_bounds-members-start
slice_bounds-members-start c =
    let m : c.loop-g.first * c.args.shared.now.width ≤ c.group_end-last.result * c.args.shared.now.width = mul-le c.loop-g.first c.args.shared.now.width c.group_end-last.result c.args.shared.now.width c.group_end-last.ensures.order (omega arith) in
    let n : c.group_end-last.result * c.args.shared.now.width ≤ c.args.count * c.args.shared.now.width = mul-le c.group_end-last.result c.args.shared.now.width c.args.count c.args.shared.now.width c.group_end-last.ensures.within (omega arith) in
    omega (arith, c.requires.size)

pub slice_bounds-members-end : goal.slice_bounds-members-end
slice_bounds-members-end c =
    let n : c.group_end-last.result * c.args.shared.now.width ≤ c.args.count * c.args.shared.now.width = mul-le c.group_end-last.result c.args.shared.now.width c.args.count c.args.shared.now.width c.group_end-last.ensures.within (omega arith) in
    omega (arith, c.requires.size)

pub group-requires-clause-shared : goal.group-requires-clause-shared
group-requires-clause-shared c =
    let e = c.loop-g.invariant.planned.extends in
    let h = c.requires.shared in
    record {
      wide = h.wide;
      nought = nought_kept c.args.pen.now c.loop-g.pen c.args.shared.now.nought e h.nought;
      digits = rw e.space h.digits;
      carries = rw e.space h.carries;
    }

pub group-requires-clause-few : goal.group-requires-clause-few
group-requires-clause-few c =
    let m : c.from-most.result + 1 ≡ 2 ^ c.loop-g.pen.space + 1 = most-is c.loop-g.pen.space c.space.result c.unit_of.result c.from-most.result (c.space.ensures.value ∙ sym c.loop-g.invariant.planned.extends.space) c.unit_of.ensures.value c.from-most.ensures in
    omega (arith, c.group_end-last.ensures.group)

pub group-requires-clause-size : goal.group-requires-clause-size
group-requires-clause-size c = part_count c.args.rows.now c.args.shared.now.width c.loop-g.first c.group_end-last.result c.args.count c.group_end-last.ensures.order c.group_end-last.ensures.within c.requires.size

pub group-requires-clause-rows : goal.group-requires-clause-rows
group-requires-clause-rows c =
    part_each c.args.rows.now c.args.shared.now.width c.loop-g.first c.group_end-last.result c.args.count (IsCell c.loop-g.pen (2 ^ c.loop-g.pen.space - 1)) c.group_end-last.ensures.order c.group_end-last.ensures.within c.requires.size
    (blocks_now c.args.pen.now c.loop-g.pen c.args.rows.now c.loop-g.invariant.planned.extends c.requires.rows)

pub group-requires-clause-room : goal.group-requires-clause-room
group-requires-clause-room c =
    let p = c.loop-g.invariant.planned in
    let w : ℕ = c.args.shared.now.width in
    let m : c.from-most.result + 1 ≡ 2 ^ c.args.pen.now.space + 1 = most-is c.args.pen.now.space c.space.result c.unit_of.result c.from-most.result c.space.ensures.value c.unit_of.ensures.value c.from-most.ensures in
    let q : c.div_ceil-turns.result * (2 * w - 1) ≡ groups (2 ^ c.args.pen.now.space + 1) c.args.count * (2 * w - 1) =
    ap (λ g. g * (2 * w - 1)) (groups-are c.div_ceil-turns.result (c.from-most.result + 1) c.args.count c.div_ceil-turns.ensures ∙ ap (λ m. groups m c.args.count) m) in
    omega (arith, turn_room w c.loop-g._g c.div_ceil-turns.result c.loop-g-test.true, p.jobs_in, p.extends.jobs_grow, c.requires.room)

pub returns-in_err-cells-clause-kept : goal.returns-in_err-cells-clause-kept
returns-in_err-cells-clause-kept c = extends_onward c.args.pen.now c.loop-g.pen c.group.new.pen c.loop-g.invariant.planned.extends c.group.ensures.kept

pub returns-in_err-extend_from_slice-clause-kept : goal.returns-in_err-extend_from_slice-clause-kept
returns-in_err-extend_from_slice-clause-kept c = extends_onward c.args.pen.now c.loop-g.pen c.group.new.pen c.loop-g.invariant.planned.extends c.group.ensures.kept

pub loop-g-preserved : goal.loop-g-preserved
loop-g-preserved c =
    let now = c.loop-g.pen in
    let new = c.group.new.pen in
    let rows : List ℕ = c.args.rows.now in
    let w : ℕ = c.args.shared.now.width in
    let first : ℕ = c.loop-g.first in
    let last : ℕ = c.group_end-last.result in
    let o = c.group_end-last.ensures.order in
    let i = c.group_end-last.ensures.within in
    let ds : List ℕ = c.in_ok-cells.cells.items in
    rw (c.in_ok-extend_from_slice.ensures.items, c.deref.ensures.value)
    (round_more c.args.pen.now now new rows c.loop-g.next.items ds w c.args.count first last c.loop-g._g c.div_ceil-turns.result (c.from-most.result + 1)
    c.loop-g-test.true o i c.group_end-last.ensures.ahead c.requires.rows c.requires.size c.loop-g.invariant
    (part_lays now new ds rows w first last c.args.count (2 * w) (2 * w - 1) o i c.requires.size c.in_ok-cells.ensures.planned)
    (λ xs x. c.in_ok-cells.ensures.value xs x ∙ ap (λ z. z % (2 ^ now.space) ^ w) (part_number (2 ^ now.space) now rows w first last c.args.count xs o i c.requires.size)))

pub returns-clause-kept : goal.returns-clause-kept
returns-clause-kept c = c.loop-g.invariant.planned.extends

pub returns-clause-planned : goal.returns-clause-planned
returns-clause-planned c =
    let m : c.from-most.result + 1 ≡ 2 ^ c.args.pen.now.space + 1 = most-is c.args.pen.now.space c.space.result c.unit_of.result c.from-most.result c.space.ensures.value c.unit_of.ensures.value c.from-most.ensures in
    let g : c.loop-g._g ≡ c.div_ceil-turns.result = omega arith in
    round_end c.args.pen.now c.loop-g.pen c.args.rows.now c.loop-g.next.items c.args.shared.now.width c.args.count c.loop-g.first c.loop-g._g c.div_ceil-turns.result (c.from-most.result + 1) m
    (groups-are c.div_ceil-turns.result (c.from-most.result + 1) c.args.count c.div_ceil-turns.ensures) g c.loop-g.invariant

pub returns-clause-value : goal.returns-clause-value
returns-clause-value c =
    let m : c.from-most.result + 1 ≡ 2 ^ c.args.pen.now.space + 1 = most-is c.args.pen.now.space c.space.result c.unit_of.result c.from-most.result c.space.ensures.value c.unit_of.ensures.value c.from-most.ensures in
    let g : c.loop-g._g ≡ c.div_ceil-turns.result = omega arith in
    round_number c.args.pen.now c.loop-g.pen c.args.rows.now c.loop-g.next.items c.args.shared.now.width c.args.count c.loop-g.first c.loop-g._g c.div_ceil-turns.result (c.from-most.result + 1) m
    (groups-are c.div_ceil-turns.result (c.from-most.result + 1) c.args.count c.div_ceil-turns.ensures) g c.loop-g.invariant
