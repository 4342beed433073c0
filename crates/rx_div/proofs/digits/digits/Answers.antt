use Rattle.std.proofs.Common.{◌≡◌, ◌≤◌, ◌<◌, ◌+◌, ◌-◌, ◌*◌, ◌^◌, ℕ, length, sym, ◌∙◌, ap, arith}
use Rattle.std.proofs.lemmas.Nat.{mul-le}
use Rattle.rx_plan.specs.Planned.{Each}
use Rattle.rx_plan.proofs.Kept.{cells_kept}
use Rattle.rx_plan.proofs.Held.{table_at}
use Rattle.rx_plan.proofs.Planned.{planned_none}
use Rattle.rx_plan.proofs.PerBlock.{space_low}
use Rattle.rx_div.proofs.QuotientDigits.{digit_says, digits_push}
use Rattle.rx_div.proofs.digits.digits.Goals as goal

place_fits : (s r n i count : ℕ) → r ≡ s → n ≡ s * count → i < count → r * i + s ≤ n
place_fits s r n i count e size here =
    let m : s * (i + 1) ≤ s * count = mul-le s (i + 1) s count (omega arith) (omega arith) in
    let k : s * (i + 1) ≡ s * i + s = omega arith in
    let j : r * i ≡ s * i = ap (λ r. r * i) e in
    omega arith

pub loop-i-init : goal.loop-i-init
loop-i-init c =
    let p = c.args.pen.now in
    rw c.new-cells.ensures.items (planned_none p (λ _. 2 ^ p.space - 1) 1 (Each c.args.borrows.now) (digit_says p c.args.borrows.now) c.space-space.ensures.bounded)

pub digit-requires-clause-inside : goal.digit-requires-clause-inside
digit-requires-clause-inside c =
    let p = c.args.pen.now in
    let two : 2 ≤ p.space = omega (arith, c.space-space.ensures.value, space_low c.space-space.result c.space-space.ensures.known) in
    omega (arith, place_fits p.space c.space-space.result (length c.args.borrows.now) c.loop-i.i c.args.count c.space-space.ensures.value c.requires.same c.loop-i-test.true)

pub digit-requires-clause-enough : goal.digit-requires-clause-enough
digit-requires-clause-enough c =
    let p = c.args.pen.now in
    let e = c.loop-i.invariant.extends.space in
    let two : 2 ≤ p.space = omega (arith, c.space-space.ensures.value, space_low c.space-space.result c.space-space.ensures.known) in
    omega (arith, e, place_fits p.space c.space-space.result (length c.args.borrows.now) c.loop-i.i c.args.count c.space-space.ensures.value c.requires.same c.loop-i-test.true)

pub digit-requires-clause-bits : goal.digit-requires-clause-bits
digit-requires-clause-bits c = cells_kept c.args.pen.now c.loop-i.pen 1 c.args.borrows.now c.loop-i.invariant.extends c.requires.bits

pub digit-requires-clause-table : goal.digit-requires-clause-table
digit-requires-clause-table c =
    table_at (λ s i. 2 ^ s - 1 - i) c.space-space.result c.loop-i.pen.space c.in_ok-table.table.items c.deref.result.now (c.space-space.ensures.value ∙ sym c.loop-i.invariant.extends.space) c.deref.ensures.value c.in_ok-table.ensures

pub digit-requires-clause-room : goal.digit-requires-clause-room
digit-requires-clause-room c = omega (arith, c.loop-i.invariant.jobs_in, c.loop-i.invariant.extends.jobs_grow, c.requires.room, c.loop-i-test.true)

pub loop-i-preserved : goal.loop-i-preserved
loop-i-preserved c =
    let p = c.args.pen.now in
    let low : ℕ = length c.args.borrows.now - 1 - c.space-space.result * c.loop-i.i in
    let place : low ≡ length c.args.borrows.now - 1 - p.space * c.loop-i.i = ap (λ s. length c.args.borrows.now - 1 - s * c.loop-i.i) c.space-space.ensures.value in
    rw c.in_ok-push.ensures.items (digits_push p c.loop-i.pen c.digit.new.pen c.loop-i.cells.items c.args.borrows.now c.loop-i.i c.in_ok-cell.cell low c.args.count c.requires.bits c.requires.same c.loop-i-test.true place
    c.loop-i.invariant c.in_ok-cell.ensures.planned)
