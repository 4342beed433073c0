use Rattle.std.proofs.Common.{◌≡◌, ℕ, List, ◌<◌, ◌≤◌, ◌*◌, ◌^◌, length, ◌∙◌, ap, arith, subst}
use Rattle.std.proofs.lemmas.Nat.{pow_pos}
use Rattle.rx_plan.specs.Values.{cell_value}
use Rattle.rx_plan.specs.Planned.{Each, Planned}
use Rattle.rx_carry.specs.Carries.{tops_at}
use Rattle.rx_carry.specs.Prefix.{stepped, combined_at}
use Rattle.rx_carry.proofs.Prefixes.{levelled_start, levels_room, levelled_more, levelled_end}
use Rattle.rx_carry.proofs.prefix.prefix.Goals as goal

pub loop-span-init : goal.loop-span-init
loop-span-init c = levelled_start c.args.pen.now c.args.states.items c.space-space.ensures.bounded c.requires.states

pub level-requires-clause-room : goal.level-requires-clause-room
level-requires-clause-room c =
    let h = c.loop-span.invariant in
    let p = h.planned in
    let n : ℕ = length c.args.states.items in
    let e : length c.deref.result.now ≡ n = ap length c.deref.ensures.value ∙ p.count_is in
    let low : 2 ^ h.levels < n = omega (arith, h.power, p.count_is, c.len.ensures, c.loop-span-test.true) in
    let k : combined_at c.loop-span.span (length c.deref.result.now) ≡ combined_at (2 ^ h.levels) n = ap (λ m. combined_at c.loop-span.span m) e ∙ ap (λ u. combined_at u n) h.power in
    omega (arith, levels_room n h.levels low, p.jobs_in, p.extends.jobs_grow, c.requires.room)

pub loop-span-preserved : goal.loop-span-preserved
loop-span-preserved c =
    let now = c.loop-span.pen in
    let new = c.level.new.pen in
    let h = c.loop-span.invariant in
    let ds : List ℕ = c.in_ok-cells.cells.items in
    let span : ℕ = c.loop-span.span in
    let q = subst (λ (cs : List ℕ). Planned now new ds (tops_at (2 * span)) (length cs) (combined_at span (length cs)) 1 (Each cs) (λ xs i. stepped span (cell_value now cs xs) i)) c.deref.ensures.value c.in_ok-cells.ensures.planned in
    let l : span < length c.loop-span.cells.items = omega (arith, c.len.ensures, c.loop-span-test.true) in
    let one : 1 ≤ span = omega (arith, pow_pos h.levels, h.power) in
    levelled_more c.args.pen.now now new c.args.states.items c.loop-span.cells.items ds span l one h q

pub returns-clause-planned : goal.returns-clause-planned
returns-clause-planned c =
    let l : length c.loop-span.cells.items ≤ c.loop-span.span = omega (arith, c.len.ensures, c.loop-span-test.false) in
    levelled_end c.args.pen.now c.loop-span.pen c.args.states.items c.loop-span.cells.items c.loop-span.span l c.loop-span.invariant
