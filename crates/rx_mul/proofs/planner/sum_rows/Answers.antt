use Rattle.std.proofs.Common.{◌≡◌, ℕ, List, ◌≤◌, ◌+◌, ◌-◌, ◌*◌, ◌^◌, length, take, drop, sym, ◌∙◌, ap, arith, subst}
use Rattle.rx_net.specs.declared.net.Net.{Net}
use Rattle.rx_net.proofs.Grows.{extends_onward}
use Rattle.rx_costs.specs.Rounds.{groups, rounds, round_jobs}
use Rattle.rx_costs.specs.Table.{add_jobs}
use Rattle.rx_costs.proofs.Groupings.{rounds_step, rounds_few}
use Rattle.rx_plan.specs.Planned.{IsCell, AreCells, AreBlocks}
use Rattle.rx_plan.proofs.PerBlock.{space_low, unit_big}
use Rattle.std.proofs.lemmas.List.{length-take-le, length-drop}
use Rattle.rx_mul.proofs.LastSum.{each_take, each_drop, tail_is, rounds_summed, summed_planned, summed_number}
use Rattle.rx_mul.proofs.planner.sum_rows.Goals as goal

two : (r s : ℕ) → r ≡ s → 2 ≤ r → 2 ≤ s
two r s e h = omega arith

here : (s1 : Net) (cs : List ℕ) (s : ℕ) → s1.space ≡ s → AreCells s1 (2 ^ s - 1) cs → AreBlocks s1 cs
here s1 cs s e h = subst (λ (s : ℕ). AreCells s1 (2 ^ s - 1) cs) (sym e) h

tail_of : (l xs : List ℕ) (w : ℕ) → l ≡ xs → take (length l - w) (drop w l) ≡ drop w xs
tail_of l xs w e = ap (λ l. take (length l - w) (drop w l)) e ∙ tail_is xs w

pub reduce-requires-clause-room : goal.reduce-requires-clause-room
reduce-requires-clause-room c = omega (arith, c.requires.room, c.requires.wide)

pub add-requires-clause-some : goal.add-requires-clause-some
add-requires-clause-some c =
    let p = c.in_ok-two.ensures.planned in
    let l : length c.deref.result.now ≡ 2 * c.args.shared.now.width = ap length c.deref.ensures.value ∙ p.count_is in
    omega (arith, length-take-le c.args.shared.now.width c.deref.result.now (omega arith), c.requires.wide)

pub add-requires-clause-first : goal.add-requires-clause-first
add-requires-clause-first c =
    let p = c.in_ok-two.ensures.planned in
    let w : ℕ = c.args.shared.now.width in
    rw c.deref.ensures.value (each_take c.in_ok-two.two.items w (IsCell c.reduce.new.pen (2 ^ c.reduce.new.pen.space - 1)) (omega (arith, p.count_is)) (here c.reduce.new.pen c.in_ok-two.two.items c.args.pen.now.space p.extends.space p.cells_are))

pub add-requires-clause-second : goal.add-requires-clause-second
add-requires-clause-second c =
    let p = c.in_ok-two.ensures.planned in
    let w : ℕ = c.args.shared.now.width in
    let xs : List ℕ = c.in_ok-two.two.items in
    subst (λ (l : List ℕ). AreBlocks c.reduce.new.pen l) (sym (tail_of c.deref-2.result.now xs w c.deref-2.ensures.value))
    (each_drop xs w (IsCell c.reduce.new.pen (2 ^ c.reduce.new.pen.space - 1)) (here c.reduce.new.pen xs c.args.pen.now.space p.extends.space p.cells_are))

pub add-requires-clause-same : goal.add-requires-clause-same
add-requires-clause-same c =
    let p = c.in_ok-two.ensures.planned in
    let w : ℕ = c.args.shared.now.width in
    let xs : List ℕ = c.in_ok-two.two.items in
    let l : length c.deref.result.now ≡ 2 * w = ap length c.deref.ensures.value ∙ p.count_is in
    let a : length (take w c.deref.result.now) ≡ w = length-take-le w c.deref.result.now (omega arith) in
    let d : length (drop w xs) ≡ length xs - w = length-drop w xs in
    ap length (tail_of c.deref-2.result.now xs w c.deref-2.ensures.value) ∙ (let e : length (drop w xs) ≡ w = omega (arith, p.count_is) in e) ∙ sym a

pub add-requires-clause-room : goal.add-requires-clause-room
add-requires-clause-room c =
    let p = c.in_ok-two.ensures.planned in
    let w : ℕ = c.args.shared.now.width in
    let l : length c.deref.result.now ≡ 2 * w = ap length c.deref.ensures.value ∙ p.count_is in
    let n : length (take w c.deref.result.now) ≡ w = length-take-le w c.deref.result.now (omega arith) in
    let j : add_jobs (length (take w c.deref.result.now)) ≡ add_jobs w = ap (λ n. add_jobs n) n in
    let s : ℕ = c.args.pen.now.space in
    let big : 4 ≤ 2 ^ s = unit_big s (two c.space-space.result s c.space-space.ensures.value (space_low c.space-space.result c.space-space.ensures.known)) in
    let most : ℕ = 2 ^ s + 1 in
    let k : rounds most (2 * w - 1) ≡ 1 + rounds most (2 * groups most (2 * w - 1)) = rounds_step most (2 * w - 1) (omega arith) (omega (arith, c.requires.wide)) in
    let f : rounds most (2 * w - 1) ≤ round_jobs w most (2 * w - 1) = rounds_few w most (2 * w - 1) (omega arith) (omega (arith, c.requires.wide)) in
    omega (arith, p.jobs_in, p.extends.jobs_grow, c.requires.room, c.requires.wide)

pub returns-clause-kept : goal.returns-clause-kept
returns-clause-kept c = extends_onward c.args.pen.now c.reduce.new.pen c.add.new.pen c.reduce.ensures.kept c.add.ensures.kept

pub returns-in_err-add-clause-kept : goal.returns-in_err-add-clause-kept
returns-in_err-add-clause-kept c = extends_onward c.args.pen.now c.reduce.new.pen c.add.new.pen c.reduce.ensures.kept c.add.ensures.kept

pub returns-clause-planned : goal.returns-clause-planned
returns-clause-planned c =
    let old = c.args.pen.now in
    let s1 = c.reduce.new.pen in
    let p = c.in_ok-two.ensures.planned in
    let w : ℕ = c.args.shared.now.width in
    let xs : List ℕ = c.in_ok-two.two.items in
    let most : ℕ = 2 ^ old.space + 1 in
    rounds_summed old c.add.new.pen c.args.rows.items c.add.new.out.items w c.requires.wide (two c.space-space.result old.space c.space-space.ensures.value (space_low c.space-space.result c.space-space.ensures.known))
    (summed_planned old s1 c.add.new.pen c.args.rows.items xs (take w c.deref.result.now) (take (length c.deref-2.result.now - w) (drop w c.deref-2.result.now)) c.new-cells.result.items c.add.new.out.items w
    (round_jobs w most (2 * w - 1) - rounds most (2 * w - 1)) (rounds most (2 * w - 1)) (ap (take w) c.deref.ensures.value) (tail_of c.deref-2.result.now xs w c.deref-2.ensures.value) c.new-cells.ensures.items p c.in_ok-add.ensures.gives)

pub returns-clause-value : goal.returns-clause-value
returns-clause-value c = λ is v.
    let old = c.args.pen.now in
    let s1 = c.reduce.new.pen in
    let p = c.in_ok-two.ensures.planned in
    let w : ℕ = c.args.shared.now.width in
    let xs : List ℕ = c.in_ok-two.two.items in
    let most : ℕ = 2 ^ old.space + 1 in
    summed_number old s1 c.add.new.pen c.args.rows.items xs (take w c.deref.result.now) (take (length c.deref-2.result.now - w) (drop w c.deref-2.result.now)) c.new-cells.result.items c.add.new.out.items w
    (round_jobs w most (2 * w - 1) - rounds most (2 * w - 1)) (rounds most (2 * w - 1)) (ap (take w) c.deref.ensures.value) (tail_of c.deref-2.result.now xs w c.deref-2.ensures.value) c.new-cells.ensures.items p c.in_ok-add.ensures.gives
    is v (2 * w - 1) (c.in_ok-two.ensures.value is v)
