use Rattle.std.proofs.Common.{◌≡◌, ℕ, List, ◌<◌, ◌≤◌, ◌+◌, ◌-◌, ◌*◌, ◌^◌, length, sym, ◌∙◌, ap, arith, subst}
use Rattle.std.proofs.lemmas.Result.{IfOk-weaker}
use Rattle.std.proofs.lemmas.Nat.{mul-le}
use Rattle.rx_costs.specs.Logs.{log_up}
use Rattle.rx_costs.specs.Table.{amount_shift_jobs, amount_shift_depth}
use Rattle.rx_net.specs.Cells.{value}
use Rattle.rx_plan.specs.Values.{cell_value}
use Rattle.rx_plan.specs.Planned.{Each, EachOf, Planned}
use Rattle.rx_cmp.specs.Selection.{kept_entry}
use Rattle.rx_shift.proofs.Whole.{log_below, log_few, log_some, whole_jobs, whole_says, whole_planned}
use Rattle.rx_shift.proofs.shifts.shifted.Goals as goal

pub moved_low-requires-clause-few : goal.moved_low-requires-clause-few
moved_low-requires-clause-few c =
    let s : ℕ = c.args.pen.now.space in
    let n : ℕ = length c.args.a.now in
    let e : c.log_up-count.result ≡ log_up 2 (s * n) = c.log_up-count.ensures.value ∙ ap (λ s. log_up 2 (s * n)) c.space-space.ensures.value in
    let w : 2 * 1 ≤ s * n = mul-le 2 1 s n (omega arith) c.requires.some in
    let x : s * length c.args.amount.now ≡ s * n = ap (λ n. s * n) c.requires.same in
    omega (arith, log_below (s * n) (omega arith))

pub moved_low-requires-clause-low : goal.moved_low-requires-clause-low
moved_low-requires-clause-low c =
    let s : ℕ = c.args.pen.now.space in
    let n : ℕ = length c.args.a.now in
    let e : c.log_up-count.result ≡ log_up 2 (s * n) = c.log_up-count.ensures.value ∙ ap (λ s. log_up 2 (s * n)) c.space-space.ensures.value in
    let few : n ≤ 2 ^ 15 = omega (arith, c.requires.room) in
    let w : s * n ≤ 3 * 2 ^ 15 = mul-le s n 3 (2 ^ 15) (omega arith) few in
    omega (arith, log_few (s * n) (omega arith))

pub too_great-requires-clause-some : goal.too_great-requires-clause-some
too_great-requires-clause-some c =
    let s : ℕ = c.args.pen.now.space in
    let n : ℕ = length c.args.a.now in
    let e : c.log_up-count.result ≡ log_up 2 (s * n) = c.log_up-count.ensures.value ∙ ap (λ s. log_up 2 (s * n)) c.space-space.ensures.value in
    let w : 2 * 1 ≤ s * n = mul-le 2 1 s n (omega arith) c.requires.some in
    let x : s * length c.args.amount.now ≡ s * n = ap (λ n. s * n) c.requires.same in
    let y : c.moved_low.new.pen.space * length c.args.amount.now ≡ s * length c.args.amount.now = ap (λ s. s * length c.args.amount.now) c.in_ok-cells.ensures.kept.space in
    omega (arith, log_below (s * n) (omega arith))

pub cleared-requires-clause-flag : goal.cleared-requires-clause-flag
cleared-requires-clause-flag c = let q = c.in_ok-flag.ensures.planned in let o : 0 < 1 = omega arith in q.cells_are 0 (omega (arith, q.count_is))

pub cleared-requires-clause-room : goal.cleared-requires-clause-room
cleared-requires-clause-room c =
    let s : ℕ = c.args.pen.now.space in
    let n : ℕ = length c.args.a.now in
    let k : ℕ = c.log_up-count.result in
    let e : k ≡ log_up 2 (s * n) = c.log_up-count.ensures.value ∙ ap (λ s. log_up 2 (s * n)) c.space-space.ensures.value in
    let w : 2 * 1 ≤ s * n = mul-le 2 1 s n (omega arith) c.requires.some in
    let k1 : 1 ≤ k = omega (arith, log_some (s * n) (omega arith)) in
    let p = c.in_ok-cells.ensures.planned in
    let q = c.in_ok-flag.ensures.planned in
    let r : amount_shift_jobs (log_up 2 (s * n)) n ≡ amount_shift_jobs k n = ap (λ k. amount_shift_jobs k n) (sym e) in
    omega (arith, whole_jobs k n k1 c.requires.some, ap length c.deref.ensures.value, p.count_is, p.jobs_in, p.extends.jobs_grow, q.jobs_in, q.extends.jobs_grow, c.requires.room, c.requires.same)

pub returns-clause-planned : goal.returns-clause-planned
returns-clause-planned c =
    let p = c.args.pen.now in
    let s : ℕ = p.space in
    let one = c.moved_low.new.pen in
    let two = c.too_great.new.pen in
    let new = c.cleared.new.pen in
    let d = c.args.direction in
    let a : List ℕ = c.args.a.now in
    let amount : List ℕ = c.args.amount.now in
    let n : ℕ = length a in
    let k : ℕ = c.log_up-count.result in
    let flag : ℕ = c.in_ok-flag.flag in
    let e : k ≡ log_up 2 (s * n) = c.log_up-count.ensures.value ∙ ap (λ s. log_up 2 (s * n)) c.space-space.ensures.value in
    IfOk-weaker c.cleared.result _ _ (λ out r.
    subst (λ (k : ℕ). Planned p new out.items (λ _. 2 ^ s - 1) n (amount_shift_jobs k n) (amount_shift_depth k) (EachOf a amount) (whole_says p d a amount)) e
    (whole_planned p one two new d a amount c.in_ok-cells.cells.items out.items flag k (omega arith) c.space-space.ensures.bounded c.requires.first c.requires.second c.requires.some c.requires.same e
    c.in_ok-cells.ensures.planned c.in_ok-flag.ensures.planned
    (subst (λ (cs : List ℕ). Planned two new out.items (λ _. 2 ^ two.space - 1) (length cs) (length cs) 1 (λ P. P flag × Each cs P)
    (λ xs i. kept_entry 0 (2 ^ two.space) (2 ^ two.space * value two xs flag + cell_value two cs xs i))) c.deref.ensures.value r))) c.cleared.ensures.planned
