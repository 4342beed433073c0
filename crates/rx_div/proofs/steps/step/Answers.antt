use Rattle.std.proofs.Common.{◌≡◌, ◌≤◌, ◌+◌, ◌-◌, ◌*◌, ◌^◌, ℕ, List, [], ◌∷◌, length, take, sym, ◌∙◌, ap, arith, subst}
use Rattle.std.proofs.lemmas.List.{length-take-le}
use Rattle.std.proofs.lemmas.Nat.{mul-le}
use Rattle.rx_params.specs.Kinds.{digit_at}
use Rattle.rx_net.specs.Cells.{value}
use Rattle.rx_net.proofs.Grows.{extends_onward}
use Rattle.rx_costs.specs.Table.{add_jobs, add_depth, compare_jobs, compare_depth, select_jobs, select_depth}
use Rattle.rx_plan.specs.Values.{number_held}
use Rattle.rx_plan.specs.Planned.{Each, EachOf, IsCell, AreBlocks, Planned}
use Rattle.rx_plan.proofs.Kept.{blocks_now, cell_kept}
use Rattle.rx_bits.proofs.MovedBlocks.{each_take}
use Rattle.rx_carry.specs.Carries.{is_less}
use Rattle.rx_cmp.specs.Selection.{chosen}
use Rattle.rx_div.proofs.Padded.{nought_later}
use Rattle.rx_div.proofs.Stepped.{StepIs, step_is, step_jobs, blocks_given}
use Rattle.rx_div.proofs.steps.step.Goals as goal

pub borrow-requires-clause-few : goal.borrow-requires-clause-few
borrow-requires-clause-few c =
    let n : length c.deref.result.now ≡ length c.args.rest.now = ap length c.deref.ensures.value ∙ c.in_ok-number.ensures.planned.count_is in
    omega (arith, c.requires.few)

pub borrow-requires-clause-first : goal.borrow-requires-clause-first
borrow-requires-clause-first c =
    subst (AreBlocks c.taken.new.pen) (sym c.deref.ensures.value) (blocks_given c.args.pen.now c.taken.new.pen c.in_ok-number.number.items _ _ _ _ _ c.in_ok-number.ensures.planned)

pub borrow-requires-clause-second : goal.borrow-requires-clause-second
borrow-requires-clause-second c = blocks_now c.args.pen.now c.taken.new.pen c.args.b.now c.in_ok-number.ensures.kept c.requires.divisor

pub borrow-requires-clause-nought : goal.borrow-requires-clause-nought
borrow-requires-clause-nought c = nought_later c.args.pen.now c.taken.new.pen c.args.nought c.in_ok-number.ensures.kept c.requires.nought

pub borrow-requires-clause-room : goal.borrow-requires-clause-room
borrow-requires-clause-room c =
    let p = c.in_ok-number.ensures.planned in
    omega (arith, step_jobs (length c.args.rest.now) (length c.args.b.now) c.requires.some c.requires.few, p.jobs_in, p.extends.jobs_grow, c.requires.room)

pub difference-requires-clause-some : goal.difference-requires-clause-some
difference-requires-clause-some c =
    let n : length c.deref-2.result.now ≡ length c.args.rest.now = ap length c.deref-2.ensures.value ∙ c.in_ok-number.ensures.planned.count_is in
    omega (arith, c.requires.some)

pub difference-requires-clause-same : goal.difference-requires-clause-same
difference-requires-clause-same c =
    let n : length c.deref-2.result.now ≡ length c.args.rest.now = ap length c.deref-2.ensures.value ∙ c.in_ok-number.ensures.planned.count_is in
    length-take-le (length c.args.rest.now) c.args.b.now c.requires.few ∙ sym n

pub difference-requires-clause-first : goal.difference-requires-clause-first
difference-requires-clause-first c =
    blocks_now c.taken.new.pen c.borrow.new.pen c.deref-2.result.now c.in_ok-borrow.ensures.kept
    (subst (AreBlocks c.taken.new.pen) (sym c.deref-2.ensures.value) (blocks_given c.args.pen.now c.taken.new.pen c.in_ok-number.number.items _ _ _ _ _ c.in_ok-number.ensures.planned))

pub difference-requires-clause-second : goal.difference-requires-clause-second
difference-requires-clause-second c =
    let two = c.borrow.new.pen in
    each_take (length c.args.rest.now) c.args.b.now (IsCell two (2 ^ two.space - 1)) c.requires.few
    (blocks_now c.args.pen.now two c.args.b.now (extends_onward c.args.pen.now c.taken.new.pen two c.in_ok-number.ensures.kept c.in_ok-borrow.ensures.kept) c.requires.divisor)

pub difference-requires-clause-room : goal.difference-requires-clause-room
difference-requires-clause-room c =
    let n : length c.deref-2.result.now ≡ length c.args.rest.now = ap length c.deref-2.ensures.value ∙ c.in_ok-number.ensures.planned.count_is in
    let j : add_jobs (length c.deref-2.result.now) ≡ add_jobs (length c.args.rest.now) = ap (λ n. add_jobs n) n in
    let p = c.in_ok-number.ensures.planned in
    let q = c.in_ok-borrow.ensures.planned in
    omega (arith, j, step_jobs (length c.args.rest.now) (length c.args.b.now) c.requires.some c.requires.few, p.jobs_in, p.extends.jobs_grow, q.jobs_in, q.extends.jobs_grow, c.requires.room)

pub selected-requires-clause-some : goal.selected-requires-clause-some
selected-requires-clause-some c =
    let n : length c.deref-3.result.now ≡ length c.args.rest.now = ap length c.deref-3.ensures.value ∙ c.in_ok-number.ensures.planned.count_is in
    omega (arith, c.requires.some)

pub selected-requires-clause-same : goal.selected-requires-clause-same
selected-requires-clause-same c =
    ap length c.deref-4.ensures.value ∙ c.in_ok-less.ensures.planned.count_is ∙ ap length c.deref-2.ensures.value ∙ sym (ap length c.deref-3.ensures.value)

pub selected-requires-clause-bit : goal.selected-requires-clause-bit
selected-requires-clause-bit c = cell_kept c.borrow.new.pen c.difference.new.pen 1 c.in_ok-borrow.borrow c.in_ok-less.ensures.kept (c.in_ok-borrow.ensures.planned.cells_are 0 (omega arith))

pub selected-requires-clause-first : goal.selected-requires-clause-first
selected-requires-clause-first c =
    blocks_now c.taken.new.pen c.difference.new.pen c.deref-3.result.now (extends_onward c.taken.new.pen c.borrow.new.pen c.difference.new.pen c.in_ok-borrow.ensures.kept c.in_ok-less.ensures.kept)
    (subst (AreBlocks c.taken.new.pen) (sym c.deref-3.ensures.value) (blocks_given c.args.pen.now c.taken.new.pen c.in_ok-number.number.items _ _ _ _ _ c.in_ok-number.ensures.planned))

pub selected-requires-clause-second : goal.selected-requires-clause-second
selected-requires-clause-second c =
    subst (AreBlocks c.difference.new.pen) (sym c.deref-4.ensures.value) (blocks_given c.borrow.new.pen c.difference.new.pen c.in_ok-less.less.items _ _ _ _ _ c.in_ok-less.ensures.planned)

pub selected-requires-clause-room : goal.selected-requires-clause-room
selected-requires-clause-room c =
    let n : length c.deref-3.result.now ≡ length c.args.rest.now = ap length c.deref-3.ensures.value ∙ c.in_ok-number.ensures.planned.count_is in
    let m : length c.deref-2.result.now ≡ length c.args.rest.now = ap length c.deref-2.ensures.value ∙ c.in_ok-number.ensures.planned.count_is in
    let j : add_jobs (length c.deref-2.result.now) ≡ add_jobs (length c.args.rest.now) = ap (λ n. add_jobs n) m in
    let p = c.in_ok-number.ensures.planned in
    let q = c.in_ok-borrow.ensures.planned in
    let r = c.in_ok-less.ensures.planned in
    omega (arith, n, j, step_jobs (length c.args.rest.now) (length c.args.b.now) c.requires.some c.requires.few, p.jobs_in, p.extends.jobs_grow, q.jobs_in, q.extends.jobs_grow, r.jobs_in, r.extends.jobs_grow, c.requires.room)

pub returns-clause-rest : goal.returns-clause-rest
returns-clause-rest c =
    let old = c.args.pen.now in
    let one = c.taken.new.pen in
    let two = c.borrow.new.pen in
    let three = c.difference.new.pen in
    let new = c.selected.new.pen in
    let b : List ℕ = c.args.b.now in
    let part : List ℕ = take (length c.args.rest.now) b in
    let number : List ℕ = c.in_ok-number.number.items in
    let less : List ℕ = c.in_ok-less.less.items in
    let cells : List ℕ = c.in_ok-left.left.items in
    let k : ℕ = c.in_ok-borrow.borrow in
    let p2 = subst (λ (ds : List ℕ). Planned one two (k ∷ []) (λ _. 1) 1 (compare_jobs (length b)) (compare_depth (length b)) (λ P. Each ds P × Each b P × P c.args.nought) (λ xs _. is_less (number_held one ds xs) (number_held one b xs)))
    c.deref.ensures.value c.in_ok-borrow.ensures.planned in
    let p3 = subst (λ (ds : List ℕ). Planned two three less (λ _. 2 ^ two.space - 1) (length ds) (add_jobs (length ds)) (add_depth (length ds)) (EachOf ds part)
    (λ xs i. digit_at two.space (number_held two ds xs + 2 ^ (two.space * length ds) - number_held two part xs) i)) c.deref-2.ensures.value c.in_ok-less.ensures.planned in
    let p4a = subst (λ (ds : List ℕ). Planned three new cells (λ _. 2 ^ three.space - 1) (length ds) (select_jobs (length ds)) select_depth (λ P. P k × Each ds P × Each c.deref-4.result.now P)
    (λ xs i. digit_at three.space (chosen (value three xs k) (number_held three ds xs) (number_held three c.deref-4.result.now xs)) i)) c.deref-3.ensures.value c.in_ok-left.ensures.planned in
    let p4 = subst (λ (es : List ℕ). Planned three new cells (λ _. 2 ^ three.space - 1) (length number) (select_jobs (length number)) select_depth (λ P. P k × Each number P × Each es P)
    (λ xs i. digit_at three.space (chosen (value three xs k) (number_held three number xs) (number_held three es xs)) i)) c.deref-4.ensures.value p4a in
    (step_is old one two three new c.args.rest.now b number less cells c.args.bit c.args.nought k c.space-space.ensures.bounded c.requires.some c.requires.few c.requires.divisor c.requires.nought
    c.in_ok-number.ensures.planned p2 p3 p4).rest_is

pub returns-clause-borrow : goal.returns-clause-borrow
returns-clause-borrow c =
    let old = c.args.pen.now in
    let one = c.taken.new.pen in
    let two = c.borrow.new.pen in
    let three = c.difference.new.pen in
    let new = c.selected.new.pen in
    let b : List ℕ = c.args.b.now in
    let part : List ℕ = take (length c.args.rest.now) b in
    let number : List ℕ = c.in_ok-number.number.items in
    let less : List ℕ = c.in_ok-less.less.items in
    let cells : List ℕ = c.in_ok-left.left.items in
    let k : ℕ = c.in_ok-borrow.borrow in
    let p2 = subst (λ (ds : List ℕ). Planned one two (k ∷ []) (λ _. 1) 1 (compare_jobs (length b)) (compare_depth (length b)) (λ P. Each ds P × Each b P × P c.args.nought) (λ xs _. is_less (number_held one ds xs) (number_held one b xs)))
    c.deref.ensures.value c.in_ok-borrow.ensures.planned in
    let p3 = subst (λ (ds : List ℕ). Planned two three less (λ _. 2 ^ two.space - 1) (length ds) (add_jobs (length ds)) (add_depth (length ds)) (EachOf ds part)
    (λ xs i. digit_at two.space (number_held two ds xs + 2 ^ (two.space * length ds) - number_held two part xs) i)) c.deref-2.ensures.value c.in_ok-less.ensures.planned in
    let p4a = subst (λ (ds : List ℕ). Planned three new cells (λ _. 2 ^ three.space - 1) (length ds) (select_jobs (length ds)) select_depth (λ P. P k × Each ds P × Each c.deref-4.result.now P)
    (λ xs i. digit_at three.space (chosen (value three xs k) (number_held three ds xs) (number_held three c.deref-4.result.now xs)) i)) c.deref-3.ensures.value c.in_ok-left.ensures.planned in
    let p4 = subst (λ (es : List ℕ). Planned three new cells (λ _. 2 ^ three.space - 1) (length number) (select_jobs (length number)) select_depth (λ P. P k × Each number P × Each es P)
    (λ xs i. digit_at three.space (chosen (value three xs k) (number_held three number xs) (number_held three es xs)) i)) c.deref-4.ensures.value p4a in
    (step_is old one two three new c.args.rest.now b number less cells c.args.bit c.args.nought k c.space-space.ensures.bounded c.requires.some c.requires.few c.requires.divisor c.requires.nought
    c.in_ok-number.ensures.planned p2 p3 p4).borrow_is

pub returns-clause-kept : goal.returns-clause-kept
returns-clause-kept c =
    extends_onward c.args.pen.now c.difference.new.pen c.selected.new.pen
    (extends_onward c.args.pen.now c.borrow.new.pen c.difference.new.pen (extends_onward c.args.pen.now c.taken.new.pen c.borrow.new.pen c.in_ok-number.ensures.kept c.in_ok-borrow.ensures.kept) c.in_ok-less.ensures.kept)
    c.in_ok-left.ensures.kept
