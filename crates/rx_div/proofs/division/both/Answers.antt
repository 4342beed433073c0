use Rattle.std.proofs.Common.{◌≡◌, ◌≤◌, ◌+◌, ◌-◌, ◌*◌, ◌^◌, ℕ, List, length, sym, ◌∙◌, ap, arith, subst}
use Rattle.rx_net.specs.declared.net.Net.{Net}
use Rattle.rx_net.proofs.Grows.{extends_onward}
use Rattle.rx_costs.specs.Table.{div_step_jobs, div_step_depth}
use Rattle.rx_plan.specs.Values.{number_held}
use Rattle.rx_plan.specs.Planned.{Each, AreCells, HasRoom, Planned}
use Rattle.rx_plan.proofs.Kept.{blocks_now}
use Rattle.rx_shift.specs.Amount.{bit_at}
use Rattle.rx_div.proofs.Padded.{nought_later}
use Rattle.rx_div.proofs.Progressed.{loop_operands, rest_says, borrow_says}
use Rattle.rx_div.proofs.QuotientDigits.{digit_says}
use Rattle.rx_div.proofs.Whole.{DivisionIs, division_is}
use Rattle.rx_div.proofs.division.both.Goals as goal

-- the room that the stages leave
room_two : (old one two : Net) (w j k n : ℕ) → k ≡ j → length one.jobs ≤ length old.jobs + 1 → length two.jobs ≤ length one.jobs + w → HasRoom old (j + w + n + 2) → HasRoom two k
room_two old one two w j k n e a b h = omega arith

room_three : (old one two three : Net) (w j k n : ℕ) → k ≡ j → length one.jobs ≤ length old.jobs + 1 → length two.jobs ≤ length one.jobs + w → length three.jobs ≤ length two.jobs + k → HasRoom old (j + w + 2 * n + 2)
    → HasRoom three n
room_three old one two three w j k n e a b c h = omega arith

pub low_bits-requires-clause-blocks : goal.low_bits-requires-clause-blocks
low_bits-requires-clause-blocks c = blocks_now c.args.pen.now c.nought.new.pen c.args.a.now c.in_ok-nought.ensures.kept c.requires.first

pub low_bits-requires-clause-few : goal.low_bits-requires-clause-few
low_bits-requires-clause-few c =
    let e : c.space-space.result * length c.args.a.now ≡ c.nought.new.pen.space * length c.args.a.now = ap (λ s. s * length c.args.a.now) (c.space-space.ensures.value ∙ sym c.in_ok-nought.ensures.kept.space) in
    omega arith

pub low_bits-requires-clause-room : goal.low_bits-requires-clause-room
low_bits-requires-clause-room c =
    let n : ℕ = length c.args.a.now in
    let e : c.space-space.result * n ≡ c.args.pen.now.space * n = ap (λ s. s * n) c.space-space.ensures.value in
    let z = c.in_ok-nought.ensures.gives in
    omega (arith, z.jobs_in, z.extends.jobs_grow, c.requires.room)

pub divided-requires-clause-some : goal.divided-requires-clause-some
divided-requires-clause-some c = omega (arith, c.requires.some, c.requires.same)

pub divided-requires-clause-same : goal.divided-requires-clause-same
divided-requires-clause-same c =
    let n : ℕ = length c.args.a.now in
    let p = c.in_ok-bits.ensures.planned in
    ap length c.deref.ensures.value ∙ p.count_is ∙ ap (λ s. s * n) (c.space-space.ensures.value ∙ sym c.in_ok-nought.ensures.kept.space ∙ sym p.extends.space) ∙ ap (λ n. c.low_bits.new.pen.space * n) (sym c.requires.same)

pub divided-requires-clause-bits : goal.divided-requires-clause-bits
divided-requires-clause-bits c = subst (AreCells c.low_bits.new.pen 1) (sym c.deref.ensures.value) c.in_ok-bits.ensures.planned.cells_are

pub divided-requires-clause-divisor : goal.divided-requires-clause-divisor
divided-requires-clause-divisor c =
    blocks_now c.args.pen.now c.low_bits.new.pen c.args.b.now (extends_onward c.args.pen.now c.nought.new.pen c.low_bits.new.pen c.in_ok-nought.ensures.kept c.in_ok-bits.ensures.kept) c.requires.second

pub divided-requires-clause-nought : goal.divided-requires-clause-nought
divided-requires-clause-nought c = nought_later c.nought.new.pen c.low_bits.new.pen c.in_ok-nought.nought c.in_ok-bits.ensures.kept c.in_ok-nought.ensures.nought

pub divided-requires-clause-room : goal.divided-requires-clause-room
divided-requires-clause-room c =
    let n : ℕ = length c.args.a.now in
    let s : ℕ = c.args.pen.now.space in
    let e : c.space-space.result * n ≡ s * n = ap (λ s. s * n) c.space-space.ensures.value in
    let p = c.in_ok-bits.ensures.planned in
    let z = c.in_ok-nought.ensures.gives in
    let w : length c.deref.result.now ≡ s * n = ap length c.deref.ensures.value ∙ p.count_is ∙ e in
    let j : length c.deref.result.now * div_step_jobs (length c.args.b.now) ≡ s * n * div_step_jobs n = ap (λ w. w * div_step_jobs (length c.args.b.now)) w ∙ ap (λ m. s * n * div_step_jobs m) c.requires.same in
    room_two c.args.pen.now c.nought.new.pen c.low_bits.new.pen (s * n) (s * n * div_step_jobs n) (length c.deref.result.now * div_step_jobs (length c.args.b.now)) (2 * n) j (omega (arith, z.jobs_in, z.extends.jobs_grow)) (omega (arith, p.jobs_in, p.extends.jobs_grow)) c.requires.room

pub digits-requires-clause-same : goal.digits-requires-clause-same
digits-requires-clause-same c =
    let n : ℕ = length c.args.a.now in
    let p = c.in_ok-bits.ensures.planned in
    ap length c.deref-2.ensures.value ∙ c.in_ok-made.ensures.borrows.count_is ∙ ap length c.deref.ensures.value ∙ p.count_is
    ∙ ap (λ s. s * n) (c.space-space.ensures.value ∙ sym c.in_ok-nought.ensures.kept.space ∙ sym p.extends.space ∙ sym c.in_ok-made.ensures.kept.space)

pub digits-requires-clause-bits : goal.digits-requires-clause-bits
digits-requires-clause-bits c = subst (AreCells c.divided.new.pen 1) (sym c.deref-2.ensures.value) c.in_ok-made.ensures.borrows.cells_are

pub digits-requires-clause-room : goal.digits-requires-clause-room
digits-requires-clause-room c =
    let n : ℕ = length c.args.a.now in
    let s : ℕ = c.args.pen.now.space in
    let e : c.space-space.result * n ≡ s * n = ap (λ s. s * n) c.space-space.ensures.value in
    let p = c.in_ok-bits.ensures.planned in
    let q = c.in_ok-made.ensures.borrows in
    let z = c.in_ok-nought.ensures.gives in
    let w : length c.deref.result.now ≡ s * n = ap length c.deref.ensures.value ∙ p.count_is ∙ e in
    let j : length c.deref.result.now * div_step_jobs (length c.args.b.now) ≡ s * n * div_step_jobs n = ap (λ w. w * div_step_jobs (length c.args.b.now)) w ∙ ap (λ m. s * n * div_step_jobs m) c.requires.same in
    room_three c.args.pen.now c.nought.new.pen c.low_bits.new.pen c.divided.new.pen (s * n) (s * n * div_step_jobs n) (length c.deref.result.now * div_step_jobs (length c.args.b.now)) n j
    (omega (arith, z.jobs_in, z.extends.jobs_grow)) (omega (arith, p.jobs_in, p.extends.jobs_grow)) (omega (arith, q.jobs_in, q.extends.jobs_grow)) c.requires.room

pub returns-clause-quotient : goal.returns-clause-quotient
returns-clause-quotient c =
    let p = c.args.pen.now in
    let one = c.nought.new.pen in
    let two = c.low_bits.new.pen in
    let three = c.divided.new.pen in
    let new = c.digits.new.pen in
    let a : List ℕ = c.args.a.now in
    let b : List ℕ = c.args.b.now in
    let n : ℕ = length a in
    let z : ℕ = c.in_ok-nought.nought in
    let bits : List ℕ = c.in_ok-bits.bits.items in
    let rest : List ℕ = c.in_ok-made.made.rest.items in
    let borrows : List ℕ = c.in_ok-made.made.borrows.items in
    let quot : List ℕ = c.in_ok-quot.quot.items in
    let p1 = subst (λ (s : ℕ). Planned one two bits (λ _. 1) (s * n) (s * n) 1 (Each a) (λ xs j. bit_at (number_held one a xs) j)) c.space-space.ensures.value c.in_ok-bits.ensures.planned in
    let p2r = subst (λ (ds : List ℕ). Planned two three rest (λ _. 2 ^ two.space - 1) (length b) (length ds * div_step_jobs (length b)) (length ds * div_step_depth (length b)) (loop_operands ds b z) (rest_says two ds b (length ds))) c.deref.ensures.value c.in_ok-made.ensures.rest in
    let p2b = subst (λ (ds : List ℕ). Planned two three borrows (λ _. 1) (length ds) (length ds * div_step_jobs (length b)) (length ds * div_step_depth (length b)) (loop_operands ds b z) (borrow_says two ds b)) c.deref.ensures.value c.in_ok-made.ensures.borrows in
    let p3 = subst (λ (ds : List ℕ). Planned three new quot (λ _. 2 ^ three.space - 1) n n 1 (Each ds) (digit_says three ds)) c.deref-2.ensures.value c.in_ok-quot.ensures.planned in
    (division_is p one two three new a b bits rest borrows quot z c.space-space.ensures.bounded c.requires.same c.requires.first c.requires.second c.in_ok-nought.ensures.gives c.in_ok-nought.ensures.nought p1 p2r p2b p3).quotient_is

pub returns-clause-remainder : goal.returns-clause-remainder
returns-clause-remainder c =
    let p = c.args.pen.now in
    let one = c.nought.new.pen in
    let two = c.low_bits.new.pen in
    let three = c.divided.new.pen in
    let new = c.digits.new.pen in
    let a : List ℕ = c.args.a.now in
    let b : List ℕ = c.args.b.now in
    let n : ℕ = length a in
    let z : ℕ = c.in_ok-nought.nought in
    let bits : List ℕ = c.in_ok-bits.bits.items in
    let rest : List ℕ = c.in_ok-made.made.rest.items in
    let borrows : List ℕ = c.in_ok-made.made.borrows.items in
    let quot : List ℕ = c.in_ok-quot.quot.items in
    let p1 = subst (λ (s : ℕ). Planned one two bits (λ _. 1) (s * n) (s * n) 1 (Each a) (λ xs j. bit_at (number_held one a xs) j)) c.space-space.ensures.value c.in_ok-bits.ensures.planned in
    let p2r = subst (λ (ds : List ℕ). Planned two three rest (λ _. 2 ^ two.space - 1) (length b) (length ds * div_step_jobs (length b)) (length ds * div_step_depth (length b)) (loop_operands ds b z) (rest_says two ds b (length ds))) c.deref.ensures.value c.in_ok-made.ensures.rest in
    let p2b = subst (λ (ds : List ℕ). Planned two three borrows (λ _. 1) (length ds) (length ds * div_step_jobs (length b)) (length ds * div_step_depth (length b)) (loop_operands ds b z) (borrow_says two ds b)) c.deref.ensures.value c.in_ok-made.ensures.borrows in
    let p3 = subst (λ (ds : List ℕ). Planned three new quot (λ _. 2 ^ three.space - 1) n n 1 (Each ds) (digit_says three ds)) c.deref-2.ensures.value c.in_ok-quot.ensures.planned in
    (division_is p one two three new a b bits rest borrows quot z c.space-space.ensures.bounded c.requires.same c.requires.first c.requires.second c.in_ok-nought.ensures.gives c.in_ok-nought.ensures.nought p1 p2r p2b p3).remainder_is

pub returns-clause-kept : goal.returns-clause-kept
returns-clause-kept c =
    extends_onward c.args.pen.now c.divided.new.pen c.digits.new.pen
    (extends_onward c.args.pen.now c.low_bits.new.pen c.divided.new.pen (extends_onward c.args.pen.now c.nought.new.pen c.low_bits.new.pen c.in_ok-nought.ensures.kept c.in_ok-bits.ensures.kept) c.in_ok-made.ensures.kept)
    c.in_ok-quot.ensures.kept
