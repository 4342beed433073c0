use Rattle.std.proofs.Common.{◌≡◌, ◌<◌, ◌≤◌, ◌+◌, ◌-◌, ◌*◌, ◌/◌, ◌%◌, ◌^◌, ◌++◌, ℕ, List, length, get_or, replicate, sym, ◌∙◌, ap, arith, subst}
use Rattle.std.proofs.lemmas.Nat.{div_below, mul-le}
use Rattle.rx_net.proofs.Grows.{extends_onward}
use Rattle.rx_costs.specs.Table.{div_step_jobs, div_step_depth}
use Rattle.rx_plan.specs.Planned.{IsCell, AreBlocks, Planned}
use Rattle.rx_plan.proofs.Kept.{blocks_now, cell_kept}
use Rattle.rx_plan.proofs.PerBlock.{space_low}
use Rattle.rx_div.proofs.Padded.{padded_count, padded_each, nought_later, nought_block}
use Rattle.rx_div.proofs.Stepped.{StepIs, blocks_given}
use Rattle.rx_div.proofs.Progressed.{loop_operands, rest_says, borrow_says, progress_none, progress_more, progress_ends, blocks_grow, one_more, room_left}
use Rattle.rx_div.proofs.steps.divided.Goals as goal

some_space : (r s : ℕ) → r ≡ s → 2 ≤ r → 1 ≤ s
some_space r s e h = omega arith

-- the blocks that a step is given
blocks_are : (ds es rest : List ℕ) (n z : ℕ) → ds ≡ es → es ≡ rest ++ replicate (n - length rest) z → ds ≡ rest ++ replicate (n - length rest) z
blocks_are ds es rest n z a b = a ∙ b

count_is : (ds rest : List ℕ) (n z : ℕ) → ds ≡ rest ++ replicate (n - length rest) z → length rest ≤ n → length ds ≡ n
count_is ds rest n z e l = let k : length rest + (n - length rest) ≡ n = omega arith in ap length e ∙ padded_count rest (n - length rest) z ∙ k

pub loop-t-init : goal.loop-t-init
loop-t-init c =
    let p = c.args.pen.now in
    progress_none p c.args.bits.now c.args.b.now c.new-rest.result.items c.new-borrows.result.items c.args.nought c.space-space.ensures.bounded
    (some_space c.space-space.result p.space c.space-space.ensures.value (space_low c.space-space.result c.space-space.ensures.known)) c.new-rest.ensures.items c.new-borrows.ensures.items

pub padded-requires : goal.padded-requires
padded-requires c =
    let p = c.args.pen.now in
    let rest : List ℕ = c.loop-t.rest.items in
    let t : ℕ = c.loop-t.t in
    let some : 1 ≤ p.space = some_space c.space-space.result p.space c.space-space.ensures.value (space_low c.space-space.result c.space-space.ensures.known) in
    let e : t / c.space-space.result ≡ t / p.space = ap (λ s. t / s) c.space-space.ensures.value in
    let n : length c.deref.result.now ≡ length rest = ap length c.deref.ensures.value in
    let g : length rest ≤ t / p.space + 1 = blocks_grow p.space t (length rest) some c.loop-t.invariant.few in
    omega arith

pub step-requires-clause-some : goal.step-requires-clause-some
step-requires-clause-some c =
    let p = c.args.pen.now in
    let rest : List ℕ = c.loop-t.rest.items in
    let t : ℕ = c.loop-t.t in
    let some : 1 ≤ p.space = some_space c.space-space.result p.space c.space-space.ensures.value (space_low c.space-space.result c.space-space.ensures.known) in
    let e : t / c.space-space.result ≡ t / p.space = ap (λ s. t / s) c.space-space.ensures.value in
    let g : length rest ≤ t / p.space + 1 = blocks_grow p.space t (length rest) some c.loop-t.invariant.few in
    let full : c.deref-in-loop-t.result.now ≡ rest ++ replicate (t / c.space-space.result + 1 - length rest) c.args.nought =
    c.deref-in-loop-t.ensures.value ∙ c.in_ok-blocks.ensures ∙ ap (λ ds. ds ++ replicate (t / c.space-space.result + 1 - length ds) c.args.nought) c.deref.ensures.value in
    let n : length c.deref-in-loop-t.result.now ≡ t / c.space-space.result + 1 = count_is c.deref-in-loop-t.result.now rest (t / c.space-space.result + 1) c.args.nought full (omega arith) in
    omega arith

pub step-requires-clause-few : goal.step-requires-clause-few
step-requires-clause-few c =
    let p = c.args.pen.now in
    let rest : List ℕ = c.loop-t.rest.items in
    let t : ℕ = c.loop-t.t in
    let some : 1 ≤ p.space = some_space c.space-space.result p.space c.space-space.ensures.value (space_low c.space-space.result c.space-space.ensures.known) in
    let e : t / c.space-space.result ≡ t / p.space = ap (λ s. t / s) c.space-space.ensures.value in
    let g : length rest ≤ t / p.space + 1 = blocks_grow p.space t (length rest) some c.loop-t.invariant.few in
    let full : c.deref-in-loop-t.result.now ≡ rest ++ replicate (t / c.space-space.result + 1 - length rest) c.args.nought =
    c.deref-in-loop-t.ensures.value ∙ c.in_ok-blocks.ensures ∙ ap (λ ds. ds ++ replicate (t / c.space-space.result + 1 - length ds) c.args.nought) c.deref.ensures.value in
    let n : length c.deref-in-loop-t.result.now ≡ t / c.space-space.result + 1 = count_is c.deref-in-loop-t.result.now rest (t / c.space-space.result + 1) c.args.nought full (omega arith) in
    let w : p.space * length c.args.b.now ≡ length c.args.b.now * p.space = omega arith in
    let below : t / p.space < length c.args.b.now = div_below t p.space (length c.args.b.now) (omega arith) (omega (arith, c.requires.same, c.loop-t-test.true)) in
    omega arith

pub step-requires-clause-blocks : goal.step-requires-clause-blocks
step-requires-clause-blocks c =
    let p = c.args.pen.now in
    let now = c.loop-t.pen in
    let rest : List ℕ = c.loop-t.rest.items in
    let t : ℕ = c.loop-t.t in
    let k : ℕ = t / c.space-space.result + 1 - length rest in
    let full : c.deref-in-loop-t.result.now ≡ rest ++ replicate k c.args.nought =
    c.deref-in-loop-t.ensures.value ∙ c.in_ok-blocks.ensures ∙ ap (λ ds. ds ++ replicate (t / c.space-space.result + 1 - length ds) c.args.nought) c.deref.ensures.value in
    let h = c.loop-t.invariant.rest_is in
    subst (AreBlocks now) (sym full)
    (padded_each rest k c.args.nought (IsCell now (2 ^ now.space - 1)) (blocks_given p now rest _ _ _ _ _ h) (nought_block now c.args.nought (nought_later p now c.args.nought h.extends c.requires.nought)))

pub step-requires-clause-bit : goal.step-requires-clause-bit
step-requires-clause-bit c =
    let i : ℕ = length c.args.bits.now - 1 - c.loop-t.t in
    cell_kept c.args.pen.now c.loop-t.pen 1 (get_or c.args.bits.now i 0) c.loop-t.invariant.rest_is.extends (c.requires.bits i (omega (arith, c.loop-t-test.true)))

pub step-requires-clause-divisor : goal.step-requires-clause-divisor
step-requires-clause-divisor c = blocks_now c.args.pen.now c.loop-t.pen c.args.b.now c.loop-t.invariant.rest_is.extends c.requires.divisor

pub step-requires-clause-nought : goal.step-requires-clause-nought
step-requires-clause-nought c = nought_later c.args.pen.now c.loop-t.pen c.args.nought c.loop-t.invariant.rest_is.extends c.requires.nought

pub step-requires-clause-room : goal.step-requires-clause-room
step-requires-clause-room c =
    let h = c.loop-t.invariant.rest_is in
    let t : ℕ = c.loop-t.t in
    let w : ℕ = length c.args.bits.now in
    let j : ℕ = div_step_jobs (length c.args.b.now) in
    let m : (t + 1) * j ≤ w * j = mul-le (t + 1) j w j (omega (arith, c.loop-t-test.true)) (omega arith) in
    let s : t * j + j ≡ (t + 1) * j = one_more t j in
    let l : t * j + j ≤ w * j = rw s m in
    room_left c.args.pen.now c.loop-t.pen (t * j) j (w * j) h.extends h.jobs_in c.requires.room l

pub loop-t-preserved : goal.loop-t-preserved
loop-t-preserved c =
    let p = c.args.pen.now in
    let now = c.loop-t.pen in
    let new = c.step.new.pen in
    let bits : List ℕ = c.args.bits.now in
    let b : List ℕ = c.args.b.now in
    let rest : List ℕ = c.loop-t.rest.items in
    let cells : List ℕ = c.in_ok-made.made.rest.items in
    let cell : ℕ = c.in_ok-made.made.borrow in
    let t : ℕ = c.loop-t.t in
    let z : ℕ = c.args.nought in
    let bit : ℕ = get_or bits (length bits - 1 - t) 0 in
    let k : ℕ = t / c.space-space.result + 1 - length rest in
    let some : 1 ≤ p.space = some_space c.space-space.result p.space c.space-space.ensures.value (space_low c.space-space.result c.space-space.ensures.known) in
    let e : t / c.space-space.result ≡ t / p.space = ap (λ s. t / s) c.space-space.ensures.value in
    let g : length rest ≤ t / p.space + 1 = blocks_grow p.space t (length rest) some c.loop-t.invariant.few in
    let wide : length rest + k ≡ t / p.space + 1 = omega arith in
    let full : c.deref-in-loop-t.result.now ≡ rest ++ replicate k z =
    c.deref-in-loop-t.ensures.value ∙ c.in_ok-blocks.ensures ∙ ap (λ ds. ds ++ replicate (t / c.space-space.result + 1 - length ds) z) c.deref.ensures.value in
    let is : StepIs now new c.deref-in-loop-t.result.now b cells bit z cell = record { rest_is = c.in_ok-made.ensures.rest; borrow_is = c.in_ok-made.ensures.borrow } in
    let stepped : StepIs now new (rest ++ replicate k z) b cells bit z cell = subst (λ (ds : List ℕ). StepIs now new ds b cells bit z cell) full is in
    rw c.in_ok-push.ensures.items (progress_more p now new bits b rest c.loop-t.borrows.items cells z t k cell c.space-space.ensures.bounded some c.loop-t-test.true c.requires.bits c.requires.divisor c.requires.nought
    wide c.loop-t.invariant stepped)

pub returns-clause-rest : goal.returns-clause-rest
returns-clause-rest c =
    let p = c.args.pen.now in
    let now = c.loop-t.pen in
    let bits : List ℕ = c.args.bits.now in
    let b : List ℕ = c.args.b.now in
    let rest : List ℕ = c.loop-t.rest.items in
    let h = c.loop-t.invariant in
    let some : 1 ≤ p.space = some_space c.space-space.result p.space c.space-space.ensures.value (space_low c.space-space.result c.space-space.ensures.known) in
    let e : c.loop-t.t ≡ length bits = omega arith in
    let n : length rest ≡ length b = progress_ends p now bits b rest c.loop-t.borrows.items c.args.nought c.loop-t.t some (e ∙ c.requires.same) h in
    subst (λ (t : ℕ). Planned p now rest (λ _. 2 ^ p.space - 1) (length b) (t * div_step_jobs (length b)) (t * div_step_depth (length b)) (loop_operands bits b c.args.nought) (rest_says p bits b t)) e
    (subst (λ (n : ℕ). Planned p now rest (λ _. 2 ^ p.space - 1) n (c.loop-t.t * div_step_jobs (length b)) (c.loop-t.t * div_step_depth (length b)) (loop_operands bits b c.args.nought) (rest_says p bits b c.loop-t.t)) n h.rest_is)

pub returns-clause-borrows : goal.returns-clause-borrows
returns-clause-borrows c =
    let p = c.args.pen.now in
    let bits : List ℕ = c.args.bits.now in
    let b : List ℕ = c.args.b.now in
    let e : c.loop-t.t ≡ length bits = omega arith in
    subst (λ (t : ℕ). Planned p c.loop-t.pen c.loop-t.borrows.items (λ _. 1) t (t * div_step_jobs (length b)) (t * div_step_depth (length b)) (loop_operands bits b c.args.nought) (borrow_says p bits b)) e c.loop-t.invariant.borrows_are

pub returns-clause-kept : goal.returns-clause-kept
returns-clause-kept c = c.loop-t.invariant.rest_is.extends

pub returns-in_err-made-clause-kept : goal.returns-in_err-made-clause-kept
returns-in_err-made-clause-kept c = extends_onward c.args.pen.now c.loop-t.pen c.step.new.pen c.loop-t.invariant.rest_is.extends c.step.ensures.kept

pub returns-in_err-push-clause-kept : goal.returns-in_err-push-clause-kept
returns-in_err-push-clause-kept c = extends_onward c.args.pen.now c.loop-t.pen c.step.new.pen c.loop-t.invariant.rest_is.extends c.in_ok-made.ensures.kept

pub returns-in_err-blocks-clause-kept : goal.returns-in_err-blocks-clause-kept
returns-in_err-blocks-clause-kept c = c.loop-t.invariant.rest_is.extends
