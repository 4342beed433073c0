use Rattle.std.proofs.Common.{◌≡◌, ◌≤◌, ◌+◌, ◌-◌, ◌^◌, ◌++◌, ℕ, List, length, replicate, sym, ◌∙◌, ap, arith, subst}
use Rattle.std.proofs.lemmas.Result.{IfOk-weaker}
use Rattle.rx_plan.specs.Planned.{IsCell, AreBlocks}
use Rattle.rx_div.proofs.Padded.{padded_count, padded_each, nought_block}
use Rattle.rx_div.proofs.Stepped.{borrow_planned}
use Rattle.rx_div.proofs.steps.borrow.Goals as goal

size_is : (ds number : List ℕ) (n z : ℕ) → ds ≡ number ++ replicate (n - length number) z → length number ≤ n → length ds ≡ n
size_is ds number n z e l = let k : length number + (n - length number) ≡ n = omega arith in ap length e ∙ padded_count number (n - length number) z ∙ k

pub passed_out-requires-clause-some : goal.passed_out-requires-clause-some
passed_out-requires-clause-some c =
    let n : length c.deref.result.now ≡ length c.args.b.now = size_is c.deref.result.now c.args.number.now (length c.args.b.now) c.args.nought (c.deref.ensures.value ∙ c.in_ok-whole.ensures) c.requires.few in
    omega (arith, c.requires.some)

pub passed_out-requires-clause-same : goal.passed_out-requires-clause-same
passed_out-requires-clause-same c = sym (size_is c.deref.result.now c.args.number.now (length c.args.b.now) c.args.nought (c.deref.ensures.value ∙ c.in_ok-whole.ensures) c.requires.few)

pub passed_out-requires-clause-first : goal.passed_out-requires-clause-first
passed_out-requires-clause-first c =
    let p = c.args.pen.now in
    let e : c.deref.result.now ≡ c.args.number.now ++ replicate (length c.args.b.now - length c.args.number.now) c.args.nought = c.deref.ensures.value ∙ c.in_ok-whole.ensures in
    subst (AreBlocks p) (sym e) (padded_each c.args.number.now (length c.args.b.now - length c.args.number.now) c.args.nought (IsCell p (2 ^ p.space - 1)) c.requires.first (nought_block p c.args.nought c.requires.nought))

pub passed_out-requires-clause-room : goal.passed_out-requires-clause-room
passed_out-requires-clause-room c =
    let n : length c.deref.result.now ≡ length c.args.b.now = size_is c.deref.result.now c.args.number.now (length c.args.b.now) c.args.nought (c.deref.ensures.value ∙ c.in_ok-whole.ensures) c.requires.few in
    omega (arith, c.requires.room)

pub returns-clause-planned : goal.returns-clause-planned
returns-clause-planned c =
    let e : c.deref.result.now ≡ c.args.number.now ++ replicate (length c.args.b.now - length c.args.number.now) c.args.nought = c.deref.ensures.value ∙ c.in_ok-whole.ensures in
    let n : length c.deref.result.now ≡ length c.args.b.now = size_is c.deref.result.now c.args.number.now (length c.args.b.now) c.args.nought e c.requires.few in
    IfOk-weaker c.passed_out.result _ _ (λ k m.
    borrow_planned c.args.pen.now c.passed_out.new.pen c.args.number.now c.args.b.now c.deref.result.now (length c.args.b.now - length c.args.number.now) c.args.nought k c.space-space.ensures.bounded e n c.requires.nought m)
    c.passed_out.ensures.planned
