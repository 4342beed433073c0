use Rattle.std.proofs.Common.{◌≡◌, ℕ, ◌+◌, max, List, get_or, drop, sym, ap, ◌∙◌, arith}
use Rattle.rx_meaning.specs.Bounds.{greatest}
use Rattle.rx_meaning.proofs.Sums.{most_more, most_end, max_turned}
use Rattle.rx_meaning.proofs.bounds.greatest.Goals as goal

pub loop-number-preserved : goal.loop-number-preserved
loop-number-preserved c =
    let numbers : List ℕ = c.args.numbers.now in
    let i : ℕ = c.loop-number.number-index in
    let rest : ℕ = greatest (drop (i + 1) numbers) in
    ap (λ k. max k rest) c.max-most.ensures
    ∙ max_turned (get_or numbers i 0) c.loop-number.most rest
    ∙ ap (max c.loop-number.most) (sym (most_more numbers i c.loop-number-test.true))
    ∙ c.loop-number.invariant

pub returns : goal.returns
returns c =
    let e : greatest (drop c.loop-number.number-index c.args.numbers.now) ≡ 0 = most_end c.args.numbers.now c.loop-number.number-index c.loop-number-test.false in
    let h : max c.loop-number.most (greatest (drop c.loop-number.number-index c.args.numbers.now)) ≡ greatest c.args.numbers.now = c.loop-number.invariant in
    omega arith
