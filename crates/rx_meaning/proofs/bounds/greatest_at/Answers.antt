use Rattle.std.proofs.Common.{◌≡◌, ℕ, ◌+◌, max, List, get_or, drop, sym, ap, ◌∙◌, arith}
use Rattle.rx_meaning.specs.Bounds.{greatest_at}
use Rattle.rx_meaning.proofs.Sums.{greatest_more, greatest_end, max_turned}
use Rattle.rx_meaning.proofs.bounds.greatest_at.Goals as goal

pub loop-place-preserved : goal.loop-place-preserved
loop-place-preserved c =
    let numbers : List ℕ = c.args.numbers.now in
    let places : List ℕ = c.args.places.now in
    let i : ℕ = c.loop-place.place-index in
    let rest : ℕ = greatest_at numbers (drop (i + 1) places) in
    ap (λ k. max k rest) (c.max-most.ensures ∙ ap (λ n. max n c.loop-place.most) c.number_at.ensures)
    ∙ max_turned (get_or numbers (get_or places i 0) 0) c.loop-place.most rest
    ∙ ap (max c.loop-place.most) (sym (greatest_more numbers places i c.loop-place-test.true))
    ∙ c.loop-place.invariant

pub returns : goal.returns
returns c =
    let rest : ℕ = greatest_at c.args.numbers.now (drop c.loop-place.place-index c.args.places.now) in
    let e : rest ≡ 0 = greatest_end c.args.numbers.now c.args.places.now c.loop-place.place-index c.loop-place-test.false in
    let m : max c.loop-place.most 0 ≡ c.loop-place.most = omega arith in
    sym (ap (max c.loop-place.most) e ∙ m) ∙ c.loop-place.invariant
