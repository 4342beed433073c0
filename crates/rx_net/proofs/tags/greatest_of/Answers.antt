use Rattle.std.proofs.Common.{◌≡◌, ◌<◌, ◌+◌, ℕ, [], List, ◌∷◌, suc, length, get_or, drop, ap, arith, max, drop-cons, add-one}
use Rattle.std.proofs.lemmas.List.{drop_all}
use Rattle.rx_net.specs.Tags.{greatest_of}
use Rattle.rx_net.proofs.tags.greatest_of.Goals as goal
use Rattle.rx_net.proofs.tags.greatest_of.Goals.{then-entry-most, else-entry-most}

step : (xs : List ℕ) (i m r : ℕ) → i < length xs → r ≡ max m (get_or xs i 0) → max m (greatest_of (drop i xs)) ≡ greatest_of xs
    → max r (greatest_of (drop (i + 1) xs)) ≡ greatest_of xs
unfolding greatest_of
step xs i m r p e h =
    let d : drop i xs ≡ get_or xs i 0 ∷ drop (suc i) xs = drop-cons xs i 0 p in
    let g : greatest_of (drop i xs) ≡ max (get_or xs i 0) (greatest_of (drop (suc i) xs)) = ap greatest_of d in
    rw add-one (omega arith)

pub loop-entry-init : goal.loop-entry-init
loop-entry-init c = omega arith

pub loop-entry-preserved : goal.loop-entry-preserved
loop-entry-preserved c =
    elim c.if-entry-most.branch [
      | then-entry-most w ↦ step c.args.entries.now c.loop-entry.entry-index c.loop-entry.most _ c.loop-entry-test.true (omega arith) c.loop-entry.invariant
      | else-entry-most w ↦ step c.args.entries.now c.loop-entry.entry-index c.loop-entry.most _ c.loop-entry-test.true (omega arith) c.loop-entry.invariant
    ]

pub returns : goal.returns
unfolding greatest_of
returns c =
    let d : drop c.loop-entry.entry-index c.args.entries.now ≡ [] = drop_all c.loop-entry.entry-index c.args.entries.now (omega arith) in
    let g : greatest_of (drop c.loop-entry.entry-index c.args.entries.now) ≡ 0 = ap greatest_of d in
    omega (arith, c.loop-entry.invariant)
