use Rattle.std.proofs.Common.{◌≡◌, ℕ, ◌<◌, get_or}
use Rattle.rx_multi.proofs.PairProducts.{product_at}
use Rattle.rx_multi.proofs.bits.write_products.Given as goal

abbrev pub invariant-loop-place : goal.invariant-loop-place
invariant-loop-place l = (k : ℕ) → k < l.place → get_or l.out k 0 ≡ product_at l.bits k
