use Rattle.std.proofs.Common.{length}
use Rattle.rx_points.proofs.products.+subtract_windows.Given as goal

abbrev pub decreases-subtract_windows : goal.decreases-subtract_windows
decreases-subtract_windows l = length l.sums.now
