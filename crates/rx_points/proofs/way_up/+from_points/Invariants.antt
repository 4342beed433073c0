use Rattle.rx_points.proofs.way_up.+from_points.Given as goal

abbrev pub decreases-from_points : goal.decreases-from_points
decreases-from_points l = l.d
