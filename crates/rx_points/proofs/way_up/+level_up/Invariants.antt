use Rattle.rx_points.proofs.way_up.+level_up.Given as goal

abbrev pub decreases-level_up : goal.decreases-level_up
decreases-level_up l = l.count
