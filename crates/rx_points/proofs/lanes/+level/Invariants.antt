use Rattle.rx_points.proofs.lanes.+level.Given as goal

abbrev pub decreases-level : goal.decreases-level
decreases-level l = l.count
