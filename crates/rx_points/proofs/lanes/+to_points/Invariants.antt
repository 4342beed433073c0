use Rattle.rx_points.proofs.lanes.+to_points.Given as goal

abbrev pub decreases-to_points : goal.decreases-to_points
decreases-to_points l = l.d
