use Rattle.rx_points.proofs.key.+level_down.Given as goal

abbrev pub decreases-level_down : goal.decreases-level_down
decreases-level_down l = l.count
