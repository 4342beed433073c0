use Rattle.rx_points.proofs.key.+word_points.Given as goal

abbrev pub decreases-word_points : goal.decreases-word_points
decreases-word_points l = l.d
