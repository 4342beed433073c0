use Rattle.rx_multi.proofs.turns.start.Goals as goal

pub returns-clause-started : goal.returns-clause-started
returns-clause-started c = (c.start_rotation.ensures.masks, c.start_rotation.ensures.body)
