use Rattle.std.proofs.Common.{◌+◌, ◌*◌, ap, ◌∙◌}
use Rattle.std.specs.Mem.Slots.{slots_items}
use Rattle.rx_board.specs.Closing.{ClosedValue, state_of}
use Rattle.rx_board.proofs.Closes.{at_elem}
use Rattle.rx_board.proofs.closed.Closed.state.Goals as goal

pub returns : goal.returns
returns c = at_elem (slots_items c.self.inside.table.words) (1 + c.args.job * (c.self.inside.width + 2)) c.word.result c.word.ensures ∙ ap (λ (v : ClosedValue). state_of v c.args.job) c.self.view_is
