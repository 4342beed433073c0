use Rattle.std.proofs.Common.{◌∙◌, ap}
use Rattle.rx_meaning.specs.Bounds.{greatest}
use Rattle.rx_meaning.proofs.Known.{known}
use Rattle.rx_meaning.proofs.Sums.{depths_are}
use Rattle.rx_meaning.proofs.bounds.depth_bound.Goals as goal

pub line_depths-requires : goal.line_depths-requires
line_depths-requires c =
    known c.args.circuit.now c.space.result c.lines.result.now c.steps.result.now c.space.ensures.lawful c.space.ensures.value c.lines.ensures.value c.steps.ensures.value

pub returns : goal.returns
returns c =
    c.greatest.ensures
    ∙ ap greatest (c.deref.ensures.value ∙ c.in_ok-depths.ensures)
    ∙ depths_are c.args.circuit.now c.space.result c.lines.result.now c.steps.result.now c.space.ensures.value c.lines.ensures.value c.steps.ensures.value
