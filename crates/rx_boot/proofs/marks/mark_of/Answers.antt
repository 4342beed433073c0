use Rattle.std.proofs.Common.{◌∙◌}
use Rattle.rx_boot.proofs.MarkPowers.{mark_is}
use Rattle.rx_boot.proofs.marks.mark_of.Goals as goal

pub returns-clause-value : goal.returns-clause-value
returns-clause-value c =
    c.mod_switch.ensures.value
    ∙ mark_is c.log_size.result c.args.p.now.poly_size c.args.word c.log_size.ensures.high c.log_size.ensures.value
