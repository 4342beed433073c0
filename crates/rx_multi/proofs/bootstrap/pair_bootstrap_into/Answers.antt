use Rattle.std.proofs.Common.{sym, ◌∙◌, ap}
use Rattle.rx_lwe.specs.SwitchKeys.{SwitchRows, switched_words}
use Rattle.rx_boot.proofs.Sizes.{some_coefficients}
use Rattle.rx_multi.specs.PairKeys.{PairWords, pair_size}
use Rattle.rx_multi.proofs.Lookup.{looks_up-is}
use Rattle.rx_multi.proofs.Turning.{bootstrapped-is}
use Rattle.rx_multi.proofs.bootstrap.pair_bootstrap_into.Goals as goal

pub rotate-requires-clause-rows_size : goal.rotate-requires-clause-rows_size
rotate-requires-clause-rows_size c = c.rows.ensures.size ∙ ap (λ (k : PairWords). pair_size k.params) (sym c.key.view_is)

pub returns-clause-output : goal.returns-clause-output
returns-clause-output c =
    bootstrapped-is c.args.key.now c.key.inside.params c.args.table.now c.args.input.now c.switch_into.new.out c.rows.result.now
    c.rotate.new.turning c.extract_into.new.out (some_coefficients c.key.inside.params c.key.invariant.0.fields)
    (ap (λ (k : PairWords). k.params) c.key.view_is) c.rows.ensures.value
    (c.switch_into.ensures ∙ ap (λ (s : SwitchRows). switched_words s c.args.input.now) c.switch.ensures)
    c.rotate.ensures.rotated c.extract_into.ensures

pub returns-clause-looks_up : goal.returns-clause-looks_up
returns-clause-looks_up c =
    looks_up-is c.args.key.now c.args.table.now c.args.input.now c.extract_into.new.out c.rows.ensures.accepted (returns-clause-output c)
