use Rattle.std.proofs.Common.{◌∙◌, ap}
use Rattle.rx_lwe.specs.SwitchKeys.{SwitchRows, switch_key, switched_words}
use Rattle.rx_boot.specs.ServerKeys.{ServerWords}
use Rattle.rx_boot.proofs.Sizes.{some_coefficients}
use Rattle.rx_boot.proofs.Lookup.{looks_up-is}
use Rattle.rx_boot.proofs.Turning.{bootstrapped-is}
use Rattle.rx_boot.proofs.bootstrap.bootstrap_into.Goals as goal

pub returns-clause-output : goal.returns-clause-output
returns-clause-output c =
    bootstrapped-is c.args.key.now c.key.inside.params c.args.table.now c.args.input.now c.switch_into.new.out c.words.result.now
    c.rotate.new.turning c.extract_into.new.out (some_coefficients c.key.inside.params c.key.invariant.0.fields)
    (ap (λ (k : ServerWords). k.params) c.key.view_is)
    (c.words.ensures ∙ ap (λ (k : ServerWords). k.boot) c.key.view_is)
    (c.switch_into.ensures ∙ ap (λ (s : SwitchRows). switched_words s c.args.input.now)
    (c.key.invariant.2 ∙ ap (λ (k : ServerWords). switch_key k.params k.switch) c.key.view_is))
    c.rotate.ensures.rotated c.extract_into.ensures

pub returns-clause-looks_up : goal.returns-clause-looks_up
returns-clause-looks_up c =
    looks_up-is c.args.key.now c.key.inside.params c.args.table.now c.args.input.now c.extract_into.new.out
    c.key.invariant.0 (ap (λ (k : ServerWords). k.params) c.key.view_is) (returns-clause-output c)
