use Rattle.std.proofs.Common.{subst}
use Rattle.rx_laws.specs.Digits.{IsDigits}
use Rattle.rx_lwe.specs.SwitchKeys.{SwitchRows, IsSized}
use Rattle.rx_lwe.proofs.Switched.{digits-sum, digits-low}
use Rattle.rx_lwe.proofs.switch.SwitchKey.subtract_word.Goals as goal

pub subtract_rows-requires-clause-low : goal.subtract_rows-requires-clause-low
subtract_rows-requires-clause-low c =
    let s : SwitchRows = record { big = c.self.inside.big; small = c.self.inside.small; base_log = c.self.inside.base_log; levels = c.self.inside.levels; words = c.self.inside.words } in
    digits-low s c.args.word c.digits.new.out c.self.invariant c.digits.ensures

pub returns : goal.returns
returns c =
    let key : SwitchRows = c.args.self.now in
    let sized : IsSized key = subst IsSized c.self.view_is c.self.invariant in
    let P : SwitchRows → Type 0 = λ s. IsDigits c.args.word s.base_log s.levels c.digits.new.out in
    let are : IsDigits c.args.word key.base_log key.levels c.digits.new.out = subst P c.self.view_is c.digits.ensures in
    digits-sum key c.args.u c.args.word c.digits.new.out c.args.out.now c.subtract_rows.new.out sized are c.subtract_rows.ensures
