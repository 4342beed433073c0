use Rattle.std.proofs.Common.{◌≡◌, Ok, sym, subst}
use Rattle.rx_text.specs.Lines.{words_of}
use Rattle.rx_language.specs.Programs.{Program}
use Rattle.rx_language.specs.Reading.{ranged}
use Rattle.rx_language.proofs.Taken.{lawful_from}
use Rattle.rx_language.proofs.draft.Draft.read_line.Goals as goal

pub with_line-requires-clause-lawful : goal.with_line-requires-clause-lawful
with_line-requires-clause-lawful c =
    let s = c.in_ok-spelled.spelled in
    let line = c.in_ok-line.line in
    let in_range = subst (λ (p : Program). ranged p.space p.width s ≡ Ok line) c.self.view_is (sym c.in_ok-line.ensures) in
    lawful_from c.numeral_laws.ensures c.args.self.space c.args.self.width c.args.self.lines (words_of c.args.text.now) s line c.in_ok-step.step
    c.in_ok-spelled.ensures in_range c.in_ok-step.ensures c.in_ok-check_new.ensures
