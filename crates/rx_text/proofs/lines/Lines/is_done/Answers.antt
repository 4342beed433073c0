use Rattle.std.proofs.Common.{length, sym, ap, ◌∙◌}
use Rattle.std.proofs.lemmas.Bool.{eqb-true, eq-eqb}
use Rattle.std.proofs.lemmas.List.{nil_from_length}
use Rattle.rx_text.specs.Lines.{parts_of}
use Rattle.rx_text.proofs.Splits.{only_empty}
use Rattle.rx_text.proofs.lines.Lines.is_done.Goals as goal

pub returns : goal.returns
returns c =
    let rest = c.self.inside.rest.now in (
      (λ done. sym c.self.view_is ∙ ap parts_of (nil_from_length rest (eqb-true (length rest) 0 (sym c.is_empty.ensures ∙ done)))),
      (λ one. c.is_empty.ensures ∙ eq-eqb (length rest) 0 (ap length (only_empty rest (c.self.view_is ∙ one)))),
    )
