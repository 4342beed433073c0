use Rattle.std.proofs.Common.{◌==◌, sym, ap, ◌∙◌}
use Rattle.rx_text.specs.Lines.{words_of, two_of}
use Rattle.rx_text.proofs.Splits.{has_part, words_then, put_word, not_two}
use Rattle.rx_text.proofs.lines.two_words.Goals as goal

pub returns-in-Some : goal.returns-in-Some
returns-in-Some c =
    let rest = c.in-Some.field-0 in
    let second = words_then c.in_ok-rest.field-0.now _ _ rest c.first_word-2.ensures c.in-Some.is in
    let first = words_then c.args.line.now _ _ c.in_ok-rest.field-0 c.first_word.ensures c.in_ok-rest.was in
    sym (ap two_of (first ∙ put_word _ _ _ second) ∙ not_two _ _ (words_of rest.now) (has_part (λ b. b == 32) rest.now))
