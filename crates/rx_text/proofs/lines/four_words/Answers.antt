use Rattle.std.proofs.Common.{◌==◌, sym, ap, ◌∙◌}
use Rattle.rx_text.specs.Lines.{words_of, four_of}
use Rattle.rx_text.proofs.Splits.{has_part, words_then, put_word, not_four}
use Rattle.rx_text.proofs.lines.four_words.Goals as goal

pub returns-in-Some : goal.returns-in-Some
returns-in-Some c =
    let rest = c.in-Some.field-0 in
    let fourth = words_then c.in_ok-rest-3.field-0.now _ _ rest c.first_word-4.ensures c.in-Some.is in
    let third = words_then c.in_ok-rest-2.field-0.now _ _ c.in_ok-rest-3.field-0 c.first_word-3.ensures c.in_ok-rest-3.was in
    let second = words_then c.in_ok-rest.field-0.now _ _ c.in_ok-rest-2.field-0 c.first_word-2.ensures c.in_ok-rest-2.was in
    let first = words_then c.args.line.now _ _ c.in_ok-rest.field-0 c.first_word.ensures c.in_ok-rest.was in
    let all = first ∙ put_word _ _ _ (second ∙ put_word _ _ _ (third ∙ put_word _ _ _ fourth)) in
    sym (ap four_of all ∙ not_four _ _ _ _ (words_of rest.now) (has_part (λ b. b == 32) rest.now))
