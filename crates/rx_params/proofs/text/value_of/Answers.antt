use Rattle.std.proofs.Common.{◌≡◌, true, sym, ◌∙◌}
use Rattle.std.specs.Str.{bytes_eq}
use Rattle.std.proofs.lemmas.Result.{err_from_is_err_and}
use Rattle.rx_text.specs.Lines.{words_of}
use Rattle.rx_params.proofs.Texts.{value_of_two}
use Rattle.rx_params.proofs.text.value_of.Goals as goal

pub returns-in_err-number_below-in-Some : goal.returns-in_err-number_below-in-Some
returns-in_err-number_below-in-Some c =
    let p = err_from_is_err_and c.from_residual.result c.from_residual.ensures.1 in
    let test = sym c.eq.ensures ∙ c.if-eq.true in
    let named : bytes_eq c.in-Some.word.now c.args.name.now ≡ true = rw c.as_bytes.ensures.value at test in
    rw (p.1, p.2) (c.in_err-number_below-in-Some.ensures ∙ sym (value_of_two c.args.name.now (words_of c.args.text.now) c.in-Some.word.now c.in-Some.number.now c.in-Some.ensures named))
