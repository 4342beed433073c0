use Rattle.std.proofs.Common.{◌<◌, ◌^◌, ◌∙◌, ap, sym, Some}
use Rattle.rx_params.specs.declared.bounds.Refused.TheVariants.{Limit}
use Rattle.rx_params.specs.Derived.{words_by}
use Rattle.rx_params.proofs.Refusals.{refused-key}
use Rattle.rx_params.proofs.bounds.check_key.Goals as goal

pub returns-else-words-le-MOST_KEY_WORDS-clause-many : goal.returns-else-words-le-MOST_KEY_WORDS-clause-many
returns-else-words-le-MOST_KEY_WORDS-clause-many c =
    let many : 2 ^ 24 < words_by c.args.rotation c.args.p.now = rw c.key_words-words.ensures at c.if-words-le-MOST_KEY_WORDS.false in
    refused-key c.args.rotation c.args.p.now c.requires.fields c.requires.whole many ∙ ap (λ n. Some (Limit 11 n)) (sym c.key_words-words.ensures)
