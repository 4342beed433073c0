use Rattle.std.proofs.Common.{◌∙◌}
use Rattle.rx_params.proofs.Texts.{found_by, set_again}
use Rattle.rx_params.proofs.text.read_params.Goals as goal

pub returns-clause-found : goal.returns-clause-found
returns-clause-found c = found_by c.numeral_laws.ensures c.line_laws.ensures c.args.bytes.now c.fields_of_text.result c.fields_of_text.ensures

pub returns-clause-only : goal.returns-clause-only
returns-clause-only c = λ p text. c.fields_of_text.ensures ∙ set_again c.numeral_laws.ensures c.word_laws.ensures c.line_laws.ensures c.args.bytes.now p text
