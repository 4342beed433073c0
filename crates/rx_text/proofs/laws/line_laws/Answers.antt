use Rattle.std.proofs.lemmas.List.Splits.{join_with_byte-slice_split}
use Rattle.rx_text.proofs.Splits.{first_line, words_back, lines_back}
use Rattle.rx_text.proofs.laws.line_laws.Goals as goal

pub returns : goal.returns
returns c = record {
  first_line = first_line;
  words = words_back;
  lines = lines_back;
  whole_line = join_with_byte-slice_split 32;
  whole_text = join_with_byte-slice_split 10;
}
