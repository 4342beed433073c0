use Rattle.std.proofs.Common.{string_bytes, lit<}
use Rattle.rx_language.specs.Words.{spelling, form}
use Rattle.rx_language.specs.Texts.{stated_words, tail_words}
use Rattle.rx_language.proofs.Written.{line_written}
use Rattle.rx_language.proofs.writing.put_line.Goals as goal

pub returns : goal.returns
returns c =
    let line = c.args.line.now in
    let row = form line.word in
    rw (
      c.in_ok-push.ensures.bytes,
      c.in_ok-push.ensures.ascii (lit< tt),
      c.in_ok-put_tail.ensures,
      c.in_ok-put_names.ensures,
      c.in_ok-put_stated.ensures,
      c.in_ok-put_word.ensures,
      c.in_ok-push_str.ensures.bytes,
      c.as_slice.ensures,
      c.as_str-2.ensures.value,
      c.as_str.ensures,
      c.form-form.ensures,
    ) (line_written (string_bytes c.args.text.now) (spelling line.word) line.name (stated_words row.stated line.width) line.args (tail_words row.tail line.number))
