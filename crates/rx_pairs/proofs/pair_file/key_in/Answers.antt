use Rattle.std.proofs.Common.{sym, ◌∙◌}
use Rattle.rx_multi.proofs.Keys.{all_words}
use Rattle.rx_codec.proofs.Servers.{words_in-count}
use Rattle.rx_pairs.proofs.pair_file.key_in.Goals as goal

pub of_words-requires-clause-size : goal.of_words-requires-clause-size
of_words-requires-clause-size c =
    words_in-count c.pair_words.result _ c.args.bytes.now c.deref.result.now (c.deref.ensures.value ∙ c.in_ok-words.ensures)
    (c.pair_words.ensures.value ∙ sym (all_words c.args.p.now))
