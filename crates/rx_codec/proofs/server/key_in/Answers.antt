use Rattle.std.proofs.Common.{ap, refl, sym, ◌∙◌, arith}
use Rattle.rx_lwe.specs.SwitchKeys.{SwitchRows, switch_key}
use Rattle.rx_boot.proofs.MadeKeys.{all_words}
use Rattle.rx_codec.proofs.Servers.{words_in-count, key_of-bytes}
use Rattle.rx_codec.proofs.server.key_in.Goals as goal

pub split_at-requires : goal.split_at-requires
split_at-requires c = omega (arith, all_words c.args.p.now)

pub words_of-requires-2 : goal.words_of-requires-2
words_of-requires-2 c = omega (arith, all_words c.args.p.now, c.split_at.ensures.back_len)

pub of_words-requires-clause-size : goal.of_words-requires-clause-size
of_words-requires-clause-size c =
    words_in-count c.switch_words.result _ c.split_at.result.1.now c.from_vec-switch.result (c.from_vec-switch.ensures ∙ c.in_ok-words_of-2.ensures)
    c.switch_words.ensures.value

pub invariant_of-result : goal.invariant_of-result
invariant_of-result c = (
  c.requires.accepted,
  words_in-count c.boot_words-count.result _ c.split_at.result.0.now c.from_words.result
      (c.from_words.ensures ∙ c.from_vec-boot.ensures ∙ c.in_ok-words_of.ensures) c.boot_words-count.ensures.value,
  c.of_words.ensures ∙ ap (switch_key c.args.p.now) (sym (ap (λ (s : SwitchRows). s.words) c.of_words.ensures)),
)

pub returns : goal.returns
returns c =
    key_of-bytes c.args.p.now c.args.bytes.now c.split_at.result.0.now c.split_at.result.1.now c.from_words.result c.of_words.result.words
    c.boot_words-count.result c.switch_words.result _ c.boot_words-count.ensures.value c.switch_words.ensures.value
    c.split_at.ensures.front c.split_at.ensures.back (c.from_words.ensures ∙ c.from_vec-boot.ensures ∙ c.in_ok-words_of.ensures)
    (ap (λ (s : SwitchRows). s.words) c.of_words.ensures ∙ c.from_vec-switch.ensures ∙ c.in_ok-words_of-2.ensures) refl
