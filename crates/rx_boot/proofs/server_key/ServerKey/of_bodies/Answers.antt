use Rattle.std.proofs.Common.{ap, sym, length, ◌∙◌}
use Rattle.rx_lwe.specs.SwitchKeys.{SwitchRows, switch_key}
use Rattle.rx_boot.proofs.SeededKeys.{seeded_boot-length}
use Rattle.rx_boot.proofs.server_key.ServerKey.of_bodies.Goals as goal

pub invariant_of-result : goal.invariant_of-result
invariant_of-result c = (
  c.requires.accepted,
  ap length (c.from_words.ensures ∙ c.from_vec-words.ensures ∙ c.in_ok-seeded_words.ensures)
      ∙ seeded_boot-length c.args.p.now c.args.mask_seed.now c.split_at.result.0.now
      (c.split_at.ensures.front_len ∙ c.boot_body_words.ensures.value),
  c.in_ok-of_bodies.ensures ∙ ap (switch_key c.args.p.now) (sym (ap (λ (s : SwitchRows). s.words) c.in_ok-of_bodies.ensures)),
)
