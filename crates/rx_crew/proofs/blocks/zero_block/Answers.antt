use Rattle.std.proofs.Common.{refl, ap, replicate, ◌+◌, ◌∙◌}
use Rattle.rx_crew.proofs.Placed.{zero_block-made}
use Rattle.rx_crew.proofs.blocks.zero_block.Goals as goal

pub returns : goal.returns
returns c =
    zero_block-made c.args.p.now c.from_vec.result _
    (c.from_vec.ensures ∙ c.in_ok-words.ensures.items_if_clones_equal (λ y e. e) ∙ ap (λ n. replicate (n + 1) 0) c.large_dim.ensures.value) refl
