use Rattle.std.proofs.Common.{ℕ, ◌<◌, ◌^◌, List, length, sym, subst, ◌∙◌, ap}
use Rattle.std.specs.Prelude.{EachIndex, slice_index}
use Rattle.rx_list.proofs.Overwritten.{overwritten-all}
use Rattle.rx_crew.proofs.blocks.copy_block.Goals as goal

pub returns-clause-words : goal.returns-clause-words
returns-clause-words c =
    let P : List ℕ → Type 0 = λ ws. EachIndex ws (λ i. slice_index ws i < 2 ^ 64) in
    subst P
    (sym (overwritten-all c.args.to.now.words c.copy_words.new.to (c.copy_words.auto.to ∙ ap length c.as_mut_slice.ensures.value)))
    c.copy_words.ensures.words
