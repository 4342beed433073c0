use Rattle.rx_language.proofs.Drafts.{is_empty_draft}
use Rattle.rx_language.proofs.draft.Draft.new.Goals as goal

pub invariant_of-result : goal.invariant_of-result
invariant_of-result c =
    rw (c.new.ensures.items, c.new-2.ensures.items)
    (is_empty_draft c.args.space c.args.width c.new-3.result c.requires.space c.requires.width c.new-3.ensures.empty)
