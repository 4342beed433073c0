use Rattle.std.proofs.Common.{◌<◌, List, sym, ◌∙◌, subst, length, get_or, inr}
use Rattle.std.specs.Prelude.{pos}
use Rattle.std.proofs.lemmas.List.{get_or_default}
use Rattle.rx_net.specs.declared.term.Term.{Term}
use Rattle.rx_board.proofs.Views.{operand_at}
use Rattle.rx_board.proofs.board.Board.copy_operand.Goals as goal

pub copy_cell-requires-clause-may : goal.copy_cell-requires-clause-may
copy_cell-requires-clause-may g c = let ts = c.as_slice.result.now in let d : Term = record { cell = 0; weight = pos 0 } in
    let same = c.job.ensures.is ∙ sym c.as_slice.ensures in
    let within = subst (λ (us : List Term). c.args.place < length us) same c.requires.place in
    inr (
      c.args.job,
      c.args.place,
      c.requires.ready,
      operand_at c.args.self.now.plan c.args.job c.args.place c.input_count-inputs.result ts (get_or ts c.args.place d) same within
          (get_or_default ts c.args.place d (get_or ts c.args.place d) within) c.input_count-inputs.ensures c.if-named-inputs.false,
    )
