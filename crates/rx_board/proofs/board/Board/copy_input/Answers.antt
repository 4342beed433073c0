use Rattle.std.proofs.Common.{◌≡◌, ◌+◌, ◌-◌, ◌*◌, ◌<◌, ℕ, [], take, drop, get_or, sym, ap, ◌∙◌, subst, arith}
use Rattle.rx_board.specs.Rule.{input_count, BoardValue}
use Rattle.rx_uses.proofs.CellsLaw.{input_cell}
use Rattle.rx_board.proofs.board.Board.copy_input.Goals as goal

pub returns : goal.returns
returns g c = let k = c.self.inside.table.shared.key in let i : ℕ = c.args.input in let w : ℕ = c.self.inside.width in
    let x : ℕ = i * w in let e : (x + w) - x ≡ w = omega arith in
    let there : i < input_count k.net.now = subst (λ (b : BoardValue). i < input_count b.plan.net) (sym c.self.view_is) c.requires.input in
    c.copy_from_slice.ensures.after
    ∙ (ap (λ n. take n (drop (i * w) c.self.inside.inputs.now)) e
    ∙ ((λ j. take (sym c.self.invariant.2 j) (drop (i * sym c.self.invariant.2 j) (sym c.self.invariant.1 j)))
    ∙ (sym (input_cell g.K.JobWords.words_of (g.K.Kernel.basis k.kernel.value) k.net.now k.width k.inputs.now i there)
    ∙ ap (λ (b : BoardValue). get_or b.plan.cells i []) c.self.view_is)))
