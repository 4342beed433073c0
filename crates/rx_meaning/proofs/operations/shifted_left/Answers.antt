use Rattle.std.proofs.Common.{pos, sym, ◌∙◌, ap, ◌*◌, ◌^◌, ◌%◌, arith}
use Rattle.rx_residue.specs.Residues.{residue}
use Rattle.rx_meaning.proofs.Shifts.{residue_far, shift_whole}
use Rattle.rx_meaning.proofs.operations.shifted_left.Goals as goal

pub returns-then-amount-ge64 : goal.returns-then-amount-ge64
returns-then-amount-ge64 c = sym (residue_far c.args.width c.args.number c.args.amount (omega arith))

pub returns : goal.returns
returns c =
    c.reduced.ensures
    ∙ ap (λ n. residue c.args.width (pos (n * 2 ^ c.args.amount % 2 ^ 128))) c.from.ensures
    ∙ ap (λ n. residue c.args.width (pos n)) (shift_whole c.args.number c.args.amount (omega arith) (omega arith))
