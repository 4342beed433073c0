use Rattle.std.proofs.Common.{◌≡◌, ℕ, ◌<◌, ◌^◌, ℤ, sym, ap, ◌∙◌, subst}
use Rattle.rx_residue.specs.Residues.{residue}
use Rattle.rx_residue.proofs.Turns.{residue_below}
use Rattle.rx_language.specs.Kinds.{bits_of}
use Rattle.rx_meaning.specs.Operations.{given_by}
use Rattle.rx_meaning.proofs.evaluation.value_after.Goals as goal

pub returns-clause-held : goal.returns-clause-held
returns-clause-held c =
    let bits : ℕ = bits_of c.args.step.now.kind in
    let z : ℤ = given_by c.args.line.now.word c.args.given c.argument-a.result c.argument-b.result c.argument-c.result in
    let e : c.operate.result ≡ residue bits z = c.operate.ensures ∙ ap (λ w. residue w z) c.bits.ensures in
    record { bits = c.requires.bits; below = subst (λ (x : ℕ). x < 2 ^ bits) (sym e) (residue_below bits z) }
