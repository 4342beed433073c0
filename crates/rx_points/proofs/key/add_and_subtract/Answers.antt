use Rattle.std.proofs.Common.{◌≡◌, ℕ, pos, ◌+ℤ◌, ◌-ℤ◌, get_or, refl, ◌∙◌, ap, arith}
use Rattle.rx_laws.specs.Words.{of_words}
use Rattle.rx_points.specs.Residues.{residue}
use Rattle.rx_points.proofs.Residues.{residue-wrapping_add, residue-wrapping_sub}
use Rattle.rx_points.proofs.LimbProducts.{each_written, set_above}
use Rattle.rx_points.proofs.key.add_and_subtract.Goals as goal

pub loop-i-init : goal.loop-i-init
loop-i-init c = record { sums = λ t p. absurd (omega arith); differences = λ t p. absurd (omega arith); left = λ t p. refl }

pub loop-i-preserved : goal.loop-i-preserved
loop-i-preserved c =
    let i : ℕ = c.loop-i.i in
    record {
      sums = each_written (λ k v. residue (pos v) ≡ residue (of_words c.args.near.now k +ℤ of_words c.args.turned.now k))
          c.loop-i.near i _ (omega arith) c.loop-i.invariant.sums
          (residue-wrapping_add (get_or c.loop-i.near i 0) (get_or c.args.turned.now i 0)
          ∙ ap (λ x. residue (pos x +ℤ of_words c.args.turned.now i)) (c.loop-i.invariant.left i (omega arith)));
      differences = each_written (λ k v. residue (pos v) ≡ residue (of_words c.args.near.now k -ℤ of_words c.args.turned.now k))
          c.loop-i.away i _ (omega arith) c.loop-i.invariant.differences
          (residue-wrapping_sub (get_or c.loop-i.near i 0) (get_or c.args.turned.now i 0) (omega arith)
          ∙ ap (λ x. residue (pos x -ℤ of_words c.args.turned.now i)) (c.loop-i.invariant.left i (omega arith)));
      left = λ k p. set_above c.loop-i.near i _ k (omega arith) ∙ c.loop-i.invariant.left k (omega arith);
    }

pub returns-clause-sum : goal.returns-clause-sum
returns-clause-sum c = record { count = omega arith; each = λ i p. c.loop-i.invariant.sums i (omega arith) }

pub returns-clause-difference : goal.returns-clause-difference
returns-clause-difference c = record { count = omega arith; each = λ i p. c.loop-i.invariant.differences i (omega arith) }
