use Rattle.std.proofs.Common.{◌≡◌, ℕ, pos, ◌%◌, ◌/◌, ◌^◌, to_z, w64, refl, sym, subst, arith}
use Rattle.std.proofs.lemmas.Int.{to_z-of_z}
use Rattle.rx_laws.proofs.Torus.{word_of_word}
use Rattle.rx_ring.specs.Recovery.{Recovers}
use Rattle.rx_points.proofs.ResidueBlocks.{recovers}
use Rattle.rx_points.proofs.way_up.word_of.Goals as goal

pub returns : goal.returns
returns c = λ number e.
    let known : ℕ = c.args.total % 2 ^ 69 in
    let low : to_z w64 (known % 2 ^ 30) ≡ pos (known % 2 ^ 30) = to_z-of_z w64 (pos (known % 2 ^ 30)) (record { sfits = omega arith }) in
    c.divided.ensures (pos (known / 2 ^ 30)) number (word_of_word (known / 2 ^ 30) (omega arith))
    (subst (λ z. Recovers z (pos (known / 2 ^ 30)) number) (sym low) (recovers c.args.total known number e refl))
