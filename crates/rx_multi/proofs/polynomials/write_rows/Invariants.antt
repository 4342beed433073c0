use Rattle.std.proofs.Common.{◌≡◌, ℕ, ◌<◌, ◌+◌, ◌*◌, get_or}
use Rattle.rx_laws.specs.Torus.{word}
use Rattle.rx_multi.specs.Turns.{chosen_part}
use Rattle.rx_multi.proofs.polynomials.write_rows.Given as goal

abbrev pub invariant-loop-place : goal.invariant-loop-place
invariant-loop-place l =
    (u x : ℕ) → u < l.place → x < l.n →
    get_or l.rows (u * l.n + x) 0 ≡ word (chosen_part l.p l.products l.amounts.first l.amounts.second u x)
