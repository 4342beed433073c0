use Rattle.std.proofs.Common.{◌≡◌, ℕ, pos, ◌+◌, ◌-◌, ◌*◌, ◌<◌, ◌≤◌, List, get_or, refl, ap, arith}
use Rattle.rx_ring.specs.Parts.{of_parts}
use Rattle.rx_points.proofs.ResidueBlocks.{closed_inside, closed_first}
use Rattle.rx_points.proofs.way_up.closed_at.Goals as goal

pub returns-then-t-gt0 : goal.returns-then-t-gt0
returns-then-t-gt0 c =
    let n : ℕ = c.args.n in
    let j : ℕ = c.args.j in
    let t : ℕ = c.args.t in
    let xs : List ℕ = c.args.blocks.now in
    let some : 1 ≤ t = omega (arith, c.if-t-gt0.true) in
    let near : j * n + t - 1 ≡ j * n + (t - 1) = omega (arith, some) in
    let away : (16 + j) * n + t - 1 ≡ (16 + j) * n + (t - 1) = omega (arith, some) in
    closed_inside n j t (get_or xs (j * n + t) 0) (get_or xs ((16 + j) * n + t) 0) (get_or xs (j * n + t - 1) 0) (get_or xs ((16 + j) * n + t - 1) 0)
    (of_parts n xs) (λ k. of_parts n xs (16 + k)) some c.requires.place (c.type_inv.blocks ((16 + j) * n + t - 1)).fits refl refl
    (ap (λ k. pos (get_or xs k 0)) near) (ap (λ k. pos (get_or xs k 0)) away)

pub returns-else-t-gt0 : goal.returns-else-t-gt0
returns-else-t-gt0 c =
    let n : ℕ = c.args.n in
    let j : ℕ = c.args.j in
    let t : ℕ = c.args.t in
    let xs : List ℕ = c.args.blocks.now in
    let none : t < 1 = omega (arith, c.if-t-gt0.false) in
    let near : j * n + n - 1 ≡ j * n + (t + n - 1) = omega (arith, none, c.requires.place) in
    let away : (16 + j) * n + n - 1 ≡ (16 + j) * n + (t + n - 1) = omega (arith, none, c.requires.place) in
    closed_first n j t (get_or xs (j * n + t) 0) (get_or xs ((16 + j) * n + t) 0) (get_or xs (j * n + n - 1) 0) (get_or xs ((16 + j) * n + n - 1) 0)
    (of_parts n xs) (λ k. of_parts n xs (16 + k)) none c.requires.place (c.type_inv.blocks ((16 + j) * n + n - 1)).fits refl refl
    (ap (λ k. pos (get_or xs k 0)) near) (ap (λ k. pos (get_or xs k 0)) away)
