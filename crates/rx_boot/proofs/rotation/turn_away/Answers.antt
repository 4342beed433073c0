use Rattle.std.proofs.Common.{◌≡◌, ℕ, ◌+◌, ◌-◌, ◌*◌, ◌≤◌, List, length, take, drop, ◌∙◌, arith}
use Rattle.std.proofs.Math.Nat.{mul-le-mul_right}
use Rattle.std.proofs.lemmas.List.{length-take, length-drop}
use Rattle.rx_laws.specs.Torus.{word}
use Rattle.rx_ring.specs.Parts.{of_parts}
use Rattle.rx_ring.specs.Rotation.{turned_away}
use Rattle.rx_ring.proofs.Parts.{parts_more}
use Rattle.rx_boot.proofs.Turning.{part_away}
use Rattle.rx_boot.proofs.rotation.turn_away.Goals as goal

pub loop-j-preserved : goal.loop-j-preserved
loop-j-preserved c =
    let n : ℕ = c.args.p.now.poly_size in
    let j : ℕ = c.loop-j.j in
    let k : ℕ = (j + 1) * n - j * n in
    let glwe : List ℕ = c.args.glwe.now in
    let xs : List ℕ = c.loop-j.away in
    let ys : List ℕ = c.turn_away_into.new.out in
    let old : List ℕ = take k (drop (j * n) xs) in
    let w : k ≡ n = omega arith in
    let room : (j + 1) * n ≤ (c.args.p.now.glwe_dim + 1) * n = mul-le-mul_right n (omega (arith, c.loop-j-test.true)) in
    let l : length xs ≡ (c.args.p.now.glwe_dim + 1) * n = c.loop-j.auto.away ∙ c.requires.away_size in
    let part : length old ≡ n = omega (arith, length-take k (drop (j * n) xs), length-drop (j * n) xs) in
    parts_more n k j xs ys (λ q i. word (turned_away n c.args.amount (of_parts n glwe) q i)) (omega arith)
    (c.turn_away_into.ensures.count ∙ part) c.loop-j.invariant
    (part_away n j k (length old) c.args.amount glwe ys w part (omega arith) c.turn_away_into.ensures)
