use Rattle.std.proofs.Common.{◌≡◌, ℕ, ℤ, pos, ◌+ℤ◌, ◌-◌, ◌≤◌, ◌*◌, ◌+◌, length, get_or, List, ap, ◌∙◌, arith, take, drop, subst}
use Rattle.std.proofs.Math.Nat.{mul-le-mul_right}
use Rattle.std.proofs.lemmas.List.{length-take, length-drop}
use Rattle.rx_laws.specs.Words.{of_numbers}
use Rattle.rx_ring.specs.Polynomial.{product}
use Rattle.rx_ring.specs.Parts.{of_parts, AreParts}
use Rattle.rx_ring.proofs.Parts.{part_read, part_read_at}
use Rattle.rx_glwe.specs.Sizes.{glwe_size}
use Rattle.rx_glwe.proofs.LevelSums.{levels_none, levels_more}
use Rattle.rx_glwe.proofs.external.levels_add.Goals as goal

pub loop-t-init : goal.loop-t-init
loop-t-init c =
    levels_none c.args.p.now c.args.digits.now c.args.rows.now c.args.acc.now c.requires.acc (λ i. (c.type_inv.acc i).fits)

pub loop-t-preserved : goal.loop-t-preserved
loop-t-preserved c =
    let n : ℕ = c.args.p.now.poly_size in
    let count : ℕ = c.args.p.now.glwe_dim + 1 in
    let t : ℕ = c.loop-t.t in
    let size : ℕ = length c.args.acc.now in
    let old : List ℕ = c.loop-t.acc in
    let new : List ℕ = c.row_add.new.acc in
    let part : List ℤ = take ((t + 1) * n - t * n) (drop (t * n) c.args.digits.now) in
    let row : List ℕ = take ((t + 1) * size - t * size) (drop (t * size) c.args.rows.now) in
    let room : (t + 1) * n ≤ c.args.p.now.pbs_level * n = mul-le-mul_right n (omega (arith, c.loop-t-test.true)) in
    let l : length part ≡ n = omega (arith, length-take ((t + 1) * n - t * n) (drop (t * n) c.args.digits.now), length-drop (t * n) c.args.digits.now, c.requires.digits) in
    let e : size ≡ glwe_size c.args.p.now = c.requires.acc in
    let added : AreParts n count (λ q i. of_parts n old q i +ℤ product n (of_numbers part) (of_parts n row q) i) new =
    subst (λ (m : ℕ). AreParts m count (λ q i. of_parts m old q i +ℤ product m (of_numbers part) (of_parts m row q) i) new) l c.row_add.ensures in
    levels_more c.args.p.now t c.args.digits.now part c.args.rows.now row c.args.acc.now old new
    (λ x q. part_read_at (t * n) ((t + 1) * n - t * n) x c.args.digits.now (pos 0) (omega arith))
    (λ j q.
    part_read (t * size) ((t + 1) * size - t * size) j c.args.rows.now (omega (arith, e))
    ∙ ap (λ m. get_or c.args.rows.now (t * m + j) 0) e)
    c.loop-t.invariant added
