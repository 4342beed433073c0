use Rattle.std.proofs.Common.{◌≡◌, ◌≤◌, ◌*◌, ◌+◌, length, ℕ, ◌-◌, List, get_or, sym, ap, ◌∙◌, arith, take, drop, subst}
use Rattle.std.proofs.Math.Nat.{mul-le-mul_right}
use Rattle.rx_laws.specs.Digits.{digit}
use Rattle.rx_laws.proofs.Torus.{word_of_word}
use Rattle.rx_ring.specs.Parts.{AreParts}
use Rattle.rx_ring.proofs.Parts.{part_read}
use Rattle.rx_glwe.specs.Sizes.{glwe_size}
use Rattle.rx_glwe.proofs.ExternalSums.{polynomials_none, polynomials_more, polynomials_all, polynomials_added}
use Rattle.rx_glwe.proofs.external.external_add.Goals as goal

pub loop-j-init : goal.loop-j-init
loop-j-init c =
    polynomials_none c.args.p.now c.args.ggsw.now c.args.input.now c.args.acc.now c.requires.acc (λ i. (c.type_inv.acc i).fits)

pub slice_bounds-levels_add-end : goal.slice_bounds-levels_add-end
slice_bounds-levels_add-end c =
    let p = c.args.p.now in
    let rows : ℕ = p.pbs_level * length c.args.acc.now in
    let room : (c.loop-j.j + 1) * rows ≤ (p.glwe_dim + 1) * rows = mul-le-mul_right rows (omega (arith, c.loop-j-test.true)) in
    let order : (p.glwe_dim + 1) * p.pbs_level * glwe_size p ≡ (p.glwe_dim + 1) * (p.pbs_level * glwe_size p) = omega arith in
    let whole : length c.args.ggsw.now ≡ (p.glwe_dim + 1) * rows =
    c.requires.bit ∙ order ∙ ap (λ x. (p.glwe_dim + 1) * (p.pbs_level * x)) (sym c.requires.acc) in
    omega (arith, room, whole)

pub loop-j-preserved : goal.loop-j-preserved
loop-j-preserved c =
    let p = c.args.p.now in
    let n : ℕ = p.poly_size in
    let j : ℕ = c.loop-j.j in
    let k : ℕ = (j + 1) * n - j * n in
    let w : k ≡ n = omega arith in
    let input : List ℕ = c.args.input.now in
    let ggsw : List ℕ = c.args.ggsw.now in
    let size : ℕ = length c.args.acc.now in
    let rows : ℕ = p.pbs_level * size in
    let m : ℕ = (j + 1) * rows - j * rows in
    let v : m ≡ rows = omega arith in
    let e : rows ≡ p.pbs_level * glwe_size p = ap (λ x. p.pbs_level * x) c.requires.acc in
    let words : List ℕ = take k (drop (j * n) input) in
    let row : List ℕ = take m (drop (j * rows) ggsw) in
    polynomials_more p j ggsw input row c.args.acc.now c.loop-j.acc c.levels_add.new.acc c.write_digits.new.out
    (λ t x r s.
    let u : ℕ = j * n + x in
    c.write_digits.ensures.each t x r s
    ∙ ap (λ y. digit p.pbs_base_log p.pbs_level y t)
    (part_read (j * n) k x input (omega arith) ∙ sym (word_of_word (get_or input u 0) (c.type_inv.input u).fits)))
    (λ i r. part_read (j * rows) m i ggsw (omega arith) ∙ ap (λ y. get_or ggsw (j * y + i) 0) e)
    c.loop-j.invariant c.levels_add.ensures

pub returns-clause-added : goal.returns-clause-added
returns-clause-added c =
    let p = c.args.p.now in
    let e : c.loop-j.j ≡ p.glwe_dim + 1 = omega arith in
    polynomials_all p c.args.ggsw.now c.args.input.now c.args.acc.now c.loop-j.acc
    (subst (λ (m : ℕ). AreParts p.poly_size (p.glwe_dim + 1) (polynomials_added p c.args.ggsw.now c.args.input.now c.args.acc.now m) c.loop-j.acc) e
    c.loop-j.invariant)
