use Rattle.std.proofs.Common.{◌≡◌, ℕ, pos, ◌+◌, ◌-◌, ◌*◌, ◌<◌, ◌≤◌, length, List, get_or, ap, ◌∙◌, arith, take, drop}
use Rattle.std.proofs.Math.Nat.{mul-le-mul_right}
use Rattle.std.proofs.lemmas.List.{length-take, length-drop}
use Rattle.std.proofs.lemmas.Nat.{pow_pos}
use Rattle.rx_laws.specs.Torus.{word}
use Rattle.rx_laws.specs.Words.{of_words}
use Rattle.rx_params.specs.Derived.{large_dim}
use Rattle.rx_ring.specs.Polynomial.{turned}
use Rattle.rx_ring.specs.Parts.{of_parts}
use Rattle.rx_ring.proofs.Polynomial.{turned_same}
use Rattle.rx_ring.proofs.Parts.{parts_more, part_read}
use Rattle.rx_glwe.proofs.Extractions.{extracted_set}
use Rattle.rx_glwe.proofs.extract.extract_into.Goals as goal

pub loop-j-preserved : goal.loop-j-preserved
unfolding large_dim
loop-j-preserved c =
    let n : ℕ = c.args.p.now.poly_size in
    let j : ℕ = c.loop-j.j in
    let k : ℕ = (j + 1) * n - j * n in
    let glwe : List ℕ = c.args.glwe.now in
    let xs : List ℕ = c.loop-j.out in
    let ys : List ℕ = c.extract_mask.new.out in
    let mask : List ℕ = take k (drop (j * n) glwe) in
    let old : List ℕ = take k (drop (j * n) xs) in
    let some : 0 < n = omega (arith, pow_pos c.requires.fields.poly_size.0, c.requires.fields.poly_size.2) in
    let w : k ≡ n = omega arith in
    let room : (j + 1) * n ≤ c.args.p.now.glwe_dim * n = mul-le-mul_right n (omega (arith, c.loop-j-test.true)) in
    let l : length xs ≡ c.args.p.now.glwe_dim * n + 1 = c.loop-j.auto.out ∙ c.requires.room in
    let part : length old ≡ n = omega (arith, length-take k (drop (j * n) xs), length-drop (j * n) xs) in
    let m : length ys ≡ n = c.extract_mask.ensures.count ∙ part in
    let new : (i : ℕ) → i < n → get_or ys i 0 ≡ word (turned n (of_parts n glwe j) i 0) =
    λ i q.
    c.extract_mask.ensures.each i (omega (arith, part))
    ∙ ap (λ x. word (turned x (of_words mask) i 0)) part
    ∙ ap word (turned_same n (of_words mask) (of_parts n glwe j) i 0
    (λ x r. ap pos (part_read (j * n) k x glwe (omega arith))) (omega arith) some) in
    parts_more n k j xs ys (λ q i. word (turned n (of_parts n glwe q) i 0)) (omega arith) m c.loop-j.invariant new

pub returns : goal.returns
unfolding large_dim
returns c =
    let n : ℕ = c.args.p.now.poly_size in
    let e : c.loop-j.j ≡ c.args.p.now.glwe_dim = omega arith in
    let some : 0 < n = omega (arith, pow_pos c.requires.fields.poly_size.0, c.requires.fields.poly_size.2) in
    extracted_set n c.args.p.now.glwe_dim c.args.glwe.now c.loop-j.out some (c.loop-j.auto.out ∙ c.requires.room)
    (λ i. (c.type_inv.glwe i).fits) (λ q i r s. c.loop-j.invariant q i (omega arith) s)
