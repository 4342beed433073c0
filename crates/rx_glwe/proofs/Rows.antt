-- Fresh rows: their size, their words and their phase.
use Rattle.std.proofs.Common.{◌≡◌, ℕ, ℤ, pos, ◌+ℤ◌, ◌+◌, ◌-◌, ◌*◌, ◌<◌, refl, sym, ◌∙◌, ap, arith, List, get_or, ◌++◌, length-append, inl, inr}
use Rattle.std.proofs.Math.ListN.{get_or-append}
use Rattle.std.proofs.lemmas.Bool.{cases_lt}
use Rattle.std.proofs.lemmas.Int.{ints}
use Rattle.std.proofs.lemmas.List.{get_or-append_right}
use Rattle.std.proofs.lemmas.Nat.{mul-add-lt}
use Rattle.rx_laws.specs.Sum.{sum_to}
use Rattle.rx_laws.specs.Torus.{word}
use Rattle.rx_laws.specs.Words.{of_words, AreWords}
use Rattle.rx_laws.proofs.Torus.{word-add, word-word}
use Rattle.rx_ring.specs.Polynomial.{product}
use Rattle.rx_ring.specs.Parts.{of_parts, AreParts}
use Rattle.rx_ring.specs.Glwe.{glwe_hiding}
use Rattle.rx_ring.proofs.Congruence.{sum_to-word, product-word}
use Rattle.rx_ring.proofs.Hiding.{glwe_hiding-mask, glwe_hiding-body, glwe_hiding-word}
use Rattle.rx_ring.proofs.Parts.{parts_below-are, are-parts_below, are-parts-word}
use Rattle.rx_torus.specs.Streams.{Draws, draw, uniform}
use Rattle.rx_params.specs.declared.params.Params.{Params}
use Rattle.rx_glwe.specs.Rows.{glwe_row}
use Rattle.rx_glwe.proofs.MaskProducts.{products_added}

-- the masks of a row, as drawn, and its noises
abbrev pub row_masks : Params → Draws → ℕ → ℕ → ℤ
row_masks p mask j i = pos (draw mask (j * p.poly_size + i))

abbrev pub row_noises : Params → Draws → ℕ → ℤ
row_noises p noise i = uniform p.glwe_bound (draw noise i)

-- the numbers of which a row has the words
abbrev pub row_numbers : Params → List ℕ → Draws → Draws → (ℕ → ℤ) → ℕ → ℕ → ℤ
row_numbers p key mask noise hidden =
    glwe_hiding p.poly_size p.glwe_dim (of_parts p.poly_size key) (row_masks p mask) hidden (row_noises p noise)

pub glwe_row-are : (p : Params) (key : List ℕ) (mask noise : Draws) (hidden : ℕ → ℤ) → 0 < p.poly_size →
    AreParts p.poly_size (p.glwe_dim + 1) (row_numbers p key mask noise hidden) (glwe_row p key mask noise hidden)
unfolding glwe_row
glwe_row-are p key mask noise hidden some = parts_below-are p.poly_size (p.glwe_dim + 1) (row_numbers p key mask noise hidden) some

pub are-glwe_row : (p : Params) (key : List ℕ) (mask noise : Draws) (hidden : ℕ → ℤ) (xs : List ℕ) → 0 < p.poly_size →
    AreParts p.poly_size (p.glwe_dim + 1) (row_numbers p key mask noise hidden) xs → xs ≡ glwe_row p key mask noise hidden
unfolding glwe_row
are-glwe_row p key mask noise hidden xs some are =
    are-parts_below p.poly_size (p.glwe_dim + 1) (row_numbers p key mask noise hidden) xs some are

-- a row depends on the words of what it hides alone
pub glwe_row-words : (p : Params) (key : List ℕ) (mask noise : Draws) (f g : ℕ → ℤ) → 0 < p.poly_size →
    ((i : ℕ) → i < p.poly_size → word (f i) ≡ word (g i)) → glwe_row p key mask noise f ≡ glwe_row p key mask noise g
glwe_row-words p key mask noise f g some same =
    let n : ℕ = p.poly_size in
    let k : ℕ = p.glwe_dim in
    are-glwe_row p key mask noise g (glwe_row p key mask noise f) some
    (are-parts-word n (k + 1) (row_numbers p key mask noise f) (row_numbers p key mask noise g) (glwe_row p key mask noise f)
    (λ q i r s. glwe_hiding-word n k (of_parts n key) (row_masks p mask) (row_masks p mask) f g (row_noises p noise) (row_noises p noise)
    (λ _ _ _ _. refl) same (λ _ _. refl) q i (omega arith) s)
    (glwe_row-are p key mask noise f some))

-- ---- the masks as drawn and the body, one after the other, are the row
-- the word of a body, from those of the noised polynomial and of the masks
body_word : (p : Params) (key masks first body : List ℕ) (mask noise : Draws) (hidden : ℕ → ℤ) (i : ℕ) → i < p.poly_size →
    AreWords (p.glwe_dim * p.poly_size) (λ u. pos (draw mask u)) masks →
    AreWords p.poly_size (λ i. hidden i +ℤ row_noises p noise i) first →
    AreWords p.poly_size (products_added p.poly_size key masks first p.glwe_dim) body →
    get_or body i 0 ≡ word (row_numbers p key mask noise hidden p.glwe_dim i)
body_word p key masks first body mask noise hidden i s drawn noised added =
    let n : ℕ = p.poly_size in
    let k : ℕ = p.glwe_dim in
    let bits : ℕ → ℕ → ℤ = of_parts n key in
    let draws : ℕ → ℕ → ℤ = row_masks p mask in
    let noises : ℕ → ℤ = row_noises p noise in
    let old : ℤ = sum_to k (λ j. product n (bits j) (of_parts n masks j) i) in
    let total : ℤ = sum_to k (λ j. product n (bits j) (draws j) i) in
    let products : word old ≡ word total =
    sum_to-word k (λ j. product n (bits j) (of_parts n masks j) i) (λ j. product n (bits j) (draws j) i)
    (λ j r. product-word n (bits j) (of_parts n masks j) (draws j) i
    (λ x u. ap (λ w. word (pos w)) (drawn.each (j * n + x) (omega (arith, mul-add-lt j n x k r u))) ∙ word-word (draws j x)) s) in
    let start : word (of_words first i) ≡ word (hidden i +ℤ noises i) =
    ap (λ w. word (pos w)) (noised.each i s) ∙ word-word (hidden i +ℤ noises i) in
    let order : (hidden i +ℤ noises i) +ℤ total ≡ (total +ℤ hidden i) +ℤ noises i = omega (arith, ints) in
    added.each i s
    ∙ word-add (of_words first i) (hidden i +ℤ noises i) old total start products
    ∙ ap word (order ∙ sym (glwe_hiding-body n k bits draws hidden noises i))

pub glwe_row-append : (p : Params) (key masks first body : List ℕ) (mask noise : Draws) (hidden : ℕ → ℤ) → 0 < p.poly_size →
    AreWords (p.glwe_dim * p.poly_size) (λ u. pos (draw mask u)) masks →
    AreWords p.poly_size (λ i. hidden i +ℤ row_noises p noise i) first →
    AreWords p.poly_size (products_added p.poly_size key masks first p.glwe_dim) body →
    masks ++ body ≡ glwe_row p key mask noise hidden
glwe_row-append p key masks first body mask noise hidden some drawn noised added =
    let n : ℕ = p.poly_size in
    let k : ℕ = p.glwe_dim in
    are-glwe_row p key mask noise hidden (masks ++ body) some
    record {
      count_is = omega (arith, length-append masks body, drawn.count, added.count);
      each = λ q i r s. elim (cases_lt q k) as (λ _. get_or (masks ++ body) (q * n + i) 0 ≡ word (row_numbers p key mask noise hidden q i)) [
        | inl l ↦
            get_or-append masks body 0 (q * n + i) (omega (arith, drawn.count, mul-add-lt q n i k l s))
            ∙ drawn.each (q * n + i) (omega (arith, mul-add-lt q n i k l s))
            ∙ ap word (sym (glwe_hiding-mask n k (of_parts n key) (row_masks p mask) hidden (row_noises p noise) q i l))
        | inr l ↦
            let e : q ≡ k = omega arith in
            let place : k * n + i - k * n ≡ i = omega arith in
            ap (λ x. get_or (masks ++ body) (x * n + i) 0) e
            ∙ get_or-append_right masks body (k * n) (k * n + i) 0 drawn.count (omega arith)
            ∙ ap (λ x. get_or body x 0) place
            ∙ body_word p key masks first body mask noise hidden i s drawn noised added
            ∙ ap (λ x. word (row_numbers p key mask noise hidden x i)) (sym e)
      ];
    }
