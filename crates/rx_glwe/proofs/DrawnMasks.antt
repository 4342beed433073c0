-- The masks of a fresh row are the words of its mask stream.
use Rattle.std.proofs.Common.{◌≡◌, ℕ, ℤ, pos, ◌+◌, ◌*◌, ◌/◌, ◌%◌, ◌<◌, sym, ◌∙◌, ap, arith, List, ◌++◌, length, get_or, take, drop}
use Rattle.std.proofs.lemmas.Nat.{div-add-mod', div_below, mod_below}
use Rattle.std.proofs.lemmas.List.{length-take-le, length-drop, get_or-take, take-append-drop}
use Rattle.rx_laws.specs.Torus.{word}
use Rattle.rx_laws.proofs.Words.{are-words_below}
use Rattle.rx_ring.specs.Parts.{of_parts}
use Rattle.rx_ring.proofs.Hiding.{glwe_hiding-mask}
use Rattle.rx_torus.specs.Streams.{Draws, draw}
use Rattle.rx_params.specs.declared.params.Params.{Params}
use Rattle.rx_params.specs.Derived.{large_dim}
use Rattle.rx_lwe.specs.Seeded.{drawn_words}
use Rattle.rx_glwe.specs.Rows.{glwe_row}
use Rattle.rx_glwe.proofs.Rows.{row_masks, row_noises, glwe_row-are}

glwe_row-masks : (p : Params) (key : List ℕ) (mask noise : Draws) (hidden : ℕ → ℤ) → 0 < p.poly_size →
    take (large_dim p) (glwe_row p key mask noise hidden) ≡ drawn_words (large_dim p) mask
unfolding large_dim
glwe_row-masks p key mask noise hidden some =
    let n : ℕ = p.poly_size in
    let k : ℕ = p.glwe_dim in
    let row : List ℕ = glwe_row p key mask noise hidden in
    let are = glwe_row-are p key mask noise hidden some in
    are-words_below (k * n) (λ u. pos (draw mask u)) (take (k * n) row) record {
      count = length-take-le (k * n) row (omega (arith, are.count_is));
      each = λ u q.
          let place : u / n * n + u % n ≡ u = div-add-mod' u n in
          let within : u % n < n = mod_below u n some in
          let poly : u / n < k = div_below u n k some q in
          get_or-take (k * n) row u 0 q
          ∙ ap (λ x. get_or row x 0) (sym place)
          ∙ are.each (u / n) (u % n) (omega arith) within
          ∙ ap word (glwe_hiding-mask n k (of_parts n key) (row_masks p mask) hidden (row_noises p noise) (u / n) (u % n) poly)
          ∙ ap (λ x. word (pos (draw mask x))) place;
    }

-- a fresh row is its masks and its body
pub glwe_row-split : (p : Params) (key : List ℕ) (mask noise : Draws) (hidden : ℕ → ℤ) → 0 < p.poly_size →
    glwe_row p key mask noise hidden ≡ drawn_words (large_dim p) mask ++ drop (large_dim p) (glwe_row p key mask noise hidden)
glwe_row-split p key mask noise hidden some =
    sym (take-append-drop (large_dim p) (glwe_row p key mask noise hidden))
    ∙ ap (λ xs. xs ++ drop (large_dim p) (glwe_row p key mask noise hidden)) (glwe_row-masks p key mask noise hidden some)

pub glwe_row-body : (p : Params) (key : List ℕ) (mask noise : Draws) (hidden : ℕ → ℤ) → 0 < p.poly_size →
    length (drop (large_dim p) (glwe_row p key mask noise hidden)) ≡ p.poly_size
unfolding large_dim
glwe_row-body p key mask noise hidden some =
    length-drop (p.glwe_dim * p.poly_size) (glwe_row p key mask noise hidden)
    ∙ omega (arith, (glwe_row-are p key mask noise hidden some).count_is)
