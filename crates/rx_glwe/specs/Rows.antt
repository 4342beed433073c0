-- Fresh rows, as lists.
use Rattle.std.specs.Prelude.{ℕ, ℤ, pos, ◌+◌, ◌*◌, List}
use Rattle.rx_ring.specs.Parts.{of_parts, parts_below}
use Rattle.rx_ring.specs.Glwe.{glwe_hiding}
use Rattle.rx_torus.specs.Streams.{Draws, draw, uniform}
use Rattle.rx_params.specs.declared.params.Params.{Params}

-- The words that hide a polynomial under a flattened key: the mask polynomials in the order of their draws, and then the
-- body, the masks times the key, plus what is hidden, plus the noises that the draws of the other stream give.
unfoldable pub glwe_row : Params → List ℕ → Draws → Draws → (ℕ → ℤ) → List ℕ
glwe_row p key mask noise hidden =
    parts_below p.poly_size (p.glwe_dim + 1)
    (glwe_hiding p.poly_size p.glwe_dim (of_parts p.poly_size key) (λ j i. pos (draw mask (j * p.poly_size + i))) hidden
    (λ i. uniform p.glwe_bound (draw noise i)))
