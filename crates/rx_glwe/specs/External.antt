-- The external product of an encrypted bit and a ciphertext, and extraction, over lists.
use Rattle.std.specs.Prelude.{ℕ, ℤ, pos, ◌+◌, ◌*◌, List, get_or}
use Rattle.rx_laws.specs.Torus.{word}
use Rattle.rx_laws.specs.Words.{words_below}
use Rattle.rx_laws.specs.Digits.{digit}
use Rattle.rx_ring.specs.Parts.{of_parts}
use Rattle.rx_ring.specs.Glwe.{external, extracted}
use Rattle.rx_params.specs.declared.params.Params.{Params}
use Rattle.rx_params.specs.Derived.{large_dim}
use Rattle.rx_glwe.specs.Sizes.{glwe_size}

-- coefficient i of polynomial q of row (j, t) of an encrypted bit, whose rows stand one after another, those of j together
abbrev pub ggsw_rows : Params → List ℕ → ℕ → ℕ → ℕ → ℕ → ℤ
ggsw_rows p words j t q i = pos (get_or words ((j * p.pbs_level + t) * glwe_size p + (q * p.poly_size + i)) 0)

-- digit t of coefficient x of polynomial j
abbrev pub glwe_digits : Params → (ℕ → ℕ → ℤ) → ℕ → ℕ → ℕ → ℤ
glwe_digits p c j t x = digit p.pbs_base_log p.pbs_level (word (c j x)) t

-- the external product of the bit of these words and a ciphertext
abbrev pub external_of : Params → List ℕ → List ℕ → ℕ → ℕ → ℤ
external_of p ggsw input =
    external p.poly_size p.glwe_dim p.pbs_level (glwe_digits p (of_parts p.poly_size input)) (ggsw_rows p ggsw)

-- the words of coefficient 0 of a ciphertext
abbrev pub extracted_words : Params → List ℕ → List ℕ
extracted_words p glwe = words_below (large_dim p + 1) (extracted p.poly_size p.glwe_dim (of_parts p.poly_size glwe))
