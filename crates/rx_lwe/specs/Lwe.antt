-- Ciphertexts over words, as lists.
use Rattle.std.specs.Prelude.{ℕ, pos, ◌+◌, List, length}
use Rattle.rx_laws.specs.Torus.{word}
use Rattle.rx_laws.specs.Words.{of_words, words_below}
use Rattle.rx_laws.specs.Lwe.{lwe_phase, lwe_hiding}
use Rattle.rx_torus.specs.Streams.{Draws, draw, uniform}

-- the phase of some words under a key, modulo 2 ^ 64
abbrev pub phase_of : List ℕ → List ℕ → ℕ
phase_of key words = word (lwe_phase (length key) (of_words key) (of_words words))

-- The words that hide a message under a key: the mask words in the order of their draws, and then the body, the mask
-- times the key, plus the message, plus the noise that the next draw of the other stream gives for the bound.
unfoldable pub encrypted : List ℕ → Draws → Draws → ℕ → ℕ → List ℕ
encrypted key mask noise bound message =
    words_below (length key + 1)
    (lwe_hiding (length key) (of_words key) (λ i. pos (draw mask i)) (pos message) (uniform bound (draw noise 0)))
