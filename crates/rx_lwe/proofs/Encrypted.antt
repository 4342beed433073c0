-- The words that a loop over the key has written are those that hide the message.
use Rattle.std.proofs.Common.{◌≡◌, ℕ, ℤ, pos, ◌+◌, ◌<◌, ◌≤◌, ◌⊎◌, inl, inr, sym, ◌∙◌, ap, arith, List, length, get_or, get_or-set_same, get_or-set_other}
use Rattle.std.proofs.Math.ListN.{set, length-set}
use Rattle.std.proofs.lemmas.Bool.{cases_lt}
use Rattle.rx_laws.specs.Torus.{word}
use Rattle.rx_laws.specs.Words.{of_words, words_below}
use Rattle.rx_laws.specs.Lwe.{lwe_hiding}
use Rattle.rx_laws.proofs.Lwe.{hiding_mask, hiding_body}
use Rattle.rx_laws.proofs.Words.{are-words_below}
use Rattle.rx_torus.specs.Streams.{Draws, draw, uniform}
use Rattle.rx_lwe.specs.Lwe.{encrypted}
use Rattle.rx_lwe.proofs.Bodies.{body_to}

-- the mask words stand in the first n places, and the body in the last
word_at : (n i body : ℕ) (key mask : ℕ → ℤ) (message noise : ℤ) (xs : List ℕ) → length xs ≡ n + 1 →
    ((k : ℕ) → k < n → get_or xs k 0 ≡ word (mask k)) → body ≡ word (body_to n key mask message noise) →
    i < n + 1 → (i < n) ⊎ (n ≤ i) → get_or (set xs n body) i 0 ≡ word (lwe_hiding n key mask message noise i)
word_at n i body key mask message noise xs count written last p (inl q) =
    get_or-set_other xs n i body 0 (omega arith) ∙ written i q
    ∙ ap word (sym (hiding_mask n key mask message noise i q))
word_at n i body key mask message noise xs count written last p (inr q) =
    let e : i ≡ n = omega arith in
    ap (λ k. get_or (set xs n body) k 0) e ∙ get_or-set_same xs n body 0 (omega (arith, count)) ∙ last
    ∙ ap word (sym (hiding_body n key mask message noise)) ∙ ap (λ k. word (lwe_hiding n key mask message noise k)) (sym e)

pub encrypted-set : (key : List ℕ) (mask noise : Draws) (bound message body n : ℕ) (xs : List ℕ) → n ≡ length key →
    length xs ≡ n + 1 → ((k : ℕ) → k < n → get_or xs k 0 ≡ word (pos (draw mask k))) →
    body ≡ word (body_to n (of_words key) (λ j. pos (draw mask j)) (pos message) (uniform bound (draw noise 0))) →
    set xs n body ≡ encrypted key mask noise bound message
unfolding encrypted
encrypted-set key mask noise bound message body n xs same count written last =
    let draws : ℕ → ℤ = λ j. pos (draw mask j) in
    let noised : ℤ = uniform bound (draw noise 0) in
    are-words_below (n + 1) (lwe_hiding n (of_words key) draws (pos message) noised) (set xs n body)
    record {
      count = length-set xs n body ∙ count;
      each = λ i p. word_at n i body (of_words key) draws (pos message) noised xs count written last p (cases_lt i n);
    }
    ∙ ap (λ (d : ℕ). words_below (d + 1) (lwe_hiding d (of_words key) draws (pos message) noised)) same
