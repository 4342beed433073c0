-- A line that is written word after word.
use Rattle.std.proofs.Common.{◌≡◌, ℕ, List, [], ◌∷◌, ◌++◌, refl, sym, ap, ◌∙◌, append_assoc}
use Rattle.std.specs.List.{join_with_byte, flat_map}
use Rattle.std.proofs.lemmas.Grind.{flat_map-append}
use Rattle.std.proofs.lemmas.List.{append-nil}
use Rattle.rx_text.specs.Lines.{line_of}
use Rattle.rx_language.specs.Writing.{spaced}

joined : (word : List ℕ) (words : List (List ℕ)) → join_with_byte 32 (word ∷ words) ≡ word ++ spaced words
joined word [] = sym (append-nil word)
joined word (next ∷ words) = ap (λ (rest : List ℕ). word ++ 32 ∷ rest) (joined next words)

regrouped : (old word name a b c end : List ℕ) → (((((old ++ word) ++ name) ++ a) ++ b) ++ c) ++ end ≡ old ++ ((word ++ (name ++ (a ++ (b ++ c)))) ++ end)
regrouped old word name a b c end = simp append_assoc refl

pub line_written : (old word name : List ℕ) (a b c : List (List ℕ))
    → (((((old ++ word) ++ 32 ∷ name) ++ spaced a) ++ spaced b) ++ spaced c) ++ 10 ∷ [] ≡ old ++ line_of (word ∷ name ∷ (a ++ (b ++ c)))
line_written old word name a b c =
    regrouped old word (32 ∷ name) (spaced a) (spaced b) (spaced c) (10 ∷ [])
    ∙ ap (λ (rest : List ℕ). old ++ ((word ++ ((32 ∷ name) ++ rest)) ++ 10 ∷ []))
    (ap (λ (rest : List ℕ). spaced a ++ rest) (sym (flat_map-append (λ (w : List ℕ). 32 ∷ w) b c)) ∙ sym (flat_map-append (λ (w : List ℕ). 32 ∷ w) a (b ++ c)))
    ∙ ap (λ (text : List ℕ). old ++ (text ++ 10 ∷ [])) (sym (joined word (name ∷ (a ++ (b ++ c)))))
