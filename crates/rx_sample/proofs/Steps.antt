-- One draw and one text more.
use Rattle.std.proofs.Common.{◌≡◌, ◌+◌, ◌*◌, ◌++◌, append_assoc, ℕ, List, [], get_or, suc, sym, ap, ◌∙◌, arith, refl}
use Rattle.std.proofs.lemmas.List.{append-nil}
use Rattle.rx_sample.specs.Draws.{next, state_after, drawn}
use Rattle.rx_sample.specs.Samples.{texts_below, operations, operation_line, drawn_line}

pub state_more : (state n : ℕ) → state_after state (n + 1) ≡ next (state_after state n)
unfolding state_after
state_more state n = let one : n + 1 ≡ suc n = omega arith in ap (state_after state) one

pub texts_more : (text : ℕ → List ℕ) (n : ℕ) → texts_below text (n + 1) ≡ texts_below text n ++ text n
unfolding texts_below
texts_more text n = let one : n + 1 ≡ suc n = omega arith in ap (texts_below text) one

pub state_none : (state : ℕ) → state_after state 0 ≡ state
unfolding state_after
state_none state = refl

pub texts_none : (text : ℕ → List ℕ) → texts_below text 0 ≡ []
unfolding texts_below
texts_none text = refl

-- the draws of one line
pub record LineDraws (state t draws : ℕ) : Type 0 where
  pub word : next draws ≡ state_after state (3 * t + 1)
  pub first : next (next draws) ≡ state_after state (3 * t + 1 + 1)
  pub second : next (next (next draws)) ≡ state_after state (3 * t + 2 + 1)
  pub after : next (next (next draws)) ≡ state_after state (3 * (t + 1))

pub line_draws : (state t draws : ℕ) → draws ≡ state_after state (3 * t) → LineDraws state t draws
line_draws state t draws h =
    let word : next draws ≡ state_after state (3 * t + 1) = ap next h ∙ sym (state_more state (3 * t)) in
    let first : next (next draws) ≡ state_after state (3 * t + 1 + 1) = ap next word ∙ sym (state_more state (3 * t + 1)) in
    let last : next (next (next draws)) ≡ state_after state (3 * t + 1 + 1 + 1) = ap next first ∙ sym (state_more state (3 * t + 1 + 1)) in
    let two : 3 * t + 1 + 1 + 1 ≡ 3 * t + 2 + 1 = omega arith in
    let all : 3 * t + 1 + 1 + 1 ≡ 3 * (t + 1) = omega arith in
    record {
      word = word;
      first = first;
      second = last ∙ ap (state_after state) two;
      after = last ∙ ap (state_after state) all;
    }

-- one text more, written at the end
pub text_more : (text : ℕ → List ℕ) (n : ℕ) (old now new part : List ℕ) → now ≡ old ++ texts_below text n → new ≡ now ++ part → part ≡ text n
    → new ≡ old ++ texts_below text (n + 1)
text_more text n old now new part h k e =
    k ∙ ap (λ (t : List ℕ). t ++ part) h ∙ append_assoc old (texts_below text n) part
    ∙ ap (λ (t : List ℕ). old ++ (texts_below text n ++ t)) e ∙ ap (λ (t : List ℕ). old ++ t) (sym (texts_more text n))

-- no text yet
pub text_none : (text : ℕ → List ℕ) (old : List ℕ) → old ≡ old ++ texts_below text 0
text_none text old = sym (append-nil old) ∙ ap (λ (t : List ℕ). old ++ t) (sym (texts_none text))

-- a line by its draws
pub line_is : (state t : ℕ) (word : List ℕ) (a first second : ℕ) → word ≡ get_or operations a [] → a ≡ drawn state (3 * t) 8 → first ≡ drawn state (3 * t + 1) (8 + t)
    → second ≡ drawn state (3 * t + 2) (8 + t) → operation_line word t first second ≡ drawn_line state t
line_is state t word a first second w h k l =
    ap (λ (text : List ℕ). operation_line text t first second) (w ∙ ap (λ (i : ℕ). get_or operations i []) h)
    ∙ ap (λ (i : ℕ). operation_line (get_or operations (drawn state (3 * t) 8) []) t i second) k
    ∙ ap (λ (i : ℕ). operation_line (get_or operations (drawn state (3 * t) 8) []) t (drawn state (3 * t + 1) (8 + t)) i) l

pub four_texts : (head a b c : List ℕ) → ((head ++ a) ++ b) ++ c ≡ head ++ (a ++ (b ++ c))
four_texts head a b c = append_assoc (head ++ a) b c ∙ append_assoc head a (b ++ c)
