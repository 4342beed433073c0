-- A seeded file that was expanded over its one file.
use Rattle.std.proofs.Common.{◌≡◌, ℕ, List, [], ◌∷◌, length, get_or, None, sym, ◌∙◌, ap, subst, arith}
use Rattle.rx_tool.specs.Expand.{expand_refusal, IsExpanded, ExpandDoes}

pub expand_done : (input word out : List ℕ) (files : List (List ℕ)) (first file bytes : List ℕ) (writes : List (List ℕ × List ℕ)) (lines : List ℕ) →
    length files ≡ 1 → first ≡ get_or files 0 first → file ≡ first → word ≡ input →
    (expand_refusal word (file ∷ []) ≡ None) × IsExpanded file bytes → writes ≡ (out, bytes) ∷ [] → lines ≡ [] →
    (expand_refusal input files ≡ None) × ExpandDoes out files writes lines
expand_done input word out [] first file bytes writes lines one is same named done wrote printed = absurd (omega (arith, one))
expand_done input word out (a ∷ []) first file bytes writes lines one is same named done wrote printed =
    let e : file ≡ a = same ∙ is in (
      ap (λ f. expand_refusal input (f ∷ [])) (sym e) ∙ ap (λ w. expand_refusal w (file ∷ [])) (sym named) ∙ done.0,
      (bytes, subst (λ f. IsExpanded f bytes) e done.1, wrote, printed),
    )
expand_done input word out (a ∷ b ∷ files) first file bytes writes lines one is same named done wrote printed = absurd (omega (arith, one))
