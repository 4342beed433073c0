-- The words of an extracted ciphertext.
use Rattle.std.proofs.Common.{◌≡◌, ℕ, ℤ, pos, ◌+◌, ◌*◌, ◌/◌, ◌%◌, ◌<◌, ◌^◌, sym, ◌∙◌, ap, arith, if◌then◌else◌, List, length, get_or, get_or-set_same, get_or-set_other, inl, inr}
use Rattle.std.proofs.Math.ListN.{set, length-set}
use Rattle.std.proofs.lemmas.Bool.{cases_lt, lt-ltb, le-ltb}
use Rattle.std.proofs.lemmas.Nat.{mod_below, div_below, div-add-mod'}
use Rattle.rx_laws.specs.Torus.{word}
use Rattle.rx_laws.specs.Words.{words_below}
use Rattle.rx_laws.proofs.Torus.{word_of_word}
use Rattle.rx_laws.proofs.Words.{are-words_below}
use Rattle.rx_ring.specs.Polynomial.{turned}
use Rattle.rx_ring.specs.Parts.{of_parts}
use Rattle.rx_ring.specs.Glwe.{extracted}

extracted_mask : (n k : ℕ) (c : ℕ → ℕ → ℤ) (u : ℕ) → u < k * n → extracted n k c u ≡ turned n (c (u / n)) (u % n) 0
unfolding extracted
extracted_mask n k c u p = ap (λ b. if b then turned n (c (u / n)) (u % n) 0 else c k 0) (lt-ltb u (k * n) p)

extracted_body : (n k : ℕ) (c : ℕ → ℕ → ℤ) → extracted n k c (k * n) ≡ c k 0
unfolding extracted
extracted_body n k c = ap (λ b. if b then turned n (c (k * n / n)) (k * n % n) 0 else c k 0) (le-ltb (k * n) (k * n) (omega arith))

pub extracted_set : (n k : ℕ) (glwe xs : List ℕ) → 0 < n → length xs ≡ k * n + 1 → ((i : ℕ) → get_or glwe i 0 < 2 ^ 64) →
    ((q i : ℕ) → q < k → i < n → get_or xs (q * n + i) 0 ≡ word (turned n (of_parts n glwe q) i 0)) →
    set xs (k * n) (get_or glwe (k * n) 0) ≡ words_below (k * n + 1) (extracted n k (of_parts n glwe))
extracted_set n k glwe xs some count fits written =
    let v : ℕ = get_or glwe (k * n) 0 in
    let c : ℕ → ℕ → ℤ = of_parts n glwe in
    are-words_below (k * n + 1) (extracted n k (of_parts n glwe)) (set xs (k * n) v)
    record {
      count = length-set xs (k * n) v ∙ count;
      each = λ u p. elim (cases_lt u (k * n)) as (λ _. get_or (set xs (k * n) v) u 0 ≡ word (extracted n k (of_parts n glwe) u)) [
        | inl h ↦
            let m : u % n < n = mod_below u n some in
            let d : u / n < k = div_below u n k some h in
            let e : u / n * n + u % n ≡ u = div-add-mod' u n in
            get_or-set_other xs (k * n) u v 0 (omega arith)
            ∙ ap (λ x. get_or xs x 0) (sym e) ∙ written (u / n) (u % n) d m ∙ ap word (sym (extracted_mask n k c u h))
        | inr h ↦
            let w : u ≡ k * n = omega arith in
            let z : k * n ≡ k * n + 0 = omega arith in
            ap (λ x. get_or (set xs (k * n) v) x 0) w ∙ get_or-set_same xs (k * n) v 0 (omega (arith, count))
            ∙ sym (word_of_word v (fits (k * n))) ∙ ap (λ x. word (pos (get_or glwe x 0))) z
            ∙ ap word (sym (extracted_body n k c)) ∙ ap (λ x. word (extracted n k (of_parts n glwe) x)) (sym w)
      ];
    }
