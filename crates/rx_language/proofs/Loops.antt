-- A loop over a count of names reads what the recursion reads: one step on, and where a step fails.
use Rattle.std.proofs.Common.{◌≡◌, ◌==◌, ℕ, suc, ◌+◌, ◌-◌, ◌<◌, Bool, true, false, not, List, [], ◌∷◌, ◌++◌, length, Option, Some, None, is_some, Result, Ok, Err, IsTrue, refl, sym, ap, ◌∙◌, arith, Bor}
use Rattle.std.specs.Option.{option_map_or}
use Rattle.std.proofs.lemmas.List.Splits.{length-slice_split}
use Rattle.rx_text.specs.Lines.{words_of}
use Rattle.rx_text.specs.declared.fault.LineCause.{LineCause}
use Rattle.rx_language.specs.Reading.{◌>>=◌, name_from, names_from}

-- no word is left exactly where none was taken up
pub none_left : (rest : Option (Bor (List ℕ))) (words : List (List ℕ)) (done : Bool) → option_map_or (λ r. words_of r.now) rest [] ≡ words
    → is_some rest ≡ not done → (IsTrue done → words ≡ []) × (words ≡ [] → IsTrue done)
none_left None words true h e = (λ _. sym h, λ _. refl)
none_left None words false h e = absurd cc
none_left (Some line) words true h e = absurd cc
none_left (Some line) words false h e =
    (λ done. absurd cc, λ empty. absurd (omega (arith, length-slice_split (λ b. b == 32) line.now, ap length (h ∙ empty))))

abbrev NamesRead : Type 0
NamesRead = Result (List (List ℕ) × List (List ℕ)) LineCause

pub goes_on : (count i : ℕ) (before words : List (List ℕ)) (name : List ℕ) (left : List (List ℕ)) (total : NamesRead) → i < count
    → name_from words ≡ Ok (name, left) → names_from (count - i) before words ≡ total → names_from (count - (i + 1)) (before ++ name ∷ []) left ≡ total
goes_on count i before words name left total lt read so_far =
    let k : count - i ≡ suc (count - (i + 1)) = omega arith in
    let next : names_from (suc (count - (i + 1))) before words ≡ names_from (count - (i + 1)) (before ++ name ∷ []) left =
    ap (λ (r : Result (List ℕ × List (List ℕ)) LineCause). r >>= λ x. names_from (count - (i + 1)) (before ++ x.0 ∷ []) x.1) read in
    sym next ∙ ap (λ (n : ℕ). names_from n before words) (sym k) ∙ so_far

pub stops : (cause : LineCause) (count i : ℕ) (before words : List (List ℕ)) (total : NamesRead) → i < count
    → name_from words ≡ Err cause → names_from (count - i) before words ≡ total → total ≡ Err cause
stops cause count i before words total lt read so_far =
    let k : count - i ≡ suc (count - (i + 1)) = omega arith in
    let next : names_from (suc (count - (i + 1))) before words ≡ Err cause =
    ap (λ (r : Result (List ℕ × List (List ℕ)) LineCause). r >>= λ x. names_from (count - (i + 1)) (before ++ x.0 ∷ []) x.1) read in
    sym so_far ∙ ap (λ (n : ℕ). names_from n before words) k ∙ next
