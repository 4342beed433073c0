-- The index of names while a text is read.
use Rattle.std.proofs.Common.{◌≡◌, ◌<◌, ◌≤◌, ◌+◌, ℕ, Bool, true, false, cond, not, ◌&&◌, eqb, ltb, List, [], ◌∷◌, ◌++◌, length, get_or, position, option_map, Option, Some, None, is_some, String, refl, sym, ap, subst, ◌∙◌, arith, length-append}
use Rattle.std.specs.BTreeMap.{BTreeMap, get_by_text, IsEmpty}
use Rattle.std.specs.List.{position_or_len}
use Rattle.std.specs.Map.{update}
use Rattle.std.specs.Str.{bytes_eq}
use Rattle.std.proofs.lemmas.Slice.Eq.{bytes_eq-Decides}
use Rattle.std.proofs.lemmas.Bool.{ltb-true, ltb-false, lt-ltb, le-ltb, eqb-true, eqb-false}
use Rattle.std.proofs.lemmas.List.{get_or_read_under}
use Rattle.std.proofs.lemmas.List.Folds.{position_or_len_push}
use Rattle.std.proofs.lemmas.List.Sums.{prefix_len-le-length}
use Rattle.rx_language.specs.declared.kind.NameKind.{NameKind}
use Rattle.rx_language.specs.declared.line.Line.{Line}
use Rattle.rx_language.specs.declared.line.Step.{Step}
use Rattle.rx_language.specs.Words.{is_output}
use Rattle.rx_language.specs.Programs.{defines, is_defined, kind_at, no_step, steps_by}
use Rattle.rx_language.specs.Drafts.{found_in}
use Rattle.rx_language.proofs.Steps.{length-by}

-- ---- the first place at which a test passes
found_cases : (n len : ℕ) (below : Bool) → below ≡ ltb n len → (place : ℕ) → Some place ≡ cond below (Some n) None → (place < len) × (place ≡ n)
found_cases n len true h place e = let same : place ≡ n = cc in (omega (arith, ltb-true n len (sym h), same), same)
found_cases n len false h place e = absurd cc

pub found_below : {X : Type 0} (p : X → Bool) (xs : List X) (place : ℕ) → Some place ≡ position p xs → (place < length xs) × (place ≡ position_or_len p xs)
found_below p xs place h = found_cases (position_or_len p xs) (length xs) (ltb (position_or_len p xs) (length xs)) refl place h

-- one value more, which passes only where none did
push_cases : (n len : ℕ) (passes last : Bool) → last ≡ eqb n len → n ≤ len → (passes ≡ true → len ≤ n)
    → cond (ltb (cond last (len + cond passes 0 1) n) (len + 1)) (Some (cond last (len + cond passes 0 1) n)) None ≡ cond passes (Some len) (cond (ltb n len) (Some n) None)
push_cases n len true true k most free = rw (lt-ltb (len + 0) (len + 1) (omega arith)) (let same : len + 0 ≡ len = omega arith in ap (λ (k : ℕ). Some k) same)
push_cases n len true false k most free = let same : n ≡ len = omega (arith, free refl) in absurd (eqb-false n len (sym k) same)
push_cases n len false true k most free =
    let same : n ≡ len = eqb-true n len (sym k) in
    rw (le-ltb (len + 1) (len + 1) (omega arith), le-ltb n len (omega (arith, same))) refl
push_cases n len false false k most free =
    let below : n < len = below_from n len most (eqb-false n len (sym k)) in
    rw (lt-ltb n (len + 1) (omega arith), lt-ltb n len below) refl
  where
    below_from : (n len : ℕ) → n ≤ len → (n ≡ len → ⊥) → n < len
    below_from n len most apart = grind (arith, apart)

pub position-push : {X : Type 0} (p : X → Bool) (xs : List X) (x : X) → (p x ≡ true → ltb (position_or_len p xs) (length xs) ≡ false)
    → position p (xs ++ x ∷ []) ≡ cond (p x) (Some (length xs)) (position p xs)
position-push p xs x free =
    rw (position_or_len_push p xs x, length-append xs (x ∷ []))
    (push_cases (position_or_len p xs) (length xs) (p x) (eqb (position_or_len p xs) (length xs)) refl (prefix_len-le-length (λ y. not (p y)) xs)
    (λ passes. ltb-false (position_or_len p xs) (length xs) (free passes)))

-- ---- names

-- a line whose name no earlier line defines
pub defines-push : (name : List ℕ) (lines : List Line) (line : Line) → (is_output line.word ≡ false → is_defined lines line.name ≡ false)
    → position (defines name) (lines ++ line ∷ []) ≡ cond (defines name line) (Some (length lines)) (position (defines name) lines)
defines-push name lines line new = position-push (defines name) lines line (λ here. free (is_output line.word) (bytes_eq line.name name) refl refl here)
  where
    free : (out same : Bool) → out ≡ is_output line.word → same ≡ bytes_eq line.name name → (not out && same) ≡ true → is_defined lines name ≡ false
    free true same h e k = absurd cc
    free false false h e k = absurd cc
    free false true h e k = subst (λ (n : List ℕ). is_defined lines n ≡ false) ((bytes_eq-Decides line.name name).0 (sym e)) (new (sym h))

-- what is found at a place
pub found_is : (width : ℕ) (lines : List Line) (steps : List Step) (name : List ℕ) (place : ℕ) (step : Step) → Some place ≡ position (defines name) lines
    → steps ≡ steps_by width lines → step ≡ get_or steps place step → Some (place, step.kind) ≡ found_in width lines name
found_is width lines steps name place step h e k =
    let below = found_below (defines name) lines place h in
    let n : length lines ≡ length steps = sym (length-by width lines) ∙ ap length (sym e) in
    let read : step ≡ get_or steps place no_step = get_or_read_under steps place (length lines) step no_step k below.0 n in
    let kind : step.kind ≡ kind_at (steps_by width lines) place = ap (λ (s : Step). s.kind) (read ∙ ap (λ (s : List Step). get_or s place no_step) e) in
    ap (λ (k : NameKind). Some (place, k)) kind ∙ ap (option_map (λ (q : ℕ). (q, kind_at (steps_by width lines) q))) h

-- an index without entries tells the places of no lines
pub tells_none : {Y : Type 0} (places : BTreeMap (String Y) ℕ) (name : List ℕ) → IsEmpty places → get_by_text places name ≡ None
tells_none places name h = rw h refl

-- an index with one name more
pub tells_update : (places : List ℕ → Option ℕ) (name key : List ℕ) (line : Line) (place : ℕ) → is_output line.word ≡ false → key ≡ line.name
    → update bytes_eq places key (Some place) name ≡ cond (defines name line) (Some place) (places name)
tells_update places name key line place defining same = rw (defining, same) refl
