-- Lists that are cut at a byte.
use Rattle.std.proofs.Common.{◌≡◌, ◌==◌, ◌<◌, ◌≤◌, ◌+◌, ℕ, List, [], ◌∷◌, ◌++◌, length, take, drop, Bool, true, false, cond, ltb, Option, Some, None, refl, sym, ap, subst, ◌∙◌, inl, inr, append_assoc, Bor, arith}
use Rattle.std.specs.Option.{option_map_or}
use Rattle.std.specs.List.{slice_split, onto_first, position, position_or_len, join_with_byte, flat_map, AllByRecursion}
use Rattle.std.proofs.lemmas.Bool.{cases_Bool, ltb-true, ltb-false, ne_eqb, eq-eqb}
use Rattle.std.proofs.lemmas.Option.{cond_some}
use Rattle.std.proofs.lemmas.List.Splits.{slice_split_first, length-slice_split, join_with_byte-slice_split}
use Rattle.rx_text.specs.Lines.{parts_of, words_of, line_of, two_of, four_of, Lacks, IsWord}

-- ---- at a place

cond_none : {A : Type 0} (b : Bool) (x : A) → cond b (Some x) None ≡ None → b ≡ false
cond_none true x h = absurd cc
cond_none false x h = refl

pub cut_at : (p : ℕ → Bool) (xs : List ℕ) (i : ℕ) → position p xs ≡ Some i → (i < length xs) × (slice_split p xs ≡ take i xs ∷ slice_split p (drop (i + 1) xs))
cut_at p xs i h =
    let found = cond_some (ltb (position_or_len p xs) (length xs)) (position_or_len p xs) i h in
    let lt : position_or_len p xs < length xs = ltb-true _ _ found.0 in
    subst (λ (k : ℕ). (k < length xs) × (slice_split p xs ≡ take k xs ∷ slice_split p (drop (k + 1) xs))) found.1 (lt, slice_split_first p xs 0 lt)

absent : (p : ℕ → Bool) (xs : List ℕ) → length xs ≤ position_or_len p xs → slice_split p xs ≡ xs ∷ []
absent p [] h = refl
absent p (x ∷ xs) h =
    elim (cases_Bool (p x)) [
      | inl hit ↦ let none = rw hit at h in absurd (omega arith)
      | inr miss ↦ let less = rw miss at h in rw miss (ap (onto_first x) (absent p xs (omega arith)))
    ]

pub not_cut : (p : ℕ → Bool) (xs : List ℕ) → position p xs ≡ None → slice_split p xs ≡ xs ∷ []
not_cut p xs h = absent p xs (ltb-false _ _ (cond_none _ _ h))

-- ---- parts

pub has_part : (p : ℕ → Bool) (xs : List ℕ) → 0 < length (slice_split p xs)
has_part p xs = omega (arith, length-slice_split p xs)

pub only_empty : (xs : List ℕ) → parts_of xs ≡ [] ∷ [] → xs ≡ []
only_empty xs h = sym (join_with_byte-slice_split 10 xs) ∙ ap (join_with_byte 10) h

pub not_two : (a b : List ℕ) (parts : List (List ℕ)) → 0 < length parts → two_of (a ∷ b ∷ parts) ≡ None
not_two a b [] h = absurd (omega arith)
not_two a b (c ∷ parts) h = refl

pub not_four : (a b c d : List ℕ) (parts : List (List ℕ)) → 0 < length parts → four_of (a ∷ b ∷ c ∷ d ∷ parts) ≡ None
not_four a b c d [] h = absurd (omega arith)
not_four a b c d (e ∷ parts) h = refl

-- a word and the words behind the space after it
pub words_then : (line word : List ℕ) (o : Option (Bor (List ℕ))) (rest : Bor (List ℕ)) → words_of line ≡ word ∷ option_map_or (λ r. words_of r.now) o [] → o ≡ Some rest → words_of line ≡ word ∷ words_of rest.now
words_then line word o rest h is = h ∙ ap (λ (x : Option (Bor (List ℕ))). word ∷ option_map_or (λ r. words_of r.now) x []) is

pub put_word : (word : List ℕ) (xs ys : List (List ℕ)) → xs ≡ ys → word ∷ xs ≡ word ∷ ys
put_word word xs ys h = ap (λ (ps : List (List ℕ)). word ∷ ps) h

-- ---- what was joined

lacking : (c : ℕ) (xs : List ℕ) → Lacks c xs → slice_split (λ b. b == c) xs ≡ xs ∷ []
lacking c [] h = refl
lacking c (x ∷ xs) h = rw (ne_eqb x c h.0) (ap (onto_first x) (lacking c xs h.1))

pub cut_behind : (c : ℕ) (xs ys : List ℕ) → Lacks c xs → slice_split (λ b. b == c) (xs ++ c ∷ ys) ≡ xs ∷ slice_split (λ b. b == c) ys
cut_behind c [] ys h = rw (eq-eqb c c refl) refl
cut_behind c (x ∷ xs) ys h = rw (ne_eqb x c h.0) (ap (onto_first x) (cut_behind c xs ys h.1))

pub joined : (c : ℕ) (parts : List (List ℕ)) → 0 < length parts → AllByRecursion (Lacks c) parts → slice_split (λ b. b == c) (join_with_byte c parts) ≡ parts
joined c [] some h = absurd (omega arith)
joined c (x ∷ []) some h = lacking c x h.0
joined c (x ∷ y ∷ parts) some h = cut_behind c x (join_with_byte c (y ∷ parts)) h.0 ∙ ap (λ (ps : List (List ℕ)). x ∷ ps) (joined c (y ∷ parts) (omega arith) h.1)

Lacks-append : (c : ℕ) (xs ys : List ℕ) → Lacks c xs → Lacks c ys → Lacks c (xs ++ ys)
Lacks-append c [] ys h k = k
Lacks-append c (x ∷ xs) ys h k = (h.0, Lacks-append c xs ys h.1 k)

pub Lacks-line : (words : List (List ℕ)) → AllByRecursion IsWord words → Lacks 10 (join_with_byte 32 words)
Lacks-line [] h = tt
Lacks-line (w ∷ []) h = h.0.1
Lacks-line (w ∷ v ∷ words) h = Lacks-append 10 w (32 ∷ join_with_byte 32 (v ∷ words)) h.0.1 ((λ e. omega arith), Lacks-line (v ∷ words) h.1)

spaceless : (words : List (List ℕ)) → AllByRecursion IsWord words → AllByRecursion (Lacks 32) words
spaceless [] h = tt
spaceless (w ∷ words) h = (h.0.0, spaceless words h.1)

pub first_line : (words : List (List ℕ)) (rest : List ℕ) → AllByRecursion IsWord words → parts_of (line_of words ++ rest) ≡ join_with_byte 32 words ∷ parts_of rest
first_line words rest h = ap parts_of (append_assoc (join_with_byte 32 words) (10 ∷ []) rest) ∙ cut_behind 10 (join_with_byte 32 words) rest (Lacks-line words h)

-- a line and the text after it, each as it is known
pub line_text : (part words text more : List ℕ) → part ≡ words → text ≡ more → part ++ 10 ∷ text ≡ (words ++ 10 ∷ []) ++ more
line_text part words text more h k =
    ap (λ (line : List ℕ). line ++ 10 ∷ text) h ∙ ap (λ (rest : List ℕ). words ++ 10 ∷ rest) k ∙ sym (append_assoc words (10 ∷ []) more)

pub words_back : (words : List (List ℕ)) → 0 < length words → AllByRecursion IsWord words → words_of (join_with_byte 32 words) ≡ words
words_back words some h = joined 32 words some (spaceless words h)

pub lines_back : (lines : List (List ℕ)) → AllByRecursion (Lacks 10) lines → parts_of (flat_map (λ line. line ++ 10 ∷ []) lines) ≡ lines ++ [] ∷ []
lines_back [] h = refl
lines_back (line ∷ lines) h =
    ap parts_of (append_assoc line (10 ∷ []) (flat_map (λ line. line ++ 10 ∷ []) lines))
    ∙ cut_behind 10 line (flat_map (λ line. line ++ 10 ∷ []) lines) h.0
    ∙ ap (λ (ps : List (List ℕ)). line ∷ ps) (lines_back lines h.1)
