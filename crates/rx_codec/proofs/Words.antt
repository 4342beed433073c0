-- A field of words: what is read is spelled so, and what is spelled so is read.
use Rattle.std.proofs.Common.{◌≡◌, ℕ, zero, suc, ◌+◌, ◌-◌, ◌*◌, ◌^◌, ◌<◌, ◌≤◌, List, [], ◌∷◌, ◌++◌, length, get_or, take, drop, Result, Ok, refl, sym, ap, subst, ◌∙◌, arith, add-one}
use Rattle.std.specs.Prelude.{slice_range, EachIndex, slice_index}
use Rattle.std.specs.Int.{w64, to_le_bytes, from_le_bytes}
use Rattle.std.proofs.Math.Seq.{drop-append-add}
use Rattle.std.proofs.lemmas.List.{append-nil, take-append-drop, take-take, drop-take, take_all, length-append, length-take, length-drop}
use Rattle.std.proofs.lemmas.List.Concat.{flat_map-cons, flat_map-append}
use Rattle.std.proofs.lemmas.List.FromFn.{length-map-range_with_len, get_or-map-range_with_len, map-range_with_len_more, fill_by_all}
use Rattle.rx_codec.specs.declared.fault.CodecFault.{CodecFault}
use Rattle.rx_codec.specs.Reading.{◌>>=◌, bytes_at}
use Rattle.rx_codec.specs.WordFields.{word_bytes, words_in, words_at}
use Rattle.rx_codec.proofs.Fields.{IsBytes, IsBytes-within, IsBytes-take, IsBytes-drop, Stands, bind_ok, ok_is, bytes_takes, bytes_again, wide64}

abbrev read_of : List ℕ → ℕ → Result (List ℕ × ℕ) CodecFault
read_of words after = Ok (words, after)

-- word i of the bytes
abbrev pub word_of : List ℕ → ℕ → ℕ
word_of bytes i = from_le_bytes w64 (slice_range bytes (8 * i) (8 * i + 8))

slice_bytes : (bytes : List ℕ) (i : ℕ) → IsBytes bytes → 8 * (i + 1) ≤ length bytes → to_le_bytes w64 (word_of bytes i) ≡ take 8 (drop (8 * i) bytes)
slice_bytes bytes i fits le =
    let size : 8 * i + 8 - 8 * i ≡ 8 = omega arith in
    let text = take 8 (drop (8 * i) bytes) in
    let whole : slice_range bytes (8 * i) (8 * i + 8) ≡ text = ap (λ (n : ℕ). take n (drop (8 * i) bytes)) size in
    ap (λ (t : List ℕ). to_le_bytes w64 (from_le_bytes w64 t)) whole
    ∙ wide64.back text (omega (arith, le, length-take 8 (drop (8 * i) bytes), length-drop (8 * i) bytes)) (IsBytes-take 8 (drop (8 * i) bytes) (IsBytes-drop (8 * i) bytes fits))

word_below : (bytes : List ℕ) (i : ℕ) → IsBytes bytes → word_of bytes i < 2 ^ 64
word_below bytes i fits = wide64.below _ (IsBytes-take (8 * i + 8 - 8 * i) (drop (8 * i) bytes) (IsBytes-drop (8 * i) bytes fits))

take_two : (m k : ℕ) (bytes : List ℕ) → take m bytes ++ take k (drop m bytes) ≡ take (m + k) bytes
take_two m k bytes =
    ap (λ (t : List ℕ). take m bytes ++ t) (sym (drop-take m k bytes))
    ∙ ap (λ (t : List ℕ). t ++ drop m (take (m + k) bytes)) (sym (take-take m (m + k) bytes (omega arith)))
    ∙ take-append-drop m (take (m + k) bytes)

-- the words that are in the bytes spell the bytes, as far as they go
words_front : (count : ℕ) (bytes : List ℕ) → IsBytes bytes → 8 * count ≤ length bytes → word_bytes (words_in count bytes) ≡ take (8 * count) bytes
words_front zero bytes fits le = refl
words_front (suc n) bytes fits le =
    let more : words_in (suc n) bytes ≡ words_in n bytes ++ word_of bytes n ∷ [] =
    ap (λ (k : ℕ). words_in k bytes) (sym (add-one n)) ∙ map-range_with_len_more (word_of bytes) 0 n n (omega arith) in
    let last : to_le_bytes w64 (word_of bytes n) ≡ take 8 (drop (8 * n) bytes) = slice_bytes bytes n fits (omega (arith, le)) in
    ap word_bytes more
    ∙ flat_map-append (to_le_bytes w64) (words_in n bytes) (word_of bytes n ∷ [])
    ∙ ap (λ (t : List ℕ). t ++ word_bytes (word_of bytes n ∷ [])) (words_front n bytes fits (omega (arith, le)))
    ∙ ap (λ (t : List ℕ). take (8 * n) bytes ++ t) (append-nil (to_le_bytes w64 (word_of bytes n)) ∙ last)
    ∙ take_two (8 * n) 8 bytes
    ∙ ap (λ (k : ℕ). take k bytes) (omega arith)

pub words_takes : (count : ℕ) (file : List ℕ) (at : ℕ) (x : List ℕ × ℕ) → IsBytes file → words_at count file at ≡ Ok x → Stands file at (word_bytes x.0) x.1 × (length x.0 ≡ count) × EachIndex x.0 (λ i. slice_index x.0 i < 2 ^ 64)
unfolding words_at
words_takes count file at x fits e =
    let a = bind_ok (bytes_at file (8 * count) at) (λ bytes. Ok (words_in count bytes.0, bytes.1)) x e in
    let t = bytes_takes file (8 * count) at a.0 a.1 in
    let bytes : IsBytes a.0.0 = IsBytes-within file at a.0.0 a.0.1 fits t.0 in
    let spelled : word_bytes (words_in count a.0.0) ≡ a.0.0 = words_front count a.0.0 bytes (omega (arith, t.1)) ∙ take_all (8 * count) a.0.0 (omega (arith, t.1)) in
    let made : List ℕ × ℕ = (words_in count a.0.0, a.0.1) in
    let len : length (words_in count a.0.0) ≡ count = length-map-range_with_len (word_of a.0.0) 0 count in
    let below : EachIndex (words_in count a.0.0) (λ i. slice_index (words_in count a.0.0) i < 2 ^ 64) =
    λ i lt. rw (get_or-map-range_with_len (word_of a.0.0) 0 count i i 0 (omega (arith, lt, len)) (omega arith)) (word_below a.0.0 i bytes) in
    subst (λ (y : List ℕ × ℕ). Stands file at (word_bytes y.0) y.1 × (length y.0 ≡ count) × EachIndex y.0 (λ i. slice_index y.0 i < 2 ^ 64)) (ok_is made x a.2)
    (rw spelled t.0, len, below)

pub length-word_bytes : (words : List ℕ) → length (word_bytes words) ≡ 8 * length words
length-word_bytes [] = refl
length-word_bytes (w ∷ words) =
    ap length (flat_map-cons (to_le_bytes w64) w words) ∙ length-append (to_le_bytes w64 w) (word_bytes words) ∙ omega (arith, length-word_bytes words)

-- the bytes of word i stand at their place
word_there : (words : List ℕ) (i : ℕ) → i < length words → take 8 (drop (8 * i) (word_bytes words)) ≡ to_le_bytes w64 (get_or words i 0)
word_there [] i lt = absurd (omega (arith, lt))
word_there (w ∷ words) zero lt = refl
word_there (w ∷ words) (suc i) lt =
    let place : 8 * suc i ≡ length (to_le_bytes w64 w) + 8 * i = omega arith in
    ap (λ (n : ℕ). take 8 (drop n (word_bytes (w ∷ words)))) place
    ∙ ap (take 8) (ap (drop (length (to_le_bytes w64 w) + 8 * i)) (flat_map-cons (to_le_bytes w64) w words) ∙ drop-append-add (to_le_bytes w64 w) (word_bytes words) (8 * i))
    ∙ word_there words i (omega (arith, lt))

words_back : (words : List ℕ) → EachIndex words (λ i. slice_index words i < 2 ^ 64) → words ≡ words_in (length words) (word_bytes words)
words_back words below =
    fill_by_all (word_of (word_bytes words)) words (length words) 0 refl (λ i lt.
    let size : 8 * i + 8 - 8 * i ≡ 8 = omega arith in
    sym (ap (λ (n : ℕ). from_le_bytes w64 (take n (drop (8 * i) (word_bytes words)))) size
    ∙ ap (from_le_bytes w64) (word_there words i lt) ∙ wide64.again (get_or words i 0) (below i lt)))

pub words_again : (count : ℕ) (file : List ℕ) (at : ℕ) (words : List ℕ) (after : ℕ) → length words ≡ count → EachIndex words (λ i. slice_index words i < 2 ^ 64) → Stands file at (word_bytes words) after → words_at count file at ≡ Ok (words, after)
unfolding words_at
words_again count file at words after len below there =
    let size : length (word_bytes words) ≡ 8 * count = omega (arith, length-word_bytes words, len) in
    let back : words_in count (word_bytes words) ≡ words = sym (words_back words below ∙ ap (λ (n : ℕ). words_in n (word_bytes words)) len) in
    ap (λ (r : Result (List ℕ × ℕ) CodecFault). r >>= λ bytes. Ok (words_in count bytes.0, bytes.1)) (bytes_again file (8 * count) at (word_bytes words) after there size)
    ∙ ap (λ (ws : List ℕ). read_of ws after) back
