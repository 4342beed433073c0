-- The server file: what is read is spelled so, and what is spelled so is read.
use Rattle.std.proofs.Common.{append_assoc, ◌≡◌, ℕ, ◌+◌, ◌-◌, ◌*◌, ◌<◌, List, ◌++◌, length, get_or, take, drop, Result, Ok, Err, refl, sym, ap, subst, ◌∙◌, arith, inl, inr}
use Rattle.std.specs.Prelude.{IfOk, codes, slice_range}
use Rattle.std.specs.Int.{w64, to_le_bytes, from_le_bytes}
use Rattle.std.proofs.lemmas.List.Concat.{flat_map-append}
use Rattle.std.proofs.lemmas.List.{take-append-drop, take-take, drop-take, drop-drop, take_at, drop_at, length-append, length-take, length-drop, get_or-take, get_or-drop, get_or_append_left, get_or-append-add}
use Rattle.std.proofs.lemmas.Bool.{cases_lt}
use Rattle.std.proofs.lemmas.List.FromFn.{length-map-range_with_len, get_or-map-range_with_len, fill_by_all}
use Rattle.rx_params.specs.declared.params.Params.{Params}
use Rattle.rx_params.specs.Acceptance.{Accepts}
use Rattle.rx_params.specs.Derived.{key_words}
use Rattle.rx_lwe.specs.SwitchKeys.{SwitchRows, IsSized, switch_key, switch_size}
use Rattle.rx_boot.specs.BootKeys.{boot_size}
use Rattle.rx_boot.specs.ServerKeys.{ServerWords}
use Rattle.rx_boot.proofs.MadeKeys.{all_words}
use Rattle.rx_codec.specs.declared.fault.CodecFault.{CodecFault}
use Rattle.rx_codec.specs.Reading.{◌>>=◌, Gives, magic_at, ends_at}
use Rattle.rx_codec.specs.ParamsFields.{params_bytes, params_at}
use Rattle.rx_codec.specs.WordFields.{word_bytes, words_in, words_at}
use Rattle.rx_codec.specs.ServerFile.{ServerFile, AreWords64, key_of, server_bytes, server_from}
use Rattle.rx_codec.proofs.Fields.{IsBytes, Stands, Stands-then, Stands-first, Stands-second, Stands-whole, whole-Stands, bind_ok, magic_takes, magic_again, ends_takes, ends_again}
use Rattle.rx_codec.proofs.Params.{params_takes, params_again}
use Rattle.rx_codec.proofs.Words.{word_of, words_takes, words_again}

-- ---- counts

-- the words of the switch key of a set
pub switch_count-is : (p : Params) (s : SwitchRows) (words : List ℕ) → s ≡ switch_key p words → IsSized s → length s.words ≡ switch_size p
switch_count-is p s words e sized =
    sized.count ∙ ap (λ (r : SwitchRows). r.big * r.levels * (r.small + 1)) e

-- ---- the words of a part of the bytes

eight : (i : ℕ) (bytes : List ℕ) → slice_range bytes (8 * i) (8 * i + 8) ≡ take 8 (drop (8 * i) bytes)
eight i bytes = let size : 8 * i + 8 - 8 * i ≡ 8 = omega arith in ap (λ (n : ℕ). take n (drop (8 * i) bytes)) size

word_of-take : (m i : ℕ) (bytes : List ℕ) → i < m → word_of (take (8 * m) bytes) i ≡ word_of bytes i
word_of-take m i bytes p =
    let rest : 8 * m ≡ 8 * i + (8 * m - 8 * i) = omega arith in
    ap (from_le_bytes w64)
    (eight i (take (8 * m) bytes)
    ∙ ap (λ (n : ℕ). take 8 (drop (8 * i) (take n bytes))) rest
    ∙ ap (take 8) (drop-take (8 * i) (8 * m - 8 * i) bytes)
    ∙ take-take 8 (8 * m - 8 * i) (drop (8 * i) bytes) (omega arith)
    ∙ sym (eight i bytes))

word_of-drop : (m i : ℕ) (bytes : List ℕ) → word_of (drop (8 * m) bytes) i ≡ word_of bytes (m + i)
word_of-drop m i bytes =
    let place : 8 * m + 8 * i ≡ 8 * (m + i) = omega arith in
    ap (from_le_bytes w64)
    (eight i (drop (8 * m) bytes)
    ∙ ap (take 8) (drop-drop (8 * i) (8 * m) bytes ∙ ap (λ (n : ℕ). drop n bytes) place)
    ∙ sym (eight (m + i) bytes))

words_in-length : (n : ℕ) (bytes : List ℕ) → length (words_in n bytes) ≡ n
words_in-length n bytes = length-map-range_with_len (word_of bytes) 0 n

words_in-at : (n i : ℕ) (bytes : List ℕ) → i < n → get_or (words_in n bytes) i 0 ≡ word_of bytes i
words_in-at n i bytes p = get_or-map-range_with_len (word_of bytes) 0 n i i 0 p (omega arith)

pub words_in-take : (m n : ℕ) (bytes : List ℕ) → take m (words_in (m + n) bytes) ≡ words_in m (take (8 * m) bytes)
words_in-take m n bytes =
    fill_by_all (word_of (take (8 * m) bytes)) (take m (words_in (m + n) bytes)) m 0
    (omega (arith, length-take m (words_in (m + n) bytes), words_in-length (m + n) bytes))
    (λ i p.
    get_or-take m (words_in (m + n) bytes) i 0 p ∙ words_in-at (m + n) i bytes (omega arith) ∙ sym (word_of-take m i bytes p))

pub words_in-drop : (m n : ℕ) (bytes : List ℕ) → drop m (words_in (m + n) bytes) ≡ words_in n (drop (8 * m) bytes)
words_in-drop m n bytes =
    fill_by_all (word_of (drop (8 * m) bytes)) (drop m (words_in (m + n) bytes)) n 0
    (omega (arith, length-drop m (words_in (m + n) bytes), words_in-length (m + n) bytes))
    (λ i p.
    get_or-drop m (words_in (m + n) bytes) i 0 ∙ words_in-at (m + n) (m + i) bytes (omega arith) ∙ sym (word_of-drop m i bytes))

pub key_of-parts : (p : Params) (boot switch : List ℕ) → length boot ≡ boot_size p →
    key_of p (boot ++ switch) ≡ record { params = p; boot = boot; switch = switch }
key_of-parts p boot switch e =
    let front : take (boot_size p) (boot ++ switch) ≡ boot = take_at boot switch (boot_size p) e in
    let back : drop (boot_size p) (boot ++ switch) ≡ switch = drop_at boot switch (boot_size p) e in
    cc

-- the key whose words are those of the two parts of the bytes
pub key_of-bytes : (p : Params) (bytes front back boot switch : List ℕ) (m n : ℕ) (k : ServerWords) → m ≡ boot_size p → n ≡ switch_size p →
    front ≡ take (8 * m) bytes → back ≡ drop (8 * m) bytes → boot ≡ words_in m front → switch ≡ words_in n back →
    k ≡ record { params = p; boot = boot; switch = switch } → k ≡ key_of p (words_in (key_words p) bytes)
key_of-bytes p bytes front back boot switch m n k em en ef eb eboot eswitch ek =
    let count : key_words p ≡ m + n = omega (arith, all_words p) in
    let first : boot ≡ take m (words_in (m + n) bytes) = eboot ∙ ap (words_in m) ef ∙ sym (words_in-take m n bytes) in
    let second : switch ≡ drop m (words_in (m + n) bytes) = eswitch ∙ ap (words_in n) eb ∙ sym (words_in-drop m n bytes) in
    let words : words_in (m + n) bytes ≡ words_in (key_words p) bytes = ap (λ (j : ℕ). words_in j bytes) (sym count) in
    let first' : boot ≡ take (boot_size p) (words_in (key_words p) bytes) = first ∙ ap (take m) words ∙ ap (λ (j : ℕ). take j (words_in (key_words p) bytes)) em in
    let second' : switch ≡ drop (boot_size p) (words_in (key_words p) bytes) = second ∙ ap (drop m) words ∙ ap (λ (j : ℕ). drop j (words_in (key_words p) bytes)) em in
    cc

pub words_in-count : (m n : ℕ) (bytes xs : List ℕ) → xs ≡ words_in m bytes → m ≡ n → length xs ≡ n
words_in-count m n bytes xs e h = ap length e ∙ words_in-length m bytes ∙ h

-- ---- the two lists as one

pub words64-take : (n : ℕ) (words : List ℕ) → AreWords64 words → AreWords64 (take n words)
words64-take n words h i p =
    let q : i < n = omega (arith, p, length-take n words) in
    let r : i < length words = omega (arith, p, length-take n words) in
    rw (get_or-take n words i 0 q) (h i r)

pub words64-drop : (n : ℕ) (words : List ℕ) → AreWords64 words → AreWords64 (drop n words)
words64-drop n words h i p = rw (get_or-drop n words i 0) (h (n + i) (omega (arith, p, length-drop n words)))

pub words64-append : (xs ys : List ℕ) → AreWords64 xs → AreWords64 ys → AreWords64 (xs ++ ys)
words64-append xs ys h k i p =
    elim (cases_lt i (length xs)) [
      | inl q ↦ rw (get_or_append_left xs ys 0 i q) (h i q)
      | inr q ↦
          let e : i ≡ length xs + (i - length xs) = omega arith in
          let r : i - length xs < length ys = omega (arith, p, q, length-append xs ys) in
          rw (e, get_or-append-add xs ys (i - length xs) 0) (k (i - length xs) r)
    ]

-- ---- the file

spelled_whole : (p : Params) (all : List ℕ) → codes "RXS1" ++ params_bytes p ++ word_bytes all ≡ server_bytes (key_of p all)
spelled_whole p all =
    let whole : take (boot_size p) all ++ drop (boot_size p) all ≡ all = take-append-drop (boot_size p) all in
    ap (λ (ws : List ℕ). codes "RXS1" ++ params_bytes p ++ word_bytes ws) (sym whole)

-- what is read is a server file
pub server_spelled : (file : List ℕ) (k : ServerWords) → IsBytes file → server_from file ≡ Ok k → ServerFile file k
unfolding server_from
server_spelled file k fits e =
    let magic = bind_ok (magic_at (codes "RXS1") file) (λ after. params_at file after >>= λ params. words_at (key_words params.0) file params.1 >>= λ words. ends_at file words.1 (key_of params.0 words.0)) k e in
    let params = bind_ok (params_at file magic.0) (λ params. words_at (key_words params.0) file params.1 >>= λ words. ends_at file words.1 (key_of params.0 words.0)) k magic.2 in
    let p : Params = params.0.0 in
    let words = bind_ok (words_at (key_words p) file params.0.1) (λ words. ends_at file words.1 (key_of p words.0)) k params.2 in
    let end = ends_takes file words.0.1 (key_of p words.0.0) k words.2 in
    let t0 = magic_takes (codes "RXS1") file magic.0 magic.1 in
    let t1 = params_takes file magic.0 params.0 fits t0.within params.1 in
    let t2 = words_takes (key_words p) file params.0.1 words.0 fits words.1 in
    let e01 = Stands-then file 0 (codes "RXS1") magic.0 (params_bytes p) params.0.1 t0 t1.there in
    let e02 = Stands-then file 0 (codes "RXS1" ++ params_bytes p) params.0.1 (word_bytes words.0.0) words.0.1 e01 t2.0 in
    let all : List ℕ = words.0.0 in
    let split = all_words p in
    subst (ServerFile file) end.1 (record {
      fits = record {
        accepted = t1.accepted;
        boot_count = omega (arith, length-take (boot_size p) all, t2.1, split);
        switch_count = omega (arith, length-drop (boot_size p) all, t2.1, split);
        boot_words = words64-take (boot_size p) all t2.2;
        switch_words = words64-drop (boot_size p) all t2.2;
      };
      spelled = whole-Stands file (codes "RXS1" ++ params_bytes p ++ word_bytes all) words.0.1 e02 end.0
          ∙ spelled_whole p all;
    })

pub server_found : (file : List ℕ) (result : Result ServerWords CodecFault) → IsBytes file → Gives (λ k. k) result (server_from file) → IfOk result (λ k. ServerFile file k)
server_found file (Ok k) fits exact = server_spelled file k fits exact
server_found file (Err fault) fits exact = tt

-- a server file is read
pub server_again : (file : List ℕ) (k : ServerWords) → ServerFile file k → server_from file ≡ Ok k
unfolding server_from
server_again file k h =
    let p : Params = k.params in
    let head = params_bytes p in
    let all : List ℕ = k.boot ++ k.switch in
    let whole : Stands file 0 (codes "RXS1" ++ head ++ word_bytes all) (length file) = subst (λ (text : List ℕ). Stands file 0 text (length file)) h.spelled (Stands-whole file) in
    let front = Stands-first file 0 (codes "RXS1" ++ head) (word_bytes all) (length file) whole in
    let words = Stands-second file 0 (codes "RXS1" ++ head) (word_bytes all) (length file) whole in
    let magic = Stands-first file 0 (codes "RXS1") head (0 + length (codes "RXS1" ++ head)) front in
    let params = Stands-second file 0 (codes "RXS1") head (0 + length (codes "RXS1" ++ head)) front in
    let count : length all ≡ key_words p = omega (arith, length-append k.boot k.switch, h.fits.boot_count, h.fits.switch_count, all_words p) in
    let parts : key_of p all ≡ k = key_of-parts p k.boot k.switch h.fits.boot_count in
    ap (λ (r : Result ℕ CodecFault). r >>= λ after. params_at file after >>= λ params. words_at (key_words params.0) file params.1 >>= λ words. ends_at file words.1 (key_of params.0 words.0))
    (magic_again (codes "RXS1") file _ refl magic)
    ∙ ap (λ (r : Result (Params × ℕ) CodecFault). r >>= λ params. words_at (key_words params.0) file params.1 >>= λ words. ends_at file words.1 (key_of params.0 words.0))
    (params_again file _ p _ h.fits.accepted params)
    ∙ ap (λ (r : Result (List ℕ × ℕ) CodecFault). r >>= λ words. ends_at file words.1 (key_of p words.0))
    (words_again (key_words p) file _ all _ count (words64-append k.boot k.switch h.fits.boot_words h.fits.switch_words) words)
    ∙ ends_again file (length file) (key_of p all) refl
    ∙ ap done parts
  where
    done : ServerWords → Result ServerWords CodecFault
    done x = Ok x

pub server_only : (file : List ℕ) (result : Result ServerWords CodecFault) (k : ServerWords) → Gives (λ k. k) result (server_from file) → ServerFile file k →
    Gives (λ k. k) result (Ok k)
server_only file result k exact h = subst (Gives (λ k. k) result) (server_again file k h) exact

-- ---- the key that a file is written from

abbrev key_with : Params → List ℕ → List ℕ → ServerWords
key_with p boot switch = record { params = p; boot = boot; switch = switch }

same_key : (p : Params) (key : ServerWords) (boot switch : List ℕ) → p ≡ key.params → boot ≡ key.boot → switch ≡ key.switch →
    key_with p boot switch ≡ key
same_key p key boot switch ep eb es =
    ap (λ (x : Params). key_with x boot switch) ep ∙ ap (λ (xs : List ℕ). key_with key.params xs switch) eb
    ∙ ap (λ (xs : List ℕ). key_with key.params key.boot xs) es

pub server_file : (p : Params) (key : ServerWords) (boot switch out : List ℕ) → Accepts p → p ≡ key.params → boot ≡ key.boot → switch ≡ key.switch →
    length boot ≡ boot_size p → length switch ≡ switch_size p → AreWords64 boot → AreWords64 switch →
    out ≡ codes "RXS1" ++ params_bytes p ++ word_bytes boot ++ word_bytes switch → ServerFile out key
server_file p key boot switch out accepted ep eb es boot_count switch_count boot_words switch_words e =
    let whole : out ≡ server_bytes (record { params = p; boot = boot; switch = switch }) =
    e ∙ append_assoc (codes "RXS1" ++ params_bytes p) (word_bytes boot) (word_bytes switch)
    ∙ ap (λ (t : List ℕ). codes "RXS1" ++ params_bytes p ++ t) (sym (flat_map-append (to_le_bytes w64) boot switch)) in
    subst (ServerFile out) (same_key p key boot switch ep eb es) (record {
      fits = record { accepted = accepted; boot_count = boot_count; switch_count = switch_count; boot_words = boot_words; switch_words = switch_words };
      spelled = whole;
    })
