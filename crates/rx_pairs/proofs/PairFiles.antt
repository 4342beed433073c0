-- The pair file: what is read is spelled so, and what is spelled so is read.
use Rattle.std.proofs.Common.{append_assoc, ◌≡◌, ℕ, ◌+◌, ◌<◌, ◌≤◌, List, ◌++◌, length, take, drop, false, Result, Ok, Err, refl, sym, ap, subst, ◌∙◌, arith, inl, inr, lit<}
use Rattle.std.specs.Prelude.{IfOk, codes}
use Rattle.std.specs.Str.{bytes_eq}
use Rattle.std.specs.Int.{w64, to_le_bytes}
use Rattle.std.proofs.lemmas.Bool.{cases_lt}
use Rattle.std.proofs.lemmas.List.Concat.{flat_map-append}
use Rattle.std.proofs.lemmas.List.{take-append-drop, take_at, drop_at, length-append, length-take, length-drop, get_or_past}
use Rattle.rx_params.specs.declared.params.Params.{Params}
use Rattle.rx_params.specs.declared.bounds.Bounds.{Bounds}
use Rattle.rx_params.specs.declared.bounds.Refused.{Refused}
use Rattle.rx_params.specs.Acceptance.{PairAccepts, pair_checked}
use Rattle.rx_params.specs.Derived.{pair_words}
use Rattle.rx_params.proofs.Refusals.{pair_checked-accepted, pair_checked-accepts}
use Rattle.rx_lwe.specs.SwitchKeys.{switch_size}
use Rattle.rx_boot.specs.ServerKeys.{ServerWords}
use Rattle.rx_multi.specs.PairKeys.{PairWords, pair_size}
use Rattle.rx_multi.proofs.Keys.{all_words}
use Rattle.rx_codec.specs.declared.fault.CodecFault.{CodecFault}
use Rattle.rx_codec.specs.declared.fault.CodecFault.TheVariants.{Magic}
use Rattle.rx_codec.specs.Laws.{AreBytes}
use Rattle.rx_codec.specs.Reading.{◌>>=◌, Gives, bytes_at, magic_at, ends_at}
use Rattle.rx_codec.specs.ParamsFields.{params_bytes, accepted_or, fields_at, params_at}
use Rattle.rx_codec.specs.WordFields.{word_bytes, words_at}
use Rattle.rx_codec.specs.ServerFile.{ServerFile, AreWords64, key_of, server_from}
use Rattle.rx_codec.proofs.Accepted.{fields_below}
use Rattle.rx_codec.proofs.Fields.{IsBytes, Stands, Stands-then, Stands-first, Stands-second, Stands-whole, whole-Stands, bind_ok, bytes_again, magic_takes, magic_again, ends_takes, ends_again}
use Rattle.rx_codec.proofs.Params.{fields_takes, fields_again, accepted_takes}
use Rattle.rx_codec.proofs.Servers.{words64-take, words64-drop, words64-append}
use Rattle.rx_codec.proofs.Words.{words_takes, words_again}
use Rattle.rx_pairs.specs.PairFile.{PairFile, pair_bytes, pair_key_of, pair_params_at, pairs_from}
use Rattle.rx_pairs.specs.Laws.{PairFileLaws}

-- ---- the set

record TakenPairParams (file : List ℕ) (at : ℕ) (x : Params × ℕ) : Type 0 where
  there : Stands file at (params_bytes x.0) x.1
  accepted : PairAccepts x.0

params_takes : (file : List ℕ) (at : ℕ) (x : Params × ℕ) → IsBytes file → at ≤ length file → pair_params_at file at ≡ Ok x →
    TakenPairParams file at x
unfolding pair_params_at
params_takes file at x fits le e =
    let a = bind_ok (fields_at file at) (λ read. accepted_or (pair_checked read.0) read) x e in
    let b = accepted_takes (pair_checked a.0.0) a.0 x a.2 in
    subst (TakenPairParams file at) b.0
    (record { there = fields_takes file at a.0 fits le a.1; accepted = pair_checked-accepts a.0.0 b.1 b.2 })

params_again : (file : List ℕ) (at : ℕ) (p : Params) (after : ℕ) → PairAccepts p → Stands file at (params_bytes p) after →
    pair_params_at file at ≡ Ok (p, after)
unfolding pair_params_at
params_again file at p after accepted there =
    ap (λ (r : Result (Params × ℕ) CodecFault). r >>= λ read. accepted_or (pair_checked read.0) read)
    (fields_again file at p after (fields_below p accepted.fields) there)
    ∙ ap (λ (answer : Result Bounds Refused). accepted_or answer (p, after)) (pair_checked-accepted p accepted)

-- ---- the words of the two parts

spelled_whole : (p : Params) (all : List ℕ) → codes "RXM1" ++ params_bytes p ++ word_bytes all ≡ pair_bytes (pair_key_of p all)
spelled_whole p all =
    let whole : take (pair_size p) all ++ drop (pair_size p) all ≡ all = take-append-drop (pair_size p) all in
    ap (λ (ws : List ℕ). codes "RXM1" ++ params_bytes p ++ word_bytes ws) (sym whole)

key_of-parts : (p : Params) (rows switch : List ℕ) → length rows ≡ pair_size p →
    pair_key_of p (rows ++ switch) ≡ record { params = p; rows = rows; switch = switch }
key_of-parts p rows switch e =
    let front : take (pair_size p) (rows ++ switch) ≡ rows = take_at rows switch (pair_size p) e in
    let back : drop (pair_size p) (rows ++ switch) ≡ switch = drop_at rows switch (pair_size p) e in
    cc

-- ---- the file

abbrev after_params : List ℕ → Params × ℕ → Result PairWords CodecFault
after_params file params =
    words_at (pair_words params.0) file params.1 >>= λ words. ends_at file words.1 (pair_key_of params.0 words.0)

-- what is read is a pair file
pub pair_spelled : (file : List ℕ) (k : PairWords) → IsBytes file → pairs_from file ≡ Ok k → PairFile file k
unfolding pairs_from
pair_spelled file k fits e =
    let magic = bind_ok (magic_at (codes "RXM1") file) (λ after. pair_params_at file after >>= after_params file) k e in
    let params = bind_ok (pair_params_at file magic.0) (after_params file) k magic.2 in
    let p : Params = params.0.0 in
    let words = bind_ok (words_at (pair_words p) file params.0.1) (λ words. ends_at file words.1 (pair_key_of p words.0)) k params.2 in
    let end = ends_takes file words.0.1 (pair_key_of p words.0.0) k words.2 in
    let t0 = magic_takes (codes "RXM1") file magic.0 magic.1 in
    let t1 = params_takes file magic.0 params.0 fits t0.within params.1 in
    let t2 = words_takes (pair_words p) file params.0.1 words.0 fits words.1 in
    let e01 = Stands-then file 0 (codes "RXM1") magic.0 (params_bytes p) params.0.1 t0 t1.there in
    let e02 = Stands-then file 0 (codes "RXM1" ++ params_bytes p) params.0.1 (word_bytes words.0.0) words.0.1 e01 t2.0 in
    let all : List ℕ = words.0.0 in
    let split = all_words p in
    subst (PairFile file) end.1 (record {
      fits = record {
        accepted = t1.accepted;
        row_count = omega (arith, length-take (pair_size p) all, t2.1, split);
        switch_count = omega (arith, length-drop (pair_size p) all, t2.1, split);
        row_words = words64-take (pair_size p) all t2.2;
        switch_words = words64-drop (pair_size p) all t2.2;
      };
      spelled = whole-Stands file (codes "RXM1" ++ params_bytes p ++ word_bytes all) words.0.1 e02 end.0 ∙ spelled_whole p all;
    })

pub pair_found : (file : List ℕ) (result : Result PairWords CodecFault) → IsBytes file → Gives (λ k. k) result (pairs_from file) →
    IfOk result (λ k. PairFile file k)
pair_found file (Ok k) fits exact = pair_spelled file k fits exact
pair_found file (Err fault) fits exact = tt

-- a pair file is read
pub pair_again : (file : List ℕ) (k : PairWords) → PairFile file k → pairs_from file ≡ Ok k
unfolding pairs_from
pair_again file k h =
    let p : Params = k.params in
    let head = params_bytes p in
    let all : List ℕ = k.rows ++ k.switch in
    let whole : Stands file 0 (codes "RXM1" ++ head ++ word_bytes all) (length file) =
    subst (λ (text : List ℕ). Stands file 0 text (length file)) h.spelled (Stands-whole file) in
    let front = Stands-first file 0 (codes "RXM1" ++ head) (word_bytes all) (length file) whole in
    let words = Stands-second file 0 (codes "RXM1" ++ head) (word_bytes all) (length file) whole in
    let magic = Stands-first file 0 (codes "RXM1") head (0 + length (codes "RXM1" ++ head)) front in
    let params = Stands-second file 0 (codes "RXM1") head (0 + length (codes "RXM1" ++ head)) front in
    let count : length all ≡ pair_words p =
    omega (arith, length-append k.rows k.switch, h.fits.row_count, h.fits.switch_count, all_words p) in
    let parts : pair_key_of p all ≡ k = key_of-parts p k.rows k.switch h.fits.row_count in
    ap (λ (r : Result ℕ CodecFault). r >>= λ after. pair_params_at file after >>= after_params file)
    (magic_again (codes "RXM1") file _ refl magic)
    ∙ ap (λ (r : Result (Params × ℕ) CodecFault). r >>= after_params file) (params_again file _ p _ h.fits.accepted params)
    ∙ ap (λ (r : Result (List ℕ × ℕ) CodecFault). r >>= λ words. ends_at file words.1 (pair_key_of p words.0))
    (words_again (pair_words p) file _ all _ count (words64-append k.rows k.switch h.fits.row_words h.fits.switch_words) words)
    ∙ ends_again file (length file) (pair_key_of p all) refl
    ∙ ap done parts
  where
    done : PairWords → Result PairWords CodecFault
    done x = Ok x

pub pair_only : (file : List ℕ) (result : Result PairWords CodecFault) (k : PairWords) → Gives (λ k. k) result (pairs_from file) →
    PairFile file k → Gives (λ k. k) result (Ok k)
pair_only file result k exact h = subst (Gives (λ k. k) result) (pair_again file k h) exact

-- ---- the key that a file is written from

abbrev key_with : Params → List ℕ → List ℕ → PairWords
key_with p rows switch = record { params = p; rows = rows; switch = switch }

same_key : (p : Params) (key : PairWords) (rows switch : List ℕ) → p ≡ key.params → rows ≡ key.rows → switch ≡ key.switch →
    key_with p rows switch ≡ key
same_key p key rows switch ep er es =
    ap (λ (x : Params). key_with x rows switch) ep ∙ ap (λ (xs : List ℕ). key_with key.params xs switch) er
    ∙ ap (λ (xs : List ℕ). key_with key.params key.rows xs) es

pub pair_file : (p : Params) (key : PairWords) (rows switch out : List ℕ) → PairAccepts p → p ≡ key.params → rows ≡ key.rows →
    switch ≡ key.switch → length rows ≡ pair_size p → length switch ≡ switch_size p → AreWords64 rows → AreWords64 switch →
    out ≡ codes "RXM1" ++ params_bytes p ++ word_bytes rows ++ word_bytes switch → PairFile out key
pair_file p key rows switch out accepted ep er es row_count switch_count row_words switch_words e =
    let whole : out ≡ pair_bytes (key_with p rows switch) =
    e ∙ append_assoc (codes "RXM1" ++ params_bytes p) (word_bytes rows) (word_bytes switch)
    ∙ ap (λ (t : List ℕ). codes "RXM1" ++ params_bytes p ++ t) (sym (flat_map-append (to_le_bytes w64) rows switch)) in
    subst (PairFile out) (same_key p key rows switch ep er es) (record {
      fits = record { accepted = accepted; row_count = row_count; switch_count = switch_count; row_words = row_words; switch_words = switch_words };
      spelled = whole;
    })

-- ---- a file of the other kind

-- a file that has another magic
other_magic : (file magic other text : List ℕ) → length magic ≡ 4 → bytes_eq magic other ≡ false → file ≡ magic ++ text →
    magic_at other file ≡ Err Magic
other_magic file magic other text four differ is =
    let whole : Stands file 0 (magic ++ text) (length file) =
    subst (λ (t : List ℕ). Stands file 0 t (length file)) is (Stands-whole file) in
    let front = Stands-first file 0 magic text (length file) whole in
    rw (bytes_again file 4 0 magic _ front four, differ) refl

no_server : (file : List ℕ) (k : PairWords) → PairFile file k → server_from file ≡ Err Magic
unfolding server_from
no_server file k h =
    let is : file ≡ codes "RXM1" ++ (params_bytes k.params ++ word_bytes (k.rows ++ k.switch)) =
    h.spelled ∙ append_assoc (codes "RXM1") (params_bytes k.params) (word_bytes (k.rows ++ k.switch)) in
    rw (other_magic file (codes "RXM1") (codes "RXS1") _ refl refl is) refl

no_pairs : (file : List ℕ) (k : ServerWords) → ServerFile file k → pairs_from file ≡ Err Magic
unfolding pairs_from
no_pairs file k h =
    let is : file ≡ codes "RXS1" ++ (params_bytes k.params ++ word_bytes (k.boot ++ k.switch)) =
    h.spelled ∙ append_assoc (codes "RXS1") (params_bytes k.params) (word_bytes (k.boot ++ k.switch)) in
    rw (other_magic file (codes "RXS1") (codes "RXM1") _ refl refl is) refl

are_bytes : (bytes : List ℕ) → AreBytes bytes → IsBytes bytes
are_bytes bytes h i = elim (cases_lt i (length bytes)) [ inl lt ↦ h i lt | inr le ↦ rw (get_or_past bytes i 0 le) (lit< tt) ]

pub laws : PairFileLaws
laws = record {
  pair_read = pair_again;
  pair_spelled = λ bytes k h. pair_spelled bytes k (are_bytes bytes h);
  no_server = no_server;
  no_pairs = no_pairs;
}
