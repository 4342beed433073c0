-- The files that were read, and those that are left.
use Rattle.std.proofs.Common.{◌≡◌, ◌<◌, ◌+◌, ℕ, suc, List, [], ◌∷◌, ◌++◌, refl, sym, ap, subst, ◌∙◌, inl, inr, length, drop, get_or, arith, Some, None, Option, Result, Ok, Err, Bool, true, false, drop-cons, append_assoc, add-one}
use Rattle.std.specs.Prelude.{◌==◌, if◌then◌else◌, IfOk, MatchResult, String, string_bytes}
use Rattle.std.specs.declared.alloc.Global.{Global}
use Rattle.std.specs.declared.alloc.AllocError.{AllocError}
use Rattle.std.specs.Option.{option_map, option_or}
use Rattle.std.proofs.lemmas.Bool.{eqb-true}
use Rattle.std.proofs.lemmas.List.{length-map, get_or-map}
use Rattle.rx_params.specs.declared.params.Params.{Params}
use Rattle.rx_params.specs.Text.{fields_of}
use Rattle.rx_codec.specs.declared.fault.CodecFault.{CodecFault}
use Rattle.rx_codec.specs.declared.cipher.Cipher.{Cipher}
use Rattle.rx_codec.specs.CipherFile.{IsCipher}
use Rattle.rx_seeded.specs.Versions.{CipherRead, any_cipher_from}
use Rattle.rx_crew.specs.Kernel.{basis_params}
use Rattle.rx_server.specs.Laws.{AreCiphersOf}
use Rattle.rx_report.specs.declared.difference.Difference.{Difference}
use Rattle.rx_report.specs.Reports.{Report, mismatch, first_difference, difference_of}
use Rattle.rx_tool.specs.declared.outcome.Stop.{Stop}
use Rattle.rx_tool.specs.declared.outcome.Stop.TheVariants.{Refused, Read, Memory}
use Rattle.rx_tool.specs.Answers.{StopsFor}
use Rattle.rx_tool.specs.Words.{texts}
use Rattle.rx_tool.specs.Refusals.{set_difference}
use Rattle.rx_tool.specs.Run.{AreCiphers, AreCipherValues, AreOfSet, cipher_before, ciphers_of, malformed_input, one_malformed}

-- the first files were read, and gave these ciphers
pub record ReadSoFar (names files : List (List ℕ)) (place : ℕ) (ciphers : List Cipher) : Type 0 where
  pub refusal : malformed_input (drop place names) (drop place files) ≡ malformed_input names files
  pub values : ciphers ++ ciphers_of (drop place files) ≡ ciphers_of files
  pub are : (rest : List Cipher) → AreCiphers (drop place files) rest → AreCiphers files (ciphers ++ rest)

next : {X : Type 0} (xs : List X) (i : ℕ) (x : X) → i < length xs → x ≡ get_or xs i x → drop i xs ≡ x ∷ drop (i + 1) xs
next xs i x p e = rw add-one (drop-cons xs i x p ∙ ap (λ y. y ∷ drop (suc i) xs) (sym e))

pub one_read : (names files : List (List ℕ)) (place : ℕ) (ciphers : List Cipher) (name file : List ℕ) (c : Cipher) → ReadSoFar names files place ciphers
    → place < length names → name ≡ get_or names place name → place < length files → file ≡ get_or files place file
    → any_cipher_from file ≡ Ok c → CipherRead file c → ReadSoFar names files (place + 1) (ciphers ++ c ∷ [])
one_read names files place ciphers name file c so p e q f is spells =
    let ns : drop place names ≡ name ∷ drop (place + 1) names = next names place name p e in
    let fs : drop place files ≡ file ∷ drop (place + 1) files = next files place file q f in
    let refusal : malformed_input (name ∷ drop (place + 1) names) (file ∷ drop (place + 1) files) ≡ malformed_input names files =
    subst (λ xs. malformed_input xs (file ∷ drop (place + 1) files) ≡ malformed_input names files) ns
    (subst (λ ys. malformed_input (drop place names) ys ≡ malformed_input names files) fs so.refusal) in
    let values : ciphers ++ ciphers_of (file ∷ drop (place + 1) files) ≡ ciphers_of files =
    subst (λ ys. ciphers ++ ciphers_of ys ≡ ciphers_of files) fs so.values in
    record {
      refusal = sym (ap (λ r. one_malformed name r (malformed_input (drop (place + 1) names) (drop (place + 1) files))) is) ∙ refusal;
      values = append_assoc ciphers (c ∷ []) (ciphers_of (drop (place + 1) files))
          ∙ sym (ap (λ r. ciphers ++ cipher_before r (ciphers_of (drop (place + 1) files))) is) ∙ values;
      are = λ rest h. subst (AreCiphers files) (sym (append_assoc ciphers (c ∷ []) rest))
          (so.are (c ∷ rest) (subst (λ ys. AreCiphers ys (c ∷ rest)) (sym fs) (spells, h)));
    }

pub stopped_at : (names files : List (List ℕ)) (place : ℕ) (ciphers : List Cipher) (name file : List ℕ) (report : Report) → ReadSoFar names files place ciphers
    → place < length names → name ≡ get_or names place name → place < length files → file ≡ get_or files place file
    → one_malformed name (any_cipher_from file) None ≡ Some report → malformed_input names files ≡ Some report
stopped_at names files place ciphers name file report so p e q f stops =
    let ns : drop place names ≡ name ∷ drop (place + 1) names = next names place name p e in
    let fs : drop place files ≡ file ∷ drop (place + 1) files = next files place file q f in
    let refusal : malformed_input (name ∷ drop (place + 1) names) (file ∷ drop (place + 1) files) ≡ malformed_input names files =
    subst (λ xs. malformed_input xs (file ∷ drop (place + 1) files) ≡ malformed_input names files) ns
    (subst (λ ys. malformed_input (drop place names) ys ≡ malformed_input names files) fs so.refusal) in
    sym refusal ∙ at_once name (any_cipher_from file) (malformed_input (drop (place + 1) names) (drop (place + 1) files)) report stops
  where
    at_once : (name : List ℕ) (read : Result Cipher CodecFault) (later : Option Report) (report : Report) → one_malformed name read None ≡ Some report → one_malformed name read later ≡ Some report
    at_once name (Ok c) later report e = absurd cc
    at_once name (Err fault) later report e = e

-- ---- the ciphers that were compared with a set

pub record SameSoFar (p : Params) (names : List (List ℕ)) (ciphers : List Cipher) (place : ℕ) : Type 0 where
  pub refusal : set_difference p (drop place names) (drop place ciphers) ≡ set_difference p names ciphers
  pub same : AreOfSet p (drop place ciphers) → AreOfSet p ciphers

-- lists without a difference
lists_same : (n : ℕ) (xs ys : List ℕ) → length xs ≡ length ys → first_difference n xs ys ≡ None → xs ≡ ys
lists_same n [] [] l e = refl
lists_same n [] (y ∷ ys) l e = absurd (omega (arith, l))
lists_same n (x ∷ xs) [] l e = absurd (omega (arith, l))
lists_same n (x ∷ xs) (y ∷ ys) l e =
    let both = compared (x == y) (first_difference (n + 1) xs ys) (record { field = n; first = x; other = y }) e in
    ap (λ z. z ∷ xs) (eqb-true x y both.0) ∙ ap (λ zs. y ∷ zs) (lists_same (n + 1) xs ys (omega (arith, l)) both.1)
  where
    compared : (same : Bool) (later : Option Difference) (d : Difference) → (if same then later else Some d) ≡ None → (same ≡ true) × (later ≡ None)
    compared true later d e = (refl, e)
    compared false later d e = absurd cc

pub same_set : (p q : Params) → difference_of p q ≡ None → q ≡ p
same_set p q e = sym (ap basis_params (lists_same 1 (fields_of p) (fields_of q) refl e))

pub one_same : (p : Params) (names : List (List ℕ)) (ciphers : List Cipher) (place : ℕ) (c : Cipher) (found : Option Difference) → SameSoFar p names ciphers place
    → place < length names → place < length ciphers → c ≡ get_or ciphers place c → found ≡ difference_of p c.params → found ≡ None → SameSoFar p names ciphers (place + 1)
one_same p names ciphers place c found so l m f is none =
    let ns : drop place names ≡ get_or names place [] ∷ drop (place + 1) names = rw add-one (drop-cons names place [] l) in
    let cs : drop place ciphers ≡ c ∷ drop (place + 1) ciphers = next ciphers place c m f in
    let later : Option Report = set_difference p (drop (place + 1) names) (drop (place + 1) ciphers) in
    record {
      refusal = sym (ap (λ d. option_or (option_map (mismatch (get_or names place [])) d) later) (sym is ∙ none))
          ∙ sym (ap (λ xs. set_difference p xs (c ∷ drop (place + 1) ciphers)) ns) ∙ sym (ap (set_difference p (drop place names)) cs) ∙ so.refusal;
      same = λ h. so.same (subst (AreOfSet p) (sym cs) (same_set p c.params (sym is ∙ none), h));
    }

pub differs_at : (p : Params) (names : List (List ℕ)) (ciphers : List Cipher) (place : ℕ) (name : List ℕ) (c : Cipher) (d : Difference) → SameSoFar p names ciphers place
    → place < length names → name ≡ get_or names place name → place < length ciphers → c ≡ get_or ciphers place c
    → difference_of p c.params ≡ Some d → set_difference p names ciphers ≡ Some (mismatch name d)
differs_at p names ciphers place name c d so l e m f some =
    let ns : drop place names ≡ name ∷ drop (place + 1) names = next names place name l e in
    let cs : drop place ciphers ≡ c ∷ drop (place + 1) ciphers = next ciphers place c m f in
    sym so.refusal ∙ ap (set_difference p (drop place names)) cs ∙ ap (λ xs. set_difference p xs (c ∷ drop (place + 1) ciphers)) ns
    ∙ ap (λ d. option_or (option_map (mismatch name) d) (set_difference p (drop (place + 1) names) (drop (place + 1) ciphers))) some

read_fits : (file : List ℕ) (c : Cipher) → CipherRead file c → IsCipher c
read_fits file c (inl first) = first.fits
read_fits file c (inr second) = second.1.fits

pub values_fit : (files : List (List ℕ)) (ciphers : List Cipher) → AreCiphers files ciphers → AreCipherValues ciphers
values_fit [] [] are = tt
values_fit [] (c ∷ ciphers) are = absurd are
values_fit (file ∷ files) [] are = absurd are
values_fit (file ∷ files) (c ∷ ciphers) are = (read_fits file c are.0, values_fit files ciphers are.1)

pub of_set : (p : Params) (ciphers : List Cipher) → AreOfSet p ciphers → AreCipherValues ciphers → AreCiphersOf p ciphers
of_set p [] same fit = tt
of_set p (c ∷ ciphers) same fit = ((same.0, fit.0), of_set p ciphers same.1 fit.1)

pub length-ciphers : (files : List (List ℕ)) (ciphers : List Cipher) → AreCiphers files ciphers → length ciphers ≡ length files
length-ciphers [] [] are = refl
length-ciphers [] (c ∷ ciphers) are = absurd are
length-ciphers (file ∷ files) [] are = absurd are
length-ciphers (file ∷ files) (c ∷ ciphers) are = ap suc (length-ciphers files ciphers are.1)

-- ---- the exits of the two loops

-- a word, as a name among names
pub named_at : (names : List (String Global)) (i : ℕ) (s : String Global) (name : List ℕ) → i < length names → s ≡ get_or names i s → name ≡ string_bytes s
    → (i < length (texts names)) × (name ≡ get_or (texts names) i name)
named_at names i s name p e f =
    let l : length (texts names) ≡ length names = length-map names string_bytes in
    let at : get_or (texts names) i (string_bytes s) ≡ string_bytes (get_or names i s) = get_or-map string_bytes names i s (string_bytes s) p in
    (omega (arith, l, p), f ∙ ap string_bytes e ∙ sym at ∙ ap (get_or (texts names) i) (sym f))

-- a stop for a report
pub stops_for : (refusal : Option Report) (r : Report) (report : Result Report AllocError) (stop : Stop) → refusal ≡ Some r → IfOk report (λ x. x ≡ r)
    → MatchResult report (λ x. stop ≡ Refused x) (λ _. stop ≡ Memory) → StopsFor refusal stop
stops_for refusal r (Ok x) stop is e s = subst (StopsFor refusal) (sym s) (is ∙ ap Some (sym e))
stops_for refusal r (Err error) stop is e s = subst (StopsFor refusal) (sym s) tt

pub stopped_for : (names files : List (List ℕ)) (place : ℕ) (ciphers : List Cipher) (name file : List ℕ) (stop : Stop) → ReadSoFar names files place ciphers
    → (place < length names) × (name ≡ get_or names place name) → place < length files → file ≡ get_or files place file
    → StopsFor (one_malformed name (any_cipher_from file) None) stop → StopsFor (malformed_input names files) stop
stopped_for names files place ciphers name file (Refused report) so n q f stops = stopped_at names files place ciphers name file report so n.0 n.1 q f stops
stopped_for names files place ciphers name file Read so n q f stops = absurd stops
stopped_for names files place ciphers name file Memory so n q f stops = tt
