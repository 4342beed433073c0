-- Lists of which each entry is told by those before it: what is read is spelled so, and what is spelled so is read.
use Rattle.std.proofs.Common.{◌≡◌, ℕ, zero, suc, ◌+◌, ◌^◌, ◌<◌, ◌≤◌, Bool, true, leb, List, [], ◌∷◌, ◌++◌, length, Result, Ok, refl, sym, ap, subst, ◌∙◌, append_assoc, arith}
use Rattle.std.specs.List.{flat_map, AllByRecursion}
use Rattle.std.specs.Int.{Width, w32, to_le_bytes}
use Rattle.std.proofs.lemmas.Bool.{leb-true, le-leb}
use Rattle.std.proofs.lemmas.List.{append-nil}
use Rattle.std.proofs.lemmas.List.Concat.{flat_map-cons}
use Rattle.rx_net.specs.Legal.{InTurn}
use Rattle.rx_codec.specs.declared.fault.CodecFault.{CodecFault}
use Rattle.rx_codec.specs.Reading.{◌>>=◌, number_at, in_range, many_at, count_at, list_bytes, list_at}
use Rattle.rx_codec.proofs.Fields.{IsBytes, Stands, Stands-then, Stands-first, Stands-second, Stands-nothing, bind_ok, ok_is, IsWide, wide32, number_takes, number_again, in_range_takes}

-- how one entry is read after those before it
abbrev pub Reads : Type 0 → Type 0
Reads A = List A → List ℕ → ℕ → Result (A × ℕ) CodecFault

-- an entry that is read is spelled so and fits, and one that fits and is spelled so is read
pub record Tells {A : Type 0} (one : Reads A) (spell : A → List ℕ) (Fits : List A → A → Type 0) : Type 0 where
  pub takes : (before : List A) (file : List ℕ) (at : ℕ) (x : A × ℕ) → IsBytes file → one before file at ≡ Ok x → Stands file at (spell x.0) x.1 × Fits before x.0
  pub again : (before : List A) (file : List ℕ) (at : ℕ) (x : A) (after : ℕ) → Fits before x → Stands file at (spell x) after → one before file at ≡ Ok (x, after)

pub record TakenMany {A : Type 0} (spell : A → List ℕ) (Fits : List A → A → Type 0) (count : ℕ) (before : List A) (file : List ℕ) (at : ℕ) (x : List A × ℕ) : Type 0 where
  pub more : List A
  pub value : x.0 ≡ before ++ more
  pub there : Stands file at (flat_map spell more) x.1
  pub count-is : length more ≡ count
  pub fits : InTurn Fits before more

pub many_takes : {A : Type 0} (one : Reads A) (spell : A → List ℕ) (Fits : List A → A → Type 0) → Tells one spell Fits → (count : ℕ) (before : List A) (file : List ℕ) (at : ℕ) (x : List A × ℕ) → IsBytes file → at ≤ length file → many_at one count before file at ≡ Ok x → TakenMany spell Fits count before file at x
many_takes {A} one spell Fits tells zero before file at x fits le e =
    let value : List A × ℕ = (before, at) in
    subst (TakenMany spell Fits 0 before file at) (ok_is value x e)
    (record { more = []; value = sym (append-nil before); there = Stands-nothing file at le; count-is = refl; fits = tt })
many_takes {A} one spell Fits tells (suc count) before file at x fits le e =
    let a = bind_ok (one before file at) (λ y. many_at one count (before ++ y.0 ∷ []) file y.1) x e in
    let t = tells.takes before file at a.0 fits a.1 in
    let r = many_takes one spell Fits tells count (before ++ a.0.0 ∷ []) file a.0.1 x fits t.0.within a.2 in
    record {
      more = a.0.0 ∷ r.more;
      value = r.value ∙ append_assoc before (a.0.0 ∷ []) r.more;
      there = subst (λ (text : List ℕ). Stands file at text x.1) (sym (flat_map-cons spell a.0.0 r.more))
          (Stands-then file at (spell a.0.0) a.0.1 (flat_map spell r.more) x.1 t.0 r.there);
      count-is = ap suc r.count-is;
      fits = (t.1, r.fits);
    }

abbrev read_of : {A : Type 0} → List A → ℕ → Result (List A × ℕ) CodecFault
read_of xs after = Ok (xs, after)

pub many_again : {A : Type 0} (one : Reads A) (spell : A → List ℕ) (Fits : List A → A → Type 0) → Tells one spell Fits → (xs before : List A) (file : List ℕ) (at after : ℕ) → InTurn Fits before xs → Stands file at (flat_map spell xs) after → many_at one (length xs) before file at ≡ Ok (before ++ xs, after)
many_again {A} one spell Fits tells [] before file at after fits there =
    let here : at ≡ after = omega (arith, there.end) in
    ap (read_of before) here ∙ ap (λ (xs : List A). read_of xs after) (sym (append-nil before))
many_again {A} one spell Fits tells (x ∷ xs) before file at after fits there =
    let text = spell x in
    let whole : Stands file at (text ++ flat_map spell xs) after = subst (λ (t : List ℕ). Stands file at t after) (flat_map-cons spell x xs) there in
    let first = Stands-first file at text (flat_map spell xs) after whole in
    let second = Stands-second file at text (flat_map spell xs) after whole in
    ap (λ (r : Result (A × ℕ) CodecFault). r >>= λ y. many_at one (length xs) (before ++ y.0 ∷ []) file y.1) (tells.again before file at x (at + length text) fits.0 first)
    ∙ many_again one spell Fits tells xs (before ++ x ∷ []) file (at + length text) after fits.1 second
    ∙ ap (λ (ys : List A). read_of ys after) (append_assoc before (x ∷ []) xs)

-- what each entry is after those before it, and what it is by itself
pub each_of_turn : {A : Type 0} (Fits : List A → A → Type 0) (P : A → Type 0) → ((before : List A) (x : A) → Fits before x → P x) → (before xs : List A) → InTurn Fits before xs → AllByRecursion P xs
each_of_turn Fits P is before [] h = tt
each_of_turn Fits P is before (x ∷ xs) h = (is before x h.0, each_of_turn Fits P is (before ++ x ∷ []) xs h.1)

pub turn_of_each : {A : Type 0} (P : A → Type 0) (Fits : List A → A → Type 0) → ((before : List A) (x : A) → P x → Fits before x) → (before xs : List A) → AllByRecursion P xs → InTurn Fits before xs
turn_of_each P Fits is before [] h = tt
turn_of_each P Fits is before (x ∷ xs) h = (is before x h.0, turn_of_each P Fits is (before ++ x ∷ []) xs h.1)

-- ---- numbers of four bytes

abbrev pub IsFourBytes : List ℕ → ℕ → Type 0
IsFourBytes before n = n < 2 ^ 32

pub four_bytes_tells : Tells (λ before. number_at w32) (to_le_bytes w32) IsFourBytes
four_bytes_tells = record {
  takes = λ before file at x fits e. number_takes w32 (2 ^ 32) wide32 file at x fits e;
  again = λ before file at x after fits there. number_again w32 (2 ^ 32) wide32 file at x after there fits;
}

-- ---- how many, and then all of them

pub record TakenList {A : Type 0} (w : Width) (most : ℕ) (spell : A → List ℕ) (Fits : List A → A → Type 0) (file : List ℕ) (at : ℕ) (x : List A × ℕ) : Type 0 where
  pub there : Stands file at (list_bytes w spell x.0) x.1
  pub few : length x.0 ≤ most
  pub fits : InTurn Fits [] x.0

pub list_takes : {A : Type 0} (w : Width) (limit most : ℕ) (wide : IsWide w limit) (one : Reads A) (spell : A → List ℕ) (Fits : List A → A → Type 0) → Tells one spell Fits → (file : List ℕ) (at : ℕ) (x : List A × ℕ) → IsBytes file → list_at w most one file at ≡ Ok x → TakenList w most spell Fits file at x
unfolding list_at count_at
list_takes {A} w limit most wide one spell Fits tells file at x fits e =
    let c = bind_ok (number_at w file at >>= λ n. in_range (leb n.0 most) at n) (λ n. many_at one n.0 [] file n.1) x e in
    let n = bind_ok (number_at w file at) (λ n. in_range (leb n.0 most) at n) c.0 c.1 in
    let g = in_range_takes (leb n.0.0 most) at n.0 c.0 n.2 in
    let number = number_takes w limit wide file at c.0 fits (n.1 ∙ ap (λ (y : ℕ × ℕ). Ok y) g.1) in
    let few : c.0.0 ≤ most = leb-true _ _ (subst (λ (y : ℕ × ℕ). leb y.0 most ≡ true) g.1 g.0) in
    let m = many_takes one spell Fits tells c.0.0 [] file c.0.1 x fits number.0.within c.2 in
    let whole = Stands-then file at (to_le_bytes w c.0.0) c.0.1 (flat_map spell m.more) x.1 number.0 m.there in
    let counted : Stands file at (list_bytes w spell m.more) x.1 = subst (λ (k : ℕ). Stands file at (to_le_bytes w k ++ flat_map spell m.more) x.1) (sym m.count-is) whole in
    let are : m.more ≡ x.0 = sym m.value in
    record {
      there = subst (λ (xs : List A). Stands file at (list_bytes w spell xs) x.1) are counted;
      few = subst (λ (xs : List A). length xs ≤ most) are (omega (arith, few, m.count-is));
      fits = subst (InTurn Fits []) are m.fits;
    }

pub list_again : {A : Type 0} (w : Width) (limit most : ℕ) (wide : IsWide w limit) (one : Reads A) (spell : A → List ℕ) (Fits : List A → A → Type 0) → Tells one spell Fits → (file : List ℕ) (at : ℕ) (xs : List A) (after : ℕ) → most < limit → length xs ≤ most → InTurn Fits [] xs → Stands file at (list_bytes w spell xs) after → list_at w most one file at ≡ Ok (xs, after)
unfolding list_at count_at
list_again {A} w limit most wide one spell Fits tells file at xs after below few fits there =
    let head = to_le_bytes w (length xs) in
    let first = Stands-first file at head (flat_map spell xs) after there in
    let second = Stands-second file at head (flat_map spell xs) after there in
    let place = at + length head in
    let passes : leb (length xs) most ≡ true = le-leb _ _ few in
    let count : ℕ × ℕ = (length xs, place) in
    ap (λ (r : Result (ℕ × ℕ) CodecFault). r >>= (λ n. in_range (leb n.0 most) at n) >>= λ n. many_at one n.0 [] file n.1)
    (number_again w limit wide file at (length xs) place first (omega (arith, below, few)))
    ∙ ap (λ (b : Bool). in_range b at count >>= λ n. many_at one n.0 [] file n.1) passes
    ∙ many_again one spell Fits tells xs [] file place after fits second
