-- A field that is read is the field that was written, and what was written is read again, wherever it stands.
use Rattle.std.proofs.Common.{◌≡◌, ℕ, ◌+◌, ◌-◌, ◌^◌, ◌<◌, ◌≤◌, Bool, true, false, cond, leb, List, [], ◌∷◌, ◌++◌, length, get_or, take, drop, Result, Ok, Err, refl, sym, ap, subst, ◌∙◌, append_assoc, arith, inl, inr}
use Rattle.std.specs.Prelude.{nat_le}
use Rattle.std.specs.List.{slice_range}
use Rattle.std.specs.Int.{Width, w8, w16, w32, w64, byte_len, from_le_bytes, to_le_bytes}
use Rattle.std.proofs.lemmas.Bool.{cases_lt, leb-true, le-leb}
use Rattle.std.proofs.lemmas.List.{take_at, drop_at, drop-drop, drop_all, append-nil, get_or_append_left, length-append, length-drop, length-take, get_or-drop, get_or-take, get_or_past}
use Rattle.std.specs.Str.{bytes_eq}
use Rattle.std.proofs.lemmas.Slice.Eq.{bytes_eq-Decides}
use Rattle.std.proofs.lemmas.List.Folds.{drop_split}
use Rattle.std.proofs.Math.Nat.{mod-eq_of_lt}
use Rattle.std.proofs.lemmas.Nat.{le_bytes_2, le_bytes_4, le_bytes_8, from_le_bytes-to_le_bytes_2, from_le_bytes-to_le_bytes_4, from_le_bytes-to_le_bytes_8}
use Rattle.rx_codec.specs.declared.fault.CodecFault.{CodecFault}
use Rattle.rx_codec.specs.declared.fault.CodecFault.TheVariants.{Magic, Short, Long, Field}
use Rattle.rx_codec.specs.Reading.{◌>>=◌, bytes_at, number_at, in_range, magic_at, ends_at}

abbrev pub IsBytes : List ℕ → Type 0
IsBytes bytes = (i : ℕ) → get_or bytes i 0 < 256

pub IsBytes-drop : (n : ℕ) (bytes : List ℕ) → IsBytes bytes → IsBytes (drop n bytes)
IsBytes-drop n bytes fits i = rw (get_or-drop n bytes i 0) (fits (n + i))

pub IsBytes-take : (n : ℕ) (bytes : List ℕ) → IsBytes bytes → IsBytes (take n bytes)
IsBytes-take n bytes fits i =
    elim (cases_lt i n) [
      | inl lt ↦ rw (get_or-take n bytes i 0 lt) (fits i)
      | inr le ↦ rw (get_or_past (take n bytes) i 0 (omega (arith, length-take n bytes))) (omega arith)
    ]

-- from the place `at` to the place `after`, the file has this text
pub record Stands (file : List ℕ) (at : ℕ) (text : List ℕ) (after : ℕ) : Type 0 where
  pub parts : drop at file ≡ text ++ drop after file
  pub end : after ≡ at + length text
  pub within : after ≤ length file

-- the value of a step that did not fail
pub bind_ok : {A B : Type 0} (r : Result A CodecFault) (f : A → Result B CodecFault) (y : B) → (r >>= f) ≡ Ok y → (x : A) × (r ≡ Ok x) × (f x ≡ Ok y)
bind_ok (Ok x) f y e = (x, refl, e)
bind_ok (Err d) f y e = absurd cc

-- a test that did not fail
pub guard_ok : {A : Type 0} (b : Bool) (d : CodecFault) (x y : A) → cond b (Ok x) (Err d) ≡ Ok y → (b ≡ true) × (x ≡ y)
guard_ok true d x y e = (refl, cc)
guard_ok false d x y e = absurd cc

abbrev done : {A : Type 0} → A → Result A CodecFault
done x = Ok x

pub ok_is : {A : Type 0} (x y : A) → done x ≡ done y → x ≡ y
ok_is x y e = cc

-- one text after another
pub Stands-then : (file : List ℕ) (a : ℕ) (x : List ℕ) (b : ℕ) (y : List ℕ) (c : ℕ) → Stands file a x b → Stands file b y c → Stands file a (x ++ y) c
Stands-then file a x b y c p q = record {
  parts = p.parts ∙ ap (λ (t : List ℕ). x ++ t) q.parts ∙ sym (append_assoc x y (drop c file));
  end = omega (arith, p.end, q.end, length-append x y);
  within = q.within;
}

-- the first of two texts, and the second
pub Stands-first : (file : List ℕ) (a : ℕ) (x y : List ℕ) (c : ℕ) → Stands file a (x ++ y) c → Stands file a x (a + length x)
Stands-first file a x y c p =
    let whole : drop a file ≡ x ++ (y ++ drop c file) = p.parts ∙ append_assoc x y (drop c file) in
    let rest : drop (a + length x) file ≡ y ++ drop c file = sym (drop-drop (length x) a file) ∙ ap (drop (length x)) whole ∙ drop_at x (y ++ drop c file) (length x) refl in
    record {
      parts = whole ∙ ap (λ (t : List ℕ). x ++ t) (sym rest);
      end = refl;
      within = omega (arith, p.end, p.within, length-append x y);
    }

pub Stands-second : (file : List ℕ) (a : ℕ) (x y : List ℕ) (c : ℕ) → Stands file a (x ++ y) c → Stands file (a + length x) y c
Stands-second file a x y c p =
    let whole : drop a file ≡ x ++ (y ++ drop c file) = p.parts ∙ append_assoc x y (drop c file) in
    record {
      parts = sym (drop-drop (length x) a file) ∙ ap (drop (length x)) whole ∙ drop_at x (y ++ drop c file) (length x) refl;
      end = omega (arith, p.end, length-append x y);
      within = p.within;
    }

pub Stands-nothing : (file : List ℕ) (at : ℕ) → at ≤ length file → Stands file at [] at
Stands-nothing file at le = record { parts = refl; end = omega arith; within = le }

-- a text that is the whole file
pub Stands-whole : (file : List ℕ) → Stands file 0 file (length file)
Stands-whole file = record {
  parts = sym (ap (λ (t : List ℕ). file ++ t) (drop_all (length file) file (omega arith)) ∙ append-nil file);
  end = omega arith;
  within = omega arith;
}

pub whole-Stands : (file text : List ℕ) (after : ℕ) → Stands file 0 text after → length file ≤ after → file ≡ text
whole-Stands file text after p le = p.parts ∙ ap (λ (t : List ℕ). text ++ t) (drop_all after file le) ∙ append-nil text

-- ---- bytes

pub bytes_takes : (file : List ℕ) (count at : ℕ) (x : List ℕ × ℕ) → bytes_at file count at ≡ Ok x → Stands file at x.0 x.1 × (length x.0 ≡ count)
bytes_takes file count at x e =
    let g = guard_ok (nat_le (at + count) (length file)) (Short (at + count) (length file)) (slice_range file at (at + count), at + count) x e in
    let le : at + count ≤ length file = leb-true _ _ g.0 in
    let len : length (slice_range file at (at + count)) ≡ count = omega (arith, length-take (at + count - at) (drop at file), length-drop at file) in
    let made : List ℕ × ℕ = (slice_range file at (at + count), at + count) in
    subst (λ (y : List ℕ × ℕ). Stands file at y.0 y.1 × (length y.0 ≡ count)) (ok_is made x (ap done g.1))
    (record { parts = drop_split file at (at + count) (omega arith); end = omega (arith, len); within = le }, len)

pub bytes_again : (file : List ℕ) (count at : ℕ) (text : List ℕ) (after : ℕ) → Stands file at text after → length text ≡ count → bytes_at file count at ≡ Ok (text, after)
bytes_again file count at text after p len =
    let le : leb (at + count) (length file) ≡ true = le-leb _ _ (omega (arith, p.end, p.within, len)) in
    let end : at + count ≡ after = omega (arith, p.end, len) in
    let there : slice_range file at (at + count) ≡ text = ap (take (at + count - at)) p.parts ∙ take_at text (drop after file) (at + count - at) (omega (arith, len)) in
    rw (le, there, end) refl

-- the bytes of a text that stands in a file
pub IsBytes-within : (file : List ℕ) (at : ℕ) (text : List ℕ) (after : ℕ) → IsBytes file → Stands file at text after → IsBytes text
IsBytes-within file at text after fits p i =
    elim (cases_lt i (length text)) [
      | inl lt ↦ rw (← get_or_append_left text (drop after file) 0 i lt, ← p.parts, get_or-drop at file i 0) (fits (at + i))
      | inr le ↦ rw (get_or_past text i 0 le) (omega arith)
    ]

-- ---- numbers

pub record IsWide (w : Width) (limit : ℕ) : Type 0 where
  pub len : (n : ℕ) → length (to_le_bytes w n) ≡ byte_len w
  pub back : (bytes : List ℕ) → length bytes ≡ byte_len w → IsBytes bytes → to_le_bytes w (from_le_bytes w bytes) ≡ bytes
  pub again : (n : ℕ) → n < limit → from_le_bytes w (to_le_bytes w n) ≡ n
  pub below : (bytes : List ℕ) → IsBytes bytes → from_le_bytes w bytes < limit

byte_back : (bytes : List ℕ) → length bytes ≡ 1 → IsBytes bytes → to_le_bytes w8 (from_le_bytes w8 bytes) ≡ bytes
byte_back [] len fits = absurd cc
byte_back (b ∷ []) len fits = ap (λ (n : ℕ). n ∷ []) (mod-eq_of_lt (fits 0))
byte_back (b ∷ c ∷ bytes) len fits = absurd (omega (arith, len))

pub wide8 : IsWide w8 (2 ^ 8)
wide8 = record {
  len = λ n. refl;
  back = byte_back;
  again = λ n lt. mod-eq_of_lt lt;
  below = λ bytes fits. omega (arith, fits 0);
}

pub wide16 : IsWide w16 (2 ^ 16)
wide16 = record {
  len = λ n. refl;
  back = λ bytes len fits. le_bytes_2 bytes _ len fits refl;
  again = λ n lt. from_le_bytes-to_le_bytes_2 n lt;
  below = λ bytes fits. omega (arith, fits 0, fits 1);
}

pub wide32 : IsWide w32 (2 ^ 32)
wide32 = record {
  len = λ n. refl;
  back = λ bytes len fits. le_bytes_4 bytes _ len fits refl;
  again = λ n lt. from_le_bytes-to_le_bytes_4 n lt;
  below = λ bytes fits. omega (arith, fits 0, fits 1, fits 2, fits 3);
}

pub wide64 : IsWide w64 (2 ^ 64)
wide64 = record {
  len = λ n. refl;
  back = λ bytes len fits. le_bytes_8 bytes _ len fits refl;
  again = λ n lt. from_le_bytes-to_le_bytes_8 n lt;
  below = λ bytes fits. omega (arith, fits 0, fits 1, fits 2, fits 3, fits 4, fits 5, fits 6, fits 7);
}

pub number_takes : (w : Width) (limit : ℕ) (wide : IsWide w limit) (file : List ℕ) (at : ℕ) (x : ℕ × ℕ) → IsBytes file → number_at w file at ≡ Ok x → Stands file at (to_le_bytes w x.0) x.1 × (x.0 < limit)
number_takes w limit wide file at x fits e =
    let a = bind_ok (bytes_at file (byte_len w) at) (λ bytes. Ok (from_le_bytes w bytes.0, bytes.1)) x e in
    let t = bytes_takes file (byte_len w) at a.0 a.1 in
    let bytes : IsBytes a.0.0 = IsBytes-within file at a.0.0 a.0.1 fits t.0 in
    let made : ℕ × ℕ = (from_le_bytes w a.0.0, a.0.1) in
    subst (λ (y : ℕ × ℕ). Stands file at (to_le_bytes w y.0) y.1 × (y.0 < limit)) (ok_is made x a.2)
    (rw (wide.back a.0.0 t.1 bytes) t.0, wide.below a.0.0 bytes)

pub number_again : (w : Width) (limit : ℕ) (wide : IsWide w limit) (file : List ℕ) (at n after : ℕ) → Stands file at (to_le_bytes w n) after → n < limit → number_at w file at ≡ Ok (n, after)
number_again w limit wide file at n after p lt =
    rw (bytes_again file (byte_len w) at (to_le_bytes w n) after p (wide.len n), wide.again n lt) refl

-- ---- tests

pub in_range_takes : {A : Type 0} (passes : Bool) (at : ℕ) (x y : A) → in_range passes at x ≡ Ok y → (passes ≡ true) × (x ≡ y)
in_range_takes passes at x y e = guard_ok passes (Field at) x y e

-- ---- the first field, and the end

pub magic_takes : (magic file : List ℕ) (after : ℕ) → magic_at magic file ≡ Ok after → Stands file 0 magic after
magic_takes magic file after e =
    let a = bind_ok (bytes_at file 4 0) (λ bytes. cond (bytes_eq bytes.0 magic) (Ok bytes.1) (Err Magic)) after e in
    let t = bytes_takes file 4 0 a.0 a.1 in
    let g = guard_ok (bytes_eq a.0.0 magic) Magic a.0.1 after a.2 in
    let same : a.0.0 ≡ magic = (bytes_eq-Decides a.0.0 magic).0 g.0 in
    subst (λ (text : List ℕ). Stands file 0 text after) same (subst (Stands file 0 a.0.0) g.1 t.0)

pub magic_again : (magic file : List ℕ) (after : ℕ) → length magic ≡ 4 → Stands file 0 magic after → magic_at magic file ≡ Ok after
magic_again magic file after len there =
    let same : bytes_eq magic magic ≡ true = (bytes_eq-Decides magic magic).1 refl in
    rw (bytes_again file 4 0 magic after there len, same) refl

pub ends_takes : {A : Type 0} (file : List ℕ) (at : ℕ) (x y : A) → ends_at file at x ≡ Ok y → (length file ≤ at) × (x ≡ y)
ends_takes file at x y e =
    let g = guard_ok (nat_le (length file) at) (Long (length file - at)) x y e in
    (leb-true _ _ g.0, g.1)

pub ends_again : {A : Type 0} (file : List ℕ) (at : ℕ) (x : A) → at ≡ length file → ends_at file at x ≡ Ok x
ends_again file at x e = let le : leb (length file) at ≡ true = le-leb _ _ (omega (arith, e)) in rw le refl

-- ---- a byte that passes a test

pub record TakenByte {B : Type 0} (test : ℕ → Bool) (file : List ℕ) (at : ℕ) (f : ℕ × ℕ → Result B CodecFault) (y : B) : Type 0 where
  pub byte : ℕ
  pub after : ℕ
  pub there : Stands file at (byte ∷ []) after
  pub passes : test byte ≡ true
  pub rest : f (byte, after) ≡ Ok y

-- a byte that passes a test, and what is read after it
abbrev pub byte_then : {B : Type 0} → (ℕ → Bool) → List ℕ → ℕ → (ℕ × ℕ → Result B CodecFault) → Result B CodecFault
byte_then test file at f = number_at w8 file at >>= λ n. in_range (test n.0) at n >>= f

pub byte_takes : {B : Type 0} (test : ℕ → Bool) (file : List ℕ) (at : ℕ) (f : ℕ × ℕ → Result B CodecFault) (y : B) → IsBytes file → byte_then test file at f ≡ Ok y → TakenByte test file at f y
byte_takes test file at f y fits e =
    let a = bind_ok (number_at w8 file at) (λ n. in_range (test n.0) at n >>= f) y e in
    let b = bind_ok (in_range (test a.0.0) at a.0) f y a.2 in
    let g = in_range_takes (test a.0.0) at a.0 b.0 b.1 in
    let t = number_takes w8 (2 ^ 8) wide8 file at a.0 fits a.1 in
    record {
      byte = a.0.0;
      after = a.0.1;
      there = subst (λ (n : ℕ). Stands file at (n ∷ []) a.0.1) (mod-eq_of_lt t.1) t.0;
      passes = g.0;
      rest = ap f g.1 ∙ b.2;
    }

pub byte_again : {B : Type 0} (test : ℕ → Bool) (file : List ℕ) (at byte after : ℕ) (f : ℕ × ℕ → Result B CodecFault) → Stands file at (byte ∷ []) after → byte < 2 ^ 8 → test byte ≡ true → byte_then test file at f ≡ f (byte, after)
byte_again {B} test file at byte after f there lt passes =
    let text : Stands file at (to_le_bytes w8 byte) after = subst (λ (n : ℕ). Stands file at (n ∷ []) after) (sym (mod-eq_of_lt lt)) there in
    ap (λ (r : Result (ℕ × ℕ) CodecFault). r >>= λ n. in_range (test n.0) at n >>= f) (number_again w8 (2 ^ 8) wide8 file at byte after text lt)
    ∙ ap (λ (b : Bool). in_range b at (byte, after) >>= f) passes
