-- Names and forms: what is read is spelled so, and what is spelled so is read.
use Rattle.std.proofs.Common.{◌≡◌, ℕ, ◌+◌, ◌^◌, ◌<◌, ◌≤◌, Bool, true, false, ◌&&◌, not, cond, leb, eqb, List, [], ◌∷◌, length, Some, None, Result, Ok, Err, refl, sym, ap, subst, ◌∙◌, arith, lit<}
use Rattle.std.specs.Int.{w8, to_le_bytes}
use Rattle.std.proofs.Math.Nat.{mod-eq_of_lt}
use Rattle.std.proofs.lemmas.Bool.{leb-true, le-leb, eqb-true, and_parts, not-true}
use Rattle.rx_text.specs.Names.{is_name, is_letter}
use Rattle.rx_params.specs.declared.kind.Kind.{Kind}
use Rattle.rx_params.specs.declared.kind.Kind.TheVariants.{Int, Bit}
use Rattle.rx_params.specs.Kinds.{is_form}
use Rattle.rx_codec.specs.declared.fault.CodecFault.{CodecFault}
use Rattle.rx_codec.specs.Reading.{◌>>=◌, bytes_at, number_at, in_range}
use Rattle.rx_codec.specs.NamedFields.{kind_code, name_size_at, name_at, kind_of_code, known_kind, form_at}
use Rattle.rx_codec.proofs.Fields.{IsBytes, Stands, Stands-then, Stands-first, Stands-second, bind_ok, ok_is, bytes_takes, bytes_again, wide8, number_takes, number_again, in_range_takes, byte_then, byte_takes, byte_again}

-- ---- names

pub name_size : (name : List ℕ) → is_name name ≡ true → (1 ≤ length name) × (length name ≤ 32)
name_size [] e = absurd cc
name_size (c ∷ cs) e =
    let rest = and_parts (is_letter c) _ e in
    (omega arith, leb-true _ _ (and_parts _ (leb (length (c ∷ cs)) 32) rest.1).1)

abbrev is_size : ℕ → Bool
is_size n = leb 1 n && leb n 32

abbrev is_new : (List ℕ → Bool) → List ℕ → Bool
is_new is_taken name = is_name name && not (is_taken name)

abbrev after_size : (List ℕ → Bool) → List ℕ → ℕ × ℕ → Result (List ℕ × ℕ) CodecFault
after_size is_taken file size = bytes_at file size.0 size.1 >>= λ name. in_range (is_new is_taken name.0) size.1 name

bind_assoc : {A B C : Type 0} (r : Result A CodecFault) (f : A → Result B CodecFault) (g : B → Result C CodecFault) → (r >>= f >>= g) ≡ (r >>= λ x. f x >>= g)
bind_assoc (Ok x) f g = refl
bind_assoc (Err fault) f g = refl

name_at-is : (is_taken : List ℕ → Bool) (file : List ℕ) (at : ℕ) → name_at is_taken file at ≡ byte_then is_size file at (after_size is_taken file)
unfolding name_at name_size_at
name_at-is is_taken file at = bind_assoc (number_at w8 file at) (λ size. in_range (is_size size.0) at size) (after_size is_taken file)

pub record TakenName (is_taken : List ℕ → Bool) (file : List ℕ) (at : ℕ) (x : List ℕ × ℕ) : Type 0 where
  pub there : Stands file at (length x.0 ∷ x.0) x.1
  pub name : is_name x.0 ≡ true
  pub once : is_taken x.0 ≡ false

pub name_takes : (is_taken : List ℕ → Bool) (file : List ℕ) (at : ℕ) (x : List ℕ × ℕ) → IsBytes file → name_at is_taken file at ≡ Ok x → TakenName is_taken file at x
name_takes is_taken file at x fits e =
    let s = byte_takes is_size file at (after_size is_taken file) x fits (sym (name_at-is is_taken file at) ∙ e) in
    let a = bind_ok (bytes_at file s.byte s.after) (λ name. in_range (is_new is_taken name.0) s.after name) x s.rest in
    let t = bytes_takes file s.byte s.after a.0 a.1 in
    let g = in_range_takes (is_new is_taken a.0.0) s.after a.0 x a.2 in
    let tests = and_parts (is_name a.0.0) (not (is_taken a.0.0)) g.0 in
    subst (TakenName is_taken file at) g.1 (record {
      there = subst (λ (n : ℕ). Stands file at (n ∷ a.0.0) a.0.1) (sym t.1) (Stands-then file at (s.byte ∷ []) s.after a.0.0 a.0.1 s.there t.0);
      name = tests.0;
      once = not-true (is_taken a.0.0) tests.1;
    })

pub name_again : (is_taken : List ℕ → Bool) (file : List ℕ) (at : ℕ) (name : List ℕ) (after : ℕ) → is_name name ≡ true → is_taken name ≡ false → Stands file at (length name ∷ name) after → name_at is_taken file at ≡ Ok (name, after)
name_again is_taken file at name after named once there =
    let size = name_size name named in
    let low : leb 1 (length name) ≡ true = le-leb _ _ size.0 in
    let high : leb (length name) 32 ≡ true = le-leb _ _ size.1 in
    let new : is_new is_taken name ≡ true = rw (named, once) refl in
    name_at-is is_taken file at
    ∙ byte_again is_size file at (length name) (at + 1) (after_size is_taken file) (Stands-first file at (length name ∷ []) name after there) (omega (arith, size.1)) (rw (low, high) refl)
    ∙ ap (λ (r : Result (List ℕ × ℕ) CodecFault). r >>= λ text. in_range (is_new is_taken text.0) (at + 1) text)
    (bytes_again file (length name) (at + 1) name after (Stands-second file at (length name ∷ []) name after there) refl)
    ∙ ap (λ (b : Bool). in_range b (at + 1) (name, after)) new

-- ---- forms

record TakenKind (code at after : ℕ) (x : Kind × ℕ) : Type 0 where
  code-is : code ≡ kind_code x.0
  after-is : after ≡ x.1

kind_takes : (code at after : ℕ) (x : Kind × ℕ) (a b : Bool) → (a ≡ true → code ≡ 0) → (b ≡ true → code ≡ 1) → known_kind (cond a (Some Int) (cond b (Some Bit) None)) at after ≡ Ok x → TakenKind code at after x
kind_takes code at after x true b zero-is one-is e =
    let value : Kind × ℕ = (Int, after) in
    subst (TakenKind code at after) (ok_is value x e) (record { code-is = zero-is refl; after-is = refl })
kind_takes code at after x false true zero-is one-is e =
    let value : Kind × ℕ = (Bit, after) in
    subst (TakenKind code at after) (ok_is value x e) (record { code-is = one-is refl; after-is = refl })
kind_takes code at after x false false zero-is one-is e = absurd cc

kind_again : (kind : Kind) (at after : ℕ) → known_kind (kind_of_code (kind_code kind)) at after ≡ Ok (kind, after)
kind_again Int at after = refl
kind_again Bit at after = refl

code_below : (kind : Kind) → kind_code kind < 2 ^ 8
code_below Int = lit< tt
code_below Bit = lit< tt

abbrev form_of : Kind → ℕ × ℕ → Result ((Kind × ℕ) × ℕ) CodecFault
form_of kind bits = Ok ((kind, bits.0), bits.1)

abbrev after_kind : ℕ → List ℕ → Kind × ℕ → Result ((Kind × ℕ) × ℕ) CodecFault
after_kind m file kind = byte_then (is_form m kind.0) file kind.1 (form_of kind.0)

form_at-is : (m : ℕ) (file : List ℕ) (at : ℕ) → form_at m file at ≡ (number_at w8 file at >>= λ code. known_kind (kind_of_code code.0) at code.1 >>= after_kind m file)
unfolding form_at
form_at-is m file at = refl

pub record TakenForm (m : ℕ) (file : List ℕ) (at : ℕ) (x : (Kind × ℕ) × ℕ) : Type 0 where
  pub there : Stands file at (kind_code x.0.0 ∷ x.0.1 ∷ []) x.1
  pub form : is_form m x.0.0 x.0.1 ≡ true

pub form_takes : (m : ℕ) (file : List ℕ) (at : ℕ) (x : (Kind × ℕ) × ℕ) → IsBytes file → form_at m file at ≡ Ok x → TakenForm m file at x
form_takes m file at x fits e =
    let a = bind_ok (number_at w8 file at) (λ code. known_kind (kind_of_code code.0) at code.1 >>= after_kind m file) x (sym (form_at-is m file at) ∙ e) in
    let t = number_takes w8 (2 ^ 8) wide8 file at a.0 fits a.1 in
    let k = bind_ok (known_kind (kind_of_code a.0.0) at a.0.1) (after_kind m file) x a.2 in
    let kind = kind_takes a.0.0 at a.0.1 k.0 (eqb a.0.0 0) (eqb a.0.0 1) (eqb-true _ _) (eqb-true _ _) k.1 in
    let first : Stands file at (kind_code k.0.0 ∷ []) k.0.1 =
    subst (λ (after : ℕ). Stands file at (kind_code k.0.0 ∷ []) after) kind.after-is
    (subst (λ (n : ℕ). Stands file at (n ∷ []) a.0.1) (mod-eq_of_lt t.1 ∙ kind.code-is) t.0) in
    let b = byte_takes (is_form m k.0.0) file k.0.1 (form_of k.0.0) x fits k.2 in
    let value : (Kind × ℕ) × ℕ = ((k.0.0, b.byte), b.after) in
    subst (TakenForm m file at) (ok_is value x b.rest)
    (record { there = Stands-then file at (kind_code k.0.0 ∷ []) k.0.1 (b.byte ∷ []) b.after first b.there; form = b.passes })

pub form_bits : (m : ℕ) (kind : Kind) (bits : ℕ) → is_form m kind bits ≡ true → bits ≤ 64
form_bits m Int bits e = leb-true _ _ (and_parts (leb bits 64) _ (and_parts (leb m bits) _ e).1).0
form_bits m Bit bits e = let one : bits ≡ 1 = eqb-true _ _ e in omega (arith, one)

pub form_again : (m : ℕ) (file : List ℕ) (at : ℕ) (kind : Kind) (bits after : ℕ) → is_form m kind bits ≡ true → Stands file at (kind_code kind ∷ bits ∷ []) after → form_at m file at ≡ Ok ((kind, bits), after)
form_again m file at kind bits after form there =
    let first = Stands-first file at (kind_code kind ∷ []) (bits ∷ []) after there in
    let code : Stands file at (to_le_bytes w8 (kind_code kind)) (at + 1) = subst (λ (n : ℕ). Stands file at (n ∷ []) (at + 1)) (sym (mod-eq_of_lt (code_below kind))) first in
    form_at-is m file at
    ∙ ap (λ (r : Result (ℕ × ℕ) CodecFault). r >>= λ code. known_kind (kind_of_code code.0) at code.1 >>= after_kind m file)
    (number_again w8 (2 ^ 8) wide8 file at (kind_code kind) (at + 1) code (code_below kind))
    ∙ ap (λ (r : Result (Kind × ℕ) CodecFault). r >>= after_kind m file) (kind_again kind at (at + 1))
    ∙ byte_again (is_form m kind) file (at + 1) bits after (form_of kind) (Stands-second file at (kind_code kind ∷ []) (bits ∷ []) after there) (omega (arith, form_bits m kind bits form)) form
