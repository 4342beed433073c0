-- The entries of a net file: what is read is spelled so, and what is spelled so is read.
use Rattle.std.proofs.Common.{◌≡◌, ℕ, ◌+◌, ◌^◌, ◌<◌, ◌≤◌, Bool, true, false, ◌&&◌, leb, List, [], ◌∷◌, ◌++◌, length, Result, Ok, refl, sym, ap, subst, ◌∙◌, arith}
use Rattle.std.specs.Prelude.{ℤ}
use Rattle.std.specs.List.{flat_map}
use Rattle.std.specs.Int.{Width, w8, w16, w32, to_le_bytes, cast_signed, cast_unsigned}
use mir.Val.{bits}
use Rattle.std.specs.Int.RustNames.{FitsSigned}
use Rattle.std.proofs.Math.Nat.{mod-eq_of_lt}
use Rattle.std.proofs.lemmas.Bool.{leb-true, le-leb, and_parts}
use Rattle.std.proofs.lemmas.Int.{of_z-to_z, to_z-of_z}
use Rattle.std.proofs.Math.Facts.{sfits_to_z, Fits-of_z}
use Rattle.rx_laws.specs.Decode.{plaintexts}
use Rattle.rx_text.specs.Names.{is_name}
use Rattle.rx_params.specs.declared.kind.Kind.{Kind}
use Rattle.rx_params.specs.declared.kind.Kind.TheVariants.{Int, Bit}
use Rattle.rx_params.specs.Derived.{noise_limit}
use Rattle.rx_params.specs.Kinds.{greatest, block_count, is_form}
use Rattle.rx_net.specs.declared.term.Term.{Term}
use Rattle.rx_net.specs.declared.net.Job.{Job}
use Rattle.rx_net.specs.declared.net.NetInput.{NetInput}
use Rattle.rx_net.specs.declared.net.NetOutput.{NetOutput}
use Rattle.rx_net.specs.Legal.{InTurn, names_input, names_output}
use Rattle.rx_codec.specs.declared.fault.CodecFault.{CodecFault}
use Rattle.rx_codec.specs.Reading.{◌>>=◌, bytes_at, number_at, signed_at, signed_bytes, many_at, list_at}
use Rattle.rx_codec.specs.NamedFields.{kind_code, named_bytes, name_at, form_at}
use Rattle.rx_codec.specs.NetFile.{input_bytes, term_bytes, job_bytes, output_bytes, input_at, term_at, job_at, output_at}
use Rattle.rx_codec.proofs.Fields.{IsBytes, IsBytes-within, Stands, Stands-then, Stands-first, Stands-second, bind_ok, ok_is, bytes_takes, bytes_again, IsWide, wide8, wide16, wide32, number_takes, number_again, byte_then, byte_takes, byte_again}
use Rattle.rx_codec.proofs.NamesAndForms.{name_takes, name_again, form_takes, form_again}
use Rattle.rx_codec.proofs.Manys.{Tells, many_takes, many_again, IsFourBytes, four_bytes_tells, list_takes, list_again}

-- ---- numbers of either sign

signed_takes : (w : Width) (wide : IsWide w (2 ^ bits w)) (file : List ℕ) (at : ℕ) (x : ℤ × ℕ) → IsBytes file → signed_at w file at ≡ Ok x → Stands file at (signed_bytes w x.0) x.1 × FitsSigned w x.0
signed_takes w wide file at x fits e =
    let a = bind_ok (number_at w file at) (λ n. Ok (cast_signed w n.0, n.1)) x e in
    let t = number_takes w (2 ^ bits w) wide file at a.0 fits a.1 in
    let value : ℤ × ℕ = (cast_signed w a.0.0, a.0.1) in
    subst (λ (y : ℤ × ℕ). Stands file at (signed_bytes w y.0) y.1 × FitsSigned w y.0) (ok_is value x a.2)
    (subst (λ (n : ℕ). Stands file at (to_le_bytes w n) a.0.1) (sym (of_z-to_z w a.0.0 t.1)) t.0, sfits_to_z (record { fits = t.1 }))

signed_again : (w : Width) (wide : IsWide w (2 ^ bits w)) (file : List ℕ) (at : ℕ) (z : ℤ) (after : ℕ) → FitsSigned w z → Stands file at (signed_bytes w z) after → signed_at w file at ≡ Ok (z, after)
signed_again w wide file at z after fits there =
    let below = Fits-of_z fits in
    rw (number_again w (2 ^ bits w) wide file at (cast_unsigned w z) after there below.fits, to_z-of_z w z fits) refl

-- ---- terms

pub record TermFits (t : Term) : Type 0 where
  pub cell : t.cell < 2 ^ 32
  pub weight : FitsSigned w8 t.weight

abbrev pub IsTerm : List Term → Term → Type 0
IsTerm before t = TermFits t

abbrev term_of : ℕ → ℤ × ℕ → Result (Term × ℕ) CodecFault
term_of cell weight = Ok (record { cell = cell; weight = weight.0 }, weight.1)

term_takes : (file : List ℕ) (at : ℕ) (x : Term × ℕ) → IsBytes file → term_at file at ≡ Ok x → Stands file at (term_bytes x.0) x.1 × TermFits x.0
unfolding term_at
term_takes file at x fits e =
    let c = bind_ok (number_at w32 file at) (λ c. signed_at w8 file c.1 >>= term_of c.0) x e in
    let w = bind_ok (signed_at w8 file c.0.1) (term_of c.0.0) x c.2 in
    let t0 = number_takes w32 (2 ^ 32) wide32 file at c.0 fits c.1 in
    let t1 = signed_takes w8 wide8 file c.0.1 w.0 fits w.1 in
    let term : Term = record { cell = c.0.0; weight = w.0.0 } in
    let value : Term × ℕ = (term, w.0.1) in
    subst (λ (y : Term × ℕ). Stands file at (term_bytes y.0) y.1 × TermFits y.0) (ok_is value x w.2)
    (Stands-then file at (to_le_bytes w32 c.0.0) c.0.1 (signed_bytes w8 w.0.0) w.0.1 t0.0 t1.0, record { cell = t0.1; weight = t1.1 })

term_again : (file : List ℕ) (at : ℕ) (t : Term) (after : ℕ) → TermFits t → Stands file at (term_bytes t) after → term_at file at ≡ Ok (t, after)
unfolding term_at
term_again file at t after h there =
    let cell = to_le_bytes w32 t.cell in
    let first = Stands-first file at cell (signed_bytes w8 t.weight) after there in
    let second = Stands-second file at cell (signed_bytes w8 t.weight) after there in
    ap (λ (r : Result (ℕ × ℕ) CodecFault). r >>= λ c. signed_at w8 file c.1 >>= term_of c.0) (number_again w32 (2 ^ 32) wide32 file at t.cell (at + length cell) first h.cell)
    ∙ ap (λ (r : Result (ℤ × ℕ) CodecFault). r >>= term_of t.cell) (signed_again w8 wide8 file (at + length cell) t.weight after h.weight second)

pub term_tells : Tells (λ before. term_at) term_bytes IsTerm
term_tells = record { takes = λ before. term_takes; again = λ before. term_again }

-- ---- jobs

pub record JobSpells (space : ℕ) (j : Job) : Type 0 where
  pub few : length j.terms ≤ 16
  pub terms : InTurn IsTerm [] j.terms
  pub constant : FitsSigned w16 j.constant
  pub table_count : length j.table ≡ plaintexts space
  pub table : IsBytes j.table
  pub degree : j.degree < 2 ^ 8

abbrev pub IsSpelledJob : ℕ → List Job → Job → Type 0
IsSpelledJob space before j = JobSpells space j

abbrev job_of : List Term → ℤ → List ℕ → ℕ × ℕ → Result (Job × ℕ) CodecFault
job_of terms constant table degree = Ok (record { terms = terms; constant = constant; table = table; degree = degree.0 }, degree.1)

abbrev after_table : List Term → ℤ → List ℕ → List ℕ × ℕ → Result (Job × ℕ) CodecFault
after_table terms constant file table = number_at w8 file table.1 >>= job_of terms constant table.0

abbrev after_constant : ℕ → List Term → List ℕ → ℤ × ℕ → Result (Job × ℕ) CodecFault
after_constant space terms file constant = bytes_at file (plaintexts space) constant.1 >>= after_table terms constant.0 file

abbrev after_terms : ℕ → List ℕ → List Term × ℕ → Result (Job × ℕ) CodecFault
after_terms space file terms = signed_at w16 file terms.1 >>= after_constant space terms.0 file

pub byte_bytes : (n : ℕ) → n < 2 ^ 8 → to_le_bytes w8 n ≡ n ∷ []
byte_bytes n lt = ap (λ (m : ℕ). m ∷ []) (mod-eq_of_lt lt)

-- the number of terms is one byte
terms_bytes : (j : Job) → length j.terms ≤ 16 → to_le_bytes w8 (length j.terms) ++ flat_map term_bytes j.terms ≡ length j.terms ∷ flat_map term_bytes j.terms
terms_bytes j few = ap (λ (t : List ℕ). t ++ flat_map term_bytes j.terms) (byte_bytes (length j.terms) (omega (arith, few)))

job_takes : (space : ℕ) (file : List ℕ) (at : ℕ) (x : Job × ℕ) → IsBytes file → job_at space file at ≡ Ok x → Stands file at (job_bytes x.0) x.1 × JobSpells space x.0
unfolding job_at
job_takes space file at x fits e =
    let a = bind_ok (list_at w8 16 (λ before. term_at) file at) (after_terms space file) x e in
    let c = bind_ok (signed_at w16 file a.0.1) (after_constant space a.0.0 file) x a.2 in
    let t = bind_ok (bytes_at file (plaintexts space) c.0.1) (after_table a.0.0 c.0.0 file) x c.2 in
    let d = bind_ok (number_at w8 file t.0.1) (job_of a.0.0 c.0.0 t.0.0) x t.2 in
    let terms = list_takes w8 (2 ^ 8) 16 wide8 (λ before. term_at) term_bytes IsTerm term_tells file at a.0 fits a.1 in
    let constant = signed_takes w16 wide16 file a.0.1 c.0 fits c.1 in
    let table = bytes_takes file (plaintexts space) c.0.1 t.0 t.1 in
    let degree = number_takes w8 (2 ^ 8) wide8 file t.0.1 d.0 fits d.1 in
    let job : Job = record { terms = a.0.0; constant = c.0.0; table = t.0.0; degree = d.0.0 } in
    let value : Job × ℕ = (job, d.0.1) in
    let last : Stands file t.0.1 (d.0.0 ∷ []) d.0.1 = subst (λ (b : List ℕ). Stands file t.0.1 b d.0.1) (byte_bytes d.0.0 degree.1) degree.0 in
    let head = length a.0.0 ∷ flat_map term_bytes a.0.0 in
    let e1 : Stands file at head a.0.1 = subst (λ (b : List ℕ). Stands file at b a.0.1) (terms_bytes job terms.few) terms.there in
    let e2 = Stands-then file at head a.0.1 (signed_bytes w16 c.0.0) c.0.1 e1 constant.0 in
    let e3 = Stands-then file at (head ++ signed_bytes w16 c.0.0) c.0.1 t.0.0 t.0.1 e2 table.0 in
    subst (λ (y : Job × ℕ). Stands file at (job_bytes y.0) y.1 × JobSpells space y.0) (ok_is value x d.2) (
      Stands-then file at (head ++ signed_bytes w16 c.0.0 ++ t.0.0) t.0.1 (d.0.0 ∷ []) d.0.1 e3 last,
      record { few = terms.few; terms = terms.fits; constant = constant.1; table_count = table.1; table = IsBytes-within file c.0.1 t.0.0 t.0.1 fits table.0; degree = degree.1 },
    )

job_again : (space : ℕ) (file : List ℕ) (at : ℕ) (j : Job) (after : ℕ) → JobSpells space j → Stands file at (job_bytes j) after → job_at space file at ≡ Ok (j, after)
unfolding job_at
job_again space file at j after h there =
    let head = length j.terms ∷ flat_map term_bytes j.terms in
    let constant = signed_bytes w16 j.constant in
    let a1 = at + length head in
    let a2 = at + length (head ++ constant) in
    let a3 = at + length (head ++ constant ++ j.table) in
    let first3 = Stands-first file at (head ++ constant ++ j.table) (j.degree ∷ []) after there in
    let s3 = Stands-second file at (head ++ constant ++ j.table) (j.degree ∷ []) after there in
    let first2 = Stands-first file at (head ++ constant) j.table a3 first3 in
    let p3 = Stands-second file at (head ++ constant) j.table a3 first3 in
    let p1 = Stands-first file at head constant a2 first2 in
    let p2 = Stands-second file at head constant a2 first2 in
    let terms = subst (λ (b : List ℕ). Stands file at b a1) (sym (terms_bytes j h.few)) p1 in
    let degree = subst (λ (b : List ℕ). Stands file a3 b after) (sym (byte_bytes j.degree h.degree)) s3 in
    ap (λ (r : Result (List Term × ℕ) CodecFault). r >>= after_terms space file)
    (list_again w8 (2 ^ 8) 16 wide8 (λ before. term_at) term_bytes IsTerm term_tells file at j.terms a1 (omega arith) h.few h.terms terms)
    ∙ ap (λ (r : Result (ℤ × ℕ) CodecFault). r >>= after_constant space j.terms file) (signed_again w16 wide16 file a1 j.constant a2 h.constant p2)
    ∙ ap (λ (r : Result (List ℕ × ℕ) CodecFault). r >>= after_table j.terms j.constant file) (bytes_again file (plaintexts space) a2 j.table a3 p3 h.table_count)
    ∙ ap (λ (r : Result (ℕ × ℕ) CodecFault). r >>= job_of j.terms j.constant j.table) (number_again w8 (2 ^ 8) wide8 file a3 j.degree after degree h.degree)

pub job_tells : (space : ℕ) → Tells (λ before. job_at space) job_bytes (IsSpelledJob space)
job_tells space = record { takes = λ before. job_takes space; again = λ before. job_again space }

-- ---- inputs

-- whether one of these inputs has a name
abbrev pub has_input : List NetInput → List ℕ → Bool
has_input inputs name = names_input name inputs

pub record InputFits (space : ℕ) (before : List NetInput) (i : NetInput) : Type 0 where
  pub name : is_name i.name ≡ true
  pub once : has_input before i.name ≡ false
  pub form : is_form space i.kind i.bits ≡ true
  pub degree : i.degree ≤ greatest i.kind space
  pub noise_low : 1 ≤ i.noise
  pub noise_high : i.noise ≤ noise_limit space

abbrev is_degree : ℕ → Kind → ℕ → Bool
is_degree space kind n = leb n (greatest kind space)

abbrev is_noise : ℕ → ℕ → Bool
is_noise space n = leb 1 n && leb n (noise_limit space)

abbrev input_of : List ℕ → Kind × ℕ → ℕ → ℕ × ℕ → Result (NetInput × ℕ) CodecFault
input_of name form degree noise = Ok (record { name = name; kind = form.0; bits = form.1; degree = degree; noise = noise.0 }, noise.1)

abbrev input_after_degree : ℕ → List ℕ → List ℕ → Kind × ℕ → ℕ × ℕ → Result (NetInput × ℕ) CodecFault
input_after_degree space file name form degree = byte_then (is_noise space) file degree.1 (input_of name form degree.0)

abbrev input_after_form : ℕ → List ℕ → List ℕ → (Kind × ℕ) × ℕ → Result (NetInput × ℕ) CodecFault
input_after_form space file name form = byte_then (is_degree space form.0.0) file form.1 (input_after_degree space file name form.0)

abbrev input_after_name : ℕ → List ℕ → List ℕ × ℕ → Result (NetInput × ℕ) CodecFault
input_after_name space file name = form_at space file name.1 >>= input_after_form space file name.0

input_at-is : (space : ℕ) (before : List NetInput) (file : List ℕ) (at : ℕ) → input_at space before file at ≡ (name_at (has_input before) file at >>= input_after_name space file)
unfolding input_at
input_at-is space before file at = refl

input_takes : (space : ℕ) (before : List NetInput) (file : List ℕ) (at : ℕ) (x : NetInput × ℕ) → IsBytes file → input_at space before file at ≡ Ok x → Stands file at (input_bytes x.0) x.1 × InputFits space before x.0
input_takes space before file at x fits e =
    let a = bind_ok (name_at (has_input before) file at) (input_after_name space file) x (sym (input_at-is space before file at) ∙ e) in
    let name = a.0.0 in
    let t0 = name_takes (has_input before) file at a.0 fits a.1 in
    let b = bind_ok (form_at space file a.0.1) (input_after_form space file name) x a.2 in
    let form = b.0.0 in
    let t1 = form_takes space file a.0.1 b.0 fits b.1 in
    let d = byte_takes (is_degree space form.0) file b.0.1 (input_after_degree space file name form) x fits b.2 in
    let n = byte_takes (is_noise space) file d.after (input_of name form d.byte) x fits d.rest in
    let noise = and_parts (leb 1 n.byte) (leb n.byte (noise_limit space)) n.passes in
    let input : NetInput = record { name = name; kind = form.0; bits = form.1; degree = d.byte; noise = n.byte } in
    let value : NetInput × ℕ = (input, n.after) in
    let named = Stands-then file at (length name ∷ name) a.0.1 (kind_code form.0 ∷ form.1 ∷ []) b.0.1 t0.there t1.there in
    let tags = Stands-then file b.0.1 (d.byte ∷ []) d.after (n.byte ∷ []) n.after d.there n.there in
    subst (λ (y : NetInput × ℕ). Stands file at (input_bytes y.0) y.1 × InputFits space before y.0) (ok_is value x n.rest) (
      Stands-then file at (named_bytes name form.0 form.1) b.0.1 (d.byte ∷ n.byte ∷ []) n.after named tags,
      record { name = t0.name; once = t0.once; form = t1.form; degree = leb-true _ _ d.passes; noise_low = leb-true _ _ noise.0; noise_high = leb-true _ _ noise.1 },
    )

-- a space and its limits fit a byte
pub record IsSpace (space : ℕ) : Type 0 where
  pub byte : space < 2 ^ 8
  pub power : 2 ^ space ≤ 8
  pub table : plaintexts space ≤ 64

degree_below : (space : ℕ) (kind : Kind) → IsSpace space → greatest kind space < 2 ^ 8
degree_below space Int h = omega (arith, h.power)
degree_below space Bit h = omega arith

input_again : (space : ℕ) → IsSpace space → (before : List NetInput) (file : List ℕ) (at : ℕ) (i : NetInput) (after : ℕ) → InputFits space before i → Stands file at (input_bytes i) after → input_at space before file at ≡ Ok (i, after)
input_again space small before file at i after h there =
    let head = length i.name ∷ i.name in
    let code = kind_code i.kind ∷ i.bits ∷ [] in
    let tags = i.degree ∷ i.noise ∷ [] in
    let a1 = at + length head in
    let a2 = at + length (head ++ code) in
    let named : Stands file at (head ++ code) a2 = Stands-first file at (head ++ code) tags after there in
    let s2 = Stands-second file at (head ++ code) tags after there in
    let p1 = Stands-first file at head code a2 named in
    let p2 = Stands-second file at head code a2 named in
    let p3 = Stands-first file a2 (i.degree ∷ []) (i.noise ∷ []) after s2 in
    let s3 = Stands-second file a2 (i.degree ∷ []) (i.noise ∷ []) after s2 in
    let low : leb 1 i.noise ≡ true = le-leb _ _ h.noise_low in
    let high : leb i.noise (noise_limit space) ≡ true = le-leb _ _ h.noise_high in
    input_at-is space before file at
    ∙ ap (λ (r : Result (List ℕ × ℕ) CodecFault). r >>= input_after_name space file) (name_again (has_input before) file at i.name a1 h.name h.once p1)
    ∙ ap (λ (r : Result ((Kind × ℕ) × ℕ) CodecFault). r >>= input_after_form space file i.name) (form_again space file a1 i.kind i.bits a2 h.form p2)
    ∙ byte_again (is_degree space i.kind) file a2 i.degree (a2 + 1) (input_after_degree space file i.name (i.kind, i.bits)) p3 (omega (arith, h.degree, degree_below space i.kind small)) (le-leb _ _ h.degree)
    ∙ byte_again (is_noise space) file (a2 + 1) i.noise after (input_of i.name (i.kind, i.bits) i.degree) s3 (omega (arith, h.noise_high, small.power)) (rw (low, high) refl)

pub input_tells : (space : ℕ) → IsSpace space → Tells (input_at space) input_bytes (InputFits space)
input_tells space small = record { takes = input_takes space; again = input_again space small }

-- ---- outputs

-- whether one of these outputs has a name
abbrev pub has_output : List NetOutput → List ℕ → Bool
has_output outputs name = names_output name outputs

pub record OutputFits (space : ℕ) (before : List NetOutput) (o : NetOutput) : Type 0 where
  pub name : is_name o.name ≡ true
  pub once : has_output before o.name ≡ false
  pub form : is_form space o.kind o.bits ≡ true
  pub count : length o.cells ≡ block_count o.kind space o.bits
  pub cells : InTurn IsFourBytes [] o.cells

abbrev output_of : List ℕ → Kind × ℕ → List ℕ × ℕ → Result (NetOutput × ℕ) CodecFault
output_of name form cells = Ok (record { name = name; kind = form.0; bits = form.1; cells = cells.0 }, cells.1)

abbrev output_after_form : ℕ → List ℕ → List ℕ → (Kind × ℕ) × ℕ → Result (NetOutput × ℕ) CodecFault
output_after_form space file name form = many_at (λ before. number_at w32) (block_count form.0.0 space form.0.1) [] file form.1 >>= output_of name form.0

abbrev output_after_name : ℕ → List ℕ → List ℕ × ℕ → Result (NetOutput × ℕ) CodecFault
output_after_name space file name = form_at space file name.1 >>= output_after_form space file name.0

output_at-is : (space : ℕ) (before : List NetOutput) (file : List ℕ) (at : ℕ) → output_at space before file at ≡ (name_at (has_output before) file at >>= output_after_name space file)
unfolding output_at
output_at-is space before file at = refl

output_takes : (space : ℕ) (before : List NetOutput) (file : List ℕ) (at : ℕ) (x : NetOutput × ℕ) → IsBytes file → output_at space before file at ≡ Ok x → Stands file at (output_bytes x.0) x.1 × OutputFits space before x.0
output_takes space before file at x fits e =
    let a = bind_ok (name_at (has_output before) file at) (output_after_name space file) x (sym (output_at-is space before file at) ∙ e) in
    let name = a.0.0 in
    let t0 = name_takes (has_output before) file at a.0 fits a.1 in
    let b = bind_ok (form_at space file a.0.1) (output_after_form space file name) x a.2 in
    let form = b.0.0 in
    let t1 = form_takes space file a.0.1 b.0 fits b.1 in
    let count = block_count form.0 space form.1 in
    let c = bind_ok (many_at (λ before. number_at w32) count [] file b.0.1) (output_of name form) x b.2 in
    let t2 = many_takes (λ before. number_at w32) (to_le_bytes w32) IsFourBytes four_bytes_tells count [] file b.0.1 c.0 fits t1.there.within c.1 in
    let cells-are : t2.more ≡ c.0.0 = sym t2.value in
    let cells : Stands file b.0.1 (flat_map (to_le_bytes w32) c.0.0) c.0.1 = subst (λ (cs : List ℕ). Stands file b.0.1 (flat_map (to_le_bytes w32) cs) c.0.1) cells-are t2.there in
    let output : NetOutput = record { name = name; kind = form.0; bits = form.1; cells = c.0.0 } in
    let value : NetOutput × ℕ = (output, c.0.1) in
    let named = Stands-then file at (length name ∷ name) a.0.1 (kind_code form.0 ∷ form.1 ∷ []) b.0.1 t0.there t1.there in
    subst (λ (y : NetOutput × ℕ). Stands file at (output_bytes y.0) y.1 × OutputFits space before y.0) (ok_is value x c.2) (
      Stands-then file at (named_bytes name form.0 form.1) b.0.1 (flat_map (to_le_bytes w32) c.0.0) c.0.1 named cells,
      record {
        name = t0.name;
        once = t0.once;
        form = t1.form;
        count = subst (λ (cs : List ℕ). length cs ≡ count) cells-are t2.count-is;
        cells = subst (InTurn IsFourBytes []) cells-are t2.fits;
      },
    )

output_again : (space : ℕ) (before : List NetOutput) (file : List ℕ) (at : ℕ) (o : NetOutput) (after : ℕ) → OutputFits space before o → Stands file at (output_bytes o) after → output_at space before file at ≡ Ok (o, after)
output_again space before file at o after h there =
    let head = length o.name ∷ o.name in
    let code = kind_code o.kind ∷ o.bits ∷ [] in
    let cells = flat_map (to_le_bytes w32) o.cells in
    let a1 = at + length head in
    let a2 = at + length (head ++ code) in
    let named : Stands file at (head ++ code) a2 = Stands-first file at (head ++ code) cells after there in
    let s2 = Stands-second file at (head ++ code) cells after there in
    let p1 = Stands-first file at head code a2 named in
    let p2 = Stands-second file at head code a2 named in
    let read = many_again (λ before. number_at w32) (to_le_bytes w32) IsFourBytes four_bytes_tells o.cells [] file a2 after h.cells s2 in
    output_at-is space before file at
    ∙ ap (λ (r : Result (List ℕ × ℕ) CodecFault). r >>= output_after_name space file) (name_again (has_output before) file at o.name a1 h.name h.once p1)
    ∙ ap (λ (r : Result ((Kind × ℕ) × ℕ) CodecFault). r >>= output_after_form space file o.name) (form_again space file a1 o.kind o.bits a2 h.form p2)
    ∙ ap (λ (r : Result (List ℕ × ℕ) CodecFault). r >>= output_of o.name (o.kind, o.bits))
    (ap (λ (n : ℕ). many_at (λ before. number_at w32) n [] file a2) (sym h.count) ∙ read)

pub output_tells : (space : ℕ) → Tells (output_at space) output_bytes (OutputFits space)
output_tells space = record { takes = output_takes space; again = output_again space }
