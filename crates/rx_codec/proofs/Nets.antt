-- The net file: what is read is spelled so, and what is spelled so is read.
use Rattle.std.proofs.Common.{◌≡◌, ℕ, zero, suc, ◌+◌, ◌^◌, ◌<◌, ◌≤◌, ◌⊎◌, inl, inr, Bool, true, ◌||◌, ◌&&◌, not, leb, ltb, eqb, List, [], ◌∷◌, ◌++◌, length, Option, Some, None, Result, Ok, Err, refl, sym, ap, subst, ◌∙◌, arith}
use Rattle.std.specs.Prelude.{IfOk, IsTrue, codes}
use Rattle.std.specs.List.{AllByRecursion}
use Rattle.std.specs.Int.{w8, w16, w32}
use Rattle.std.specs.Int.RustNames.{FitsSigned}
use Rattle.std.proofs.lemmas.Bool.{leb-true, ltb-true, eqb-true, and_parts, not-true}
use Rattle.rx_text.specs.Names.{is_name}
use Rattle.rx_params.specs.Derived.{noise_limit}
use Rattle.rx_params.specs.Kinds.{greatest, block_count, is_form}
use Rattle.rx_params.proofs.Refusals.{two_or_three, two_or_three-is}
use Rattle.rx_net.specs.declared.term.Term.{Term}
use Rattle.rx_net.specs.declared.net.Job.{Job}
use Rattle.rx_net.specs.declared.net.NetInput.{NetInput}
use Rattle.rx_net.specs.declared.net.NetOutput.{NetOutput}
use Rattle.rx_net.specs.declared.net.Net.{Net}
use Rattle.rx_net.specs.declared.fault.NetFault.{NetFault}
use Rattle.rx_net.specs.Legal.{InTurn, IsJob, has_input_tags, names_input, names_output, are_cells, is_input, is_output, Legal}
use Rattle.rx_net.specs.Cells.{cell_count, degree}
use Rattle.rx_net.specs.Named.{IsNet}
use Rattle.rx_net.specs.Faults.{fault_of}
use Rattle.rx_net.specs.Narrow.{IsNarrow}
use Rattle.rx_net.specs.Laws.{NetLaws}
use Rattle.rx_codec.specs.declared.fault.CodecFault.{CodecFault}
use Rattle.rx_codec.specs.Reading.{◌>>=◌, Gives, number_at, in_range, list_bytes, list_at, magic_at, ends_at}
use Rattle.rx_codec.specs.NetFile.{input_bytes, job_bytes, output_bytes, lists_bytes, net_bytes, NetFile, input_at, job_at, output_at, space_at, lists_at, spelled_from, legal_or, net_from}
use Rattle.rx_codec.proofs.Fields.{IsBytes, Stands, Stands-then, Stands-first, Stands-second, Stands-whole, whole-Stands, bind_ok, ok_is, wide8, wide16, wide32, number_takes, number_again, in_range_takes, magic_takes, magic_again, ends_takes, ends_again}
use Rattle.rx_codec.proofs.NamesAndForms.{form_bits}
use Rattle.rx_codec.proofs.Manys.{each_of_turn, list_takes, list_again, IsFourBytes}
use Rattle.rx_codec.proofs.NetFields.{byte_bytes, IsSpace, IsTerm, IsSpelledJob, InputFits, OutputFits, input_tells, job_tells, output_tells}

-- ---- a space of 2 or 3

space_small : (space : ℕ) → (space ≡ 2) ⊎ (space ≡ 3) → IsSpace space
space_small space (inl e) = subst IsSpace (sym e) (record { byte = omega arith; power = omega arith; table = omega arith })
space_small space (inr e) = subst IsSpace (sym e) (record { byte = omega arith; power = omega arith; table = omega arith })

abbrev is_space : ℕ → Bool
is_space n = eqb n 2 || eqb n 3

-- ---- what is read

record TakenLists (space : ℕ) (file : List ℕ) (at : ℕ) (x : Net × ℕ) : Type 0 where
  there : Stands file at (lists_bytes x.0) x.1
  space-is : x.0.space ≡ space
  inputs : InTurn (InputFits space) [] x.0.inputs
  outputs : InTurn (OutputFits space) [] x.0.outputs

abbrev net_of : ℕ → List NetInput → List Job → List NetOutput × ℕ → Result (Net × ℕ) CodecFault
net_of space inputs jobs outputs = Ok (record { space = space; inputs = inputs; jobs = jobs; outputs = outputs.0 }, outputs.1)

abbrev after_jobs : ℕ → List NetInput → List ℕ → List Job × ℕ → Result (Net × ℕ) CodecFault
after_jobs space inputs file jobs = list_at w16 64 (output_at space) file jobs.1 >>= net_of space inputs jobs.0

abbrev after_inputs : ℕ → List ℕ → List NetInput × ℕ → Result (Net × ℕ) CodecFault
after_inputs space file inputs = list_at w32 (2 ^ 16) (λ before. job_at space) file inputs.1 >>= after_jobs space inputs.0 file

lists_take : (space : ℕ) → IsSpace space → (file : List ℕ) (at : ℕ) (x : Net × ℕ) → IsBytes file → lists_at space file at ≡ Ok x → TakenLists space file at x
unfolding lists_at
lists_take space small file at x fits e =
    let a = bind_ok (list_at w16 64 (input_at space) file at) (after_inputs space file) x e in
    let b = bind_ok (list_at w32 (2 ^ 16) (λ before. job_at space) file a.0.1) (after_jobs space a.0.0 file) x a.2 in
    let c = bind_ok (list_at w16 64 (output_at space) file b.0.1) (net_of space a.0.0 b.0.0) x b.2 in
    let inputs = list_takes w16 (2 ^ 16) 64 wide16 (input_at space) input_bytes (InputFits space) (input_tells space small) file at a.0 fits a.1 in
    let jobs = list_takes w32 (2 ^ 32) (2 ^ 16) wide32 (λ before. job_at space) job_bytes (IsSpelledJob space) (job_tells space) file a.0.1 b.0 fits b.1 in
    let outputs = list_takes w16 (2 ^ 16) 64 wide16 (output_at space) output_bytes (OutputFits space) (output_tells space) file b.0.1 c.0 fits c.1 in
    let e2 = Stands-then file at (list_bytes w16 input_bytes a.0.0) a.0.1 (list_bytes w32 job_bytes b.0.0) b.0.1 inputs.there jobs.there in
    let e3 = Stands-then file at (list_bytes w16 input_bytes a.0.0 ++ list_bytes w32 job_bytes b.0.0) b.0.1 (list_bytes w16 output_bytes c.0.0) c.0.1 e2 outputs.there in
    let net : Net = record { space = space; inputs = a.0.0; jobs = b.0.0; outputs = c.0.0 } in
    let value : Net × ℕ = (net, c.0.1) in
    subst (TakenLists space file at) (ok_is value x c.2) (record { there = e3; space-is = refl; inputs = inputs.fits; outputs = outputs.fits })

record TakenNet (file : List ℕ) (n : Net) : Type 0 where
  spelled : file ≡ net_bytes n
  inputs : InTurn (InputFits n.space) [] n.inputs
  outputs : InTurn (OutputFits n.space) [] n.outputs

-- a space that is read is a byte, 2 or 3
space_takes : (file : List ℕ) (at : ℕ) (x : ℕ × ℕ) → IsBytes file → space_at file at ≡ Ok x → Stands file at (x.0 ∷ []) x.1 × ((x.0 ≡ 2) ⊎ (x.0 ≡ 3))
unfolding space_at
space_takes file at x fits e =
    let a = bind_ok (number_at w8 file at) (λ n. in_range (is_space n.0) at n) x e in
    let g = in_range_takes (is_space a.0.0) at a.0 x a.2 in
    let t = number_takes w8 (2 ^ 8) wide8 file at a.0 fits a.1 in
    subst (λ (y : ℕ × ℕ). Stands file at (y.0 ∷ []) y.1 × ((y.0 ≡ 2) ⊎ (y.0 ≡ 3))) g.1
    (subst (λ (text : List ℕ). Stands file at text a.0.1) (byte_bytes a.0.0 t.1) t.0, two_or_three-is a.0.0 g.0)

space_again : (file : List ℕ) (at space after : ℕ) → (space ≡ 2) ⊎ (space ≡ 3) → Stands file at (space ∷ []) after → space_at file at ≡ Ok (space, after)
unfolding space_at
space_again file at space after h there =
    let small = (space_small space h).byte in
    let value : ℕ × ℕ = (space, after) in
    ap (λ (r : Result (ℕ × ℕ) CodecFault). r >>= λ n. in_range (is_space n.0) at n)
    (number_again w8 (2 ^ 8) wide8 file at space after (subst (λ (text : List ℕ). Stands file at text after) (sym (byte_bytes space small)) there) small)
    ∙ ap (λ (b : Bool). in_range b at value) (two_or_three space h)

spelled_takes : (file : List ℕ) (n : Net) → IsBytes file → spelled_from file ≡ Ok n → TakenNet file n
unfolding spelled_from
spelled_takes file n fits e =
    let magic = bind_ok (magic_at (codes "RXN1") file) (λ after. space_at file after >>= λ space. lists_at space.0 file space.1 >>= λ net. ends_at file net.1 net.0) n e in
    let space = bind_ok (space_at file magic.0) (λ space. lists_at space.0 file space.1 >>= λ net. ends_at file net.1 net.0) n magic.2 in
    let net = bind_ok (lists_at space.0.0 file space.0.1) (λ net. ends_at file net.1 net.0) n space.2 in
    let end = ends_takes file net.0.1 net.0.0 n net.2 in
    let t0 = magic_takes (codes "RXN1") file magic.0 magic.1 in
    let t1 = space_takes file magic.0 space.0 fits space.1 in
    let t2 = lists_take space.0.0 (space_small space.0.0 t1.1) file space.0.1 net.0 fits net.1 in
    let head = Stands-then file 0 (codes "RXN1") magic.0 (space.0.0 ∷ []) space.0.1 t0 t1.0 in
    let whole = Stands-then file 0 (codes "RXN1" ++ space.0.0 ∷ []) space.0.1 (lists_bytes net.0.0) net.0.1 head t2.there in
    let text : file ≡ (codes "RXN1" ++ space.0.0 ∷ []) ++ lists_bytes net.0.0 = whole-Stands file ((codes "RXN1" ++ space.0.0 ∷ []) ++ lists_bytes net.0.0) net.0.1 whole end.0 in
    subst (TakenNet file) end.1 (record {
      spelled = text ∙ ap (λ (s : ℕ). (codes "RXN1" ++ s ∷ []) ++ lists_bytes net.0.0) (sym t2.space-is);
      inputs = subst (λ (s : ℕ). InTurn (InputFits s) [] net.0.0.inputs) (sym t2.space-is) t2.inputs;
      outputs = subst (λ (s : ℕ). InTurn (OutputFits s) [] net.0.0.outputs) (sym t2.space-is) t2.outputs;
    })

-- a legal net that is read is one that the file spells
pub spelled_legal : (file : List ℕ) (n : Net) → IsBytes file → spelled_from file ≡ Ok n → Legal n → NetFile file n
spelled_legal file n fits e legal =
    let t = spelled_takes file n fits e in
    record {
      fits = record {
        legal = legal;
        input_names = each_of_turn (InputFits n.space) (λ (i : NetInput). IsTrue (is_name i.name)) (λ before i h. h.name) [] n.inputs t.inputs;
        output_names = each_of_turn (OutputFits n.space) (λ (o : NetOutput). IsTrue (is_name o.name)) (λ before o h. h.name) [] n.outputs t.outputs;
      };
      spelled = t.spelled;
    }

legal_takes : (fault : Option NetFault) (m n : Net) → legal_or fault m ≡ Ok n → (fault ≡ None) × (m ≡ n)
legal_takes None m n e = (refl, ok_is m n e)
legal_takes (Some fault) m n e = absurd cc

-- what is read is a net file
pub net_spelled : NetLaws → (file : List ℕ) (n : Net) → IsBytes file → net_from file ≡ Ok n → NetFile file n
unfolding net_from
net_spelled laws file n fits e =
    let a = bind_ok (spelled_from file) (λ net. legal_or (fault_of net) net) n e in
    let t = legal_takes (fault_of a.0) a.0 n a.2 in
    subst (NetFile file) t.1 (spelled_legal file a.0 fits a.1 ((laws.lawful a.0).0 t.0))

-- ---- what is spelled

inputs_fit : (space : ℕ) (before is : List NetInput) → InTurn (λ before i. IsTrue (is_input space before i)) before is → AllByRecursion (λ (i : NetInput). IsTrue (is_name i.name)) is → InTurn (InputFits space) before is
inputs_fit space before [] h names = tt
inputs_fit space before (i ∷ is) h names =
    let a = and_parts (is_form space i.kind i.bits) (has_input_tags space i && not (names_input i.name before)) h.0 in
    let b = and_parts (has_input_tags space i) (not (names_input i.name before)) a.1 in
    let d = and_parts (leb i.degree (greatest i.kind space)) (leb 1 i.noise && leb i.noise (noise_limit space)) b.0 in
    let noise = and_parts (leb 1 i.noise) (leb i.noise (noise_limit space)) d.1 in (
      record {
        name = names.0;
        once = not-true (names_input i.name before) b.1;
        form = a.0;
        degree = leb-true _ _ d.0;
        noise_low = leb-true _ _ noise.0;
        noise_high = leb-true _ _ noise.1;
      },
      inputs_fit space (before ++ i ∷ []) is h.1 names.1,
    )

terms_fit : (before ts : List Term) → AllByRecursion (λ (t : Term). t.cell < 2 ^ 32) ts → AllByRecursion (λ (t : Term). FitsSigned w8 t.weight) ts → InTurn IsTerm before ts
terms_fit before [] cells weights = tt
terms_fit before (t ∷ ts) cells weights = (record { cell = cells.0; weight = weights.0 }, terms_fit (before ++ t ∷ []) ts cells.1 weights.1)

table_fits : (table : List ℕ) → AllByRecursion (λ entry. entry < 2 ^ 8) table → IsBytes table
table_fits [] h i = omega arith
table_fits (e ∷ es) h zero = h.0
table_fits (e ∷ es) h (suc i) = table_fits es h.1 i

jobs_fit : (space : ℕ) (inputs : List NetInput) (before js : List Job) → InTurn (λ before (j : Job). length j.terms ≤ 16) before js → InTurn (IsJob space inputs) before js → AllByRecursion IsNarrow js → InTurn (IsSpelledJob space) before js
jobs_fit space inputs before [] few h narrow = tt
jobs_fit space inputs before (j ∷ js) few h narrow = (
  record {
    few = few.0;
    terms = terms_fit [] j.terms narrow.0.cells narrow.0.weights;
    constant = narrow.0.constant;
    table_count = h.0.fits.table_count;
    table = table_fits j.table narrow.0.table;
    degree = narrow.0.degree;
  },
  jobs_fit space inputs (before ++ j ∷ []) js few.1 h.1 narrow.1,
)

cells_fit : (count most : ℕ) (degrees : ℕ → ℕ) → count < 2 ^ 32 → (before cells : List ℕ) → are_cells count degrees most cells ≡ true → InTurn IsFourBytes before cells
cells_fit count most degrees few before [] h = tt
cells_fit count most degrees few before (c ∷ cs) h =
    let a = and_parts (ltb c count && leb (degrees c) most) (are_cells count degrees most cs) h in
    let b = and_parts (ltb c count) (leb (degrees c) most) a.0 in
    let below : c < count = ltb-true _ _ b.0 in
    (omega (arith, below, few), cells_fit count most degrees few (before ++ c ∷ []) cs a.1)

outputs_fit : (space count : ℕ) (degrees : ℕ → ℕ) → count < 2 ^ 32 → (before os : List NetOutput) → InTurn (λ before o. IsTrue (is_output space count degrees before o)) before os → AllByRecursion (λ (o : NetOutput). IsTrue (is_name o.name)) os → InTurn (OutputFits space) before os
outputs_fit space count degrees few before [] h names = tt
outputs_fit space count degrees few before (o ∷ os) h names =
    let cells = are_cells count degrees (greatest o.kind space) o.cells in
    let a = and_parts (is_form space o.kind o.bits) (eqb (length o.cells) (block_count o.kind space o.bits) && (not (names_output o.name before) && cells)) h.0 in
    let b = and_parts (eqb (length o.cells) (block_count o.kind space o.bits)) (not (names_output o.name before) && cells) a.1 in
    let d = and_parts (not (names_output o.name before)) cells b.1 in (
      record {
        name = names.0;
        once = not-true (names_output o.name before) d.0;
        form = a.0;
        count = eqb-true _ _ b.0;
        cells = cells_fit count (greatest o.kind space) degrees few [] o.cells d.1;
      },
      outputs_fit space count degrees few (before ++ o ∷ []) os h.1 names.1,
    )

lists_again : NetLaws → (n : Net) → IsNet n → (file : List ℕ) (at after : ℕ) → Stands file at (lists_bytes n) after → lists_at n.space file at ≡ Ok (n, after)
unfolding lists_at
lists_again laws n h file at after there =
    let s = n.space in
    let limits = h.legal.limits in
    let inputs = list_bytes w16 input_bytes n.inputs in
    let jobs = list_bytes w32 job_bytes n.jobs in
    let outputs = list_bytes w16 output_bytes n.outputs in
    let a1 = at + length inputs in
    let a2 = at + length (inputs ++ jobs) in
    let both2 = Stands-first file at (inputs ++ jobs) outputs after there in
    let p3 = Stands-second file at (inputs ++ jobs) outputs after there in
    let p1 = Stands-first file at inputs jobs a2 both2 in
    let p2 = Stands-second file at inputs jobs a2 both2 in
    let few : cell_count n < 2 ^ 32 = omega (arith, laws.few_cells n h.legal) in
    ap (λ (r : Result (List NetInput × ℕ) CodecFault). r >>= after_inputs s file)
    (list_again w16 (2 ^ 16) 64 wide16 (input_at s) input_bytes (InputFits s) (input_tells s (space_small s limits.space)) file at n.inputs a1 (omega arith) limits.few_inputs
    (inputs_fit s [] n.inputs limits.inputs h.input_names) p1)
    ∙ ap (λ (r : Result (List Job × ℕ) CodecFault). r >>= after_jobs s n.inputs file)
    (list_again w32 (2 ^ 32) (2 ^ 16) wide32 (λ before. job_at s) job_bytes (IsSpelledJob s) (job_tells s) file a1 n.jobs a2 (omega arith) limits.few_jobs
    (jobs_fit s n.inputs [] n.jobs limits.few_terms h.legal.jobs (laws.narrow n h.legal)) p2)
    ∙ ap (λ (r : Result (List NetOutput × ℕ) CodecFault). r >>= net_of s n.inputs n.jobs)
    (list_again w16 (2 ^ 16) 64 wide16 (output_at s) output_bytes (OutputFits s) (output_tells s) file a2 n.outputs after (omega arith) limits.few_outputs
    (outputs_fit s (cell_count n) (degree n) few [] n.outputs h.legal.outputs h.output_names) p3)

-- what is spelled is read
pub spelled_again : NetLaws → (file : List ℕ) (n : Net) → NetFile file n → spelled_from file ≡ Ok n
unfolding spelled_from
spelled_again laws file n h =
    let magic = codes "RXN1" in
    let space = n.space ∷ [] in
    let lists = lists_bytes n in
    let whole : Stands file 0 ((magic ++ space) ++ lists) (length file) = subst (λ (text : List ℕ). Stands file 0 text (length file)) h.spelled (Stands-whole file) in
    let a2 = 0 + length (magic ++ space) in
    let head = Stands-first file 0 (magic ++ space) lists (length file) whole in
    let s2 = Stands-second file 0 (magic ++ space) lists (length file) whole in
    let p1 = Stands-first file 0 magic space a2 head in
    let s1 = Stands-second file 0 magic space a2 head in
    ap (λ (r : Result ℕ CodecFault). r >>= λ after. space_at file after >>= λ space. lists_at space.0 file space.1 >>= λ net. ends_at file net.1 net.0) (magic_again magic file (0 + length magic) refl p1)
    ∙ ap (λ (r : Result (ℕ × ℕ) CodecFault). r >>= λ space. lists_at space.0 file space.1 >>= λ net. ends_at file net.1 net.0) (space_again file (0 + length magic) n.space a2 h.fits.legal.limits.space s1)
    ∙ ap (λ (r : Result (Net × ℕ) CodecFault). r >>= λ net. ends_at file net.1 net.0) (lists_again laws n h.fits file a2 (length file) s2)
    ∙ ends_again file (length file) n refl

pub net_again : NetLaws → (file : List ℕ) (n : Net) → NetFile file n → net_from file ≡ Ok n
unfolding net_from
net_again laws file n h =
    ap (λ (r : Result Net CodecFault). r >>= λ net. legal_or (fault_of net) net) (spelled_again laws file n h)
    ∙ ap (λ (fault : Option NetFault). legal_or fault n) ((laws.lawful n).1 h.fits.legal)

pub net_found : NetLaws → (file : List ℕ) (result : Result Net CodecFault) → IsBytes file → Gives (λ n. n) result (net_from file) → IfOk result (λ n. NetFile file n)
net_found laws file (Ok n) fits exact = net_spelled laws file n fits exact
net_found laws file (Err fault) fits exact = tt

pub net_only : NetLaws → (file : List ℕ) (result : Result Net CodecFault) (n : Net) → Gives (λ m. m) result (net_from file) → NetFile file n → Gives (λ m. m) result (Ok n)
net_only laws file result n exact h = subst (Gives (λ m. m) result) (net_again laws file n h) exact

-- ---- what is written

pub inputs_short : (space : ℕ) (before is : List NetInput) → InTurn (λ before i. IsTrue (is_input space before i)) before is → AllByRecursion (λ (i : NetInput). i.bits ≤ 64) is
inputs_short space before [] h = tt
inputs_short space before (i ∷ is) h =
    let form = and_parts (is_form space i.kind i.bits) (has_input_tags space i && not (names_input i.name before)) h.0 in
    (form_bits space i.kind i.bits form.0, inputs_short space (before ++ i ∷ []) is h.1)

pub jobs_short : (before js : List Job) → InTurn (λ before (j : Job). length j.terms ≤ 16) before js → AllByRecursion (λ (j : Job). length j.terms ≤ 16) js
jobs_short before [] h = tt
jobs_short before (j ∷ js) h = (h.0, jobs_short (before ++ j ∷ []) js h.1)

pub outputs_short : (space count : ℕ) (degrees : ℕ → ℕ) (before os : List NetOutput) → InTurn (λ before o. IsTrue (is_output space count degrees before o)) before os → AllByRecursion (λ (o : NetOutput). o.bits ≤ 64) os
outputs_short space count degrees before [] h = tt
outputs_short space count degrees before (o ∷ os) h =
    let form = and_parts (is_form space o.kind o.bits) (eqb (length o.cells) (block_count o.kind space o.bits) && (not (names_output o.name before) && are_cells count degrees (greatest o.kind space) o.cells)) h.0 in
    (form_bits space o.kind o.bits form.0, outputs_short space count degrees (before ++ o ∷ []) os h.1)
