-- From the value lines of a circuit through its net to the lines of the circuit's values.
use Rattle.std.proofs.Common.{◌≡◌, ◌≤◌, ◌+◌, ℕ, Bool, true, false, cond, List, [], ◌∷◌, ◌++◌, map, Option, Some, None, Ok, refl, sym, ap, subst, ◌∙◌, arith}
use Rattle.std.specs.Prelude.{◌==◌, ◌&&◌, nat_lt, IsTrue}
use Rattle.std.specs.Option.{option_or}
use Rattle.std.specs.List.{flat_map, AllByRecursion, range_with_len}
use Rattle.std.specs.Str.{bytes_eq}
use Rattle.std.proofs.lemmas.Bool.{le-ltb, eq-eqb}
use Rattle.std.proofs.lemmas.List.{append-nil}
use Rattle.rx_text.specs.Names.{is_name}
use Rattle.rx_params.specs.declared.params.Params.{Params}
use Rattle.rx_params.specs.declared.kind.Kind.{Kind}
use Rattle.rx_params.specs.declared.kind.Kind.TheVariants.{Int as WholeNumber, Bit as OneBit}
use Rattle.rx_params.specs.Kinds.{greatest, block_count, digit_at}
use Rattle.rx_lwe.specs.Secret.{large_key}
use Rattle.rx_block.specs.Keeps.{AreKept}
use Rattle.rx_net.specs.declared.net.NetInput.{NetInput}
use Rattle.rx_net.specs.declared.net.NetOutput.{NetOutput}
use Rattle.rx_net.specs.declared.net.Net.{Net}
use Rattle.rx_net.specs.Cells.{values_after}
use Rattle.rx_net.specs.Named.{IsNet}
use Rattle.rx_net.specs.Numbers.{digits_of, number_of, values_of, outs}
use Rattle.rx_block.specs.declared.block.Block.{Block}
use Rattle.rx_block.specs.Fresh.{fresh}
use Rattle.rx_language.specs.declared.word.Word.{Word}
use Rattle.rx_language.specs.declared.line.Line.{Line}
use Rattle.rx_language.specs.declared.line.Step.{Step}
use Rattle.rx_language.specs.Words.{is_input, is_output}
use Rattle.rx_language.specs.Programs.{Program, Port, IsProgram, AreLawful, ports_in, steps_of, inputs_of, outputs_of}
use Rattle.rx_meaning.specs.Values.{AreWithin, outputs_for}
use Rattle.rx_circuit.specs.declared.values.ValueLine.{ValueLine}
use Rattle.rx_circuit.specs.Values.{IsValueLine}
use Rattle.rx_circuit.specs.Outputs.{number_line, number_lines, port_names}
use Rattle.rx_circuit.proofs.Ports.{are_within}
use Rattle.rx_codec.specs.declared.client.Client.{Client}
use Rattle.rx_codec.specs.declared.cipher.Item.{Item}
use Rattle.rx_codec.specs.Kept.{AreItemsKept}
use Rattle.rx_client.specs.Encrypt.{blocks_in, line_digits, line_block, items_from, encrypted_values}
use Rattle.rx_client.specs.Decrypt.{first_damage}
use Rattle.rx_server.specs.declared.fault.InputFault.{InputFault}
use Rattle.rx_server.specs.declared.fault.InputFault.TheVariants.{Form, Degree, Noise}
use Rattle.rx_server.specs.Inputs.{items_of, named, same_kind, tags_fault, item_fault, found_fault, first_fault, digits_found}
use Rattle.rx_compile.specs.Compiled.{Compiled, Form as OutputForm, net_input, form_of_output, form_of_port, input_digits, port_digits}
use Rattle.rx_tool.specs.Run.{output_digits}
use Rattle.rx_tool.specs.WholeWay.{Batch, batch_ciphers, batch_lines, batch_digits, plain_digits, lines_of, plain_lines, cells_over, values_over, run_over, digits_over, decrypted_lines, IsBatch, GoTogether, WholeWayLaws}
use Rattle.rx_tool.specs.CircuitWay.{InputsOnce, CircuitGoes, circuit_lines, circuit_cells, CircuitWayLaws}
use Rattle.rx_tool.proofs.PlainRuns.{inputs_plain}
use Rattle.rx_tool.proofs.FoundLines.{lines_named, only_named, IsFound, AreFound, are_found}

-- ---- plain lists

map_twice : {A B C : Type 0} (g : B → C) (f : A → B) (xs : List A) → map g (map f xs) ≡ map (λ x. g (f x)) xs
map_twice g f [] = refl
map_twice g f (x ∷ xs) = ap (λ ys. g (f x) ∷ ys) (map_twice g f xs)

all_mapped : {A B : Type 0} (P : B → Type 0) (f : A → B) (xs : List A) → AllByRecursion (λ x. P (f x)) xs → AllByRecursion P (map f xs)
all_mapped P f [] all = tt
all_mapped P f (x ∷ xs) all = (all.0, all_mapped P f xs all.1)

all_before : {A B : Type 0} (P : B → Type 0) (f : A → B) (xs : List A) → AllByRecursion P (map f xs) → AllByRecursion (λ x. P (f x)) xs
all_before P f [] all = tt
all_before P f (x ∷ xs) all = (all.0, all_before P f xs all.1)

all_joined : {A : Type 0} (P : A → Type 0) (xs ys : List A) → AllByRecursion P xs → AllByRecursion P ys → AllByRecursion P (xs ++ ys)
all_joined P [] ys all more = more
all_joined P (x ∷ xs) ys all more = (all.0, all_joined P xs ys all.1 more)

-- ---- the items of encrypted lines

-- a block as it is encrypted: of the greatest degree without a carry, and of noise 1
record HasFreshTags (m : ℕ) (kind : Kind) (b : Block) : Type 0 where
  degree : b.degree ≡ greatest kind m
  noise : b.noise ≡ 1

-- an item of a line, as it is encrypted
record IsFreshItem (m : ℕ) (item : Item) (v : ValueLine) : Type 0 where
  name : item.name ≡ v.name
  kind : item.kind ≡ v.kind
  bits : item.bits ≡ v.bits
  tags : AllByRecursion (HasFreshTags m v.kind) item.blocks

abbrev AreFreshItems : ℕ → List Item → List ValueLine → Type 0
AreFreshItems m [] [] = Unit {0}
AreFreshItems m [] (v ∷ lines) = ⊥
AreFreshItems m (item ∷ items) [] = ⊥
AreFreshItems m (item ∷ items) (v ∷ lines) = IsFreshItem m item v × AreFreshItems m items lines

fresh_tags : (p : Params) (key mask noise : List ℕ) (number : ℕ) (kind : Kind) (x : ℕ) →
    HasFreshTags p.message_bits kind (fresh p key mask noise number kind x)
unfolding fresh
fresh_tags p key mask noise number kind x = record { degree = refl; noise = refl }

blocks_fresh : (p : Params) (key mask noise : List ℕ) (number : ℕ) (v : ValueLine) (places : List ℕ) →
    AllByRecursion (HasFreshTags p.message_bits v.kind) (map (line_block p key mask noise number v) places)
blocks_fresh p key mask noise number v [] = tt
blocks_fresh p key mask noise number v (i ∷ places) = (
  fresh_tags p key mask noise (number + i) v.kind (digit_at p.message_bits v.value i),
  blocks_fresh p key mask noise number v places,
)

items_fresh : (p : Params) (key mask noise : List ℕ) (number : ℕ) (lines : List ValueLine) →
    AreFreshItems p.message_bits (items_from p key mask noise number lines) lines
items_fresh p key mask noise number [] = tt
items_fresh p key mask noise number (v ∷ lines) = (
  record { name = refl; kind = refl; bits = refl; tags = blocks_fresh p key mask noise number v (range_with_len 0 (blocks_in p v)) },
  items_fresh p key mask noise (number + blocks_in p v) lines,
)

values_fresh : (p : Params) (key mask noise : List ℕ) (lines : List ValueLine) →
    AreFreshItems p.message_bits (encrypted_values p key mask noise lines).items lines
unfolding encrypted_values
values_fresh p key mask noise lines = items_fresh p key mask noise 0 lines

fresh_joined : (m : ℕ) (items more : List Item) (lines others : List ValueLine) → AreFreshItems m items lines → AreFreshItems m more others →
    AreFreshItems m (items ++ more) (lines ++ others)
fresh_joined m [] more [] others are rest = rest
fresh_joined m [] more (v ∷ lines) others are rest = absurd are
fresh_joined m (item ∷ items) more [] others are rest = absurd are
fresh_joined m (item ∷ items) more (v ∷ lines) others are rest = (are.0, fresh_joined m items more lines others are.1 rest)

batches_fresh : (c : Client) (batches : List Batch) →
    AreFreshItems c.params.message_bits (items_of (batch_ciphers c batches)) (batch_lines batches)
batches_fresh c [] = tt
batches_fresh c (b ∷ batches) =
    let key : List ℕ = large_key c.params c.seed in
    fresh_joined c.params.message_bits (encrypted_values c.params key b.mask_seed b.noise_seed b.lines).items (items_of (batch_ciphers c batches))
    b.lines (batch_lines batches) (values_fresh c.params key b.mask_seed b.noise_seed b.lines) (batches_fresh c batches)

-- those of a name
named_fresh : (m : ℕ) (name : List ℕ) (items : List Item) (lines : List ValueLine) → AreFreshItems m items lines →
    AreFreshItems m (named name items) (lines_named name lines)
named_fresh m name [] [] are = tt
named_fresh m name [] (v ∷ lines) are = absurd are
named_fresh m name (item ∷ items) [] are = absurd are
named_fresh m name (item ∷ items) (v ∷ lines) are =
    let same : bytes_eq v.name name ≡ bytes_eq item.name name = ap (λ n. bytes_eq n name) (sym are.0.name) in
    subst (λ (b : Bool). AreFreshItems m (cond b (item ∷ named name items) (named name items)) (lines_named name (v ∷ lines))) same
    (by_test m name item items v lines (bytes_eq v.name name) are.0 (named_fresh m name items lines are.1))
  where
    by_test : (m : ℕ) (name : List ℕ) (item : Item) (items : List Item) (v : ValueLine) (lines : List ValueLine) (b : Bool) → IsFreshItem m item v →
        AreFreshItems m (named name items) (lines_named name lines) →
        AreFreshItems m (cond b (item ∷ named name items) (named name items)) (cond b (v ∷ lines_named name lines) (lines_named name lines))
    by_test m name item items v lines true is rest = (is, rest)
    by_test m name item items v lines false is rest = rest

-- ---- the inputs of the net among them

no_tags_fault : (input : NetInput) (m : ℕ) (kind : Kind) (blocks : List Block) → input.degree ≡ greatest kind m → input.noise ≡ 1 →
    AllByRecursion (HasFreshTags m kind) blocks → tags_fault input blocks ≡ None
no_tags_fault input m kind [] degree noise all = refl
no_tags_fault input m kind (b ∷ bs) degree noise all =
    let low : nat_lt input.degree b.degree ≡ false = le-ltb input.degree b.degree (subst (λ d. b.degree ≤ d) (all.0.degree ∙ sym degree) (omega arith)) in
    let quiet : nat_lt input.noise b.noise ≡ false = le-ltb input.noise b.noise (omega (arith, all.0.noise, noise)) in
    let later : Option InputFault = tags_fault input bs in
    ap (λ (t : Bool). cond t (Some (Degree input.name b.degree input.degree))
    (cond (nat_lt input.noise b.noise) (Some (Noise input.name b.noise input.noise)) later)) low
    ∙ ap (λ (t : Bool). cond t (Some (Noise input.name b.noise input.noise)) later) quiet
    ∙ no_tags_fault input m kind bs degree noise all.1

kind_same : (kind : Kind) → same_kind kind kind ≡ true
kind_same WholeNumber = refl
kind_same OneBit = refl

no_item_fault : (input : NetInput) (m : ℕ) (v : ValueLine) (item : Item) → IsFreshItem m item v → input.kind ≡ v.kind → input.bits ≡ v.bits →
    input.degree ≡ greatest v.kind m → input.noise ≡ 1 → item_fault input item ≡ None
no_item_fault input m v item is kind bits degree noise =
    let wrong : Option InputFault = Some (Form input.name) in
    let tags : Option InputFault = tags_fault input item.blocks in
    let kinds : same_kind item.kind input.kind ≡ true =
    ap (λ k. same_kind k input.kind) (is.kind ∙ sym kind) ∙ kind_same input.kind in
    let same : (item.bits == input.bits) ≡ true = eq-eqb item.bits input.bits (is.bits ∙ sym bits) in
    ap (λ (t : Bool). cond (t && (item.bits == input.bits)) tags wrong) kinds
    ∙ ap (λ (t : Bool). cond t tags wrong) same
    ∙ no_tags_fault input m v.kind item.blocks degree noise is.tags

no_fault_of_one : (input : NetInput) (m : ℕ) (v : ValueLine) (items : List Item) → AreFreshItems m items (v ∷ []) → input.kind ≡ v.kind →
    input.bits ≡ v.bits → input.degree ≡ greatest v.kind m → input.noise ≡ 1 → found_fault input items ≡ None
no_fault_of_one input m v [] are kind bits degree noise = absurd are
no_fault_of_one input m v (item ∷ []) are kind bits degree noise = no_item_fault input m v item are.0 kind bits degree noise
no_fault_of_one input m v (item ∷ more ∷ items) are kind bits degree noise = absurd are.1

no_fault : (m : ℕ) (items : List Item) (lines : List ValueLine) (ports : List Port) (numbers : List ℕ) → AreFreshItems m items lines →
    InputsOnce ports lines → AreFound lines ports numbers → first_fault (map (net_input m) ports) items ≡ None
no_fault m items lines [] [] are once found = refl
no_fault m items lines [] (number ∷ numbers) are once found = absurd found
no_fault m items lines (port ∷ ports) [] are once found = absurd found
no_fault m items lines (port ∷ ports) (number ∷ numbers) are once found =
    let v : ValueLine = found.0.line in
    let own : AreFreshItems m (named port.name items) (v ∷ []) =
    subst (AreFreshItems m (named port.name items)) (only_named port.name lines v once.0 found.0.named) (named_fresh m port.name items lines are) in
    ap (λ fault. option_or fault (first_fault (map (net_input m) ports) items))
    (no_fault_of_one (net_input m port) m v (named port.name items) own (sym found.0.kind) (sym found.0.bits)
    (ap (λ k. greatest k m) (sym found.0.kind)) refl)
    ∙ no_fault m items lines ports numbers are once.1 found.1

-- ---- their digits

digits_are : (m : ℕ) (lines : List ValueLine) (ports : List Port) (numbers : List ℕ) → InputsOnce ports lines → AreFound lines ports numbers →
    plain_digits m (map (net_input m) ports) lines ≡ input_digits m ports numbers
unfolding input_digits
digits_are m lines [] [] once found = refl
digits_are m lines [] (number ∷ numbers) once found = absurd found
digits_are m lines (port ∷ ports) [] once found = absurd found
digits_are m lines (port ∷ ports) (number ∷ numbers) once found =
    let v : ValueLine = found.0.line in
    let later : List ℕ = plain_digits m (map (net_input m) ports) lines in
    let of_kind : Kind → List ℕ = λ k. digits_of m (block_count k m v.bits) v.value in
    ap (λ vs. flat_map (line_digits m) vs ++ later) (only_named port.name lines v once.0 found.0.named)
    ∙ ap (λ ds. ds ++ later) (append-nil (line_digits m v) ∙ own_digits m port number v found.0.kind found.0.bits found.0.value)
    ∙ ap (λ ds. port_digits m port number ++ ds) (digits_are m lines ports numbers once.1 found.1)
  where
    own_digits : (m : ℕ) (port : Port) (number : ℕ) (v : ValueLine) → v.kind ≡ (net_input m port).kind → v.bits ≡ (net_input m port).bits →
        v.value ≡ number → line_digits m v ≡ port_digits m port number
    own_digits m port number v kind bits value =
        ap (λ k. digits_of m (block_count k m v.bits) v.value) kind
        ∙ ap (λ b. digits_of m (block_count (net_input m port).kind m b) v.value) bits
        ∙ ap (λ x. digits_of m (block_count (net_input m port).kind m (net_input m port).bits) x) value

-- ---- names

ports_named : (wanted : Word → Bool) (space width : ℕ) (before lines : List Line) (steps : List Step) → AreLawful space width before lines →
    AllByRecursion (λ (port : Port). IsTrue (is_name port.name)) (ports_in wanted lines steps)
ports_named wanted space width before [] steps lawful = tt
ports_named wanted space width before (line ∷ lines) [] lawful = tt
ports_named wanted space width before (line ∷ lines) (step ∷ steps) lawful =
    by_test wanted line lines step steps (wanted line.word) lawful.0.name (ports_named wanted space width (before ++ line ∷ []) lines steps lawful.1)
  where
    by_test : (wanted : Word → Bool) (line : Line) (lines : List Line) (step : Step) (steps : List Step) (b : Bool) → IsTrue (is_name line.name) →
        AllByRecursion (λ (port : Port). IsTrue (is_name port.name)) (ports_in wanted lines steps) →
        AllByRecursion (λ (port : Port). IsTrue (is_name port.name))
        (cond b (record { name = line.name; kind = step.kind } ∷ ports_in wanted lines steps) (ports_in wanted lines steps))
    by_test wanted line lines step steps true name rest = (name, rest)
    by_test wanted line lines step steps false name rest = rest

output_names : (outputs : List NetOutput) (ports : List Port) → map form_of_output outputs ≡ map form_of_port ports →
    map (λ (o : NetOutput). o.name) outputs ≡ port_names ports
output_names outputs ports same =
    let name_of : OutputForm → List ℕ = λ f. f.name in
    sym (map_twice name_of form_of_output outputs) ∙ ap (map name_of) same ∙ map_twice name_of form_of_port ports

net_is : (p : Program) (net : Net) → IsProgram p → Compiled p net → IsNet net
net_is p net is compiled =
    let Named : List ℕ → Type 0 = λ name. IsTrue (is_name name) in
    let of_input : NetInput → List ℕ = λ i. i.name in
    let of_output : NetOutput → List ℕ = λ o. o.name in
    let of_port : Port → List ℕ = λ port. port.name in
    let ins : AllByRecursion (λ (port : Port). Named port.name) (inputs_of p) = ports_named is_input p.space p.width [] p.lines (steps_of p) is.lines in
    let outs : AllByRecursion (λ (port : Port). Named port.name) (outputs_of p) = ports_named is_output p.space p.width [] p.lines (steps_of p) is.lines in
    record {
      legal = compiled.legal;
      input_names = subst (AllByRecursion (λ (i : NetInput). Named i.name)) (sym compiled.inputs)
          (all_mapped (λ (i : NetInput). Named i.name) (net_input p.space) (inputs_of p) ins);
      output_names = all_before Named of_output net.outputs
          (subst (AllByRecursion Named) (sym (output_names net.outputs (outputs_of p) compiled.outputs)) (all_mapped Named of_port (outputs_of p) outs));
    }

-- ---- lines

lines_same : (names : List (List ℕ)) (numbers : List ℕ) → lines_of names numbers ≡ number_lines names numbers
lines_same [] numbers = refl
lines_same (name ∷ names) [] = refl
lines_same (name ∷ names) (number ∷ numbers) = ap (λ text. number_line name number ++ text) (lines_same names numbers)

-- ---- the laws

batch_values : (c : Client) (batches : List Batch) → AllByRecursion (IsBatch c) batches → AllByRecursion IsValueLine (batch_lines batches)
batch_values c [] each = tt
batch_values c (b ∷ batches) each =
    all_joined IsValueLine b.lines (batch_lines batches) each.0.values.each (batch_values c batches each.1)

module _ (c : Client) (p : Program) (net : Net) (batches : List Batch) (numbers : List ℕ) (goes : CircuitGoes c p net batches numbers) where
  found_all : AreFound (batch_lines batches) (inputs_of p) numbers
  found_all = are_found (batch_lines batches) (inputs_of p) numbers goes.found

  within_all : AreWithin (inputs_of p) numbers
  within_all = are_within (batch_lines batches) (batch_values c batches goes.each) (inputs_of p) numbers goes.found

  together : GoTogether c net batches
  together =
      let items : List Item = items_of (batch_ciphers c batches) in
      let fresh_all : AreFreshItems p.space items (batch_lines batches) =
      subst (λ m. AreFreshItems m items (batch_lines batches)) (sym goes.space) (batches_fresh c batches) in
      record {
        accepted = goes.accepted;
        each = goes.each;
        is_net = net_is p net goes.is_program goes.compiled;
        space = goes.compiled.space ∙ goes.space;
        found = ap (λ inputs. first_fault inputs items) goes.compiled.inputs
            ∙ no_fault p.space items (batch_lines batches) (inputs_of p) numbers fresh_all goes.once found_all;
      }

  digits : plain_digits net.space net.inputs (batch_lines batches) ≡ input_digits p.space (inputs_of p) numbers
  digits =
      ap (λ m. plain_digits m net.inputs (batch_lines batches)) goes.compiled.space
      ∙ ap (λ inputs. plain_digits p.space inputs (batch_lines batches)) goes.compiled.inputs
      ∙ digits_are p.space (batch_lines batches) (inputs_of p) numbers goes.once found_all

  numbers_are : outs net (values_after (plain_digits net.space net.inputs (batch_lines batches)) net.jobs) ≡ outputs_for p numbers
  numbers_are = ap (λ ds. outs net (values_after ds net.jobs)) digits ∙ goes.compiled.values numbers within_all

  found_plain : digits_found net.inputs (items_of (batch_ciphers c batches)) (batch_digits c.params.message_bits batches)
      ≡ plain_digits net.space net.inputs (batch_lines batches)
  found_plain =
      inputs_plain c net.inputs batches ∙ ap (λ k. plain_digits k net.inputs (batch_lines batches)) (sym (goes.compiled.space ∙ goes.space))

  cell_values : values_over c net batches ≡ circuit_cells p net numbers
  cell_values = ap (λ ds. values_after ds net.jobs) (found_plain ∙ digits)

  values : map (number_of p.space) (digits_over c net batches) ≡ outputs_for p numbers
  values =
      let m : ℕ = c.params.message_bits in
      let ds : List ℕ = digits_found net.inputs (items_of (batch_ciphers c batches)) (batch_digits m batches) in
      let same : ds ≡ plain_digits net.space net.inputs (batch_lines batches) = found_plain in
      map_twice (number_of p.space) (values_of (values_after ds net.jobs)) net.outputs
      ∙ ap (λ k. map (λ (o : NetOutput). number_of k (values_of (values_after ds net.jobs) o)) net.outputs) (sym goes.compiled.space)
      ∙ ap (λ xs. outs net (values_after xs net.jobs)) same
      ∙ numbers_are

  plain_is : plain_lines net (batch_lines batches) ≡ circuit_lines p numbers
  plain_is =
      ap (lines_of (map (λ (o : NetOutput). o.name) net.outputs)) numbers_are
      ∙ ap (λ names. lines_of names (outputs_for p numbers)) (output_names net.outputs (outputs_of p) goes.compiled.outputs)
      ∙ lines_same (port_names (outputs_of p)) (outputs_for p numbers)

pub circuit_way : WholeWayLaws → CircuitWayLaws
circuit_way laws = record {
  together = λ c p net batches numbers goes. together c p net batches numbers goes;
  digits = λ c p net batches numbers goes. digits c p net batches numbers goes;
  cells = λ c server_mask p net batches numbers goes.
      subst (AreKept c.params (large_key c.params c.seed) (cells_over c server_mask net batches)) (cell_values c p net batches numbers goes)
      (laws.cells c server_mask net batches (together c p net batches numbers goes));
  kept = λ c server_mask p net batches numbers goes. laws.kept c server_mask net batches (together c p net batches numbers goes);
  values = λ c p net batches numbers goes. values c p net batches numbers goes;
  undamaged = λ c server_mask p net batches numbers goes. laws.undamaged c server_mask net batches (together c p net batches numbers goes);
  lines = λ c server_mask p net batches numbers goes.
      laws.plain c server_mask net batches (together c p net batches numbers goes) ∙ plain_is c p net batches numbers goes;
}
