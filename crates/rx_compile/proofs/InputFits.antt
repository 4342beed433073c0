-- Each input of a circuit may follow the inputs before it.
use Rattle.std.proofs.Common.{◌≡◌, ℕ, ◌+◌, ◌^◌, ◌<◌, Bool, true, false, not, ◌&&◌, ◌||◌, List, [], ◌∷◌, ◌++◌, length, map, take, None, refl, sym, ap, ◌∙◌, arith, append-nil}
use Rattle.std.specs.Prelude.{IsTrue, nat_lt, nat_le, if◌then◌else◌}
use Rattle.std.specs.List.{list_any}
use Rattle.std.specs.Str.{bytes_eq}
use Rattle.std.proofs.lemmas.Bool.{and_parts, ltb-true}
use Rattle.std.proofs.lemmas.List.{map-append, length-map}
use Rattle.rx_params.specs.declared.kind.Kind.{Kind}
use Rattle.rx_params.specs.Derived.{noise_limit}
use Rattle.rx_params.specs.Kinds.{greatest, is_form}
use Rattle.rx_net.specs.declared.net.NetInput.{NetInput}
use Rattle.rx_net.specs.declared.net.Net.{Net}
use Rattle.rx_net.specs.Legal.{Legal, names_input, has_input_tags, is_input as may_follow}
use Rattle.rx_net.specs.Faults.{fault_of}
use Rattle.rx_net.specs.Pen.{with_input}
use Rattle.rx_net.proofs.Fits.{nat_le_is, nat_lt_is}
use Rattle.rx_net.proofs.NoFault.{limit_is}
use Rattle.rx_net.proofs.Additions.{input_tested}
use Rattle.rx_language.specs.declared.word.Word.{Word}
use Rattle.rx_language.specs.declared.kind.NameKind.{NameKind}
use Rattle.rx_language.specs.declared.kind.NameKind.TheVariants.{Int, Sint, Bit}
use Rattle.rx_language.specs.declared.line.Line.{Line}
use Rattle.rx_language.specs.declared.line.Step.{Step}
use Rattle.rx_language.specs.Words.{is_input, is_output}
use Rattle.rx_language.specs.Kinds.{bits_of}
use Rattle.rx_language.specs.Programs.{Program, Port, defines, is_defined, is_given_out, inputs_in, outputs_in, most_lines, most_inputs, most_outputs, ports_in, steps_of, IsProgram}
use Rattle.rx_meaning.specs.Kinds.{is_kind}
use Rattle.rx_meaning.proofs.LineKinds.{kinds_are}
use Rattle.rx_compile.specs.Compiled.{file_kind, net_input}
use Rattle.rx_compile.specs.States.{line_at, step_at, inputs_before, inputs_net}
use Rattle.rx_compile.proofs.Places.{known_at}
use Rattle.rx_compile.proofs.Ports.{inner_input, port_of, first_lines, ports_more, ports_count, missing}

-- ---- a form

pub kind_form : (space : ℕ) (kind : NameKind) → IsTrue (is_kind space kind) → is_form space (file_kind kind) (bits_of kind) ≡ true
kind_form space (Int width) h = h
kind_form space (Sint width) h = h
kind_form space Bit h = refl

tags_in : (space : ℕ) (port : Port) → has_input_tags space (net_input space port) ≡ true
tags_in space port =
    let g : ℕ = greatest (file_kind port.kind) space in
    ap (λ b. b && (nat_le 1 1 && nat_le 1 (noise_limit space))) (nat_le_is g g (omega arith))
    ∙ nat_le_is 1 (2 ^ space + 1) (omega arith)

-- ---- a name

pub either_parts : (a b : Bool) → (a || b) ≡ false → (a ≡ false) × (b ≡ false)
either_parts true b h = absurd cc
either_parts false b h = (refl, h)

unnamed_one : (given : Bool) (space : ℕ) (name : List ℕ) (port : Port) (ports : List Port) → (given ≡ true → bytes_eq port.name name ≡ false)
    → names_input name (map (net_input space) ports) ≡ false → names_input name (map (net_input space) (if given then port ∷ ports else ports)) ≡ false
unnamed_one true space name port ports h k = ap (λ b. b || names_input name (map (net_input space) ports)) (h refl) ∙ k
unnamed_one false space name port ports h k = k

-- a line that does not define a name, and is no output, has another one
other_name : (out : Bool) (same : Bool) → out ≡ false → (not out && same) ≡ false → same ≡ false
other_name true same e h = absurd cc
other_name false same e h = h

unnamed : (space : ℕ) (name : List ℕ) (lines : List Line) (steps : List Step) → list_any (defines name) lines ≡ false
    → names_input name (map (net_input space) (ports_in is_input lines steps)) ≡ false
unnamed space name [] steps h = refl
unnamed space name (line ∷ lines) [] h = refl
unnamed space name (line ∷ lines) (step ∷ steps) h =
    let parts = either_parts (defines name line) (list_any (defines name) lines) h in
    unnamed_one (is_input line.word) space name (port_of line step) (ports_in is_input lines steps)
    (λ e. other_name (is_output line.word) (bytes_eq line.name name) (inner_input line.word e) parts.0)
    (unnamed space name lines steps parts.1)

new_name : (out : Bool) (given defined : Bool) → out ≡ false → (if out then given else defined) ≡ false → defined ≡ false
new_name true given defined e h = absurd cc
new_name false given defined e h = h

-- ---- a number of inputs

pub room_in : (in_word : Bool) (n m : ℕ) → in_word ≡ true → IsTrue (not in_word || nat_lt n m) → n < m
room_in true n m e h = ltb-true n m h
room_in false n m e h = absurd cc

-- ---- the input of a line

module _ (p : Program) (k : ℕ) (lawful : IsProgram p) (there : k < length p.lines) (given : is_input (line_at p k).word ≡ true) where
  port : Port
  port = port_of (line_at p k) (step_at p k)

  before : List Port
  before = ports_in is_input (take k p.lines) (take k (steps_of p))

  name_new : names_input (line_at p k).name (inputs_before p k) ≡ false
  name_new =
      let known = known_at p k lawful there in
      let inner : is_output (line_at p k).word ≡ false = inner_input (line_at p k).word given in
      let new : is_defined (take k p.lines) (line_at p k).name ≡ false =
      new_name (is_output (line_at p k).word) (is_given_out (take k p.lines) (line_at p k).name) (is_defined (take k p.lines) (line_at p k).name) inner known.lawful.new
      in
      unnamed p.space (line_at p k).name (take k p.lines) (take k (steps_of p)) (missing (defines (line_at p k).name) (take k p.lines) new)

  follows : may_follow p.space (inputs_before p k) (net_input p.space port) ≡ true
  unfolding port
  follows =
      let kind : NameKind = (step_at p k).kind in
      ap (λ b. b && (has_input_tags p.space (net_input p.space (port_of (line_at p k) (step_at p k))) && not (names_input (line_at p k).name (inputs_before p k))))
      (kind_form p.space kind (kinds_are p lawful k))
      ∙ ap (λ b. b && not (names_input (line_at p k).name (inputs_before p k))) (tags_in p.space (port_of (line_at p k) (step_at p k)))
      ∙ ap not name_new

  inputs_few : length (inputs_before p k) < 64
  inputs_few =
      let known = known_at p k lawful there in
      let w : Word = (line_at p k).word in
      let b : List Line = take k p.lines in
      let room = and_parts (nat_lt (length b + 1) most_lines) ((not (is_input w) || nat_lt (inputs_in b) most_inputs) && (not (is_output w) || nat_lt (outputs_in b) most_outputs)) known.lawful.room in
      let mine = and_parts (not (is_input w) || nat_lt (inputs_in b) most_inputs) (not (is_output w) || nat_lt (outputs_in b) most_outputs) room.1 in
      let l : inputs_in b < most_inputs = room_in (is_input w) (inputs_in b) most_inputs given mine.0 in
      omega (arith, l, length-map (ports_in is_input b (take k (steps_of p))) (net_input p.space), ports_count is_input b (take k (steps_of p)) (first_lines p k there))

  pub input_lawful : (net : Net) → Legal net → net ≡ inputs_net p k → fault_of (with_input net (net_input p.space (port_of (line_at p k) (step_at p k)))) ≡ None
  unfolding port
  input_lawful net legal e =
      let i : NetInput = net_input p.space (port_of (line_at p k) (step_at p k)) in
      let js : net.jobs ≡ [] = ap (λ (n : Net). n.jobs) e in
      let is : inputs_before p k ≡ net.inputs = sym (ap (λ (n : Net). n.inputs) e) in
      let s : p.space ≡ net.space = sym (ap (λ (n : Net). n.space) e) in
      let f : true ≡ may_follow net.space (inputs_before p k) i = sym (ap (λ s. may_follow s (inputs_before p k) i) (sym s) ∙ follows) in
      sym (input_tested net i legal js (inputs_before p k) is
      (limit_is (nat_lt (length (inputs_before p k)) 64) 2 (length (inputs_before p k) + 1) (nat_lt_is (length (inputs_before p k)) 64 inputs_few)) true f)

  -- the inputs with it
  pub input_more : inputs_before p k ++ net_input p.space (port_of (line_at p k) (step_at p k)) ∷ [] ≡ inputs_before p (k + 1)
  input_more =
      sym (map-append (net_input p.space) (ports_in is_input (take k p.lines) (take k (steps_of p))) (port_of (line_at p k) (step_at p k) ∷ []))
      ∙ ap (λ (b : Bool). map (net_input p.space) (ports_in is_input (take k p.lines) (take k (steps_of p)) ++ (if b then port_of (line_at p k) (step_at p k) ∷ [] else []))) (sym given)
      ∙ ap (map (net_input p.space)) (sym (ports_more p k there is_input))

-- a line that is no input adds none
pub input_none : (p : Program) (k : ℕ) → k < length p.lines → is_input (line_at p k).word ≡ false → inputs_before p k ≡ inputs_before p (k + 1)
input_none p k there plain =
    ap (map (net_input p.space)) (sym (append-nil (ports_in is_input (take k p.lines) (take k (steps_of p)))))
    ∙ ap (λ (b : Bool). map (net_input p.space) (ports_in is_input (take k p.lines) (take k (steps_of p)) ++ (if b then port_of (line_at p k) (step_at p k) ∷ [] else []))) (sym plain)
    ∙ ap (map (net_input p.space)) (sym (ports_more p k there is_input))

abbrev made : List ℕ → Kind → ℕ → ℕ → NetInput
made name kind bits degree = record { name = name; kind = kind; bits = bits; degree = degree; noise = 1 }

-- the input that is made of what the calls of a line answer
pub input_made : (p : Program) (k : ℕ) (name : List ℕ) (kind : NameKind) (form : Kind) (bits degree space : ℕ) → name ≡ (line_at p k).name → kind ≡ (step_at p k).kind → form ≡ file_kind kind
    → bits ≡ bits_of kind → degree ≡ greatest form space → space ≡ p.space
    → record { name = name; kind = form; bits = bits; degree = degree; noise = 1 } ≡ net_input p.space (port_of (line_at p k) (step_at p k))
input_made p k name kind form bits degree space en ek ef eb ed es =
    let f : form ≡ file_kind (step_at p k).kind = ef ∙ ap file_kind ek in
    let b : bits ≡ bits_of (step_at p k).kind = eb ∙ ap bits_of ek in
    let d : degree ≡ greatest (file_kind (step_at p k).kind) p.space = ed ∙ ap (λ f. greatest f space) f ∙ ap (greatest (file_kind (step_at p k).kind)) es in
    ap (λ n. made n form bits degree) en
    ∙ ap (λ f. made (line_at p k).name f bits degree) f
    ∙ ap (λ b. made (line_at p k).name (file_kind (step_at p k).kind) b degree) b
    ∙ ap (made (line_at p k).name (file_kind (step_at p k).kind) (bits_of (step_at p k).kind)) d

-- the net with one input more
pub net_more : (p : Program) (k : ℕ) (net : Net) (i : NetInput) → net ≡ inputs_net p k → inputs_before p k ++ i ∷ [] ≡ inputs_before p (k + 1) → with_input net i ≡ inputs_net p (k + 1)
net_more p k net i e f =
    ap (λ (n : Net). with_input n i) e
    ∙ ap (λ (is : List NetInput). record { space = p.space; inputs = is; jobs = []; outputs = [] }) f
