-- A net that is compiled of a circuit stays one when it is folded, and runs with either give the same.
use Rattle.std.proofs.Common.{◌≡◌, ℕ, ◌≤◌, List, [], ◌∷◌, map, length, refl, sym, ap, subst, ◌∙◌, arith}
use Rattle.rx_params.specs.declared.kind.Kind.{Kind}
use Rattle.rx_net.specs.declared.net.NetOutput.{NetOutput}
use Rattle.rx_net.specs.declared.net.NetInput.{NetInput}
use Rattle.rx_net.specs.declared.net.Net.{Net}
use Rattle.rx_net.specs.Cells.{Within}
use Rattle.rx_language.specs.Programs.{Program, inputs_of}
use Rattle.rx_codec.specs.declared.client.Client.{Client}
use Rattle.rx_fold.specs.Folded.{folded}
use Rattle.rx_fold.specs.Laws.{FoldLaws}
use Rattle.rx_codec.specs.Laws.{FileLaws}
use Rattle.rx_seeded.specs.Laws.{SeededFileLaws}
use Rattle.rx_server.specs.Laws.{ServerLaws}
use Rattle.rx_compile.specs.Compiled.{Compiled, Form, form_of_output, input_digits, net_input}
use Rattle.rx_compile.proofs.PortDigits.{digits_within}
use Rattle.rx_tool.specs.WholeWay.{Batch}
use Rattle.rx_tool.specs.CircuitWay.{CircuitGoes}
use Rattle.rx_tool.specs.FoldWay.{FoldWayLaws}
use Rattle.rx_tool.proofs.FoldedRuns.{job_reads, outputs_same, refuses, accepts, writes}

-- outputs without their cells, from their names, kinds and bits
abbrev forms : List (List ℕ) → List Kind → List ℕ → List Form
forms (n ∷ ns) (k ∷ ks) (b ∷ bs) = record { name = n; kind = k; bits = b } ∷ forms ns ks bs
forms _ _ _ = []

forms_are : (os : List NetOutput) → map form_of_output os ≡ forms (map (λ (o : NetOutput). o.name) os) (map (λ (o : NetOutput). o.kind) os) (map (λ (o : NetOutput). o.bits) os)
forms_are [] = refl
forms_are (o ∷ os) = ap (λ (fs : List Form). form_of_output o ∷ fs) (forms_are os)

pub stays_compiled : FoldLaws → (p : Program) (net : Net) → Compiled p net → Compiled p (folded net)
stays_compiled laws p net is =
    let f = laws.folds net is.legal in
    record {
      legal = f.legal;
      space = f.space ∙ is.space;
      inputs = f.inputs ∙ is.inputs;
      outputs = forms_are (folded net).outputs ∙ (λ i. forms (f.output_names i) (f.output_kinds i) (f.output_bits i)) ∙ sym (forms_are net.outputs) ∙ is.outputs;
      values = λ xs w.
          f.outs (input_digits p.space (inputs_of p) xs)
          (subst (λ (ins : List NetInput). Within net.space ins (input_digits p.space (inputs_of p) xs)) (sym is.inputs)
          (subst (λ (s : ℕ). Within s (map (net_input p.space) (inputs_of p)) (input_digits p.space (inputs_of p) xs)) (sym is.space) (digits_within p.space (inputs_of p) xs w)))
          ∙ is.values xs w;
      jobs_in = let a = f.fewer in let b = is.jobs_in in omega (arith, a, b);
      depth_in = let a = f.shallower in let b = is.depth_in in omega (arith, a, b);
    }

pub fold_way : FoldLaws → FileLaws → SeededFileLaws → ServerLaws → FoldWayLaws
fold_way laws files versions server = record {
  compiled = stays_compiled laws;
  goes = λ c p net batches numbers goes. record {
    accepted = goes.accepted;
    is_program = goes.is_program;
    space = goes.space;
    compiled = stays_compiled laws p net goes.compiled;
    each = goes.each;
    once = goes.once;
    found = goes.found;
  };
  weights = job_reads;
  same = outputs_same;
  refuses = refuses laws files versions server;
  accepts = accepts laws files versions server;
  writes = writes laws files versions server;
}
