-- Names of a net that grows.
use Rattle.std.proofs.Common.{◌≡◌, ℕ, ℤ, List, [], ◌∷◌, sym, subst}
use Rattle.std.specs.Prelude.{IsTrue}
use Rattle.rx_text.specs.Names.{is_name}
use Rattle.rx_net.specs.declared.term.Term.{Term}
use Rattle.rx_net.specs.declared.net.NetInput.{NetInput}
use Rattle.rx_net.specs.declared.net.NetOutput.{NetOutput}
use Rattle.rx_net.specs.declared.net.Net.{Net}
use Rattle.rx_net.specs.Legal.{Legal}
use Rattle.rx_net.specs.Named.{IsNet}
use Rattle.rx_net.specs.Pen.{with_input, with_job, with_output}
use Rattle.rx_net.proofs.Each.{all_append}

pub input_named : (net : Net) (i : NetInput) → IsNet net → IsTrue (is_name i.name) → Legal (with_input net i) → IsNet (with_input net i)
input_named net i h name legal = record {
  legal = legal;
  input_names = all_append (λ (i : NetInput). IsTrue (is_name i.name)) net.inputs (i ∷ []) h.input_names (name, tt);
  output_names = h.output_names;
}

pub job_named : (net : Net) (ts : List Term) (k : ℤ) (table : List ℕ) (new : Net) → IsNet net → new ≡ with_job net ts k table → Legal new → IsNet new
job_named net ts k table new h e legal =
    subst (λ (n : Net). IsNet n) (sym e) (record {
      legal = subst (λ (n : Net). Legal n) e legal;
      input_names = h.input_names;
      output_names = h.output_names;
    })

pub output_named : (net : Net) (o : NetOutput) → IsNet net → IsTrue (is_name o.name) → Legal (with_output net o) → IsNet (with_output net o)
output_named net o h name legal = record {
  legal = legal;
  input_names = h.input_names;
  output_names = all_append (λ (o : NetOutput). IsTrue (is_name o.name)) net.outputs (o ∷ []) h.output_names (name, tt);
}
