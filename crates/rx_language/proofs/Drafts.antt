-- A circuit while its text is read: no line yet, and one line more.
use Rattle.std.proofs.Common.{◌≡◌, ◌⊎◌, inl, inr, ◌+◌, ℕ, false, cond, IsTrue, lit<, List, [], ◌∷◌, ◌++◌, length, Some, String, refl, sym, ap, ◌∙◌, arith, length-append}
use Rattle.std.specs.BTreeMap.{BTreeMap, get_by_text, IsEmpty}
use Rattle.std.specs.Global.{Global}
use Rattle.std.proofs.lemmas.Bool.{and_parts, ltb-true}
use Rattle.rx_params.specs.Kinds.{is_form}
use Rattle.rx_params.specs.declared.kind.Kind.TheVariants.{Int as WholeNumber}
use Rattle.rx_language.specs.declared.line.Line.{Line}
use Rattle.rx_language.specs.declared.line.Step.{Step}
use Rattle.rx_language.specs.Words.{is_output}
use Rattle.rx_language.specs.Programs.{Program, program_of_fields, IsLawful, is_space, is_defined, is_taken, defines, step_after, steps_by, most_lines}
use Rattle.rx_language.specs.Drafts.{IsDraft, with_line}
use Rattle.rx_language.proofs.Steps.{by-push, lawful-push}
use Rattle.rx_language.proofs.Lookups.{tells_none, defines-push}

space_fits : (space : ℕ) → (space ≡ 2) ⊎ (space ≡ 3) → IsTrue (is_space space)
space_fits space h = elim h [ inl e ↦ rw e refl | inr e ↦ rw e refl ]

pub is_empty_draft : (space width : ℕ) (places : BTreeMap (String Global) ℕ) → (space ≡ 2) ⊎ (space ≡ 3) → IsTrue (is_form space WholeNumber width)
    → IsEmpty places → IsDraft (program_of_fields space width []) [] places
unfolding steps_by
is_empty_draft space width places s w none = record {
  program = record { space = space_fits space s; width = w; lines = tt };
  steps_are = refl;
  places_are = λ name. tells_none places name none;
  few = lit< tt;
}

-- a name that is not taken is not defined, unless the line defines none
new_name : (before : List Line) (line : Line) → is_taken before line ≡ false → is_output line.word ≡ false → is_defined before line.name ≡ false
new_name before line new defining = rw defining at new

pub is_longer_draft : (p : Program) (line : Line) (steps : List Step) (step : Step) (places longer : BTreeMap (String Global) ℕ) → IsDraft p steps places
    → IsLawful p.space p.width p.lines line → step ≡ step_after p.width p.lines (steps_by p.width p.lines) line
    → ((name : List ℕ) → get_by_text longer name ≡ cond (defines name line) (Some (length p.lines)) (get_by_text places name))
    → IsDraft (with_line p line) (steps ++ step ∷ []) longer
is_longer_draft p line steps step places longer h lawful known told = record {
  program = record {
    space = h.program.space;
    width = h.program.width;
    lines = lawful-push p.space p.width [] p.lines line h.program.lines lawful;
  };
  steps_are = ap (λ (s : List Step). s ++ step ∷ []) h.steps_are ∙ ap (λ (s : Step). steps_by p.width p.lines ++ s ∷ []) known ∙ sym (by-push p.width p.lines line);
  places_are = λ name.
      told name ∙ ap (cond (defines name line) (Some (length p.lines))) (h.places_are name)
      ∙ sym (defines-push name p.lines line (new_name p.lines line lawful.new));
  few = omega (arith, ltb-true (length p.lines + 1) most_lines (and_parts _ _ lawful.room).0, length-append p.lines (line ∷ []));
}
