-- A net that holds lines of a circuit: what stays where it grows, and one line more.
use Rattle.std.proofs.Common.{◌≡◌, ℕ, ℤ, ◌+◌, ◌<◌, ◌≤◌, ◌^◌, List, [], ◌∷◌, ◌++◌, length, get_or, map, drop, refl, sym, ap, subst, ◌∙◌, arith, inl, inr, length-append}
use Rattle.std.specs.List.{sum_by}
use Rattle.std.proofs.lemmas.Bool.{cases_lt}
use Rattle.std.proofs.lemmas.List.{get_or_append_left, get_or_push}
use Rattle.std.proofs.lemmas.List.Sums.{sum_by-cons}
use Rattle.rx_params.specs.Kinds.{greatest, block_count}
use Rattle.rx_residue.specs.Residues.{residue}
use Rattle.rx_costs.specs.declared.table.Cost.{Cost}
use Rattle.rx_net.specs.declared.net.NetInput.{NetInput}
use Rattle.rx_net.specs.declared.net.Net.{Net}
use Rattle.rx_net.specs.Cells.{Within, cell_count, depth}
use Rattle.rx_net.specs.Growth.{Extends}
use Rattle.rx_plan.specs.Values.{AreInputs, number, number_held, cell_value}
use Rattle.rx_plan.specs.Planned.{AreCells}
use Rattle.rx_plan.proofs.Kept.{cells_kept}
use Rattle.rx_plan.proofs.Numbers.{number_same, number_held-is}
use Rattle.rx_language.specs.declared.kind.NameKind.{NameKind}
use Rattle.rx_language.specs.Kinds.{bits_of}
use Rattle.rx_language.specs.Programs.{Program, kind_at, steps_of, inputs_of, IsProgram}
use Rattle.rx_meaning.specs.Values.{AreWithin, absent, line_values}
use Rattle.rx_meaning.specs.Costs.{none}
use Rattle.rx_meaning.specs.Bounds.{depth_of}
use Rattle.rx_meaning.proofs.Walks.{drop_is}
use Rattle.rx_compile.specs.Compiled.{file_kind, net_input}
use Rattle.rx_compile.specs.Realized.{HasForm, Realizes}
use Rattle.rx_compile.specs.States.{step_at, costs, depths, digits_for, HoldsLine, Holds, IsNext, Plans}
use Rattle.rx_compile.proofs.Places.{known_at}
use Rattle.rx_compile.proofs.LineValues.{costs_count, depth_under, depth_line, depth_small}
use Rattle.rx_compile.proofs.PortDigits.{digits_within}

-- ---- what stays

pub held_stays : (old now : Net) (top : ℕ) (cs xs : List ℕ) → Extends old now → AreCells old top cs → AreInputs old xs → number_held now cs xs ≡ number_held old cs xs
held_stays old now top cs xs e k w =
    number_held-is now cs xs ∙ ap (λ s. number (2 ^ s) (length cs) (cell_value now cs xs)) e.space
    ∙ number_same (2 ^ old.space) (length cs) (cell_value now cs xs) (cell_value old cs xs) (λ i q. e.values xs w (get_or cs i 0) (k i q).there)
    ∙ sym (number_held-is old cs xs)

pub form_kept : (old now : Net) (kind : NameKind) (cs : List ℕ) → Extends old now → HasForm old kind cs → HasForm now kind cs
form_kept old now kind cs e h = record {
  count = h.count ∙ ap (λ s. block_count (file_kind kind) s (bits_of kind)) (sym e.space);
  cells_are = subst (λ (s : ℕ). AreCells now (greatest (file_kind kind) s) cs) (sym e.space) (cells_kept old now (greatest (file_kind kind) old.space) cs e h.cells_are);
}

-- the digits of inputs of the circuit are inputs of the net
pub digits_inputs : (p : Program) (net : Net) → net.space ≡ p.space → net.inputs ≡ map (net_input p.space) (inputs_of p) → (xs : List ℕ) → AreWithin (inputs_of p) xs → AreInputs net (digits_for p xs)
digits_inputs p net e f xs w =
    subst (λ (is : List NetInput). Within net.space is (digits_for p xs)) (sym f)
    (subst (λ (s : ℕ). Within s (map (net_input p.space) (inputs_of p)) (digits_for p xs)) (sym e) (digits_within p.space (inputs_of p) xs w))

pub line_kept : (p : Program) (old new : Net) (k : ℕ) (cs : List ℕ) → Extends old new → old.space ≡ p.space → old.inputs ≡ map (net_input p.space) (inputs_of p)
    → HoldsLine p old k cs → HoldsLine p new k cs
line_kept p old new k cs e f g h =
    let kind : NameKind = kind_at (steps_of p) k in
    record {
      form = form_kept old new kind cs e h.form;
      value_is = λ xs w.
          ap (λ (v : ℕ). record { kind = kind; value = v }) (held_stays old new (greatest (file_kind kind) old.space) cs (digits_for p xs) e h.form.cells_are (digits_inputs p old f g xs w))
          ∙ h.value_is xs w;
      shallow = λ i q.
          let d : depth new (get_or cs i 0) ≡ depth old (get_or cs i 0) = e.depths (get_or cs i 0) (h.form.cells_are i q).there in
          let s : depth old (get_or cs i 0) ≤ get_or (depths p) k 0 = h.shallow i q in
          omega arith;
    }

-- ---- one line more

abbrev pub jobs_left : Program → ℕ → ℕ
jobs_left p k = sum_by (λ cost. cost.jobs) (drop k (costs p))

pub jobs_next : (p : Program) (k : ℕ) → k < length p.lines → jobs_left p k ≡ (get_or (costs p) k none).jobs + jobs_left p (k + 1)
jobs_next p k h =
    let l : k < length (costs p) = omega (arith, costs_count p) in
    ap (λ cs. sum_by (λ (cost : Cost). cost.jobs) cs) (drop_is (costs p) k (get_or (costs p) k none) none l refl)
    ∙ sum_by-cons (λ (cost : Cost). cost.jobs) (get_or (costs p) k none) (drop (k + 1) (costs p))

push_at : (names : List (List ℕ)) (next : List ℕ) (P : ℕ → List ℕ → Type 0) → ((i : ℕ) → i < length names → P i (get_or names i [])) → P (length names) next
    → (i : ℕ) → i < length (names ++ next ∷ []) → P i (get_or (names ++ next ∷ []) i [])
push_at names next P h k i q =
    elim (cases_lt i (length names)) [
      | inl l ↦ subst (P i) (sym (get_or_append_left names (next ∷ []) [] i l)) (h i l)
      | inr l ↦
          let e : length names ≡ i = omega (arith, length-append names (next ∷ [])) in
          subst (λ (i : ℕ). P i (get_or (names ++ next ∷ []) i [])) e (subst (P (length names)) (sym (get_or_push names next [] (length names) refl)) k)
    ]

pub holds_more : (p : Program) (old new : Net) (names : List (List ℕ)) (k : ℕ) (next : List ℕ) → k < length p.lines → length names ≡ k → Holds p old names → Plans p k old new next
    → Holds p new (names ++ next ∷ [])
holds_more p old new names k next there count h plans =
    let n : length (names ++ next ∷ []) ≡ k + 1 = length-append names (next ∷ []) ∙ ap (λ k. k + 1) count in
    let left : jobs_left p (length names) ≡ jobs_left p k = ap (jobs_left p) count in
    let left' : jobs_left p (length (names ++ next ∷ [])) ≡ jobs_left p (k + 1) = ap (jobs_left p) n in
    record {
      space_is = plans.extends.space ∙ h.space_is;
      inputs_are = plans.extends.inputs ∙ h.inputs_are;
      lines = push_at names next (HoldsLine p new)
          (λ i q. line_kept p old new i (get_or names i []) plans.extends h.space_is h.inputs_are (h.lines i q))
          (subst (λ (i : ℕ). HoldsLine p new i next) (sym count) plans.line);
      jobs_in = omega (arith, left, left', jobs_next p k there, h.jobs_in, plans.jobs_in, plans.extends.jobs_grow);
      shallow = λ c q.
          elim (cases_lt c (cell_count old)) [
            | inl l ↦
                let d : depth new c ≡ depth old c = plans.extends.depths c l in
                let s : depth old c ≤ depth_of p = h.shallow c l in
                omega arith
            | inr l ↦ plans.shallow c l q
          ];
    }

-- ---- the plan of a line, of what its planner promises

module _ (p : Program) (k : ℕ) (old new : Net) (names : List (List ℕ)) (next : IsNext p old names k) (lawful : IsProgram p) where
  under : get_or (depths p) k 0 ≡ depth_under p k + (get_or (costs p) k none).depth
  under = depth_line p k next.there (known_at p k lawful next.there).earlier

  pub planned : (cells : List ℕ) (cost : Cost) (O : (ℕ → Type 0) → Type 0) (whole : List ℕ → ℤ)
      → Realizes old new (step_at p k).kind cells cost O whole
      → cost ≡ get_or (costs p) k none
      → O (λ o. depth old o ≤ depth_under p k)
      → ((xs : List ℕ) → AreWithin (inputs_of p) xs
      → get_or (line_values p xs) k absent ≡ record { kind = (step_at p k).kind; value = residue (bits_of (step_at p k).kind) (whole (digits_for p xs)) })
      → Plans p k old new cells
  planned cells cost O whole r e o v =
      let j : cost.jobs ≡ (get_or (costs p) k none).jobs = ap (λ (cost : Cost). cost.jobs) e in
      let d : cost.depth ≡ (get_or (costs p) k none).depth = ap (λ (cost : Cost). cost.depth) e in
      record {
        extends = r.extends;
        jobs_in = omega (arith, r.jobs_in, j);
        line = record {
          form = r.form;
          value_is = λ xs w.
              ap (λ (n : ℕ). record { kind = (step_at p k).kind; value = n }) (r.value_is (digits_for p xs) (digits_inputs p old next.holds.space_is next.holds.inputs_are xs w))
              ∙ sym (v xs w);
          shallow = λ i q.
              let s : depth new (get_or cells i 0) ≤ depth_under p k + cost.depth = r.deep_cells (depth_under p k) o i q in
              omega (arith, s, d, under);
        };
        shallow = λ c x y.
            let s : depth new c ≤ depth_under p k + cost.depth = r.deep (depth_under p k) o c x y in
            omega (arith, s, d, under, depth_small p k);
      }
