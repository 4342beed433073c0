-- Nets within their limits.
use Rattle.std.proofs.Common.{◌≡◌, ℕ, ◌+◌, ◌*◌, ◌/◌, ◌%◌, ◌≤◌, ◌⊎◌, inl, inr, List, [], ◌∷◌, ◌++◌, length, get_or, true, sym, ◌∙◌, ap, arith, subst}
use Rattle.std.specs.Prelude.{◌&&◌, ◌==◌, not, nat_le, IsTrue}
use Rattle.std.proofs.lemmas.Bool.{and_parts}
use Rattle.rx_params.specs.declared.kind.Kind.{Kind}
use Rattle.rx_params.specs.declared.kind.Kind.TheVariants.{Int, Bit}
use Rattle.rx_params.specs.Kinds.{block_count, is_form}
use Rattle.rx_net.specs.declared.net.Job.{Job}
use Rattle.rx_net.specs.declared.net.NetInput.{NetInput}
use Rattle.rx_net.specs.declared.net.Net.{Net}
use Rattle.rx_net.specs.Cells.{input_cells, cell_count, degree, degrees_after}
use Rattle.rx_net.specs.Legal.{InTurn, WithinLimits, has_input_tags, names_input, is_input}
use Rattle.rx_net.proofs.Fits.{nat_le_yes}

few_blocks : (space : ℕ) (kind : Kind) (bits : ℕ) → (space ≡ 2) ⊎ (space ≡ 3) → is_form space kind bits ≡ true → block_count kind space bits ≤ 32
few_blocks space Int bits s h =
    let a = and_parts (nat_le space bits) (nat_le bits 64 && (bits % space == 0)) h in
    let b = and_parts (nat_le bits 64) (bits % space == 0) a.1 in
    let l : bits ≤ 64 = nat_le_yes bits 64 b.0 in
    elim s [
      | inl e ↦ subst (λ (s : ℕ). bits / s ≤ 32) (sym e) (omega arith)
      | inr e ↦ subst (λ (s : ℕ). bits / s ≤ 32) (sym e) (omega arith)
    ]
few_blocks space Bit bits s h = omega arith

few_by_input : (space : ℕ) → (space ≡ 2) ⊎ (space ≡ 3) → (before is : List NetInput) → InTurn (λ before i. IsTrue (is_input space before i)) before is
    → input_cells space is ≤ 32 * length is
unfolding input_cells
few_by_input space s before [] h = omega arith
few_by_input space s before (i ∷ is) h =
    let a = and_parts (is_form space i.kind i.bits) (has_input_tags space i && not (names_input i.name before)) h.0 in
    omega (arith, few_blocks space i.kind i.bits s a.0, few_by_input space s (before ++ i ∷ []) is h.1)

pub few_input_cells : (net : Net) → WithinLimits net → input_cells net.space net.inputs ≤ 2048
few_input_cells net w = omega (arith, few_by_input net.space w.space [] net.inputs w.inputs, w.few_inputs)

pub cell_count_is : (net : Net) (is : List NetInput) (js : List Job) (n k : ℕ) → is ≡ net.inputs → js ≡ net.jobs → n ≡ input_cells net.space is → k ≡ length js → n + k ≡ cell_count net
unfolding cell_count
cell_count_is net is js n k e f g h = ap (λ n. n + k) (g ∙ ap (input_cells net.space) e) ∙ ap (λ k. input_cells net.space net.inputs + k) (h ∙ ap (λ (js : List Job). length js) f)

pub degree_is : (net : Net) (is : List NetInput) (js : List Job) (c r : ℕ) → is ≡ net.inputs → js ≡ net.jobs → r ≡ get_or (degrees_after net.space is js) c 0 → r ≡ degree net c
unfolding degree
degree_is net is js c r e f g = g ∙ ap (λ is. get_or (degrees_after net.space is js) c 0) e ∙ ap (λ js. get_or (degrees_after net.space net.inputs js) c 0) f

pub few_cells : (net : Net) → WithinLimits net → cell_count net ≤ 2048 + 65536
unfolding cell_count
few_cells net w = omega (arith, few_input_cells net w, w.few_jobs)
