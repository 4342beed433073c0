-- A net of the inputs alone holds no line yet.
use Rattle.std.proofs.Common.{◌≡◌, ℕ, ◌-◌, ◌<◌, ◌≤◌, List, [], ◌∷◌, length, get_or, map, take, replicate, refl, sym, ap, ◌∙◌, arith, inl, inr}
use Rattle.std.proofs.lemmas.Bool.{cases_lt}
use Rattle.std.proofs.lemmas.List.{get_or_append_left, get_or-append_right, get_or-replicate, length-replicate}
use Rattle.std.proofs.Math.Seq.{take-length}
use Rattle.rx_params.specs.Kinds.{block_count}
use Rattle.rx_net.specs.declared.net.NetInput.{NetInput}
use Rattle.rx_net.specs.declared.net.Net.{Net}
use Rattle.rx_net.specs.Cells.{input_cells, given, cell_count, depth}
use Rattle.rx_language.specs.Words.{is_input}
use Rattle.rx_language.specs.Programs.{Program, ports_in, steps_of, inputs_of}
use Rattle.rx_language.proofs.Steps.{length-by}
use Rattle.rx_compile.specs.Compiled.{net_input}
use Rattle.rx_compile.specs.States.{first_cell, inputs_before, inputs_net, Holds}
use Rattle.rx_compile.proofs.InputCells.{depth_given}

abbrev zero_of : NetInput → ℕ
zero_of i = 0

given_none : (space : ℕ) (is : List NetInput) (c : ℕ) → get_or (given space (λ i. 0) is) c 0 ≡ 0
unfolding given
given_none space [] c = refl
given_none space (i ∷ is) c =
    let n : ℕ = block_count i.kind space i.bits in
    let xs : List ℕ = replicate n 0 in
    let rest : List ℕ = given space (λ i. 0) is in
    elim (cases_lt c n) [
      | inl l ↦ let many : length xs ≡ n = length-replicate n (zero_of i) in get_or_append_left xs rest 0 c (omega (arith, many)) ∙ get_or-replicate n c 0 0 l
      | inr l ↦ let l' : n ≤ c = l in get_or-append_right xs rest n c 0 (length-replicate n (zero_of i)) l' ∙ given_none space is (c - n)
    ]

pub take_whole : {A : Type 0} → (xs : List A) (n : ℕ) → length xs ≡ n → take n xs ≡ xs
take_whole xs n e = ap (λ k. take k xs) (sym e) ∙ take-length xs

inputs_all : (p : Program) → inputs_before p (length p.lines) ≡ map (net_input p.space) (inputs_of p)
inputs_all p =
    ap (λ ls. map (net_input p.space) (ports_in is_input ls (take (length p.lines) (steps_of p)))) (take_whole p.lines (length p.lines) refl)
    ∙ ap (λ ss. map (net_input p.space) (ports_in is_input p.lines ss)) (take_whole (steps_of p) (length p.lines) (length-by p.width p.lines))

pub holds_none : (p : Program) (net : Net) → net ≡ inputs_net p (length p.lines) → Holds p net []
unfolding cell_count
holds_none p net e =
    let js : net.jobs ≡ [] = ap (λ (n : Net). n.jobs) e in
    let none : length net.jobs ≡ 0 = ap length js in
    record {
      space_is = ap (λ (n : Net). n.space) e;
      inputs_are = ap (λ (n : Net). n.inputs) e ∙ inputs_all p;
      lines = λ k q. absurd (omega arith);
      jobs_in = omega (arith, none);
      shallow = λ c q.
          let there : c < input_cells net.space net.inputs = omega (arith, none) in
          let d : depth net c ≡ 0 = depth_given net c there ∙ given_none net.space net.inputs c in
          omega (arith, d);
    }

-- the cells of a net of inputs alone
pub first_count : (p : Program) (k : ℕ) (net : Net) → net ≡ inputs_net p k → cell_count net ≡ first_cell p k
unfolding cell_count
first_count p k net e =
    let s : cell_count net ≡ cell_count (inputs_net p k) = ap cell_count e in
    omega (arith, s)
