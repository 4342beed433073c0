-- The cells of the inputs of a net without jobs are the blocks of numbers.
use Rattle.std.proofs.Common.{◌≡◌, ◌⊎◌, inl, inr, ℕ, ◌+◌, ◌-◌, ◌*◌, ◌/◌, ◌^◌, ◌<◌, ◌≤◌, List, [], ◌∷◌, ◌++◌, length, get_or, replicate, refl, sym, ◌∙◌, ap, arith, subst}
use Rattle.std.proofs.lemmas.Bool.{cases_lt}
use Rattle.std.proofs.lemmas.List.{get_or_append_left, get_or-append_right, get_or-replicate, length-replicate}
use Rattle.std.proofs.lemmas.Nat.{div-mul-add}
use Rattle.rx_params.specs.Kinds.{block_count}
use Rattle.rx_params.specs.declared.kind.Kind.TheVariants.{Int as Number}
use Rattle.rx_net.specs.declared.net.Job.{Job}
use Rattle.rx_net.specs.declared.net.NetInput.{NetInput}
use Rattle.rx_net.specs.declared.net.Net.{Net}
use Rattle.rx_net.specs.Cells.{input_cells, cell_count, given, laid, degrees_after, noises_after, degree, noise}
use Rattle.rx_net.specs.Pen.{empty_net, with_input}
use Rattle.rx_net.proofs.Inputs.{length-given, given-append}
use Rattle.rx_plan.specs.Planned.{IsCell, AreBlocks}
use Rattle.rx_tests_plans.specs.Operands.{AreOperands}

abbrev pub number_input : ℕ → ℕ → List ℕ → NetInput
number_input space blocks name = record { name = name; kind = Number; bits = space * blocks; degree = 2 ^ space - 1; noise = 1 }

abbrev pub two_inputs : ℕ → ℕ → List ℕ → List ℕ → Net
two_inputs space blocks first second = with_input (with_input (empty_net space) (number_input space blocks first)) (number_input space blocks second)

blocks-of : (space blocks : ℕ) → (space ≡ 2) ⊎ (space ≡ 3) → space * blocks / space ≡ blocks
blocks-of space blocks h =
    let z : 0 < space = elim h [ inl e ↦ omega arith | inr e ↦ omega arith ] in
    let e : space * blocks ≡ blocks * space + 0 = omega arith in
    ap (λ x. x / space) e ∙ div-mul-add blocks space 0 z

-- a number given for each cell of both inputs
given-two : (space blocks : ℕ) (first second : List ℕ) (number : NetInput → ℕ) (v : ℕ) → (space ≡ 2) ⊎ (space ≡ 3)
    → number (number_input space blocks first) ≡ v → number (number_input space blocks second) ≡ v
    → (c : ℕ) → c < 2 * blocks → get_or (given space number (number_input space blocks first ∷ number_input space blocks second ∷ [])) c 0 ≡ v
unfolding given
given-two space blocks first second number v s e f c p =
    let n : space * blocks / space ≡ blocks = blocks-of space blocks s in
    let m : ℕ = space * blocks / space in
    let xs : List ℕ = replicate m (number (number_input space blocks first)) in
    let ys : List ℕ = replicate m (number (number_input space blocks second)) in
    let lx : length xs ≡ m = length-replicate m (number (number_input space blocks first)) in
    let ly : length ys ≡ m = length-replicate m (number (number_input space blocks second)) in
    elim (cases_lt c m) [
      | inl l ↦ get_or_append_left xs (ys ++ []) 0 c (omega arith) ∙ get_or-replicate m c (number (number_input space blocks first)) 0 l ∙ e
      | inr l ↦
          let r : c - m < m = omega arith in
          let h : m ≤ c = l in
          get_or-append_right xs (ys ++ []) m c 0 lx h
          ∙ get_or_append_left ys [] 0 (c - m) (omega arith) ∙ get_or-replicate m (c - m) (number (number_input space blocks second)) 0 r ∙ f
    ]

count-two : (space blocks : ℕ) (first second : List ℕ) → (space ≡ 2) ⊎ (space ≡ 3) → cell_count (two_inputs space blocks first second) ≡ 2 * blocks
unfolding cell_count input_cells
count-two space blocks first second s = let n : space * blocks / space ≡ blocks = blocks-of space blocks s in omega arith

is_block : (space blocks : ℕ) (first second : List ℕ) → (space ≡ 2) ⊎ (space ≡ 3) → (c : ℕ) → c < 2 * blocks → IsCell (two_inputs space blocks first second) (2 ^ space - 1) c
unfolding degree noise degrees_after noises_after laid
is_block space blocks first second s c p = record {
  there = omega (arith, count-two space blocks first second s);
  degree_in = let d : degree (two_inputs space blocks first second) c ≡ 2 ^ space - 1 = given-two space blocks first second (λ i. i.degree) (2 ^ space - 1) s refl refl c p in omega arith;
  noise_is = given-two space blocks first second (λ i. i.noise) 1 s refl refl c p;
}

cells-are : (space blocks : ℕ) (first second cs : List ℕ) (from : ℕ) → (space ≡ 2) ⊎ (space ≡ 3) → length cs ≡ blocks → ((i : ℕ) → i < blocks → get_or cs i 0 ≡ from + i) → from + blocks ≤ 2 * blocks → AreBlocks (two_inputs space blocks first second) cs
cells-are space blocks first second cs from s n e h i q =
    let g : get_or cs i 0 ≡ from + i = e i (omega arith) in
    subst (IsCell (two_inputs space blocks first second) (2 ^ space - 1)) (sym g) (is_block space blocks first second s (from + i) (omega arith))

pub made : (pen0 pen1 pen2 : Net) (space blocks : ℕ) (first second a b : List ℕ) (i j : NetInput) → (space ≡ 2) ⊎ (space ≡ 3) → pen0 ≡ empty_net space
    → i ≡ number_input space blocks first → pen1 ≡ with_input pen0 i → j ≡ number_input space blocks second → pen2 ≡ with_input pen1 j
    → length a ≡ blocks → ((i : ℕ) → i < blocks → get_or a i 0 ≡ 0 + i) → length b ≡ blocks → ((i : ℕ) → i < blocks → get_or b i 0 ≡ blocks + i) → AreOperands pen2 space blocks a b
made pen0 pen1 pen2 space blocks first second a b i j s e0 ei e1 ej e2 na ea nb eb =
    let whole : pen2 ≡ two_inputs space blocks first second =
    e2 ∙ ap (λ p. with_input p j) (e1 ∙ ap (λ p. with_input p i) e0 ∙ ap (with_input (empty_net space)) ei) ∙ ap (with_input (with_input (empty_net space) (number_input space blocks first))) ej in
    subst (λ (n : Net). AreOperands n space blocks a b) (sym whole) record {
      space_is = refl;
      no_jobs = refl;
      first_count = na;
      second_count = nb;
      first = cells-are space blocks first second a 0 s na ea (omega arith);
      second = cells-are space blocks first second b blocks s nb eb (omega arith);
    }
