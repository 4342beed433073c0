-- The cells of inputs, and the tags of a cell.
use Rattle.std.proofs.Common.{◌≡◌, ℕ, suc, ◌+◌, ◌-◌, ◌<◌, ◌≤◌, List, [], ◌∷◌, ◌++◌, length, get_or, drop, replicate, refl, sym, ◌∙◌, ap, arith, length-append, append_assoc, drop-cons, add-one}
use Rattle.std.proofs.lemmas.List.{get_or_append_left, get_or-append_right, length-replicate, get_or-replicate, drop_all}
use Rattle.rx_params.specs.Kinds.{block_count}
use Rattle.rx_net.specs.declared.net.Job.{Job}
use Rattle.rx_net.specs.declared.net.NetInput.{NetInput}
use Rattle.rx_net.specs.Cells.{input_cells, given, laid, declared_degree, unit_noise, degrees_after, noises_after}
use Rattle.rx_net.proofs.Laid.{laid_before, laid_alone}

pub length-given : (space : ℕ) (number : NetInput → ℕ) (is : List NetInput) → length (given space number is) ≡ input_cells space is
unfolding given input_cells
length-given space number [] = refl
length-given space number (i ∷ is) =
    let n : ℕ = block_count i.kind space i.bits in
    omega (arith, length-append (replicate n (number i)) (given space number is), length-replicate n (number i), length-given space number is)

pub given-append : (space : ℕ) (number : NetInput → ℕ) (is more : List NetInput) → given space number (is ++ more) ≡ given space number is ++ given space number more
unfolding given
given-append space number [] more = refl
given-append space number (i ∷ is) more =
    let n : ℕ = block_count i.kind space i.bits in
    ap (λ xs. replicate n (number i) ++ xs) (given-append space number is more)
    ∙ sym (append_assoc (replicate n (number i)) (given space number is) (given space number more))

-- one input less
pub input_cells_drop : (space : ℕ) (is : List NetInput) (k : ℕ) (i : NetInput) → k < length is → i ≡ get_or is k i
    → input_cells space (drop k is) ≡ block_count i.kind space i.bits + input_cells space (drop (k + 1) is)
unfolding input_cells
input_cells_drop space is k i p e =
    let d : drop k is ≡ get_or is k i ∷ drop (suc k) is = drop-cons is k i p in
    rw add-one (ap (input_cells space) (d ∙ ap (λ x. x ∷ drop (suc k) is) (sym e)))

given_drop : (space : ℕ) (number : NetInput → ℕ) (is : List NetInput) (k : ℕ) (i : NetInput) → k < length is → i ≡ get_or is k i
    → given space number (drop k is) ≡ replicate (block_count i.kind space i.bits) (number i) ++ given space number (drop (k + 1) is)
unfolding given
given_drop space number is k i p e =
    let d : drop k is ≡ get_or is k i ∷ drop (suc k) is = drop-cons is k i p in
    rw add-one (ap (given space number) (d ∙ ap (λ x. x ∷ drop (suc k) is) (sym e)))

-- a search for a cell: it is `left` cells behind those of the first k inputs
pub record IsLeft (space : ℕ) (is : List NetInput) (cell k left : ℕ) : Type 0 where
  pub place : cell + input_cells space (drop k is) ≡ left + input_cells space is
  pub same : (number : NetInput → ℕ) → get_or (given space number is) cell 0 ≡ get_or (given space number (drop k is)) left 0

pub left_goes_on : (space : ℕ) (is : List NetInput) (cell k left : ℕ) (i : NetInput) → IsLeft space is cell k left → k < length is → i ≡ get_or is k i
    → block_count i.kind space i.bits ≤ left → IsLeft space is cell (k + 1) (left - block_count i.kind space i.bits)
left_goes_on space is cell k left i h p e l = record {
  place = omega (arith, h.place, input_cells_drop space is k i p e);
  same = λ number.
      let n : ℕ = block_count i.kind space i.bits in
      let xs : List ℕ = given space number (drop (k + 1) is) in
      h.same number ∙ ap (λ ys. get_or ys left 0) (given_drop space number is k i p e)
      ∙ get_or-append_right (replicate n (number i)) xs n left 0 (length-replicate n (number i)) l;
}

pub left_within : (space : ℕ) (is : List NetInput) (cell k left : ℕ) (i : NetInput) → IsLeft space is cell k left → k < length is → i ≡ get_or is k i
    → left < block_count i.kind space i.bits → (cell < input_cells space is) × ((number : NetInput → ℕ) → get_or (given space number is) cell 0 ≡ number i)
left_within space is cell k left i h p e l = (
  omega (arith, h.place, input_cells_drop space is k i p e),
  λ number.
      let n : ℕ = block_count i.kind space i.bits in
      let xs : List ℕ = given space number (drop (k + 1) is) in
      let q : left < length (replicate n (number i)) = omega (arith, length-replicate n (number i)) in
      h.same number ∙ ap (λ ys. get_or ys left 0) (given_drop space number is k i p e)
      ∙ get_or_append_left (replicate n (number i)) xs 0 left q ∙ get_or-replicate n left (number i) 0 l,
)

pub input_cells_past : (space : ℕ) (is : List NetInput) (k : ℕ) → length is ≤ k → input_cells space (drop k is) ≡ 0
unfolding input_cells
input_cells_past space is k p = let z : drop k is ≡ [] = drop_all k is p in ap (input_cells space) z

pub left_ends : (space : ℕ) (is : List NetInput) (cell k left : ℕ) → IsLeft space is cell k left → length is ≤ k → cell ≡ input_cells space is + left
left_ends space is cell k left h p = omega (arith, h.place, input_cells_past space is k p)

-- ---- the tags of a cell
pub given_degree : (space : ℕ) (is : List NetInput) (js : List Job) (c : ℕ) → c < input_cells space is
    → get_or (degrees_after space is js) c 0 ≡ get_or (given space (λ i. i.degree) is) c 0
unfolding degrees_after
given_degree space is js c p = laid_before declared_degree (given space (λ i. i.degree) is) js 0 c (omega (arith, length-given space (λ i. i.degree) is))

pub given_noise : (space : ℕ) (is : List NetInput) (js : List Job) (c : ℕ) → c < input_cells space is
    → get_or (noises_after space is js) c 0 ≡ get_or (given space (λ i. i.noise) is) c 0
unfolding noises_after
given_noise space is js c p = laid_before unit_noise (given space (λ i. i.noise) is) js 0 c (omega (arith, length-given space (λ i. i.noise) is))

pub job_degree_at : (space : ℕ) (is : List NetInput) (js : List Job) (c k : ℕ) (j : Job) → c ≡ input_cells space is + k → k < length js
    → get_or (degrees_after space is js) c 0 ≡ (get_or js k j).degree
unfolding degrees_after
job_degree_at space is js c k j e p =
    let xs : List ℕ = given space (λ i. i.degree) is in
    let e' : c ≡ length xs + k = omega (arith, length-given space (λ i. i.degree) is) in
    ap (λ c. get_or (laid declared_degree xs js) c 0) e' ∙ laid_alone (λ j. j.degree) xs js k j p

pub job_noise_at : (space : ℕ) (is : List NetInput) (js : List Job) (c k : ℕ) (j : Job) → c ≡ input_cells space is + k → k < length js
    → get_or (noises_after space is js) c 0 ≡ 1
unfolding noises_after
job_noise_at space is js c k j e p =
    let xs : List ℕ = given space (λ i. i.noise) is in
    let e' : c ≡ length xs + k = omega (arith, length-given space (λ i. i.noise) is) in
    ap (λ c. get_or (laid unit_noise xs js) c 0) e' ∙ laid_alone (λ j. 1) xs js k j p
