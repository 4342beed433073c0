-- The blocks of evaluated cells: their words and their tags.
use Rattle.std.proofs.Common.{◌≡◌, inl, inr, ℕ, zero, suc, pos, ◌+◌, ◌-◌, ◌<◌, ◌≤◌, List, [], ◌∷◌, ◌++◌, length, get_or, map, refl, sym, ◌∙◌, ap, arith, length-append}
use Rattle.std.proofs.lemmas.Bool.{cases_lt}
use Rattle.std.proofs.lemmas.List.{map-append}
use Rattle.rx_net.specs.declared.net.Job.{Job}
use Rattle.rx_net.specs.declared.net.NetInput.{NetInput}
use Rattle.rx_net.specs.declared.net.Net.{Net}
use Rattle.rx_net.specs.Cells.{input_cells, cell_count, given, laid, cells_of, declared_degree, unit_noise, degrees_after, noises_after, degree, noise}
use Rattle.rx_net.proofs.Laid.{length-laid, laid_before, laid_alone, get_or_end}
use Rattle.rx_net.proofs.Inputs.{length-given}
use Rattle.rx_net.proofs.WordsOf.{step}
use Rattle.rx_boot.specs.ServerKeys.{ServerWords}
use Rattle.rx_block.specs.declared.block.Block.{Block}
use Rattle.rx_block.specs.Combine.{no_block, degree_in, noise_in}
use Rattle.rx_crew.specs.Kernel.{key_basis, job_words}
use Rattle.rx_crew.specs.Evaluation.{AreInputs, cell_words, job_block, evaluated}
use Rattle.rx_crew.specs.Laws.{EvaluationLaws}
use Rattle.rx_crew.proofs.Laying.{evaluated-laid}

map-laid : (key : ServerWords) (xs : List Block) (js : List Job) →
    map (λ (b : Block). b.words) (laid (job_block key) xs js) ≡ laid (step (job_words (key_basis key))) (map (λ (b : Block). b.words) xs) js
unfolding laid
map-laid key xs [] = refl
map-laid key xs (j ∷ js) =
    map-laid key (xs ++ job_block key j xs ∷ []) js
    ∙ ap (λ ws. laid (step (job_words (key_basis key))) ws js) (map-append (λ (b : Block). b.words) xs (job_block key j xs ∷ []))

cells-words : (key : ServerWords) (net : Net) (inputs : List Block) → map (λ (b : Block). b.words) (evaluated key net inputs) ≡ cell_words key net inputs
unfolding cells_of
cells-words key net inputs = ap (map (λ (b : Block). b.words)) (evaluated-laid key net inputs) ∙ map-laid key inputs net.jobs

-- the tags of a job's block
laid-tags : (key : ServerWords) (xs : List Block) (js : List Job) (i : ℕ) (d : Job) → i < length js →
    (degree_in (laid (job_block key) xs js) (length xs + i) ≡ (get_or js i d).degree) × (noise_in (laid (job_block key) xs js) (length xs + i) ≡ 1)
unfolding laid
laid-tags key xs [] i d p = absurd (omega arith)
laid-tags key xs (j ∷ js) zero d p =
    let b : Block = job_block key j xs in
    let cells : List Block = laid (job_block key) (xs ++ b ∷ []) js in
    let place : length xs + 0 ≡ length xs = omega arith in
    let here : length xs < length (xs ++ b ∷ []) = omega (arith, length-append xs (b ∷ [])) in
    let at : get_or cells (length xs + 0) no_block ≡ b =
    ap (λ c. get_or cells c no_block) place
    ∙ laid_before (job_block key) (xs ++ b ∷ []) js no_block (length xs) here ∙ get_or_end xs b no_block (length xs) refl in
    (ap (λ (x : Block). x.degree) at, ap (λ (x : Block). x.noise) at)
laid-tags key xs (j ∷ js) (suc i) d p =
    let b : Block = job_block key j xs in
    let cells : List Block = laid (job_block key) (xs ++ b ∷ []) js in
    let place : length xs + suc i ≡ length (xs ++ b ∷ []) + i = omega (arith, length-append xs (b ∷ [])) in
    let rest = laid-tags key (xs ++ b ∷ []) js i d (omega arith) in
    (ap (degree_in cells) place ∙ rest.0, ap (noise_in cells) place ∙ rest.1)

no_job : Job
no_job = record { terms = []; constant = pos 0; table = []; degree = 0 }

-- what the net declares of a job's cell
declared-degree : (net : Net) (i : ℕ) (d : Job) → i < length net.jobs → degree net (input_cells net.space net.inputs + i) ≡ (get_or net.jobs i d).degree
unfolding degree degrees_after
declared-degree net i d p =
    let before : List ℕ = given net.space (λ (x : NetInput). x.degree) net.inputs in
    let place : input_cells net.space net.inputs + i ≡ length before + i =
    ap (λ n. n + i) (sym (length-given net.space (λ (x : NetInput). x.degree) net.inputs)) in
    ap (λ c. get_or (laid declared_degree before net.jobs) c 0) place ∙ laid_alone (λ (j : Job). j.degree) before net.jobs i d p

declared-noise : (net : Net) (i : ℕ) → i < length net.jobs → noise net (input_cells net.space net.inputs + i) ≡ 1
unfolding noise noises_after
declared-noise net i p =
    let before : List ℕ = given net.space (λ (x : NetInput). x.noise) net.inputs in
    let place : input_cells net.space net.inputs + i ≡ length before + i =
    ap (λ n. n + i) (sym (length-given net.space (λ (x : NetInput). x.noise) net.inputs)) in
    ap (λ c. get_or (laid unit_noise before net.jobs) c 0) place ∙ laid_alone (λ (j : Job). 1) before net.jobs i no_job p

cells-count : (key : ServerWords) (net : Net) (inputs : List Block) → length (evaluated key net inputs) ≡ length inputs + length net.jobs
cells-count key net inputs = ap length (evaluated-laid key net inputs) ∙ length-laid (job_block key) inputs net.jobs

cells-input : (key : ServerWords) (net : Net) (inputs : List Block) (c : ℕ) → c < length inputs →
    get_or (evaluated key net inputs) c no_block ≡ get_or inputs c no_block
cells-input key net inputs c p =
    ap (λ xs. get_or xs c no_block) (evaluated-laid key net inputs) ∙ laid_before (job_block key) inputs net.jobs no_block c p

past-inputs : (net : Net) (n c : ℕ) → n ≡ input_cells net.space net.inputs → n ≤ c → c < cell_count net →
    (c ≡ n + (c - n)) × (c - n < length net.jobs) × (input_cells net.space net.inputs + (c - n) ≡ c)
unfolding cell_count
past-inputs net n c e p q = (omega arith, omega arith, omega arith)

cells-degree : (key : ServerWords) (net : Net) (inputs : List Block) (c : ℕ) → AreInputs key.params net inputs →
    length inputs ≤ c → c < cell_count net → degree_in (evaluated key net inputs) c ≡ degree net c
cells-degree key net inputs c are low high =
    let n : ℕ = length inputs in
    let past = past-inputs net n c are.count low high in
    ap (degree_in (evaluated key net inputs)) past.0
    ∙ ap (λ xs. degree_in xs (n + (c - n))) (evaluated-laid key net inputs)
    ∙ (laid-tags key inputs net.jobs (c - n) no_job past.1).0
    ∙ sym (declared-degree net (c - n) no_job past.1)
    ∙ ap (degree net) past.2

cells-noise : (key : ServerWords) (net : Net) (inputs : List Block) (c : ℕ) → AreInputs key.params net inputs →
    length inputs ≤ c → c < cell_count net → noise_in (evaluated key net inputs) c ≡ 1
cells-noise key net inputs c are low high =
    let n : ℕ = length inputs in
    let past = past-inputs net n c are.count low high in
    ap (noise_in (evaluated key net inputs)) past.0
    ∙ ap (λ xs. noise_in xs (n + (c - n))) (evaluated-laid key net inputs)
    ∙ (laid-tags key inputs net.jobs (c - n) no_job past.1).1

noise-one : (net : Net) (n c : ℕ) → n ≡ input_cells net.space net.inputs → n ≤ c → c < cell_count net → noise net c ≡ 1
noise-one net n c e p q =
    let past = past-inputs net n c e p q in
    ap (noise net) (sym past.2) ∙ declared-noise net (c - n) past.1

equal-le : (a b d : ℕ) → a ≡ b → b ≤ d → a ≤ d
equal-le a b d e p = omega arith

cells-degrees : (key : ServerWords) (net : Net) (inputs : List Block) (c : ℕ) → AreInputs key.params net inputs → c < cell_count net →
    degree_in (evaluated key net inputs) c ≤ degree net c
cells-degrees key net inputs c are p =
    elim (cases_lt c (length inputs)) as (λ _. degree_in (evaluated key net inputs) c ≤ degree net c) [
      | inl before ↦
          equal-le (degree_in (evaluated key net inputs) c) (degree_in inputs c) (degree net c)
          (ap (λ (b : Block). b.degree) (cells-input key net inputs c before)) (are.degrees c before)
      | inr after ↦
          equal-le (degree_in (evaluated key net inputs) c) (degree net c) (degree net c) (cells-degree key net inputs c are after p) (omega arith)
    ]

cells-noises : (key : ServerWords) (net : Net) (inputs : List Block) (c : ℕ) → AreInputs key.params net inputs → c < cell_count net →
    noise_in (evaluated key net inputs) c ≤ noise net c
cells-noises key net inputs c are p =
    elim (cases_lt c (length inputs)) as (λ _. noise_in (evaluated key net inputs) c ≤ noise net c) [
      | inl before ↦
          equal-le (noise_in (evaluated key net inputs) c) (noise_in inputs c) (noise net c)
          (ap (λ (b : Block). b.noise) (cells-input key net inputs c before)) (are.noises c before)
      | inr after ↦
          equal-le (noise_in (evaluated key net inputs) c) (noise net c) (noise net c)
          (cells-noise key net inputs c are after p ∙ sym (noise-one net (length inputs) c are.count after p)) (omega arith)
    ]

pub evaluation_laws : EvaluationLaws
evaluation_laws = record {
  count = cells-count;
  words = cells-words;
  input = cells-input;
  job_degree = cells-degree;
  job_noise = cells-noise;
  degrees = cells-degrees;
  noises = cells-noises;
}
