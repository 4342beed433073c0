-- The blocks of all cells of a net that was evaluated.
use Rattle.std.proofs.Common.{◌≡◌, inl, inr, ℕ, ◌+◌, ◌^◌, ◌<◌, ◌≤◌, List, [], ◌∷◌, ◌++◌, length, get_or, map, sym, subst, arith, length-append}
use Rattle.std.specs.Prelude.{EachIndex, slice_index}
use Rattle.std.proofs.lemmas.Bool.{cases_lt}
use Rattle.std.proofs.lemmas.List.{get_or_append_left}
use Rattle.rx_laws.proofs.Words.{words_below-are, words_below-fit}
use Rattle.rx_params.specs.declared.params.Params.{Params}
use Rattle.rx_params.specs.Derived.{large_dim, noise_limit}
use Rattle.rx_net.specs.declared.net.Job.{Job}
use Rattle.rx_net.specs.declared.net.Net.{Net}
use Rattle.rx_net.specs.Cells.{input_cells, cell_count, laid, operand_words, degree, noise}
use Rattle.rx_net.proofs.Laid.{get_or_end}
use Rattle.rx_boot.specs.ServerKeys.{ServerWords}
use Rattle.rx_boot.specs.Bootstrap.{bootstrapped}
use Rattle.rx_block.specs.declared.block.Block.{Block}
use Rattle.rx_block.specs.Combine.{no_block}
use Rattle.rx_crew.specs.Kernel.{key_basis, job_words}
use Rattle.rx_crew.specs.Evaluation.{evaluated, job_block, AreInputs}
use Rattle.rx_crew.proofs.Laying.{evaluated-laid}
use Rattle.rx_crew.proofs.CellTags.{evaluation_laws}
use Rattle.rx_server.specs.Laws.{IsBlockWithin, AreCellBlocks}

-- the blocks that were found are inputs of the evaluation
pub are_inputs : (p : Params) (net : Net) (blocks : List Block) → AreCellBlocks p net (input_cells net.space net.inputs) blocks → AreInputs p net blocks
are_inputs p net blocks are = record {
  count = are.count;
  sizes = λ c low. (are.each c low).size;
  degrees = λ c low. (are.each c low).degree;
  noises = λ c low. (are.each c low).noise;
}

-- ---- the blocks of a set, whatever their tags

abbrev IsBlockOf : Params → Block → Type 0
IsBlockOf p b = IsBlockWithin p b.degree b.noise b

of_set : (p : Params) (most_degree most_noise : ℕ) (b : Block) → IsBlockWithin p most_degree most_noise b → IsBlockOf p b
of_set p most_degree most_noise b is =
    record { size = is.size; words = is.words; degree = omega arith; noise_low = is.noise_low; noise_high = is.noise_high; noise = omega arith }

length-job_words : (k : ServerWords) (job : Job) (operands : List ℕ) → length (job_words (key_basis k) job operands) ≡ large_dim k.params + 1
unfolding job_words bootstrapped
length-job_words k job operands = (words_below-are _ _).count

job_words-below : (k : ServerWords) (job : Job) (operands : List ℕ) → EachIndex (job_words (key_basis k) job operands) (λ i. slice_index (job_words (key_basis k) job operands) i < 2 ^ 64)
unfolding job_words bootstrapped
job_words-below k job operands i low = words_below-fit (large_dim k.params + 1) _ i (omega (arith, low, length-job_words k job operands))

job_fits : (k : ServerWords) (job : Job) (cells : List Block) → IsBlockOf k.params (job_block k job cells)
job_fits k job cells =
    let operands : List ℕ = operand_words (map (λ (b : Block). b.words) cells) job.terms in
    let degree : job.degree ≤ job.degree = omega arith in
    let one : 1 ≤ 1 = omega arith in
    let limit : 1 ≤ noise_limit k.params.message_bits = omega arith in
    record { size = length-job_words k job operands; words = job_words-below k job operands; degree = degree; noise_low = one; noise_high = limit; noise = one }

-- what holds of the cells that are there, and of whatever a job makes, holds of all cells
laid_each : {A : Type 0} (P : A → Type 0) (step : Job → List A → A) (d : A) → ((j : Job) (xs : List A) → P (step j xs)) → (xs : List A) (js : List Job)
    → ((c : ℕ) → c < length xs → P (get_or xs c d)) → (c : ℕ) → c < length xs + length js → P (get_or (laid step xs js) c d)
unfolding laid
laid_each P step d made xs [] there c low = there c (omega (arith, low))
laid_each P step d made xs (j ∷ js) there c low =
    let longer = length-append xs (step j xs ∷ []) in
    laid_each P step d made (xs ++ step j xs ∷ []) js
    (λ i under. elim (cases_lt i (length xs)) as (λ _. P (get_or (xs ++ step j xs ∷ []) i d)) [
      | inl before ↦ subst P (sym (get_or_append_left xs (step j xs ∷ []) d i before)) (there i before)
      | inr after ↦ subst P (sym (get_or_end xs (step j xs) d i (omega (arith, under, after, longer)))) (made j xs)
    ])
    c (omega (arith, low, longer))

-- each is a block of the set, within the tags of its cell
pub evaluated_fit : (k : ServerWords) (net : Net) (inputs : List Block) → AreCellBlocks k.params net (input_cells net.space net.inputs) inputs
    → AreCellBlocks k.params net (cell_count net) (evaluated k net inputs)
unfolding cell_count
evaluated_fit k net inputs are =
    let given : AreInputs k.params net inputs = are_inputs k.params net inputs are in
    let cells : List Block = evaluated k net inputs in
    let count : length cells ≡ length inputs + length net.jobs = evaluation_laws.count k net inputs in
    let of : (c : ℕ) → c < length inputs + length net.jobs → IsBlockOf k.params (get_or (laid (job_block k) inputs net.jobs) c no_block) =
    laid_each (IsBlockOf k.params) (job_block k) no_block (job_fits k) inputs net.jobs
    (λ c low. of_set k.params (degree net c) (noise net c) (get_or inputs c no_block) (are.each c low)) in
    record {
      count = omega (arith, count, are.count);
      each = λ c low.
          let there : c < cell_count net = omega (arith, low, count, are.count) in
          let is : IsBlockOf k.params (get_or cells c no_block) =
          subst (λ (bs : List Block). IsBlockOf k.params (get_or bs c no_block)) (sym (evaluated-laid k net inputs)) (of c (omega (arith, low, count))) in
          record {
            size = is.size;
            words = is.words;
            degree = evaluation_laws.degrees k net inputs c given there;
            noise_low = is.noise_low;
            noise_high = is.noise_high;
            noise = evaluation_laws.noises k net inputs c given there;
          };
    }
