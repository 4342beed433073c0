-- The words of the cells of a net.
use Rattle.std.proofs.Common.{◌≡◌, ℕ, zero, suc, ◌+◌, ◌<◌, ◌≤◌, List, [], ◌∷◌, ◌++◌, length, get_or, take, length-take-le, refl, sym, ◌∙◌, ap, arith, subst, length-append}
use Rattle.std.specs.List.{AllByRecursion}
use Rattle.rx_net.specs.declared.term.Term.{Term}
use Rattle.rx_net.specs.declared.net.Job.{Job}
use Rattle.rx_net.specs.declared.net.Net.{Net}
use Rattle.rx_net.specs.Cells.{input_cells, laid, operand_words, cells_of}
use Rattle.rx_net.specs.Legal.{IsJob, Legal}
use Rattle.rx_net.proofs.Laid.{laid_before, get_or_end}
use Rattle.rx_net.proofs.Faults.{turn_at}

module _ (f : Job → List ℕ → List ℕ) where
  abbrev pub step : Job → List (List ℕ) → List ℕ
  step job cells = f job (operand_words cells job.terms)

  -- operands among the first cells are the same in a list that goes on
  same_operands : (cells more : List (List ℕ)) (ts : List Term) → AllByRecursion (λ t. t.cell < length cells) ts
      → ((i : ℕ) → i < length cells → get_or more i [] ≡ get_or cells i []) → operand_words more ts ≡ operand_words cells ts
  same_operands cells more [] h same = refl
  same_operands cells more (t ∷ ts) h same =
      ap (λ xs. xs ++ operand_words more ts) (same t.cell h.0) ∙ ap (λ xs. get_or cells t.cell [] ++ xs) (same_operands cells more ts h.1 same)

  -- the cell of each job, whose terms name earlier cells
  pub laid_word : (cells : List (List ℕ)) (js : List Job) (i : ℕ) (j : Job) → i < length js → j ≡ get_or js i j → AllByRecursion (λ t. t.cell < length cells + i) j.terms
      → get_or (laid step cells js) (length cells + i) [] ≡ f j (operand_words (laid step cells js) j.terms)
  unfolding laid
  laid_word cells [] i j p e h = absurd (omega arith)
  laid_word cells (x ∷ js) zero j p e h =
      let w : List ℕ = step x cells in
      let more : List (List ℕ) = laid step (cells ++ w ∷ []) js in
      let n : length cells + 0 ≡ length cells = omega arith in
      let l : length cells < length (cells ++ w ∷ []) = omega (arith, length-append cells (w ∷ [])) in
      let h' : AllByRecursion (λ t. t.cell < length cells) j.terms = subst (λ (n : ℕ). AllByRecursion (λ (t : Term). t.cell < n) j.terms) n h in
      let x' : f x (operand_words cells x.terms) ≡ f j (operand_words cells j.terms) = ap (λ (y : Job). f y (operand_words cells y.terms)) (sym e) in
      ap (λ c. get_or more c []) n ∙ laid_before step (cells ++ w ∷ []) js [] (length cells) l ∙ get_or_end cells w [] (length cells) refl
      ∙ x' ∙ ap (f j) (sym (same_operands cells more j.terms h' (λ i b. laid_before step cells (x ∷ js) [] i b)))
  laid_word cells (x ∷ js) (suc i) j p e h =
      let w : List ℕ = step x cells in
      let n : length cells + suc i ≡ length (cells ++ w ∷ []) + i = omega (arith, length-append cells (w ∷ [])) in
      let h' : AllByRecursion (λ t. t.cell < length (cells ++ w ∷ []) + i) j.terms = subst (λ (n : ℕ). AllByRecursion (λ (t : Term). t.cell < n) j.terms) n h in
      ap (λ c. get_or (laid step (cells ++ w ∷ []) js) c []) n ∙ laid_word (cells ++ w ∷ []) js i j (omega arith) e h'

length-take_some : (js : List Job) (i : ℕ) → i ≤ length js → length (take i js) ≡ i
length-take_some js i p = length-take-le i js p

pub input_cell_is : (words_of : List ℕ → Job → List ℕ → List ℕ) (basis : List ℕ) (net : Net) (inputs : List (List ℕ)) (c : ℕ) →
    c < length inputs → get_or (cells_of words_of basis net inputs) c [] ≡ get_or inputs c []
unfolding cells_of
input_cell_is words_of basis net inputs c p = laid_before (step (words_of basis)) inputs net.jobs [] c p

pub job_cell_is : (words_of : List ℕ → Job → List ℕ → List ℕ) (basis : List ℕ) (net : Net) (inputs : List (List ℕ)) (j : ℕ) (job : Job) →
    Legal net → length inputs ≡ input_cells net.space net.inputs → j < length net.jobs → job ≡ get_or net.jobs j job →
    get_or (cells_of words_of basis net inputs) (input_cells net.space net.inputs + j) []
    ≡ words_of basis job (operand_words (cells_of words_of basis net inputs) job.terms)
unfolding cells_of
job_cell_is words_of basis net inputs j job l n p e =
    let is = turn_at (IsJob net.space net.inputs) [] net.jobs l.jobs j job p e in
    let k : input_cells net.space net.inputs + length (take j net.jobs) ≡ length inputs + j = omega (arith, length-take_some net.jobs j (omega arith)) in
    let h : AllByRecursion (λ t. t.cell < length inputs + j) job.terms = subst (λ (n : ℕ). AllByRecursion (λ (t : Term). t.cell < n) job.terms) k is.fits.forward in
    let m : input_cells net.space net.inputs + j ≡ length inputs + j = omega arith in
    ap (λ c. get_or (laid (step (words_of basis)) inputs net.jobs) c []) m ∙ laid_word (words_of basis) inputs net.jobs j job p e h
