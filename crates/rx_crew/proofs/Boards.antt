-- What a closed board tells of the cells of the evaluation.
use Rattle.std.proofs.Common.{◌≡◌, ◌⊎◌, ⊎_elim, inl, inr, ℕ, zero, suc, ◌+◌, ◌<◌, ◌≤◌, List, [], ◌∷◌, ◌++◌, length, get_or, take, refl, sym, subst, ◌∙◌, ap, arith, length-append}
use Rattle.std.specs.Prelude.{Contains, Some}
use Rattle.std.proofs.lemmas.List.{get_or-map}
use Rattle.rx_net.specs.declared.net.Job.{Job}
use Rattle.rx_net.specs.declared.net.Net.{Net}
use Rattle.rx_net.specs.Cells.{laid}
use Rattle.rx_net.proofs.Laid.{laid_before, get_or_end}
use Rattle.rx_boot.specs.ServerKeys.{ServerWords}
use Rattle.rx_block.specs.declared.block.Block.{Block}
use Rattle.rx_block.specs.Combine.{no_block}
use Rattle.rx_board.specs.declared.view.Plan.{Plan}
use Rattle.rx_board.specs.declared.view.View.{View}
use Rattle.rx_board.specs.Rule.{job_count}
use Rattle.rx_board.specs.Steps.{given}
use Rattle.rx_board.specs.Closing.{ClosedValue, IsClosedWith, state_of, present_below}
use Rattle.rx_board.proofs.Totals.{one}
use Rattle.rx_workers.specs.Crew.{taken_in}
use Rattle.rx_crew.specs.Evaluation.{AreInputs, cell_words, job_block, evaluated}
use Rattle.rx_crew.specs.Work.{run_plan, HasClosed, HasWorked, HoldsCells}
use Rattle.rx_crew.proofs.Laying.{evaluated-laid}
use Rattle.rx_crew.proofs.CellTags.{evaluation_laws}

-- the cell of a job, of the job and the cells before it
laid-at : {A : Type 0} (step : Job → List A → A) (xs : List A) (js : List Job) (i : ℕ) (j : Job) (d : A) → i < length js → j ≡ get_or js i j →
    get_or (laid step xs js) (length xs + i) d ≡ step j (laid step xs (take i js))
unfolding laid
laid-at step xs [] i j d p e = absurd (omega arith)
laid-at step xs (k ∷ js) zero j d p e =
    let here : length xs < length (xs ++ step k xs ∷ []) = omega (arith, length-append xs (step k xs ∷ [])) in
    let place : length xs + 0 ≡ length xs = omega arith in
    ap (λ c. get_or (laid step (xs ++ step k xs ∷ []) js) c d) place
    ∙ laid_before step (xs ++ step k xs ∷ []) js d (length xs) here
    ∙ get_or_end xs (step k xs) d (length xs) refl ∙ ap (λ z. step z xs) (sym e)
laid-at step xs (k ∷ js) (suc i) j d p e =
    let place : length xs + suc i ≡ length (xs ++ step k xs ∷ []) + i = omega (arith, length-append xs (step k xs ∷ [])) in
    ap (λ c. get_or (laid step (xs ++ step k xs ∷ []) js) c d) place
    ∙ laid-at step (xs ++ step k xs ∷ []) js i j d (omega arith) e

-- the words of the cell of a job
pub cell-at : (key : ServerWords) (net : Net) (inputs : List Block) (i : ℕ) (j : Job) → i < length net.jobs → j ≡ get_or net.jobs i j →
    get_or (cell_words key net inputs) (length inputs + i) [] ≡ (job_block key j (laid (job_block key) inputs (take i net.jobs))).words
cell-at key net inputs i j p e =
    let words : Block → List ℕ = λ b. b.words in
    let place : ℕ = length inputs + i in
    let here : place < length (evaluated key net inputs) = omega (arith, evaluation_laws.count key net inputs) in
    ap (λ ws. get_or ws place []) (sym (evaluation_laws.words key net inputs))
    ∙ get_or-map words (evaluated key net inputs) place no_block [] here
    ∙ ap (λ bs. words (get_or bs place no_block)) (evaluated-laid key net inputs)
    ∙ ap words (laid-at (job_block key) inputs net.jobs i j no_block p e)

-- a board of the evaluation that is closed has its cells
pub holds-cells : (key : ServerWords) (net : Net) (inputs : List Block) (p : Plan) (v : View) (c : ClosedValue) → AreInputs key.params net inputs →
    p ≡ run_plan key net inputs → c.width ≡ p.width → c.jobs ≡ job_count p → IsClosedWith p v c → HoldsCells key net inputs c
holds-cells key net inputs p v c are is width jobs closed =
    let q : Plan = run_plan key net inputs in
    let closed' : IsClosedWith q v c = subst (λ (x : Plan). IsClosedWith x v c) is closed in record {
      jobs = jobs ∙ ap job_count is;
      width = width ∙ ap (λ (x : Plan). x.width) is;
      cells = λ j l two. closed'.cells j l two ∙ ap (λ n. get_or (cell_words key net inputs) (n + j) []) (sym are.count);
    }

-- what the first seat tells of the board that was closed with a seat split off it
pub has-closed : (p : Plan) (v w : View) (c : ClosedValue) → w ≡ given v → IsClosedWith p w c →
    ((k : ℕ) → k < job_count p → Contains v.known k) ⊎ (1048576 ≤ taken_in v.met) → HasClosed (job_count p) v c
has-closed p v w c is closed drained = record {
  either = ⊎_elim
      (λ all. inl (
        all,
        λ j l.
            ((closed.laws.each closed.place w closed.has).known j (subst (λ (u : View). Contains u.known j) (sym is) (all j l))).1,
      ))
      (λ often. inr often) drained;
}

-- where all jobs are present, their count is that of the jobs
pub all-present : (c : ClosedValue) (n : ℕ) → ((j : ℕ) → j < n → state_of c j ≡ 2) → present_below c n ≡ n
all-present c zero all = refl
all-present c (suc n) all =
    omega (arith, all-present c n (λ j l. all j (omega arith)), one (state_of c n) 2 (all n (omega arith)))

-- what a run tells of its first seat
pub has-worked : (key : ServerWords) (net : Net) (inputs : List Block) (v : View) (c : ClosedValue) (finished : ℕ) →
    v.plan ≡ Some (run_plan key net inputs) → HasClosed (length net.jobs) v c → finished + present_below c (length net.jobs) ≡ length net.jobs →
    HasWorked key net inputs v finished
has-worked key net inputs v c finished plan closed runs = record {
  plan = plan;
  either = ⊎_elim (λ all. inl (all.0, (let e = all-present c (length net.jobs) all.1 in omega arith))) (λ often. inr often) closed.either;
}
