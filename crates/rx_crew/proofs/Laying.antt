-- The blocks of all cells, laid job after job.
use Rattle.std.proofs.Common.{◌≡◌, ℕ, suc, ◌+◌, ◌<◌, List, [], ◌∷◌, ◌++◌, length, get_or, map, set, take, drop, sym, ◌∙◌, ap, arith, length-append, append_assoc, append-nil, drop-cons}
use Rattle.std.proofs.lemmas.List.{length-map, map-append, take_more}
use Rattle.std.proofs.lemmas.Grind.{take-set_at}
use Rattle.std.proofs.Math.Seq.{take-length}
use Rattle.rx_net.specs.declared.net.Job.{Job}
use Rattle.rx_net.specs.declared.net.Net.{Net}
use Rattle.rx_net.specs.Cells.{laid, cells_of}
use Rattle.rx_net.proofs.Laid.{length-laid, laid_before, laid-last, get_or_end}
use Rattle.rx_net.specs.Legal.{IsJob, Legal}
use Rattle.rx_net.proofs.Faults.{turn_at}
use Rattle.rx_net.proofs.WordsOf.{step}
use Rattle.rx_boot.specs.ServerKeys.{ServerWords}
use Rattle.rx_block.specs.declared.block.Block.{Block}
use Rattle.rx_crew.specs.Kernel.{key_basis, job_words}
use Rattle.rx_crew.specs.Evaluation.{job_block, job_blocks, evaluated}

laid_blocks : (key : ServerWords) (xs : List Block) (js : List Job) →
    laid (job_block key) xs js
    ≡ xs ++ job_blocks js (drop (length xs) (laid (step (job_words (key_basis key))) (map (λ (b : Block). b.words) xs) js))
unfolding laid
laid_blocks key xs [] = sym (append-nil xs)
laid_blocks key xs (j ∷ js) =
    let b : Block = job_block key j xs in
    let lay : List (List ℕ) → List (List ℕ) = λ cells. laid (step (job_words (key_basis key))) cells js in
    let before : List (List ℕ) = map (λ (x : Block). x.words) xs in
    let cells : List (List ℕ) = lay (before ++ b.words ∷ []) in
    let n : ℕ = length xs in
    let count : length before ≡ n = length-map xs (λ (x : Block). x.words) in
    let longer : length (before ++ b.words ∷ []) ≡ suc n = omega (arith, length-append before (b.words ∷ [])) in
    let longer_blocks : length (xs ++ b ∷ []) ≡ suc n = omega (arith, length-append xs (b ∷ [])) in
    let here : n < length cells = omega (arith, length-laid (step (job_words (key_basis key))) (before ++ b.words ∷ []) js) in
    let at : get_or cells n [] ≡ b.words =
    laid_before (step (job_words (key_basis key))) (before ++ b.words ∷ []) js [] n (omega arith) ∙ get_or_end before b.words [] n (sym count) in
    let first : drop n cells ≡ b.words ∷ drop (suc n) cells =
    drop-cons cells n [] here ∙ ap (λ ws. ws ∷ drop (suc n) cells) at in
    laid_blocks key (xs ++ b ∷ []) js
    ∙ ap (λ ws. (xs ++ b ∷ []) ++ job_blocks js (drop (length (xs ++ b ∷ [])) (lay ws))) (map-append (λ (x : Block). x.words) xs (b ∷ []))
    ∙ ap (λ m. (xs ++ b ∷ []) ++ job_blocks js (drop m cells)) longer_blocks
    ∙ append_assoc xs (b ∷ []) (job_blocks js (drop (suc n) cells))
    ∙ ap (λ ws. xs ++ job_blocks (j ∷ js) ws) (sym first)

-- the cells are the inputs, and then a block for each job, made of the job and the cells before it
pub evaluated-laid : (key : ServerWords) (net : Net) (inputs : List Block) → evaluated key net inputs ≡ laid (job_block key) inputs net.jobs
unfolding cells_of
evaluated-laid key net inputs = sym (laid_blocks key inputs net.jobs)

-- a job of a legal net, after those before it
pub job-lawful : (net : Net) (items : List Job) (i : ℕ) (job : Job) → Legal net → items ≡ net.jobs → i < length items → job ≡ get_or items i job →
    IsJob net.space net.inputs (take i net.jobs) job
job-lawful net items i job legal same p e =
    turn_at (IsJob net.space net.inputs) [] net.jobs legal.jobs i job (omega (arith, ap length same)) (e ∙ ap (λ xs. get_or xs i job) same)

-- one job more
pub laid-more : (key : ServerWords) (jobs items : List Job) (ins cells : List Block) (place next i : ℕ) (job : Job) → items ≡ jobs → i < length items →
    job ≡ get_or items i job → place < length cells → next ≡ place + 1 → take place cells ≡ laid (job_block key) ins (take i jobs) →
    take next (set cells place (job_block key job (take place cells))) ≡ laid (job_block key) ins (take (i + 1) jobs)
laid-more key jobs items ins cells place next i job same p e q n h =
    let more : take (i + 1) items ≡ take i items ++ job ∷ [] = take_more items i job p ∙ ap (λ x. take i items ++ x ∷ []) (sym e) in
    let more' : take (i + 1) jobs ≡ take i jobs ++ job ∷ [] =
    ap (take (i + 1)) (sym same) ∙ more ∙ ap (λ xs. take i xs ++ job ∷ []) same in
    take-set_at cells place next (job_block key job (take place cells)) n q
    ∙ ap (λ xs. xs ++ job_block key job xs ∷ []) h
    ∙ sym (laid-last (job_block key) ins (take i jobs) job)
    ∙ ap (laid (job_block key) ins) (sym more')

-- all jobs
pub laid-all : (key : ServerWords) (net : Net) (ins cells : List Block) (m n : ℕ) → m ≡ length cells → n ≡ length net.jobs →
    take m cells ≡ laid (job_block key) ins (take n net.jobs) → cells ≡ evaluated key net ins
laid-all key net ins cells m n e f h =
    sym (take-length cells) ∙ ap (λ k. take k cells) (sym e) ∙ h
    ∙ ap (λ k. laid (job_block key) ins (take k net.jobs)) f
    ∙ ap (laid (job_block key) ins) (take-length net.jobs) ∙ sym (evaluated-laid key net ins)
