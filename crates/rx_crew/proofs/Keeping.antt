-- Every cell of an evaluated net keeps its value, job after job.
use Rattle.std.proofs.Common.{◌≡◌, ℕ, ◌+◌, ◌<◌, ◌≤◌, List, [], ◌∷◌, ◌++◌, length, get_or, sym, subst, ◌∙◌, ap, arith, length-append, append_assoc, append-nil}
use Rattle.rx_params.specs.declared.params.Params.{Params}
use Rattle.rx_params.specs.Acceptance.{Accepts}
use Rattle.rx_net.specs.declared.net.Job.{Job}
use Rattle.rx_net.specs.declared.net.NetInput.{NetInput}
use Rattle.rx_net.specs.declared.net.Net.{Net}
use Rattle.rx_net.specs.Cells.{input_cells, given, laid, job_value, declared_degree, unit_noise, values_after, degrees_after, noises_after, value, degree, noise}
use Rattle.rx_net.specs.Legal.{InTurn, IsJob, Legal}
use Rattle.rx_net.proofs.Laid.{laid-last}
use Rattle.rx_net.proofs.Inputs.{length-given, given_degree, given_noise}
use Rattle.rx_boot.specs.BootKeys.{boot_size}
use Rattle.rx_boot.specs.ServerKeys.{ServerWords}
use Rattle.rx_boot.specs.NoiseLaws.{LookupLaws}
use Rattle.rx_block.specs.declared.block.Block.{Block}
use Rattle.rx_block.specs.Combine.{degree_in, noise_in}
use Rattle.rx_block.specs.Keeps.{AreKept}
use Rattle.rx_block.specs.NoiseLaws.{KeepsLaws}
use Rattle.rx_block.specs.Outputs.{numbers_of, output_blocks}
use Rattle.rx_block.proofs.KeptLists.{numbered_kept}
use Rattle.rx_crew.specs.Evaluation.{AreInputs, job_block, evaluated}
use Rattle.rx_crew.specs.Noise.{KeepsCells, KeepsOutputs, output_values}
use Rattle.rx_crew.specs.Laws.{KeepingLaws}
use Rattle.rx_crew.proofs.Laying.{evaluated-laid}
use Rattle.rx_crew.proofs.CellTags.{evaluation_laws}
use Rattle.rx_crew.proofs.OutputCells.{numbers-below}
use Rattle.rx_crew.proofs.KeptCells.{AreCells, cells-more, cells-kept, are-cells}
use Rattle.rx_crew.proofs.KeptJob.{Setting, Follows, job-cell}

-- the blocks keep the values of the cells after these jobs, within their degrees and noises
abbrev pub CellsAfter : Params → List ℕ → List NetInput → List ℕ → List Job → List Block → Type 0
CellsAfter p large inputs values before blocks =
    AreCells p large (input_cells p.message_bits inputs + length before) (values_after values before)
    (degrees_after p.message_bits inputs before) (noises_after p.message_bits inputs before) blocks

-- cells of other lists that are equal
cells-same : (p : Params) (large : List ℕ) (count count' : ℕ) (xs xs' ds ds' ns ns' : List ℕ) (blocks : List Block) →
    count' ≡ count → xs' ≡ xs → ds' ≡ ds → ns' ≡ ns → AreCells p large count xs ds ns blocks → AreCells p large count' xs' ds' ns' blocks
cells-same p large count count' xs xs' ds ds' ns ns' blocks ec ex ed en cells =
    subst (λ (n : ℕ). AreCells p large n xs' ds' ns' blocks) (sym ec)
    (subst (λ (ys : List ℕ). AreCells p large count ys ds' ns' blocks) (sym ex)
    (subst (λ (ys : List ℕ). AreCells p large count xs ys ns' blocks) (sym ed)
    (subst (λ (ys : List ℕ). AreCells p large count xs ds ys blocks) (sym en) cells)))

follows-from : (p : Params) (inputs : List NetInput) (before : List Job) (job : Job) → IsJob p.message_bits inputs before job →
    Follows p (input_cells p.message_bits inputs + length before) (degrees_after p.message_bits inputs before) (noises_after p.message_bits inputs before) job
follows-from p inputs before job is = record { fits = is.fits; declared = is.declared }

-- the cells after one job more
job-more : (key : ServerWords) (small large : List ℕ) (inputs : List NetInput) (values : List ℕ) (before : List Job) (blocks : List Block) (job : Job) →
    Setting key small large → CellsAfter key.params large inputs values before blocks → IsJob key.params.message_bits inputs before job →
    CellsAfter key.params large inputs values (before ++ job ∷ []) (blocks ++ job_block key job blocks ∷ [])
unfolding values_after degrees_after noises_after
job-more key small large inputs values before blocks job setting cells is =
    let p : Params = key.params in
    let n : ℕ = input_cells p.message_bits inputs + length before in
    let xs : List ℕ = values_after values before in
    let ds : List ℕ = degrees_after p.message_bits inputs before in
    let ns : List ℕ = noises_after p.message_bits inputs before in
    let given_degrees : List ℕ = given p.message_bits (λ (i : NetInput). i.degree) inputs in
    let given_noises : List ℕ = given p.message_bits (λ (i : NetInput). i.noise) inputs in
    cells-same p large (n + 1) _ (xs ++ job_value job xs ∷ []) _ (ds ++ job.degree ∷ []) _ (ns ++ 1 ∷ []) _ (blocks ++ job_block key job blocks ∷ [])
    (omega (arith, length-append before (job ∷ [])))
    (laid-last job_value values before job) (laid-last declared_degree given_degrees before job) (laid-last unit_noise given_noises before job)
    (cells-more p large n xs ds ns blocks (job_value job xs) job.degree 1 (job_block key job blocks) cells
    (job-cell key small large n xs ds ns blocks job setting cells (follows-from p inputs before job is)))

-- the cells after all jobs
jobs-all : (key : ServerWords) (small large : List ℕ) (inputs : List NetInput) (values : List ℕ) (before jobs : List Job) (blocks : List Block) →
    Setting key small large → CellsAfter key.params large inputs values before blocks → InTurn (IsJob key.params.message_bits inputs) before jobs →
    CellsAfter key.params large inputs values (before ++ jobs) (laid (job_block key) blocks jobs)
unfolding laid
jobs-all key small large inputs values before [] blocks setting cells legal =
    subst (λ (js : List Job). CellsAfter key.params large inputs values js blocks) (sym (append-nil before)) cells
jobs-all key small large inputs values before (j ∷ js) blocks setting cells legal =
    let b : Block = job_block key j blocks in
    subst (λ (ks : List Job). CellsAfter key.params large inputs values ks (laid (job_block key) (blocks ++ b ∷ []) js)) (append_assoc before (j ∷ []) js)
    (jobs-all key small large inputs values (before ++ j ∷ []) js (blocks ++ b ∷ []) setting
    (job-more key small large inputs values before blocks j setting cells legal.0) legal.1)

le-equal : (a b c : ℕ) → a ≤ b → b ≡ c → a ≤ c
le-equal a b c h e = omega arith

input-degree : (net : Net) (c : ℕ) → c < input_cells net.space net.inputs → degree net c ≡ get_or (given net.space (λ (i : NetInput). i.degree) net.inputs) c 0
unfolding degree
input-degree net c p = given_degree net.space net.inputs net.jobs c p

input-noise : (net : Net) (c : ℕ) → c < input_cells net.space net.inputs → noise net c ≡ get_or (given net.space (λ (i : NetInput). i.noise) net.inputs) c 0
unfolding noise
input-noise net c p = given_noise net.space net.inputs net.jobs c p

-- the inputs, before any job
inputs-first : (p : Params) (large : List ℕ) (net : Net) (inputs : List Block) (values : List ℕ) → AreInputs p net inputs → AreKept p large inputs values →
    AreCells p large (input_cells net.space net.inputs + 0) values
    (given net.space (λ (i : NetInput). i.degree) net.inputs) (given net.space (λ (i : NetInput). i.noise) net.inputs) inputs
inputs-first p large net inputs values are kept =
    are-cells p large (input_cells net.space net.inputs + 0) values
    (given net.space (λ (i : NetInput). i.degree) net.inputs) (given net.space (λ (i : NetInput). i.noise) net.inputs) inputs
    (omega (arith, are.count))
    (omega (arith, length-given net.space (λ (i : NetInput). i.degree) net.inputs))
    (omega (arith, length-given net.space (λ (i : NetInput). i.noise) net.inputs))
    are.sizes kept
    (λ c q. le-equal (degree_in inputs c) (degree net c) _ (are.degrees c q) (input-degree net c (omega (arith, are.count))))
    (λ c q. le-equal (noise_in inputs c) (noise net c) _ (are.noises c q) (input-noise net c (omega (arith, are.count))))

inputs-after : (p : Params) (large : List ℕ) (net : Net) (inputs : List Block) (values : List ℕ) → net.space ≡ p.message_bits →
    AreInputs p net inputs → AreKept p large inputs values → CellsAfter p large net.inputs values [] inputs
unfolding values_after degrees_after noises_after laid
inputs-after p large net inputs values space are kept =
    subst (λ (s : ℕ). AreCells p large (input_cells s net.inputs + 0) values
    (given s (λ (i : NetInput). i.degree) net.inputs) (given s (λ (i : NetInput). i.noise) net.inputs) inputs)
    space (inputs-first p large net inputs values are kept)

cells-keep : LookupLaws → KeepsLaws → (key : ServerWords) (net : Net) (inputs : List Block) → Accepts key.params → length key.boot ≡ boot_size key.params →
    Legal net → net.space ≡ key.params.message_bits → AreInputs key.params net inputs → KeepsCells key net inputs
cells-keep lookup sums key net inputs accepted rows legal space are small large values secret server kept =
    let p : Params = key.params in
    let setting : Setting key small large = record { lookup = lookup; sums = sums; accepted = accepted; rows = rows; secret = secret; server = server } in
    let jobs : InTurn (IsJob p.message_bits net.inputs) [] net.jobs = subst (λ (s : ℕ). InTurn (IsJob s net.inputs) [] net.jobs) space legal.jobs in
    subst (λ (blocks : List Block). AreKept p large blocks (values_after values net.jobs)) (sym (evaluated-laid key net inputs))
    (cells-kept p large (input_cells p.message_bits net.inputs + length net.jobs) (values_after values net.jobs)
    (degrees_after p.message_bits net.inputs net.jobs) (noises_after p.message_bits net.inputs net.jobs) (laid (job_block key) inputs net.jobs)
    (jobs-all key small large net.inputs values [] net.jobs inputs setting (inputs-after p large net inputs values space are kept) jobs))

-- every cell of an evaluated net keeps its value
pub keeping_laws_from : LookupLaws → KeepsLaws → KeepingLaws
keeping_laws_from lookup sums = record { cells = cells-keep lookup sums }

-- every output keeps its value
pub outputs-keep : (key : ServerWords) (net : Net) (inputs outputs : List Block) → Legal net → AreInputs key.params net inputs →
    KeepsCells key net inputs → outputs ≡ output_blocks (evaluated key net inputs) net.outputs → KeepsOutputs key net inputs outputs
unfolding value
outputs-keep key net inputs outputs legal are keeps same small large values secret server kept =
    let cells : List Block = evaluated key net inputs in
    let numbers : List ℕ = numbers_of net.outputs in
    subst (λ (bs : List Block). AreKept key.params large bs (output_values net values)) (sym same)
    (numbered_kept key.params large cells (values_after values net.jobs) numbers (keeps small large values secret server kept)
    (numbers-below net (length cells) legal (evaluation_laws.count key net inputs ∙ ap (λ n. n + length net.jobs) are.count)))
