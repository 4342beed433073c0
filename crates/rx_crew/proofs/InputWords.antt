-- The words of the input blocks, one block after another, as the rows of a board.
use Rattle.std.proofs.Common.{◌≡◌, ℕ, suc, ◌+◌, ◌*◌, ◌<◌, List, [], ◌∷◌, ◌++◌, length, get_or, map, take, drop, refl, sym, ◌∙◌, ap, arith, length-append, suc-mul}
use Rattle.std.proofs.Math.Seq.{take-append_seam, drop-append_seam}
use Rattle.rx_params.specs.Derived.{large_dim}
use Rattle.rx_net.specs.declared.net.Net.{Net}
use Rattle.rx_net.specs.Cells.{cells_of}
use Rattle.rx_uses.specs.Cells.{rows}
use Rattle.rx_boot.specs.ServerKeys.{ServerWords}
use Rattle.rx_block.specs.declared.block.Block.{Block}
use Rattle.rx_block.specs.Combine.{no_block}
use Rattle.rx_board.specs.declared.view.Plan.{Plan}
use Rattle.rx_board.specs.Rule.{plan_of, input_count}
use Rattle.rx_crew.specs.Kernel.{key_basis, job_words}
use Rattle.rx_crew.specs.Evaluation.{AreInputs, block_words}
use Rattle.rx_crew.specs.Work.{run_plan}

-- each block has w words
abbrev Wide : ℕ → List Block → Type 0
Wide w bs = (c : ℕ) → c < length bs → length (get_or bs c no_block).words ≡ w

pub length-block_words : (w : ℕ) (bs : List Block) → Wide w bs → length (block_words bs) ≡ length bs * w
length-block_words w [] wide = omega arith
length-block_words w (b ∷ bs) wide =
    let n : ℕ = length bs * w in
    let row : suc (length bs) * w ≡ w + n = (let e = suc-mul (length bs) w in omega arith) in
    omega (arith, wide 0 (omega arith), row, length-append b.words (block_words bs), length-block_words w bs (λ c p. wide (suc c) (omega arith)))

pub rows-block_words : (w : ℕ) (bs : List Block) → Wide w bs → rows w (length bs) (block_words bs) ≡ map (λ (b : Block). b.words) bs
rows-block_words w [] wide = refl
rows-block_words w (b ∷ bs) wide =
    let ws : List ℕ = b.words ++ block_words bs in
    let first : take w ws ≡ b.words = ap (λ n. take n ws) (sym (wide 0 (omega arith))) ∙ take-append_seam b.words (block_words bs) in
    let rest : drop w ws ≡ block_words bs = ap (λ n. drop n ws) (sym (wide 0 (omega arith))) ∙ drop-append_seam b.words (block_words bs) in
    ap (λ x. x ∷ rows w (length bs) (drop w ws)) first
    ∙ ap (λ xs. b.words ∷ xs) (ap (rows w (length bs)) rest ∙ rows-block_words w bs (λ c p. wide (suc c) (omega arith)))

-- what a board of these inputs is about
pub plan-same : (key : ServerWords) (net : Net) (inputs : List Block) → AreInputs key.params net inputs →
    plan_of job_words (key_basis key) net (large_dim key.params + 1) (block_words inputs) ≡ run_plan key net inputs
plan-same key net inputs are =
    let w : ℕ = large_dim key.params + 1 in
    let cells : rows w (input_count net) (block_words inputs) ≡ map (λ (b : Block). b.words) inputs =
    ap (λ n. rows w n (block_words inputs)) (sym are.count) ∙ rows-block_words w inputs are.sizes in
    let of : List (List ℕ) → Plan = λ ins. record { net = net; width = w; cells = cells_of job_words (key_basis key) net ins } in
    ap of cells

-- how many words the inputs have
pub length-inputs : (key : ServerWords) (net : Net) (inputs : List Block) → AreInputs key.params net inputs →
    length (block_words inputs) ≡ input_count net * (large_dim key.params + 1)
length-inputs key net inputs are = length-block_words (large_dim key.params + 1) inputs are.sizes ∙ ap (λ n. n * (large_dim key.params + 1)) are.count
