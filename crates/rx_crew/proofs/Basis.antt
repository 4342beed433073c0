-- A server key as a basis, and the words of a job.
use Rattle.std.proofs.Common.{◌≡◌, ℕ, ℤ, ◌+◌, List, ◌++◌, length, map, take, drop, sym, ◌∙◌, ap}
use Rattle.std.proofs.Math.Seq.{take-append_seam, drop-append_seam}
use Rattle.rx_laws.specs.Words.{words_below}
use Rattle.rx_laws.proofs.Words.{words_below-are}
use Rattle.rx_ring.specs.Glwe.{extracted}
use Rattle.rx_params.specs.declared.params.Params.{Params}
use Rattle.rx_params.specs.Derived.{large_dim}
use Rattle.rx_net.specs.declared.net.Job.{Job}
use Rattle.rx_net.specs.declared.term.Term.{Term}
use Rattle.rx_net.specs.Cells.{operand_words}
use Rattle.rx_lwe.specs.SwitchKeys.{switch_key, switched_words}
use Rattle.rx_boot.specs.BootKeys.{boot_size}
use Rattle.rx_boot.specs.ServerKeys.{ServerWords}
use Rattle.rx_boot.specs.Bootstrap.{bootstrapped, rotation_of}
use Rattle.rx_block.specs.declared.block.Block.{Block}
use Rattle.rx_block.specs.Combine.{AreCellsOf, AreBlocksOf, mixed_words}
use Rattle.rx_crew.specs.Kernel.{key_basis, basis_key, mixed_operands, job_words}
use Rattle.rx_crew.specs.Evaluation.{job_block}
use Rattle.rx_crew.proofs.Operands.{mixed_words-same}

-- the key that a key's basis is
pub basis_key-same : (k : ServerWords) → length k.boot ≡ boot_size k.params → basis_key (key_basis k) ≡ k
basis_key-same k e =
    let boot : take (boot_size k.params) (k.boot ++ k.switch) ≡ k.boot =
    ap (λ n. take n (k.boot ++ k.switch)) (sym e) ∙ take-append_seam k.boot k.switch in
    let switch : drop (boot_size k.params) (k.boot ++ k.switch) ≡ k.switch =
    ap (λ n. drop n (k.boot ++ k.switch)) (sym e) ∙ drop-append_seam k.boot k.switch in
    λ i. record { params = k.params; boot = boot i; switch = switch i }

-- what a job gives for operands that stand one after another
pub job_words-of : (k : ServerWords) (job : Job) (operands : List ℕ) → length k.boot ≡ boot_size k.params →
    job_words (key_basis k) job operands
    ≡ bootstrapped k job.table (words_below (large_dim k.params + 1) (mixed_operands k.params job.terms job.constant operands))
unfolding job_words
job_words-of k job operands e =
    ap (λ (x : ServerWords). bootstrapped x job.table (words_below (large_dim x.params + 1) (mixed_operands x.params job.terms job.constant operands)))
    (basis_key-same k e)

-- the words of a job, as they are made
pub job_words-made : (k : ServerWords) (job : Job) (operands : List ℕ) (p : Params) (terms : List Term) (constant : ℤ) (table sum out : List ℕ) →
    length k.boot ≡ boot_size k.params → p ≡ k.params → terms ≡ job.terms → constant ≡ job.constant → table ≡ job.table →
    sum ≡ words_below (large_dim p + 1) (mixed_operands p terms constant operands) → out ≡ bootstrapped k table sum → out ≡ job_words (key_basis k) job operands
job_words-made k job operands p terms constant table sum out rows e f g h mixed is =
    let words : Params → List Term → ℤ → List ℕ = λ x ts z. words_below (large_dim x + 1) (mixed_operands x ts z operands) in
    let same : sum ≡ words k.params job.terms job.constant =
    mixed ∙ ap (λ x. words x terms constant) e ∙ ap (λ ts. words k.params ts constant) f ∙ ap (words k.params job.terms) g in
    is ∙ ap (λ ts. bootstrapped k ts sum) h ∙ ap (bootstrapped k job.table) same ∙ sym (job_words-of k job operands rows)

-- what a job gives for blocks
pub job_words-same : (k : ServerWords) (job : Job) (blocks : List Block) → length k.boot ≡ boot_size k.params →
    AreCellsOf blocks job.terms → AreBlocksOf k.params blocks →
    job_words (key_basis k) job (operand_words (map (λ (b : Block). b.words) blocks) job.terms)
    ≡ bootstrapped k job.table (mixed_words k.params blocks job.terms job.constant)
job_words-same k job blocks e cells sizes =
    let operands : List ℕ = operand_words (map (λ (b : Block). b.words) blocks) job.terms in
    job_words-of k job operands e
    ∙ ap (bootstrapped k job.table) (mixed_words-same k.params blocks job.terms job.constant cells sizes)

pub length-bootstrapped : (k : ServerWords) (table input : List ℕ) → length (bootstrapped k table input) ≡ large_dim k.params + 1
unfolding bootstrapped
length-bootstrapped k table input =
    (words_below-are (large_dim k.params + 1) (extracted k.params.poly_size k.params.glwe_dim
    (rotation_of k.params k.boot table (switched_words (switch_key k.params k.switch) input)))).count

pub length-job_block : (k : ServerWords) (job : Job) (blocks : List Block) → length k.boot ≡ boot_size k.params →
    length (job_block k job blocks).words ≡ large_dim k.params + 1
unfolding job_words
length-job_block k job blocks e =
    let operands : List ℕ = operand_words (map (λ (b : Block). b.words) blocks) job.terms in
    let x : ServerWords = basis_key (key_basis k) in
    length-bootstrapped x job.table (words_below (large_dim x.params + 1) (mixed_operands x.params job.terms job.constant operands))

-- the block of a job, as it is made
pub job_block-made : (k : ServerWords) (job : Job) (blocks earlier : List Block) (p : Params) (terms : List Term) (constant : ℤ) (input : List ℕ) (made : Block) →
    length k.boot ≡ boot_size k.params → AreCellsOf blocks job.terms → AreBlocksOf k.params blocks →
    earlier ≡ blocks → p ≡ k.params → terms ≡ job.terms → constant ≡ job.constant → input ≡ mixed_words p earlier terms constant →
    made ≡ record { words = bootstrapped k job.table input; degree = job.degree; noise = 1 } → made ≡ job_block k job blocks
job_block-made k job blocks earlier p terms constant input made rows cells sizes e f g h mixed is =
    let sum : input ≡ mixed_words k.params blocks job.terms job.constant =
    mixed ∙ ap (λ xs. mixed_words p xs terms constant) e ∙ ap (λ (x : Params). mixed_words x blocks terms constant) f
    ∙ ap (λ ts. mixed_words k.params blocks ts constant) g ∙ ap (mixed_words k.params blocks job.terms) h in
    let of : List ℕ → Block = λ ws. record { words = ws; degree = job.degree; noise = 1 } in
    is ∙ ap (λ ws. of (bootstrapped k job.table ws)) sum ∙ ap of (sym (job_words-same k job blocks rows cells sizes))
