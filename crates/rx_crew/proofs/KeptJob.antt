-- A job over cells that keep values: its block keeps the table's entry.
use Rattle.std.proofs.Common.{◌≡◌, ℕ, ◌-◌, ◌*◌, ◌<◌, ◌≤◌, List, length, get_or, map, sym, subst, arith}
use Rattle.std.specs.List.{AllByRecursion}
use Rattle.std.proofs.Math.Nat.{le_trans, mul-le-mul_right}
use Rattle.rx_laws.specs.Decode.{plaintexts}
use Rattle.rx_params.specs.declared.params.Params.{Params}
use Rattle.rx_params.specs.Derived.{noise_limit, boot_of, base_of}
use Rattle.rx_params.specs.Acceptance.{Accepts}
use Rattle.rx_net.specs.declared.term.Term.{Term}
use Rattle.rx_net.specs.declared.net.Job.{Job}
use Rattle.rx_net.specs.Tags.{value_of, low_of, high_of, noise_of, natural}
use Rattle.rx_net.specs.Cells.{job_value, operand_words}
use Rattle.rx_net.specs.Legal.{JobFits, reached}
use Rattle.rx_net.proofs.Bounded.{between_below, LooksUp, looks_up}
use Rattle.rx_boot.specs.BootKeys.{boot_size}
use Rattle.rx_boot.specs.ServerKeys.{ServerWords, IsSecret, IsServerKey}
use Rattle.rx_boot.specs.Bootstrap.{bootstrapped}
use Rattle.rx_boot.specs.Noise.{IsNear, input_noise}
use Rattle.rx_boot.specs.NoiseLaws.{LookupLaws}
use Rattle.rx_block.specs.declared.block.Block.{Block}
use Rattle.rx_block.specs.Combine.{no_term, noise_in, AreCellsOf, mixed_words}
use Rattle.rx_block.specs.Noise.{KeepOperands}
use Rattle.rx_block.specs.NoiseLaws.{KeepsLaws}
use Rattle.rx_crew.specs.Kernel.{key_basis, job_words}
use Rattle.rx_crew.specs.Evaluation.{job_block}
use Rattle.rx_crew.proofs.Operands.{cells-of}
use Rattle.rx_crew.proofs.Basis.{job_words-same, length-job_block}
use Rattle.rx_crew.proofs.TermBounds.{noise_of-le}
use Rattle.rx_crew.proofs.KeptCells.{IsCell, AreCells, cells-sizes, cells-value, cells-noise}

-- a server key of a secret under an accepted set, and the laws of what is kept under it
pub record Setting (key : ServerWords) (small large : List ℕ) : Type 0 where
  pub lookup : LookupLaws
  pub sums : KeepsLaws
  pub accepted : Accepts key.params
  pub rows : length key.boot ≡ boot_size key.params
  pub secret : IsSecret key.params small large
  pub server : IsServerKey small large key

-- a job that may follow so many cells of these degrees and noises, and declares the degree that it reaches
pub record Follows (p : Params) (count : ℕ) (ds ns : List ℕ) (job : Job) : Type 0 where
  pub fits : JobFits p.message_bits count (λ c. get_or ds c 0) (λ c. get_or ns c 0) job.terms job.constant job.table
  pub declared : job.degree ≡ reached (λ c. get_or ds c 0) job.terms job.constant job.table

near-within : (p : Params) (key words : List ℕ) (x a b : ℕ) → IsNear p key words x a → a ≤ b → IsNear p key words x b
near-within p key words x a b near le = le_trans near le

boot-base : (p : Params) → boot_of p ≤ 1 * base_of p
unfolding base_of
boot-base p = omega arith

-- the value of the weighted sum is an index of the table, and the entry there is within the declared degree
job-looks_up : (p : Params) (large : List ℕ) (count : ℕ) (xs ds ns : List ℕ) (blocks : List Block) (job : Job) →
    AreCells p large count xs ds ns blocks → Follows p count ds ns job →
    LooksUp (λ c. get_or xs c 0) (λ c. get_or ds c 0) job.terms job.constant job.table
job-looks_up p large count xs ds ns blocks job cells follows =
    looks_up p.message_bits count (λ c. get_or xs c 0) (λ c. get_or ds c 0) (λ c. get_or ns c 0) job.terms job.constant job.table
    (cells-value p large count xs ds ns blocks cells) follows.fits

cells-named : (count : ℕ) (blocks : List Block) (terms : List Term) → length blocks ≡ count →
    AllByRecursion (λ (t : Term). t.cell < count) terms → AreCellsOf blocks terms
cells-named count blocks terms e forward t q = omega (arith, cells-of count terms forward t q)

operands-keep : (p : Params) (large : List ℕ) (count : ℕ) (xs ds ns : List ℕ) (blocks : List Block) (terms : List Term) →
    AreCells p large count xs ds ns blocks → AllByRecursion (λ (t : Term). t.cell < count) terms →
    KeepOperands p large blocks terms (λ c. get_or xs c 0)
operands-keep p large count xs ds ns blocks terms cells forward t q =
    (cells.each (get_or terms t no_term).cell (cells-of count terms forward t q)).keeps

-- the noise of the weighted sum is one that a lookup may be given
sum-noise : (p : Params) (large : List ℕ) (count : ℕ) (xs ds ns : List ℕ) (blocks : List Block) (job : Job) →
    AreCells p large count xs ds ns blocks → Follows p count ds ns job → noise_of (noise_in blocks) job.terms * base_of p ≤ input_noise p
sum-noise p large count xs ds ns blocks job cells follows =
    let least : noise_of (noise_in blocks) job.terms ≤ noise_of (λ c. get_or ns c 0) job.terms =
    noise_of-le (noise_in blocks) (λ c. get_or ns c 0) count job.terms (cells-noise p large count xs ds ns blocks cells) follows.fits.forward in
    let most : noise_of (λ c. get_or ns c 0) job.terms ≤ noise_limit p.message_bits = follows.fits.noise_in in
    mul-le-mul_right (base_of p) (omega arith)

-- the weighted sum of the operands holds its value, within the noise that a lookup may be given
sum-near : (key : ServerWords) (small large : List ℕ) (count : ℕ) (xs ds ns : List ℕ) (blocks : List Block) (job : Job) →
    Setting key small large → AreCells key.params large count xs ds ns blocks → Follows key.params count ds ns job →
    IsNear key.params large (mixed_words key.params blocks job.terms job.constant) (natural (value_of (λ c. get_or xs c 0) job.constant job.terms)) (input_noise key.params)
sum-near key small large count xs ds ns blocks job setting cells follows =
    let p : Params = key.params in
    let value : ℕ → ℕ = λ c. get_or xs c 0 in
    near-within p large (mixed_words p blocks job.terms job.constant) (natural (value_of value job.constant job.terms))
    (noise_of (noise_in blocks) job.terms * base_of p) (input_noise p)
    (setting.sums.near p large blocks job.terms job.constant value setting.secret.large_size
    (operands-keep p large count xs ds ns blocks job.terms cells follows.fits.forward)
    (job-looks_up p large count xs ds ns blocks job cells follows).low)
    (sum-noise p large count xs ds ns blocks job cells follows)

-- the words of the job hold the table's entry at that value
job-near : (key : ServerWords) (small large : List ℕ) (count : ℕ) (xs ds ns : List ℕ) (blocks : List Block) (job : Job) →
    Setting key small large → AreCells key.params large count xs ds ns blocks → Follows key.params count ds ns job →
    IsNear key.params large (job_words (key_basis key) job (operand_words (map (λ (b : Block). b.words) blocks) job.terms))
    (job_value job xs) (1 * base_of key.params)
unfolding job_value
job-near key small large count xs ds ns blocks job setting cells follows =
    let p : Params = key.params in
    let x : ℕ = natural (value_of (λ c. get_or xs c 0) job.constant job.terms) in
    let sum : List ℕ = mixed_words p blocks job.terms job.constant in
    let inside : x < plaintexts p.message_bits =
    subst (λ (n : ℕ). x < n) follows.fits.table_count (job-looks_up p large count xs ds ns blocks job cells follows).high in
    let same : job_words (key_basis key) job (operand_words (map (λ (b : Block). b.words) blocks) job.terms) ≡ bootstrapped key job.table sum =
    job_words-same key job blocks setting.rows (cells-named count blocks job.terms cells.blocks_count follows.fits.forward)
    (cells-sizes p large count xs ds ns blocks cells) in
    subst (λ (words : List ℕ). IsNear p large words (get_or job.table x 0) (1 * base_of p)) (sym same)
    (near-within p large (bootstrapped key job.table sum) (get_or job.table x 0) (boot_of p) (1 * base_of p)
    (setting.lookup.looks_up key job.table sum setting.accepted small large x setting.secret setting.server inside
    (sum-near key small large count xs ds ns blocks job setting cells follows))
    (boot-base p))

-- the declared degree is one of a block
degree-below : (p : Params) (count : ℕ) (ds ns : List ℕ) (job : Job) (i : ℕ) → Follows p count ds ns job → i < length job.table →
    job.degree < plaintexts p.message_bits
degree-below p count ds ns job i follows inside =
    let some : 0 < length job.table = omega arith in
    subst (λ (d : ℕ). d < plaintexts p.message_bits) (sym follows.declared)
    (between_below (plaintexts p.message_bits) job.table
    (natural (low_of (λ c. get_or ds c 0) job.constant job.terms)) (natural (high_of (λ c. get_or ds c 0) job.constant job.terms))
    (subst (λ (n : ℕ). 0 < n) follows.fits.table_count some) follows.fits.table_entries)

below-le : (a b : ℕ) → a < b → a ≤ b - 1
below-le a b h = omega arith

equal-le : (a b c : ℕ) → a ≤ b → c ≡ b → a ≤ c
equal-le a b c h e = omega arith

one-within : (m : ℕ) → 1 ≤ noise_limit m
one-within m = omega arith

-- the block of a job keeps the value that the net gives its cell
pub job-cell : (key : ServerWords) (small large : List ℕ) (count : ℕ) (xs ds ns : List ℕ) (blocks : List Block) (job : Job) →
    Setting key small large → AreCells key.params large count xs ds ns blocks → Follows key.params count ds ns job →
    IsCell key.params large (job_value job xs) job.degree 1 (job_block key job blocks)
unfolding job_value
job-cell key small large count xs ds ns blocks job setting cells follows =
    let p : Params = key.params in
    let up = job-looks_up p large count xs ds ns blocks job cells follows in
    record {
      size = length-job_block key job blocks setting.rows;
      keeps = record {
        value = equal-le (job_value job xs) (reached (λ c. get_or ds c 0) job.terms job.constant job.table) job.degree up.entry follows.declared;
        degree = below-le job.degree (plaintexts p.message_bits)
            (degree-below p count ds ns job (natural (value_of (λ c. get_or xs c 0) job.constant job.terms)) follows up.high);
        noise = one-within p.message_bits;
        near = job-near key small large count xs ds ns blocks job setting cells follows;
      };
      degree = omega arith;
      noise = omega arith;
    }
