-- What a server key gives for a job: the bootstrap of the weighted sum of the operands.
use Rattle.std.specs.Prelude.{ℕ, ℤ, pos, ◌+ℤ◌, ◌*ℤ◌, ◌+◌, ◌*◌, nat_lt, if◌then◌else◌, ◌≡◌, Option, Some, None, List, ◌++◌, length, get_or, take, drop}
use Rattle.rx_laws.specs.Sum.{sum_to}
use Rattle.rx_laws.specs.Words.{words_below}
use Rattle.rx_laws.specs.Decode.{unit}
use Rattle.rx_params.specs.declared.params.Params.{Params}
use Rattle.rx_params.specs.Derived.{large_dim}
use Rattle.rx_params.specs.Sets.{set_of}
use Rattle.rx_params.specs.Text.{fields_of}
use Rattle.rx_net.specs.declared.term.Term.{Term}
use Rattle.rx_net.specs.declared.net.Job.{Job}
use Rattle.rx_boot.specs.BootKeys.{boot_size}
use Rattle.rx_boot.specs.ServerKeys.{ServerWords}
use Rattle.rx_boot.specs.Bootstrap.{bootstrapped}
use Rattle.rx_block.specs.Combine.{no_term}

-- a server key as a list of numbers: the ten fields of its set, and then its words
abbrev pub key_basis : ServerWords → List ℕ
key_basis k = fields_of k.params ++ k.boot ++ k.switch

-- the server key that such a list is
abbrev pub field_in : List ℕ → ℕ → ℕ
field_in basis i = get_or basis i 0

abbrev pub basis_params : List ℕ → Params
basis_params basis =
    set_of (field_in basis 0) (field_in basis 1) (field_in basis 2) (field_in basis 3) (field_in basis 4)
    (field_in basis 5) (field_in basis 6) (field_in basis 7) (field_in basis 8) (field_in basis 9)

abbrev pub basis_key : List ℕ → ServerWords
basis_key basis = record {
  params = basis_params basis;
  boot = take (boot_size (basis_params basis)) (drop 10 basis);
  switch = drop (boot_size (basis_params basis)) (drop 10 basis);
}

-- number i of the words of a term: the weight times the word of its operand, which stands after those of the terms before it
abbrev pub weighted_operand : Params → List Term → List ℕ → ℕ → ℕ → ℤ
weighted_operand p terms operands i t =
    let x : Term = get_or terms t no_term in x.weight *ℤ pos (get_or operands (t * (large_dim p + 1) + i) 0)

-- number i of the weighted sum of a job's operands, which stand one after another, the constant, in units, added to the body
abbrev pub mixed_operands : Params → List Term → ℤ → List ℕ → ℕ → ℤ
mixed_operands p terms constant operands i =
    sum_to (length terms) (weighted_operand p terms operands i)
    +ℤ (if nat_lt i (large_dim p) then pos 0 else pos (unit p.message_bits) *ℤ constant)

-- the words of a job
unfoldable pub job_words : List ℕ → Job → List ℕ → List ℕ
job_words basis job operands =
    let k : ServerWords = basis_key basis in
    bootstrapped k job.table (words_below (large_dim k.params + 1) (mixed_operands k.params job.terms job.constant operands))

-- a kernel, as contracts see it: its key, and how many runs there were
pub record KernelValue : Type 0 where
  pub key : ServerWords
  pub runs : ℕ

-- the job that a kernel keeps is the one that it was told of, if it was told of any
abbrev pub IsToldOf : ℕ → Option ℕ → Type 0
IsToldOf kept None = Unit {0}
IsToldOf kept (Some job) = kept ≡ job
