-- The laws of folded nets.
use Rattle.std.specs.Prelude.{◌≡◌, ℕ, ◌+◌, ◌<◌, ◌≤◌, ◌⊎◌, Bool, IsTrue, List, [], map, length, get_or}
use Rattle.rx_net.specs.declared.term.Term.{Term}
use Rattle.rx_net.specs.declared.net.Job.{Job}
use Rattle.rx_net.specs.declared.net.NetOutput.{NetOutput}
use Rattle.rx_net.specs.declared.net.Net.{Net}
use Rattle.rx_net.specs.Cells.{degree, noise, net_depth, values_after, cells_of, Within}
use Rattle.rx_net.specs.Numbers.{outs}
use Rattle.rx_net.specs.Legal.{Legal}
use Rattle.rx_fold.specs.Jobs.{moved, AreEqual, job_at}
use Rattle.rx_fold.specs.Folded.{input_count, rep, names, names_any, cells_given, is_live, folded}

-- ---- what stands for a cell, and what is live

-- the job i is the first of the jobs that equal the job j, where in both each cell is replaced by the one that stands for it
pub record IsFirst (net : Net) (i j : ℕ) : Type 0 where
  pub earlier : i ≤ j
  pub equal : AreEqual (moved (rep net) (job_at net.jobs i)) (moved (rep net) (job_at net.jobs j))
  pub first : (k : ℕ) → k < i → AreEqual (moved (rep net) (job_at net.jobs k)) (moved (rep net) (job_at net.jobs j)) → ⊥

pub record HasReps (net : Net) : Type 0 where
  pub of_input : (c : ℕ) → c < input_count net → rep net c ≡ c
  pub of_job : (j : ℕ) → j < length net.jobs → (i : ℕ) × (rep net (input_count net + j) ≡ input_count net + i) × IsFirst net i j

-- a set that holds what stands for each output's cells and, with a job's cell, what stands for the cells of its terms
pub record IsClosed (net : Net) (has : ℕ → Bool) : Type 0 where
  pub outputs : (c : ℕ) → IsTrue (names_any (cells_given net.outputs) c) → IsTrue (has (rep net c))
  pub jobs : (j : ℕ) → j < length net.jobs → IsTrue (has (input_count net + j)) → (c : ℕ) → IsTrue (names (job_at net.jobs j) c) → IsTrue (has (rep net c))

-- the live cells are the least such set
pub record HasLive (net : Net) : Type 0 where
  pub closed : IsClosed net (is_live net)
  pub least : (has : ℕ → Bool) → IsClosed net has → (c : ℕ) → IsTrue (is_live net c) → IsTrue (has c)

-- ---- the folded net

-- no two jobs are equal, and each job's cell is an output's or is named by a later job
pub record IsFolded (net : Net) : Type 0 where
  pub apart : (i j : ℕ) → i < j → j < length net.jobs → AreEqual (job_at net.jobs i) (job_at net.jobs j) → ⊥
  pub used : (i : ℕ) → i < length net.jobs → IsTrue (names_any (cells_given net.outputs) (input_count net + i))
      ⊎ ((j : ℕ) × (i < j) × (j < length net.jobs) × IsTrue (names (job_at net.jobs j) (input_count net + i)))

-- jobs that differ in the cells of their terms alone
pub record SameWeights (i j : Job) : Type 0 where
  pub weights : map (λ (t : Term). t.weight) i.terms ≡ map (λ (t : Term). t.weight) j.terms
  pub constant : i.constant ≡ j.constant
  pub table : i.table ≡ j.table
  pub degree : i.degree ≡ j.degree

-- a definition of a job's words that reads of its terms the weights alone
abbrev pub ReadsWeights : (List ℕ → Job → List ℕ → List ℕ) → Type 0
ReadsWeights words_of = (basis : List ℕ) (i j : Job) (words : List ℕ) → SameWeights i j → words_of basis i words ≡ words_of basis j words

-- the words of the cells of each output
abbrev pub words_given : List NetOutput → List (List ℕ) → List (List (List ℕ))
words_given outputs cells = map (λ (o : NetOutput). map (λ c. get_or cells c []) o.cells) outputs

-- what a net and one that is folded of it have in common
pub record Folds (old new : Net) : Type 0 where
  pub legal : Legal new
  pub folded : IsFolded new
  pub space : new.space ≡ old.space
  pub inputs : new.inputs ≡ old.inputs
  pub output_names : map (λ (o : NetOutput). o.name) new.outputs ≡ map (λ (o : NetOutput). o.name) old.outputs
  pub output_kinds : map (λ (o : NetOutput). o.kind) new.outputs ≡ map (λ (o : NetOutput). o.kind) old.outputs
  pub output_bits : map (λ (o : NetOutput). o.bits) new.outputs ≡ map (λ (o : NetOutput). o.bits) old.outputs
  pub fewer : length new.jobs ≤ length old.jobs
  pub shallower : net_depth new ≤ net_depth old
  pub outs : (inputs : List ℕ) → Within old.space old.inputs inputs → outs new (values_after inputs new.jobs) ≡ outs old (values_after inputs old.jobs)
  pub degrees : map (degree new) (cells_given new.outputs) ≡ map (degree old) (cells_given old.outputs)
  pub noises : map (noise new) (cells_given new.outputs) ≡ map (noise old) (cells_given old.outputs)
  pub words : (words_of : List ℕ → Job → List ℕ → List ℕ) (basis : List ℕ) (inputs : List (List ℕ)) → ReadsWeights words_of → length inputs ≡ input_count old
      → words_given new.outputs (cells_of words_of basis new inputs) ≡ words_given old.outputs (cells_of words_of basis old inputs)

-- What stands for a cell is as its definition says, and so is what is live. The folded net of a legal net has no more jobs and
-- no greater depth, and its outputs are the same. A net that is folded is its own folded net, so folding twice is folding once.
pub record FoldLaws : Type 0 where
  pub reps : (net : Net) → Legal net → HasReps net
  pub live : (net : Net) → Legal net → HasLive net
  pub folds : (net : Net) → Legal net → Folds net (folded net)
  pub stays : (net : Net) → Legal net → IsFolded net → folded net ≡ net
  pub once : (net : Net) → Legal net → folded (folded net) ≡ folded net
