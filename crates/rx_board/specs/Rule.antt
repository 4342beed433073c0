-- The rule of a board's words and views.
-- Word 0 is spare. Each job has a state word (0 free, 1 taken, 2 present), a count word (how many of its uses of job cells
-- are not credited) and the words of its cell.
use Rattle.std.specs.Prelude.{◌≡◌, ℕ, zero, suc, ◌+◌, ◌*◌, ◌<◌, ◌≤◌, ◌==◌, cond, Bool, true, false, ◌⊎◌, take, drop, List, [], ◌∷◌, length, get_or, slice_index, Contains, Option, Some, None}
use mathlib.Core.Option.{some}
use lib.ListN.{get_elem?}
use Rattle.atomic_table.specs.Table.{State}
use Rattle.atomic_table.specs.Seated.{TableId}
use Rattle.rx_net.specs.declared.term.Term.{Term}
use Rattle.rx_net.specs.declared.net.Job.{Job}
use Rattle.rx_net.specs.declared.net.Net.{Net}
use Rattle.rx_board.specs.declared.view.Plan.{Plan}
use Rattle.rx_board.specs.declared.view.Held.{Held}
use Rattle.rx_board.specs.declared.view.View.{View}
use Rattle.rx_net.specs.Cells.{input_cells, cells_of}
use Rattle.rx_net.specs.Legal.{Legal}
use Rattle.rx_uses.specs.Cells.{terms_at, rows}
use Rattle.rx_uses.specs.Uses.{nodes_of, owner_of}

-- the sum of a number for each element
abbrev pub total : {A : Type 0} → (A → ℕ) → List A → ℕ
total f [] = 0
total f (x ∷ xs) = f x + total f xs

-- 1 where it holds, else 0
abbrev pub one_if : Bool → ℕ
one_if true = 1
one_if false = 0

-- how often j stands in the list
abbrev pub times : ℕ → List ℕ → ℕ
times j xs = total (λ x. one_if (x == j)) xs

-- a held job with its words filled and its uses credited
abbrev pub holding : ℕ → ℕ → ℕ → Held
holding j q e = record { job = j; filled = q; credited = e }

-- 1 where the job j is held, else 0
abbrev pub holds_job : ℕ → Option Held → ℕ
holds_job j None = 0
holds_job j (Some h) = one_if (h.job == j)

-- how many uses of the cell of j are credited by who holds this
abbrev pub credits : ℕ → Option Held → ℕ
credits j None = 0
credits j (Some h) = cond (h.job == j) h.credited 0

-- the number of input cells, and so the cell of job 0
abbrev pub input_count : Net → ℕ
input_count net = input_cells net.space net.inputs

-- what a board of this net is about, over a kernel's definition and basis, for cells of w words and these words of inputs
abbrev pub plan_of : (List ℕ → Job → List ℕ → List ℕ) → List ℕ → Net → ℕ → List ℕ → Plan
plan_of words_of basis net w inputs =
    record { net = net; width = w; cells = cells_of words_of basis net (rows w (input_count net) inputs) }

-- the view of a board's first seat
abbrev pub fresh : Plan → View
fresh p = record { plan = Some p; known = []; ready = []; held = None; ran = []; met = [] }

-- the view of a seat that was joined to another
abbrev pub spent : View
spent = record { plan = None; known = []; ready = []; held = None; ran = []; met = [] }

abbrev pub job_count : Plan → ℕ
job_count p = length p.net.jobs

-- the words of the cell of the job j
abbrev pub cell : Plan → ℕ → List ℕ
cell p j = get_or p.cells (input_count p.net + j) []

-- where the state of the job j stands, its count, and word q of its cell, for cells of w words
abbrev pub state_place : ℕ → ℕ → ℕ
state_place w j = 1 + j * (w + 2)

abbrev pub count_place : ℕ → ℕ → ℕ
count_place w j = 1 + (j * (w + 2) + 1)

abbrev pub word_place : ℕ → ℕ → ℕ → ℕ
word_place w j q = 1 + (j * (w + 2) + (2 + q))

-- the k-th term of the job j names the cell of the job o
pub record IsOperandAt (p : Plan) (j k o : ℕ) : Type 0 where
  pub within : k < length (terms_at p.net.jobs j)
  pub names : (d : Term) → (get_or (terms_at p.net.jobs j) k d).cell ≡ input_count p.net + o

-- o is an operand job of j
abbrev pub IsOperand : Plan → ℕ → ℕ → Type 0
IsOperand p j o = (k : ℕ) × IsOperandAt p j k o

-- the use list of the cell of the job j
abbrev pub uses_in : Plan → ℕ → List ℕ
uses_in p j = nodes_of p.net (input_count p.net + j)

abbrev pub owner_in : Plan → ℕ → ℕ
owner_in p t = owner_of p.net t

module _ (uses : ℕ → List ℕ) (owner : ℕ → ℕ) where
  -- how many of these uses are the job's
  abbrev pub owned : ℕ → List ℕ → ℕ
  owned i ts = total (λ t. one_if (owner t == i)) ts

  -- how many uses by the job i on the cells of the first n jobs are not credited, where of each list the first `passed` are
  abbrev pub owed : (ℕ → ℕ) → ℕ → ℕ → ℕ
  owed passed i zero = 0
  owed passed i (suc n) = owed passed i n + owned i (drop (passed n) (uses n))

-- how many uses of the cell of c are credited: all, where c is present, else those that the view which holds c has passed
abbrev pub passed : Plan → (ℕ → ℕ) → List View → ℕ → ℕ
passed p st views c = cond (st c == 2) (length (uses_in p c)) (total (λ v. credits c v.held) views)

module _ (p : Plan) (st : ℕ → ℕ) (wd : ℕ → ℕ → ℕ) (ct : ℕ → ℕ) where
  -- the first n words of the row of j are those of its cell
  abbrev pub HasWords : ℕ → ℕ → Type 0
  HasWords j n = (q : ℕ) → q < n → wd j q ≡ slice_index (cell p j) q

  -- a held job is taken, its filled words are those of its cell, and uses are credited only once it has all words
  abbrev pub HeldOk : Option Held → Type 0
  HeldOk None = Unit {0}
  HeldOk (Some h) = (h.job < job_count p) × (st h.job ≡ 1) × (h.filled ≤ p.width) × HasWords h.job h.filled
      × (h.credited ≤ length (uses_in p h.job))
      × (0 < h.credited → (h.filled ≡ p.width) × (length (cell p h.job) ≡ p.width))

  -- what the words say of a view
  pub record Knows (v : View) : Type 0 where
    pub plan : (v.plan ≡ Some p) ⊎ (v ≡ spent)
    pub known : (j : ℕ) → Contains v.known j → (j < job_count p) × (st j ≡ 2)
    pub ran : (j : ℕ) → Contains v.ran j → Contains v.known j
    pub held : HeldOk v.held
    -- a ready job has the count 0
    pub ready : (j : ℕ) → Contains v.ready j → (j < job_count p) × (ct j ≡ 0)

  -- what holds of the states st, the words wd and the counts ct of jobs beside these views
  pub record Laws (views : List View) : Type 0 where
    pub states : (j : ℕ) → j < job_count p → st j ≤ 2
    pub present : (j : ℕ) → j < job_count p → st j ≡ 2 → (length (cell p j) ≡ p.width) × HasWords j p.width
    pub each : (i : ℕ) (v : View) → get_elem? views i ≡ some v → Knows v
    -- one view holds a taken job, and none another job
    pub holders : (j : ℕ) → j < job_count p → total (λ v. holds_job j v.held) views ≡ one_if (st j == 1)
    -- a present job stands once in all lists of jobs run, and another job in none
    pub runners : (j : ℕ) → j < job_count p → total (λ v. times j v.ran) views ≡ one_if (st j == 2)
    -- the count of a job is the number of its uses of job cells that are not credited
    pub counts : (j : ℕ) → j < job_count p → ct j ≡ owed (uses_in p) (owner_in p) (passed p st views) j (job_count p)

-- the states, the counts and the words of cells that stand in a list of words
abbrev pub state_in : ℕ → List ℕ → ℕ → ℕ
state_in w words j = slice_index words (state_place w j)

abbrev pub count_in : ℕ → List ℕ → ℕ → ℕ
count_in w words j = slice_index words (count_place w j)

abbrev pub word_in : ℕ → List ℕ → ℕ → ℕ → ℕ
word_in w words j q = slice_index words (word_place w j q)

-- the words and the views of a table are lawful
abbrev pub Lawful : Plan → State (Unit {0}) View → Type 0
Lawful p s =
    (length s.words ≡ 1 + job_count p * (p.width + 2))
    × Laws p (state_in p.width s.words) (word_in p.width s.words) (count_in p.width s.words) s.views

-- a board, as contracts see it
pub record BoardValue : Type 0 where
  pub id : TableId
  pub basis : List ℕ
  pub plan : Plan

-- the words and the parts of a board fit one another
pub record IsSized (words : ℕ) (net : Net) (w : ℕ) (inputs : List ℕ) (first_cell : ℕ) : Type 0 where
  pub words_are : words ≡ 1 + length net.jobs * (w + 2)
  pub within : words ≤ 33554432
  pub wide : 0 < w
  pub inputs_are : length inputs ≡ input_count net * w
  pub legal : Legal net
  pub first_is : first_cell ≡ input_count net
  pub first_low : first_cell ≤ 2048

-- the words at the start, where the uses of the cells of the first n jobs, and k of the next, are counted
pub record Opening (net : Net) (w n k : ℕ) (ws : List ℕ) : Type 0 where
  pub long : length ws ≡ 1 + length net.jobs * (w + 2)
  pub free : (j : ℕ) → j < length net.jobs → state_in w ws j ≡ 0
  pub counts : (i : ℕ) → i < length net.jobs → count_in w ws i
      ≡ owed (λ j. nodes_of net (input_count net + j)) (owner_of net) (λ _. 0) i n
      + owned (λ j. nodes_of net (input_count net + j)) (owner_of net) i (take k (nodes_of net (input_count net + n)))
