-- The uses of each cell. Node t is the t-th term in the order of jobs and places; a use list has the nodes that name a cell.
use Rattle.std.specs.Prelude.{◌≡◌, ℕ, zero, suc, ◌+◌, ◌<◌, ◌==◌, cond, List, [], ◌∷◌, ◌++◌, take, drop, length, replicate, slice_index, slice_index_or, slice_set, Option, Some, None}
use Rattle.rx_net.specs.declared.term.Term.{Term}
use Rattle.rx_net.specs.declared.net.Job.{Job}
use Rattle.rx_net.specs.declared.net.Net.{Net}
use Rattle.rx_net.specs.Cells.{input_cells}

-- the terms of all jobs, in the order of jobs and places
abbrev pub all_terms : List Job → List Term
all_terms [] = []
all_terms (x ∷ xs) = x.terms ++ all_terms xs

-- the job of each term, where the first job is n
abbrev pub owners_from : ℕ → List Job → List ℕ
owners_from n [] = []
owners_from n (x ∷ xs) = replicate (length x.terms) n ++ owners_from (suc n) xs

-- the nodes whose terms name the cell c, where the first node is t
abbrev pub naming : ℕ → List Term → ℕ → List ℕ
naming t [] c = []
naming t (x ∷ xs) c = cond (x.cell == c) (t ∷ naming (suc t) xs c) (naming (suc t) xs c)

-- the use list of the cell c
abbrev pub nodes_of : Net → ℕ → List ℕ
nodes_of net c = naming 0 (all_terms net.jobs) c

-- the node of the k-th term of the job j
abbrev pub node_of : Net → ℕ → ℕ → ℕ
node_of net j k = length (all_terms (take j net.jobs)) + k

-- the job whose term the node t is
abbrev pub owner_of : Net → ℕ → ℕ
owner_of net t = slice_index (owners_from 0 net.jobs) t

-- the k-th node of a list, if there is one
abbrev pub node_at : List ℕ → ℕ → Option ℕ
node_at [] k = None
node_at (x ∷ xs) zero = Some x
node_at (x ∷ xs) (suc k) = node_at xs k

-- use lists, as contracts see them: one list of nodes for each cell, and the job of each node
pub record UsesValue : Type 0 where
  pub lists : List (List ℕ)
  pub owners : List ℕ

-- the lists are those of the net, in which nothing was linked anew
pub record IsUsesOf (net : Net) (u : UsesValue) : Type 0 where
  pub cells : length u.lists ≡ input_cells net.space net.inputs + length net.jobs
  pub lists : (c : ℕ) → c < input_cells net.space net.inputs + length net.jobs → slice_index_or u.lists c [] ≡ nodes_of net c
  pub owners : u.owners ≡ owners_from 0 net.jobs

-- ---- lists from which nodes are taken, and to which they are given

-- the list of the cell c
abbrev pub list_of : UsesValue → ℕ → List ℕ
list_of u c = slice_index_or u.lists c []

-- the node t is in a list
abbrev pub IsLinked : UsesValue → ℕ → Type 0
IsLinked u t = (c : ℕ) × (k : ℕ) × (c < length u.lists) × (node_at (list_of u c) k ≡ Some t)

-- what follows the node t, in whatever list it stands
abbrev pub Follows : UsesValue → ℕ → Option ℕ → Type 0
Follows u t next = (c k : ℕ) → c < length u.lists → node_at (list_of u c) k ≡ Some t → next ≡ node_at (list_of u c) (k + 1)

-- a list without its k-th node
abbrev pub without : ℕ → List ℕ → List ℕ
without k xs = take k xs ++ drop (k + 1) xs

-- the lists after the node t is taken out: that in which it stood has it no more, and all others are as they were
abbrev pub TakesOut : UsesValue → ℕ → List (List ℕ) → Type 0
TakesOut u t lists = (c k : ℕ) → c < length u.lists → node_at (list_of u c) k ≡ Some t → lists ≡ slice_set u.lists c (without k (list_of u c))

-- the lists after the node t is put before the list of the cell c: all others are as they were
abbrev pub put_first : UsesValue → ℕ → ℕ → List (List ℕ)
put_first u t c = slice_set u.lists c (t ∷ list_of u c)
