-- The use lists of a net, computed by the definitions.
use Rattle.std.proofs.Common.{◌≡◌, ℕ, pos, List, [], ◌∷◌, Some, None, refl}
use Rattle.rx_net.specs.declared.term.Term.{Term}
use Rattle.rx_net.specs.declared.net.Job.{Job}
use Rattle.rx_net.specs.declared.net.Net.{Net}
use Rattle.rx_uses.specs.Cells.{terms_at, table_at, rows}
use Rattle.rx_uses.specs.Uses.{nodes_of, owner_of, owners_from, node_at, without, put_first}
use Rattle.rx_uses.specs.Links.{walks, heads_without}

abbrev term : ℕ → Term
term cell = record { cell = cell; weight = pos 1 }

abbrev job : List Term → Job
job terms = record { terms = terms; constant = pos 0; table = 7 ∷ []; degree = 0 }

-- the first job names the cell 0; the second names 0, 1 and 0 again
abbrev net : Net
net = record { space = 2; inputs = []; jobs = job (term 0 ∷ []) ∷ job (term 0 ∷ term 1 ∷ term 0 ∷ []) ∷ []; outputs = [] }

lists : (nodes_of net 0 ≡ 0 ∷ 1 ∷ 3 ∷ []) × (nodes_of net 1 ≡ 2 ∷ []) × (nodes_of net 2 ≡ [])
lists = (refl, refl, refl)

owners : (owners_from 0 net.jobs ≡ 0 ∷ 1 ∷ 1 ∷ 1 ∷ []) × (owner_of net 2 ≡ 1)
owners = (refl, refl)

nodes : (node_at (nodes_of net 0) 2 ≡ Some 3) × (node_at (nodes_of net 0) 3 ≡ None)
nodes = (refl, refl)

-- jobs that are none have no terms and no table
jobs : (terms_at net.jobs 0 ≡ term 0 ∷ []) × (terms_at net.jobs 2 ≡ []) × (table_at net.jobs 1 ≡ 7 ∷ []) × (table_at net.jobs 2 ≡ [])
jobs = (refl, refl, refl, refl)

input_words : rows 2 2 (4 ∷ 5 ∷ 6 ∷ 7 ∷ []) ≡ (4 ∷ 5 ∷ []) ∷ (6 ∷ 7 ∷ []) ∷ []
input_words = refl

moved : (without 1 (0 ∷ 1 ∷ 3 ∷ []) ≡ 0 ∷ 3 ∷ []) × (put_first record { lists = (0 ∷ []) ∷ (2 ∷ []) ∷ []; owners = [] } 1 1 ≡ (0 ∷ []) ∷ (1 ∷ 2 ∷ []) ∷ [])
moved = (refl, refl)

-- the cell 0 begins at the node 1, which the node 0 follows; the cell 1 has no list
links : walks (4294967295 ∷ 0 ∷ []) (1 ∷ 4294967295 ∷ []) ≡ (1 ∷ 0 ∷ []) ∷ [] ∷ []
links = refl

-- the first node of a list is taken out, and then one that is not the first
heads : (heads_without (4294967295 ∷ 0 ∷ []) (1 ∷ 4294967295 ∷ []) (0 ∷ 0 ∷ []) (1 ∷ []) 1 ≡ 0 ∷ []) × (heads_without (4294967295 ∷ 0 ∷ []) (1 ∷ 4294967295 ∷ []) (0 ∷ 0 ∷ []) (1 ∷ []) 0 ≡ 1 ∷ [])
heads = (refl, refl)
