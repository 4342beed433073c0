-- What use lists are of a net.
use Rattle.std.specs.Prelude.{◌≡◌, ℕ, ◌<◌, length, get_or}
use Rattle.rx_net.specs.declared.term.Term.{Term}
use Rattle.rx_net.specs.declared.net.Net.{Net}
use Rattle.rx_uses.specs.Cells.{terms_at}
use Rattle.rx_uses.specs.Uses.{nodes_of, node_of, owner_of}

-- the k-th term of the job j names the cell c
pub record NamesAt (net : Net) (j k c : ℕ) : Type 0 where
  pub within : k < length (terms_at net.jobs j)
  pub names : (d : Term) → (get_or (terms_at net.jobs j) k d).cell ≡ c

-- Each term that names a cell is a node of the cell's list, and each node of a list is a term that names the cell; a node
-- is its job's. A node is in one list alone, and stands there once. The nodes of a list come in order.
pub record UseLaws : Type 0 where
  pub listed : (net : Net) (j k c : ℕ) → NamesAt net j k c → (q : ℕ) × (q < length (nodes_of net c)) × (get_or (nodes_of net c) q 0 ≡ node_of net j k)
  pub named : (net : Net) (c q : ℕ) → q < length (nodes_of net c) → (j : ℕ) × (k : ℕ) × NamesAt net j k c × (get_or (nodes_of net c) q 0 ≡ node_of net j k)
  pub owned : (net : Net) (j k : ℕ) → k < length (terms_at net.jobs j) → owner_of net (node_of net j k) ≡ j
  pub once : (net : Net) (c d q r : ℕ) → q < length (nodes_of net c) → r < length (nodes_of net d) → get_or (nodes_of net c) q 0 ≡ get_or (nodes_of net d) r 0 → (c ≡ d) × (q ≡ r)
  pub ordered : (net : Net) (c q r : ℕ) → q < r → r < length (nodes_of net c) → get_or (nodes_of net c) q 0 < get_or (nodes_of net c) r 0
