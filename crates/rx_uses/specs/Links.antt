-- Lists that are linked by index, in both directions. The last number of a u32 stands for no node.
use Rattle.std.specs.Prelude.{◌≡◌, ℕ, zero, suc, ◌+◌, ◌<◌, ◌==◌, cond, List, [], ◌∷◌, map, drop, length, slice_index, slice_index_or, slice_set, Option, Some, None}
use Rattle.rx_net.specs.declared.term.Term.{Term}

-- the node of a link
abbrev pub link_of : ℕ → Option ℕ
link_of h = cond (h == 4294967295) None (Some h)

-- the list that begins at a link, up to a number of nodes
abbrev pub walk : List ℕ → ℕ → ℕ → List ℕ
walk nexts zero h = []
walk nexts (suc n) h = cond (h == 4294967295) [] (h ∷ walk nexts n (slice_index nexts h))

-- the list of each head
abbrev pub walks : List ℕ → List ℕ → List (List ℕ)
walks nexts heads = map (walk nexts (length nexts + 1)) heads

-- the links from h on are the list, and end there
abbrev pub Chain : List ℕ → ℕ → List ℕ → Type 0
Chain nexts h [] = h ≡ 4294967295
Chain nexts h (x ∷ xs) = (h ≡ x) × (x < length nexts) × Chain nexts (slice_index nexts x) xs

-- each node of the list of the cell c has that cell, and a link to the one before it, which is p for the first
abbrev pub LinksBack : List ℕ → List ℕ → ℕ → ℕ → List ℕ → Type 0
LinksBack prevs homes c p [] = Unit {0}
LinksBack prevs homes c p (x ∷ xs) = (slice_index prevs x ≡ p) × (slice_index homes x ≡ c) × LinksBack prevs homes c x xs

-- the head of each cell begins a list, whose nodes have that cell
pub record AreLists (nexts prevs homes heads : List ℕ) (list : ℕ → List ℕ) : Type 0 where
  pub small : length nexts < 4294967295
  pub prevs_length : length prevs ≡ length nexts
  pub homes_length : length homes ≡ length nexts
  pub chains : (c : ℕ) → c < length heads → Chain nexts (slice_index heads c) (list c)
  pub back : (c : ℕ) → c < length heads → LinksBack prevs homes c 4294967295 (list c)

-- the lists that the links give are lists
abbrev pub AreLinked : List ℕ → List ℕ → List ℕ → List ℕ → Type 0
AreLinked nexts prevs homes heads = AreLists nexts prevs homes heads (λ c. slice_index_or (walks nexts heads) c [])

-- the heads after the node t is taken out: that of its cell changes where no node is before t
abbrev pub heads_without : List ℕ → List ℕ → List ℕ → List ℕ → ℕ → List ℕ
heads_without nexts prevs homes heads t = cond (slice_index prevs t == 4294967295) (slice_set heads (slice_index homes t) (slice_index nexts t)) heads

-- the cell that a term names
abbrev pub cell_named : Term → ℕ
cell_named t = t.cell

-- the places, from t on, at which a list of cells has c
abbrev pub places : ℕ → List ℕ → ℕ → List ℕ
places t [] c = []
places t (y ∷ ys) c = cond (y == c) (t ∷ places (suc t) ys c) (places (suc t) ys c)

-- the list of the cell c, where the places from t on are linked, each in the list of the cell that it names
abbrev pub places_from : ℕ → List ℕ → ℕ → List ℕ
places_from t named c = places t (drop t named) c
