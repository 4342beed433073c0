-- Lists of blocks that keep values, one block more at a time.
use Rattle.std.proofs.Common.{◌≡◌, inl, inr, ℕ, ◌+◌, ◌<◌, ◌≤◌, List, [], ◌∷◌, ◌++◌, length, get_or, sym, subst, arith, length-append}
use Rattle.std.proofs.lemmas.Bool.{cases_lt}
use Rattle.std.proofs.lemmas.List.{get_or_append_left}
use Rattle.rx_params.specs.declared.params.Params.{Params}
use Rattle.rx_params.specs.Derived.{large_dim}
use Rattle.rx_net.proofs.Laid.{get_or_end}
use Rattle.rx_block.specs.declared.block.Block.{Block}
use Rattle.rx_block.specs.Combine.{no_block, degree_in, noise_in, AreBlocksOf}
use Rattle.rx_block.specs.Keeps.{Keeps, AreKept}

-- a block that keeps a number, and has no more than these tags
pub record IsCell (p : Params) (large : List ℕ) (x d n : ℕ) (block : Block) : Type 0 where
  pub size : length block.words ≡ large_dim p + 1
  pub keeps : Keeps p large block x
  pub degree : block.degree ≤ d
  pub noise : block.noise ≤ n

-- so many blocks, each of which keeps the value of its place, and has no more than the tags of its place
pub record AreCells (p : Params) (large : List ℕ) (count : ℕ) (xs ds ns : List ℕ) (blocks : List Block) : Type 0 where
  pub blocks_count : length blocks ≡ count
  pub values_count : length xs ≡ count
  pub degrees_count : length ds ≡ count
  pub noises_count : length ns ≡ count
  pub each : (c : ℕ) → c < count → IsCell p large (get_or xs c 0) (get_or ds c 0) (get_or ns c 0) (get_or blocks c no_block)

-- the same cell, named in another way
cell-same : (p : Params) (large : List ℕ) (x x' d d' n n' : ℕ) (b b' : Block) → x' ≡ x → d' ≡ d → n' ≡ n → b' ≡ b →
    IsCell p large x d n b → IsCell p large x' d' n' b'
cell-same p large x x' d d' n n' b b' ex ed en eb cell =
    subst (λ (y : ℕ). IsCell p large y d' n' b') (sym ex)
    (subst (λ (y : ℕ). IsCell p large x y n' b') (sym ed)
    (subst (λ (y : ℕ). IsCell p large x d y b') (sym en)
    (subst (IsCell p large x d n) (sym eb) cell)))

length-end : (xs : List ℕ) (x n : ℕ) → length xs ≡ n → length (xs ++ x ∷ []) ≡ n + 1
length-end xs x n e = omega (arith, length-append xs (x ∷ []))

-- one cell more
pub cells-more : (p : Params) (large : List ℕ) (count : ℕ) (xs ds ns : List ℕ) (blocks : List Block) (x d n : ℕ) (b : Block) →
    AreCells p large count xs ds ns blocks → IsCell p large x d n b →
    AreCells p large (count + 1) (xs ++ x ∷ []) (ds ++ d ∷ []) (ns ++ n ∷ []) (blocks ++ b ∷ [])
cells-more p large count xs ds ns blocks x d n b cells cell = record {
  blocks_count = omega (arith, cells.blocks_count, length-append blocks (b ∷ []));
  values_count = length-end xs x count cells.values_count;
  degrees_count = length-end ds d count cells.degrees_count;
  noises_count = length-end ns n count cells.noises_count;
  each = λ c q.
      elim (cases_lt c count) as (λ _. IsCell p large (get_or (xs ++ x ∷ []) c 0) (get_or (ds ++ d ∷ []) c 0) (get_or (ns ++ n ∷ []) c 0) (get_or (blocks ++ b ∷ []) c no_block)) [
        | inl before ↦
            cell-same p large (get_or xs c 0) _ (get_or ds c 0) _ (get_or ns c 0) _ (get_or blocks c no_block) _
            (get_or_append_left xs (x ∷ []) 0 c (omega (arith, cells.values_count)))
            (get_or_append_left ds (d ∷ []) 0 c (omega (arith, cells.degrees_count)))
            (get_or_append_left ns (n ∷ []) 0 c (omega (arith, cells.noises_count)))
            (get_or_append_left blocks (b ∷ []) no_block c (omega (arith, cells.blocks_count))) (cells.each c before)
        | inr after ↦
            cell-same p large x _ d _ n _ b _
            (get_or_end xs x 0 c (omega (arith, cells.values_count)))
            (get_or_end ds d 0 c (omega (arith, cells.degrees_count)))
            (get_or_end ns n 0 c (omega (arith, cells.noises_count)))
            (get_or_end blocks b no_block c (omega (arith, cells.blocks_count))) cell
      ];
}

-- what cells are, apart
pub cells-kept : (p : Params) (large : List ℕ) (count : ℕ) (xs ds ns : List ℕ) (blocks : List Block) →
    AreCells p large count xs ds ns blocks → AreKept p large blocks xs
cells-kept p large count xs ds ns blocks cells = record {
  count = omega (arith, cells.values_count, cells.blocks_count);
  each = λ c q. (cells.each c (omega (arith, cells.blocks_count))).keeps;
}

pub cells-sizes : (p : Params) (large : List ℕ) (count : ℕ) (xs ds ns : List ℕ) (blocks : List Block) →
    AreCells p large count xs ds ns blocks → AreBlocksOf p blocks
cells-sizes p large count xs ds ns blocks cells c q = (cells.each c (omega (arith, cells.blocks_count))).size

pub cells-value : (p : Params) (large : List ℕ) (count : ℕ) (xs ds ns : List ℕ) (blocks : List Block) →
    AreCells p large count xs ds ns blocks → (c : ℕ) → c < count → get_or xs c 0 ≤ get_or ds c 0
cells-value p large count xs ds ns blocks cells c q =
    let cell = cells.each c q in
    omega (arith, cell.keeps.value, cell.degree)

pub cells-noise : (p : Params) (large : List ℕ) (count : ℕ) (xs ds ns : List ℕ) (blocks : List Block) →
    AreCells p large count xs ds ns blocks → (c : ℕ) → c < count → noise_in blocks c ≤ get_or ns c 0
cells-noise p large count xs ds ns blocks cells c q = (cells.each c q).noise

-- cells from their parts
pub are-cells : (p : Params) (large : List ℕ) (count : ℕ) (xs ds ns : List ℕ) (blocks : List Block) →
    length blocks ≡ count → length ds ≡ count → length ns ≡ count → AreBlocksOf p blocks → AreKept p large blocks xs →
    ((c : ℕ) → c < length blocks → degree_in blocks c ≤ get_or ds c 0) → ((c : ℕ) → c < length blocks → noise_in blocks c ≤ get_or ns c 0) →
    AreCells p large count xs ds ns blocks
are-cells p large count xs ds ns blocks blocks_count degrees_count noises_count sizes kept degrees noises = record {
  blocks_count = blocks_count;
  values_count = omega (arith, kept.count);
  degrees_count = degrees_count;
  noises_count = noises_count;
  each = λ c q.
      let here : c < length blocks = omega arith in
      record { size = sizes c here; keeps = kept.each c here; degree = degrees c here; noise = noises c here };
}
