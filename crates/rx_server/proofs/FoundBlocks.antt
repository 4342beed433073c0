-- The blocks that are found for the inputs of a net.
use Rattle.std.proofs.Common.{◌≡◌, ℕ, zero, suc, ◌+◌, ◌<◌, ◌≤◌, Bool, true, false, List, [], ◌∷◌, ◌++◌, length, get_or, replicate, Option, Some, None, refl, sym, ◌∙◌, ap, subst, cond, arith, length-append, if◌then◌else◌}
use Rattle.std.specs.Prelude.{◌&&◌, ◌==◌, nat_lt}
use Rattle.std.specs.List.{flat_map, filter, AllByRecursion}
use Rattle.std.specs.Str.{bytes_eq}
use Rattle.std.proofs.lemmas.List.{append-nil}
use Rattle.std.proofs.lemmas.Bool.{ltb-false, eqb-true}
use Rattle.std.specs.Option.{option_or}
use Rattle.rx_params.specs.declared.params.Params.{Params}
use Rattle.rx_params.specs.declared.kind.Kind.{Kind}
use Rattle.rx_params.specs.declared.kind.Kind.TheVariants.{Int, Bit}
use Rattle.rx_params.specs.Kinds.{block_count}
use Rattle.rx_net.specs.declared.net.NetInput.{NetInput}
use Rattle.rx_net.specs.declared.net.Net.{Net}
use Rattle.rx_net.specs.Cells.{input_cells, given, degree, noise}
use Rattle.rx_net.proofs.Each.{all_append}
use Rattle.rx_net.proofs.Inputs.{given_degree, given_noise}
use Rattle.rx_block.specs.declared.block.Block.{Block}
use Rattle.rx_block.specs.Combine.{no_block}
use Rattle.rx_codec.specs.declared.cipher.Item.{Item}
use Rattle.rx_codec.specs.declared.cipher.Cipher.{Cipher}
use Rattle.rx_codec.specs.CipherFile.{IsBlock, IsItem}
use Rattle.rx_server.specs.declared.fault.InputFault.{InputFault}
use Rattle.rx_server.specs.declared.fault.InputFault.TheVariants.{Form, Degree, Noise}
use Rattle.rx_server.specs.Inputs.{items_of, named, same_kind, tags_fault, item_fault, found_fault, first_fault, blocks_found}
use Rattle.rx_server.specs.Laws.{AreCiphersOf, IsBlockWithin, AreCellBlocks}

-- ---- an input without a fault

pub no_fault : (a b : Option InputFault) → option_or a b ≡ None → (a ≡ None) × (b ≡ None)
no_fault (Some fault) b e = absurd cc
no_fault None b e = (refl, e)

not_past : (b : Bool) (fault : InputFault) (later : Option InputFault) → (if b then Some fault else later) ≡ None → (b ≡ false) × (later ≡ None)
not_past true fault later e = absurd cc
not_past false fault later e = (refl, e)

-- the tags of a block are within those of the input
pub first_within : (i : NetInput) (b : Block) (bs : List Block) → tags_fault i (b ∷ bs) ≡ None → (b.degree ≤ i.degree) × (b.noise ≤ i.noise) × (tags_fault i bs ≡ None)
first_within i b bs e =
    let high = not_past (nat_lt i.degree b.degree) (Degree i.name b.degree i.degree)
    (if nat_lt i.noise b.noise then Some (Noise i.name b.noise i.noise) else tags_fault i bs) e in
    let noisy = not_past (nat_lt i.noise b.noise) (Noise i.name b.noise i.noise) (tags_fault i bs) high.1 in
    (ltb-false i.degree b.degree high.0, ltb-false i.noise b.noise noisy.0, noisy.1)

all_within : (p : Params) (kind : Kind) (i : NetInput) (bs : List Block) → AllByRecursion (IsBlock p kind) bs → tags_fault i bs ≡ None → AllByRecursion (IsBlockWithin p i.degree i.noise) bs
all_within p kind i [] h e = tt
all_within p kind i (b ∷ bs) h e =
    let w = first_within i b bs e in (
      record { size = h.0.size; words = h.0.words; degree = w.0; noise_low = h.0.noise_low; noise_high = h.0.noise_high; noise = w.1 },
      all_within p kind i bs h.1 w.2,
    )

same_kind-eq : (k l : Kind) → same_kind k l ≡ true → k ≡ l
same_kind-eq Int Int e = refl
same_kind-eq Int Bit e = absurd cc
same_kind-eq Bit Int e = absurd cc
same_kind-eq Bit Bit e = refl

both : (a b : Bool) (fault : InputFault) (later : Option InputFault) → (if a && b then later else Some fault) ≡ None → (a ≡ true) × (b ≡ true) × (later ≡ None)
both true true fault later e = (refl, refl, e)
both true false fault later e = absurd cc
both false b fault later e = absurd cc

record FitsInput (p : Params) (space : ℕ) (i : NetInput) (blocks : List Block) : Type 0 where
  count : length blocks ≡ block_count i.kind space i.bits
  within : AllByRecursion (IsBlockWithin p i.degree i.noise) blocks

item_fits : (p : Params) (space : ℕ) (i : NetInput) (item : Item) → space ≡ p.message_bits → IsItem p item → item_fault i item ≡ None → FitsInput p space i item.blocks
item_fits p space i item s is e =
    let b = both (same_kind item.kind i.kind) (item.bits == i.bits) (Form i.name) (tags_fault i item.blocks) e in
    let kinds : item.kind ≡ i.kind = same_kind-eq item.kind i.kind b.0 in
    let bits : item.bits ≡ i.bits = eqb-true item.bits i.bits b.1 in
    record {
      count = is.count ∙ ap (λ k. block_count k p.message_bits item.bits) kinds ∙ ap (λ n. block_count i.kind p.message_bits n) bits
          ∙ ap (λ m. block_count i.kind m i.bits) (sym s);
      within = all_within p item.kind i item.blocks is.blocks b.2;
    }

only_fits : (p : Params) (space : ℕ) (i : NetInput) (found : List Item) → space ≡ p.message_bits → AllByRecursion (IsItem p) found → found_fault i found ≡ None
    → FitsInput p space i (flat_map (λ (item : Item). item.blocks) found)
only_fits p space i [] s all e = absurd cc
only_fits p space i (item ∷ []) s all e =
    let nil : item.blocks ++ [] ≡ item.blocks = append-nil item.blocks in
    rw nil (item_fits p space i item s all.0 e)
only_fits p space i (item ∷ more ∷ items) s all e = absurd cc

-- ---- the blocks of all inputs

filtered : {X : Type 0} (P : X → Type 0) (test : X → Bool) (xs : List X) → AllByRecursion P xs → AllByRecursion P (filter test xs)
filtered P test [] h = tt
filtered {X} P test (x ∷ xs) h =
    let rest = filtered P test xs h.1 in
    elim (test x) as (λ b. AllByRecursion P (cond b (x ∷ filter test xs) (filter test xs))) [ true ↦ (h.0, rest) | false ↦ rest ]

abbrev EachWithin : Params → List ℕ → List ℕ → List Block → Type 0
EachWithin p degrees noises blocks = (c : ℕ) → c < length blocks → IsBlockWithin p (get_or degrees c 0) (get_or noises c 0) (get_or blocks c no_block)

joined_at : (p : Params) (n most_degree most_noise : ℕ) (degrees noises : List ℕ) (x : Block) (xs ys : List Block)
    → IsBlockWithin p most_degree most_noise x → EachWithin p (replicate n most_degree ++ degrees) (replicate n most_noise ++ noises) (xs ++ ys)
    → EachWithin p (replicate (suc n) most_degree ++ degrees) (replicate (suc n) most_noise ++ noises) ((x ∷ xs) ++ ys)
joined_at p n d e ds es x xs ys first rest zero low = first
joined_at p n d e ds es x xs ys first rest (suc c) low = rest c (omega (arith, low))

joined : (p : Params) (n most_degree most_noise : ℕ) (degrees noises : List ℕ) (xs ys : List Block) → length xs ≡ n
    → AllByRecursion (IsBlockWithin p most_degree most_noise) xs → EachWithin p degrees noises ys
    → EachWithin p (replicate n most_degree ++ degrees) (replicate n most_noise ++ noises) (xs ++ ys)
joined p zero d e ds es [] ys s all rest = rest
joined p zero d e ds es (x ∷ xs) ys s all rest = absurd (omega (arith, s))
joined p (suc n) d e ds es [] ys s all rest = absurd (omega (arith, s))
joined p (suc n) d e ds es (x ∷ xs) ys s all rest =
    joined_at p n d e ds es x xs ys all.0 (joined p n d e ds es xs ys (omega (arith, s)) all.1 rest)

record FoundAll (p : Params) (space : ℕ) (is : List NetInput) (blocks : List Block) : Type 0 where
  count : length blocks ≡ input_cells space is
  each : EachWithin p (given space (λ i. i.degree) is) (given space (λ i. i.noise) is) blocks

found_all : (p : Params) (space : ℕ) (is : List NetInput) (items : List Item) → space ≡ p.message_bits → AllByRecursion (IsItem p) items → first_fault is items ≡ None
    → FoundAll p space is (blocks_found is items)
unfolding given input_cells
found_all p space [] items s all e = record { count = refl; each = λ c low. absurd (omega (arith, low)) }
found_all p space (i ∷ is) items s all e =
    let none = no_fault (found_fault i (named i.name items)) (first_fault is items) e in
    let first : FitsInput p space i (flat_map (λ (item : Item). item.blocks) (named i.name items)) =
    only_fits p space i (named i.name items) s (filtered (IsItem p) (λ (item : Item). bytes_eq item.name i.name) items all) none.0 in
    let rest : FoundAll p space is (blocks_found is items) = found_all p space is items s all none.1 in
    record {
      count = length-append (flat_map (λ (item : Item). item.blocks) (named i.name items)) (blocks_found is items)
          ∙ ap (λ n. n + length (blocks_found is items)) first.count ∙ ap (λ n. block_count i.kind space i.bits + n) rest.count;
      each = joined p (block_count i.kind space i.bits) i.degree i.noise (given space (λ i. i.degree) is) (given space (λ i. i.noise) is)
          (flat_map (λ (item : Item). item.blocks) (named i.name items)) (blocks_found is items) first.count first.within rest.each;
    }

items_fit : (p : Params) (ciphers : List Cipher) → AreCiphersOf p ciphers → AllByRecursion (IsItem p) (items_of ciphers)
items_fit p [] are = tt
items_fit p (c ∷ ciphers) are =
    let fits : AllByRecursion (IsItem p) c.items = subst (λ (q : Params). AllByRecursion (IsItem q) c.items) are.0.0 are.0.1.items in
    all_append (IsItem p) c.items (items_of ciphers) fits (items_fit p ciphers are.1)

pub found_fit : (p : Params) (net : Net) (ciphers : List Cipher) → net.space ≡ p.message_bits → AreCiphersOf p ciphers
    → first_fault net.inputs (items_of ciphers) ≡ None → AreCellBlocks p net (input_cells net.space net.inputs) (blocks_found net.inputs (items_of ciphers))
unfolding degree noise
found_fit p net ciphers s are e =
    let all : FoundAll p net.space net.inputs (blocks_found net.inputs (items_of ciphers)) =
    found_all p net.space net.inputs (items_of ciphers) s (items_fit p ciphers are) e in
    record {
      count = all.count;
      each = λ c low.
          let first : c < input_cells net.space net.inputs = omega (arith, low, all.count) in
          rw (given_degree net.space net.inputs net.jobs c first, given_noise net.space net.inputs net.jobs c first) (all.each c low);
    }
