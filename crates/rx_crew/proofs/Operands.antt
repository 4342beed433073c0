-- The operands of a job as one list of words, and the blocks that they come from.
use Rattle.std.proofs.Common.{◌≡◌, ℕ, zero, suc, ℤ, pos, ◌+ℤ◌, ◌*ℤ◌, ◌+◌, ◌-◌, ◌*◌, ◌<◌, List, [], ◌∷◌, ◌++◌, length, get_or, map, if◌then◌else◌, nat_lt, ◌≤◌, sym, subst, ◌∙◌, ap, arith, suc-mul}
use Rattle.std.specs.List.{AllByRecursion}
use Rattle.std.proofs.lemmas.List.Elements.{All-from_recursion}
use Rattle.std.proofs.Math.Nat.{mul-le-mul_right}
use Rattle.std.proofs.lemmas.List.{get_or_append_left, get_or-append_right, get_or-map}
use Rattle.rx_laws.specs.Torus.{word}
use Rattle.rx_laws.specs.Words.{words_below}
use Rattle.rx_laws.specs.Decode.{unit}
use Rattle.rx_laws.proofs.Sums.{sum_to-same}
use Rattle.rx_laws.proofs.Words.{words_below-are, are-words_below}
use Rattle.rx_params.specs.declared.params.Params.{Params}
use Rattle.rx_params.specs.Derived.{large_dim}
use Rattle.rx_net.specs.declared.term.Term.{Term}
use Rattle.rx_net.specs.Cells.{operand_words}
use Rattle.rx_block.specs.declared.block.Block.{Block}
use Rattle.rx_block.specs.Combine.{no_block, no_term, AreCellsOf, AreBlocksOf, weighted, mixed, mixed_words}
use Rattle.rx_crew.specs.Kernel.{mixed_operands}

-- terms that name cells among so many
pub cells-of : (n : ℕ) (ts : List Term) → AllByRecursion (λ t. t.cell < n) ts → (k : ℕ) → k < length ts → (get_or ts k no_term).cell < n
cells-of n ts h k p = All-from_recursion (λ (t : Term). t.cell < n) ts h k no_term p

suc-mul-flip : (a b : ℕ) → suc a * b ≡ b + a * b
suc-mul-flip a b = let e = suc-mul a b in let c : ℕ = a * b in omega arith

-- the words of operand n are there, of so many operands of w words
pub operand-within : (n count w size long : ℕ) → n < count → size ≡ w → long ≡ count * w → n * size + size ≤ long
operand-within n count w size long low e f =
    let next : suc n * w ≤ count * w = mul-le-mul_right w (omega arith) in
    let row : suc n * w ≡ w + n * w = suc-mul-flip n w in
    let a : ℕ = n * w in
    let b : ℕ = count * w in
    let all : a + w ≤ b = omega arith in
    subst (λ (s : ℕ). n * s + s ≤ long) (sym e) (let h : a + w ≤ long = omega arith in h)

-- word i of operand t, where each operand has w words
operand-at : (w : ℕ) (cells : List (List ℕ)) (ts : List Term) (t i : ℕ) →
    ((k : ℕ) → k < length ts → length (get_or cells (get_or ts k no_term).cell []) ≡ w) → t < length ts → i < w →
    get_or (operand_words cells ts) (t * w + i) 0 ≡ get_or (get_or cells (get_or ts t no_term).cell []) i 0
operand-at w cells [] t i size p q = absurd (omega arith)
operand-at w cells (x ∷ ts) zero i size p q =
    let ws : List ℕ = get_or cells x.cell [] in
    let n : length ws ≡ w = size 0 p in
    let place : 0 * w + i ≡ i = omega arith in
    ap (λ c. get_or (ws ++ operand_words cells ts) c 0) place
    ∙ get_or_append_left ws (operand_words cells ts) 0 i (omega arith)
operand-at w cells (x ∷ ts) (suc t) i size p q =
    let ws : List ℕ = get_or cells x.cell [] in
    let n : length ws ≡ w = size 0 (omega arith) in
    let m : ℕ = t * w in
    let row : suc t * w ≡ w + m = suc-mul-flip t w in
    let place : (suc t * w + i) - w ≡ m + i = omega arith in
    get_or-append_right ws (operand_words cells ts) w (suc t * w + i) 0 n (omega arith)
    ∙ ap (λ c. get_or (operand_words cells ts) c 0) place
    ∙ operand-at w cells ts t i (λ k r. size (suc k) (omega arith)) (omega arith) q

mixed-same : (p : Params) (blocks : List Block) (terms : List Term) (constant : ℤ) → AreCellsOf blocks terms → AreBlocksOf p blocks →
    (i : ℕ) → i < large_dim p + 1 →
    mixed_operands p terms constant (operand_words (map (λ (b : Block). b.words) blocks) terms) i ≡ mixed p blocks terms constant i
mixed-same p blocks terms constant cells sizes i q =
    let w : ℕ = large_dim p + 1 in
    let rows : List (List ℕ) = map (λ (b : Block). b.words) blocks in
    let row : (t : ℕ) → t < length terms → get_or rows (get_or terms t no_term).cell [] ≡ (get_or blocks (get_or terms t no_term).cell no_block).words =
    λ t r. get_or-map (λ (b : Block). b.words) blocks (get_or terms t no_term).cell no_block [] (cells t r) in
    let size : (t : ℕ) → t < length terms → length (get_or rows (get_or terms t no_term).cell []) ≡ w =
    λ t r. ap length (row t r) ∙ sizes (get_or terms t no_term).cell (cells t r) in
    let last : ℤ = if nat_lt i (large_dim p) then pos 0 else pos (unit p.message_bits) *ℤ constant in
    ap (λ s. s +ℤ last)
    (sum_to-same (length terms) (λ t. (get_or terms t no_term).weight *ℤ pos (get_or (operand_words rows terms) (t * w + i) 0)) (weighted blocks terms i)
    (λ t r. ap (λ x. (get_or terms t no_term).weight *ℤ pos x)
    (operand-at w rows terms t i size r q ∙ ap (λ ws. get_or ws i 0) (row t r))))

-- the weighted sum of the operands is that of the blocks
pub mixed_words-same : (p : Params) (blocks : List Block) (terms : List Term) (constant : ℤ) → AreCellsOf blocks terms → AreBlocksOf p blocks →
    words_below (large_dim p + 1) (mixed_operands p terms constant (operand_words (map (λ (b : Block). b.words) blocks) terms))
    ≡ mixed_words p blocks terms constant
mixed_words-same p blocks terms constant cells sizes =
    let n : ℕ = large_dim p + 1 in
    let f : ℕ → ℤ = mixed_operands p terms constant (operand_words (map (λ (b : Block). b.words) blocks) terms) in
    are-words_below n (mixed p blocks terms constant) (words_below n f) (record {
      count = (words_below-are n f).count;
      each = λ i q. (words_below-are n f).each i q ∙ ap word (mixed-same p blocks terms constant cells sizes i q);
    })
