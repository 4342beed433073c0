use Rattle.std.proofs.Common.{rules, ◌≡◌, ℤ, pos, ◌*ℤ◌, ◌+◌, ◌*◌, ◌-◌, ◌%◌, ◌^◌, ◌<◌, ℕ, List, length, get_or, set, sym, ◌∙◌, ap, refl, to_z, of_z, arith}
use Rattle.std.proofs.lemmas.Int.{to_z-of_z}
use Rattle.rx_laws.specs.Torus.{word}
use Rattle.rx_laws.specs.Sum.{sum_to}
use Rattle.rx_laws.specs.Words.{of_words}
use Rattle.rx_laws.specs.Decode.{unit}
use Rattle.rx_laws.proofs.Torus.{word-word, word-cast, word-wrapping_add, word-wrapping_mul}
use Rattle.rx_params.specs.Derived.{large_dim}
use Rattle.rx_net.specs.declared.term.Term.{Term}
use Rattle.rx_block.specs.declared.block.Block.{Block}
use Rattle.rx_block.specs.Combine.{weighted, no_term, no_block}
use Rattle.rx_block.proofs.Mixed.{mixed-none, mixed-more, mixed-last}
use Rattle.rx_block.proofs.Tagged.{block-read}
use mir.Syntax.{w8, w16, w64}
use mir.Val.{SFits}
use Rattle.rx_block.proofs.sums.mix_into.Goals as goal

pub loop-term-init : goal.loop-term-init
loop-term-init c = λ i p. mixed-none (get_or c.fill.new.self i 0) _ (c.fill.ensures.clones i 0 (omega (arith, p, c.fill.ensures.len)) refl)

pub loop-term-preserved : goal.loop-term-preserved
loop-term-preserved c =
    let blocks : List Block = c.args.blocks.now in
    let n : ℕ = c.loop-term.term-index in
    let t : Term = get_or c.args.terms.now n no_term in
    let b : Block = c.index-blocks-term.result in
    let words : List ℕ = c.as_slice-words.result.now in
    let small : SFits w8 t.weight = search rules in
    let weight : c.from.result ≡ t.weight = c.from.ensures ∙ to_z-of_z w8 t.weight small in
    let wide : SFits w64 c.from.result = search rules in
    let w : ℤ = to_z w64 (of_z w64 c.from.result) in
    let same : w ≡ t.weight = to_z-of_z w64 c.from.result wide ∙ weight in
    let read : get_or blocks t.cell no_block ≡ b = block-read blocks t.cell b c.index-blocks-term.is (c.requires.cells n c.loop-term-test.true) in
    let lent : words ≡ (get_or blocks t.cell no_block).words =
    c.as_slice-words.ensures ∙ ap (λ (x : Block). x.words) (sym c.index-blocks-term.is ∙ sym read) in
    λ i p.
    let here : i < length c.loop-term.out = omega arith in
    mixed-more n (get_or c.loop-term.out i 0) (get_or c.add_scaled.new.acc i 0) (w *ℤ of_words words i) (weighted blocks c.args.terms.now i)
    (c.loop-term.invariant i here) (c.add_scaled.ensures.each i here)
    (ap (λ z. z *ℤ of_words words i) same ∙ ap (λ xs. t.weight *ℤ of_words xs i) lent)

pub returns : goal.returns
returns c =
    let out : List ℕ = c.loop-term.out in
    let terms : List Term = c.args.terms.now in
    let n : ℕ = large_dim c.args.p.now in
    let count : length out ≡ n + 1 = omega (arith, c.loop-term.auto.out, c.fill.ensures.len, c.requires.room) in
    let all : c.loop-term.term-index ≡ length terms = omega arith in
    let f : ℕ → ℤ = λ i. sum_to (length terms) (weighted c.args.blocks.now terms i) in
    let written : (i : ℕ) → i < length out → get_or out i 0 ≡ word (f i) =
    λ i p. c.loop-term.invariant i p ∙ ap (λ m. word (sum_to m (weighted c.args.blocks.now terms i))) all in
    let wide : SFits w64 c.from-2.result = search rules in
    let units : word (pos c.cast_unsigned-units.result) ≡ word c.args.constant =
    ap (λ k. word (pos k)) (c.cast_unsigned-units.ensures ∙ ap (of_z w64) (to_z-of_z w64 c.from-2.result wide))
    ∙ word-cast c.from-2.result wide ∙ ap word (c.from-2.ensures ∙ to_z-of_z w16 c.args.constant c.ranges.constant) in
    let message : ℕ = c.unit.result * c.cast_unsigned-units.result % 2 ^ 64 in
    let last : ℤ = pos (unit c.args.p.now.message_bits) *ℤ c.args.constant in
    let product : word (pos message) ≡ word last =
    ap (λ k. word (pos k)) (word-wrapping_mul c.unit.result c.cast_unsigned-units.result (pos (unit c.args.p.now.message_bits)) c.args.constant
    (ap (λ k. word (pos k)) c.unit.ensures) units) ∙ word-word last in
    let body : word (pos (get_or out n 0)) ≡ word (f n) = ap (λ k. word (pos k)) (written n (omega arith)) ∙ word-word (f n) in
    let place : length out - 1 ≡ n = omega arith in
    ap (λ j. set out j ((get_or out j 0 + message) % 2 ^ 64)) place
    ∙ mixed-last n out ((get_or out n 0 + message) % 2 ^ 64) f last count written
    (word-wrapping_add (get_or out n 0) message (f n) last body product)
