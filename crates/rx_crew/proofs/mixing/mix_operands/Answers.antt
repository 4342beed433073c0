use Rattle.std.proofs.Common.{rules, ◌≡◌, ℤ, pos, ◌*ℤ◌, ◌+◌, ◌*◌, ◌-◌, ◌%◌, ◌^◌, ◌<◌, ℕ, List, length, get_or, set, ◌∙◌, ap, refl, to_z, of_z, arith}
use Rattle.std.proofs.lemmas.Int.{to_z-of_z}
use Rattle.rx_laws.specs.Torus.{word}
use Rattle.rx_laws.specs.Sum.{sum_to}
use Rattle.rx_laws.specs.Words.{of_words}
use Rattle.rx_laws.specs.Decode.{unit}
use Rattle.rx_laws.proofs.Torus.{word-word, word-cast, word-wrapping_add, word-wrapping_mul}
use Rattle.rx_params.specs.Derived.{large_dim}
use Rattle.rx_net.specs.declared.term.Term.{Term}
use Rattle.rx_block.specs.Combine.{no_term}
use Rattle.rx_block.proofs.Mixed.{mixed-none, mixed-more, mixed-last}
use Rattle.rx_crew.specs.Kernel.{weighted_operand}
use Rattle.rx_crew.proofs.Operands.{operand-within}
use mir.Syntax.{w8, w16, w64}
use mir.Val.{SFits}
use Rattle.rx_crew.proofs.mixing.mix_operands.Goals as goal

pub loop-place-init : goal.loop-place-init
loop-place-init c = λ i p. mixed-none (get_or c.fill.new.self i 0) _ (c.fill.ensures.clones i 0 (omega (arith, p, c.fill.ensures.len)) refl)

pub words_at-words-requires : goal.words_at-words-requires
words_at-words-requires c =
    let size : length c.loop-place.out ≡ large_dim c.args.p.now + 1 = omega (arith, c.loop-place.auto.out, c.fill.ensures.len, c.requires.room) in
    operand-within c.loop-place.place (length c.args.terms.now) (large_dim c.args.p.now + 1) (length c.fill.new.self) (length c.args.operands.now)
    (omega (arith, c.loop-place-test.true)) (omega (arith, c.fill.ensures.len, c.requires.room)) c.requires.operands

pub loop-place-preserved : goal.loop-place-preserved
loop-place-preserved c =
    let n : ℕ = c.loop-place.place in
    let wide : ℕ = large_dim c.args.p.now + 1 in
    let t : Term = get_or c.args.terms.now n no_term in
    let words : List ℕ = c.words_at-words.result.now in
    let small : SFits w8 t.weight = search rules in
    let weight : c.from.result ≡ t.weight = c.from.ensures ∙ to_z-of_z w8 t.weight small in
    let fits : SFits w64 c.from.result = search rules in
    let w : ℤ = to_z w64 (of_z w64 c.from.result) in
    let same : w ≡ t.weight = to_z-of_z w64 c.from.result fits ∙ weight in
    let size : length c.fill.new.self ≡ wide = omega (arith, c.fill.ensures.len, c.requires.room) in
    λ i p.
    let here : i < length c.loop-place.out = omega arith in
    let low : i < length c.fill.new.self = omega (arith, c.loop-place.auto.out) in
    let lent : get_or words i 0 ≡ get_or c.args.operands.now (n * wide + i) 0 =
    c.words_at-words.ensures.words i low ∙ ap (λ m. get_or c.args.operands.now (n * m + i) 0) size in
    mixed-more n (get_or c.loop-place.out i 0) (get_or c.add_scaled.new.acc i 0) (w *ℤ of_words words i)
    (weighted_operand c.args.p.now c.args.terms.now c.args.operands.now i)
    (c.loop-place.invariant i here) (c.add_scaled.ensures.each i here)
    (ap (λ z. z *ℤ of_words words i) same ∙ ap (λ x. t.weight *ℤ pos x) lent)

pub returns : goal.returns
returns c =
    let out : List ℕ = c.loop-place.out in
    let terms : List Term = c.args.terms.now in
    let n : ℕ = large_dim c.args.p.now in
    let count : length out ≡ n + 1 = omega (arith, c.loop-place.auto.out, c.fill.ensures.len, c.requires.room) in
    let all : c.loop-place.place ≡ length terms = omega arith in
    let f : ℕ → ℤ = λ i. sum_to (length terms) (weighted_operand c.args.p.now terms c.args.operands.now i) in
    let written : (i : ℕ) → i < length out → get_or out i 0 ≡ word (f i) =
    λ i p. c.loop-place.invariant i p ∙ ap (λ m. word (sum_to m (weighted_operand c.args.p.now terms c.args.operands.now i))) all in
    let wide : SFits w64 c.from-2.result = search rules in
    let units : word (pos c.cast_unsigned-units.result) ≡ word c.args.constant =
    ap (λ k. word (pos k)) (c.cast_unsigned-units.ensures ∙ ap (of_z w64) (to_z-of_z w64 c.from-2.result wide))
    ∙ word-cast c.from-2.result wide ∙ ap word (c.from-2.ensures ∙ to_z-of_z w16 c.args.constant c.ranges.constant) in
    let message : ℕ = c.unit.result * c.cast_unsigned-units.result % 2 ^ 64 in
    let last : ℤ = pos (unit c.args.p.now.message_bits) *ℤ c.args.constant in
    let product : word (pos message) ≡ word last =
    ap (λ k. word (pos k)) (word-wrapping_mul c.unit.result c.cast_unsigned-units.result (pos (unit c.args.p.now.message_bits)) c.args.constant
    (ap (λ k. word (pos k)) c.unit.ensures) units) ∙ word-word last in
    let body : word (pos (get_or out n 0)) ≡ word (f n) = ap (λ k. word (pos k)) (written n (omega arith)) ∙ word-word (f n) in
    let place : length out - 1 ≡ n = omega arith in
    ap (λ j. set out j ((get_or out j 0 + message) % 2 ^ 64)) place
    ∙ mixed-last n out ((get_or out n 0 + message) % 2 ^ 64) f last count written
    (word-wrapping_add (get_or out n 0) message (f n) last body product)
