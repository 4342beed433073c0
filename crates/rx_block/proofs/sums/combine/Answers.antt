use Rattle.std.proofs.Common.{rules, ◌≡◌, pos, ◌-◌, int_lt, Bool, true, false, length, ℕ, ℤ, List, to_z, of_z, ap, ◌∙◌, sym, refl, arith}
use Rattle.std.proofs.lemmas.Int.{to_z-of_z}
use Rattle.rx_laws.specs.Decode.{plaintexts}
use Rattle.rx_list.proofs.Overwritten.{overwritten-all}
use Rattle.rx_net.specs.declared.term.Term.{Term}
use Rattle.rx_net.specs.Tags.{low_of, high_of, noise_of}
use Rattle.rx_block.specs.Combine.{mixed_words, degree_in, noise_in}
use Rattle.rx_block.proofs.KeptSums.{kept-sum}
use Rattle.rx_net.proofs.Fits.{low_high}
use Rattle.rx_block.proofs.Tagged.{degree-fits, refused-low, refused-high, combined-ok}
use mir.Syntax.{w16, w32}
use mir.Val.{SFits}
use Rattle.rx_block.proofs.sums.combine.Goals as goal
use Rattle.rx_block.proofs.sums.combine.Goals.{then-low-lt0-via-then-low-lt0, then-low-lt0-via-else-low-lt0+then-high-greatest_number}

-- a sum, as it is read and over the constant as it is read
as_read : (f : ℤ → ℤ) (sum constant : ℤ) → SFits w32 sum → SFits w16 constant → sum ≡ f (to_z w16 (of_z w16 constant)) →
    to_z w32 (of_z w32 sum) ≡ f constant
as_read f sum constant p q e = to_z-of_z w32 sum p ∙ e ∙ ap f (to_z-of_z w16 constant q)

-- a test against a limit, as it is read
as_tested : (limit bound sum : ℤ) (answer : Bool) → SFits w32 limit → limit ≡ bound → int_lt (to_z w32 (of_z w32 limit)) sum ≡ answer →
    int_lt bound sum ≡ answer
as_tested limit bound sum answer p e t = ap (λ z. int_lt z sum) (sym e ∙ sym (to_z-of_z w32 limit p)) ∙ t

pub returns-then-low-lt0-clause-exact : goal.returns-then-low-lt0-clause-exact
returns-then-low-lt0-clause-exact c =
    let degree : ℕ → ℕ = degree_in c.args.blocks.now in
    let terms : List Term = c.args.terms.now in
    let constant : ℤ = c.args.constant in
    let m : ℕ = c.args.p.now.message_bits in
    let words : List ℕ = mixed_words c.args.p.now c.args.blocks.now terms constant in
    let noise : ℕ = noise_of (noise_in c.args.blocks.now) terms in
    let l : ℤ = to_z w32 (of_z w32 c.tag_sums-low.result.low) in
    let h : ℤ = to_z w32 (of_z w32 c.tag_sums-low.result.high) in
    let low : l ≡ low_of degree constant terms =
    as_read (λ z. low_of degree z terms) c.tag_sums-low.result.low constant (search rules) c.ranges.constant c.tag_sums-low.ensures.low in
    let high : h ≡ high_of degree constant terms =
    as_read (λ z. high_of degree z terms) c.tag_sums-low.result.high constant (search rules) c.ranges.constant c.tag_sums-low.ensures.high in
    elim c.then-low-lt0.branch [
      | then-low-lt0-via-then-low-lt0 w ↦ (
        refused-low m (low_of degree constant terms) (high_of degree constant terms) l h noise words low high w.if-low-lt0.true,
        refl,
      )
      | then-low-lt0-via-else-low-lt0+then-high-greatest_number w ↦ (
        refused-high m (low_of degree constant terms) (high_of degree constant terms) l h noise words low high w.if-low-lt0.false
            (as_tested w.greatest_number.result (pos (plaintexts m - 1)) h true (search rules) w.greatest_number.ensures w.if-high-greatest_number.true),
        refl,
      )
    ]

pub overflow_cast-out : goal.overflow_cast-out
overflow_cast-out c =
    let degree : ℕ → ℕ = degree_in c.args.blocks.now in
    let terms : List Term = c.args.terms.now in
    let constant : ℤ = c.args.constant in
    let m : ℕ = c.args.p.now.message_bits in
    let l : ℤ = to_z w32 (of_z w32 c.tag_sums-low.result.low) in
    let h : ℤ = to_z w32 (of_z w32 c.tag_sums-low.result.high) in
    degree-fits m (low_of degree constant terms) (high_of degree constant terms) l h c.requires.fields.message_bits
    (low_high degree constant terms)
    (as_read (λ z. low_of degree z terms) c.tag_sums-low.result.low constant (search rules) c.ranges.constant c.tag_sums-low.ensures.low)
    (as_read (λ z. high_of degree z terms) c.tag_sums-low.result.high constant (search rules) c.ranges.constant c.tag_sums-low.ensures.high)
    c.if-low-lt0.false
    (as_tested c.greatest_number.result (pos (plaintexts m - 1)) h false (search rules) c.greatest_number.ensures c.if-high-greatest_number.false)

pub returns-clause-exact : goal.returns-clause-exact
returns-clause-exact c =
    let degree : ℕ → ℕ = degree_in c.args.blocks.now in
    let terms : List Term = c.args.terms.now in
    let constant : ℤ = c.args.constant in
    let m : ℕ = c.args.p.now.message_bits in
    let words : List ℕ = mixed_words c.args.p.now c.args.blocks.now terms constant in
    let noise : ℕ = noise_of (noise_in c.args.blocks.now) terms in
    let l : ℤ = to_z w32 (of_z w32 c.tag_sums-low.result.low) in
    let h : ℤ = to_z w32 (of_z w32 c.tag_sums-low.result.high) in
    let size : length c.mix_into.new.out ≡ length c.args.out.now.words =
    omega (arith, c.mix_into.auto.out, ap length c.as_mut_slice.ensures.value) in
    combined-ok m (low_of degree constant terms) (high_of degree constant terms) l h noise c.tag_sums-low.result.noise _ words _
    (as_read (λ z. low_of degree z terms) c.tag_sums-low.result.low constant (search rules) c.ranges.constant c.tag_sums-low.ensures.low)
    (as_read (λ z. high_of degree z terms) c.tag_sums-low.result.high constant (search rules) c.ranges.constant c.tag_sums-low.ensures.high)
    c.tag_sums-low.ensures.noise c.if-low-lt0.false
    (as_tested c.greatest_number.result (pos (plaintexts m - 1)) h false (search rules) c.greatest_number.ensures c.if-high-greatest_number.false)
    (omega (arith, c.noise_limit.ensures.value, c.from.ensures, c.if-noise-from.false))
    (overwritten-all c.args.out.now.words c.mix_into.new.out size ∙ c.mix_into.ensures
    ∙ ap (mixed_words c.args.p.now c.args.blocks.now terms) (to_z-of_z w16 constant c.ranges.constant)) refl

pub returns-clause-size : goal.returns-clause-size
returns-clause-size c =
    let size : length c.mix_into.new.out ≡ length c.args.out.now.words =
    omega (arith, c.mix_into.auto.out, ap length c.as_mut_slice.ensures.value) in
    ap length (overwritten-all c.args.out.now.words c.mix_into.new.out size) ∙ size

pub returns-clause-keeps : goal.returns-clause-keeps
returns-clause-keeps c =
    kept-sum c.args.p.now c.args.blocks.now c.args.terms.now c.args.constant _ (returns-clause-exact c)
