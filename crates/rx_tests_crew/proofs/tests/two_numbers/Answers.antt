use Rattle.std.proofs.Common.{◌≡◌, ℕ, zero, suc, ◌<◌, ◌≤◌, List, [], ◌∷◌, get_or, refl, ap, arith}
use Rattle.rx_params.specs.declared.kind.Kind.TheVariants.{Int}
use Rattle.rx_net.specs.declared.net.NetInput.{NetInput}
use Rattle.rx_net.specs.declared.net.Net.{Net}
use Rattle.rx_net.specs.Cells.{input_cells, cell_count, degree, noise, given, laid, degrees_after, noises_after}
use Rattle.rx_net.specs.Pen.{empty_net, with_input}
use Rattle.rx_tests_crew.proofs.tests.two_numbers.Goals as goal

-- a number of one block
record IsOne (i : NetInput) : Type 0 where
  kind : i.kind ≡ Int
  bits : i.bits ≡ 2
  degree : i.degree ≡ 3
  noise : i.noise ≡ 1

abbrev pair : NetInput → NetInput → Net
pair i j = with_input (with_input (empty_net 2) i) j

pair-cells : (i j : NetInput) → IsOne i → IsOne j → input_cells 2 (i ∷ j ∷ []) ≡ 2
unfolding input_cells
pair-cells i j h k = rw (h.kind, h.bits, k.kind, k.bits) refl

pair-given : (number : NetInput → ℕ) (i j : NetInput) → IsOne i → IsOne j → given 2 number (i ∷ j ∷ []) ≡ number i ∷ number j ∷ []
unfolding given
pair-given number i j h k = rw (h.kind, h.bits, k.kind, k.bits) refl

either : (x y least c : ℕ) → least ≤ x → least ≤ y → c < 2 → least ≤ get_or (x ∷ y ∷ []) c 0
either x y least zero h k p = h
either x y least (suc zero) h k p = k
either x y least (suc (suc c)) h k p = absurd (omega (arith, p))

pair-degree : (i j : NetInput) → IsOne i → IsOne j → (c : ℕ) → c < 2 → 3 ≤ degree (pair i j) c
unfolding degree degrees_after laid
pair-degree i j h k c p =
    let e : degree (pair i j) c ≡ get_or (i.degree ∷ j.degree ∷ []) c 0 = ap (λ (xs : List ℕ). get_or xs c 0) (pair-given (λ x. x.degree) i j h k) in
    let low : 3 ≤ get_or (i.degree ∷ j.degree ∷ []) c 0 = either i.degree j.degree 3 c (omega (arith, h.degree)) (omega (arith, k.degree)) p in
    omega (arith, e, low)

pair-noise : (i j : NetInput) → IsOne i → IsOne j → (c : ℕ) → c < 2 → 1 ≤ noise (pair i j) c
unfolding noise noises_after laid
pair-noise i j h k c p =
    let e : noise (pair i j) c ≡ get_or (i.noise ∷ j.noise ∷ []) c 0 = ap (λ (xs : List ℕ). get_or xs c 0) (pair-given (λ x. x.noise) i j h k) in
    let low : 1 ≤ get_or (i.noise ∷ j.noise ∷ []) c 0 = either i.noise j.noise 1 c (omega (arith, h.noise)) (omega (arith, k.noise)) p in
    omega (arith, e, low)

-- what is told of a pen that is given both numbers
record HasTwo (n : Net) : Type 0 where
  inputs : input_cells n.space n.inputs ≡ 2
  cells : cell_count n ≡ 2
  tags : (c : ℕ) → c < 2 → (3 ≤ degree n c) × (1 ≤ noise n c)

pair-has : (i j : NetInput) → IsOne i → IsOne j → HasTwo (pair i j)
unfolding cell_count
pair-has i j h k = record {
  inputs = pair-cells i j h k;
  cells = omega (arith, pair-cells i j h k);
  tags = λ c p. (pair-degree i j h k c p, pair-noise i j h k c p);
}

abbrev Form : NetInput → Type 0
Form i = (i.kind ≡ Int) × (i.bits ≡ 2)

abbrev Tags : NetInput → Type 0
Tags i = (i.degree ≡ 3) × (i.noise ≡ 1)

is-one : (i : NetInput) → Form i → Tags i → IsOne i
is-one i f t = record { kind = f.0; bits = f.1; degree = t.0; noise = t.1 }

has-two : (n0 n1 n2 : Net) (i j : NetInput) → n0 ≡ empty_net 2 → n1 ≡ with_input n0 i → n2 ≡ with_input n1 j
    → Form i → Tags i → Form j → Tags j → HasTwo n2
has-two n0 n1 n2 i j e d f a b c g = rw (f, d, e) (pair-has i j (is-one i a b) (is-one j c g))

pub returns-clause-inputs : goal.returns-clause-inputs
returns-clause-inputs c =
    let one = c.in_ok-number in
    let other = c.in_ok-number-2 in
    let h = has-two c.new-pen.result c.input.new.self c.input-2.new.self one.field-0 other.field-0 c.new-pen.ensures
    c.in_ok-input.ensures.added c.in_ok-input-2.ensures.added one.ensures.form one.ensures.tags other.ensures.form other.ensures.tags in
    h.inputs

pub returns-clause-cells : goal.returns-clause-cells
returns-clause-cells c =
    let one = c.in_ok-number in
    let other = c.in_ok-number-2 in
    let h = has-two c.new-pen.result c.input.new.self c.input-2.new.self one.field-0 other.field-0 c.new-pen.ensures
    c.in_ok-input.ensures.added c.in_ok-input-2.ensures.added one.ensures.form one.ensures.tags other.ensures.form other.ensures.tags in
    h.cells

pub returns-clause-tags : goal.returns-clause-tags
returns-clause-tags c =
    let one = c.in_ok-number in
    let other = c.in_ok-number-2 in
    let h = has-two c.new-pen.result c.input.new.self c.input-2.new.self one.field-0 other.field-0 c.new-pen.ensures
    c.in_ok-input.ensures.added c.in_ok-input-2.ensures.added one.ensures.form one.ensures.tags other.ensures.form other.ensures.tags in
    h.tags
