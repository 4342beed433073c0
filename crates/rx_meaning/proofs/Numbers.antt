-- The numbers that values stand for.
use Rattle.std.proofs.Common.{◌≡◌, ℕ, ◌-◌, ◌^◌, ◌<◌, ℤ, pos, negsuc, ◌+ℤ◌, ◌-ℤ◌, ◌*ℤ◌, sym, ◌∙◌, ap, subst, arith, inl, inr}
use Rattle.std.specs.Prelude.{◌≤ℤ◌, ◌<ℤ◌, neg_ℤ}
use Rattle.std.proofs.lemmas.Bool.{cases_lt}
use Rattle.std.proofs.lemmas.Int.{ints}
use Rattle.rx_laws.proofs.Ring.{add_mul, neg_mul, mul_comm_ℤ, mul_assoc_ℤ}
use Rattle.rx_residue.specs.Residues.{residue, signed}
use Rattle.rx_residue.proofs.Turns.{residue_same, residue_turned, signed_small, signed_big, signed_low, signed_high, signed_residue}
use Rattle.rx_language.specs.declared.word.Word.TheVariants.{Add, Sub, Mul, Neg, Shl}
use Rattle.rx_language.specs.declared.kind.NameKind.{NameKind}
use Rattle.rx_language.specs.declared.kind.NameKind.TheVariants.{Int, Sint, Bit}
use Rattle.rx_language.specs.Kinds.{bits_of}
use Rattle.rx_meaning.specs.declared.operand.Operand.{Operand}
use Rattle.rx_meaning.specs.Operations.{HasBits, number_by, number_of, given_by}
use Rattle.rx_meaning.specs.Laws.{InRange}

-- ---- what a kind can hold

pub number_held : (kind : NameKind) (x : ℕ) → HasBits kind → x < 2 ^ bits_of kind → InRange kind (number_by kind x)
number_held (Int width) x b h = (omega (arith, ints), omega (arith, ints))
number_held (Sint width) x b h = (signed_low width x b.some h, signed_high width x b.some h)
number_held Bit x b h = (omega (arith, ints), omega (arith, ints))

-- a natural number below two to the width is its residue
natural_exact : (width : ℕ) (z : ℤ) → pos 0 ≤ℤ z → z <ℤ pos (2 ^ width) → pos (residue width z) ≡ z
natural_exact width (pos n) l h = let s : n < 2 ^ width = omega (arith, ints) in ap pos (residue_same width n s)
natural_exact width (negsuc n) l h = absurd (omega (arith, ints))

pub number_exact : (kind : NameKind) (z : ℤ) → HasBits kind → InRange kind z → number_by kind (residue (bits_of kind) z) ≡ z
number_exact (Int width) z b h = natural_exact width z h.0 h.1
number_exact (Sint width) z b h = signed_residue width z b.some h.0 h.1
number_exact Bit z b h = natural_exact 1 z h.0 h.1

-- ---- the number of a residue is some turns from it

-- z is some turns of 2 ^ width from x
record Turns (width : ℕ) (z x : ℤ) : Type 0 where
  turns : ℤ
  is : z ≡ x +ℤ turns *ℤ pos (2 ^ width)

no_turn : (width : ℕ) (x : ℤ) → Turns width x x
no_turn width x = record { turns = pos 0; is = omega (arith, ints) }

number_turns : (kind : NameKind) (x : ℕ) → Turns (bits_of kind) (number_by kind x) (pos x)
number_turns (Int width) x = no_turn width (pos x)
number_turns Bit x = no_turn 1 (pos x)
number_turns (Sint width) x =
    elim (cases_lt x (2 ^ (width - 1))) [
      | inl l ↦ record { turns = pos 0; is = (let e : signed width x ≡ pos x = signed_small width x l in omega (arith, ints)) }
      | inr l ↦ record { turns = negsuc 0; is = (let e : signed width x ≡ pos x -ℤ pos (2 ^ width) = signed_big width x l in omega (arith, ints)) }
    ]

same_residue : (width : ℕ) (z x : ℤ) → Turns width z x → residue width x ≡ residue width z
same_residue width z x t = sym (ap (residue width) t.is ∙ residue_turned width x t.turns)

sum_turns : (width : ℕ) (z x y v : ℤ) → Turns width z x → Turns width y v → Turns width (z +ℤ y) (x +ℤ v)
sum_turns width z x y v s t =
    let m : (s.turns +ℤ t.turns) *ℤ pos (2 ^ width) ≡ s.turns *ℤ pos (2 ^ width) +ℤ t.turns *ℤ pos (2 ^ width) = add_mul s.turns t.turns (pos (2 ^ width)) in
    let a : z ≡ x +ℤ s.turns *ℤ pos (2 ^ width) = s.is in
    let b : y ≡ v +ℤ t.turns *ℤ pos (2 ^ width) = t.is in
    record { turns = s.turns +ℤ t.turns; is = omega (arith, ints) }

opposite_turns : (width : ℕ) (z x : ℤ) → Turns width z x → Turns width (neg_ℤ z) (neg_ℤ x)
opposite_turns width z x t =
    let m : neg_ℤ t.turns *ℤ pos (2 ^ width) ≡ neg_ℤ (t.turns *ℤ pos (2 ^ width)) = neg_mul t.turns (pos (2 ^ width)) in
    let a : z ≡ x +ℤ t.turns *ℤ pos (2 ^ width) = t.is in
    record { turns = neg_ℤ t.turns; is = omega (arith, ints) }

-- on the left alone
product_turns : (width : ℕ) (z x y : ℤ) → Turns width z x → Turns width (z *ℤ y) (x *ℤ y)
product_turns width z x y t =
    let d : ℤ = pos (2 ^ width) in
    let e : (t.turns *ℤ d) *ℤ y ≡ (t.turns *ℤ y) *ℤ d = mul_assoc_ℤ t.turns d y ∙ ap (λ k. t.turns *ℤ k) (mul_comm_ℤ d y) ∙ sym (mul_assoc_ℤ t.turns y d) in
    record { turns = t.turns *ℤ y; is = ap (λ k. k *ℤ y) t.is ∙ add_mul x (t.turns *ℤ d) y ∙ ap (λ k. x *ℤ y +ℤ k) e }

products_turns : (width : ℕ) (z x y v : ℤ) → Turns width z x → Turns width y v → residue width (x *ℤ v) ≡ residue width (z *ℤ y)
products_turns width z x y v s t =
    same_residue width (z *ℤ v) (x *ℤ v) (product_turns width z x v s)
    ∙ ap (residue width) (mul_comm_ℤ z v)
    ∙ same_residue width (y *ℤ z) (v *ℤ z) (product_turns width y v z t)
    ∙ ap (residue width) (mul_comm_ℤ y z)

-- ---- words over numbers with a sign

-- the second argument's turns, at the width of the first
second_turns : (a b : Operand) → bits_of b.kind ≡ bits_of a.kind → Turns (bits_of a.kind) (number_of b) (pos b.value)
second_turns a b e = subst (λ (w : ℕ). Turns w (number_of b) (pos b.value)) e (number_turns b.kind b.value)

pub sums : (a b c : Operand) (given : ℕ) → bits_of b.kind ≡ bits_of a.kind → residue (bits_of a.kind) (given_by Add given a b c) ≡ residue (bits_of a.kind) (number_of a +ℤ number_of b)
unfolding given_by
sums a b c given e =
    same_residue (bits_of a.kind) (number_of a +ℤ number_of b) (pos a.value +ℤ pos b.value)
    (sum_turns (bits_of a.kind) (number_of a) (pos a.value) (number_of b) (pos b.value) (number_turns a.kind a.value) (second_turns a b e))

pub differences : (a b c : Operand) (given : ℕ) → bits_of b.kind ≡ bits_of a.kind → residue (bits_of a.kind) (given_by Sub given a b c) ≡ residue (bits_of a.kind) (number_of a -ℤ number_of b)
unfolding given_by
differences a b c given e =
    same_residue (bits_of a.kind) (number_of a -ℤ number_of b) (pos a.value -ℤ pos b.value)
    (sum_turns (bits_of a.kind) (number_of a) (pos a.value) (neg_ℤ (number_of b)) (neg_ℤ (pos b.value)) (number_turns a.kind a.value)
    (opposite_turns (bits_of a.kind) (number_of b) (pos b.value) (second_turns a b e)))

pub products : (a b c : Operand) (given : ℕ) → bits_of b.kind ≡ bits_of a.kind → residue (bits_of a.kind) (given_by Mul given a b c) ≡ residue (bits_of a.kind) (number_of a *ℤ number_of b)
unfolding given_by
products a b c given e =
    products_turns (bits_of a.kind) (number_of a) (pos a.value) (number_of b) (pos b.value) (number_turns a.kind a.value) (second_turns a b e)

pub opposites : (a b c : Operand) (given : ℕ) → residue (bits_of a.kind) (given_by Neg given a b c) ≡ residue (bits_of a.kind) (neg_ℤ (number_of a))
unfolding given_by
opposites a b c given =
    same_residue (bits_of a.kind) (neg_ℤ (number_of a)) (neg_ℤ (pos a.value)) (opposite_turns (bits_of a.kind) (number_of a) (pos a.value) (number_turns a.kind a.value))

pub shifts : (a b c : Operand) (given : ℕ) → residue (bits_of a.kind) (given_by Shl given a b c) ≡ residue (bits_of a.kind) (number_of a *ℤ pos (2 ^ given))
unfolding given_by
shifts a b c given =
    same_residue (bits_of a.kind) (number_of a *ℤ pos (2 ^ given)) (pos a.value *ℤ pos (2 ^ given))
    (product_turns (bits_of a.kind) (number_of a) (pos a.value) (pos (2 ^ given)) (number_turns a.kind a.value))
