-- Residues, and the numbers with a sign that they stand for.
use Rattle.std.proofs.Common.{◌≡◌, ℕ, zero, suc, ◌+◌, ◌-◌, ◌*◌, ◌%◌, ◌^◌, ◌<◌, ◌≤◌, ℤ, pos, negsuc, ◌+ℤ◌, ◌*ℤ◌, ◌-ℤ◌, refl, sym, ◌∙◌, ap, arith, cond, inl, inr}
use Rattle.std.specs.Prelude.{◌≤ℤ◌, ◌<ℤ◌, neg_ℤ}
use Rattle.std.specs.Int.{int_rem_euclid}
use Rattle.std.specs.Int.RustNames.{unsigned_abs}
use Rattle.std.proofs.lemmas.Bool.{cases_lt, lt-ltb, le-ltb}
use Rattle.std.proofs.lemmas.Int.{ints, int_rem_euclid_is}
use Rattle.std.proofs.lemmas.Nat.{mod_below, pow_pos}
use Rattle.std.proofs.Math.Nat.{pow-suc, mod-eq_of_lt, add-mul-mod_self_right}
use Rattle.rx_residue.specs.Residues.{residue, signed}

pub residue_below : (width : ℕ) (z : ℤ) → residue width z < 2 ^ width
unfolding residue
residue_below width (pos n) = mod_below n (2 ^ width) (pow_pos width)
residue_below width (negsuc n) = omega (arith, pow_pos width)

pub residue_same : (width n : ℕ) → n < 2 ^ width → residue width (pos n) ≡ n
unfolding residue
residue_same width n h = mod-eq_of_lt h

pub residue_rem : (width : ℕ) (z : ℤ) → pos (residue width z) ≡ int_rem_euclid z (pos (2 ^ width))
unfolding residue
residue_rem width (pos n) = refl
residue_rem width (negsuc n) = refl

-- the residue is that of any natural number that is some turns on
pub residue_by : (width : ℕ) (z : ℤ) (turns m : ℕ) → z +ℤ pos (turns * 2 ^ width) ≡ pos m → residue width z ≡ m % 2 ^ width
residue_by width z turns m e =
    let r : pos (residue width z) ≡ pos (m % 2 ^ width) =
    residue_rem width z ∙ int_rem_euclid_is z (pos (2 ^ width)) (2 ^ width) turns m (pow_pos width) refl e
    in
    ap unsigned_abs r

-- there is such a number
lifted : (d : ℕ) (z : ℤ) → 0 < d → (turns : ℕ) × (m : ℕ) × (z +ℤ pos (turns * d) ≡ pos m)
lifted d (pos n) h = (0, n, omega (arith, ints))
lifted d (negsuc n) h =
    let e : suc n * d ≡ suc n * (d - 1) + suc n = (let s : d ≡ (d - 1) + 1 = omega arith in let t : suc n * d ≡ suc n * ((d - 1) + 1) = ap (λ k. suc n * k) s in omega arith) in
    (suc n, suc n * (d - 1), omega (arith, ints))

up_turned : (width : ℕ) (z : ℤ) (t : ℕ) → residue width (z +ℤ pos t *ℤ pos (2 ^ width)) ≡ residue width z
up_turned width z t =
    let d : ℕ = 2 ^ width in
    let l = lifted d z (pow_pos width) in
    let e : z +ℤ pos (l.0 * d) ≡ pos l.1 = l.2 in
    let p : pos t *ℤ pos d ≡ pos (t * d) = refl in
    let f : (z +ℤ pos t *ℤ pos d) +ℤ pos (l.0 * d) ≡ pos (l.1 + t * d) = omega (arith, ints) in
    let m : (l.1 + t * d) % d ≡ l.1 % d = add-mul-mod_self_right l.1 t d in
    residue_by width (z +ℤ pos t *ℤ pos d) l.0 (l.1 + t * d) f ∙ m ∙ sym (residue_by width z l.0 l.1 e)

pub residue_turned : (width : ℕ) (z turns : ℤ) → residue width (z +ℤ turns *ℤ pos (2 ^ width)) ≡ residue width z
residue_turned width z (pos t) = up_turned width z t
residue_turned width z (negsuc t) =
    let d : ℕ = 2 ^ width in
    let y : ℤ = z +ℤ negsuc t *ℤ pos d in
    let e : y +ℤ pos (suc t) *ℤ pos d ≡ z = omega (arith, ints) in
    sym (up_turned width y (suc t)) ∙ ap (residue width) e

-- ---- numbers with a sign

halves : (width : ℕ) → 1 ≤ width → 2 ^ width ≡ 2 ^ (width - 1) * 2
halves zero h = absurd (omega arith)
halves (suc w) h = let e : suc w - 1 ≡ w = omega arith in pow-suc 2 w ∙ ap (λ k. 2 ^ k * 2) (sym e)

pub signed_small : (width x : ℕ) → x < 2 ^ (width - 1) → signed width x ≡ pos x
unfolding signed
signed_small width x h = ap (λ b. cond b (pos x) (pos x -ℤ pos (2 ^ width))) (lt-ltb x (2 ^ (width - 1)) h)

pub signed_big : (width x : ℕ) → 2 ^ (width - 1) ≤ x → signed width x ≡ pos x -ℤ pos (2 ^ width)
unfolding signed
signed_big width x h = ap (λ b. cond b (pos x) (pos x -ℤ pos (2 ^ width))) (le-ltb x (2 ^ (width - 1)) h)

pub residue_signed : (width x : ℕ) → 1 ≤ width → x < 2 ^ width → residue width (signed width x) ≡ x
residue_signed width x w h =
    elim (cases_lt x (2 ^ (width - 1))) [
      | inl l ↦ ap (residue width) (signed_small width x l) ∙ residue_same width x h
      | inr l ↦
          let e : (pos x -ℤ pos (2 ^ width)) +ℤ pos (1 * 2 ^ width) ≡ pos x = omega (arith, ints) in
          ap (residue width) (signed_big width x l) ∙ residue_by width (pos x -ℤ pos (2 ^ width)) 1 x e ∙ mod-eq_of_lt h
    ]

pub signed_low : (width x : ℕ) → 1 ≤ width → x < 2 ^ width → neg_ℤ (pos (2 ^ (width - 1))) ≤ℤ signed width x
signed_low width x w h =
    let d : 2 ^ width ≡ 2 ^ (width - 1) * 2 = halves width w in
    elim (cases_lt x (2 ^ (width - 1))) [
      | inl l ↦ let e : signed width x ≡ pos x = signed_small width x l in omega (arith, ints)
      | inr l ↦ let e : signed width x ≡ pos x -ℤ pos (2 ^ width) = signed_big width x l in omega (arith, ints)
    ]

pub signed_high : (width x : ℕ) → 1 ≤ width → x < 2 ^ width → signed width x <ℤ pos (2 ^ (width - 1))
signed_high width x w h =
    let d : 2 ^ width ≡ 2 ^ (width - 1) * 2 = halves width w in
    elim (cases_lt x (2 ^ (width - 1))) [
      | inl l ↦ let e : signed width x ≡ pos x = signed_small width x l in omega (arith, ints)
      | inr l ↦ let e : signed width x ≡ pos x -ℤ pos (2 ^ width) = signed_big width x l in omega (arith, ints)
    ]

pub signed_residue : (width : ℕ) (z : ℤ) → 1 ≤ width → neg_ℤ (pos (2 ^ (width - 1))) ≤ℤ z → z <ℤ pos (2 ^ (width - 1)) → signed width (residue width z) ≡ z
signed_residue width (pos n) w l h =
    let d : 2 ^ width ≡ 2 ^ (width - 1) * 2 = halves width w in
    let s : n < 2 ^ (width - 1) = omega (arith, ints) in
    ap (signed width) (residue_same width n (omega arith)) ∙ signed_small width n s
signed_residue width (negsuc n) w l h =
    let d : 2 ^ width ≡ 2 ^ (width - 1) * 2 = halves width w in
    let s : n < 2 ^ (width - 1) = omega (arith, ints) in
    let x : ℕ = 2 ^ width - 1 - n in
    let e : negsuc n +ℤ pos (1 * 2 ^ width) ≡ pos x = omega (arith, ints) in
    let b : x < 2 ^ width = omega (arith, pow_pos width) in
    let r : residue width (negsuc n) ≡ x = residue_by width (negsuc n) 1 x e ∙ mod-eq_of_lt b in
    let big : 2 ^ (width - 1) ≤ x = omega arith in
    let z : pos x -ℤ pos (2 ^ width) ≡ negsuc n = omega (arith, ints) in
    ap (signed width) r ∙ signed_big width x big ∙ z
