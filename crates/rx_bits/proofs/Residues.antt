-- What stands above a number is what its sign says: shifts and casts by complements are those of numbers with a sign.
use Rattle.std.proofs.Common.{◌≡◌, ℕ, Bool, true, false, ◌-◌, ◌/◌, ◌%◌, ◌^◌, ◌<◌, ◌≤◌, inl, inr, pos, negsuc, refl, sym, ◌∙◌, ap, arith, cond}
use Rattle.std.specs.Prelude.{◌-ℤ◌}
use Rattle.std.specs.Int.{int_div_euclid}
use Rattle.std.proofs.lemmas.Bool.{cases_lt, le-leb, lt-leb}
use Rattle.std.proofs.lemmas.Int.{ints}
use Rattle.std.proofs.lemmas.Nat.{pow_pos}
use Rattle.std.proofs.Math.Nat.{mod-eq_of_lt, div-le_self}
use Rattle.rx_residue.specs.Residues.{residue, signed, number_as}
use Rattle.rx_residue.proofs.Turns.{signed_small, signed_big}
use Rattle.rx_bits.specs.Signs.{complement, shifted_down, cast_to}

signed_below : (w z : ℕ) → z < 2 ^ w → 2 ^ (w - 1) ≤ z → signed w z ≡ negsuc (complement w z)
signed_below w z h l = signed_big w z l ∙ (let e : (pos z -ℤ pos (2 ^ w)) ≡ negsuc (2 ^ w - 1 - z) = omega (arith, ints) in e)

residue_high : (w n : ℕ) → residue w (negsuc n) ≡ complement w (n % 2 ^ w)
unfolding residue
residue_high w n = refl

residue_low : (w n : ℕ) → residue w (pos n) ≡ n % 2 ^ w
unfolding residue
residue_low w n = refl

pub shifted_signed : (w k z : ℕ) → z < 2 ^ w → shifted_down true w k z ≡ residue w (int_div_euclid (signed w z) (pos (2 ^ k)))
shifted_signed w k z h =
    elim (cases_lt z (2 ^ (w - 1))) [
      | inl l ↦
          let v : z / 2 ^ k < 2 ^ w = omega (arith, div-le_self z (2 ^ k)) in
          ap (λ b. cond b (complement w (complement w z / 2 ^ k)) (z / 2 ^ k)) (lt-leb (2 ^ (w - 1)) z l)
          ∙ sym (mod-eq_of_lt v) ∙ sym (residue_low w (z / 2 ^ k)) ∙ ap (λ x. residue w (int_div_euclid x (pos (2 ^ k)))) (sym (signed_small w z l))
      | inr l ↦
          let y : ℕ = complement w z in
          let v : y / 2 ^ k < 2 ^ w = omega (arith, div-le_self y (2 ^ k), pow_pos w) in
          ap (λ b. cond b (complement w (y / 2 ^ k)) (z / 2 ^ k)) (le-leb (2 ^ (w - 1)) z l)
          ∙ ap (complement w) (sym (mod-eq_of_lt v)) ∙ sym (residue_high w (y / 2 ^ k)) ∙ ap (λ x. residue w (int_div_euclid x (pos (2 ^ k)))) (sym (signed_below w z h l))
    ]

pub cast_residue : (signed : Bool) (w v z : ℕ) → z < 2 ^ w → cast_to signed w v z ≡ residue v (number_as signed w z)
cast_residue false w v z h = sym (residue_low v z)
cast_residue true w v z h =
    elim (cases_lt z (2 ^ (w - 1))) [
      | inl l ↦
          ap (λ b. cond b (complement v (complement w z % 2 ^ v)) (z % 2 ^ v)) (lt-leb (2 ^ (w - 1)) z l)
          ∙ sym (residue_low v z) ∙ ap (residue v) (sym (signed_small w z l))
      | inr l ↦
          ap (λ b. cond b (complement v (complement w z % 2 ^ v)) (z % 2 ^ v)) (le-leb (2 ^ (w - 1)) z l)
          ∙ sym (residue_high v (complement w z)) ∙ ap (residue v) (sym (signed_below w z h l))
    ]
