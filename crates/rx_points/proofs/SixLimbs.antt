-- The six limbs of a number, one after another, and the division of a number that is known in two parts.
use Rattle.std.proofs.Common.{◌≡◌, ℕ, zero, suc, ℤ, pos, negsuc, ◌*ℤ◌, ◌+◌, ◌*◌, ◌%◌, ◌^◌, ◌<◌, ◌≤◌, refl, sym, ◌∙◌, ap, arith, [], ◌∷◌, get_or, to_z, of_z, w16, w64, FitsSigned}
use Rattle.std.proofs.lemmas.Int.{ints, to_z-of_z}
use lib.Signed.{shr_z}
use Rattle.rx_laws.specs.Torus.{word}
use Rattle.rx_laws.proofs.Ring.{mul_comm_ℤ}
use Rattle.rx_laws.proofs.Torus.{word-wrapping_add, word-wrapping_mul, word-word, word-cast}
use Rattle.rx_ring.specs.Blocks.{Within}
use Rattle.rx_ring.specs.Limbs.{limb, without, above, limb_at}
use Rattle.rx_ring.specs.Recovery.{Recovers}
use Rattle.rx_points.proofs.Exact.{fits_within}

pub within_10 : (v : ℕ) → Within (2 ^ 9) (limb 10 v)
unfolding limb
within_10 v = record { low = omega (arith, ints); high = omega (arith, ints) }

pub within_8 : (v : ℕ) → Within (2 ^ 7) (limb 8 v)
unfolding limb
within_8 v = record { low = omega (arith, ints); high = omega (arith, ints) }

pub within_15 : (v : ℕ) → Within (2 ^ 14) (limb 15 v)
unfolding limb
within_15 v = record { low = omega (arith, ints); high = omega (arith, ints) }

pub within_16 : (v : ℕ) → Within (2 ^ 15) (limb 16 v)
unfolding limb
within_16 v = record { low = omega (arith, ints); high = omega (arith, ints) }

-- what is read of an item that is a limb
read : (m : ℕ) (a z : ℤ) → m ≤ 2 ^ 15 → Within m z → a ≡ z → to_z w16 (of_z w16 a) ≡ z
read m a z l within e = ap (λ x. to_z w16 (of_z w16 x)) e ∙ to_z-of_z w16 z (fits_within m z l within)

-- which of six
sixth : (l : ℕ) (v : ℕ) (a b c d e f : ℤ) → l < 6 → a ≡ limb_at 0 v → b ≡ limb_at 1 v → c ≡ limb_at 2 v → d ≡ limb_at 3 v → e ≡ limb_at 4 v →
    f ≡ limb_at 5 v → get_or (a ∷ b ∷ c ∷ d ∷ e ∷ f ∷ []) l (pos 0) ≡ limb_at l v
sixth zero v a b c d e f p ea eb ec ed ee ef = ea
sixth (suc zero) v a b c d e f p ea eb ec ed ee ef = eb
sixth (suc (suc zero)) v a b c d e f p ea eb ec ed ee ef = ec
sixth (suc (suc (suc zero))) v a b c d e f p ea eb ec ed ee ef = ed
sixth (suc (suc (suc (suc zero)))) v a b c d e f p ea eb ec ed ee ef = ee
sixth (suc (suc (suc (suc (suc zero))))) v a b c d e f p ea eb ec ed ee ef = ef
sixth (suc (suc (suc (suc (suc (suc l)))))) v a b c d e f p ea eb ec ed ee ef = absurd (omega arith)

pub six_limbs : (v r s t u x : ℕ) (a b c d e f : ℤ) → a ≡ limb 10 v → r ≡ without 10 v → b ≡ limb 10 r → s ≡ without 10 r →
    c ≡ limb 10 s → t ≡ without 10 s → d ≡ limb 8 t → u ≡ without 8 t → e ≡ limb 15 u → x ≡ without 15 u → f ≡ limb 16 x →
    (l : ℕ) → l < 6 →
    get_or (to_z w16 (of_z w16 a) ∷ to_z w16 (of_z w16 b) ∷ to_z w16 (of_z w16 c) ∷ to_z w16 (of_z w16 d) ∷ to_z w16 (of_z w16 e) ∷ to_z w16 (of_z w16 f) ∷ []) l (pos 0)
    ≡ limb_at l v
unfolding limb_at above
six_limbs v r s t u x a b c d e f is_a is_r is_b is_s is_c is_t is_d is_u is_e is_x is_f l p =
    let s_is : s ≡ without 10 (without 10 v) = is_s ∙ ap (without 10) is_r in
    let t_is : t ≡ without 10 (without 10 (without 10 v)) = is_t ∙ ap (without 10) s_is in
    let u_is : u ≡ without 8 (without 10 (without 10 (without 10 v))) = is_u ∙ ap (without 8) t_is in
    let x_is : x ≡ without 15 (without 8 (without 10 (without 10 (without 10 v)))) = is_x ∙ ap (without 15) u_is in
    sixth l v _ _ _ _ _ _ p
    (read (2 ^ 9) a (limb 10 v) (omega arith) (within_10 v) is_a)
    (read (2 ^ 9) b (limb 10 (without 10 v)) (omega arith) (within_10 (without 10 v)) (is_b ∙ ap (limb 10) is_r))
    (read (2 ^ 9) c (limb 10 (without 10 (without 10 v))) (omega arith) (within_10 (without 10 (without 10 v))) (is_c ∙ ap (limb 10) s_is))
    (read (2 ^ 7) d (limb 8 (without 10 (without 10 (without 10 v)))) (omega arith) (within_8 (without 10 (without 10 (without 10 v)))) (is_d ∙ ap (limb 8) t_is))
    (read (2 ^ 14) e (limb 15 (without 8 (without 10 (without 10 (without 10 v))))) (omega arith) (within_15 (without 8 (without 10 (without 10 (without 10 v))))) (is_e ∙ ap (limb 15) u_is))
    (read (2 ^ 15) f (limb 16 (without 15 (without 8 (without 10 (without 10 (without 10 v)))))) (omega arith) (within_16 (without 15 (without 8 (without 10 (without 10 (without 10 v)))))) (is_f ∙ ap (limb 16) x_is))

-- ---- the way back: a number that is 32 times another, shifted
shifted : (low quotient : ℤ) → low ≡ pos 32 *ℤ quotient → shr_z low 32 ≡ quotient
shifted (pos a) quotient e = omega (arith, ints, e)
shifted (negsuc a) quotient e = omega (arith, ints, e)

shift_fits : (low : ℤ) → FitsSigned w64 low → FitsSigned w64 (shr_z low 32)
shift_fits (pos a) f = record { sfits = omega (arith, f.sfits) }
shift_fits (negsuc a) f = record { sfits = omega (arith, f.sfits) }

low_word : (n : ℕ) (low quotient : ℤ) → FitsSigned w64 low → low ≡ pos 32 *ℤ quotient →
    n ≡ of_z w64 (to_z w64 (of_z w64 (shr_z (to_z w64 (of_z w64 low)) 32))) → word (pos n) ≡ word quotient
low_word n low quotient f e is =
    let plain : n ≡ of_z w64 (shr_z low 32) =
    is ∙ ap (λ x. of_z w64 (to_z w64 (of_z w64 (shr_z x 32)))) (to_z-of_z w64 low f)
    ∙ ap (of_z w64) (to_z-of_z w64 (shr_z low 32) (shift_fits low f)) in
    ap (λ x. word (pos x)) plain ∙ word-cast (shr_z low 32) (shift_fits low f) ∙ ap word (shifted low quotient e)

high_word : (high : ℕ) (part : ℤ) → word part ≡ high → word (pos (high * 2 ^ 25 % 2 ^ 64)) ≡ word (pos (2 ^ 25) *ℤ part)
high_word high part e =
    let same : word (pos high) ≡ word part = ap (λ x. word (pos x)) (sym e) ∙ word-word part in
    ap (λ x. word (pos x)) (word-wrapping_mul high (2 ^ 25) part (pos (2 ^ 25)) same refl)
    ∙ word-word (part *ℤ pos (2 ^ 25)) ∙ ap word (mul_comm_ℤ part (pos (2 ^ 25)))

pub divided_is : (n high : ℕ) (low part c : ℤ) → FitsSigned w64 low →
    n ≡ of_z w64 (to_z w64 (of_z w64 (shr_z (to_z w64 (of_z w64 low)) 32))) → word part ≡ high → Recovers low part c →
    (n + high * 2 ^ 25 % 2 ^ 64) % 2 ^ 64 ≡ word c
divided_is n high low part c f is e recovers =
    word-wrapping_add n (high * 2 ^ 25 % 2 ^ 64) recovers.quotient (pos (2 ^ 25) *ℤ part)
    (low_word n low recovers.quotient f recovers.divides is) (high_word high part e)
    ∙ recovers.same
