-- Vectors of numbers with a sign that are read from lists, and written into one, vector after vector.
use Rattle.std.proofs.Common.{◌≡◌, ℕ, ℤ, pos, ◌+ℤ◌, ◌-ℤ◌, ◌*ℤ◌, ◌+◌, ◌-◌, ◌*◌, ◌%◌, ◌^◌, ◌<◌, ◌≤◌, refl, sym, ◌∙◌, ap, arith, inl, inr, List, length, get_or, map, replicate, to_z, of_z, w16, FitsSigned}
use Rattle.std.proofs.lemmas.Bool.{cases_lt}
use Rattle.std.proofs.lemmas.Simd.{length-chunk, get_or-chunk, get_or-put_chunk_below, get_or-put_chunk_at, get_or-put_chunk_above, length-zip2, get_or-zip2, length-replicate, get_or-replicate}
use Rattle.std.proofs.lemmas.List.{length-map, get_or-map}
use Rattle.std.proofs.lemmas.Int.{to_z-of_z, of_z-to_z, SFits-int_wrap, wrapping_add_is, wrapping_sub_is, wrapping_mul_is}
use Rattle.std.specs.Int.{int_wrap}
use lib.Lanes.{chunk, put_chunk, zip2}
use mir.Syntax.{Width}
use mir.Val.{bits}
use Rattle.rx_points.specs.Numbers.{AreNumbers, WrittenTo}

-- ---- the bits of a sum, a difference and a product
pub sum_bits : (w : Width) (a b : ℤ) → FitsSigned w a → FitsSigned w b → (of_z w a + of_z w b) % 2 ^ bits w < 2 ^ bits w →
    (of_z w a + of_z w b) % 2 ^ bits w ≡ of_z w (int_wrap w (a +ℤ b))
sum_bits w a b f g l = sym (of_z-to_z w _ l) ∙ ap (of_z w) (wrapping_add_is w a b f g)

pub difference_bits : (w : Width) (a b : ℤ) → FitsSigned w a → FitsSigned w b →
    (of_z w a + (2 ^ bits w - of_z w b)) % 2 ^ bits w < 2 ^ bits w →
    (of_z w a + (2 ^ bits w - of_z w b)) % 2 ^ bits w ≡ of_z w (int_wrap w (a -ℤ b))
difference_bits w a b f g l = sym (of_z-to_z w _ l) ∙ ap (of_z w) (wrapping_sub_is w a b f g)

pub product_bits : (w : Width) (a b : ℤ) → FitsSigned w a → FitsSigned w b → (of_z w a * of_z w b) % 2 ^ bits w < 2 ^ bits w →
    (of_z w a * of_z w b) % 2 ^ bits w ≡ of_z w (int_wrap w (a *ℤ b))
product_bits w a b f g l = sym (of_z-to_z w _ l) ∙ ap (of_z w) (wrapping_mul_is w a b f g)

-- ---- the m lanes of v are the bits of the values of g
pub record AreLanes (w : Width) (m : ℕ) (g : ℕ → ℤ) (v : List ℕ) : Type 0 where
  pub count : length v ≡ m
  pub each : (k : ℕ) → k < m → get_or v k 0 ≡ of_z w (g k)

pub lanes_read : (w : Width) (m i : ℕ) (xs : List ℤ) → i + m ≤ length xs →
    AreLanes w m (λ k. get_or xs (i + k) (pos 0)) (map (of_z w) (chunk i m xs))
lanes_read w m i xs p = record {
  count = length-map (chunk i m xs) (of_z w) ∙ length-chunk i m xs p;
  each = λ k q.
      get_or-map (of_z w) (chunk i m xs) k (pos 0) 0 (omega (arith, length-chunk i m xs p))
      ∙ ap (of_z w) (get_or-chunk i m xs k (pos 0) q);
}

pub lanes_splat : (w : Width) (m : ℕ) (x : ℤ) → AreLanes w m (λ k. x) (replicate m (of_z w x))
lanes_splat w m x = record { count = length-replicate m (of_z w x); each = λ k q. get_or-replicate m k (of_z w x) 0 q }

pub lanes_both : (w : Width) (m : ℕ) (f : ℕ → ℕ → ℕ) (g h both : ℕ → ℤ) (v v' : List ℕ) → AreLanes w m g v → AreLanes w m h v' →
    ((k : ℕ) → k < m → f (of_z w (g k)) (of_z w (h k)) ≡ of_z w (both k)) → AreLanes w m both (zip2 f v v')
lanes_both w m f g h both v v' are also e = record {
  count = length-zip2 f v v' (are.count ∙ sym also.count) ∙ are.count;
  each = λ k q.
      get_or-zip2 f v v' k 0 0 0 (omega (arith, are.count)) (omega (arith, also.count))
      ∙ ap (λ x. f x (get_or v' k 0)) (are.each k q) ∙ ap (λ x. f (of_z w (g k)) x) (also.each k q) ∙ e k q;
}

pub lanes_same : (w : Width) (m : ℕ) (g h : ℕ → ℤ) (v : List ℕ) → AreLanes w m g v → ((k : ℕ) → k < m → g k ≡ h k) → AreLanes w m h v
lanes_same w m g h v are e = record { count = are.count; each = λ k q. are.each k q ∙ ap (of_z w) (e k q) }

-- ---- a loop that writes a list from its start
pub none_written : (f : ℕ → ℤ) (xs : List ℤ) → WrittenTo 0 f xs xs
none_written f xs = record { written = λ i p. absurd (omega arith); left = λ i p. refl }

pub vector_written : (m i j : ℕ) (f : ℕ → ℤ) (old xs : List ℤ) (v : List ℕ) → i + m ≤ length xs → j ≡ i + m → WrittenTo i f old xs →
    AreLanes w16 m (λ k. int_wrap w16 (f (i + k))) v → WrittenTo j f old (put_chunk i xs (map (to_z w16) v))
vector_written m i j f old xs v p e so are =
    let zs : List ℤ = map (to_z w16) v in
    let n : length zs ≡ m = length-map v (to_z w16) ∙ are.count in
    record {
      written = λ k q. elim (cases_lt k i) as (λ _. get_or (put_chunk i xs zs) k (pos 0) ≡ int_wrap w16 (f k)) [
        | inl r ↦ get_or-put_chunk_below i xs zs k (pos 0) r ∙ so.written k r
        | inr r ↦
            let place : i + (k - i) ≡ k = omega arith in
            ap (λ x. get_or (put_chunk i xs zs) x (pos 0)) (sym place)
            ∙ get_or-put_chunk_at i xs zs (k - i) (pos 0) (omega (arith, n)) (omega (arith, n))
            ∙ get_or-map (to_z w16) v (k - i) 0 (pos 0) (omega (arith, are.count))
            ∙ ap (to_z w16) (are.each (k - i) (omega arith))
            ∙ to_z-of_z w16 (int_wrap w16 (f (i + (k - i)))) (SFits-int_wrap w16 (f (i + (k - i))))
            ∙ ap (λ x. int_wrap w16 (f x)) place
      ];
      left = λ k q. get_or-put_chunk_above i xs zs k (pos 0) (omega (arith, n)) ∙ so.left k (omega arith);
    }

pub all_written : (n m k : ℕ) (f : ℕ → ℤ) (old xs : List ℤ) → length xs ≡ n → n ≤ m → k ≡ n → WrittenTo m f old xs → AreNumbers k f xs
all_written n m k f old xs l p e so = record { count = l ∙ sym e; each = λ i q. so.written i (omega arith) }
