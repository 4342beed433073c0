-- Vectors that are read from lists of words, and written into one, vector after vector.
use Rattle.std.proofs.Common.{◌≡◌, ℕ, ℤ, ◌+◌, ◌-◌, ◌<◌, ◌≤◌, refl, sym, ◌∙◌, ap, arith, inl, inr, List, length, get_or, set, replicate}
use Rattle.std.proofs.lemmas.Bool.{cases_lt}
use Rattle.std.proofs.lemmas.Simd.{length-chunk, get_or-chunk, get_or-put_chunk_below, get_or-put_chunk_at, get_or-put_chunk_above, length-zip2, get_or-zip2, length-replicate, get_or-replicate}
use Rattle.std.proofs.lemmas.List.{length-set}
use lib.Lanes.{chunk, put_chunk, zip2}
use Rattle.rx_laws.specs.Torus.{word}
use Rattle.rx_laws.specs.Words.{AreWords}
use Rattle.rx_ring.proofs.Writes.{written_more, unwritten_less}
use Rattle.rx_poly.specs.Writes.{WrittenTo}

-- the m lanes of v are the values of g
pub record AreLanes (m : ℕ) (g : ℕ → ℕ) (v : List ℕ) : Type 0 where
  pub count : length v ≡ m
  pub each : (k : ℕ) → k < m → get_or v k 0 ≡ g k

pub lanes_read : (m i : ℕ) (xs : List ℕ) → i + m ≤ length xs → AreLanes m (λ k. get_or xs (i + k) 0) (chunk i m xs)
lanes_read m i xs p = record {
  count = length-chunk i m xs p;
  each = λ k q. get_or-chunk i m xs k 0 q;
}

pub lanes_splat : (m x : ℕ) → AreLanes m (λ k. x) (replicate m x)
lanes_splat m x = record { count = length-replicate m x; each = λ k q. get_or-replicate m k x 0 q }

pub lanes_both : (m : ℕ) (f : ℕ → ℕ → ℕ) (g h : ℕ → ℕ) (v w : List ℕ) → AreLanes m g v → AreLanes m h w →
    AreLanes m (λ k. f (g k) (h k)) (zip2 f v w)
lanes_both m f g h v w are also = record {
  count = length-zip2 f v w (are.count ∙ sym also.count) ∙ are.count;
  each = λ k q.
      get_or-zip2 f v w k 0 0 0 (omega (arith, are.count)) (omega (arith, also.count))
      ∙ ap (λ x. f x (get_or w k 0)) (are.each k q) ∙ ap (λ x. f (g k) x) (also.each k q);
}

pub lanes_same : (m : ℕ) (g h : ℕ → ℕ) (v : List ℕ) → AreLanes m g v → ((k : ℕ) → k < m → g k ≡ h k) → AreLanes m h v
lanes_same m g h v are e = record { count = are.count; each = λ k q. are.each k q ∙ e k q }

-- ---- a loop that writes a list from its start
pub none_written : (f : ℕ → ℤ) (xs : List ℕ) → WrittenTo 0 f xs xs
none_written f xs = record { written = λ i p. absurd (omega arith); left = λ i p. refl }

pub vector_written : (m i j : ℕ) (f : ℕ → ℤ) (old xs v : List ℕ) → i + m ≤ length xs → j ≡ i + m → WrittenTo i f old xs →
    AreLanes m (λ k. word (f (i + k))) v → WrittenTo j f old (put_chunk i xs v)
vector_written m i j f old xs v p e so are = record {
  written = λ k q. elim (cases_lt k i) as (λ _. get_or (put_chunk i xs v) k 0 ≡ word (f k)) [
    | inl r ↦ get_or-put_chunk_below i xs v k 0 r ∙ so.written k r
    | inr r ↦
        let place : i + (k - i) ≡ k = omega arith in
        ap (λ x. get_or (put_chunk i xs v) x 0) (sym place)
        ∙ get_or-put_chunk_at i xs v (k - i) 0 (omega (arith, are.count)) (omega (arith, are.count))
        ∙ are.each (k - i) (omega arith) ∙ ap (λ x. word (f x)) place
  ];
  left = λ k q. get_or-put_chunk_above i xs v k 0 (omega (arith, are.count)) ∙ so.left k (omega arith);
}

pub word_written : (i v : ℕ) (f : ℕ → ℤ) (old xs : List ℕ) → i < length xs → WrittenTo i f old xs → v ≡ word (f i) →
    WrittenTo (i + 1) f old (set xs i v)
word_written i v f old xs p so e = record {
  written = written_more xs i v (λ k. word (f k)) p so.written e;
  left = unwritten_less xs old i v so.left;
}

pub all_written : (n m k : ℕ) (f : ℕ → ℤ) (old xs : List ℕ) → length xs ≡ n → n ≤ m → k ≡ n → WrittenTo m f old xs → AreWords k f xs
all_written n m k f old xs l p e so = record { count = l ∙ sym e; each = λ i q. so.written i (omega arith) }

-- the same for a list of n words, in a body that writes them one by one
pub record Writing (n m : ℕ) (f : ℕ → ℤ) (old new : List ℕ) : Type 0 where
  pub count : length new ≡ n
  pub so_far : WrittenTo m f old new

pub writing_more : (n i v : ℕ) (f : ℕ → ℤ) (old xs : List ℕ) → i < n → Writing n i f old xs → v ≡ word (f i) →
    Writing n (i + 1) f old (set xs i v)
writing_more n i v f old xs p so e = record {
  count = length-set xs i v ∙ so.count;
  so_far = word_written i v f old xs (omega (arith, so.count)) so.so_far e;
}
