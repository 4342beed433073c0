-- What a row hides, as words.
use Rattle.std.proofs.Common.{◌≡◌, ℕ, ℤ, pos, ◌*ℤ◌, ◌+◌, ◌-◌, ◌*◌, ◌%◌, ◌^◌, ◌<◌, ◌≤◌, refl, sym, ◌∙◌, ap, arith, add-one, if◌then◌else◌, List, get_or, take, drop}
use Rattle.std.proofs.lemmas.Bool.{lt-ltb, le-ltb}
use Rattle.rx_laws.specs.Torus.{word}
use Rattle.rx_laws.specs.Words.{of_words, AreWords}
use Rattle.rx_laws.proofs.Ring.{mul_comm_ℤ, mul_assoc_ℤ, mul_neg}
use Rattle.rx_laws.proofs.Torus.{word-word, word-neg, word-mul_both, word_of}
use Rattle.rx_ring.specs.Polynomial.{unit_polynomial}
use Rattle.rx_ring.specs.Parts.{of_parts}
use Rattle.rx_ring.specs.Keys.{level_weight}
use Rattle.rx_ring.proofs.Parts.{part_read}
use Rattle.rx_params.specs.declared.params.Params.{Params}
use Rattle.rx_boot.specs.BootKeys.{row_hidden}
use lib.IntN.{neg_ℤ}

-- the weight of a level times a bit, as a word
abbrev pub weighted_bit : Params → ℕ → ℕ → ℕ
weighted_bit p bit t = bit * 2 ^ (64 - p.pbs_base_log * (t + 1)) % 2 ^ 64

weighted_bit-word : (p : Params) (bit t : ℕ) → word (pos (weighted_bit p bit t)) ≡ word (level_weight p.pbs_base_log t *ℤ pos bit)
weighted_bit-word p bit t =
    let w : ℕ = bit * 2 ^ (64 - p.pbs_base_log * (t + 1)) in
    ap (λ x. word (pos x)) (sym (word_of w)) ∙ word-word (pos w)
    ∙ ap (λ k. word (pos (bit * 2 ^ (64 - p.pbs_base_log * k)))) (add-one t)
    ∙ ap word (mul_comm_ℤ (pos bit) (level_weight p.pbs_base_log t))

opposite : (w b x : ℤ) → neg_ℤ ((w *ℤ b) *ℤ x) ≡ w *ℤ neg_ℤ (b *ℤ x)
opposite w b x = ap neg_ℤ (mul_assoc_ℤ w b x) ∙ sym (mul_neg w (b *ℤ x))

row_hidden-mask : (p : Params) (small large : List ℕ) (i j t x : ℕ) → j < p.glwe_dim →
    row_hidden p small large i j t x ≡ level_weight p.pbs_base_log t *ℤ neg_ℤ (of_words small i *ℤ of_parts p.poly_size large j x)
row_hidden-mask p small large i j t x q =
    ap (λ b. level_weight p.pbs_base_log t
    *ℤ (if b then neg_ℤ (of_words small i *ℤ of_parts p.poly_size large j x) else of_words small i *ℤ unit_polynomial x)) (lt-ltb j p.glwe_dim q)

row_hidden-body : (p : Params) (small large : List ℕ) (i j t x : ℕ) → p.glwe_dim ≤ j →
    row_hidden p small large i j t x ≡ level_weight p.pbs_base_log t *ℤ (of_words small i *ℤ unit_polynomial x)
row_hidden-body p small large i j t x q =
    ap (λ b. level_weight p.pbs_base_log t
    *ℤ (if b then neg_ℤ (of_words small i *ℤ of_parts p.poly_size large j x) else of_words small i *ℤ unit_polynomial x)) (le-ltb j p.glwe_dim q)

-- the words that a code writes from lists that are the keys
pub hidden_polynomial : (p : Params) (small large bits keys xs : List ℕ) (i j t n m : ℕ) → n ≡ p.poly_size → m ≡ p.poly_size → bits ≡ small → keys ≡ large → j < p.glwe_dim →
    AreWords n (λ x. neg_ℤ (pos (weighted_bit p (get_or bits i 0) t) *ℤ of_words (take m (drop (j * p.poly_size) keys)) x)) xs →
    AreWords p.poly_size (row_hidden p small large i j t) xs
hidden_polynomial p small large bits keys xs i j t n m size part_size is_small is_large q are = record {
  count = are.count ∙ size;
  each = λ x r.
      let w : ℤ = level_weight p.pbs_base_log t in
      let b : ℤ = of_words small i in
      let weight : ℤ = pos (weighted_bit p (get_or small i 0) t) in
      let part : ℤ = of_words (take m (drop (j * p.poly_size) large)) x in
      let key : ℤ = of_parts p.poly_size large j x in
      let same : part ≡ key = ap pos (part_read (j * p.poly_size) m x large (omega (arith, part_size, r))) in
      are.each x (omega (arith, size, r))
      ∙ ap (λ ys. word (neg_ℤ (pos (weighted_bit p (get_or ys i 0) t) *ℤ of_words (take m (drop (j * p.poly_size) keys)) x))) is_small
      ∙ ap (λ ys. word (neg_ℤ (weight *ℤ of_words (take m (drop (j * p.poly_size) ys)) x))) is_large
      ∙ word-neg (weight *ℤ part) ((w *ℤ b) *ℤ key) (word-mul_both weight part (w *ℤ b) key (weighted_bit-word p (get_or small i 0) t) (ap word same))
      ∙ ap word (opposite w b key ∙ sym (row_hidden-mask p small large i j t x q));
}

pub hidden_number : (p : Params) (small large bits xs : List ℕ) (i j t n : ℕ) → n ≡ p.poly_size → bits ≡ small → p.glwe_dim ≤ j →
    AreWords n (λ x. pos (weighted_bit p (get_or bits i 0) t) *ℤ unit_polynomial x) xs →
    AreWords p.poly_size (row_hidden p small large i j t) xs
hidden_number p small large bits xs i j t n size is_small q are = record {
  count = are.count ∙ size;
  each = λ x r.
      let w : ℤ = level_weight p.pbs_base_log t in
      let b : ℤ = of_words small i in
      let weight : ℤ = pos (weighted_bit p (get_or small i 0) t) in
      are.each x (omega (arith, size, r))
      ∙ ap (λ ys. word (pos (weighted_bit p (get_or ys i 0) t) *ℤ unit_polynomial x)) is_small
      ∙ word-mul_both weight (unit_polynomial x) (w *ℤ b) (unit_polynomial x) (weighted_bit-word p (get_or small i 0) t) refl
      ∙ ap word (mul_assoc_ℤ w b (unit_polynomial x) ∙ sym (row_hidden-body p small large i j t x q));
}
