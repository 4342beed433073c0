-- The sums of tags, one term after another.
use Rattle.std.proofs.Common.{◌≡◌, ℕ, ℤ, pos, ◌+ℤ◌, ◌*ℤ◌, ◌≤ℤ◌, ◌+◌, ◌-◌, ◌*◌, ◌<◌, ◌≤◌, ◌⊎◌, inl, inr, T, not, subst, lit≤, nat_abs, nat_lt, int_lt, rules, Fits, w8, Bool, true, false, Ok, Err, refl, sym, ◌∙◌, ap, arith, add-one, List, [], ◌∷◌, length, get_or, drop}
use Rattle.std.specs.Int.RustNames.{unsigned_abs}
use Rattle.std.specs.Int.Signed.{non_neg, yes_non_neg, lt_z_no}
use Rattle.std.proofs.Math.Seq.{drop-cons}
use Rattle.std.proofs.lemmas.Int.{ints}
use Rattle.std.proofs.lemmas.Bool.{le-ltb}
use Rattle.std.proofs.lemmas.List.{get_or_default}
use Rattle.rx_laws.specs.Decode.{plaintexts}
use Rattle.rx_params.specs.Derived.{noise_limit}
use Rattle.rx_net.specs.declared.term.Term.{Term}
use Rattle.rx_net.specs.Tags.{negative_part, positive_part, low_of, high_of, noise_of}
use Rattle.rx_block.specs.declared.block.Block.{Block}
use Rattle.rx_block.specs.declared.block.TagFault.TheVariants.{Range}
use Rattle.rx_block.specs.Combine.{combined_within, no_block, no_term}

low_of-add : (degree : ℕ → ℕ) (a b : ℤ) (ts : List Term) → low_of degree (a +ℤ b) ts ≡ a +ℤ low_of degree b ts
low_of-add degree a b [] = refl
low_of-add degree a b (t ∷ ts) = omega (arith, ints, low_of-add degree a b ts)

high_of-add : (degree : ℕ → ℕ) (a b : ℤ) (ts : List Term) → high_of degree (a +ℤ b) ts ≡ a +ℤ high_of degree b ts
high_of-add degree a b [] = refl
high_of-add degree a b (t ∷ ts) = omega (arith, ints, high_of-add degree a b ts)

-- the block of a term, as the code reads it
pub block-read : (blocks : List Block) (cell : ℕ) (b : Block) → b ≡ get_or blocks cell b → cell < length blocks → get_or blocks cell no_block ≡ b
block-read blocks cell b e p = get_or_default blocks cell no_block b p ∙ sym e

rest : (terms : List Term) (i : ℕ) → i < length terms → drop i terms ≡ get_or terms i no_term ∷ drop (i + 1) terms
rest terms i p = rw add-one (drop-cons terms i no_term p)

pub low-more : (degree : ℕ → ℕ) (terms : List Term) (i d : ℕ) (s next w : ℤ) (t : Term) → i < length terms →
    t ≡ get_or terms i no_term → w ≡ t.weight → d ≡ degree t.cell → next ≡ s +ℤ negative_part w *ℤ pos d →
    low_of degree next (drop (i + 1) terms) ≡ low_of degree s (drop i terms)
low-more degree terms i d s next w t p e f g h =
    let part : ℤ = negative_part t.weight *ℤ pos (degree t.cell) in
    let k : next ≡ part +ℤ s =
    h ∙ ap (λ x. s +ℤ negative_part x *ℤ pos d) f ∙ ap (λ n. s +ℤ negative_part t.weight *ℤ pos n) g ∙ omega (arith, ints) in
    ap (λ x. low_of degree x (drop (i + 1) terms)) k
    ∙ low_of-add degree part s (drop (i + 1) terms)
    ∙ ap (λ x. low_of degree s (x ∷ drop (i + 1) terms)) e
    ∙ ap (low_of degree s) (sym (rest terms i p))

pub high-more : (degree : ℕ → ℕ) (terms : List Term) (i d : ℕ) (s next w : ℤ) (t : Term) → i < length terms →
    t ≡ get_or terms i no_term → w ≡ t.weight → d ≡ degree t.cell → next ≡ s +ℤ positive_part w *ℤ pos d →
    high_of degree next (drop (i + 1) terms) ≡ high_of degree s (drop i terms)
high-more degree terms i d s next w t p e f g h =
    let part : ℤ = positive_part t.weight *ℤ pos (degree t.cell) in
    let k : next ≡ part +ℤ s =
    h ∙ ap (λ x. s +ℤ positive_part x *ℤ pos d) f ∙ ap (λ n. s +ℤ positive_part t.weight *ℤ pos n) g ∙ omega (arith, ints) in
    ap (λ x. high_of degree x (drop (i + 1) terms)) k
    ∙ high_of-add degree part s (drop (i + 1) terms)
    ∙ ap (λ x. high_of degree s (x ∷ drop (i + 1) terms)) e
    ∙ ap (high_of degree s) (sym (rest terms i p))

pub noise-more : (noise : ℕ → ℕ) (terms : List Term) (i d s next : ℕ) (w : ℤ) (t : Term) → i < length terms →
    t ≡ get_or terms i no_term → w ≡ t.weight → d ≡ noise t.cell → next ≡ s + unsigned_abs w * d →
    next + noise_of noise (drop (i + 1) terms) ≡ s + noise_of noise (drop i terms)
noise-more noise terms i d s next w t p e f g h =
    let left : ℕ = noise_of noise (drop (i + 1) terms) in
    let k : next ≡ s + unsigned_abs t.weight * noise t.cell =
    h ∙ ap (λ x. s + unsigned_abs x * d) f ∙ ap (λ n. s + unsigned_abs t.weight * n) g in
    let whole : noise_of noise (drop i terms) ≡ unsigned_abs t.weight * noise t.cell + left =
    ap (noise_of noise) (rest terms i p) ∙ ap (λ x. noise_of noise (x ∷ drop (i + 1) terms)) (sym e) in
    omega (arith, k, whole)

pub not_less : (a b : ℤ) → int_lt a b ≡ false → b ≤ℤ a
not_less a b e = let P : Bool → Type 0 = λ v. T (not v) in lt_z_no (subst P (sym e) tt)

-- a greatest number that no test refused is a degree
pub degree-fits : (m : ℕ) (low high l h : ℤ) → (m ≡ 2) ⊎ (m ≡ 3) → low ≤ℤ high → l ≡ low → h ≡ high → int_lt l (pos 0) ≡ false →
    int_lt (pos (plaintexts m - 1)) h ≡ false → T (non_neg h) × Fits w8 (nat_abs h)
degree-fits m low high l h bits order e f t u =
    let a : pos 0 ≤ℤ l = not_less l (pos 0) t in
    let b : h ≤ℤ pos (plaintexts m - 1) = not_less (pos (plaintexts m - 1)) h u in
    let c : plaintexts m - 1 ≤ 63 = few bits in
    let k : pos 0 ≤ℤ h = omega (arith, ints) in
    (yes_non_neg k, fits (omega (arith, ints))) where
      few : (m ≡ 2) ⊎ (m ≡ 3) → plaintexts m - 1 ≤ 63
      few (inl two) = let P : ℕ → Type 0 = λ n. plaintexts n - 1 ≤ 63 in subst P (sym two) (lit≤ tt)
      few (inr three) = let P : ℕ → Type 0 = λ n. plaintexts n - 1 ≤ 63 in subst P (sym three) (lit≤ tt)

      fits : nat_abs h ≤ 63 → Fits w8 (nat_abs h)
      fits p = search (rules, p)

-- the answers, in order
pub refused-low : (m : ℕ) (low high l h : ℤ) (noise : ℕ) (words : List ℕ) → l ≡ low → h ≡ high → int_lt l (pos 0) ≡ true →
    combined_within m low high noise words ≡ Err (Range l h)
refused-low m low high l h noise words e f t = rw (← e, ← f, t) refl

pub refused-high : (m : ℕ) (low high l h : ℤ) (noise : ℕ) (words : List ℕ) → l ≡ low → h ≡ high → int_lt l (pos 0) ≡ false →
    int_lt (pos (plaintexts m - 1)) h ≡ true → combined_within m low high noise words ≡ Err (Range l h)
refused-high m low high l h noise words e f t u = rw (← e, ← f, t, u) refl

pub combined-ok : (m : ℕ) (low high l h : ℤ) (noise n d : ℕ) (words xs : List ℕ) → l ≡ low → h ≡ high → n ≡ noise → int_lt l (pos 0) ≡ false →
    int_lt (pos (plaintexts m - 1)) h ≡ false → n ≤ noise_limit m → xs ≡ words → d ≡ nat_abs h →
    combined_within m low high noise words ≡ Ok (record { words = xs; degree = d; noise = n })
combined-ok m low high l h noise n d words xs e f g t u p k q =
    let v : nat_lt (noise_limit m) n ≡ false = le-ltb (noise_limit m) n p in rw (← e, ← f, ← g, t, u, v, k, q) refl
