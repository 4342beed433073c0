-- Streams after some draws.
use Rattle.std.proofs.Common.{◌≡◌, ℕ, zero, suc, ◌+◌, ◌<◌, ◌%◌, ◌^◌, refl, sym, ◌∙◌, ap, add-one, arith, List}
use Rattle.rx_torus.specs.Streams.{Draws, torus_at, torus_word, stream_of, draw, drawn_by}

-- a stream after some draws, or none
unfoldable pub after : ℕ → Draws → Draws
after zero s = s
after (suc n) s = drawn_by (suc n) s

pub after-none : (s : Draws) → after 0 s ≡ s
unfolding after
after-none s = refl

pub after-some : (n : ℕ) (s : Draws) → 0 < n → after n s ≡ drawn_by n s
unfolding after
after-some zero s p = absurd (omega arith)
after-some (suc n) s p = refl

pub draw-after : (n : ℕ) (s : Draws) → draw (after n s) 0 ≡ draw s n
unfolding after
draw-after zero s = refl
draw-after (suc n) s = ap (torus_at s.key s.number) (omega arith)

pub after-more : (n : ℕ) (s : Draws) → drawn_by 1 (after n s) ≡ after (n + 1) s
unfolding after
after-more zero s = refl
after-more (suc n) s =
    let e : ((s.next + suc n) % 2 ^ 67 + 1) % 2 ^ 67 ≡ (s.next + suc (suc n)) % 2 ^ 67 = omega arith in
    ap (λ (m : ℕ). record s { next = m }) e ∙ ap (λ (m : ℕ). after m s) (sym (add-one (suc n)))

pub drawn_by-more : (n : ℕ) (s : Draws) → drawn_by 1 (drawn_by n s) ≡ drawn_by (n + 1) s
drawn_by-more n s =
    let e : ((s.next + n) % 2 ^ 67 + 1) % 2 ^ 67 ≡ (s.next + (n + 1)) % 2 ^ 67 = omega arith in
    ap (λ (m : ℕ). record s { next = m }) e

-- the draws of a new stream are its words, in order
pub draw-new : (seed : List ℕ) (number n : ℕ) → n < 2 ^ 67 → draw (drawn_by n (stream_of seed number)) 0 ≡ torus_word seed number n
draw-new seed number n p = ap (torus_at (stream_of seed number).key number) (omega arith)
