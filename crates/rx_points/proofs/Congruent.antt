-- Points of blocks that are the same modulo 2 ^ 16.
use Rattle.std.proofs.Common.{◌≡◌, ℕ, zero, suc, ℤ, pos, neg_ℤ, ◌+ℤ◌, ◌-ℤ◌, ◌+◌, ◌-◌, ◌*◌, ◌/◌, ◌^◌, ◌<◌, ◌≤◌, sym, ◌∙◌, ap, arith, w16}
use Rattle.std.proofs.lemmas.Int.{int_wrap-add_right, int_wrap-add_same, int_wrap-sub_right}
use Rattle.std.specs.Int.{int_wrap}
use Rattle.rx_ring.specs.Polynomial.{turned, turns}
use Rattle.rx_ring.specs.Blocks.{down, points}
use Rattle.rx_ring.proofs.Polynomial.{by_turn, turned_low, turned_high}
use Rattle.rx_ring.proofs.Levels.{by_half, points_low, points_high}
use Rattle.rx_points.proofs.Turns.{opposite}

abbrev pub Same : ℤ → ℤ → Type 0
Same x y = int_wrap w16 x ≡ int_wrap w16 y

pub same_sum : (a a' b b' : ℤ) → Same a a' → Same b b' → Same (a +ℤ b) (a' +ℤ b')
same_sum a a' b b' e f =
    int_wrap-add_same w16 a a' b e ∙ sym (int_wrap-add_right w16 a' b) ∙ ap (λ x. int_wrap w16 (a' +ℤ x)) f
    ∙ int_wrap-add_right w16 a' b'

pub same_opposite : (a a' : ℤ) → Same a a' → Same (neg_ℤ a) (neg_ℤ a')
same_opposite a a' e =
    ap (int_wrap w16) (sym (opposite a)) ∙ sym (int_wrap-sub_right w16 (pos 0) a) ∙ ap (λ x. int_wrap w16 (pos 0 -ℤ x)) e
    ∙ int_wrap-sub_right w16 (pos 0) a' ∙ ap (int_wrap w16) (opposite a')

pub same_turned : (n : ℕ) (b b' : ℕ → ℤ) (t i : ℕ) → ((j : ℕ) → j < n → Same (b j) (b' j)) → t ≤ n → i < n →
    Same (turned n b t i) (turned n b' t i)
same_turned n b b' t i h p q =
    by_turn t i
    (λ l. ap (int_wrap w16) (turned_low n b t i l) ∙ h (i - t) (omega arith) ∙ ap (int_wrap w16) (sym (turned_low n b' t i l)))
    (λ l. ap (int_wrap w16) (turned_high n b t i l)
    ∙ same_opposite (b (i + n - t)) (b' (i + n - t)) (h (i + n - t) (omega arith))
    ∙ ap (int_wrap w16) (sym (turned_high n b' t i l)))

pub same_turns : (n : ℕ) (b b' : ℕ → ℤ) (t i : ℕ) → ((j : ℕ) → j < n → Same (b j) (b' j)) → i < n → Same (turns n b t i) (turns n b' t i)
unfolding turns
same_turns n b b' zero i h q = h i q
same_turns n b b' (suc t) i h q =
    same_turned n (turns n b t) (turns n b' t) 1 i (λ j r. same_turns n b b' t j h r) (omega arith) q

pub same_down : (r h s : ℕ) (a b : ℕ → ℕ → ℤ) (j i : ℕ) → ((k t : ℕ) → k < 2 * h → t < r → Same (a k t) (b k t)) → j < h → i < r →
    Same (down r h s a j i) (down r h s b j i)
unfolding down
same_down r h s a b j i e l q =
    same_sum (a j i) (b j i) (turns r (a (h + j)) s i) (turns r (b (h + j)) s i) (e j i (omega arith) q)
    (same_turns r (a (h + j)) (b (h + j)) s i (λ t o. e (h + j) t (omega arith) o) q)

pub same_points : (r d e : ℕ) (a b : ℕ → ℕ → ℤ) (p i : ℕ) → ((k t : ℕ) → k < 2 ^ d → t < r → Same (a k t) (b k t)) → p < 2 ^ d → i < r →
    Same (points r d e a p i) (points r d e b p i)
unfolding points
same_points r zero e a b p i same l q = same p i l q
same_points r (suc d) e a b p i same l q =
    let two : 2 ^ suc d ≡ 2 * 2 ^ d = omega arith in
    by_half p (2 ^ d)
    (λ n. ap (λ f. int_wrap w16 (f i)) (points_low r d e a p n)
    ∙ same_points r d (e / 2) (down r (2 ^ d) (e / 2) a) (down r (2 ^ d) (e / 2) b) p i
    (λ k t u v. same_down r (2 ^ d) (e / 2) a b k t (λ k' t' u' v'. same k' t' (omega (arith, two)) v') u v) n q
    ∙ sym (ap (λ f. int_wrap w16 (f i)) (points_low r d e b p n)))
    (λ n. let place : 2 ^ d + (p - 2 ^ d) ≡ p = omega arith in
    ap (λ x. int_wrap w16 (points r (suc d) e a x i)) (sym place) ∙ ap (λ f. int_wrap w16 (f i)) (points_high r d e a (p - 2 ^ d))
    ∙ same_points r d (e / 2 + r) (down r (2 ^ d) (e / 2 + r) a) (down r (2 ^ d) (e / 2 + r) b) (p - 2 ^ d) i
    (λ k t u v. same_down r (2 ^ d) (e / 2 + r) a b k t (λ k' t' u' v'. same k' t' (omega (arith, two)) v') u v) (omega (arith, two)) q
    ∙ sym (ap (λ f. int_wrap w16 (f i)) (points_high r d e b (p - 2 ^ d))) ∙ ap (λ x. int_wrap w16 (points r (suc d) e b x i)) place)
