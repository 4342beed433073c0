-- The nearest mark of a word.
use Rattle.std.proofs.Common.{◌≡◌, ℕ, ◌+◌, ◌-◌, ◌*◌, ◌/◌, ◌%◌, ◌^◌, ◌<◌, ◌≤◌, sym, ◌∙◌, ap, arith}
use Rattle.std.proofs.Math.Nat.{add-div_right, div-div-eq-div-mul}
use Rattle.std.proofs.lemmas.Nat.{pow_pos, one_shl}
use Rattle.std.specs.Int.{div_ceil}
use Rattle.rx_ring.specs.Switch.{mark}

-- half of one more than the half steps of a word
half_steps : (w e : ℕ) → 0 < e → div_ceil (w / e) 2 ≡ (w + e) / (2 * e)
half_steps w e positive =
    let up : div_ceil (w / e) 2 ≡ (w / e + 1) / 2 = omega arith in
    up ∙ ap (λ n. n / 2) (sym (add-div_right w positive)) ∙ div-div-eq-div-mul (w + e) e 2 ∙ ap (λ n. (w + e) / n) (omega arith)

pub mark_code : (w log_n halves : ℕ) → log_n ≤ 12 → halves ≡ div_ceil (w / 2 ^ (62 - log_n)) 2 →
    halves % (1 * 2 ^ (log_n + 1) % 2 ^ 64) ≡ mark (2 ^ (62 - log_n)) (2 ^ (log_n + 1)) w
mark_code w log_n halves high e =
    ap (λ m. halves % m) (one_shl (log_n + 1) 64 (omega arith))
    ∙ ap (λ n. n % 2 ^ (log_n + 1)) (e ∙ half_steps w (2 ^ (62 - log_n)) (pow_pos (62 - log_n)))
