use Rattle.std.proofs.Common.{rules, ◌≡◌, ℕ, suc, ℤ, pos, ◌-ℤ◌, ◌+◌, ◌-◌, ◌*◌, ◌/◌, ◌%◌, ◌^◌, get_or, ap, sym, ◌∙◌, arith}
use Rattle.std.proofs.lemmas.Int.{to_z-of_z}
use Rattle.rx_laws.specs.Digits.{digit}
use mir.Syntax.{w64}
use mir.Val.{SFits, of_z, to_z}
use Rattle.rx_torus.specs.Offsets.{offset}
use Rattle.rx_torus.proofs.Offset.{digit_cut, digits_more}
use Rattle.rx_torus.proofs.signed_digits.level_digits.Goals as goal

pub loop-x-preserved : goal.loop-x-preserved
loop-x-preserved c =
    let b : ℕ = c.args.base_log in
    let l : ℕ = c.args.levels in
    let t : ℕ = c.args.level in
    let i : ℕ = c.loop-x.x in
    let w : ℕ = get_or c.args.words.now i 0 in
    let more : t + 1 ≡ suc t = omega arith in
    let cut : digit b l w t ≡ pos ((w + offset b l) % 2 ^ 64 / 2 ^ (64 - b * suc t) % 2 ^ b) -ℤ pos (2 ^ (b - 1)) =
    digit_cut b l t (l - suc t) w c.requires.base_low (omega arith) (omega arith) in
    let z : ℤ = c.digit_at.result in
    let fits : SFits w64 z = search rules in
    digits_more c.loop-x.out i (to_z w64 (of_z w64 z)) (λ k. digit b l (get_or c.args.words.now k 0) t) (omega arith) c.loop-x.invariant
    (to_z-of_z w64 z fits ∙ c.digit_at.ensures
    ∙ ap (λ s. pos ((w + s) % 2 ^ 64 / 2 ^ (64 - b * (t + 1)) % 2 ^ b) -ℤ pos (2 ^ (b - 1))) c.digit_offset-start.ensures
    ∙ ap (λ k. pos ((w + offset b l) % 2 ^ 64 / 2 ^ (64 - b * k) % 2 ^ b) -ℤ pos (2 ^ (b - 1))) more
    ∙ sym cut)
