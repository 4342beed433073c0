use Rattle.std.proofs.Common.{ℕ, ℤ, ◌+◌, ◌-◌, ◌*◌, ◌<◌, ◌≤◌, ◌≡◌, length, get_or, List, arith}
use Rattle.rx_laws.specs.Digits.{digit}
use Rattle.rx_glwe.proofs.DigitLevels.{level_more}
use Rattle.rx_glwe.proofs.digits.write_digits.Goals as goal

starts_within : (t l n k m : ℕ) → t < l → n ≡ k → m ≡ l * k → t * n ≤ m
starts_within t l n k m p e f = grind arith

pub loop-level-preserved : goal.loop-level-preserved
loop-level-preserved c =
    let p = c.args.p.now in
    let n : ℕ = length c.args.words.now in
    let t : ℕ = c.loop-level.level in
    let a : ℕ = t * n in
    let words : List ℕ = c.args.words.now in
    level_more n (a + n - a) t c.loop-level.out c.level_digits.new.out (λ s x. digit p.pbs_base_log p.pbs_level (get_or words x 0) s)
    (starts_within t p.pbs_level n p.poly_size (length c.loop-level.out) (omega arith) c.requires.words (omega arith)) (omega arith) c.loop-level.invariant c.level_digits.ensures
