use Rattle.std.proofs.Common.{◌≡◌, ℕ, pos, ◌+◌, ◌*◌, ◌<◌, get_or}
use Rattle.rx_laws.specs.Digits.{digit}
use Rattle.rx_glwe.proofs.digits.write_digits.Given as goal

abbrev pub invariant-loop-level : goal.invariant-loop-level
invariant-loop-level l = (t x : ℕ) → t < l.level → x < l.n →
    get_or l.out (t * l.n + x) (pos 0) ≡ digit l.p.pbs_base_log l.p.pbs_level (get_or l.words x 0) t
