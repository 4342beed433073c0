use Rattle.std.proofs.Common.{ℕ, Bool, refl, arith}
use Rattle.rx_fold.specs.Folded.{numbered}
use Rattle.rx_fold.specs.Passes.{is_marked}
use Rattle.rx_fold.proofs.Numbering.{numbered_most}
use Rattle.rx_fold.proofs.Found.{tells_none, tells_more}
use Rattle.rx_fold.proofs.Made.{numbered_next}
use Rattle.rx_fold.proofs.numbers.count_before.Goals as goal

pub loop-is_kept-init : goal.loop-is_kept-init
unfolding numbered
loop-is_kept-init c = record {
  numbers = tells_none 0 (numbered (is_marked c.args.kept.now)) c.in_ok-numbers.numbers.items c.in_ok-numbers.ensures.items;
  count = refl;
}

pub count_on-count-requires : goal.count_on-count-requires
count_on-count-requires c = omega (arith, c.loop-is_kept.invariant.count, numbered_most (is_marked c.args.kept.now) c.loop-is_kept.is_kept-index, c.loop-is_kept-test.true, c.requires)

pub loop-is_kept-preserved : goal.loop-is_kept-preserved
loop-is_kept-preserved c =
    let kept : ℕ → Bool = is_marked c.args.kept.now in
    let place : ℕ = c.loop-is_kept.is_kept-index in record {
      numbers = tells_more 0 (numbered kept) place c.loop-is_kept.numbers.items c.push.new.self.items c.loop-is_kept.count c.loop-is_kept.invariant.numbers c.in_ok-push.ensures.items c.loop-is_kept.invariant.count;
      count = numbered_next kept place c.loop-is_kept.count c.count_on-count.result (kept place) c.loop-is_kept.invariant.count refl c.count_on-count.ensures;
    }
