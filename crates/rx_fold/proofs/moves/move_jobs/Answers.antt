use Rattle.std.proofs.Common.{◌≡◌, ◌<◌, ◌+◌, length, arith}
use Rattle.rx_fold.specs.Passes.{cell_in, is_marked}
use Rattle.rx_fold.proofs.Marks.{job_within}
use Rattle.rx_fold.proofs.Made.{kept_more, kept_done}
use Rattle.rx_fold.proofs.moves.move_jobs.Goals as goal

pub push_kept-requires : goal.push_kept-requires
push_kept-requires c =
    let test : c.loop-place.place < length c.args.jobs.now = c.loop-place-test.true in
    let many : length c.args.cells.now ≡ c.args.inputs + length c.args.jobs.now = c.requires.cells in
    job_within c.args.inputs c.args.jobs.now c.loop-place.place c.index-jobs-place.result (length c.args.cells.now) c.requires.forward c.loop-place-test.true c.index-jobs-place.is (omega arith)

pub loop-place-preserved : goal.loop-place-preserved
loop-place-preserved c = kept_more (is_marked c.args.kept.now) (cell_in c.args.cells.now) c.args.inputs c.args.jobs.now c.loop-place.place c.index-jobs-place.result c.loop-place.moved.items
    c.push_kept.new.moved.items c.loop-place-test.true c.index-jobs-place.is c.loop-place.invariant c.in_ok-push_kept.ensures

pub returns : goal.returns
returns c = kept_done (is_marked c.args.kept.now) (cell_in c.args.cells.now) c.args.inputs c.args.jobs.now c.loop-place.place c.loop-place.moved.items c.loop-place-test.false c.loop-place.invariant
