use Rattle.std.proofs.Common.{◌≡◌, ℕ, ◌+◌, ◌*◌, List, length, get_or, sym, subst, ◌∙◌, ap}
use Rattle.std.specs.Prelude.{Some}
use Rattle.rx_params.specs.Derived.{large_dim}
use Rattle.rx_net.specs.declared.net.Net.{Net}
use Rattle.rx_boot.specs.ServerKeys.{ServerWords}
use Rattle.rx_board.specs.declared.view.Plan.{Plan}
use Rattle.rx_board.specs.Rule.{plan_of, input_count, job_count}
use Rattle.rx_board.specs.Seats.{Standing}
use Rattle.rx_crew.specs.Kernel.{KernelValue, key_basis, job_words}
use Rattle.rx_crew.specs.Evaluation.{block_words}
use Rattle.rx_crew.specs.Work.{run_plan, HasClosed}
use Rattle.rx_crew.proofs.InputWords.{length-inputs, plan-same}
use Rattle.rx_crew.proofs.Boards.{holds-cells, has-closed}
use Rattle.rx_crew.proofs.run.run_on_board.Goals as goal

pub new-requires-2-clause-inputs : goal.new-requires-2-clause-inputs
new-requires-2-clause-inputs g c =
    let key : ServerWords = c.args.key.now in
    let net : Net = c.args.net.now in
    let same : c.in_ok-first.first.kernel.key ≡ key = ap (λ (v : KernelValue). v.key) c.in_ok-first.ensures in
    let words : c.as_slice.result.now ≡ block_words c.args.inputs.now = c.as_slice.ensures.value ∙ c.in_ok-words.ensures in
    ap length words ∙ length-inputs key net c.args.inputs.now c.requires.inputs
    ∙ ap (λ (k : ServerWords). input_count net * (large_dim k.params + 1)) (sym same)

pub start-requires-clause-others : goal.start-requires-clause-others
start-requires-clause-others g c = λ i d l.
    let key : ServerWords = c.args.key.now in
    let first : ServerWords = c.in_ok-first.first.kernel.key in
    let x : KernelValue = (get_or c.in_ok-others.others.items i d).kernel in
    let same : x.key ≡ first = ap (λ (v : KernelValue). v.key) (c.in_ok-others.ensures i d l ∙ sym c.in_ok-first.ensures) in
    let whole : x.key ≡ key = ap (λ (v : KernelValue). v.key) (c.in_ok-others.ensures i d l) in
    record {
      basis_is = ap key_basis same ∙ sym c.in_ok-board.ensures.basis;
      width_is = ap (λ (k : ServerWords). large_dim k.params + 1) same ∙ sym (ap (λ (p : Plan). p.width) c.in_ok-board.ensures.plan);
      space_is = ap (λ (k : ServerWords). k.params.message_bits) whole ∙ sym c.requires.space ∙ sym (ap (λ (p : Plan). p.net.space) c.in_ok-board.ensures.plan);
      idle = tt;
    }

pub returns-clause-plan : goal.returns-clause-plan
returns-clause-plan g c =
    let key : ServerWords = c.args.key.now in
    let net : Net = c.args.net.now in
    let same : c.in_ok-first.first.kernel.key ≡ key = ap (λ (v : KernelValue). v.key) c.in_ok-first.ensures in
    let words : c.as_slice.result.now ≡ block_words c.args.inputs.now = c.as_slice.ensures.value ∙ c.in_ok-words.ensures in
    let of : ServerWords → List ℕ → Plan = λ k ws. plan_of job_words (key_basis k) net (large_dim k.params + 1) ws in
    let plan : c.in_ok-board.board.plan ≡ run_plan key net c.args.inputs.now =
    c.in_ok-board.ensures.plan ∙ ap (of c.in_ok-first.first.kernel.key) words ∙ ap (λ k. of k (block_words c.args.inputs.now)) same
    ∙ plan-same key net c.args.inputs.now c.requires.inputs in
    ap (λ (s : Standing). s.view.plan) c.split-closing.ensures.kept ∙ c.work-seat.ensures.seat.1 ∙ ap (λ (p : Plan). Some p) plan

pub returns-clause-drained : goal.returns-clause-drained
returns-clause-drained g c =
    let p : Plan = c.in_ok-board.board.plan in
    let jobs : job_count p ≡ length c.args.net.now.jobs = ap job_count c.in_ok-board.ensures.plan in
    subst (λ (n : ℕ). HasClosed n c.split-closing.new.seat.view c.close-closed.result) jobs
    (subst (λ (s : Standing). HasClosed (job_count p) s.view c.close-closed.result) (sym c.split-closing.ensures.kept)
    (has-closed p c.work-seat.result.view c.split-closing.result.view c.close-closed.result c.split-closing.ensures.made.1 c.close-closed.ensures.lawful
    c.work-seat.ensures.drained.either))

pub returns-clause-cells : goal.returns-clause-cells
returns-clause-cells g c =
    let key : ServerWords = c.args.key.now in
    let net : Net = c.args.net.now in
    let same : c.in_ok-first.first.kernel.key ≡ key = ap (λ (v : KernelValue). v.key) c.in_ok-first.ensures in
    let words : c.as_slice.result.now ≡ block_words c.args.inputs.now = c.as_slice.ensures.value ∙ c.in_ok-words.ensures in
    let of : ServerWords → List ℕ → Plan = λ k ws. plan_of job_words (key_basis k) net (large_dim k.params + 1) ws in
    let plan : c.in_ok-board.board.plan ≡ run_plan key net c.args.inputs.now =
    c.in_ok-board.ensures.plan ∙ ap (of c.in_ok-first.first.kernel.key) words ∙ ap (λ k. of k (block_words c.args.inputs.now)) same
    ∙ plan-same key net c.args.inputs.now c.requires.inputs in
    holds-cells key net c.args.inputs.now c.in_ok-board.board.plan c.split-closing.result.view c.close-closed.result c.requires.inputs plan
    c.close-closed.ensures.width c.close-closed.ensures.jobs c.close-closed.ensures.lawful
