use Rattle.std.proofs.Common.{◌≡◌, ◌∙◌, ◌<◌, ◌-◌, length, vec_len, get_or, ◌∷◌, ◌++◌, [], rules, arith, sym, subst}
use Rattle.std.specs.Prelude.{All, List, Some, reverse}
use Rattle.std.proofs.lemmas.List.{nil_from_length}
use Rattle.std.proofs.lemmas.List.Elements.{All-push}
use Rattle.std.proofs.lemmas.Grind.{common_steps}
use Rattle.rx_board.specs.Seats.{IsOf}
use Rattle.rx_workers.specs.declared.worker.Worker.{Worker}
use Rattle.rx_workers.specs.Crew.{IsFit, Suits, kernels_of}
use Rattle.rx_workers.proofs.Joins.{kernels_more, kernels_all}
use Rattle.rx_workers.proofs.crew.start.Goals as goal

pub loop-kernel-preserved : goal.loop-kernel-preserved
loop-kernel-preserved g c = let inv = c.loop-kernel.invariant in record {
  seat = subst (IsOf c.args.board.now) (sym c.split-seat.ensures.kept) inv.seat;
  fit =
      let P : Worker g.row.K.Denot → Type 0 = IsFit g.K.Kernel.basis g.K.Kernel.width g.K.Kernel.space g.K.Kernel.told c.args.board.now in
      let Q : g.row.K.Denot → Type 0 = Suits g.K.Kernel.basis g.K.Kernel.width g.K.Kernel.space g.K.Kernel.told c.args.board.now in
      let x : Worker g.row.K.Denot = record { seat = c.split-seat.result; desk = c.in_ok-desk.desk; kernel = c.in-Some.kernel } in
      let kernel : Q x.kernel = (
      let k = c.loop-kernel.others in
      let len : vec_len k ≡ length k.items = search rules in
      let some : 0 < vec_len k = search (rules, common_steps) in
      let v : Some c.in-Some.kernel ≡ Some (get_or k.items (vec_len k - 1) c.in-Some.kernel) = c.in-Some.ensures.value c.in-Some.kernel some in
      let is : c.in-Some.kernel ≡ get_or k.items (vec_len k - 1) c.in-Some.kernel = cc in
      subst Q (sym is) (inv.others (vec_len k - 1) c.in-Some.kernel (omega arith))) in
      let desk : x.desk ≡ c.args.board.now.plan.width = c.in_ok-desk.ensures ∙ (c.words-words.ensures ∙ c.requires.first.width_is) in
      let items : c.push.new.self.items ≡ c.loop-kernel.workers.items ++ x ∷ [] = c.in_ok-push.ensures.items in
      subst (All P) (sym items) (All-push P c.loop-kernel.workers.items x inv.fit (record { seat = c.split-seat.ensures.made.0; desk = desk; kernel = kernel }));
  others = grind (arith, common_steps);
  kernels =
      let x : Worker g.row.K.Denot = record { seat = c.split-seat.result; desk = c.in_ok-desk.desk; kernel = c.in-Some.kernel } in
      subst (λ (ws : List (Worker g.row.K.Denot)). kernels_of ws ++ reverse c.pop.new.self.items ≡ reverse c.args.others.items)
      (sym c.in_ok-push.ensures.items)
      (kernels_more c.loop-kernel.workers.items x c.loop-kernel.others.items c.pop.new.self.items (reverse c.args.others.items) c.in-Some.ensures.items inv.kernels);
}

pub returns-clause-fit : goal.returns-clause-fit
returns-clause-fit g c =
    let P : Worker g.row.K.Denot → Type 0 = IsFit g.K.Kernel.basis g.K.Kernel.width g.K.Kernel.space g.K.Kernel.told c.args.board.now in
    let x : Worker g.row.K.Denot = record { seat = c.loop-kernel.seat; desk = c.in_ok-desk-2.desk; kernel = c.args.first } in
    let items : c.push-2.new.self.items ≡ c.loop-kernel.workers.items ++ x ∷ [] = c.in_ok-push-2.ensures.items in
    subst (All P) (sym items) (All-push P c.loop-kernel.workers.items x c.loop-kernel.invariant.fit
    (record { seat = c.loop-kernel.invariant.seat; desk = c.in_ok-desk-2.ensures ∙ (c.words-words.ensures ∙ c.requires.first.width_is); kernel = c.requires.first }))

pub returns-clause-kernels : goal.returns-clause-kernels
returns-clause-kernels g c =
    let x : Worker g.row.K.Denot = record { seat = c.loop-kernel.seat; desk = c.in_ok-desk-2.desk; kernel = c.args.first } in
    let none : length c.loop-kernel.others.items ≡ 0 = grind (arith, common_steps) in
    subst (λ (ws : List (Worker g.row.K.Denot)). kernels_of ws ≡ reverse (c.args.first ∷ c.args.others.items)) (sym c.in_ok-push-2.ensures.items)
    (kernels_all c.loop-kernel.workers.items x c.loop-kernel.others.items c.args.others.items (nil_from_length c.loop-kernel.others.items none)
    c.loop-kernel.invariant.kernels)
