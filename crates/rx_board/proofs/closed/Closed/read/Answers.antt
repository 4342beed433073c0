use Rattle.std.proofs.Common.{◌≡◌, ◌<◌, ◌≤◌, ◌+◌, ◌*◌, ℕ, length, get_or, set, sym, ap, ◌∙◌, subst, arith, below_more, length-set, get_or-set_other, get_or-set_same}
use Rattle.std.specs.Mem.Slots.{slots_items, slots_counts}
use Rattle.rx_board.specs.Rule.{word_place}
use Rattle.rx_board.specs.Closing.{ClosedValue}
use Rattle.rx_board.proofs.Closes.{at_elem, cell_words}
use Rattle.rx_board.proofs.closed.Closed.read.Goals as goal

pub loop-q-preserved : goal.loop-q-preserved
loop-q-preserved c = let inv = c.loop-q.invariant in let q : ℕ = c.loop-q.q in let x : ℕ = c.word.result in let v = c.args.self.now in
    let w : ℕ = c.self.inside.width in let y : ℕ = c.args.job * (w + 2) in let there : q < length c.args.out.now = c.loop-q-test.true in let room = c.requires.room in
    let place : 1 + (y + 2) + q ≡ 1 + (y + (2 + q)) = omega arith in
    let read : x ≡ get_or (slots_items c.self.inside.table.words) (1 + (y + 2) + q) 0 = at_elem (slots_items c.self.inside.table.words) (1 + (y + 2) + q) x c.word.ensures in
    let here : get_or v.words (word_place v.width c.args.job q) 0 ≡ x = sym (read ∙ (ap (λ (z : ℕ). get_or (slots_items c.self.inside.table.words) z 0) place ∙ ap (λ (z : ClosedValue). get_or z.words (word_place z.width c.args.job q) 0) c.self.view_is)) in
    let len : length c.loop-q.out ≡ v.width = inv.room in
    record {
      room = length-set c.loop-q.out q x ∙ inv.room;
      copied = below_more (λ k. get_or v.words (word_place v.width c.args.job k) 0 ≡ get_or (set c.loop-q.out q x) k 0) q
          (λ k l. inv.copied k l ∙ sym (get_or-set_other c.loop-q.out q k x 0 (λ e. omega arith)))
          (here ∙ sym (get_or-set_same c.loop-q.out q x 0 (omega arith)));
    }

pub returns-clause-words : goal.returns-clause-words
returns-clause-words c = λ _. let inv = c.loop-q.invariant in let v = c.args.self.now in
    let done : length c.args.out.now ≤ c.loop-q.q = c.loop-q-test.false in let room = c.requires.room in
    let counts = slots_counts c.self.inside.table.words in let long = c.self.invariant.2 in
    let size : length (slots_items c.self.inside.table.words) ≡ 1 + c.self.inside.jobs * (c.self.inside.width + 2) = sym counts.0 ∙ long in
    let size' : length v.words ≡ 1 + v.jobs * (v.width + 2) = subst (λ (z : ClosedValue). length z.words ≡ 1 + z.jobs * (z.width + 2)) c.self.view_is size in
    sym (cell_words v.width c.args.job v.jobs v.words c.loop-q.out c.requires.job size' inv.room (λ q l. inv.copied q (omega arith)))
