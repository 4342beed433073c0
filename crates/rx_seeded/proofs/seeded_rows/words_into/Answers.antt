use Rattle.std.proofs.Common.{ℕ, ◌<◌, length, get_or, ap, ◌∙◌, arith}
use Rattle.std.proofs.Math.ListN.{set}
use Rattle.std.proofs.lemmas.List.Edits.{fill_by_more}
use Rattle.std.proofs.lemmas.List.FromFn.{fill_by_all}
use Rattle.rx_codec.proofs.Words.{word_of}
use Rattle.rx_seeded.proofs.seeded_rows.words_into.Goals as goal

pub loop-i-init : goal.loop-i-init
loop-i-init c = λ k p. absurd (omega arith)

pub loop-i-preserved : goal.loop-i-preserved
loop-i-preserved c =
    let i : ℕ = c.loop-i.i in
    λ k p.
    ap (λ w. get_or (set c.loop-i.out i w) k 0) c.from_le_bytes.ensures
    ∙ fill_by_more (word_of c.args.bytes.now) c.loop-i.out i 0 (omega arith) c.loop-i.invariant k p

pub returns : goal.returns
returns c =
    fill_by_all (word_of c.args.bytes.now) c.loop-i.out (length c.args.out.now) 0 (omega arith)
    (λ k p. c.loop-i.invariant k (omega arith))
