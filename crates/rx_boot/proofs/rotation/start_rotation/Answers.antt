use Rattle.std.proofs.Common.{ℕ, ◌∙◌, arith}
use Rattle.std.proofs.lemmas.List.{length-take}
use Rattle.rx_boot.proofs.Turning.{mask_words, body_words, turned_back}
use Rattle.rx_boot.proofs.rotation.start_rotation.Goals as goal

pub returns-clause-masks : goal.returns-clause-masks
returns-clause-masks c =
    let p = c.args.p.now in
    mask_words p.poly_size p.glwe_dim c.clear.new.words c.rotate_into.new.out
    (c.clear.auto.words ∙ omega (arith, c.split_at_mut-masks.ensures.front_len)) c.clear.ensures

pub returns-clause-body : goal.returns-clause-body
returns-clause-body c =
    let p = c.args.p.now in
    let n : ℕ = p.poly_size in
    body_words n p.glwe_dim c.clear.new.words c.rotate_into.new.out _
    (c.clear.auto.words ∙ omega (arith, c.split_at_mut-masks.ensures.front_len))
    (turned_back p c.args.table.now c.accumulator.new.out c.rotate_into.new.out _ _ c.mark_of.result c.args.body
    (omega (arith, length-take n c.args.room.now, c.requires.room_size))
    (omega (arith, c.split_at_mut-masks.ensures.back_len, c.requires.turning_size)) c.mark_of.ensures.value
    c.accumulator.ensures c.rotate_into.ensures)
