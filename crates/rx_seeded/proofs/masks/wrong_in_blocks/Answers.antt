use Rattle.std.proofs.Common.{◌≡◌, ℕ, ◌+◌, ◌*◌, List, ◌∷◌, ◌++◌, [], length, get_or, drop, Option, None, ap, sym, ◌∙◌, arith}
use Rattle.std.specs.Option.{option_or}
use Rattle.rx_torus.specs.Streams.{stream_of}
use Rattle.rx_params.specs.declared.params.Params.{Params}
use Rattle.rx_params.specs.Derived.{large_dim}
use Rattle.rx_lwe.specs.Seeded.{drawn_words}
use Rattle.rx_block.specs.declared.block.Block.{Block}
use Rattle.rx_seeded.specs.SeededCipher.{block_masks, wrong_in_blocks}
use Rattle.rx_seeded.proofs.Filled.{some_masks}
use Rattle.rx_seeded.proofs.WrongMasks.{none_of, blocks-step}
use Rattle.rx_seeded.proofs.masks.wrong_in_blocks.Goals as goal

pub write_words-requires-clause-some : goal.write_words-requires-clause-some
write_words-requires-clause-some c = omega (arith, c.large_dim-masks.ensures.value, some_masks c.args.p.now c.requires.accepted.fields)

pub loop-i-preserved : goal.loop-i-preserved
loop-i-preserved c =
    let p : Params = c.args.p.now in
    let mask_seed : List ℕ = c.args.mask_seed.now in
    let blocks : List Block = c.args.blocks.now in
    let i : ℕ = c.loop-i.i in
    let width : ℕ = 2 + 8 * length c.args.room.now in
    let words : List ℕ = c.as_slice-words.result.now in
    let none : c.first_unlike-wrong.result ≡ None = none_of c.first_unlike-wrong.result (sym c.is_some.ensures ∙ c.if-is_some.false) in
    let stream : c.new-stream.result ≡ block_masks mask_seed (c.args.number + i) =
    c.new-stream.ensures ∙ ap (stream_of mask_seed) c.stream_number-row.ensures in
    let drawn : c.write_words.new.out ≡ drawn_words (large_dim p) (block_masks mask_seed (c.args.number + i)) ++ get_or words (large_dim p) 0 ∷ [] =
    c.write_words.ensures
    ∙ ap (λ m. drawn_words m c.new-stream.result ++ get_or words m 0 ∷ []) c.large_dim-masks.ensures.value
    ∙ ap (λ s. drawn_words (large_dim p) s ++ get_or words (large_dim p) 0 ∷ []) stream in
    let rest : Option ℕ = wrong_in_blocks p mask_seed (c.args.number + (i + 1)) (c.args.at + width * (i + 1)) (drop (i + 1) blocks) in
    ap (λ w. option_or w rest) (sym none ∙ c.first_unlike-wrong.ensures)
    ∙ blocks-step p mask_seed c.args.number c.args.at width i blocks c.index-blocks-i.result words c.write_words.new.out
    (wrong_in_blocks p mask_seed c.args.number c.args.at blocks) c.loop-i-test.true c.index-blocks-i.is c.as_slice-words.ensures c.requires.blocks
    (ap (λ k. 2 + 8 * k) c.requires.room) drawn c.loop-i.invariant
