use Rattle.std.proofs.Common.{arith, ◌≡◌, ℕ, ◌+◌, ◌*◌, List, [], ◌∷◌, ◌++◌, ap, sym, ◌∙◌}
use Rattle.std.specs.Prelude.{slice_range}
use Rattle.std.specs.Int.{w64, from_le_bytes}
use Rattle.std.proofs.lemmas.List.FromFn.{map-range_with_len_more}
use Rattle.rx_codec.specs.WordFields.{words_in}
use Rattle.rx_codec.proofs.reader.words_of.Goals as goal

pub loop-i-preserved : goal.loop-i-preserved
loop-i-preserved c =
    let i = c.loop-i.i in
    let bytes = c.args.bytes.now in
    let word : c.from_le_bytes.result ≡ from_le_bytes w64 (slice_range bytes (8 * i) (8 * i + 8)) = c.from_le_bytes.ensures in
    c.in_ok-push.ensures.items
    ∙ ap (λ (xs : List ℕ). xs ++ c.from_le_bytes.result ∷ []) c.loop-i.invariant
    ∙ ap (λ (w : ℕ). words_in i bytes ++ w ∷ []) word
    ∙ sym (map-range_with_len_more (λ (k : ℕ). from_le_bytes w64 (slice_range bytes (8 * k) (8 * k + 8))) 0 i i (omega arith))
