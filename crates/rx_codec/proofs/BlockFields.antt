-- Blocks: what is read is spelled so, and what is spelled so is read.
use Rattle.std.proofs.Common.{◌≡◌, ℕ, ◌+◌, Bool, true, ◌&&◌, leb, List, [], ◌∷◌, Result, Ok, refl, sym, ap, subst, ◌∙◌, arith}
use Rattle.std.proofs.lemmas.Bool.{leb-true, le-leb, and_parts}
use Rattle.rx_params.specs.declared.params.Params.{Params}
use Rattle.rx_params.specs.declared.kind.Kind.{Kind}
use Rattle.rx_params.specs.Acceptance.{Accepts}
use Rattle.rx_params.specs.Derived.{noise_limit}
use Rattle.rx_params.specs.Kinds.{greatest}
use Rattle.rx_block.specs.declared.block.Block.{Block}
use Rattle.rx_codec.specs.declared.fault.CodecFault.{CodecFault}
use Rattle.rx_codec.specs.Reading.{◌>>=◌}
use Rattle.rx_codec.specs.WordFields.{word_bytes, words_at}
use Rattle.rx_codec.specs.CipherFile.{IsSizedBlock, block_bytes, block_at}
use Rattle.rx_codec.proofs.Accepted.{degree_below, noise_below}
use Rattle.rx_codec.proofs.Fields.{IsBytes, Stands, Stands-then, Stands-first, Stands-second, bind_ok, ok_is, byte_then, byte_takes, byte_again}
use Rattle.rx_codec.proofs.Manys.{Tells}
use Rattle.rx_codec.proofs.Words.{words_takes, words_again}

abbrev is_degree : Params → Kind → ℕ → Bool
is_degree p kind n = leb n (greatest kind p.message_bits)

abbrev is_noise : Params → ℕ → Bool
is_noise p n = leb 1 n && leb n (noise_limit p.message_bits)

abbrev made : List ℕ → ℕ → ℕ → ℕ → Result (Block × ℕ) CodecFault
made words degree noise after = Ok (record { words = words; degree = degree; noise = noise }, after)

-- the rest of a block, after its degree, and after its noise tag
abbrev after_noise : ℕ → Params → List ℕ → ℕ → ℕ × ℕ → Result (Block × ℕ) CodecFault
after_noise size p file degree noise = words_at size file noise.1 >>= λ words. made words.0 degree noise.0 words.1

abbrev after_degree : ℕ → Params → List ℕ → ℕ × ℕ → Result (Block × ℕ) CodecFault
after_degree size p file degree = byte_then (is_noise p) file degree.1 (after_noise size p file degree.0)

block_at-is : (size : ℕ) (p : Params) (kind : Kind) (file : List ℕ) (at : ℕ) → block_at size p kind file at ≡ byte_then (is_degree p kind) file at (after_degree size p file)
unfolding block_at
block_at-is size p kind file at = refl

block_takes : (size : ℕ) (p : Params) (kind : Kind) (file : List ℕ) (at : ℕ) (x : Block × ℕ) → IsBytes file → block_at size p kind file at ≡ Ok x → Stands file at (block_bytes x.0) x.1 × IsSizedBlock size p kind x.0
block_takes size p kind file at x fits e =
    let d = byte_takes (is_degree p kind) file at (after_degree size p file) x fits (sym (block_at-is size p kind file at) ∙ e) in
    let n = byte_takes (is_noise p) file d.after (after_noise size p file d.byte) x fits d.rest in
    let w = bind_ok (words_at size file n.after) (λ words. made words.0 d.byte n.byte words.1) x n.rest in
    let t = words_takes size file n.after w.0 fits w.1 in
    let noise = and_parts (leb 1 n.byte) (leb n.byte (noise_limit p.message_bits)) n.passes in
    let block : Block = record { words = w.0.0; degree = d.byte; noise = n.byte } in
    let value : Block × ℕ = (block, w.0.1) in
    subst (λ (y : Block × ℕ). Stands file at (block_bytes y.0) y.1 × IsSizedBlock size p kind y.0) (ok_is value x w.2) (
      Stands-then file at (d.byte ∷ []) d.after (n.byte ∷ word_bytes w.0.0) w.0.1 d.there (Stands-then file d.after (n.byte ∷ []) n.after (word_bytes w.0.0) w.0.1 n.there t.0),
      record { degree = leb-true _ _ d.passes; noise_low = leb-true _ _ noise.0; noise_high = leb-true _ _ noise.1; size = t.1; words = t.2 },
    )

block_again : (size : ℕ) (p : Params) (kind : Kind) → Accepts p → (file : List ℕ) (at : ℕ) (b : Block) (after : ℕ) → IsSizedBlock size p kind b → Stands file at (block_bytes b) after → block_at size p kind file at ≡ Ok (b, after)
block_again size p kind accepted file at b after h there =
    let degree = Stands-first file at (b.degree ∷ []) (b.noise ∷ word_bytes b.words) after there in
    let rest = Stands-second file at (b.degree ∷ []) (b.noise ∷ word_bytes b.words) after there in
    let noise = Stands-first file (at + 1) (b.noise ∷ []) (word_bytes b.words) after rest in
    let words = Stands-second file (at + 1) (b.noise ∷ []) (word_bytes b.words) after rest in
    let low : leb 1 b.noise ≡ true = le-leb _ _ h.noise_low in
    let high : leb b.noise (noise_limit p.message_bits) ≡ true = le-leb _ _ h.noise_high in
    block_at-is size p kind file at
    ∙ byte_again (is_degree p kind) file at b.degree (at + 1) (after_degree size p file) degree (omega (arith, h.degree, degree_below p kind accepted)) (le-leb _ _ h.degree)
    ∙ byte_again (is_noise p) file (at + 1) b.noise (at + 1 + 1) (after_noise size p file b.degree) noise (omega (arith, h.noise_high, noise_below p accepted)) (rw (low, high) refl)
    ∙ ap (λ (r : Result (List ℕ × ℕ) CodecFault). r >>= λ words. made words.0 b.degree b.noise words.1) (words_again size file (at + 1 + 1) b.words after h.size h.words words)

-- a block of a set, whatever blocks are before it
abbrev pub BlockFits : ℕ → Params → Kind → List Block → Block → Type 0
BlockFits size p kind before b = IsSizedBlock size p kind b

pub block_tells : (size : ℕ) (p : Params) (kind : Kind) → Accepts p → Tells (λ before. block_at size p kind) block_bytes (BlockFits size p kind)
block_tells size p kind accepted = record { takes = λ before. block_takes size p kind; again = λ before. block_again size p kind accepted }
