-- The file of lines, as far as a loop over them has come.
use Rattle.std.proofs.Common.{◌≡◌, ℕ, ◌+◌, ◌*◌, ◌≤◌, List, [], ◌∷◌, ◌++◌, drop, map, sym, ap, ◌∙◌, append_assoc, arith}
use Rattle.std.specs.List.{flat_map, range_with_len}
use Rattle.std.proofs.lemmas.List.{flat_map_more, map_push}
use Rattle.std.proofs.lemmas.List.FromFn.{map-range_with_len_more}
use Rattle.rx_params.specs.declared.params.Params.{Params}
use Rattle.rx_block.specs.declared.block.Block.{Block}
use Rattle.rx_circuit.specs.declared.values.ValueLine.{ValueLine}
use Rattle.rx_codec.specs.declared.cipher.Item.{Item}
use Rattle.rx_codec.specs.CipherFile.{block_bytes, item_bytes}
use Rattle.rx_seeded.specs.SeededCipher.{short_block, short_item}
use Rattle.rx_client.specs.Encrypt.{line_block, items_from}

-- the bytes of the first n blocks of a line, of each its body alone
abbrev pub blocks_to : Params → List ℕ → List ℕ → List ℕ → ℕ → ValueLine → ℕ → List ℕ
blocks_to p key mask_seed noise_seed number v n =
    flat_map block_bytes (map (short_block p) (map (line_block p key mask_seed noise_seed number v) (range_with_len 0 n)))

-- one more block of a line
pub blocks_to-more : (p : Params) (key mask_seed noise_seed : List ℕ) (number : ℕ) (v : ValueLine) (n : ℕ) (before head old new : List ℕ) (block : Block) →
    old ≡ before ++ (head ++ blocks_to p key mask_seed noise_seed number v n) → new ≡ old ++ block_bytes block →
    short_block p (line_block p key mask_seed noise_seed number v n) ≡ block →
    new ≡ before ++ (head ++ blocks_to p key mask_seed noise_seed number v (n + 1))
blocks_to-more p key mask_seed noise_seed number v n before head old new block written more is =
    let f : ℕ → Block = line_block p key mask_seed noise_seed number v in
    let whole : List Block = map f (range_with_len 0 n) in
    let blocks : List Block = map (short_block p) whole in
    let last : Block = short_block p (f n) in
    more
    ∙ ap (λ b. old ++ block_bytes b) (sym is)
    ∙ ap (λ text. text ++ block_bytes last) written
    ∙ append_assoc before (head ++ flat_map block_bytes blocks) (block_bytes last)
    ∙ ap (λ text. before ++ text) (flat_map_more block_bytes head blocks last)
    ∙ ap (λ all. before ++ (head ++ flat_map block_bytes all)) (sym (map_push (short_block p) whole (f n)))
    ∙ ap (λ all. before ++ (head ++ flat_map block_bytes (map (short_block p) all))) (sym (map-range_with_len_more f 0 n n (omega arith)))

-- the first n blocks of a line
abbrev pub line_blocks_to : Params → List ℕ → List ℕ → List ℕ → ℕ → ValueLine → ℕ → List Block
line_blocks_to p key mask_seed noise_seed number v n = map (line_block p key mask_seed noise_seed number v) (range_with_len 0 n)

-- one more block of a line
pub line_blocks_to-more : (p : Params) (key mask_seed noise_seed : List ℕ) (number : ℕ) (v : ValueLine) (n : ℕ) (old new : List Block) (block : Block) →
    old ≡ line_blocks_to p key mask_seed noise_seed number v n → new ≡ old ++ block ∷ [] →
    line_block p key mask_seed noise_seed number v n ≡ block → new ≡ line_blocks_to p key mask_seed noise_seed number v (n + 1)
line_blocks_to-more p key mask_seed noise_seed number v n old new block made more is =
    let f : ℕ → Block = line_block p key mask_seed noise_seed number v in
    more
    ∙ ap (λ b. old ++ b ∷ []) (sym is)
    ∙ ap (λ blocks. blocks ++ f n ∷ []) made
    ∙ sym (map-range_with_len_more f 0 n n (omega arith))

-- The items of the first n lines were made: with those of the other lines, whose blocks are numbered on from here, they are all.
pub record HasMade (p : Params) (key mask_seed noise_seed : List ℕ) (lines : List ValueLine) (n number : ℕ) (items : List Item) : Type 0 where
  pub rest : items ++ items_from p key mask_seed noise_seed number (drop n lines) ≡ items_from p key mask_seed noise_seed 0 lines
  pub numbers : number ≤ 32 * n

-- The file has the items of the first n lines behind what it had before: with those of the other lines, whose blocks are
-- numbered on from here, it has all.
pub record HasWritten (p : Params) (key mask_seed noise_seed : List ℕ) (lines : List ValueLine) (n number : ℕ) (before file : List ℕ) : Type 0 where
  pub rest : file ++ flat_map item_bytes (map (short_item p) (items_from p key mask_seed noise_seed number (drop n lines)))
      ≡ before ++ flat_map item_bytes (map (short_item p) (items_from p key mask_seed noise_seed 0 lines))
  pub numbers : number ≤ 32 * n
