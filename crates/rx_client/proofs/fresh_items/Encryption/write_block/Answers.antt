use Rattle.std.proofs.Common.{◌≡◌, ℕ, ◌-◌, List, ◌++◌, length, take, drop, ap, sym, subst, ◌∙◌}
use Rattle.std.specs.Prelude.{OnOk}
use Rattle.std.proofs.lemmas.List.{take_rest}
use Rattle.rx_params.specs.declared.params.Params.{Params}
use Rattle.rx_params.specs.Derived.{large_dim}
use Rattle.rx_block.specs.declared.block.Block.{Block}
use Rattle.rx_codec.specs.CipherFile.{block_bytes}
use Rattle.rx_seeded.specs.SeededCipher.{short_block}
use Rattle.rx_client.specs.Encrypt.{line_block}
use Rattle.rx_client.proofs.fresh_items.Encryption.write_block.Goals as goal

pub returns : goal.returns
returns c =
    let p : Params = c.args.self.now.p.now in
    let words : List ℕ = c.block_into-tags.new.words in
    let masks : ℕ = length c.bits.result.now in
    let count : masks ≡ large_dim p = ap length c.bits.ensures.value ∙ c.requires.key in
    let block : List ℕ → Block = λ ws. record { words = ws; degree = c.block_into-tags.result.degree; noise = c.block_into-tags.result.noise } in
    let whole : Block =
    line_block p c.args.self.now.key.now c.args.self.now.mask_seed.now c.args.self.now.noise_seed.now c.args.number c.args.line.now c.args.i in
    let is : short_block p whole ≡ block (take (length words - masks) (drop masks words)) =
    ap (short_block p) c.block_into-tags.ensures
    ∙ ap (λ n. block (drop n words)) (sym count)
    ∙ ap block (sym (take_rest words masks)) in
    let P : Block → Type 0 = λ b. OnOk c.block.result (c.block.new.self ≡ c.args.file.now ++ block_bytes b) in
    subst P (sym is) c.block.ensures
