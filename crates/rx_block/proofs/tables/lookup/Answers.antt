use Rattle.std.proofs.Common.{◌≡◌, List, ℕ, ◌++◌, length, take, drop, ap, ◌∙◌, arith}
use Rattle.rx_list.proofs.Overwritten.{overwritten-all}
use Rattle.rx_net.specs.Tags.{greatest_between}
use Rattle.rx_boot.specs.ServerKeys.{ServerWords}
use Rattle.rx_boot.specs.Bootstrap.{bootstrapped}
use Rattle.rx_block.specs.declared.block.Block.{Block}
use Rattle.rx_block.proofs.KeptNumbers.{kept-entry}
use Rattle.rx_block.proofs.tables.lookup.Goals as goal

abbrev block_of : List ℕ → ℕ → Block
block_of words degree = record { words = words; degree = degree; noise = 1 }

pub returns-clause-block : goal.returns-clause-block
returns-clause-block c =
    let size : length c.bootstrap_into.new.out ≡ length c.args.out.now.words =
    omega (arith, c.bootstrap_into.auto.out, ap length c.as_mut_slice.ensures.value) in
    let key : ServerWords = c.args.key.now in
    let table : List ℕ = c.args.table.now in
    let words : take (length c.args.out.now.words) (c.bootstrap_into.new.out ++ drop (length c.bootstrap_into.new.out) c.args.out.now.words)
    ≡ bootstrapped key table c.args.block.now.words =
    overwritten-all c.args.out.now.words c.bootstrap_into.new.out size
    ∙ c.bootstrap_into.ensures.output ∙ ap (bootstrapped key table) c.as_slice-words.ensures in
    let degree : c.greatest_between-out.result ≡ greatest_between table 0 c.args.block.now.degree =
    c.greatest_between-out.ensures ∙ ap (greatest_between table 0) c.from.ensures in
    ap (λ (xs : List ℕ). block_of xs c.greatest_between-out.result) words
    ∙ ap (block_of (bootstrapped key table c.args.block.now.words)) degree

pub returns-clause-size : goal.returns-clause-size
returns-clause-size c =
    let size : length c.bootstrap_into.new.out ≡ length c.args.out.now.words =
    omega (arith, c.bootstrap_into.auto.out, ap length c.as_mut_slice.ensures.value) in
    ap length (overwritten-all c.args.out.now.words c.bootstrap_into.new.out size) ∙ size

pub returns-clause-keeps : goal.returns-clause-keeps
returns-clause-keeps c =
    let size : length c.bootstrap_into.new.out ≡ length c.args.out.now.words =
    omega (arith, c.bootstrap_into.auto.out, ap length c.as_mut_slice.ensures.value) in
    let degree : c.greatest_between-out.result ≡ greatest_between c.args.table.now 0 c.args.block.now.degree =
    c.greatest_between-out.ensures ∙ ap (greatest_between c.args.table.now 0) c.from.ensures in
    kept-entry c.args.key.now c.args.table.now _ c.bootstrap_into.new.out _ c.args.block.now c.greatest_between-out.result
    c.as_slice-words.ensures (overwritten-all c.args.out.now.words c.bootstrap_into.new.out size) degree c.bootstrap_into.ensures.looks_up
