use Rattle.std.proofs.Common.{[], refl, ◌∙◌}
use Rattle.std.proofs.lemmas.Result.{err_from_is_err_and}
use Rattle.rx_codec.specs.CipherFile.{item_at, items_at}
use Rattle.rx_codec.proofs.Loops.{goes_on, stops}
use Rattle.rx_codec.proofs.cipher.read_items.Goals as goal

pub returns-in_err-item-clause-value : goal.returns-in_err-item-clause-value
returns-in_err-item-clause-value c =
    let p = err_from_is_err_and c.from_residual.result c.from_residual.ensures.1 in
    let params = c.args.params.now in
    let file = c.loop.reader.file in
    let failed = rw c.as_slice.ensures.value at c.in_err-item.ensures.value in
    rw (p.1, p.2) (stops (λ n before at. items_at c.args.size params n before file at) (λ before at. item_at c.args.size params before file at) (λ n before at. refl)
    c.in_err-item.field-0.0 c.args.count c.loop.counter c.loop.items.items c.loop.reader.at
    (items_at c.args.size params c.args.count [] c.args.reader.now.file c.args.reader.now.at)
    c.loop-test.true failed c.loop.invariant.rest)

pub loop-preserved : goal.loop-preserved
loop-preserved c =
    let params = c.args.params.now in
    let file = c.loop.reader.file in
    let read = rw c.as_slice.ensures.value at c.in_ok-item.ensures.value in
    record {
      file = c.in_ok-item.ensures.file ∙ c.loop.invariant.file;
      rest = rw (c.in_ok-push.ensures.items, c.in_ok-item.ensures.file)
          (goes_on (λ n before at. items_at c.args.size params n before file at) (λ before at. item_at c.args.size params before file at) (λ n before at. refl)
          c.args.count c.loop.counter c.loop.items.items c.loop.reader.at c.in_ok-item.item c.read_item.new.reader.at
          (items_at c.args.size params c.args.count [] c.args.reader.now.file c.args.reader.now.at)
          c.loop-test.true read c.loop.invariant.rest);
    }
