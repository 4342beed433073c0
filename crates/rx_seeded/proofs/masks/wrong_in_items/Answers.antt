use Rattle.std.proofs.Common.{◌≡◌, ℕ, ◌+◌, ◌*◌, ◌≤◌, List, length, drop, Option, None, ap, sym, ◌∙◌, arith}
use Rattle.std.specs.Option.{option_or}
use Rattle.std.proofs.Math.Facts.{Fits-of_lt}
use Rattle.rx_params.specs.declared.params.Params.{Params}
use Rattle.rx_params.specs.Derived.{large_dim}
use Rattle.rx_params.proofs.Sizes.{large_dim-high}
use Rattle.rx_codec.specs.declared.cipher.Item.{Item}
use Rattle.rx_codec.proofs.NamesAndForms.{name_size}
use Rattle.rx_seeded.specs.SeededCipher.{wrong_in_items}
use Rattle.rx_seeded.proofs.WrongMasks.{none_of, WritableAt, writable_at, items-step, few_bytes}
use Rattle.rx_seeded.proofs.masks.wrong_in_items.Goals as goal

pub overflow_mul-place : goal.overflow_mul-place
unfolding large_dim
overflow_mul-place c =
    let p : Params = c.args.p.now in
    let at = writable_at p c.args.items.now c.loop-item.item-index c.item-item.result c.requires.accepted.fields c.requires.items c.loop-item-test.true c.item-item.is in
    let few : length c.as_slice-blocks.result.now ≤ 64 = omega (arith, ap length c.as_slice-blocks.ensures, at.few) in
    let wide : 2 + 8 * length c.args.room.now ≤ 131082 = omega (arith, c.requires.room, large_dim-high p c.requires.accepted.fields) in
    Fits-of_lt (omega (arith, few_bytes (2 + 8 * length c.args.room.now) (length c.as_slice-blocks.result.now) wide few))

pub overflow_add-place : goal.overflow_add-place
unfolding large_dim
overflow_add-place c =
    let p : Params = c.args.p.now in
    let at = writable_at p c.args.items.now c.loop-item.item-index c.item-item.result c.requires.accepted.fields c.requires.items c.loop-item-test.true c.item-item.is in
    let few : length c.as_slice-blocks.result.now ≤ 64 = omega (arith, ap length c.as_slice-blocks.ensures, at.few) in
    let wide : 2 + 8 * length c.args.room.now ≤ 131082 = omega (arith, c.requires.room, large_dim-high p c.requires.accepted.fields) in
    let named = name_size c.item-item.result.name c.as_bytes.ensures.name in
    Fits-of_lt (omega (
      arith,
      few_bytes (2 + 8 * length c.args.room.now) (length c.as_slice-blocks.result.now) wide few,
      named.1,
      ap length c.as_bytes.ensures.value,
      c.loop-item.invariant.places,
      c.requires.place,
      c.requires.count,
      c.loop-item-test.true,
    ))

pub loop-item-preserved : goal.loop-item-preserved
unfolding large_dim
loop-item-preserved c =
    let p : Params = c.args.p.now in
    let mask_seed : List ℕ = c.args.mask_seed.now in
    let items : List Item = c.args.items.now in
    let item : Item = c.item-item.result in
    let n : ℕ = c.loop-item.item-index in
    let blocks = c.as_slice-blocks.result.now in
    let size : ℕ = length c.as_bytes.result.now in
    let width : ℕ = 2 + 8 * length c.args.room.now in
    let at : WritableAt p items n item = writable_at p items n item c.requires.accepted.fields c.requires.items c.loop-item-test.true c.item-item.is in
    let few : length blocks ≤ 64 = omega (arith, ap length c.as_slice-blocks.ensures, at.few) in
    let wide : width ≤ 131082 = omega (arith, c.requires.room, large_dim-high p c.requires.accepted.fields) in
    let bytes : width * length blocks ≤ 8389248 = few_bytes width (length blocks) wide few in
    let named = name_size item.name c.as_bytes.ensures.name in
    let none : c.wrong_in_blocks-wrong.result ≡ None = none_of c.wrong_in_blocks-wrong.result (sym c.is_some.ensures ∙ c.if-is_some.false) in
    let rest : Option ℕ =
    wrong_in_items p mask_seed (c.loop-item.number + length blocks) (c.loop-item.place + size + 3 + width * length blocks) (drop (n + 1) items) in
    record {
      rest = ap (λ w. option_or w rest) (sym none ∙ c.wrong_in_blocks-wrong.ensures)
          ∙ items-step p mask_seed c.loop-item.number c.loop-item.place width size n items item blocks
          (wrong_in_items p mask_seed 0 c.args.at items) at c.as_slice-blocks.ensures (ap length c.as_bytes.ensures.value)
          (ap (λ k. 2 + 8 * k) c.requires.room) c.loop-item.invariant.rest;
      numbers = omega (arith, few, c.loop-item.invariant.numbers);
      places = omega (arith, bytes, named.1, ap length c.as_bytes.ensures.value, c.loop-item.invariant.places);
    }
