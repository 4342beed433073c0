use Rattle.std.proofs.Common.{Some, string_bytes, sym, ◌∙◌}
use Rattle.std.specs.BTreeMap.{get_by_text}
use Rattle.std.proofs.lemmas.Map.Text.{btree_map_updates_text}
use Rattle.rx_language.proofs.Lookups.{tells_update}
use Rattle.rx_language.proofs.draft.define.Goals as goal

pub returns : goal.returns
returns c name =
    let key = string_bytes c.in_ok-name.name in
    let updated = btree_map_updates_text key c.args.places c.insert.new.self (Some c.args.place) c.in_ok-insert.ensures.updates name in
    let same = c.in_ok-name.ensures.ok ∙ c.as_str.ensures.value in
    updated ∙ tells_update (get_by_text c.args.places) name key c.args.line.now c.args.place (sym c.is_output-defines_none.ensures ∙ c.if-defines_none.false) same
