use Rattle.std.proofs.Common.{◌≡◌, ℕ, List, ◌<◌, ◌≤◌, ◌/◌, ◌%◌, length, get_or, sym, ◌∙◌, arith, subst}
use Rattle.std.proofs.lemmas.Result.{IfOk-weaker}
use Rattle.rx_net.specs.declared.net.Net.{Net}
use Rattle.rx_plan.specs.Planned.{IsCell, AreCellsBy}
use Rattle.rx_plan.proofs.PerBlock.{space_low}
use Rattle.rx_carry.specs.Carries.{combine, tops_at, flipped}
use Rattle.std.proofs.lemmas.List.{get_or_read}
use Rattle.rx_plan.proofs.PerBlock.{table_here}
use Rattle.rx_carry.proofs.Trees.{join_range, join_noises, last_is_table, tree_end, pair_same}
use Rattle.rx_carry.proofs.tree.top.Goals as goal

pub two_nodes-requires-clause-table : goal.two_nodes-requires-clause-table
two_nodes-requires-clause-table c = table_here (λ u i. combine (i / 3) (i % 3)) c.space-space.result c.args.pen.now.space c.in_ok-table.table.items c.deref.result.now c.space-space.ensures.value c.deref.ensures.value c.in_ok-table.ensures

module _ (now : Net) (nodes : List ℕ) (i x : ℕ) (h : AreCellsBy now (tops_at 1) nodes) (n : length nodes ≡ 2) (l : i < 2) (e : x ≡ get_or nodes i x) where
  node_is : x ≡ get_or nodes i 0
  node_is = get_or_read nodes i x (omega arith) e 0

  node_cell : IsCell now (tops_at 1 i) x
  node_cell = subst (IsCell now (tops_at 1 i)) (sym node_is) (h i (omega arith))

low_now : (old now : Net) (r : ℕ) → r ≡ old.space → 2 ≤ r → now.space ≡ old.space → 2 ≤ now.space
low_now old now r e h k = omega arith

pub pair-requires-clause-range : goal.pair-requires-clause-range
pair-requires-clause-range c =
    let p = c.in_ok-nodes.ensures.planned in
    let now = c.two_nodes.new.pen in
    let s : 2 ≤ now.space = low_now c.args.pen.now now c.space-space.result c.space-space.ensures.value (space_low c.space-space.result c.space-space.ensures.known) p.extends.space in
    join_range now c.index.result.now c.index-2.result.now 1 0 s
    (node_cell now c.in_ok-nodes.nodes.items 1 c.index.result.now p.cells_are p.count_is (omega arith) c.index.ensures)
    (node_cell now c.in_ok-nodes.nodes.items 0 c.index-2.result.now p.cells_are p.count_is (omega arith) c.index-2.ensures)

pub pair-requires-clause-noises : goal.pair-requires-clause-noises
pair-requires-clause-noises c =
    let p = c.in_ok-nodes.ensures.planned in
    let now = c.two_nodes.new.pen in
    let s : 2 ≤ now.space = low_now c.args.pen.now now c.space-space.result c.space-space.ensures.value (space_low c.space-space.result c.space-space.ensures.known) p.extends.space in
    join_noises now c.index.result.now c.index-2.result.now 1 0 s
    (node_cell now c.in_ok-nodes.nodes.items 1 c.index.result.now p.cells_are p.count_is (omega arith) c.index.ensures)
    (node_cell now c.in_ok-nodes.nodes.items 0 c.index-2.result.now p.cells_are p.count_is (omega arith) c.index-2.ensures)

pub pair-requires-clause-high : goal.pair-requires-clause-high
pair-requires-clause-high c =
    let p = c.in_ok-nodes.ensures.planned in
    (node_cell c.two_nodes.new.pen c.in_ok-nodes.nodes.items 1 c.index.result.now p.cells_are p.count_is (omega arith) c.index.ensures).there

pub pair-requires-clause-low : goal.pair-requires-clause-low
pair-requires-clause-low c =
    let p = c.in_ok-nodes.ensures.planned in
    (node_cell c.two_nodes.new.pen c.in_ok-nodes.nodes.items 0 c.index-2.result.now p.cells_are p.count_is (omega arith) c.index-2.ensures).there

pub pair-requires-clause-table : goal.pair-requires-clause-table
pair-requires-clause-table c =
    let now = c.two_nodes.new.pen in
    let p = c.in_ok-nodes.ensures.planned in
    let s : 2 ≤ now.space = low_now c.args.pen.now now c.space-space.result c.space-space.ensures.value (space_low c.space-space.result c.space-space.ensures.known) p.extends.space in
    last_is_table c.args.invert now.space c.deref-2.result.now s
    (table_here (λ u i. flipped c.args.invert (combine (i / 3) (i % 3))) c.space-space.result now.space c.in_ok-last.last.items c.deref-2.result.now
    (c.space-space.ensures.value ∙ sym p.extends.space) c.deref-2.ensures.value c.in_ok-last.ensures)

pub returns-clause-planned : goal.returns-clause-planned
returns-clause-planned c =
    let p = c.in_ok-nodes.ensures.planned in
    let now = c.two_nodes.new.pen in
    let nodes : List ℕ = c.in_ok-nodes.nodes.items in
    let s : 2 ≤ now.space = low_now c.args.pen.now now c.space-space.result c.space-space.ensures.value (space_low c.space-space.result c.space-space.ensures.known) p.extends.space in
    IfOk-weaker c.pair.result _ _ (λ k m. tree_end c.args.pen.now now c.pair.new.pen c.args.states.items nodes k c.args.invert c.deref-2.result.now s c.requires.two p c.in_ok-nodes.ensures.value
    (table_here (λ u i. flipped c.args.invert (combine (i / 3) (i % 3))) c.space-space.result now.space c.in_ok-last.last.items c.deref-2.result.now
    (c.space-space.ensures.value ∙ sym p.extends.space) c.deref-2.ensures.value c.in_ok-last.ensures)
    (pair_same now c.pair.new.pen k c.index.result.now (get_or nodes 1 0) c.index-2.result.now (get_or nodes 0 0) c.deref-2.result.now
    (node_is now nodes 1 c.index.result.now p.cells_are p.count_is (omega arith) c.index.ensures)
    (node_is now nodes 0 c.index-2.result.now p.cells_are p.count_is (omega arith) c.index-2.ensures) m)) c.pair.ensures.makes
