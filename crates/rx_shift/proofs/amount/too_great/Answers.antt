use Rattle.std.proofs.Common.{◌≡◌, ◌^◌, ◌<◌, ◌≤◌, ◌+◌, ◌-◌, ◌*◌, ◌/◌, ◌%◌, ℕ, List, suc, [], ◌∷◌, ◌++◌, length, take, drop, ◌∙◌, sym, ap, arith, subst}
use Rattle.std.proofs.lemmas.Nat.{div-add-mod', div_below, mod_below, pow_pos}
use Rattle.std.proofs.lemmas.Result.{IfOk-weaker}
use Rattle.rx_params.specs.Derived.{noise_limit}
use Rattle.rx_plan.specs.Values.{cell_value, number_held}
use Rattle.rx_plan.specs.Planned.{Each, Planned}
use Rattle.rx_costs.specs.Logs.{log_up}
use Rattle.rx_bits.proofs.OneCell.{tail_is}
use Rattle.rx_shift.specs.Amount.{is_wide}
use Rattle.rx_shift.proofs.BitLaws.{node_value}
use Rattle.rx_shift.proofs.AmountBits.{nodes_planned, wide_planned, enough_levels}
use Rattle.rx_shift.proofs.amount.too_great.Goals as goal

pub returns-clause-planned : goal.returns-clause-planned
returns-clause-planned c =
    let p = c.args.pen.now in
    let now = c.above.new.pen in
    let new = c.any_set.new.pen in
    let amount : List ℕ = c.args.amount.now in
    let n : ℕ = length amount in
    let count : ℕ = c.args.count in
    let s : ℕ = c.space-space.result in
    let q : ℕ = count / s in
    let r : ℕ = count % s in
    let shared : ℕ = c.in_ok-shared.shared in
    let nodes : List ℕ = c.extend_from_slice.new.self.items in
    let t : ℕ = log_up 2 n in
    let es : s ≡ p.space = c.space-space.ensures.value in
    let d : q * s + r ≡ count = div-add-mod' count s in
    let w : s * n ≡ p.space * n = ap (λ s. s * n) es in
    let here : q < n = div_below count s n (omega arith) (omega arith) in
    let low : r < s = mod_below count s (omega arith) in
    let place : p.space * q + r ≡ count = (let x : s * q + r ≡ count = omega arith in ap (λ s. s * q + r) (sym es) ∙ x) in
    let k : ℕ = n - q - 1 in
    let size : n ≡ q + suc k = omega arith in
    let items : nodes ≡ shared ∷ [] ++ drop (q + 1) amount =
    c.in_ok-extend_from_slice.ensures.items ∙ ap (λ cs. cs ++ take (n - (q + 1)) (drop (q + 1) amount)) c.in_ok-nodes.ensures.items ∙ ap (λ ds. shared ∷ [] ++ ds) (tail_is (q + 1) amount) in
    let nodes_are : Planned p now nodes (λ _. 2 ^ p.space - 1) (suc k) 1 1 (Each amount) (λ xs i. node_value q r (cell_value p amount xs) i) =
    subst (λ (cs : List ℕ). Planned p now cs (λ _. 2 ^ p.space - 1) (suc k) 1 1 (Each amount) (λ xs i. node_value q r (cell_value p amount xs) i)) (sym items)
    (nodes_planned p now amount shared q r k c.requires.blocks size c.in_ok-shared.ensures.planned) in
    let two : 2 ≤ noise_limit now.space = omega (arith, pow_pos now.space) in
    let few : length nodes ≤ n = omega (arith, nodes_are.count_is) in
    let fits : length nodes ≤ noise_limit now.space ^ t = enough_levels (noise_limit now.space) (length nodes) n two few in
    IfOk-weaker c.any_set.result _ _ (λ cell m.
    subst (λ (v : ℕ). Planned p new (cell ∷ []) (λ _. 1) 1 (n + 1) (2 + t) (Each amount) (λ xs _. is_wide (number_held p amount xs) v)) place
    (wide_planned p now new amount nodes q r k t cell c.space-space.ensures.bounded c.requires.blocks (omega arith) size nodes_are (m t fits)))
    c.any_set.ensures.planned
