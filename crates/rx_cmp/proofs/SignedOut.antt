-- What goes out of the difference of two numbers with a sign.
use Rattle.std.proofs.Common.{◌≡◌, ◌^◌, ℕ, Bool, ◌+◌, ◌-◌, ◌*◌, ◌/◌, ◌%◌, ◌<◌, ◌≤◌, List, [], ◌∷◌, ◌++◌, length, get_or, sym, ◌∙◌, ap, arith, subst}
use Rattle.std.proofs.lemmas.Nat.{mul-le, pow_pos}
use Rattle.std.proofs.Math.Nat.{pow-zero}
use Rattle.rx_net.specs.declared.net.Net.{Net}
use Rattle.rx_net.specs.Cells.{value, degree, depth}
use Rattle.rx_net.specs.Legal.{IsBounded}
use Rattle.rx_net.specs.Growth.{Extends}
use Rattle.rx_plan.specs.Tables.{entries, HasEntries, IsTable}
use Rattle.rx_plan.specs.Values.{AreInputs, cell_value, number, number_held}
use Rattle.rx_plan.specs.Planned.{Each, EachOf, IsCell, AreBlocks, Makes, Gives, Planned}
use Rattle.rx_plan.proofs.Kept.{value_in, value_below, block_now, within_now}
use Rattle.rx_plan.proofs.Numbers.{number_held-is, pow_pow}
use Rattle.rx_plan.proofs.Planned.{makes_gives, planned_one, planned_push, planned_same, planned_weaken, planned_chain}
use Rattle.rx_plan.proofs.PerBlock.{two_blocks, unit_big, entries_wide, table_is}
use Rattle.rx_costs.specs.Logs.{log_up}
use Rattle.rx_costs.specs.Table.{compare_jobs, compare_depth}
use Rattle.rx_carry.specs.declared.operation.Operation.TheVariants.{Difference}
use Rattle.rx_carry.specs.Carries.{flipped, is_less, joint, state_of, state_at, carry_of, tops_at}
use Rattle.rx_carry.proofs.BlockJobs.{state_values}
use Rattle.rx_carry.proofs.Carried.{joint_in, state_le, tops_high, state_later, states_of, carry_same, carries_out, flipped_le}
use Rattle.rx_carry.proofs.Summed.{less_out}
use Rattle.rx_cmp.specs.Order.{turned, signed_state, turned_top}
use Rattle.rx_cmp.proofs.Ordered.{less_le, turned_below, top_low, top_high, top_below, turned_number, state_entry-is, less_entry-is}

number_first : (u : ℕ) (f : ℕ → ℕ) → number u 1 f ≡ f 0
unfolding number
number_first u f = let e : u ^ 0 * f 0 ≡ 1 * f 0 = ap (λ y. y * f 0) (pow-zero u) in omega arith

pub signed_table : (s : ℕ) (table : List ℕ) → 2 ≤ s → HasEntries s (signed_state s) table → IsTable s table
signed_table s table p h =
    let u : ℕ = 2 ^ s in
    let big : 4 ≤ u = unit_big s p in
    let wide : 4 * u ≤ entries s = entries_wide s p in
    table_is s (signed_state s) table h (λ i q.
    let x : turned s (i / u) < u = turned_below s (i / u) in
    let y : turned s (i % u) < u = turned_below s (i % u) in
    let j = joint_in Difference u (turned s (i / u)) (turned s (i % u)) 0 (omega arith) (omega arith) (omega arith) (omega arith) in
    omega (arith, state_le Difference u (joint Difference u (turned s (i / u)) (turned s (i % u)) 0) j (omega arith)))

pub less_table-is : (v : Bool) (s : ℕ) (table : List ℕ) → 2 ≤ s → HasEntries s (λ i. flipped v (is_less (turned s (i / 2 ^ s)) (turned s (i % 2 ^ s)))) table → IsTable s table
less_table-is v s table p h =
    let big : 4 ≤ 2 ^ s = unit_big s p in
    let wide : 4 * 2 ^ s ≤ entries s = entries_wide s p in
    table_is s (λ i. flipped v (is_less (turned s (i / 2 ^ s)) (turned s (i % 2 ^ s)))) table h (λ i q.
    omega (arith, flipped_le v (is_less (turned s (i / 2 ^ s)) (turned s (i % 2 ^ s))) (less_le (turned s (i / 2 ^ s)) (turned s (i % 2 ^ s)))))

-- ---- one block
abbrev pub pair_makes : Net → Net → ℕ → ℕ → ℕ → ℕ → List ℕ → Type 0
pair_makes p new c unit x y table = Makes p new c (λ P. P x × P y) (unit * degree p x + degree p y) (λ v. unit * v x + v y) table

pub one_signed : (old new : Net) (a b table : List ℕ) (c unit : ℕ) (v : Bool) → 2 ≤ old.space → IsBounded old → unit ≡ 2 ^ old.space → length a ≡ 1 → length b ≡ length a → AreBlocks old a → AreBlocks old b
    → HasEntries old.space (λ i. flipped v (is_less (turned old.space (i / 2 ^ old.space)) (turned old.space (i % 2 ^ old.space)))) table
    → pair_makes old new c unit (get_or a 0 0) (get_or b 0 0) table
    → Planned old new (c ∷ []) (λ _. 1) 1 (compare_jobs (length a)) (compare_depth (length a)) (EachOf a b)
    (λ xs _. flipped v (is_less (turned (old.space * length a) (number_held old a xs)) (turned (old.space * length a) (number_held old b xs))))
one_signed old new a b table c unit v s2 bounded e n l ka kb h m =
    let s : ℕ = old.space in
    let u : ℕ = 2 ^ s in
    let x : ℕ = get_or a 0 0 in
    let y : ℕ = get_or b 0 0 in
    let kx : IsCell old (u - 1) x = ka 0 (omega arith) in
    let ky : IsCell old (u - 1) y = kb 0 (omega arith) in
    let z : 0 < u = pow_pos s in
    let entry : ℕ → ℕ = λ i. flipped v (is_less (turned s (i / u)) (turned s (i % u))) in
    let range : unit * degree old x + degree old y < entries s = two_blocks unit u (degree old x) (degree old y) z (omega arith) kx.degree_in ky.degree_in in
    let says : List ℕ → ℕ = λ xs. flipped v (is_less (turned (s * length a) (number_held old a xs)) (turned (s * length a) (number_held old b xs))) in
    let held : (cs xs : List ℕ) → length cs ≡ 1 → number_held old cs xs ≡ value old xs (get_or cs 0 0) = λ cs xs k.
    number_held-is old cs xs ∙ ap (λ n. number u n (cell_value old cs xs)) k ∙ number_first u (cell_value old cs xs) in
    let one : s * length a ≡ s = (let o : s * 1 ≡ s = omega arith in ap (λ n. s * n) n ∙ o) in
    planned_weaken old new (c ∷ []) (λ _. 1) 1 1 (compare_jobs (length a)) 1 (compare_depth (length a)) (EachOf a b) (EachOf a b) (λ xs _. says xs) (omega arith) (omega arith) (λ d o. o)
    (planned_one old new c 1 1 1 (EachOf a b) says
    (makes_gives old new c 1 (λ P. P x × P y) (unit * degree old x + degree old y) (λ v. unit * v x + v y) table m
    (m.degree_in 1 (λ j q. omega (arith, h.each j (omega arith), flipped_le v (is_less (turned s (j / u)) (turned s (j % u))) (less_le (turned s (j / u)) (turned s (j % u)))))))
    (λ d o. m.depth_in d (o.0 0 (omega arith), o.1 0 (omega arith)))
    (λ xs w.
    let bx : value old xs x ≤ u - 1 = value_in old (u - 1) x bounded kx xs w in
    let by : value old xs y ≤ u - 1 = value_in old (u - 1) y bounded ky xs w in
    m.value_is xs w ∙ ap (λ f. get_or table (f * value old xs x + value old xs y) 0) e
    ∙ h.each (u * value old xs x + value old xs y) (two_blocks u u (value old xs x) (value old xs y) z (omega arith) bx by)
    ∙ ap (flipped v) (less_entry-is s (value old xs x) (value old xs y) (omega arith)
    ∙ ap (λ k. is_less (turned k (value old xs x)) (turned k (value old xs y))) (sym one)
    ∙ ap (λ k. is_less (turned (s * length a) k) (turned (s * length a) (value old xs y))) (sym (held a xs n))
    ∙ ap (λ k. is_less (turned (s * length a) (number_held old a xs)) (turned (s * length a) k)) (sym (held b xs (l ∙ n))))))

-- ---- several blocks
abbrev pub signed_values : Net → List ℕ → List ℕ → List ℕ → ℕ → ℕ
signed_values p a b xs =
    states_of Difference (2 ^ p.space) (turned_top p.space (length a) (cell_value p a xs)) (turned_top p.space (length a) (cell_value p b xs))

pub signed_states : (old one two : Net) (a b ss table : List ℕ) (c unit : ℕ) → 2 ≤ old.space → IsBounded old → unit ≡ 2 ^ old.space → 2 ≤ length a → length b ≡ length a → AreBlocks old a → AreBlocks old b
    → HasEntries one.space (signed_state one.space) table
    → Planned old one ss (tops_at 1) (length a - 1) (length a - 1) 1 (EachOf a b) (state_values Difference old a b)
    → pair_makes one two c unit (get_or a (length a - 1) 0) (get_or b (length a - 1) 0) table
    → Planned old two (ss ++ c ∷ []) (tops_at 1) (length a) (length a) 1 (EachOf a b) (signed_values old a b)
signed_states old one two a b ss table c unit s2 bounded e n2 l ka kb h p m =
    let s : ℕ = old.space in
    let u : ℕ = 2 ^ s in
    let n : ℕ = length a in
    let k : ℕ = n - 1 in
    let x : ℕ = get_or a k 0 in
    let y : ℕ = get_or b k 0 in
    let ex : Extends old one = p.extends in
    let z : 0 < u = pow_pos s in
    let big : 4 ≤ u = unit_big s s2 in
    let so : IsCell old (u - 1) x = ka k (omega arith) in
    let to : IsCell old (u - 1) y = kb k (omega arith) in
    let uo : 2 ^ one.space ≡ u = ap (λ s. 2 ^ s) ex.space in
    let kx : IsCell one (2 ^ one.space - 1) x = block_now old one x ex so in
    let ky : IsCell one (2 ^ one.space - 1) y = block_now old one y ex to in
    let h' : HasEntries s (signed_state s) table = subst (λ (t : ℕ). HasEntries t (signed_state t) table) ex.space h in
    let dx : degree one x ≤ u - 1 = omega (arith, kx.degree_in) in
    let dy : degree one y ≤ u - 1 = omega (arith, ky.degree_in) in
    let range : unit * degree one x + degree one y < u * u = two_blocks unit u (degree one x) (degree one y) z (omega arith) dx dy in
    let top : tops_at 1 k ≡ 2 = tops_high 1 k (omega arith) in
    let f : List ℕ → ℕ → ℕ = λ xs. turned_top s n (cell_value old a xs) in
    let g : List ℕ → ℕ → ℕ = λ xs. turned_top s n (cell_value old b xs) in
    let all : k + 1 ≡ n = omega arith in
    let small : (i : ℕ) → i < u * u → signed_state s i ≤ 2 = λ i q.
    (let tx : turned s (i / u) < u = turned_below s (i / u) in
    let ty : turned s (i % u) < u = turned_below s (i % u) in
    state_le Difference u (joint Difference u (turned s (i / u)) (turned s (i % u)) 0) (joint_in Difference u (turned s (i / u)) (turned s (i % u)) 0 (omega arith) (omega arith) (omega arith) (omega arith)) (omega arith)) in
    subst (λ (n : ℕ). Planned old two (ss ++ c ∷ []) (tops_at 1) n n 1 (EachOf a b) (signed_values old a b)) all
    (planned_push old one two ss (tops_at 1) k k 1 1 (EachOf a b) (signed_values old a b) c
    (planned_same old one ss (tops_at 1) (tops_at 1) k k 1 (EachOf a b) (state_values Difference old a b) (signed_values old a b) (λ i q. omega arith)
    (λ xs w i q.
    ap (λ d. state_at Difference u i (joint Difference u d (cell_value old b xs i) 0)) (sym (top_low s n (cell_value old a xs) i q))
    ∙ ap (λ d. state_at Difference u i (joint Difference u (f xs i) d 0)) (sym (top_low s n (cell_value old b xs) i q))) p)
    (subst (λ (t : ℕ). Gives one two c t 1) (sym top)
    (makes_gives one two c 2 (λ P. P x × P y) (unit * degree one x + degree one y) (λ v. unit * v x + v y) table m
    (m.degree_in 2 (λ j q. omega (arith, h'.each j (omega arith), small j (omega arith))))))
    (λ d o.
    let ox : depth one x ≡ depth old x = ex.depths x so.there in
    let oy : depth one y ≡ depth old y = ex.depths y to.there in
    let px : depth old x ≤ d = o.0 k (omega arith) in
    let py : depth old y ≤ d = o.1 k (omega arith) in
    m.depth_in d (omega arith, omega arith))
    (λ xs w.
    let vx : value one xs x ≡ value old xs x = ex.values xs w x so.there in
    let vy : value one xs y ≡ value old xs y = ex.values xs w y to.there in
    let bx : value old xs x ≤ u - 1 = value_in old (u - 1) x bounded so xs w in
    let by : value old xs y ≤ u - 1 = value_in old (u - 1) y bounded to xs w in
    m.value_is xs (within_now old one ex xs w)
    ∙ ap (λ v. get_or table (unit * v + value one xs y) 0) vx ∙ ap (λ v. get_or table (unit * value old xs x + v) 0) vy ∙ ap (λ f. get_or table (f * value old xs x + value old xs y) 0) e
    ∙ h'.each (u * value old xs x + value old xs y) (two_blocks u u (value old xs x) (value old xs y) z (omega arith) bx by)
    ∙ state_entry-is s (value old xs x) (value old xs y) (omega arith)
    ∙ ap (λ d. state_of Difference u (joint Difference u d (turned s (value old xs y)) 0)) (sym (top_high s n (cell_value old a xs) k (omega arith)))
    ∙ ap (λ d. state_of Difference u (joint Difference u (f xs k) d 0)) (sym (top_high s n (cell_value old b xs) k (omega arith)))
    ∙ sym (state_later Difference u k (joint Difference u (f xs k) (g xs k) 0) (omega arith))))

-- what goes out of the states says which is less
signed_carry : (p : Net) (a b xs : List ℕ) → 2 ≤ p.space → IsBounded p → 1 ≤ length a → length b ≡ length a → AreBlocks p a → AreBlocks p b → AreInputs p xs
    → carry_of (signed_values p a b xs) (length a) ≡ is_less (turned (p.space * length a) (number_held p a xs)) (turned (p.space * length a) (number_held p b xs))
signed_carry p a b xs s2 bounded n1 l ka kb w =
    let s : ℕ = p.space in
    let u : ℕ = 2 ^ s in
    let n : ℕ = length a in
    let f : ℕ → ℕ = cell_value p a xs in
    let g : ℕ → ℕ = cell_value p b xs in
    let fa : (i : ℕ) → i < n → f i < u = value_below p u a bounded (pow_pos s) ka xs w in
    let gb : (i : ℕ) → i < n → g i < u = λ i q. value_below p u b bounded (pow_pos s) kb xs w i (omega arith) in
    let tf : ℕ → ℕ = turned_top s n f in
    let tg : ℕ → ℕ = turned_top s n g in
    let big : 4 ≤ u = unit_big s s2 in
    let na : number u n tf ≡ turned (s * n) (number_held p a xs) = turned_number s n f (omega arith) n1 fa ∙ ap (turned (s * n)) (sym (number_held-is p a xs)) in
    let nb : number u n tg ≡ turned (s * n) (number_held p b xs) =
    turned_number s n g (omega arith) n1 gb ∙ ap (turned (s * n)) (ap (λ k. number u k g) (sym l) ∙ sym (number_held-is p b xs)) in
    carries_out Difference u n tf tg (omega arith) (λ i q. top_below s n f i (fa i q)) (λ i q. top_below s n g i (gb i q))
    ∙ less_out (u ^ n) (number u n tf) (number u n tg) (subst (λ (k : ℕ). 0 < k) (sym (pow_pow s n)) (pow_pos (s * n)))
    ∙ ap (λ z. is_less z (number u n tg)) na ∙ ap (is_less (turned (s * n) (number_held p a xs))) nb

pub many_signed : (old s1 s2 : Net) (a b ss : List ℕ) (c : ℕ) (v : Bool) → 2 ≤ length a → length b ≡ length a → AreBlocks old a → AreBlocks old b → 2 ≤ old.space → IsBounded old
    → Planned old s1 ss (tops_at 1) (length a) (length a) 1 (EachOf a b) (signed_values old a b)
    → Planned s1 s2 (c ∷ []) (λ _. 1) 1 (length ss - 1) (log_up 2 (length ss)) (Each ss) (λ xs _. flipped v (carry_of (cell_value s1 ss xs) (length ss)))
    → Planned old s2 (c ∷ []) (λ _. 1) 1 (compare_jobs (length a)) (compare_depth (length a)) (EachOf a b)
    (λ xs _. flipped v (is_less (turned (old.space * length a) (number_held old a xs)) (turned (old.space * length a) (number_held old b xs))))
many_signed old s1 s2 a b ss c v n2 l ca cb s bounded p1 p2 =
    let n : length ss ≡ length a = p1.count_is in
    let says : List ℕ → ℕ → ℕ = λ xs _. flipped v (is_less (turned (old.space * length a) (number_held old a xs)) (turned (old.space * length a) (number_held old b xs))) in
    planned_weaken old s2 (c ∷ []) (λ _. 1) 1 (length a + (length ss - 1)) (compare_jobs (length a)) (1 + log_up 2 (length ss)) (compare_depth (length a)) (EachOf a b) (EachOf a b) says
    (omega arith) (omega (arith, ap (log_up 2) n)) (λ d o. o)
    (planned_chain old s1 s2 ss (c ∷ []) (tops_at 1) (λ _. 1) (length a) 1 (length a) (length ss - 1) 1 (log_up 2 (length ss)) (EachOf a b) (Each ss) (signed_values old a b)
    (λ xs _. flipped v (carry_of (cell_value s1 ss xs) (length ss))) says p1 p2 p1.deep_cells
    (λ xs w i q. ap (flipped v) (ap (carry_of (cell_value s1 ss xs)) n ∙ carry_same (cell_value s1 ss xs) (signed_values old a b xs) (length a) (λ k r. p1.values_are xs w k r)
    ∙ signed_carry old a b xs s bounded (omega arith) l ca cb w)))

-- the same with the operands in the other order
pub turned_over : (old new : Net) (cs a b : List ℕ) (f : List ℕ → ℕ → ℕ) → length b ≡ length a
    → Planned old new cs (λ _. 1) 1 (compare_jobs (length b)) (compare_depth (length b)) (EachOf b a) f
    → Planned old new cs (λ _. 1) 1 (compare_jobs (length a)) (compare_depth (length a)) (EachOf a b) f
turned_over old new cs a b f l p =
    planned_weaken old new cs (λ _. 1) 1 (compare_jobs (length a)) (compare_jobs (length a)) (compare_depth (length a)) (compare_depth (length a)) (EachOf b a) (EachOf a b) f (omega arith) (omega arith) (λ d o. (o.1, o.0))
    (subst (λ (n : ℕ). Planned old new cs (λ _. 1) 1 (compare_jobs n) (compare_depth n) (EachOf b a) f) l p)

pub bits_some : (m n : ℕ) → 1 ≤ m → 1 ≤ n → 1 ≤ m * n
bits_some m n p q = let h : 1 * 1 ≤ m * n = mul-le 1 1 m n p q in omega arith
