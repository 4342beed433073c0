-- One job for each block.
use Rattle.std.proofs.Common.{◌≡◌, ◌^◌, ℕ, zero, suc, ◌+◌, ◌-◌, ◌*◌, ◌<◌, ◌≤◌, ◌⊎◌, inl, inr, List, [], ◌∷◌, ◌++◌, length, get_or, sym, ◌∙◌, ap, arith, subst}
use Rattle.std.proofs.lemmas.Nat.{mul-le, pow_pos}
use Rattle.std.proofs.Math.Nat.{pow-le-pow_right}
use Rattle.rx_net.specs.declared.net.Net.{Net}
use Rattle.rx_net.specs.Tags.{greatest_of}
use Rattle.rx_net.specs.Cells.{value, degree, noise, depth}
use Rattle.rx_net.specs.Growth.{Extends}
use Rattle.rx_net.proofs.Bounded.{greatest_at}
use Rattle.rx_plan.specs.Tables.{entries, IsTable, HasEntries}
use Rattle.rx_plan.specs.Values.{AreInputs, cell_value}
use Rattle.rx_plan.specs.Planned.{Each, EachOf, IsCell, AreBlocks, Makes, Planned}
use Rattle.rx_plan.proofs.Terms.{greatest_in}
use Rattle.rx_plan.proofs.Kept.{within_now, cell_kept}
use Rattle.rx_plan.proofs.Planned.{makes_gives, planned_push}

-- ---- the sizes of a space, which is 2 or 3
pub space_low : (s : ℕ) → (s ≡ 2) ⊎ (s ≡ 3) → 2 ≤ s
space_low s h = elim h [ inl e ↦ omega arith | inr e ↦ omega arith ]

pub space_high : (s : ℕ) → (s ≡ 2) ⊎ (s ≡ 3) → s ≤ 3
space_high s h = elim h [ inl e ↦ omega arith | inr e ↦ omega arith ]

pub unit_le : (s : ℕ) → s ≤ 3 → 2 ^ s ≤ 8
unit_le s h = pow-le-pow_right {n = 2} (omega arith) h

pub unit_big : (s : ℕ) → 2 ≤ s → 4 ≤ 2 ^ s
unit_big s h = let p : 2 ^ 2 ≤ 2 ^ s = pow-le-pow_right {n = 2} (omega arith) h in p

pub entries_wide : (s : ℕ) → 2 ≤ s → 4 * 2 ^ s ≤ entries s
entries_wide s h = mul-le 4 (2 ^ s) (2 ^ s) (2 ^ s) (unit_big s h) (omega arith)

pub entries_big : (s : ℕ) → 2 ≤ s → 16 ≤ entries s
entries_big s h = mul-le 4 4 (2 ^ s) (2 ^ s) (unit_big s h) (unit_big s h)

-- ---- tables
pub table_is : (s : ℕ) (f : ℕ → ℕ) (table : List ℕ) → HasEntries s f table → ((i : ℕ) → i < entries s → f i < entries s) → IsTable s table
table_is s f table h b = record {
  count = h.count;
  each = λ i q. let e : get_or table i 0 ≡ f i = h.each i q in let k : f i < entries s = b i q in omega arith;
}

pub greatest_entry : (s : ℕ) (f : ℕ → ℕ) (table : List ℕ) (top : ℕ) → HasEntries s f table → ((i : ℕ) → i < entries s → f i ≤ top) → greatest_of table ≤ top
greatest_entry s f table top h b =
    greatest_in table top (λ i q. let q' : i < entries s = omega (arith, h.count) in let e : get_or table i 0 ≡ f i = h.each i q' in let k : f i ≤ top = b i q' in omega arith)

-- a table that was made for a space, where the pen stands
pub table_here : (f : ℕ → ℕ → ℕ) (s t : ℕ) (xs ys : List ℕ) → s ≡ t → ys ≡ xs → HasEntries s (f (2 ^ s)) xs → HasEntries t (f (2 ^ t)) ys
table_here f s t xs ys e l h = subst (λ (ys : List ℕ). HasEntries t (f (2 ^ t)) ys) (sym l) (subst (λ (s : ℕ). HasEntries s (f (2 ^ s)) xs) e h)

-- ---- two blocks at once
sub-one : (v : ℕ) → suc v - 1 ≡ v
sub-one v = omega arith

last : (u z y : ℕ) → 0 < u → z ≤ u * (u - 1) → y ≤ u - 1 → z + y < u * u
last (suc v) z y p m s =
    let e : suc v * (suc v - 1) ≡ suc v * v = ap (λ k. suc v * k) (sub-one v) in
    omega arith
last zero z y p m s = absurd (omega arith)

-- they stay in the table
pub two_blocks : (f u x y : ℕ) → 0 < u → f ≤ u → x ≤ u - 1 → y ≤ u - 1 → f * x + y < u * u
two_blocks f u x y p q r s =
    let m : f * x ≤ u * (u - 1) = mul-le f x u (u - 1) q r in
    last u (f * x) y p m s

pub two_noises : (f u m n : ℕ) → f ≤ u → m ≡ 1 → n ≡ 1 → f * m + n ≤ u + 1
two_noises f u m n p q r = let e : f * m ≡ f * 1 = ap (λ m. f * m) q in omega arith

pub one_block : (u x : ℕ) → 0 < u → x ≤ u - 1 → x < u * u
one_block u x p q = let e : 0 * 0 + x ≡ x = omega arith in let k : 0 * 0 + x < u * u = two_blocks 0 u 0 x p (omega arith) (omega arith) q in omega arith

pub pair_range : (now : Net) (f x y : ℕ) → f ≤ 2 ^ now.space → IsCell now (2 ^ now.space - 1) x → IsCell now (2 ^ now.space - 1) y
    → f * degree now x + degree now y < entries now.space
pair_range now f x y q a b = two_blocks f (2 ^ now.space) (degree now x) (degree now y) (pow_pos now.space) q a.degree_in b.degree_in

pub pair_noises : (now : Net) (f x y : ℕ) → f ≤ 2 ^ now.space → IsCell now (2 ^ now.space - 1) x → IsCell now (2 ^ now.space - 1) y
    → f * noise now x + noise now y ≤ 2 ^ now.space + 1
pair_noises now f x y q a b = two_noises f (2 ^ now.space) (noise now x) (noise now y) q a.noise_is b.noise_is

-- ---- one block more, by a table
pub table_push : (old now new : Net) (cs table : List ℕ) (i c most : ℕ) (O Q : (ℕ → Type 0) → Type 0) (at : (ℕ → ℕ) → ℕ) (f : List ℕ → ℕ → ℕ)
    → IsTable old.space table → most < entries old.space
    → Planned old now cs (λ _. greatest_of table) i i 1 O f
    → Makes now new c Q most at table
    → ((d : ℕ) → O (λ o. depth old o ≤ d) → Q (λ o. depth now o ≤ d))
    → ((xs : List ℕ) → AreInputs old xs → get_or table (at (value now xs)) 0 ≡ f xs i)
    → Planned old new (cs ++ c ∷ []) (λ _. greatest_of table) (i + 1) (i + 1) 1 O f
table_push old now new cs table i c most O Q at f t l h m d v =
    planned_push old now new cs (λ _. greatest_of table) i i 1 1 O f c h
    (makes_gives now new c (greatest_of table) Q most at table m
    (m.degree_in (greatest_of table) (λ j q. greatest_at table j (omega (arith, t.count)))))
    (λ n o. m.depth_in n (d n o))
    (λ xs w. m.value_is xs (within_now old now h.extends xs w) ∙ v xs w)

abbrev pub each_values : Net → List ℕ → List ℕ → List ℕ → ℕ → ℕ
each_values p table a xs i = get_or table (cell_value p a xs i) 0

pub each_push : (old now new : Net) (cs a table : List ℕ) (i c : ℕ) → AreBlocks old a → IsTable old.space table → i < length a
    → Planned old now cs (λ _. greatest_of table) i i 1 (Each a) (each_values old table a)
    → Makes now new c (λ P. P (get_or a i 0)) (degree now (get_or a i 0)) (λ v. v (get_or a i 0)) table
    → Planned old new (cs ++ c ∷ []) (λ _. greatest_of table) (i + 1) (i + 1) 1 (Each a) (each_values old table a)
each_push old now new cs a table i c ca t q h m =
    let u : ℕ = 2 ^ old.space in
    let x : ℕ = get_or a i 0 in
    let e : Extends old now = h.extends in
    let kx : IsCell old (u - 1) x = ca i q in
    let nx : IsCell now (u - 1) x = cell_kept old now (u - 1) x e kx in
    table_push old now new cs table i c (degree now x) (Each a) (λ P. P x) (λ v. v x) (each_values old table a) t (one_block u (degree now x) (pow_pos old.space) nx.degree_in) h m
    (λ d o. let dx : depth now x ≡ depth old x = e.depths x kx.there in let ox : depth old x ≤ d = o i q in omega arith)
    (λ xs w. ap (λ v. get_or table v 0) (e.values xs w x kx.there))

abbrev pub pair_values : Net → ℕ → List ℕ → List ℕ → List ℕ → List ℕ → ℕ → ℕ
pair_values p f table a b xs i = get_or table (f * cell_value p a xs i + cell_value p b xs i) 0

pub blockwise_push : (old now new : Net) (cs : List ℕ) (f : ℕ) (a b table : List ℕ) (i c : ℕ) → f ≤ 2 ^ old.space
    → AreBlocks old a → AreBlocks old b → IsTable old.space table → i < length a → i < length b
    → Planned old now cs (λ _. greatest_of table) i i 1 (EachOf a b) (pair_values old f table a b)
    → Makes now new c (λ P. P (get_or a i 0) × P (get_or b i 0)) (f * degree now (get_or a i 0) + degree now (get_or b i 0)) (λ v. f * v (get_or a i 0) + v (get_or b i 0)) table
    → Planned old new (cs ++ c ∷ []) (λ _. greatest_of table) (i + 1) (i + 1) 1 (EachOf a b) (pair_values old f table a b)
blockwise_push old now new cs f a b table i c q ca cb t pa pb h m =
    let u : ℕ = 2 ^ old.space in
    let x : ℕ = get_or a i 0 in
    let y : ℕ = get_or b i 0 in
    let e : Extends old now = h.extends in
    let kx : IsCell old (u - 1) x = ca i pa in
    let ky : IsCell old (u - 1) y = cb i pb in
    let nx : IsCell now (u - 1) x = cell_kept old now (u - 1) x e kx in
    let ny : IsCell now (u - 1) y = cell_kept old now (u - 1) y e ky in
    table_push old now new cs table i c (f * degree now x + degree now y) (EachOf a b) (λ P. P x × P y) (λ v. f * v x + v y) (pair_values old f table a b) t
    (two_blocks f u (degree now x) (degree now y) (pow_pos old.space) q nx.degree_in ny.degree_in) h m
    (λ d o.
    let dx : depth now x ≡ depth old x = e.depths x kx.there in
    let dy : depth now y ≡ depth old y = e.depths y ky.there in
    let ox : depth old x ≤ d = o.0 i pa in
    let oy : depth old y ≤ d = o.1 i pb in
    (omega arith, omega arith))
    (λ xs w. ap (λ v. get_or table (f * v + value now xs y) 0) (e.values xs w x kx.there) ∙ ap (λ v. get_or table (f * value old xs x + v) 0) (e.values xs w y ky.there))

abbrev pub against_values : Net → ℕ → List ℕ → ℕ → List ℕ → List ℕ → ℕ → ℕ
against_values p f table x a xs i = get_or table (f * value p xs x + cell_value p a xs i) 0

pub against_push : (old now new : Net) (cs : List ℕ) (f x : ℕ) (a table : List ℕ) (i c : ℕ) → f ≤ 2 ^ old.space
    → IsCell old (2 ^ old.space - 1) x → AreBlocks old a → IsTable old.space table → i < length a
    → Planned old now cs (λ _. greatest_of table) i i 1 (λ P. P x × Each a P) (against_values old f table x a)
    → Makes now new c (λ P. P x × P (get_or a i 0)) (f * degree now x + degree now (get_or a i 0)) (λ v. f * v x + v (get_or a i 0)) table
    → Planned old new (cs ++ c ∷ []) (λ _. greatest_of table) (i + 1) (i + 1) 1 (λ P. P x × Each a P) (against_values old f table x a)
against_push old now new cs f x a table i c q kx ca t pa h m =
    let u : ℕ = 2 ^ old.space in
    let y : ℕ = get_or a i 0 in
    let e : Extends old now = h.extends in
    let ky : IsCell old (u - 1) y = ca i pa in
    let nx : IsCell now (u - 1) x = cell_kept old now (u - 1) x e kx in
    let ny : IsCell now (u - 1) y = cell_kept old now (u - 1) y e ky in
    table_push old now new cs table i c (f * degree now x + degree now y) (λ P. P x × Each a P) (λ P. P x × P y) (λ v. f * v x + v y) (against_values old f table x a) t
    (two_blocks f u (degree now x) (degree now y) (pow_pos old.space) q nx.degree_in ny.degree_in) h m
    (λ d o.
    let dx : depth now x ≡ depth old x = e.depths x kx.there in
    let dy : depth now y ≡ depth old y = e.depths y ky.there in
    let ox : depth old x ≤ d = o.0 in
    let oy : depth old y ≤ d = o.1 i pa in
    (omega arith, omega arith))
    (λ xs w. ap (λ v. get_or table (f * v + value now xs y) 0) (e.values xs w x kx.there) ∙ ap (λ v. get_or table (f * value old xs x + v) 0) (e.values xs w y ky.there))
