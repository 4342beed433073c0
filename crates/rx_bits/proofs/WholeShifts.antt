-- The blocks of a number that is moved or cast: those that were made of its blocks, and those that came in.
use Rattle.std.proofs.Common.{◌≡◌, ◌^◌, ℕ, Bool, false, ◌+◌, ◌-◌, ◌*◌, ◌<◌, ◌≤◌, inl, inr, List, ◌++◌, length, get_or, take, drop, min, sym, ◌∙◌, ap, arith, subst}
use Rattle.std.proofs.lemmas.Bool.{cases_lt}
use Rattle.std.proofs.lemmas.List.{get_or-drop, get_or-take, length-drop, length-take-le}
use Rattle.rx_params.specs.Kinds.{digit_at}
use Rattle.rx_net.specs.declared.net.Net.{Net}
use Rattle.rx_net.specs.Cells.{value, depth}
use Rattle.rx_net.specs.Legal.{IsBounded}
use Rattle.rx_net.specs.Growth.{Extends}
use Rattle.rx_plan.specs.Values.{AreInputs, cell_value, number_held}
use Rattle.rx_plan.specs.Planned.{Each, IsCell, AreBlocks, Planned}
use Rattle.rx_plan.proofs.Kept.{depths_kept}
use Rattle.rx_plan.proofs.Planned.{planned_weaken, planned_beside, planned_start}
use Rattle.rx_plan.proofs.Held.{cell_same, held_digit, held_small}
use Rattle.rx_bits.specs.Signs.{shifted_down, cast_to, fill_digit, filled_digit, between}
use Rattle.rx_bits.specs.Shifts.{raised_digit, lowered_digit}
use Rattle.rx_bits.proofs.MovedBlocks.{each_drop, each_take}
use Rattle.rx_bits.proofs.SignLaws.{filled_low, filled_high, between_fill, lowered_law, cast_law, raised_low, raised_high, raised_same}

take_blocks : (p : Net) (n : ℕ) (cs : List ℕ) → n ≤ length cs → AreBlocks p cs → AreBlocks p (take n cs)
take_blocks p n cs l k = each_take n cs (IsCell p (2 ^ p.space - 1)) l k

-- what the cells of a number hold after more jobs are its digits
digit_now : (old now : Net) (cs xs : List ℕ) (i : ℕ) → IsBounded old → Extends old now → AreBlocks old cs → AreInputs old xs → i < length cs
    → cell_value now cs xs i ≡ digit_at old.space (number_held old cs xs) i
digit_now old now cs xs i bounded e k w q = cell_same old now cs xs i e k w q ∙ sym (held_digit old cs xs i bounded k w q)

pub moved_up_planned : (old now new : Net) (a zeros moved : List ℕ) (amount count q r : ℕ) → IsBounded old → AreBlocks old a → 1 ≤ length a
    → amount ≡ old.space * q + r → r ≤ old.space → count ≡ min (length a) q
    → Planned old now zeros (λ _. 2 ^ old.space - 1) count count 1 (λ P. P (get_or a 0 0)) (λ xs _. fill_digit false old.space (value old xs (get_or a 0 0)))
    → Planned now new moved (λ _. 2 ^ now.space - 1) (length (take (length a - count) a)) (length (take (length a - count) a)) 1 (Each (take (length a - count) a))
    (λ xs i. raised_digit now.space r (cell_value now (take (length a - count) a) xs) i)
    → Planned old new (zeros ++ moved) (λ _. 2 ^ old.space - 1) (length a) (length a) 1 (Each a) (λ xs i. digit_at old.space (number_held old a xs * 2 ^ amount) i)
moved_up_planned old now new a zeros moved amount count q r bounded k some am rs ct p h =
    let s : ℕ = old.space in
    let u : ℕ = 2 ^ s in
    let n : ℕ = length a in
    let part : List ℕ = take (n - count) a in
    let c1 : count ≤ n = omega arith in
    let lp : length part ≡ n - count = length-take-le (n - count) a (omega arith) in
    let e : Extends old now = p.extends in
    let says : List ℕ → ℕ → ℕ = λ xs i. digit_at s (number_held old a xs * 2 ^ amount) i in
    let all : count + length part ≡ n = omega arith in
    subst (λ (n : ℕ). Planned old new (zeros ++ moved) (λ _. u - 1) n n 1 (Each a) says) all
    (planned_beside old now new zeros moved (λ _. u - 1) (λ _. 2 ^ now.space - 1) (λ _. u - 1) count (length part) count (length part) 1 (Each a) (Each part)
    (λ xs _. fill_digit false s (value old xs (get_or a 0 0))) (λ xs i. raised_digit now.space r (cell_value now part xs) i) says
    (planned_weaken old now zeros (λ _. u - 1) count count count 1 1 (λ P. P (get_or a 0 0)) (Each a) (λ xs _. fill_digit false s (value old xs (get_or a 0 0))) (omega arith) (omega arith) (λ d o. o 0 some) p)
    h
    (λ d o. each_take (n - count) a (λ o. depth now o ≤ d) (omega arith) (depths_kept old now a d (u - 1) e k o))
    (λ i l. omega arith)
    (λ i l. let z : 2 ^ now.space ≡ u = ap (λ s. 2 ^ s) e.space in omega arith)
    (λ xs w i l. let z : number_held old a xs * 2 ^ amount ≡ number_held old a xs * 2 ^ (s * q + r) = ap (λ x. number_held old a xs * 2 ^ x) am in
    sym (ap (λ x. digit_at s x i) z ∙ raised_low s q r (number_held old a xs) i (omega arith)))
    (λ xs w i l.
    let f : ℕ → ℕ = digit_at s (number_held old a xs) in
    let cq : count ≡ q = omega arith in
    let z : number_held old a xs * 2 ^ amount ≡ number_held old a xs * 2 ^ (s * q + r) = ap (λ x. number_held old a xs * 2 ^ x) am in
    ap (λ s. raised_digit s r (cell_value now part xs) i) e.space
    ∙ raised_same s r (cell_value now part xs) f i (λ j t.
    let jl : j < n - count = omega arith in
    ap (value now xs) (get_or-take (n - count) a j 0 jl) ∙ digit_now old now a xs j bounded e k w (omega arith))
    ∙ sym (raised_high s q r (number_held old a xs) i rs)
    ∙ ap (λ x. digit_at s x (q + i)) (sym z)
    ∙ ap (λ x. digit_at s (number_held old a xs * 2 ^ amount) (x + i)) (sym cq)))

-- the digits above a part are those above the whole
part_filled : (signed : Bool) (m n q : ℕ) (f g : ℕ → ℕ) (j : ℕ) → q < n → ((i : ℕ) → i < n - q → g i ≡ f (q + i)) → filled_digit signed m (n - q) g j ≡ filled_digit signed m n f (j + q)
part_filled signed m n q f g j h e =
    elim (cases_lt j (n - q)) [
      | inl l ↦
          let o : q + j ≡ j + q = omega arith in
          filled_low signed m (n - q) g j l ∙ e j l ∙ ap f o ∙ sym (filled_low signed m n f (j + q) (omega arith))
      | inr l ↦
          let o : q + (n - q - 1) ≡ n - 1 = omega arith in
          filled_high signed m (n - q) g j l ∙ ap (fill_digit signed m) (e (n - q - 1) (omega arith) ∙ ap f o) ∙ sym (filled_high signed m n f (j + q) (omega arith))
    ]

pub moved_down_planned : (old now new : Net) (a low above : List ℕ) (amount count q r : ℕ) (signed : Bool) → 1 ≤ old.space → IsBounded old → AreBlocks old a → 1 ≤ length a
    → amount ≡ old.space * q + r → r ≤ old.space → count ≡ min (length a) q
    → Planned old now low (λ _. 2 ^ old.space - 1) (length (drop count a)) (length (drop count a)) 1 (Each (drop count a))
    (λ xs i. lowered_digit signed old.space (length (drop count a)) r (cell_value old (drop count a) xs) i)
    → Planned now new above (λ _. 2 ^ now.space - 1) count count 1 (λ P. P (get_or a (length a - 1) 0)) (λ xs _. fill_digit signed now.space (value now xs (get_or a (length a - 1) 0)))
    → Planned old new (low ++ above) (λ _. 2 ^ old.space - 1) (length a) (length a) 1 (Each a) (λ xs i. digit_at old.space (shifted_down signed (old.space * length a) amount (number_held old a xs)) i)
moved_down_planned old now new a low above amount count q r signed s1 bounded k some am rs ct p h =
    let s : ℕ = old.space in
    let u : ℕ = 2 ^ s in
    let n : ℕ = length a in
    let part : List ℕ = drop count a in
    let top : ℕ = get_or a (n - 1) 0 in
    let c1 : count ≤ n = omega arith in
    let lp : length part ≡ n - count = length-drop count a in
    let e : Extends old now = p.extends in
    let says : List ℕ → ℕ → ℕ = λ xs i. digit_at s (shifted_down signed (s * n) amount (number_held old a xs)) i in
    let law : (xs : List ℕ) → AreInputs old xs → (i : ℕ) → i < n → says xs i
    ≡ between s r (filled_digit signed s n (digit_at s (number_held old a xs)) (i + q + 1)) (filled_digit signed s n (digit_at s (number_held old a xs)) (i + q)) = λ xs w i l.
    ap (λ x. digit_at s (shifted_down signed (s * n) x (number_held old a xs)) i) am
    ∙ lowered_law signed s n q r (number_held old a xs) i s1 some rs (held_small old a bounded k xs w) l in
    let all : length part + count ≡ n = omega arith in
    subst (λ (n : ℕ). Planned old new (low ++ above) (λ _. u - 1) n n 1 (Each a) says) all
    (planned_beside old now new low above (λ _. u - 1) (λ _. 2 ^ now.space - 1) (λ _. u - 1) (length part) count (length part) count 1 (Each a) (λ P. P top)
    (λ xs i. lowered_digit signed s (length part) r (cell_value old part xs) i) (λ xs _. fill_digit signed now.space (value now xs top)) says
    (planned_weaken old now low (λ _. u - 1) (length part) (length part) (length part) 1 1 (Each part) (Each a) (λ xs i. lowered_digit signed s (length part) r (cell_value old part xs) i) (omega arith) (omega arith)
    (λ d o. each_drop count a (λ o. depth old o ≤ d) o) p)
    h
    (λ d o. depths_kept old now a d (u - 1) e k o (n - 1) (omega arith))
    (λ i l. omega arith)
    (λ i l. let z : 2 ^ now.space ≡ u = ap (λ s. 2 ^ s) e.space in omega arith)
    (λ xs w i l.
    let f : ℕ → ℕ = digit_at s (number_held old a xs) in
    let g : ℕ → ℕ = cell_value old part xs in
    let cq : count ≡ q = omega arith in
    let same : (j : ℕ) → filled_digit signed s (length part) g j ≡ filled_digit signed s n f (j + q) = λ j.
    ap (λ m. filled_digit signed s m g j) (lp ∙ ap (λ c. n - c) cq)
    ∙ part_filled signed s n q f g j (omega arith) (λ i t.
    ap (value old xs) (get_or-drop count a i 0 ∙ ap (λ c. get_or a (c + i) 0) cq) ∙ sym (held_digit old a xs (q + i) bounded k w (omega arith))) in
    let o : i + 1 + q ≡ i + q + 1 = omega arith in
    ap (λ x. between s r x (filled_digit signed s (length part) g i)) (same (i + 1) ∙ ap (filled_digit signed s n f) o)
    ∙ ap (λ x. between s r (filled_digit signed s n f (i + q + 1)) x) (same i)
    ∙ sym (law xs w i (omega arith)))
    (λ xs w i l.
    let f : ℕ → ℕ = digit_at s (number_held old a xs) in
    let j : ℕ = length part + i in
    let fill : ℕ = fill_digit signed s (f (n - 1)) in
    ap (λ s. fill_digit signed s (value now xs top)) e.space
    ∙ ap (fill_digit signed s) (digit_now old now a xs (n - 1) bounded e k w (omega arith))
    ∙ sym (between_fill signed s r (f (n - 1)) rs)
    ∙ ap (λ x. between s r x fill) (sym (filled_high signed s n f (j + q + 1) (omega arith)))
    ∙ ap (λ x. between s r (filled_digit signed s n f (j + q + 1)) x) (sym (filled_high signed s n f (j + q) (omega arith)))
    ∙ sym (law xs w j (omega arith))))

pub cast_planned : (old new : Net) (a above : List ℕ) (count wanted : ℕ) (signed : Bool) → 1 ≤ old.space → IsBounded old → AreBlocks old a → 1 ≤ length a → count ≡ min (length a) wanted
    → Planned old new above (λ _. 2 ^ old.space - 1) (wanted - count) (wanted - count) 1 (λ P. P (get_or a (length a - 1) 0)) (λ xs _. fill_digit signed old.space (value old xs (get_or a (length a - 1) 0)))
    → Planned old new (take count a ++ above) (λ _. 2 ^ old.space - 1) wanted (wanted - length a) 1 (Each a)
    (λ xs i. digit_at old.space (cast_to signed (old.space * length a) (old.space * wanted) (number_held old a xs)) i)
cast_planned old new a above count wanted signed s1 bounded k some ct h =
    let s : ℕ = old.space in
    let u : ℕ = 2 ^ s in
    let n : ℕ = length a in
    let part : List ℕ = take count a in
    let top : ℕ = get_or a (n - 1) 0 in
    let c1 : count ≤ n = omega arith in
    let lp : length part ≡ count = length-take-le count a c1 in
    let says : List ℕ → ℕ → ℕ = λ xs i. digit_at s (cast_to signed (s * n) (s * wanted) (number_held old a xs)) i in
    let law : (xs : List ℕ) → AreInputs old xs → (i : ℕ) → i < wanted → says xs i ≡ filled_digit signed s n (digit_at s (number_held old a xs)) i = λ xs w i l.
    cast_law signed s n wanted (number_held old a xs) i s1 some (held_small old a bounded k xs w) l in
    let all : count + (wanted - count) ≡ wanted = omega arith in
    subst (λ (n : ℕ). Planned old new (part ++ above) (λ _. u - 1) n (wanted - length a) 1 (Each a) says) all
    (planned_weaken old new (part ++ above) (λ _. u - 1) (count + (wanted - count)) (0 + (wanted - count)) (wanted - n) 1 1 (Each a) (Each a) says (omega arith) (omega arith) (λ d o. o)
    (planned_beside old old new part above (λ _. u - 1) (λ _. u - 1) (λ _. u - 1) count (wanted - count) 0 (wanted - count) 1 (Each a) (λ P. P top)
    (λ xs i. value old xs (get_or part i 0)) (λ xs _. fill_digit signed s (value old xs top)) says
    (planned_weaken old old part (λ _. u - 1) count 0 0 0 1 (Each part) (Each a) (λ xs i. value old xs (get_or part i 0)) (omega arith) (omega arith) (λ d o. each_take count a (λ o. depth old o ≤ d) c1 o)
    (planned_start old part (λ _. u - 1) count lp bounded (take_blocks old count a c1 k)))
    h
    (λ d o. o (n - 1) (omega arith))
    (λ i l. omega arith) (λ i l. omega arith)
    (λ xs w i l.
    ap (value old xs) (get_or-take count a i 0 l) ∙ sym (held_digit old a xs i bounded k w (omega arith))
    ∙ sym (filled_low signed s n (digit_at s (number_held old a xs)) i (omega arith)) ∙ sym (law xs w i (omega arith)))
    (λ xs w i l.
    ap (fill_digit signed s) (sym (held_digit old a xs (n - 1) bounded k w (omega arith)))
    ∙ sym (filled_high signed s n (digit_at s (number_held old a xs)) (count + i) (omega arith)) ∙ sym (law xs w (count + i) (omega arith)))))
