-- How planners compose.
use Rattle.std.proofs.Common.{◌≡◌, ◌^◌, ℕ, ◌+◌, ◌-◌, ◌<◌, ◌≤◌, inl, inr, List, [], ◌∷◌, ◌++◌, length, get_or, refl, sym, ◌∙◌, ap, arith, subst, length-append}
use Rattle.std.proofs.lemmas.Bool.{cases_lt}
use Rattle.rx_net.specs.declared.net.Net.{Net}
use Rattle.rx_net.specs.Cells.{cell_count, value, degree, depth}
use Rattle.rx_net.specs.Legal.{IsBounded}
use Rattle.rx_net.specs.Growth.{Extends}
use Rattle.rx_net.proofs.Grows.{extends_same, extends_onward}
use Rattle.rx_plan.specs.Values.{AreInputs}
use Rattle.rx_plan.specs.Planned.{Each, IsCell, AreCells, AreCellsBy, Makes, Gives, Planned, Lays}
use Rattle.rx_plan.proofs.Lists.{by_push, by_join, by_append}
use Rattle.rx_plan.proofs.Kept.{within_now, cells_kept, cells_by_kept, cell_within}

-- a new cell, said otherwise
pub makes_same : (old new : Net) (c : ℕ) (O P : (ℕ → Type 0) → Type 0) (m n : ℕ) (f g : (ℕ → ℕ) → ℕ) (table : List ℕ)
    → Makes old new c O m f table → ((Q : ℕ → Type 0) → P Q → O Q) → m ≤ n
    → ((xs : List ℕ) → AreInputs old xs → f (value old xs) ≡ g (value old xs))
    → Makes old new c P n g table
makes_same old new c O P m n f g table h p l v = record {
  extends = h.extends;
  bounded = h.bounded;
  cell = h.cell;
  count = h.count;
  noise_is = h.noise_is;
  degree_in = λ top b. h.degree_in top (λ i q. b i (omega arith));
  depth_in = λ d q. h.depth_in d (p (λ o. depth old o ≤ d) q);
  value_is = λ xs w. h.value_is xs w ∙ ap (λ i. get_or table i 0) (v xs w);
}

pub makes_gives : (now new : Net) (c top : ℕ) (Q : (ℕ → Type 0) → Type 0) (most : ℕ) (at : (ℕ → ℕ) → ℕ) (table : List ℕ) → Makes now new c Q most at table → degree new c ≤ top → Gives now new c top 1
makes_gives now new c top Q most at table m t =
    let k : c ≡ cell_count now = m.cell in
    let n : cell_count new ≡ cell_count now + 1 = m.count in
    record {
      extends = m.extends;
      bounded = m.bounded;
      cell = record { there = omega arith; degree_in = t; noise_is = m.noise_is };
      jobs_in = omega arith;
      deep = λ b p q. let e : depth new b ≡ depth new c = ap (depth new) (omega arith) in omega arith;
    }

pub keeps_gives : (now : Net) (c top : ℕ) → IsBounded now → IsCell now top c → Gives now now c top 0
keeps_gives now c top b h = record {
  extends = extends_same now;
  bounded = b;
  cell = h;
  jobs_in = omega arith;
  deep = λ b p q. absurd (omega arith);
}

pub planned_none : (p : Net) (tops : ℕ → ℕ) (levels : ℕ) (O : (ℕ → Type 0) → Type 0) (f : List ℕ → ℕ → ℕ) → IsBounded p → Planned p p [] tops 0 0 levels O f
planned_none p tops levels O f b = record {
  extends = extends_same p;
  bounded = b;
  count_is = refl;
  jobs_in = omega arith;
  cells_are = λ i q. absurd (omega arith);
  deep = λ d o c q r. absurd (omega arith);
  deep_cells = λ d o i q. absurd (omega arith);
  values_are = λ xs w i q. absurd (omega arith);
}

-- a list of cells, as a planner that made nothing gives it
pub planned_start : (p : Net) (cs : List ℕ) (tops : ℕ → ℕ) (n : ℕ) → length cs ≡ n → IsBounded p → AreCellsBy p tops cs → Planned p p cs tops n 0 0 (Each cs) (λ xs i. value p xs (get_or cs i 0))
planned_start p cs tops n l b h = record {
  extends = extends_same p;
  bounded = b;
  count_is = l;
  jobs_in = omega arith;
  cells_are = h;
  deep = λ d o c x y. absurd (omega arith);
  deep_cells = λ d o i q. let k : depth p (get_or cs i 0) ≤ d = o i q in omega arith;
  values_are = λ xs w i q. refl;
}

-- one more cell, the next of the list
pub planned_push : (old now new : Net) (cs : List ℕ) (tops : ℕ → ℕ) (count jobs levels more : ℕ) (O : (ℕ → Type 0) → Type 0) (f : List ℕ → ℕ → ℕ) (c : ℕ)
    → Planned old now cs tops count jobs levels O f
    → Gives now new c (tops count) more
    → ((d : ℕ) → O (λ o. depth old o ≤ d) → depth new c ≤ d + levels)
    → ((xs : List ℕ) → AreInputs old xs → value new xs c ≡ f xs count)
    → Planned old new (cs ++ c ∷ []) tops (count + 1) (jobs + more) levels O f
planned_push old now new cs tops count jobs levels more O f c h m deep_in value_in =
    let e : Extends now new = m.extends in
    let n = length-append cs (c ∷ []) in
    record {
      extends = extends_onward old now new h.extends e;
      bounded = m.bounded;
      count_is = omega (arith, h.count_is);
      jobs_in = omega (arith, h.jobs_in, m.jobs_in);
      cells_are = by_push cs c (λ i c. IsCell new (tops i) c) (cells_by_kept now new tops cs e h.cells_are) (subst (λ (i : ℕ). IsCell new (tops i) c) (sym h.count_is) m.cell);
      deep = λ d o b p q.
          elim (cases_lt b (cell_count now)) [
            | inl l ↦
                let x : depth new b ≡ depth now b = e.depths b l in
                let y : depth now b ≤ d + levels = h.deep d o b p l in
                omega arith
            | inr l ↦
                let x : depth new b ≤ depth new c = m.deep b l q in
                let y : depth new c ≤ d + levels = deep_in d o in
                omega arith
          ];
      deep_cells = λ d o.
          by_push cs c (λ i c. depth new c ≤ d + levels) (λ i q.
          let x : depth new (get_or cs i 0) ≡ depth now (get_or cs i 0) = e.depths (get_or cs i 0) (h.cells_are i q).there in
          let y : depth now (get_or cs i 0) ≤ d + levels = h.deep_cells d o i q in
          omega arith) (deep_in d o);
      values_are = λ xs w i q.
          let k : length (cs ++ c ∷ []) ≡ count + 1 = omega (arith, h.count_is) in
          by_push cs c (λ i c. value new xs c ≡ f xs i) (λ i l.
          e.values xs (within_now old now h.extends xs w) (get_or cs i 0) (h.cells_are i l).there ∙ h.values_are xs w i (omega (arith, h.count_is)))
          (value_in xs w ∙ ap (f xs) (sym h.count_is)) i (omega arith);
    }

-- the same with other degrees and another name of the values
pub planned_same : (old new : Net) (cs : List ℕ) (tops : ℕ → ℕ) (more : ℕ → ℕ) (count jobs levels : ℕ) (O : (ℕ → Type 0) → Type 0) (f g : List ℕ → ℕ → ℕ)
    → ((i : ℕ) → i < count → tops i ≤ more i)
    → ((xs : List ℕ) → AreInputs old xs → (i : ℕ) → i < count → f xs i ≡ g xs i)
    → Planned old new cs tops count jobs levels O f → Planned old new cs more count jobs levels O g
planned_same old new cs tops more count jobs levels O f g t v h = record {
  extends = h.extends;
  bounded = h.bounded;
  count_is = h.count_is;
  jobs_in = h.jobs_in;
  cells_are = λ i q.
      let k : IsCell new (tops i) (get_or cs i 0) = h.cells_are i q in
      let l : tops i ≤ more i = t i (omega (arith, h.count_is)) in
      record { there = k.there; degree_in = omega arith; noise_is = k.noise_is };
  deep = h.deep;
  deep_cells = h.deep_cells;
  values_are = λ xs w i q. h.values_are xs w i q ∙ v xs w i q;
}

-- one planner, and then another on its result
pub planned_then : (old now new : Net) (cs ds : List ℕ) (tops more : ℕ → ℕ) (n m j k l r : ℕ) (O : (ℕ → Type 0) → Type 0) (f g h : List ℕ → ℕ → ℕ)
    → Planned old now cs tops n j l O f
    → Planned now new ds more m k r (Each cs) g
    → ((xs : List ℕ) → AreInputs old xs → (i : ℕ) → i < m → g xs i ≡ h xs i)
    → Planned old new ds more m (j + k) (l + r) O h
planned_then old now new cs ds tops more n m j k l r O f g h p q v = record {
  extends = extends_onward old now new p.extends q.extends;
  bounded = q.bounded;
  count_is = q.count_is;
  jobs_in = omega (arith, p.jobs_in, q.jobs_in);
  cells_are = q.cells_are;
  deep = λ d o b x y.
      elim (cases_lt b (cell_count now)) [
        | inl z ↦
            let e : depth new b ≡ depth now b = q.extends.depths b z in
            let w : depth now b ≤ d + l = p.deep d o b x z in
            omega arith
        | inr z ↦
            let w : depth new b ≤ d + l + r = q.deep (d + l) (p.deep_cells d o) b z y in
            omega arith
      ];
  deep_cells = λ d o i x.
      let w : depth new (get_or ds i 0) ≤ d + l + r = q.deep_cells (d + l) (p.deep_cells d o) i x in
      omega arith;
  values_are = λ xs w i x. q.values_are xs (within_now old now p.extends xs w) i x ∙ v xs w i x;
}

-- one planner, and then another on its result and more
pub planned_chain : (old now new : Net) (cs ds : List ℕ) (tops more : ℕ → ℕ) (n m j k l r : ℕ) (O Q : (ℕ → Type 0) → Type 0) (f g h : List ℕ → ℕ → ℕ)
    → Planned old now cs tops n j l O f
    → Planned now new ds more m k r Q g
    → ((d : ℕ) → O (λ o. depth old o ≤ d) → Q (λ o. depth now o ≤ d + l))
    → ((xs : List ℕ) → AreInputs old xs → (i : ℕ) → i < m → g xs i ≡ h xs i)
    → Planned old new ds more m (j + k) (l + r) O h
planned_chain old now new cs ds tops more n m j k l r O Q f g h p q t v = record {
  extends = extends_onward old now new p.extends q.extends;
  bounded = q.bounded;
  count_is = q.count_is;
  jobs_in = omega (arith, p.jobs_in, q.jobs_in);
  cells_are = q.cells_are;
  deep = λ d o b x y.
      elim (cases_lt b (cell_count now)) [
        | inl z ↦
            let e : depth new b ≡ depth now b = q.extends.depths b z in
            let w : depth now b ≤ d + l = p.deep d o b x z in
            omega arith
        | inr z ↦
            let w : depth new b ≤ d + l + r = q.deep (d + l) (t d o) b z y in
            omega arith
      ];
  deep_cells = λ d o i x.
      let w : depth new (get_or ds i 0) ≤ d + l + r = q.deep_cells (d + l) (t d o) i x in
      omega arith;
  values_are = λ xs w i x. q.values_are xs (within_now old now p.extends xs w) i x ∙ v xs w i x;
}

-- cells made after others of the same levels
pub planned_under : (old now new : Net) (cs ds : List ℕ) (tops more : ℕ → ℕ) (n m j k l : ℕ) (O Q : (ℕ → Type 0) → Type 0) (f g h : List ℕ → ℕ → ℕ)
    → Planned old now cs tops n j l O f
    → Planned now new ds more m k l Q g
    → ((d : ℕ) → O (λ o. depth old o ≤ d) → Q (λ o. depth now o ≤ d))
    → ((xs : List ℕ) → AreInputs old xs → (i : ℕ) → i < m → g xs i ≡ h xs i)
    → Planned old new ds more m (j + k) l O h
planned_under old now new cs ds tops more n m j k l O Q f g h p q t v = record {
  extends = extends_onward old now new p.extends q.extends;
  bounded = q.bounded;
  count_is = q.count_is;
  jobs_in = omega (arith, p.jobs_in, q.jobs_in);
  cells_are = q.cells_are;
  deep = λ d o b x y.
      elim (cases_lt b (cell_count now)) [
        | inl z ↦
            let e : depth new b ≡ depth now b = q.extends.depths b z in
            let w : depth now b ≤ d + l = p.deep d o b x z in
            omega arith
        | inr z ↦ q.deep d (t d o) b z y
      ];
  deep_cells = λ d o i x. q.deep_cells d (t d o) i x;
  values_are = λ xs w i x. q.values_are xs (within_now old now p.extends xs w) i x ∙ v xs w i x;
}

-- the same in fewer words
pub planned_lays : (old new : Net) (cs : List ℕ) (tops : ℕ → ℕ) (count jobs levels more : ℕ) (O : (ℕ → Type 0) → Type 0) (f : List ℕ → ℕ → ℕ)
    → ((i : ℕ) → i < count → tops i ≤ 2 ^ old.space - 1) → jobs ≤ more
    → Planned old new cs tops count jobs levels O f → Lays old new cs count more levels O
planned_lays old new cs tops count jobs levels more O f t j h = record {
  extends = h.extends;
  bounded = h.bounded;
  count_is = h.count_is;
  jobs_in = omega (arith, h.jobs_in);
  cells_are = λ i q.
      let k : IsCell new (tops i) (get_or cs i 0) = h.cells_are i q in
      let l : tops i ≤ 2 ^ old.space - 1 = t i (omega (arith, h.count_is)) in
      record { there = k.there; degree_in = omega arith; noise_is = k.noise_is };
  deep = h.deep;
  deep_cells = h.deep_cells;
  values_are = λ xs w i q. refl;
}

-- the cells of both
pub lays_beside : (old now new : Net) (cs ds : List ℕ) (n m j k l : ℕ) (O Q : (ℕ → Type 0) → Type 0)
    → Lays old now cs n j l O
    → Lays now new ds m k l Q
    → ((d : ℕ) → O (λ o. depth old o ≤ d) → Q (λ o. depth now o ≤ d))
    → Lays old new (cs ++ ds) (n + m) (j + k) l O
lays_beside old now new cs ds n m j k l O Q p q t =
    let e : Extends now new = q.extends in
    let r = planned_under old now new cs ds _ _ n m j k l O Q _ _ (λ xs i. value new xs (get_or ds i 0)) p q t (λ xs w i x. refl) in
    record {
      extends = r.extends;
      bounded = q.bounded;
      count_is = omega (arith, length-append cs ds, p.count_is, q.count_is);
      jobs_in = r.jobs_in;
      cells_are =
          by_append cs ds (IsCell new (2 ^ old.space - 1)) (cells_kept now new (2 ^ old.space - 1) cs e p.cells_are)
          (subst (λ (s : ℕ). AreCells new (2 ^ s - 1) ds) p.extends.space q.cells_are);
      deep = r.deep;
      deep_cells = λ d o.
          by_append cs ds (λ c. depth new c ≤ d + l) (λ i x.
          let z : depth new (get_or cs i 0) ≡ depth now (get_or cs i 0) = e.depths (get_or cs i 0) (p.cells_are i x).there in
          let y : depth now (get_or cs i 0) ≤ d + l = p.deep_cells d o i x in
          omega arith) (r.deep_cells d o);
      values_are = λ xs w i q. refl;
    }

-- one after another
pub lays_then : (old now new : Net) (cs ds : List ℕ) (n m j k l r : ℕ) (O : (ℕ → Type 0) → Type 0)
    → Lays old now cs n j l O
    → Lays now new ds m k r (Each cs)
    → Lays old new ds m (j + k) (l + r) O
lays_then old now new cs ds n m j k l r O p q = record {
  extends = extends_onward old now new p.extends q.extends;
  bounded = q.bounded;
  count_is = q.count_is;
  jobs_in = omega (arith, p.jobs_in, q.jobs_in);
  cells_are = subst (λ (s : ℕ). AreCells new (2 ^ s - 1) ds) p.extends.space q.cells_are;
  deep = λ d o b x y.
      elim (cases_lt b (cell_count now)) [
        | inl z ↦
            let e : depth new b ≡ depth now b = q.extends.depths b z in
            let w : depth now b ≤ d + l = p.deep d o b x z in
            omega arith
        | inr z ↦
            let w : depth new b ≤ d + l + r = q.deep (d + l) (p.deep_cells d o) b z y in
            omega arith
      ];
  deep_cells = λ d o i x.
      let w : depth new (get_or ds i 0) ≤ d + l + r = q.deep_cells (d + l) (p.deep_cells d o) i x in
      omega arith;
  values_are = λ xs w i x. refl;
}

pub lays_weaken : (old new : Net) (cs : List ℕ) (n m j k l r : ℕ) (O : (ℕ → Type 0) → Type 0) → n ≡ m → j ≤ k → l ≤ r → Lays old new cs n j l O → Lays old new cs m k r O
lays_weaken old new cs n m j k l r O e a b h = record {
  extends = h.extends;
  bounded = h.bounded;
  count_is = h.count_is ∙ e;
  jobs_in = omega (arith, h.jobs_in);
  cells_are = h.cells_are;
  deep = λ d o c x y. let z : depth new c ≤ d + l = h.deep d o c x y in omega arith;
  deep_cells = λ d o i x. let z : depth new (get_or cs i 0) ≤ d + l = h.deep_cells d o i x in omega arith;
  values_are = λ xs w i q. refl;
}

pub lays_none : (p : Net) (n j l : ℕ) (O : (ℕ → Type 0) → Type 0) → n ≡ 0 → IsBounded p → Lays p p [] n j l O
lays_none p n j l O e b = record {
  extends = extends_same p;
  bounded = b;
  count_is = sym e;
  jobs_in = omega arith;
  cells_are = λ i q. absurd (omega arith);
  deep = λ d o c q r. absurd (omega arith);
  deep_cells = λ d o i q. absurd (omega arith);
  values_are = λ xs w i q. refl;
}

-- the same with more levels, and with operands said otherwise
pub planned_weaken : (old new : Net) (cs : List ℕ) (tops : ℕ → ℕ) (n j k l r : ℕ) (O Q : (ℕ → Type 0) → Type 0) (f : List ℕ → ℕ → ℕ) → j ≤ k → l ≤ r
    → ((d : ℕ) → Q (λ o. depth old o ≤ d) → O (λ o. depth old o ≤ d))
    → Planned old new cs tops n j l O f → Planned old new cs tops n k r Q f
planned_weaken old new cs tops n j k l r O Q f a b t h = record {
  extends = h.extends;
  bounded = h.bounded;
  count_is = h.count_is;
  jobs_in = omega (arith, h.jobs_in);
  cells_are = h.cells_are;
  deep = λ d o c x y. let z : depth new c ≤ d + l = h.deep d (t d o) c x y in omega arith;
  deep_cells = λ d o i x. let z : depth new (get_or cs i 0) ≤ d + l = h.deep_cells d (t d o) i x in omega arith;
  values_are = h.values_are;
}

-- the cells of one planner, and then those of another of the same levels
pub planned_beside : (old now new : Net) (cs ds : List ℕ) (tops more all : ℕ → ℕ) (n m j k l : ℕ) (O Q : (ℕ → Type 0) → Type 0) (f g h : List ℕ → ℕ → ℕ)
    → Planned old now cs tops n j l O f
    → Planned now new ds more m k l Q g
    → ((d : ℕ) → O (λ o. depth old o ≤ d) → Q (λ o. depth now o ≤ d))
    → ((i : ℕ) → i < n → tops i ≤ all i) → ((i : ℕ) → i < m → more i ≤ all (n + i))
    → ((xs : List ℕ) → AreInputs old xs → (i : ℕ) → i < n → f xs i ≡ h xs i) → ((xs : List ℕ) → AreInputs old xs → (i : ℕ) → i < m → g xs i ≡ h xs (n + i))
    → Planned old new (cs ++ ds) all (n + m) (j + k) l O h
planned_beside old now new cs ds tops more all n m j k l O Q f g h p q t a b v w =
    let e : Extends now new = q.extends in
    let r = planned_under old now new cs ds tops more n m j k l O Q f g (λ xs i. value new xs (get_or ds i 0)) p q t
    (λ xs x i y. sym (q.values_are xs (within_now old now p.extends xs x) i y)) in
    record {
      extends = r.extends;
      bounded = q.bounded;
      count_is = omega (arith, length-append cs ds, p.count_is, q.count_is);
      jobs_in = r.jobs_in;
      cells_are = by_join cs ds (λ i c. IsCell new (all i) c)
          (λ i x. cell_within new (tops i) (all i) (get_or cs i 0) (a i (omega (arith, p.count_is))) (cells_by_kept now new tops cs e p.cells_are i x))
          (λ i x. subst (λ (n : ℕ). IsCell new (all (n + i)) (get_or ds i 0)) (sym p.count_is) (cell_within new (more i) (all (n + i)) (get_or ds i 0) (b i (omega (arith, q.count_is))) (q.cells_are i x)));
      deep = r.deep;
      deep_cells = λ d o.
          by_append cs ds (λ c. depth new c ≤ d + l) (λ i x.
          let z : depth new (get_or cs i 0) ≡ depth now (get_or cs i 0) = e.depths (get_or cs i 0) (p.cells_are i x).there in
          let y : depth now (get_or cs i 0) ≤ d + l = p.deep_cells d o i x in
          omega arith) (r.deep_cells d o);
      values_are = λ xs x i y.
          by_join cs ds (λ i c. value new xs c ≡ h xs i)
          (λ i z. e.values xs (within_now old now p.extends xs x) (get_or cs i 0) (p.cells_are i z).there ∙ p.values_are xs x i (omega (arith, p.count_is)) ∙ v xs x i (omega (arith, p.count_is)))
          (λ i z. q.values_are xs (within_now old now p.extends xs x) i (omega (arith, q.count_is)) ∙ w xs x i (omega (arith, q.count_is)) ∙ ap (λ n. h xs (n + i)) (sym p.count_is))
          i (omega (arith, length-append cs ds, p.count_is, q.count_is));
    }

-- one cell that was given
pub planned_one : (old new : Net) (c top jobs levels : ℕ) (O : (ℕ → Type 0) → Type 0) (f : List ℕ → ℕ) → Gives old new c top jobs
    → ((d : ℕ) → O (λ o. depth old o ≤ d) → depth new c ≤ d + levels)
    → ((xs : List ℕ) → AreInputs old xs → value new xs c ≡ f xs)
    → Planned old new (c ∷ []) (λ _. top) 1 jobs levels O (λ xs _. f xs)
planned_one old new c top jobs levels O f g d v = record {
  extends = g.extends;
  bounded = g.bounded;
  count_is = refl;
  jobs_in = g.jobs_in;
  cells_are = λ i q. let z : 0 ≡ i = omega arith in subst (λ (i : ℕ). IsCell new top (get_or (c ∷ []) i 0)) z g.cell;
  deep = λ n o b x y. let k : depth new b ≤ depth new c = g.deep b x y in let l : depth new c ≤ n + levels = d n o in omega arith;
  deep_cells = λ n o i q. let z : 0 ≡ i = omega arith in subst (λ (i : ℕ). depth new (get_or (c ∷ []) i 0) ≤ n + levels) z (d n o);
  values_are = λ xs w i q. let z : 0 ≡ i = omega arith in subst (λ (i : ℕ). value new xs (get_or (c ∷ []) i 0) ≡ f xs) z (v xs w);
}
