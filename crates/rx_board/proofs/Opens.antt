-- The rule at the start.
use Rattle.std.proofs.Common.{◌≡◌, ℕ, zero, suc, ◌+◌, ◌*◌, ◌<◌, ◌≤◌, eqb, inl, List, [], ◌∷◌, length, length-set, length-take, get_or, get_or-set_same, set, take, sym, refl, ap, ◌∙◌, subst, arith}
use mathlib.Core.Option.{some, some-injective, some-ne-none}
use lib.ListN.{get_elem?}
use Rattle.atomic_table.specs.Table.{opening}
use Rattle.rx_board.specs.declared.view.Plan.{Plan}
use Rattle.rx_board.specs.declared.view.View.{View}
use Rattle.std.proofs.lemmas.List.{take_more, take_all}
use mathlib.Core.Logic.{dite}
use native.Mathlib.Decide.{ℕ_discrete}
use Rattle.rx_net.specs.declared.net.Net.{Net}
use Rattle.rx_net.specs.Legal.{Legal}
use Rattle.rx_uses.specs.Uses.{nodes_of, owner_of}
use Rattle.rx_uses.proofs.Legality.{lawful}
use Rattle.rx_uses.proofs.UsesLaw.{node_operand, length-nodes}
use Rattle.rx_board.specs.Rule.{input_count, Lawful, Knows, Opening, fresh, job_count, state_in, count_in, word_in, count_place, one_if, owned, owed, passed, uses_in, owner_in}
use Rattle.rx_board.proofs.Totals.{one, no, total_append}
use Rattle.rx_board.proofs.Counts.{same_owed}
use Rattle.rx_board.proofs.Keeps.{passed_part}
use Rattle.rx_board.proofs.Places.{inside, states_stay, count_else}

only : (v u : View) (i : ℕ) → get_elem? (v ∷ []) i ≡ some u → v ≡ u
only v u zero e = some-injective v u e
only v u (suc i) e = absurd (some-ne-none u (sym e))

module _ (net : Net) (w : ℕ) where
  abbrev U : ℕ → List ℕ
  U j = nodes_of net (input_count net + j)

  abbrev O : ℕ → ℕ
  O = owner_of net

  -- one more node is counted
  pub opening_more : (n k : ℕ) (ws : List ℕ) → Opening net w n k ws → k < length (U n) → (i x : ℕ) → i ≡ count_place w (O (get_or (U n) k 0)) → x ≡ get_or ws i 0 + 1 → Opening net w n (k + 1) (set ws i x)
  opening_more n k ws o more i x here up = let q : ℕ = O (get_or (U n) k 0) in let b : q < length net.jobs = (node_operand net (input_count net + n) k more).1 in
      let long : i < length ws = (let l = inside (w + 2) q (length net.jobs) 1 b (omega arith) in subst (λ (z : ℕ × ℕ). z.0 < z.1) (λ j. (sym here j, sym o.long j)) l) in record {
        long = length-set ws i x ∙ o.long;
        free = λ j l. states_stay w ws q 1 x i here (omega arith) (omega arith) j ∙ o.free j l;
        counts = λ j l. let c = o.counts j l in
            let t = ap (owned U O j) (take_more (U n) k 0 more) in
            let a = total_append (λ (y : ℕ). one_if (eqb (O y) j)) (take k (U n)) (get_or (U n) k 0 ∷ []) in dite (ℕ_discrete j q)
            (λ e. let s : count_in w (set ws i x) j ≡ x = ap (λ (z : ℕ). get_or (set ws i x) z 0) (ap (count_place w) e ∙ sym here) ∙ get_or-set_same ws i x 0 long in
            let was : get_or ws i 0 ≡ count_in w ws j = ap (λ (z : ℕ). get_or ws z 0) (here ∙ ap (count_place w) (sym e)) in
            let y = one q j (sym e) in omega arith)
            (λ ne. let s = count_else w ws q 1 x i here (omega arith) j ne in let y = no q j (λ e. ne (sym e)) in omega arith);
      }

  -- all nodes of a cell are counted
  pub opening_next : (n k : ℕ) (ws : List ℕ) → Opening net w n k ws → length (U n) ≤ k → Opening net w (n + 1) 0 ws
  opening_next n k ws o done = record {
    long = o.long;
    free = o.free;
    counts = λ j l. let c = o.counts j l in let t = ap (owned U O j) (take_all k (U n) done) in let e : suc n ≡ n + 1 = omega arith in
        let s : owed U O (λ _. 0) j (n + 1) ≡ owed U O (λ _. 0) j n + owned U O j (U n) = ap (owed U O (λ _. 0) j) (sym e) in omega arith;
  }

  owned_few : (i : ℕ) (ts : List ℕ) → owned U O i ts ≤ length ts
  owned_few i [] = omega arith
  owned_few i (t ∷ ts) = let h = owned_few i ts in dite (ℕ_discrete (O t) i) (λ e. let o = one (O t) i e in omega arith) (λ ne. let o = no (O t) i ne in omega arith)

  -- a count is small
  pub owed_few : Legal net → (i n : ℕ) → owed U O (λ _. 0) i n ≤ n * 1048576
  owed_few legal i zero = omega arith
  owed_few legal i (suc n) = let h = owed_few legal i n in let a = owned_few i (U n) in let b = length-nodes net (input_count net + n) (lawful net legal).few in let c = (lawful net legal).jobs in omega arith

  pub count_small : Legal net → (n k : ℕ) (ws : List ℕ) → Opening net w n k ws → n < length net.jobs → k < length (U n) → (i : ℕ) → i ≡ count_place w (O (get_or (U n) k 0)) → get_or ws i 0 < 1000000000000
  count_small legal n k ws o l more i here = let q : ℕ = O (get_or (U n) k 0) in let b : q < length net.jobs = (node_operand net (input_count net + n) k more).1 in
      let c = o.counts q b in let f = owed_few legal q n in let a = owned_few q (take k (U n)) in let t = length-take k (U n) in let d = length-nodes net (input_count net + n) (lawful net legal).few in let e = (lawful net legal).jobs in
      let g = ap (λ (z : ℕ). get_or ws z 0) here in omega arith

pub opens : (p : Plan) (ws : List ℕ) → Opening p.net p.width (job_count p) 0 ws → Lawful p (opening {S = Unit {0}} ws [] (fresh p))
opens p ws o =
    let st = state_in p.width ws in let wd = word_in p.width ws in let ct = count_in p.width ws in (
      o.long,
      record {
        states = λ j b. let z = o.free j b in omega arith;
        present = λ j b two. absurd (let z = o.free j b in omega arith);
        each = λ i v at. subst (Knows p st wd ct) (only (fresh p) v i at) record { plan = inl refl; known = λ j h. absurd (let n = h.1 in omega arith); ran = λ j h. absurd (let n = h.1 in omega arith); held = tt; ready = λ j h. absurd (let n = h.1 in omega arith) };
        holders = λ j b. let z = o.free j b in sym (no (st j) 1 (λ q. omega arith));
        runners = λ j b. let z = o.free j b in sym (no (st j) 2 (λ q. omega arith));
        counts = λ j b. let c = o.counts j b in let same = same_owed (uses_in p) (owner_in p) (passed p st (fresh p ∷ [])) (λ _. 0) j (job_count p) (λ k l. let z = o.free k l in sym (passed_part p st (fresh p ∷ []) k (λ q. omega arith))) in omega arith;
      },
    )
