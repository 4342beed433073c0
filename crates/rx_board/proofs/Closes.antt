-- What a closed board holds.
use Rattle.std.proofs.Common.{◌≡◌, ℕ, zero, suc, ◌+◌, ◌-◌, ◌*◌, ◌<◌, ◌≤◌, List, [], ◌∷◌, length, get_or, take, drop, sym, ap, ◌∙◌, subst, arith, length-drop, length-take-le}
use Rattle.std.specs.Prelude.{Some}
use Rattle.std.proofs.lemmas.List.{same_lists, get_or_default, get_or-take, get_or-drop}
use mathlib.Core.Option.{some, some-injective, some-ne-none}
use lib.ListN.{get_elem?}
use Rattle.atomic_table.specs.Table.{State}
use Rattle.rx_board.specs.declared.view.Plan.{Plan}
use Rattle.rx_board.specs.declared.view.View.{View}
use Rattle.rx_board.specs.Rule.{Laws, Lawful, job_count, state_in, count_in, word_in, word_place, cell}
use Rattle.rx_board.specs.Closing.{ClosedValue, IsClosedWith}
use Rattle.rx_board.proofs.Places.{further}

pub at_elem : (l : List ℕ) (i x : ℕ) → get_elem? l i ≡ some x → x ≡ get_or l i 0
at_elem [] i x e = absurd (some-ne-none x (sym e))
at_elem (y ∷ ys) zero x e = sym (some-injective y x e)
at_elem (y ∷ ys) (suc i) x e = at_elem ys i x e

-- a cell by its words
pub cell_words : (w j jobs : ℕ) (ws cs : List ℕ) → j < jobs → length ws ≡ 1 + jobs * (w + 2) → length cs ≡ w → ((q : ℕ) → q < w → get_or ws (word_place w j q) 0 ≡ get_or cs q 0) → take w (drop (word_place w j 0) ws) ≡ cs
cell_words w j jobs ws cs l long wide same =
    let f = further j jobs (w + 2) l in let x : ℕ = j * (w + 2) in let y : ℕ = jobs * (w + 2) in let f' : x + (w + 2) ≤ y = f in
    let at : word_place w j 0 ≡ x + 3 = (let e : 1 + (x + (2 + 0)) ≡ x + 3 = omega arith in e) in
    let long' : length ws ≡ 1 + y = long in
    let rest : length (drop (word_place w j 0) ws) ≡ length ws - word_place w j 0 = length-drop (word_place w j 0) ws in
    let room : w ≤ length (drop (word_place w j 0) ws) = omega arith in
    let n : length (take w (drop (word_place w j 0) ws)) ≡ w = length-take-le w (drop (word_place w j 0) ws) room in
    same_lists _ _ (n ∙ sym wide) (λ q d b. let b' : q < w = omega arith in
    let here : word_place w j 0 + q ≡ word_place w j q = (let e : (x + 3) + q ≡ 1 + (x + (2 + q)) = omega arith in ap (λ (z : ℕ). z + q) at ∙ e) in
    get_or-take w (drop (word_place w j 0) ws) q d b' ∙ (get_or-drop (word_place w j 0) ws q d ∙ (ap (λ z. get_or ws z d) here
    ∙ (get_or_default ws (word_place w j q) d 0 (omega arith) ∙ (same q b' ∙ get_or_default cs q 0 d (omega arith))))))

pub closes : (p : Plan) (v : View) (id : ℕ) (c : ClosedValue) (s : State (Unit {0}) View) → Lawful p s → get_elem? s.views id ≡ some v → v.plan ≡ Some p → s.words ≡ c.words → c.width ≡ p.width → IsClosedWith p v c
closes p v id c s r at is words width =
    let same : (state_in p.width s.words, word_in p.width s.words, count_in p.width s.words) ≡ (state_in c.width c.words, word_in c.width c.words, count_in c.width c.words)
    = λ i. (state_in (sym width i) (words i), word_in (sym width i) (words i), count_in (sym width i) (words i)) in
    let L = subst (λ (z : (ℕ → ℕ) × (ℕ → ℕ → ℕ) × (ℕ → ℕ)). Laws p z.0 z.1 z.2 s.views) same r.1 in record {
      views = s.views;
      place = id;
      has = at;
      laws = L;
      ran = λ j h. let k = L.each id v at in (k.known j (k.ran j h)).1;
      cells = λ j l two. let full = L.present j l two in
          cell_words c.width j (job_count p) c.words (cell p j) l (ap length (sym words) ∙ (r.0 ∙ ap (λ z. 1 + job_count p * (z + 2)) (sym width))) (full.0 ∙ sym width) (λ q b. full.1 q (subst (λ (z : ℕ). q < z) width b));
    }
