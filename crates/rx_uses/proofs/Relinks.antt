-- Lists from which a node is taken, and to which one is given.
use Rattle.std.proofs.Common.{◌≡◌, ◌≢◌, ℕ, zero, suc, ◌+◌, ◌<◌, Bool, cond, eqb, List, [], ◌∷◌, ◌++◌, length, get_or, set, take, drop, sym, refl, ap, ◌∙◌, subst, arith, eq-eqb, ne_eqb, get_or-set_other, get_or-set_same, length-set}
use Rattle.std.specs.Prelude.{Some, None}
use Rattle.std.proofs.lemmas.List.{length-map, get_or-map, ext_get_or, set_past, take_at}
use mathlib.Core.Logic.{dite}
use native.Mathlib.Decide.{ℕ_discrete}
use Rattle.rx_uses.specs.Uses.{node_at, without}
use Rattle.rx_uses.specs.Links.{walk, walks, Chain, LinksBack, AreLists, AreLinked, heads_without}
use Rattle.rx_uses.proofs.UsesLaw.{at_node}
use Rattle.rx_uses.proofs.Links.{Apart, chain_within, chain_after, chain_else, back_else, home_else, apart_first, apart_node, not_after, elsewhere, first_apart, walk_is, chain_short}

-- ---- a list without a node

-- the list without its k-th node
abbrev pub removed : ℕ → List ℕ → List ℕ
removed k [] = []
removed zero (x ∷ xs) = xs
removed (suc k) (x ∷ xs) = x ∷ removed k xs

removed_is : (k : ℕ) (xs : List ℕ) → take k xs ++ drop (suc k) xs ≡ removed k xs
removed_is zero [] = refl
removed_is (suc k) [] = refl
removed_is zero (x ∷ xs) = refl
removed_is (suc k) (x ∷ xs) = ap (λ (ys : List ℕ). x ∷ ys) (removed_is k xs)

pub without_is : (k : ℕ) (xs : List ℕ) → without k xs ≡ removed k xs
without_is k xs = let e : k + 1 ≡ suc k = omega arith in ap (λ (n : ℕ). take k xs ++ drop n xs) e ∙ removed_is k xs

-- the node before the k-th, p for the first
abbrev pub before : ℕ → List ℕ → ℕ → ℕ
before p xs zero = p
before p [] (suc k) = p
before p (x ∷ xs) (suc k) = before x xs k

before_in : (p : ℕ) (xs : List ℕ) (k t : ℕ) → node_at xs (suc k) ≡ Some t → node_at xs k ≡ Some (before p xs (suc k))
before_in p [] k t e = absurd (let z : None ≡ Some t = e in cc)
before_in p (x ∷ xs) zero t e = refl
before_in p (x ∷ xs) (suc k) t e = before_in x xs k t e

-- what a node of a list leads back to, and its cell
pub back_at : (prevs homes : List ℕ) (c p : ℕ) (xs : List ℕ) (k t : ℕ) → LinksBack prevs homes c p xs → node_at xs k ≡ Some t → (get_or prevs t 0 ≡ before p xs k) × (get_or homes t 0 ≡ c)
back_at prevs homes c p [] k t b e = absurd (let z : None ≡ Some t = e in cc)
back_at prevs homes c p (x ∷ xs) zero t b e = let z : Some x ≡ Some t = e in let same : x ≡ t = cc in
    subst (λ (y : ℕ). (get_or prevs y 0 ≡ p) × (get_or homes y 0 ≡ c)) same (b.0, b.1)
back_at prevs homes c p (x ∷ xs) (suc k) t b e = back_at prevs homes c x xs k t b.2 e

back_after : (prevs homes : List ℕ) (c p : ℕ) (xs : List ℕ) (k t : ℕ) → LinksBack prevs homes c p xs → node_at xs k ≡ Some t → LinksBack prevs homes c t (drop (suc k) xs)
back_after prevs homes c p [] k t b e = absurd (let z : None ≡ Some t = e in cc)
back_after prevs homes c p (x ∷ xs) zero t b e = let z : Some x ≡ Some t = e in let same : x ≡ t = cc in subst (λ (y : ℕ). LinksBack prevs homes c y xs) same b.2
back_after prevs homes c p (x ∷ xs) (suc k) t b e = back_after prevs homes c x xs k t b.2 e

-- links onward past a node that is not the first
chain_less : (nexts : List ℕ) (h p : ℕ) (xs : List ℕ) (k t : ℕ) → length nexts < 4294967295 → Chain nexts h xs → node_at xs (suc k) ≡ Some t
    → Chain (set nexts (before p xs (suc k)) (get_or nexts t 0)) h (removed (suc k) xs)
chain_less nexts h p [] k t s c e = absurd (let z : None ≡ Some t = e in cc)
chain_less nexts h p (x ∷ []) k t s c e = absurd (let z : None ≡ Some t = e in cc)
chain_less nexts h p (x ∷ y ∷ ys) zero t s c e = let z : Some y ≡ Some t = e in let same : y ≡ t = cc in let v : ℕ = get_or nexts t 0 in
    let apart = apart_first nexts h x (y ∷ ys) s c in
    let rest : Chain nexts v ys = subst (λ (n : ℕ). Chain nexts (get_or nexts n 0) ys) same c.2.2 in (
      c.0,
      (let n = length-set nexts x v in let b = c.1 in omega arith),
      subst (λ (n : ℕ). Chain (set nexts x v) n ys) (sym (get_or-set_same nexts x v 0 c.1)) (chain_else nexts x v v ys (λ q l. apart (suc q) (omega arith)) rest),
    )
chain_less nexts h p (x ∷ y ∷ ys) (suc k) t s c e = let xs : List ℕ = y ∷ ys in let v : ℕ = get_or nexts t 0 in let w : ℕ = before x xs (suc k) in
    let ne : x ≢ w = apart_node nexts h x xs k w s c (before_in x xs k t e) in (
      c.0,
      (let n = length-set nexts w v in let b = c.1 in omega arith),
      subst (λ (n : ℕ). Chain (set nexts w v) n (removed (suc k) xs)) (sym (get_or-set_other nexts w x v 0 ne)) (chain_less nexts (get_or nexts x 0) x xs k t s c.2 e),
    )

-- links back past a node
back_less : (nexts : List ℕ) (h : ℕ) (prevs homes : List ℕ) (c p : ℕ) (xs : List ℕ) (k t : ℕ) → length nexts < 4294967295 → length prevs ≡ length nexts
    → Chain nexts h xs → LinksBack prevs homes c p xs → node_at xs k ≡ Some t → LinksBack (set prevs (get_or nexts t 0) (before p xs k)) homes c p (removed k xs)
back_less nexts h prevs homes c p [] k t s n ch b e = absurd (let z : None ≡ Some t = e in cc)
back_less nexts h prevs homes c p (x ∷ []) zero t s n ch b e = tt
back_less nexts h prevs homes c p (x ∷ y ∷ ys) zero t s n ch b e = let z : Some x ≡ Some t = e in let same : x ≡ t = cc in
    let v : get_or nexts t 0 ≡ y = ap (λ (m : ℕ). get_or nexts m 0) (sym same) ∙ ch.2.0 in let l : y < length nexts = ch.2.1 in
    subst (λ (m : ℕ). LinksBack (set prevs m p) homes c p (y ∷ ys)) (sym v) (
      get_or-set_same prevs y p 0 (omega arith),
      b.2.1,
      back_else prevs homes c y y p ys (apart_first nexts (get_or nexts x 0) y ys s ch.2) b.2.2,
    )
back_less nexts h prevs homes c p (x ∷ xs) (suc k) t s n ch b e = (
  get_or-set_other prevs (get_or nexts t 0) x (before x xs k) 0 (not_after nexts h x xs k t s ch e) ∙ b.0,
  b.1,
  back_less nexts (get_or nexts x 0) prevs homes c x xs k t s n ch.2 b.2 e,
)

-- ---- all lists

module _ (nexts prevs homes heads : List ℕ) (list : ℕ → List ℕ) where
  -- the lists are those that the links give
  pub lists_are : AreLists nexts prevs homes heads list → (c : ℕ) → c < length heads → get_or (walks nexts heads) c [] ≡ list c
  lists_are are c l = let short = chain_short nexts (get_or heads c 0) (list c) are.small (are.chains c l) in
      get_or-map (walk nexts (length nexts + 1)) heads c 0 [] l
      ∙ walk_is nexts (length nexts + 1) (get_or heads c 0) (list c) are.small (omega arith) (are.chains c l)

  pub relisted : (other : ℕ → List ℕ) → AreLists nexts prevs homes heads list → ((c : ℕ) → c < length heads → list c ≡ other c) → AreLists nexts prevs homes heads other
  relisted other are same = record {
    small = are.small;
    prevs_length = are.prevs_length;
    homes_length = are.homes_length;
    chains = λ c l. subst (Chain nexts (get_or heads c 0)) (same c l) (are.chains c l);
    back = λ c l. subst (LinksBack prevs homes c 4294967295) (same c l) (are.back c l);
  }

  pub are_linked : AreLists nexts prevs homes heads list → AreLinked nexts prevs homes heads
  are_linked are = relisted (λ c. get_or (walks nexts heads) c []) are (λ c l. sym (lists_are are c l))

  -- a cell that is set at a node in no list
  pub rehomed : (t c : ℕ) → AreLists nexts prevs homes heads list → ((d : ℕ) → d < length heads → Apart t (list d)) → AreLists nexts prevs (set homes t c) heads list
  rehomed t c are free = record {
    small = are.small;
    prevs_length = are.prevs_length;
    homes_length = length-set homes t c ∙ are.homes_length;
    chains = are.chains;
    back = λ d l. home_else prevs homes d 4294967295 t c (list d) (free d l) (are.back d l);
  }

  -- a node in no list, put before the list of the cell c
  put_here : (t c : ℕ) → AreLists nexts prevs homes heads list → t < length nexts → Apart t (list c) → c < length heads → get_or homes t 0 ≡ c → (ys : List ℕ) → list c ≡ ys
      → (Chain (set nexts t (get_or heads c 0)) t (t ∷ ys)) × (LinksBack (set (set prevs t 4294967295) (get_or heads c 0) t) homes c 4294967295 (t ∷ ys))
  put_here t c are room free l home [] e = let h : ℕ = get_or heads c 0 in
      let end : h ≡ 4294967295 = subst (Chain nexts h) e (are.chains c l) in let s = are.small in let n = are.prevs_length in
      let ne : t ≢ h = (λ z. omega arith) in (
        (refl, (let m = length-set nexts t h in omega arith), get_or-set_same nexts t h 0 room ∙ end),
        (get_or-set_other (set prevs t 4294967295) h t t 0 ne ∙ get_or-set_same prevs t 4294967295 0 (omega arith), home, tt),
      )
  put_here t c are room free l home (y ∷ ys) e = let h : ℕ = get_or heads c 0 in let s = are.small in let n = are.prevs_length in
      let ch : Chain nexts h (y ∷ ys) = subst (Chain nexts h) e (are.chains c l) in
      let b : LinksBack prevs homes c 4294967295 (y ∷ ys) = subst (LinksBack prevs homes c 4294967295) e (are.back c l) in
      let apart : Apart t (y ∷ ys) = subst (Apart t) e free in
      let ne : y ≢ t = apart 0 (omega arith) in let first : h ≡ y = ch.0 in let below : y < length nexts = ch.1 in
      let P : List ℕ = set prevs t 4294967295 in let m = length-set prevs t 4294967295 in
      let rest : LinksBack (set P y t) homes c y ys =
      back_else P homes c y y t ys (apart_first nexts h y ys s ch) (back_else prevs homes c y t 4294967295 ys (λ q l. apart (suc q) (omega arith)) b.2) in (
        (refl, (let m = length-set nexts t h in omega arith), subst (λ (z : ℕ). Chain (set nexts t h) z (y ∷ ys)) (sym (get_or-set_same nexts t h 0 room)) (chain_else nexts t h h (y ∷ ys) apart ch)),
        subst (λ (z : ℕ). LinksBack (set P z t) homes c 4294967295 (t ∷ y ∷ ys)) (sym first) (
          get_or-set_other P y t t 0 (λ z. ne (sym z)) ∙ get_or-set_same prevs t 4294967295 0 (omega arith),
          home,
          (get_or-set_same P y t 0 (omega arith), b.1, rest),
        ),
      )

  pub put : (t c : ℕ) → AreLists nexts prevs homes heads list → t < length nexts → c < length heads → ((d : ℕ) → d < length heads → Apart t (list d)) → get_or homes t 0 ≡ c
      → AreLists (set nexts t (get_or heads c 0)) (set (set prevs t 4294967295) (get_or heads c 0) t) homes (set heads c t) (λ d. cond (eqb d c) (t ∷ list d) (list d))
  put t c are room l free home = let h : ℕ = get_or heads c 0 in let s = are.small in let n = length-set nexts t h in let m = length-set heads c t in
      let a = length-set prevs t 4294967295 in let b = length-set (set prevs t 4294967295) h t in let pl = are.prevs_length in let hl = are.homes_length in
      let here = put_here t c are room (free c l) l home (list c) refl in
      let far : (d : ℕ) → d < length heads → d ≢ c → Apart h (list d) = λ d k ne.
      first_apart nexts prevs homes c 4294967295 h (list c) d 4294967295 (get_or heads d 0) (list d) s ne (are.chains c l) (are.back c l) (are.chains d k) (are.back d k) in record {
        small = omega arith;
        prevs_length = omega arith;
        homes_length = omega arith;
        chains = λ d k. let k' : d < length heads = omega arith in dite (ℕ_discrete d c)
            (λ e. subst (λ (b : Bool). Chain (set nexts t h) (get_or (set heads c t) d 0) (cond b (t ∷ list d) (list d))) (sym (eq-eqb d c e))
            (subst (λ (z : ℕ). Chain (set nexts t h) (get_or (set heads c t) z 0) (t ∷ list z)) (sym e)
            (subst (λ (z : ℕ). Chain (set nexts t h) z (t ∷ list c)) (sym (get_or-set_same heads c t 0 l)) here.0)))
            (λ ne. subst (λ (b : Bool). Chain (set nexts t h) (get_or (set heads c t) d 0) (cond b (t ∷ list d) (list d))) (sym (ne_eqb d c ne))
            (subst (λ (z : ℕ). Chain (set nexts t h) z (list d)) (sym (get_or-set_other heads c d t 0 ne)) (chain_else nexts t h (get_or heads d 0) (list d) (free d k') (are.chains d k'))));
        back = λ d k. let k' : d < length heads = omega arith in let P : List ℕ = set prevs t 4294967295 in dite (ℕ_discrete d c)
            (λ e. subst (λ (b : Bool). LinksBack (set P h t) homes d 4294967295 (cond b (t ∷ list d) (list d))) (sym (eq-eqb d c e))
            (subst (λ (z : ℕ). LinksBack (set P h t) homes z 4294967295 (t ∷ list z)) (sym e) here.1))
            (λ ne. subst (λ (b : Bool). LinksBack (set P h t) homes d 4294967295 (cond b (t ∷ list d) (list d))) (sym (ne_eqb d c ne))
            (back_else P homes d 4294967295 h t (list d) (far d k' ne) (back_else prevs homes d 4294967295 t 4294967295 (list d) (free d k') (are.back d k'))));
      }

  -- a node taken out of the list of the cell c
  out_with : (t c k : ℕ) (onward tops : List ℕ) → AreLists nexts prevs homes heads list → c < length heads → node_at (list c) k ≡ Some t
      → length onward ≡ length nexts → length tops ≡ length heads → Chain onward (get_or tops c 0) (removed k (list c))
      → ((d : ℕ) → d < length heads → d ≢ c → Chain onward (get_or tops d 0) (list d))
      → AreLists onward (set prevs (get_or nexts t 0) (get_or prevs t 0)) homes tops (λ d. cond (eqb d c) (removed k (list d)) (list d))
  out_with t c k onward tops are l at same_nexts same_heads here else = let v : ℕ = get_or nexts t 0 in let p : ℕ = get_or prevs t 0 in
      let s = are.small in let pl = are.prevs_length in let hl = are.homes_length in let b = length-set prevs v p in
      let from = back_at prevs homes c 4294967295 (list c) k t (are.back c l) at in
      let less : LinksBack (set prevs v p) homes c 4294967295 (removed k (list c)) =
      subst (λ (z : ℕ). LinksBack (set prevs v z) homes c 4294967295 (removed k (list c))) (sym from.0)
      (back_less nexts (get_or heads c 0) prevs homes c 4294967295 (list c) k t s pl (are.chains c l) (are.back c l) at) in
      let far : (d : ℕ) → d < length heads → d ≢ c → Apart v (list d) = λ d m ne.
      first_apart nexts prevs homes c t v (drop (suc k) (list c)) d 4294967295 (get_or heads d 0) (list d) s ne
      (chain_after nexts (get_or heads c 0) (list c) k t (are.chains c l) at) (back_after prevs homes c 4294967295 (list c) k t (are.back c l) at) (are.chains d m) (are.back d m) in record {
        small = omega arith;
        prevs_length = omega arith;
        homes_length = omega arith;
        chains = λ d m. dite (ℕ_discrete d c)
            (λ e. subst (λ (b : Bool). Chain onward (get_or tops d 0) (cond b (removed k (list d)) (list d))) (sym (eq-eqb d c e))
            (subst (λ (z : ℕ). Chain onward (get_or tops z 0) (removed k (list z))) (sym e) here))
            (λ ne. subst (λ (b : Bool). Chain onward (get_or tops d 0) (cond b (removed k (list d)) (list d))) (sym (ne_eqb d c ne)) (else d (omega arith) ne));
        back = λ d m. let m' : d < length heads = omega arith in dite (ℕ_discrete d c)
            (λ e. subst (λ (b : Bool). LinksBack (set prevs v p) homes d 4294967295 (cond b (removed k (list d)) (list d))) (sym (eq-eqb d c e))
            (subst (λ (z : ℕ). LinksBack (set prevs v p) homes z 4294967295 (removed k (list z))) (sym e) less))
            (λ ne. subst (λ (b : Bool). LinksBack (set prevs v p) homes d 4294967295 (cond b (removed k (list d)) (list d))) (sym (ne_eqb d c ne))
            (back_else prevs homes d 4294967295 v p (list d) (far d m' ne) (are.back d m')));
      }

  pub out : (t c k : ℕ) → AreLists nexts prevs homes heads list → c < length heads → node_at (list c) k ≡ Some t
      → AreLists (set nexts (get_or prevs t 0) (get_or nexts t 0)) (set prevs (get_or nexts t 0) (get_or prevs t 0)) homes
      (cond (eqb (get_or prevs t 0) 4294967295) (set heads (get_or homes t 0) (get_or nexts t 0)) heads)
      (λ d. cond (eqb d c) (removed k (list d)) (list d))
  out t c zero are l at = let v : ℕ = get_or nexts t 0 in let p : ℕ = get_or prevs t 0 in let s = are.small in
      let from = back_at prevs homes c 4294967295 (list c) 0 t (are.back c l) at in
      let none : p ≡ 4294967295 = from.0 in
      let onward : set nexts p v ≡ nexts = set_past nexts p v (omega arith) in
      let tops : cond (eqb p 4294967295) (set heads (get_or homes t 0) v) heads ≡ set heads c v =
      ap (λ (b : Bool). cond b (set heads (get_or homes t 0) v) heads) (eq-eqb p 4294967295 none) ∙ ap (λ (z : ℕ). set heads z v) from.1 in
      subst (λ (z : List ℕ × List ℕ). AreLists z.0 (set prevs v p) homes z.1 (λ d. cond (eqb d c) (removed 0 (list d)) (list d))) (λ i. (sym onward i, sym tops i))
      (out_with t c 0 nexts (set heads c v) are l at refl (length-set heads c v)
      (subst (λ (z : ℕ). Chain nexts z (removed 0 (list c))) (sym (get_or-set_same heads c v 0 l))
      (subst (Chain nexts v) (removed_is 0 (list c)) (chain_after nexts (get_or heads c 0) (list c) 0 t (are.chains c l) at)))
      (λ d m ne. subst (λ (z : ℕ). Chain nexts z (list d)) (sym (get_or-set_other heads c d v 0 ne)) (are.chains d m)))
  out t c (suc k) are l at = let v : ℕ = get_or nexts t 0 in let p : ℕ = get_or prevs t 0 in let s = are.small in
      let from = back_at prevs homes c 4294967295 (list c) (suc k) t (are.back c l) at in
      let stands : node_at (list c) k ≡ Some p = before_in 4294967295 (list c) k t at ∙ ap Some (sym from.0) in
      let below : p < length nexts = chain_within nexts (get_or heads c 0) (list c) k p (are.chains c l) stands in
      let home = back_at prevs homes c 4294967295 (list c) k p (are.back c l) stands in
      let tops : cond (eqb p 4294967295) (set heads (get_or homes t 0) v) heads ≡ heads =
      ap (λ (b : Bool). cond b (set heads (get_or homes t 0) v) heads) (ne_eqb p 4294967295 (λ e. omega arith)) in
      subst (λ (z : List ℕ). AreLists (set nexts p v) (set prevs v p) homes z (λ d. cond (eqb d c) (removed (suc k) (list d)) (list d))) (sym tops)
      (out_with t c (suc k) (set nexts p v) heads are l at (length-set nexts p v) refl
      (subst (λ (z : ℕ). Chain (set nexts z v) (get_or heads c 0) (removed (suc k) (list c))) (sym from.0)
      (chain_less nexts (get_or heads c 0) 4294967295 (list c) k t s (are.chains c l) at))
      (λ d m ne. chain_else nexts p v (get_or heads d 0) (list d) (elsewhere prevs homes d 4294967295 (list d) p c (are.back d m) home.1 ne) (are.chains d m)))

-- ---- the lists that contracts see

-- one list is another, and the rest are as they were
pub one_list : (lists others : List (List ℕ)) (c : ℕ) (change : List ℕ → List ℕ) → length others ≡ length lists → c < length lists
    → ((d : ℕ) → d < length lists → get_or others d [] ≡ cond (eqb d c) (change (get_or lists d [])) (get_or lists d []))
    → others ≡ set lists c (change (get_or lists c []))
one_list lists others c change n l each = let x : List ℕ = change (get_or lists c []) in let m = length-set lists c x in
    ext_get_or [] others (set lists c x) (omega arith) (λ d k. let k' : d < length lists = omega arith in each d k' ∙ dite (ℕ_discrete d c)
    (λ e. ap (λ (b : Bool). cond b (change (get_or lists d [])) (get_or lists d [])) (eq-eqb d c e)
    ∙ (ap (λ (z : ℕ). change (get_or lists z [])) e ∙ (sym (get_or-set_same lists c x [] l) ∙ ap (λ (z : ℕ). get_or (set lists c x) z []) (sym e))))
    (λ ne. ap (λ (b : Bool). cond b (change (get_or lists d [])) (get_or lists d [])) (ne_eqb d c ne) ∙ sym (get_or-set_other lists c d x [] ne)))

pub length-walks : (nexts heads : List ℕ) → length (walks nexts heads) ≡ length heads
length-walks nexts heads = length-map heads (walk nexts (length nexts + 1))

-- lists whose one list changed
pub one_changed : (nexts heads onward back homes tops : List ℕ) (c : ℕ) (change : List ℕ → List ℕ) → length tops ≡ length heads → c < length heads
    → AreLists onward back homes tops (λ d. cond (eqb d c) (change (get_or (walks nexts heads) d [])) (get_or (walks nexts heads) d []))
    → walks onward tops ≡ set (walks nexts heads) c (change (get_or (walks nexts heads) c []))
one_changed nexts heads onward back homes tops c change n l are = let a = length-walks nexts heads in let b = length-walks onward tops in
    one_list (walks nexts heads) (walks onward tops) c change (omega arith) (omega arith)
    (λ d k. lists_are onward back homes tops (λ d. cond (eqb d c) (change (get_or (walks nexts heads) d [])) (get_or (walks nexts heads) d [])) are d (omega arith))

-- ---- what a call leaves

-- a Vec that was written whole, as a slice
pub written_is : (n : ℕ) (old new lists : List ℕ) → length new ≡ n → new ≡ lists → take n (new ++ drop (length new) old) ≡ lists
written_is n old new lists l e = take_at new (drop (length new) old) n l ∙ e

pub linked_chain : (nexts prevs homes heads : List ℕ) (c : ℕ) → AreLinked nexts prevs homes heads → c < length (walks nexts heads) → Chain nexts (get_or heads c 0) (get_or (walks nexts heads) c [])
linked_chain nexts prevs homes heads c are l = let n = length-walks nexts heads in are.chains c (omega arith)

node_in : (xs : List ℕ) (q : ℕ) → q < length xs → node_at xs q ≡ Some (get_or xs q 0)
node_in [] q l = absurd (omega arith)
node_in (x ∷ xs) zero l = refl
node_in (x ∷ xs) (suc q) l = node_in xs q (omega arith)

-- the node t is in none of the lists
abbrev pub IsFree : List (List ℕ) → ℕ → Type 0
IsFree lists t = (d k : ℕ) → d < length lists → node_at (get_or lists d []) k ≡ Some t → ⊥

-- links after a node was put first, and the lists that they give
pub record Relinked (lists : List (List ℕ)) (nexts prevs homes heads : List ℕ) : Type 0 where
  pub linked : AreLinked nexts prevs homes heads
  pub lists_are : walks nexts heads ≡ lists

pub linking : (nexts prevs homes heads : List ℕ) (t c : ℕ) → AreLinked nexts prevs homes heads → t < length nexts → c < length heads → IsFree (walks nexts heads) t
    → Relinked (set (walks nexts heads) c (t ∷ get_or (walks nexts heads) c []))
    (set nexts t (get_or heads c 0)) (set (set prevs t 4294967295) (get_or heads c 0) t) (set homes t c) (set heads c t)
linking nexts prevs homes heads t c are room l free = let list : ℕ → List ℕ = (λ d. get_or (walks nexts heads) d []) in let n = length-walks nexts heads in let hl = are.homes_length in
    let apart : (d : ℕ) → d < length heads → Apart t (list d) = λ d m q r e. free d q (omega arith) (node_in (list d) q r ∙ ap Some e) in
    let at = rehomed nexts prevs homes heads list t c are apart in
    let after = put nexts prevs (set homes t c) heads list t c at room l apart (get_or-set_same homes t c 0 (omega arith)) in record {
      linked = are_linked (set nexts t (get_or heads c 0)) (set (set prevs t 4294967295) (get_or heads c 0) t) (set homes t c) (set heads c t) (λ d. cond (eqb d c) (t ∷ list d) (list d)) after;
      lists_are = one_changed nexts heads (set nexts t (get_or heads c 0)) (set (set prevs t 4294967295) (get_or heads c 0) t) (set homes t c) (set heads c t) c (λ (xs : List ℕ). t ∷ xs) (length-set heads c t) l after;
    }

length-heads_without : (nexts prevs homes heads : List ℕ) (t : ℕ) → length (heads_without nexts prevs homes heads t) ≡ length heads
length-heads_without nexts prevs homes heads t = dite (ℕ_discrete (get_or prevs t 0) 4294967295)
    (λ e. ap (λ (b : Bool). length (cond b (set heads (get_or homes t 0) (get_or nexts t 0)) heads)) (eq-eqb (get_or prevs t 0) 4294967295 e) ∙ length-set heads (get_or homes t 0) (get_or nexts t 0))
    (λ ne. ap (λ (b : Bool). length (cond b (set heads (get_or homes t 0) (get_or nexts t 0)) heads)) (ne_eqb (get_or prevs t 0) 4294967295 ne))

pub unlinking : (nexts prevs homes heads : List ℕ) (t c k : ℕ) → AreLinked nexts prevs homes heads → c < length (walks nexts heads) → node_at (get_or (walks nexts heads) c []) k ≡ Some t
    → Relinked (set (walks nexts heads) c (without k (get_or (walks nexts heads) c [])))
    (set nexts (get_or prevs t 0) (get_or nexts t 0)) (set prevs (get_or nexts t 0) (get_or prevs t 0)) homes (heads_without nexts prevs homes heads t)
unlinking nexts prevs homes heads t c k are l at = let list : ℕ → List ℕ = (λ d. get_or (walks nexts heads) d []) in let n = length-walks nexts heads in
    let onward : List ℕ = set nexts (get_or prevs t 0) (get_or nexts t 0) in let back : List ℕ = set prevs (get_or nexts t 0) (get_or prevs t 0) in
    let tops : List ℕ = heads_without nexts prevs homes heads t in
    let after = out nexts prevs homes heads list t c k are (omega arith) at in record {
      linked = are_linked onward back homes tops (λ d. cond (eqb d c) (removed k (list d)) (list d)) after;
      lists_are = one_changed nexts heads onward back homes tops c (removed k) (length-heads_without nexts prevs homes heads t) (omega arith) after
          ∙ ap (set (walks nexts heads) c) (sym (without_is k (list c)));
    }

-- a node that was taken out is in no list

removed_apart : (nexts : List ℕ) (h : ℕ) (xs : List ℕ) (k t : ℕ) → length nexts < 4294967295 → Chain nexts h xs → node_at xs k ≡ Some t → Apart t (removed k xs)
removed_apart nexts h [] k t s c e q l = absurd (omega arith)
removed_apart nexts h (x ∷ xs) zero t s c e q l = let z : Some x ≡ Some t = e in let same : x ≡ t = cc in λ i. apart_first nexts h x xs s c q l (i ∙ sym same)
removed_apart nexts h (x ∷ xs) (suc k) t s c e zero l = apart_node nexts h x xs k t s c e
removed_apart nexts h (x ∷ xs) (suc k) t s c e (suc q) l = removed_apart nexts (get_or nexts x 0) xs k t s c.2 e q (omega arith)

pub unlinked_free : (nexts prevs homes heads : List ℕ) (t c k : ℕ) → AreLinked nexts prevs homes heads → c < length (walks nexts heads) → node_at (get_or (walks nexts heads) c []) k ≡ Some t
    → IsFree (set (walks nexts heads) c (without k (get_or (walks nexts heads) c []))) t
unlinked_free nexts prevs homes heads t c k are l at = λ d q m here. let lists : List (List ℕ) = walks nexts heads in let xs : List ℕ = get_or lists c [] in
    let n = length-walks nexts heads in let b = length-set lists c (without k xs) in let l' : c < length heads = omega arith in let m' : d < length heads = omega arith in dite (ℕ_discrete d c)
    (λ e. let is : get_or (set lists c (without k xs)) d [] ≡ removed k xs = ap (λ (z : ℕ). get_or (set lists c (without k xs)) z []) e ∙ (get_or-set_same lists c (without k xs) [] l ∙ without_is k xs) in
    let a = at_node (removed k xs) q t (subst (λ (ys : List ℕ). node_at ys q ≡ Some t) is here) in
    removed_apart nexts (get_or heads c 0) xs k t are.small (are.chains c l') at q a.0 a.1)
    (λ ne. let a = at_node (get_or lists d []) q t (subst (λ (ys : List ℕ). node_at ys q ≡ Some t) (get_or-set_other lists c d (without k xs) [] ne) here) in
    elsewhere prevs homes d 4294967295 (get_or lists d []) t c (are.back d m') (back_at prevs homes c 4294967295 xs k t (are.back c l') at).1 ne q a.0 a.1)
