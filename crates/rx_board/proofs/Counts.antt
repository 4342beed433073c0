-- The counts of a board, over lists alone: how many uses of a job's operands are not credited.
-- uses c are the nodes of the cell of job c, in order; owner t is the job whose term the node t is; of each list, the first nodes are credited.
use Rattle.std.proofs.Common.{◌≡◌, ◌≢◌, ℕ, zero, suc, ◌+◌, ◌-◌, ◌%◌, ◌<◌, ◌≤◌, eqb, List, [], ◌∷◌, length, get_or, drop, length-drop, sym, refl, ap, ◌∙◌, subst, arith}
use Rattle.std.proofs.lemmas.List.{drop_more, drop_all, get_or-drop}
use mathlib.Core.Logic.{dite}
use native.Mathlib.Decide.{ℕ_discrete, dec_le}
use Rattle.rx_board.specs.Rule.{one_if, owned, owed}
use Rattle.rx_board.proofs.Totals.{one, no}

module _ (uses : ℕ → List ℕ) (owner : ℕ → ℕ) where
  pub same_owed : (p q : ℕ → ℕ) (i n : ℕ) → ((k : ℕ) → k < n → q k ≡ p k) → owed uses owner q i n ≡ owed uses owner p i n
  same_owed p q i zero same = refl
  same_owed p q i (suc n) same = let h = same_owed p q i n (λ k l. same k (omega arith)) in let e = ap (λ (m : ℕ). owned uses owner i (drop m (uses n))) (same n (omega arith)) in omega arith

  -- where one more node of c is credited, its owner's count falls by one and each other stays
  pub credited : (p q : ℕ → ℕ) (i n c : ℕ) → c < n → p c < length (uses c) → q c ≡ p c + 1 → ((k : ℕ) → k ≢ c → q k ≡ p k)
      → owed uses owner p i n ≡ owed uses owner q i n + one_if (eqb (owner (get_or (uses c) (p c) 0)) i)
  credited p q i zero c l m up same = absurd (omega arith)
  credited p q i (suc n) c l m up same = dite (ℕ_discrete c n)
      (λ e. let rest = same_owed p q i n (λ k b. same k (λ z. omega arith)) in
      let m' : p n < length (uses n) = subst (λ (z : ℕ). p z < length (uses z)) e m in
      let d = ap (owned uses owner i) (drop_more (uses n) (p n) 0 m') in
      let u = ap (λ (z : ℕ). owned uses owner i (drop z (uses n))) (subst (λ (z : ℕ). q z ≡ p z + 1) e up) in
      let w = ap (λ (z : ℕ). one_if (eqb (owner (get_or (uses z) (p z) 0)) i)) e in omega arith)
      (λ ne. let h = credited p q i n c (omega arith) m up same in let e = ap (λ (z : ℕ). owned uses owner i (drop z (uses n))) (same n (λ z. ne (sym z))) in omega arith)

  none_owned : (i k : ℕ) (ts : List ℕ) → owned uses owner i ts ≡ 0 → k < length ts → owner (get_or ts k 0) ≢ i
  none_owned i k [] z l = absurd (omega arith)
  none_owned i zero (t ∷ ts) z l = λ e. let o = one (owner t) i e in omega arith
  none_owned i (suc k) (t ∷ ts) z l = none_owned i k ts (omega arith) (omega arith)

  part_owed : (p : ℕ → ℕ) (i n c : ℕ) → c < n → owned uses owner i (drop (p c) (uses c)) ≤ owed uses owner p i n
  part_owed p i zero c l = absurd (omega arith)
  part_owed p i (suc n) c l = dite (ℕ_discrete c n) (λ e. let s = ap (λ (z : ℕ). owned uses owner i (drop (p z) (uses z))) e in omega arith) (λ ne. let h = part_owed p i n c (omega arith) in omega arith)

  -- with the count 0, each node of i is credited
  pub all_credited : (p : ℕ → ℕ) (i n c k : ℕ) → owed uses owner p i n ≡ 0 → c < n → k < length (uses c) → owner (get_or (uses c) k 0) ≡ i → k < p c
  all_credited p i n c k z l m is = let part = part_owed p i n c l in dite (dec_le (p c) k)
      (λ le. let cut = length-drop (p c) (uses c) in
      let at : get_or (drop (p c) (uses c)) (k - p c) 0 ≡ get_or (uses c) k 0 = get_or-drop (p c) (uses c) (k - p c) 0 ∙ (let e : p c + (k - p c) ≡ k = omega arith in ap (λ (x : ℕ). get_or (uses c) x 0) e) in
      absurd (none_owned i (k - p c) (drop (p c) (uses c)) (omega arith) (omega arith) (ap owner at ∙ is)))
      (λ gt. omega arith)

  -- where each cell of which i has a node is credited whole, the count is 0
  pub nothing_owed : (p : ℕ → ℕ) (i n : ℕ) → ((c : ℕ) → c < n → owned uses owner i (drop (p c) (uses c)) ≡ 0) → owed uses owner p i n ≡ 0
  nothing_owed p i zero all = refl
  nothing_owed p i (suc n) all = let h = nothing_owed p i n (λ c l. all c (omega arith)) in let e = all n (omega arith) in omega arith

  pub not_owned : (i : ℕ) (ts : List ℕ) → ((k : ℕ) → k < length ts → owner (get_or ts k 0) ≢ i) → owned uses owner i ts ≡ 0
  not_owned i [] none = refl
  not_owned i (t ∷ ts) none = let z = no (owner t) i (none 0 (omega arith)) in let h = not_owned i ts (λ k l. none (suc k) (omega arith)) in omega arith

  pub all_passed : (i n : ℕ) (ts : List ℕ) → length ts ≤ n → owned uses owner i (drop n ts) ≡ 0
  all_passed i n ts l = ap (owned uses owner i) (drop_all n ts l)

  -- the nodes behind the first n, where no node at all is i's
  pub rest_not_owned : (i n : ℕ) (ts : List ℕ) → ((k : ℕ) → k < length ts → owner (get_or ts k 0) ≢ i) → owned uses owner i (drop n ts) ≡ 0
  rest_not_owned i n ts none = not_owned i (drop n ts) (λ k l e. none (n + k) (let m = length-drop n ts in omega arith) (ap owner (sym (get_or-drop n ts k 0)) ∙ e))

-- what a fetch-and-subtract of 1 leaves of a count that is not 0
pub one_less : (n : ℕ) → 0 < n → n < 18446744073709551616 → (n + (18446744073709551616 - 1)) % 18446744073709551616 + 1 ≡ n
one_less n some small = omega arith
