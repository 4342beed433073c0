-- Kept jobs and numbers of cells, job after job and cell after cell.
use Rattle.std.proofs.Common.{◌≡◌, ℕ, zero, suc, ◌+◌, ◌<◌, ◌≤◌, Bool, true, false, cond, List, [], ◌∷◌, ◌++◌, length, get_or, drop, map, refl, sym, ◌∙◌, ap, arith}
use Rattle.std.proofs.lemmas.List.{append_assoc, append-nil, drop_more}
use Rattle.rx_net.specs.declared.net.Job.{Job}
use Rattle.rx_fold.specs.Jobs.{moved}
use Rattle.rx_fold.specs.Folded.{numbered, kept_of}
use Rattle.rx_fold.proofs.Numbering.{numbered_yes, numbered_no}

-- one job more, which is kept or not
pub kept_more : (kept : ℕ → Bool) (f : ℕ → ℕ) (n : ℕ) (jobs : List Job) (i : ℕ) (job : Job) (ms new : List Job) → i < length jobs → job ≡ get_or jobs i job
    → (ms ++ map (moved f) (kept_of kept (n + i) (drop i jobs))) ≡ map (moved f) (kept_of kept n jobs)
    → new ≡ ms ++ cond (kept (n + i)) (moved f job ∷ []) []
    → (new ++ map (moved f) (kept_of kept (n + (i + 1)) (drop (i + 1) jobs))) ≡ map (moved f) (kept_of kept n jobs)
unfolding kept_of
kept_more kept f n jobs i job ms new l e h p =
    let rest : List Job = drop (i + 1) jobs in
    let z : n + (i + 1) ≡ suc (n + i) = omega arith in
    let own : drop i jobs ≡ job ∷ rest = drop_more jobs i job l ∙ ap (λ (j : Job). j ∷ rest) (sym e) in
    (λ k. p k ++ map (moved f) (kept_of kept (z k) rest)) ∙ by_test (kept (n + i))
    ∙ (λ k. ms ++ map (moved f) (kept_of kept (n + i) (sym own k))) ∙ h
  where
    by_test : (b : Bool) → ((ms ++ cond b (moved f job ∷ []) []) ++ map (moved f) (kept_of kept (suc (n + i)) (drop (i + 1) jobs)))
        ≡ (ms ++ map (moved f) (cond b (job ∷ kept_of kept (suc (n + i)) (drop (i + 1) jobs)) (kept_of kept (suc (n + i)) (drop (i + 1) jobs))))
    by_test true = append_assoc ms (moved f job ∷ []) (map (moved f) (kept_of kept (suc (n + i)) (drop (i + 1) jobs)))
    by_test false = ap (λ (xs : List Job). xs ++ map (moved f) (kept_of kept (suc (n + i)) (drop (i + 1) jobs))) (append-nil ms)

none_left : {A : Type 0} (xs : List A) (i : ℕ) → length xs ≤ i → drop i xs ≡ []
none_left [] zero l = refl
none_left [] (suc i) l = refl
none_left (x ∷ xs) zero l = absurd (omega arith)
none_left (x ∷ xs) (suc i) l = none_left xs i (omega arith)

pub kept_done : (kept : ℕ → Bool) (f : ℕ → ℕ) (n : ℕ) (jobs : List Job) (i : ℕ) (ms : List Job) → length jobs ≤ i
    → (ms ++ map (moved f) (kept_of kept (n + i) (drop i jobs))) ≡ map (moved f) (kept_of kept n jobs) → ms ≡ map (moved f) (kept_of kept n jobs)
unfolding kept_of
kept_done kept f n jobs i ms l h = sym (append-nil ms) ∙ (λ k. ms ++ map (moved f) (kept_of kept (n + i) (sym (none_left jobs i l) k))) ∙ h

-- one cell more that is numbered
pub numbered_next : (kept : ℕ → Bool) (c n m : ℕ) (is_kept : Bool) → n ≡ numbered kept c → is_kept ≡ kept c → m ≡ cond is_kept (n + 1) n → m ≡ numbered kept (c + 1)
numbered_next kept c n m true h e p = let z : suc c ≡ c + 1 = omega arith in let y = numbered_yes kept c (sym e) in let a = ap (numbered kept) z in omega (arith, p, y, h, a)
numbered_next kept c n m false h e p = let z : suc c ≡ c + 1 = omega arith in let y = numbered_no kept c (sym e) in let a = ap (numbered kept) z in omega (arith, p, y, h, a)
