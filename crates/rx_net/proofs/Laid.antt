-- The fold that lays one cell for each job.
use Rattle.std.proofs.Common.{◌≡◌, ℕ, zero, suc, ◌+◌, ◌-◌, ◌<◌, ◌≤◌, List, [], ◌∷◌, ◌++◌, length, get_or, refl, ◌∙◌, ap, arith, length-append}
use Rattle.std.proofs.lemmas.List.{get_or_append_left, get_or-append_right}
use Rattle.rx_net.specs.declared.net.Job.{Job}
use Rattle.rx_net.specs.Cells.{laid}

pub length-laid : {A : Type 0} (step : Job → List A → A) (xs : List A) (js : List Job) → length (laid step xs js) ≡ length xs + length js
unfolding laid
length-laid step xs [] = omega arith
length-laid step xs (j ∷ js) = omega (arith, length-laid step (xs ++ step j xs ∷ []) js, length-append xs (step j xs ∷ []))

-- cells that are there stay
pub laid_before : {A : Type 0} (step : Job → List A → A) (xs : List A) (js : List Job) (d : A) (c : ℕ) → c < length xs → get_or (laid step xs js) c d ≡ get_or xs c d
unfolding laid
laid_before step xs [] d c p = refl
laid_before step xs (j ∷ js) d c p =
    let l : c < length (xs ++ step j xs ∷ []) = omega (arith, length-append xs (step j xs ∷ [])) in
    laid_before step (xs ++ step j xs ∷ []) js d c l ∙ get_or_append_left xs (step j xs ∷ []) d c p

-- one job more
pub laid-last : {A : Type 0} (step : Job → List A → A) (xs : List A) (js : List Job) (j : Job) → laid step xs (js ++ j ∷ []) ≡ laid step xs js ++ step j (laid step xs js) ∷ []
unfolding laid
laid-last step xs [] j = refl
laid-last step xs (k ∷ js) j = laid-last step (xs ++ step k xs ∷ []) js j

pub laid_kept : {A : Type 0} (step : Job → List A → A) (xs : List A) (js : List Job) (j : Job) (d : A) (c : ℕ) → c < length xs + length js
    → get_or (laid step xs (js ++ j ∷ [])) c d ≡ get_or (laid step xs js) c d
laid_kept step xs js j d c p =
    let l : c < length (laid step xs js) = omega (arith, length-laid step xs js) in
    ap (λ l. get_or l c d) (laid-last step xs js j) ∙ get_or_append_left (laid step xs js) (step j (laid step xs js) ∷ []) d c l

pub get_or_end : {A : Type 0} (xs : List A) (x d : A) (c : ℕ) → c ≡ length xs → get_or (xs ++ x ∷ []) c d ≡ x
get_or_end xs x d c e =
    let z : c - length xs ≡ 0 = omega arith in
    let h : length xs ≤ c = omega arith in
    get_or-append_right xs (x ∷ []) (length xs) c d refl h ∙ ap (λ i. get_or (x ∷ []) i d) z

pub laid_new : {A : Type 0} (step : Job → List A → A) (xs : List A) (js : List Job) (j : Job) (d : A) (c : ℕ) → c ≡ length xs + length js
    → get_or (laid step xs (js ++ j ∷ [])) c d ≡ step j (laid step xs js)
laid_new step xs js j d c p =
    ap (λ l. get_or l c d) (laid-last step xs js j)
    ∙ get_or_end (laid step xs js) (step j (laid step xs js)) d c (omega (arith, length-laid step xs js))

-- a job's cell, where the step looks at the job alone
pub laid_alone : (number : Job → ℕ) (xs : List ℕ) (js : List Job) (i : ℕ) (j : Job) → i < length js
    → get_or (laid (λ job cells. number job) xs js) (length xs + i) 0 ≡ number (get_or js i j)
unfolding laid
laid_alone number xs [] i j p = absurd (omega arith)
laid_alone number xs (k ∷ js) zero j p =
    let n : length xs + 0 ≡ length xs = omega arith in
    let l : length xs < length (xs ++ number k ∷ []) = omega (arith, length-append xs (number k ∷ [])) in
    ap (λ c. get_or (laid (λ job cells. number job) (xs ++ number k ∷ []) js) c 0) n
    ∙ laid_before (λ job cells. number job) (xs ++ number k ∷ []) js 0 (length xs) l
    ∙ get_or_end xs (number k) 0 (length xs) refl
laid_alone number xs (k ∷ js) (suc i) j p =
    let e : length xs + suc i ≡ length (xs ++ number k ∷ []) + i = omega (arith, length-append xs (number k ∷ [])) in
    ap (λ c. get_or (laid (λ job cells. number job) (xs ++ number k ∷ []) js) c 0) e
    ∙ laid_alone number (xs ++ number k ∷ []) js i j (omega arith)
