-- A loop over a count reads what the recursion reads: one step on, and where a step fails.
use Rattle.std.proofs.Common.{◌≡◌, ℕ, suc, ◌+◌, ◌-◌, ◌<◌, List, [], ◌∷◌, ◌++◌, Result, Ok, Err, refl, sym, ap, subst, ◌∙◌, arith}
use Rattle.rx_codec.specs.declared.fault.CodecFault.{CodecFault}
use Rattle.rx_codec.specs.declared.fault.CodecFault.TheVariants.{Magic, Short, Long, Field, Params, Net, Memory}
use Rattle.rx_codec.specs.Reading.{◌>>=◌, Fails}

-- what fails in the first step fails
pub fails_then : {A B : Type 0} (fault : CodecFault) (read : Result A CodecFault) (f : A → Result B CodecFault) → Fails fault read → Fails fault (read >>= f)
fails_then Memory read f h = tt
fails_then Magic read f h = rw h refl
fails_then (Short need have) read f h = rw h refl
fails_then (Long extra) read f h = rw h refl
fails_then (Field at) read f h = rw h refl
fails_then (Params refused) read f h = rw h refl
fails_then (Net fault) read f h = rw h refl

-- a fault that is told fails
pub err_fails : {A : Type 0} (fault : CodecFault) (read : Result A CodecFault) → read ≡ Err fault → Fails fault read
err_fails Memory read h = tt
err_fails Magic read h = h
err_fails (Short need have) read h = h
err_fails (Long extra) read h = h
err_fails (Field at) read h = h
err_fails (Params refused) read h = h
err_fails (Net fault) read h = h

-- `rest n before at` reads n more after those before; `one before at` reads the next
abbrev pub Goes : {X : Type 0} → (ℕ → List X → ℕ → Result (List X × ℕ) CodecFault) → (List X → ℕ → Result (X × ℕ) CodecFault) → Type 0
Goes {X} rest one = (n : ℕ) (before : List X) (at : ℕ) → rest (suc n) before at ≡ (one before at >>= λ x. rest n (before ++ x.0 ∷ []) x.1)

pub goes_on : {X : Type 0} (rest : ℕ → List X → ℕ → Result (List X × ℕ) CodecFault) (one : List X → ℕ → Result (X × ℕ) CodecFault) → Goes rest one → (count i : ℕ) (before : List X) (at : ℕ) (x : X) (after : ℕ) (total : Result (List X × ℕ) CodecFault) → i < count → one before at ≡ Ok (x, after) → rest (count - i) before at ≡ total → rest (count - (i + 1)) (before ++ x ∷ []) after ≡ total
goes_on {X} rest one step count i before at x after total lt read so_far =
    let k : count - i ≡ suc (count - (i + 1)) = omega arith in
    let next : rest (suc (count - (i + 1))) before at ≡ rest (count - (i + 1)) (before ++ x ∷ []) after =
    step (count - (i + 1)) before at ∙ ap (λ (r : Result (X × ℕ) CodecFault). r >>= λ y. rest (count - (i + 1)) (before ++ y.0 ∷ []) y.1) read in
    sym next ∙ ap (λ (n : ℕ). rest n before at) (sym k) ∙ so_far

pub stops : {X : Type 0} (rest : ℕ → List X → ℕ → Result (List X × ℕ) CodecFault) (one : List X → ℕ → Result (X × ℕ) CodecFault) → Goes rest one → (fault : CodecFault) (count i : ℕ) (before : List X) (at : ℕ) (total : Result (List X × ℕ) CodecFault) → i < count → Fails fault (one before at) → rest (count - i) before at ≡ total → Fails fault total
stops rest one step fault count i before at total lt failed so_far =
    let k : count - i ≡ suc (count - (i + 1)) = omega arith in
    let next = sym so_far ∙ ap (λ (n : ℕ). rest n before at) k ∙ step (count - (i + 1)) before at in
    subst (Fails fault) (sym next) (fails_then fault (one before at) (λ y. rest (count - (i + 1)) (before ++ y.0 ∷ []) y.1) failed)
