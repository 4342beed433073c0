-- What a writer tells after one more piece of the bytes was taken.
use Rattle.std.proofs.Common.{◌≡◌, ℕ, ◌-◌, List, [], ◌++◌, length, take, drop, Option, Some, None, sym, ◌∙◌, ap, subst, append_assoc, append-nil, take-append-drop}
use Rattle.std.proofs.lemmas.List.{take_rest}
use Rattle.std.specs.Io.KnownBytes.{Appends, Keeps}
use Rattle.std.proofs.Math.Seq.{take-append_seam}
use Rattle.rx_store.specs.Real.{TakesPart}

-- the first bytes of those that are left are done too, and the others are left
pub split_further : (all done rest : List ℕ) (n : ℕ) → all ≡ done ++ rest →
    all ≡ (done ++ take n rest) ++ take (length rest - n) (drop n rest)
split_further all done rest n split =
    rw (take_rest rest n, append_assoc done (take n rest) (drop n rest), take-append-drop n rest) split

-- one piece after the other
pub appends_both : (before between now : Option (List ℕ)) (first second : List ℕ) →
    Appends before between first → Appends between now second → Appends before now (first ++ second)
appends_both None between now first second p q = tt
appends_both (Some x) None now first second p q = absurd p
appends_both (Some x) (Some y) None first second p q = absurd q
appends_both (Some x) (Some y) (Some z) first second p q = rw (q, p) (append_assoc x first second)

-- a write that failed, or took nothing
pub stays : (before between now : Option (List ℕ)) (done : List ℕ) → Appends before between done → Keeps between now → Appends before now done
stays None between now done p q = tt
stays (Some x) None now done p q = absurd p
stays (Some x) (Some y) None done p q = absurd q
stays (Some x) (Some y) (Some z) done p q = q ∙ p

pub nothing_more : (before between now : Option (List ℕ)) (done : List ℕ) → Appends before between done → Appends between now [] → Appends before now done
nothing_more before between now done p q = subst (Appends before now) (append-nil done) (appends_both before between now done [] p q)

-- what is done is some first bytes of all
pub first_part : (before now : Option (List ℕ)) (all done rest : List ℕ) → all ≡ done ++ rest → Appends before now done → TakesPart before now all
first_part before now all done rest split p =
    (length done, subst (Appends before now) (sym (ap (take (length done)) split ∙ take-append_seam done rest)) p)
