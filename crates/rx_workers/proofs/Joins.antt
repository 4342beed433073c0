-- What is left of a list of workers, one after another.
use Rattle.std.proofs.Common.{◌≡◌, ℕ, List, [], ◌∷◌, ◌++◌, map, refl, ap, ◌∙◌, sym, subst}
use Rattle.std.specs.Prelude.{All, reverse}
use Rattle.std.proofs.lemmas.List.{append-nil, append_assoc, map-append, reverse-append}
use Rattle.std.proofs.lemmas.List.Elements.{All-push}
use mathlib.Core.List.{reverse-cons}
use Rattle.rx_board.specs.declared.view.View.{View}
use Rattle.rx_board.specs.Steps.{both_of}
use Rattle.rx_workers.specs.declared.worker.Worker.{Worker}
use Rattle.rx_workers.specs.Crew.{KnowsAll, HasJoined, kernels_of}
use Rattle.rx_workers.proofs.Turns.{knows_on, knows_own, knows_other}

-- once the seat of the last of vs is joined, what knows all of the seats ws that are left and of the joined one knows all
pub joined_more : {K : Type 0} (all vs ws : List (Worker K)) (w : Worker K) (before after : View) → vs ≡ ws ++ w ∷ [] →
    after ≡ both_of before w.seat.view → ((v : View) → KnowsAll before v → HasJoined vs v → HasJoined all v) →
    (v : View) → KnowsAll after v → HasJoined ws v → HasJoined all v
joined_more {K} all vs ws w before after e j goes v h rest =
    goes v (knows_on before after v (knows_own before w.seat.view after j) h)
    (subst (λ (xs : List (Worker K)). HasJoined xs v) (sym e)
    (All-push (λ (x : Worker K). KnowsAll x.seat.view v) ws w rest (knows_on w.seat.view after v (knows_other before w.seat.view after j) h)))

-- one worker more, of the last of the kernels that are left
pub kernels_more : {K : Type 0} (ws : List (Worker K)) (w : Worker K) (xs ys all : List K) → xs ≡ ys ++ w.kernel ∷ [] →
    kernels_of ws ++ reverse xs ≡ all → kernels_of (ws ++ w ∷ []) ++ reverse ys ≡ all
kernels_more {K} ws w xs ys all e h =
    ap (λ (ks : List K). ks ++ reverse ys) (map-append (λ (x : Worker K). x.kernel) ws (w ∷ []))
    ∙ append_assoc (kernels_of ws) (w.kernel ∷ []) (reverse ys)
    ∙ ap (λ (ks : List K). kernels_of ws ++ ks) (sym (ap reverse e ∙ reverse-append ys (w.kernel ∷ [])))
    ∙ h

-- the worker of the first kernel after all others
pub kernels_all : {K : Type 0} (ws : List (Worker K)) (w : Worker K) (xs others : List K) → xs ≡ [] →
    kernels_of ws ++ reverse xs ≡ reverse others → kernels_of (ws ++ w ∷ []) ≡ reverse (w.kernel ∷ others)
kernels_all {K} ws w xs others e h =
    map-append (λ (x : Worker K). x.kernel) ws (w ∷ [])
    ∙ ap (λ (ks : List K). ks ++ w.kernel ∷ []) (sym (append-nil (kernels_of ws)) ∙ ap (λ (ks : List K). kernels_of ws ++ reverse ks) (sym e) ∙ h)
    ∙ sym (reverse-cons w.kernel others)
