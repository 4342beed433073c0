use Rattle.std.proofs.Common.{◌≡◌, ◌++◌, ◌<◌, ◌-◌, ℕ, List, length, get_or, take, drop, arith, rules, sym, subst, ◌∙◌}
use Rattle.std.specs.Prelude.{Some}
use Rattle.std.proofs.lemmas.List.{get_or-take, get_or_append_left, length-append, length-take-le}
use Rattle.std.proofs.lemmas.List.Elements.{All-push}
use Rattle.rx_board.specs.declared.view.View.{View}
use Rattle.rx_workers.specs.declared.worker.Worker.{Worker}
use Rattle.rx_workers.specs.Crew.{HasDrained, HasJoined, KnowsAll}
use Rattle.rx_workers.proofs.Turns.{drained_later, knows_on}
use Rattle.rx_workers.proofs.crew.work.Goals as goal

-- an element of a list that was written from end to end
written-at : {A : Type 0} (n k : ℕ) (xs ys : List A) (d : A) → length ys ≡ n → k < n → get_or (take n (ys ++ drop (length ys) xs)) k d ≡ get_or ys k d
written-at n k xs ys d long low = get_or-take n (ys ++ drop (length ys) xs) k d low ∙ get_or_append_left ys (drop (length ys) xs) d k (omega arith)

pub returns-clause-drained : goal.returns-clause-drained
returns-clause-drained g c =
    let n : ℕ = c.args.workers.len in
    let ys : List (Worker g.row.K.Denot) = c.drain_all.new.workers in
    let long : length ys ≡ n = search rules in
    let some : 0 < n = search rules in
    let e : Some c.in-Some.last ≡ Some (get_or (take n (ys ++ drop (length ys) c.args.workers.items)) (n - 1) c.in-Some.last) =
    c.in-Some.ensures.value c.in-Some.last some in
    let is : c.in-Some.last ≡ get_or ys (n - 1) c.in-Some.last =
    (let same : c.in-Some.last ≡ get_or (take n (ys ++ drop (length ys) c.args.workers.items)) (n - 1) c.in-Some.last = cc in same)
    ∙ written-at n (n - 1) c.args.workers.items ys c.in-Some.last long (omega arith) in
    let last : HasDrained c.args.board.now c.in-Some.last.seat.view =
    subst (λ (w : Worker g.row.K.Denot). HasDrained c.args.board.now w.seat.view) (sym is)
    (c.drain_all.ensures.drained (n - 1) c.in-Some.last (omega arith)) in
    drained_later c.args.board.now c.in-Some.last.seat.view c.join_all.new.seat.view last c.join_all.ensures.knows.known c.join_all.ensures.met

-- what the seats knew before they were drained they know after, and then the joined seat knows it
pub returns-clause-joined : goal.returns-clause-joined
returns-clause-joined g c = λ i d low.
    let n : ℕ = c.args.workers.len in
    let xs : List (Worker g.row.K.Denot) = c.args.workers.items in
    let ys : List (Worker g.row.K.Denot) = c.drain_all.new.workers in
    let long : length ys ≡ n = search rules in
    let count : length xs ≡ n = search rules in
    let v : View = c.join_all.new.seat.view in
    let now : HasJoined (take n (ys ++ drop (length ys) xs)) v =
    subst (λ (ws : List (Worker g.row.K.Denot)). HasJoined ws v) (sym c.in-Some.ensures.items)
    (All-push (λ (w : Worker g.row.K.Denot). KnowsAll w.seat.view v) _ c.in-Some.last c.join_all.ensures.joined c.join_all.ensures.knows) in
    let all : length (take n (ys ++ drop (length ys) xs)) ≡ n = length-take-le n (ys ++ drop (length ys) xs) (let e = length-append ys (drop (length ys) xs) in omega arith) in
    let at : KnowsAll (get_or (take n (ys ++ drop (length ys) xs)) i d).seat.view v = now i d (omega arith) in
    let lent = c.drain_all.ensures.knows i d (omega arith) in
    let before : KnowsAll (get_or xs i d).seat.view (get_or ys i d).seat.view = search rules in
    knows_on (get_or xs i d).seat.view (get_or ys i d).seat.view v before
    (subst (λ (w : Worker g.row.K.Denot). KnowsAll w.seat.view v) (written-at n i xs ys d long (omega arith)) at)
