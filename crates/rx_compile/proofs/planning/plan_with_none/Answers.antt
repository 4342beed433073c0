use Rattle.std.proofs.Common.{◌≡◌, ℕ, List, [], get_or, sym, ap, subst, ◌∙◌}
use Rattle.std.specs.Prelude.{IsTrue}
use Rattle.rx_net.specs.declared.net.Net.{Net}
use Rattle.rx_language.specs.declared.word.Word.{Word}
use Rattle.rx_language.specs.declared.kind.NameKind.{NameKind}
use Rattle.rx_language.specs.declared.line.Line.{Line}
use Rattle.rx_language.specs.Programs.{Program, IsProgram}
use Rattle.rx_meaning.specs.Kinds.{is_kind}
use Rattle.rx_meaning.specs.Costs.{cost_by}
use Rattle.rx_compile.specs.Realized.{RealizesNone}
use Rattle.rx_compile.specs.Arms.{Takes}
use Rattle.rx_compile.specs.States.{line_at, step_at, IsNext, Plans}
use Rattle.rx_compile.proofs.Steps.{steps_there, line_here, kind_read}
use Rattle.rx_compile.proofs.Wanted.{none_of, takes, kind_holds, room_is, cost_own, planned_none}
use Rattle.rx_compile.proofs.planning.plan_with_none.Goals as goal

pub bounds-steps-place : goal.bounds-steps-place
bounds-steps-place c = steps_there c.args.circuit.now c.steps.result.now c.args.place c.steps.ensures.value c.requires.next.there

pub bounds-steps-place-2 : goal.bounds-steps-place-2
bounds-steps-place-2 c = bounds-steps-place c

pub plan_none-requires-clause-takes : goal.plan_none-requires-clause-takes
plan_none-requires-clause-takes c =
    let p : Program = c.args.circuit.now in
    let k : ℕ = c.args.place in
    let old : Net = c.args.pen.now in
    let names : List (List ℕ) = c.args.cells.now in
    let next : IsNext p old names k = c.requires.next in
    let lawful : IsProgram p = c.steps.ensures.lawful in
    let line : Line = c.index-lines-place.result in
    let kind : NameKind = (get_or c.steps.result.now k c.index-steps-place.result).kind in
    let ek : kind ≡ (step_at p k).kind = kind_read p c.steps.result.now k c.index-steps-place.result c.steps.ensures.value next.there in
    let el : line ≡ line_at p k = line_here p c.lines.result.now k line c.lines.ensures.value next.there c.index-lines-place.is in
    let ew : line.word ≡ (line_at p k).word = ap (λ (l : Line). l.word) el in
    let en : line.number ≡ (line_at p k).number = ap (λ (l : Line). l.number) el in
    let t0 = takes p k lawful next.there c.requires.plain c.requires.inner ([]) (none_of (step_at p k).sources c.requires.sources) in
    let t1 = subst (λ (x : Word). Takes x (line_at p k).number ([]) (step_at p k).kind) (sym ew) t0 in
    let t2 = subst (λ (x : ℕ). Takes line.word x ([]) (step_at p k).kind) (sym en) t1 in
    subst (λ (x : NameKind). Takes line.word line.number ([]) x) (sym ek) t2

pub plan_none-requires-clause-kind : goal.plan_none-requires-clause-kind
plan_none-requires-clause-kind c =
    let p : Program = c.args.circuit.now in
    let k : ℕ = c.args.place in
    let old : Net = c.args.pen.now in
    let names : List (List ℕ) = c.args.cells.now in
    let next : IsNext p old names k = c.requires.next in
    let lawful : IsProgram p = c.steps.ensures.lawful in
    let line : Line = c.index-lines-place.result in
    let kind : NameKind = (get_or c.steps.result.now k c.index-steps-place.result).kind in
    let ek : kind ≡ (step_at p k).kind = kind_read p c.steps.result.now k c.index-steps-place.result c.steps.ensures.value next.there in
    let el : line ≡ line_at p k = line_here p c.lines.result.now k line c.lines.ensures.value next.there c.index-lines-place.is in
    let ew : line.word ≡ (line_at p k).word = ap (λ (l : Line). l.word) el in
    let en : line.number ≡ (line_at p k).number = ap (λ (l : Line). l.number) el in
    subst (λ (x : NameKind). IsTrue (is_kind old.space x)) (sym ek) (kind_holds p k old names next lawful k)

pub plan_none-requires-clause-room : goal.plan_none-requires-clause-room
plan_none-requires-clause-room c =
    let p : Program = c.args.circuit.now in
    let k : ℕ = c.args.place in
    let old : Net = c.args.pen.now in
    let names : List (List ℕ) = c.args.cells.now in
    let next : IsNext p old names k = c.requires.next in
    let lawful : IsProgram p = c.steps.ensures.lawful in
    let line : Line = c.index-lines-place.result in
    let kind : NameKind = (get_or c.steps.result.now k c.index-steps-place.result).kind in
    let ek : kind ≡ (step_at p k).kind = kind_read p c.steps.result.now k c.index-steps-place.result c.steps.ensures.value next.there in
    let el : line ≡ line_at p k = line_here p c.lines.result.now k line c.lines.ensures.value next.there c.index-lines-place.is in
    let ew : line.word ≡ (line_at p k).word = ap (λ (l : Line). l.word) el in
    let en : line.number ≡ (line_at p k).number = ap (λ (l : Line). l.number) el in
    let e : cost_by line.word old.space kind kind ≡ cost_by (line_at p k).word old.space (step_at p k).kind (step_at p k).kind =
    ap (λ w. cost_by w old.space kind kind) ew ∙ ap (λ x. cost_by (line_at p k).word old.space x x) ek
    in
    room_is p k old names next lawful (cost_by line.word old.space kind kind) (e ∙ cost_own p k old names next lawful c.requires.sources c.requires.inner)

pub returns : goal.returns
returns c =
    let p : Program = c.args.circuit.now in
    let k : ℕ = c.args.place in
    let old : Net = c.args.pen.now in
    let names : List (List ℕ) = c.args.cells.now in
    let next : IsNext p old names k = c.requires.next in
    let lawful : IsProgram p = c.steps.ensures.lawful in
    let line : Line = c.index-lines-place.result in
    let kind : NameKind = (get_or c.steps.result.now k c.index-steps-place.result).kind in
    let ek : kind ≡ (step_at p k).kind = kind_read p c.steps.result.now k c.index-steps-place.result c.steps.ensures.value next.there in
    let el : line ≡ line_at p k = line_here p c.lines.result.now k line c.lines.ensures.value next.there c.index-lines-place.is in
    let ew : line.word ≡ (line_at p k).word = ap (λ (l : Line). l.word) el in
    let en : line.number ≡ (line_at p k).number = ap (λ (l : Line). l.number) el in
    let new : Net = c.plan_none.new.pen in
    let made : List ℕ = c.in_ok-made.made.items in
    let r0 = c.in_ok-made.ensures.realized in
    let r1 = subst (λ (x : Word). RealizesNone x line.number old new kind made) ew r0 in
    let r2 = subst (λ (x : ℕ). RealizesNone (line_at p k).word x old new kind made) en r1 in
    let r3 = subst (λ (x : NameKind). RealizesNone (line_at p k).word (line_at p k).number old new x made) ek r2 in
    subst (λ (xs : List ℕ). Plans p k old new xs) (sym c.from_vec.ensures) (planned_none p k old names next lawful new made (cost_by (line_at p k).word old.space (step_at p k).kind (step_at p k).kind) (cost_own p k old names next lawful c.requires.sources c.requires.inner) c.requires.sources c.requires.plain r3)
