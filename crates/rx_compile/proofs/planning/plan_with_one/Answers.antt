use Rattle.std.proofs.Common.{◌≡◌, ℕ, List, [], ◌∷◌, get_or, sym, ap, subst, ◌∙◌, arith}
use Rattle.std.specs.Prelude.{IsTrue}
use Rattle.rx_net.specs.declared.net.Net.{Net}
use Rattle.rx_language.specs.declared.word.Word.{Word}
use Rattle.rx_language.specs.declared.kind.NameKind.{NameKind}
use Rattle.rx_language.specs.declared.line.Line.{Line}
use Rattle.rx_language.specs.Programs.{Program, kind_at, steps_of, IsProgram}
use Rattle.rx_meaning.specs.Kinds.{is_kind}
use Rattle.rx_meaning.specs.Costs.{cost_by}
use Rattle.rx_compile.specs.Realized.{RealizesOne}
use Rattle.rx_compile.specs.Arms.{Takes, IsArgument}
use Rattle.rx_compile.specs.States.{line_at, step_at, source_at, IsNext, Plans}
use Rattle.rx_compile.proofs.Steps.{steps_there, line_here, kind_read}
use Rattle.rx_compile.proofs.Wanted.{one_of, takes, kind_holds, argument_is, room_is, cost_given, planned_one}
use Rattle.rx_compile.proofs.planning.plan_with_one.Goals as goal

pub bounds-steps-place : goal.bounds-steps-place
bounds-steps-place c = steps_there c.args.circuit.now c.steps.result.now c.args.place c.steps.ensures.value c.requires.next.there

pub bounds-steps-place-2 : goal.bounds-steps-place-2
bounds-steps-place-2 c = bounds-steps-place c

pub argument-a-requires-clause-number : goal.argument-a-requires-clause-number
argument-a-requires-clause-number c = omega (arith, c.requires.sources)

pub plan_one-requires-clause-takes : goal.plan_one-requires-clause-takes
plan_one-requires-clause-takes c =
    let p : Program = c.args.circuit.now in
    let k : ℕ = c.args.place in
    let old : Net = c.args.pen.now in
    let names : List (List ℕ) = c.args.cells.now in
    let next : IsNext p old names k = c.requires.next in
    let lawful : IsProgram p = c.steps.ensures.lawful in
    let line : Line = c.index-lines-place.result in
    let kind : NameKind = (get_or c.steps.result.now k c.index-steps-place.result).kind in
    let ek : kind ≡ (step_at p k).kind = kind_read p c.steps.result.now k c.index-steps-place.result c.steps.ensures.value next.there in
    let el : line ≡ line_at p k = line_here p c.lines.result.now k line c.lines.ensures.value next.there c.index-lines-place.is in
    let ew : line.word ≡ (line_at p k).word = ap (λ (l : Line). l.word) el in
    let en : line.number ≡ (line_at p k).number = ap (λ (l : Line). l.number) el in
    let ea : c.argument-a.result.kind ≡ kind_at (steps_of p) (source_at p k 0) = c.argument-a.ensures.kind in
    let da : c.argument-a.result.cells.now ≡ get_or names (source_at p k 0) [] = c.argument-a.ensures.cells in
    let t0 = takes p k lawful next.there c.requires.plain c.requires.inner (source_at p k 0 ∷ []) (one_of (step_at p k).sources c.requires.sources) in
    let t1 = subst (λ (x : Word). Takes x (line_at p k).number (kind_at (steps_of p) (source_at p k 0) ∷ []) (step_at p k).kind) (sym ew) t0 in
    let t2 = subst (λ (x : ℕ). Takes line.word x (kind_at (steps_of p) (source_at p k 0) ∷ []) (step_at p k).kind) (sym en) t1 in
    let t3 = subst (λ (x : NameKind). Takes line.word line.number (x ∷ []) (step_at p k).kind) (sym ea) t2 in
    subst (λ (x : NameKind). Takes line.word line.number (c.argument-a.result.kind ∷ []) x) (sym ek) t3

pub plan_one-requires-clause-kind : goal.plan_one-requires-clause-kind
plan_one-requires-clause-kind c =
    let p : Program = c.args.circuit.now in
    let k : ℕ = c.args.place in
    let old : Net = c.args.pen.now in
    let names : List (List ℕ) = c.args.cells.now in
    let next : IsNext p old names k = c.requires.next in
    let lawful : IsProgram p = c.steps.ensures.lawful in
    let line : Line = c.index-lines-place.result in
    let kind : NameKind = (get_or c.steps.result.now k c.index-steps-place.result).kind in
    let ek : kind ≡ (step_at p k).kind = kind_read p c.steps.result.now k c.index-steps-place.result c.steps.ensures.value next.there in
    let el : line ≡ line_at p k = line_here p c.lines.result.now k line c.lines.ensures.value next.there c.index-lines-place.is in
    let ew : line.word ≡ (line_at p k).word = ap (λ (l : Line). l.word) el in
    let en : line.number ≡ (line_at p k).number = ap (λ (l : Line). l.number) el in
    subst (λ (x : NameKind). IsTrue (is_kind old.space x)) (sym ek) (kind_holds p k old names next lawful k)

pub plan_one-requires-clause-argument : goal.plan_one-requires-clause-argument
plan_one-requires-clause-argument c =
    let p : Program = c.args.circuit.now in
    let k : ℕ = c.args.place in
    let old : Net = c.args.pen.now in
    let names : List (List ℕ) = c.args.cells.now in
    let next : IsNext p old names k = c.requires.next in
    let lawful : IsProgram p = c.steps.ensures.lawful in
    let line : Line = c.index-lines-place.result in
    let kind : NameKind = (get_or c.steps.result.now k c.index-steps-place.result).kind in
    let ek : kind ≡ (step_at p k).kind = kind_read p c.steps.result.now k c.index-steps-place.result c.steps.ensures.value next.there in
    let el : line ≡ line_at p k = line_here p c.lines.result.now k line c.lines.ensures.value next.there c.index-lines-place.is in
    let ew : line.word ≡ (line_at p k).word = ap (λ (l : Line). l.word) el in
    let en : line.number ≡ (line_at p k).number = ap (λ (l : Line). l.number) el in
    let ea : c.argument-a.result.kind ≡ kind_at (steps_of p) (source_at p k 0) = c.argument-a.ensures.kind in
    let da : c.argument-a.result.cells.now ≡ get_or names (source_at p k 0) [] = c.argument-a.ensures.cells in
    subst (λ (x : NameKind). IsArgument old x c.argument-a.result.cells.now) (sym ea)
    (subst (λ (xs : List ℕ). IsArgument old (kind_at (steps_of p) (source_at p k 0)) xs) (sym da) (argument_is p k old names next lawful 0 (omega (arith, c.requires.sources))))

pub plan_one-requires-clause-room : goal.plan_one-requires-clause-room
plan_one-requires-clause-room c =
    let p : Program = c.args.circuit.now in
    let k : ℕ = c.args.place in
    let old : Net = c.args.pen.now in
    let names : List (List ℕ) = c.args.cells.now in
    let next : IsNext p old names k = c.requires.next in
    let lawful : IsProgram p = c.steps.ensures.lawful in
    let line : Line = c.index-lines-place.result in
    let kind : NameKind = (get_or c.steps.result.now k c.index-steps-place.result).kind in
    let ek : kind ≡ (step_at p k).kind = kind_read p c.steps.result.now k c.index-steps-place.result c.steps.ensures.value next.there in
    let el : line ≡ line_at p k = line_here p c.lines.result.now k line c.lines.ensures.value next.there c.index-lines-place.is in
    let ew : line.word ≡ (line_at p k).word = ap (λ (l : Line). l.word) el in
    let en : line.number ≡ (line_at p k).number = ap (λ (l : Line). l.number) el in
    let ea : c.argument-a.result.kind ≡ kind_at (steps_of p) (source_at p k 0) = c.argument-a.ensures.kind in
    let da : c.argument-a.result.cells.now ≡ get_or names (source_at p k 0) [] = c.argument-a.ensures.cells in
    let f : NameKind = c.argument-a.result.kind in
    let e : cost_by line.word old.space kind f ≡ cost_by (line_at p k).word old.space (step_at p k).kind (kind_at (steps_of p) (source_at p k 0)) =
    ap (λ w. cost_by w old.space kind f) ew ∙ ap (λ x. cost_by (line_at p k).word old.space x f) ek ∙ ap (cost_by (line_at p k).word old.space (step_at p k).kind) ea
    in
    room_is p k old names next lawful (cost_by line.word old.space kind f) (e ∙ cost_given p k old names next lawful ([]) (one_of (step_at p k).sources c.requires.sources))

pub returns : goal.returns
returns c =
    let p : Program = c.args.circuit.now in
    let k : ℕ = c.args.place in
    let old : Net = c.args.pen.now in
    let names : List (List ℕ) = c.args.cells.now in
    let next : IsNext p old names k = c.requires.next in
    let lawful : IsProgram p = c.steps.ensures.lawful in
    let line : Line = c.index-lines-place.result in
    let kind : NameKind = (get_or c.steps.result.now k c.index-steps-place.result).kind in
    let ek : kind ≡ (step_at p k).kind = kind_read p c.steps.result.now k c.index-steps-place.result c.steps.ensures.value next.there in
    let el : line ≡ line_at p k = line_here p c.lines.result.now k line c.lines.ensures.value next.there c.index-lines-place.is in
    let ew : line.word ≡ (line_at p k).word = ap (λ (l : Line). l.word) el in
    let en : line.number ≡ (line_at p k).number = ap (λ (l : Line). l.number) el in
    let ea : c.argument-a.result.kind ≡ kind_at (steps_of p) (source_at p k 0) = c.argument-a.ensures.kind in
    let da : c.argument-a.result.cells.now ≡ get_or names (source_at p k 0) [] = c.argument-a.ensures.cells in
    let new : Net = c.plan_one.new.pen in
    let made : List ℕ = c.in_ok-made.made.items in
    let r0 = c.in_ok-made.ensures.realized in
    let r1 = subst (λ (x : Word). RealizesOne x line.number old new kind made (c.argument-a.result.kind) (c.argument-a.result.cells.now)) ew r0 in
    let r2 = subst (λ (x : ℕ). RealizesOne (line_at p k).word x old new kind made (c.argument-a.result.kind) (c.argument-a.result.cells.now)) en r1 in
    let r3 = subst (λ (x : NameKind). RealizesOne (line_at p k).word (line_at p k).number old new x made (c.argument-a.result.kind) (c.argument-a.result.cells.now)) ek r2 in
    let r4 = subst (λ (x : NameKind). RealizesOne (line_at p k).word (line_at p k).number old new (step_at p k).kind made (x) (c.argument-a.result.cells.now)) ea r3 in
    let r5 = subst (λ (x : List ℕ). RealizesOne (line_at p k).word (line_at p k).number old new (step_at p k).kind made (kind_at (steps_of p) (source_at p k 0)) (x)) da r4 in
    subst (λ (xs : List ℕ). Plans p k old new xs) (sym c.from_vec.ensures) (planned_one p k old names next lawful new made c.requires.sources c.requires.plain r5)
