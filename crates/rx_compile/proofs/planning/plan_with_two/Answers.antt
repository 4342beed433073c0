use Rattle.std.proofs.Common.{◌≡◌, ℕ, List, [], ◌∷◌, get_or, sym, ap, subst, ◌∙◌, arith}
use Rattle.std.specs.Prelude.{IsTrue}
use Rattle.rx_net.specs.declared.net.Net.{Net}
use Rattle.rx_language.specs.declared.word.Word.{Word}
use Rattle.rx_language.specs.declared.kind.NameKind.{NameKind}
use Rattle.rx_language.specs.declared.line.Line.{Line}
use Rattle.rx_language.specs.Programs.{Program, kind_at, steps_of, IsProgram}
use Rattle.rx_meaning.specs.Kinds.{is_kind}
use Rattle.rx_meaning.specs.Costs.{cost_by}
use Rattle.rx_compile.specs.Realized.{RealizesTwo}
use Rattle.rx_compile.specs.Arms.{Takes, IsArgument}
use Rattle.rx_compile.specs.States.{line_at, step_at, source_at, IsNext, Plans}
use Rattle.rx_compile.proofs.Steps.{steps_there, line_here, kind_read}
use Rattle.rx_compile.proofs.Wanted.{two_of, takes_bare, kind_holds, argument_is, room_is, cost_given, planned_two}
use Rattle.rx_compile.proofs.planning.plan_with_two.Goals as goal

pub bounds-steps-place : goal.bounds-steps-place
bounds-steps-place c = steps_there c.args.circuit.now c.steps.result.now c.args.place c.steps.ensures.value c.requires.next.there

pub bounds-steps-place-2 : goal.bounds-steps-place-2
bounds-steps-place-2 c = bounds-steps-place c

pub argument-a-requires-clause-number : goal.argument-a-requires-clause-number
argument-a-requires-clause-number c = omega (arith, c.requires.sources)

pub argument-b-requires-clause-number : goal.argument-b-requires-clause-number
argument-b-requires-clause-number c = omega (arith, c.requires.sources)

pub plan_two-requires-clause-takes : goal.plan_two-requires-clause-takes
plan_two-requires-clause-takes c =
    let p : Program = c.args.circuit.now in
    let k : ℕ = c.args.place in
    let old : Net = c.args.pen.now in
    let names : List (List ℕ) = c.args.cells.now in
    let next : IsNext p old names k = c.requires.next in
    let lawful : IsProgram p = c.steps.ensures.lawful in
    let line : Line = c.index-lines-place.result in
    let kind : NameKind = (get_or c.steps.result.now k c.index-steps-place.result).kind in
    let ek : kind ≡ (step_at p k).kind = kind_read p c.steps.result.now k c.index-steps-place.result c.steps.ensures.value next.there in
    let el : line ≡ line_at p k = line_here p c.lines.result.now k line c.lines.ensures.value next.there c.index-lines-place.is in
    let ew : line.word ≡ (line_at p k).word = ap (λ (l : Line). l.word) el in
    let en : line.number ≡ (line_at p k).number = ap (λ (l : Line). l.number) el in
    let ea : c.argument-a.result.kind ≡ kind_at (steps_of p) (source_at p k 0) = c.argument-a.ensures.kind in
    let da : c.argument-a.result.cells.now ≡ get_or names (source_at p k 0) [] = c.argument-a.ensures.cells in
    let eb : c.argument-b.result.kind ≡ kind_at (steps_of p) (source_at p k 1) = c.argument-b.ensures.kind in
    let db : c.argument-b.result.cells.now ≡ get_or names (source_at p k 1) [] = c.argument-b.ensures.cells in
    let t0 = takes_bare p k lawful next.there c.requires.plain c.requires.inner (source_at p k 0 ∷ source_at p k 1 ∷ []) (two_of (step_at p k).sources c.requires.sources) (omega arith) in
    let t1 = subst (λ (x : Word). Takes x 0 (kind_at (steps_of p) (source_at p k 0) ∷ kind_at (steps_of p) (source_at p k 1) ∷ []) (step_at p k).kind) (sym ew) t0 in
    let t2 = subst (λ (x : NameKind). Takes line.word 0 (x ∷ kind_at (steps_of p) (source_at p k 1) ∷ []) (step_at p k).kind) (sym ea) t1 in
    let t3 = subst (λ (x : NameKind). Takes line.word 0 (c.argument-a.result.kind ∷ x ∷ []) (step_at p k).kind) (sym eb) t2 in
    subst (λ (x : NameKind). Takes line.word 0 (c.argument-a.result.kind ∷ c.argument-b.result.kind ∷ []) x) (sym ek) t3

pub plan_two-requires-clause-kind : goal.plan_two-requires-clause-kind
plan_two-requires-clause-kind c =
    let p : Program = c.args.circuit.now in
    let k : ℕ = c.args.place in
    let old : Net = c.args.pen.now in
    let names : List (List ℕ) = c.args.cells.now in
    let next : IsNext p old names k = c.requires.next in
    let lawful : IsProgram p = c.steps.ensures.lawful in
    let line : Line = c.index-lines-place.result in
    let kind : NameKind = (get_or c.steps.result.now k c.index-steps-place.result).kind in
    let ek : kind ≡ (step_at p k).kind = kind_read p c.steps.result.now k c.index-steps-place.result c.steps.ensures.value next.there in
    let el : line ≡ line_at p k = line_here p c.lines.result.now k line c.lines.ensures.value next.there c.index-lines-place.is in
    let ew : line.word ≡ (line_at p k).word = ap (λ (l : Line). l.word) el in
    let en : line.number ≡ (line_at p k).number = ap (λ (l : Line). l.number) el in
    subst (λ (x : NameKind). IsTrue (is_kind old.space x)) (sym ek) (kind_holds p k old names next lawful k)

pub plan_two-requires-clause-first : goal.plan_two-requires-clause-first
plan_two-requires-clause-first c =
    let p : Program = c.args.circuit.now in
    let k : ℕ = c.args.place in
    let old : Net = c.args.pen.now in
    let names : List (List ℕ) = c.args.cells.now in
    let next : IsNext p old names k = c.requires.next in
    let lawful : IsProgram p = c.steps.ensures.lawful in
    let line : Line = c.index-lines-place.result in
    let kind : NameKind = (get_or c.steps.result.now k c.index-steps-place.result).kind in
    let ek : kind ≡ (step_at p k).kind = kind_read p c.steps.result.now k c.index-steps-place.result c.steps.ensures.value next.there in
    let el : line ≡ line_at p k = line_here p c.lines.result.now k line c.lines.ensures.value next.there c.index-lines-place.is in
    let ew : line.word ≡ (line_at p k).word = ap (λ (l : Line). l.word) el in
    let en : line.number ≡ (line_at p k).number = ap (λ (l : Line). l.number) el in
    let ea : c.argument-a.result.kind ≡ kind_at (steps_of p) (source_at p k 0) = c.argument-a.ensures.kind in
    let da : c.argument-a.result.cells.now ≡ get_or names (source_at p k 0) [] = c.argument-a.ensures.cells in
    let eb : c.argument-b.result.kind ≡ kind_at (steps_of p) (source_at p k 1) = c.argument-b.ensures.kind in
    let db : c.argument-b.result.cells.now ≡ get_or names (source_at p k 1) [] = c.argument-b.ensures.cells in
    subst (λ (x : NameKind). IsArgument old x c.argument-a.result.cells.now) (sym ea)
    (subst (λ (xs : List ℕ). IsArgument old (kind_at (steps_of p) (source_at p k 0)) xs) (sym da) (argument_is p k old names next lawful 0 (omega (arith, c.requires.sources))))

pub plan_two-requires-clause-second : goal.plan_two-requires-clause-second
plan_two-requires-clause-second c =
    let p : Program = c.args.circuit.now in
    let k : ℕ = c.args.place in
    let old : Net = c.args.pen.now in
    let names : List (List ℕ) = c.args.cells.now in
    let next : IsNext p old names k = c.requires.next in
    let lawful : IsProgram p = c.steps.ensures.lawful in
    let line : Line = c.index-lines-place.result in
    let kind : NameKind = (get_or c.steps.result.now k c.index-steps-place.result).kind in
    let ek : kind ≡ (step_at p k).kind = kind_read p c.steps.result.now k c.index-steps-place.result c.steps.ensures.value next.there in
    let el : line ≡ line_at p k = line_here p c.lines.result.now k line c.lines.ensures.value next.there c.index-lines-place.is in
    let ew : line.word ≡ (line_at p k).word = ap (λ (l : Line). l.word) el in
    let en : line.number ≡ (line_at p k).number = ap (λ (l : Line). l.number) el in
    let ea : c.argument-a.result.kind ≡ kind_at (steps_of p) (source_at p k 0) = c.argument-a.ensures.kind in
    let da : c.argument-a.result.cells.now ≡ get_or names (source_at p k 0) [] = c.argument-a.ensures.cells in
    let eb : c.argument-b.result.kind ≡ kind_at (steps_of p) (source_at p k 1) = c.argument-b.ensures.kind in
    let db : c.argument-b.result.cells.now ≡ get_or names (source_at p k 1) [] = c.argument-b.ensures.cells in
    subst (λ (x : NameKind). IsArgument old x c.argument-b.result.cells.now) (sym eb)
    (subst (λ (xs : List ℕ). IsArgument old (kind_at (steps_of p) (source_at p k 1)) xs) (sym db) (argument_is p k old names next lawful 1 (omega (arith, c.requires.sources))))

pub plan_two-requires-clause-room : goal.plan_two-requires-clause-room
plan_two-requires-clause-room c =
    let p : Program = c.args.circuit.now in
    let k : ℕ = c.args.place in
    let old : Net = c.args.pen.now in
    let names : List (List ℕ) = c.args.cells.now in
    let next : IsNext p old names k = c.requires.next in
    let lawful : IsProgram p = c.steps.ensures.lawful in
    let line : Line = c.index-lines-place.result in
    let kind : NameKind = (get_or c.steps.result.now k c.index-steps-place.result).kind in
    let ek : kind ≡ (step_at p k).kind = kind_read p c.steps.result.now k c.index-steps-place.result c.steps.ensures.value next.there in
    let el : line ≡ line_at p k = line_here p c.lines.result.now k line c.lines.ensures.value next.there c.index-lines-place.is in
    let ew : line.word ≡ (line_at p k).word = ap (λ (l : Line). l.word) el in
    let en : line.number ≡ (line_at p k).number = ap (λ (l : Line). l.number) el in
    let ea : c.argument-a.result.kind ≡ kind_at (steps_of p) (source_at p k 0) = c.argument-a.ensures.kind in
    let da : c.argument-a.result.cells.now ≡ get_or names (source_at p k 0) [] = c.argument-a.ensures.cells in
    let eb : c.argument-b.result.kind ≡ kind_at (steps_of p) (source_at p k 1) = c.argument-b.ensures.kind in
    let db : c.argument-b.result.cells.now ≡ get_or names (source_at p k 1) [] = c.argument-b.ensures.cells in
    let f : NameKind = c.argument-a.result.kind in
    let e : cost_by line.word old.space kind f ≡ cost_by (line_at p k).word old.space (step_at p k).kind (kind_at (steps_of p) (source_at p k 0)) =
    ap (λ w. cost_by w old.space kind f) ew ∙ ap (λ x. cost_by (line_at p k).word old.space x f) ek ∙ ap (cost_by (line_at p k).word old.space (step_at p k).kind) ea
    in
    room_is p k old names next lawful (cost_by line.word old.space kind f) (e ∙ cost_given p k old names next lawful (source_at p k 1 ∷ []) (two_of (step_at p k).sources c.requires.sources))

pub returns : goal.returns
returns c =
    let p : Program = c.args.circuit.now in
    let k : ℕ = c.args.place in
    let old : Net = c.args.pen.now in
    let names : List (List ℕ) = c.args.cells.now in
    let next : IsNext p old names k = c.requires.next in
    let lawful : IsProgram p = c.steps.ensures.lawful in
    let line : Line = c.index-lines-place.result in
    let kind : NameKind = (get_or c.steps.result.now k c.index-steps-place.result).kind in
    let ek : kind ≡ (step_at p k).kind = kind_read p c.steps.result.now k c.index-steps-place.result c.steps.ensures.value next.there in
    let el : line ≡ line_at p k = line_here p c.lines.result.now k line c.lines.ensures.value next.there c.index-lines-place.is in
    let ew : line.word ≡ (line_at p k).word = ap (λ (l : Line). l.word) el in
    let en : line.number ≡ (line_at p k).number = ap (λ (l : Line). l.number) el in
    let ea : c.argument-a.result.kind ≡ kind_at (steps_of p) (source_at p k 0) = c.argument-a.ensures.kind in
    let da : c.argument-a.result.cells.now ≡ get_or names (source_at p k 0) [] = c.argument-a.ensures.cells in
    let eb : c.argument-b.result.kind ≡ kind_at (steps_of p) (source_at p k 1) = c.argument-b.ensures.kind in
    let db : c.argument-b.result.cells.now ≡ get_or names (source_at p k 1) [] = c.argument-b.ensures.cells in
    let new : Net = c.plan_two.new.pen in
    let made : List ℕ = c.in_ok-made.made.items in
    let r0 = c.in_ok-made.ensures.realized in
    let r1 = subst (λ (x : Word). RealizesTwo x old new kind made (c.argument-a.result.kind) (c.argument-a.result.cells.now) (c.argument-b.result.kind) (c.argument-b.result.cells.now)) ew r0 in
    let r2 = subst (λ (x : NameKind). RealizesTwo (line_at p k).word old new x made (c.argument-a.result.kind) (c.argument-a.result.cells.now) (c.argument-b.result.kind) (c.argument-b.result.cells.now)) ek r1 in
    let r3 = subst (λ (x : NameKind). RealizesTwo (line_at p k).word old new (step_at p k).kind made (x) (c.argument-a.result.cells.now) (c.argument-b.result.kind) (c.argument-b.result.cells.now)) ea r2 in
    let r4 = subst (λ (x : List ℕ). RealizesTwo (line_at p k).word old new (step_at p k).kind made (kind_at (steps_of p) (source_at p k 0)) (x) (c.argument-b.result.kind) (c.argument-b.result.cells.now)) da r3 in
    let r5 = subst (λ (x : NameKind). RealizesTwo (line_at p k).word old new (step_at p k).kind made (kind_at (steps_of p) (source_at p k 0)) (get_or names (source_at p k 0) []) (x) (c.argument-b.result.cells.now)) eb r4 in
    let r6 = subst (λ (x : List ℕ). RealizesTwo (line_at p k).word old new (step_at p k).kind made (kind_at (steps_of p) (source_at p k 0)) (get_or names (source_at p k 0) []) (kind_at (steps_of p) (source_at p k 1)) (x)) db r5 in
    subst (λ (xs : List ℕ). Plans p k old new xs) (sym c.from_vec.ensures) (planned_two p k old names next lawful new made c.requires.sources c.requires.plain c.requires.inner r6)
