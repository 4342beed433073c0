use Rattle.std.proofs.Common.{ap, subst, ◌++◌, take}
use Rattle.std.specs.Io.KnownBytes.{Appends}
use Rattle.rx_store.proofs.KnownLemmas.{split_further, appends_both, stays, nothing_more, first_part}
use Rattle.rx_store.proofs.whole_writes.write_whole.Goals as goal

pub loop-rest-preserved : goal.loop-rest-preserved
loop-rest-preserved g c =
    let (done, split, appended) = c.loop-rest.invariant in
    let more = take c.in-Ok.taken c.loop-rest.rest.now in
    (done ++ more, split_further _ done _ c.in-Ok.taken split, appends_both _ _ _ done more appended c.in-Ok.ensures.bytes)

pub returns-in_default-clause-part : goal.returns-in_default-clause-part
returns-in_default-clause-part g c =
    let (done, split, appended) = c.loop-rest.invariant in
    first_part _ _ _ done _ split (stays _ _ _ done appended c.in_default.ensures.bytes)

pub returns-then-taken-eq0-clause-part : goal.returns-then-taken-eq0-clause-part
returns-then-taken-eq0-clause-part g c =
    let (done, split, appended) = c.loop-rest.invariant in
    let none = ap (λ n. take n c.loop-rest.rest.now) c.if-taken-eq0.true in
    first_part _ _ _ done _ split (nothing_more _ _ _ done appended (subst (Appends _ _) none c.in-Ok.ensures.bytes))
