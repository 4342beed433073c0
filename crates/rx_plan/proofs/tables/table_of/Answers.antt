use Rattle.std.proofs.Common.{List, ◌≡◌, ℕ, ◌≤◌, ◌+◌, ◌*◌, ◌^◌, [], ◌∷◌, ◌++◌, length, ap, sym, ◌∙◌, arith, subst, length-append}
use Rattle.rx_plan.proofs.Lists.{by_push}
use Rattle.rx_plan.proofs.tables.table_of.Goals as goal

pub loop-i-init : goal.loop-i-init
loop-i-init g c = record {
  callable = c.requires.callable;
  count = ap length c.new-table.ensures.items;
  each = λ k q. absurd (omega arith);
}

pub loop-i-preserved : goal.loop-i-preserved
loop-i-preserved g c =
    let e = c.in_ok-push.ensures.items in
    let xs : List ℕ = c.loop-i.table.items in
    let y : ℕ = c.f-entry.result in
    let n : length xs ≡ c.loop-i.i = c.loop-i.invariant.count in
    let a : length (xs ++ y ∷ []) ≡ length xs + 1 = length-append xs (y ∷ []) in
    record {
      callable = c.loop-i.invariant.callable;
      count = ap length e ∙ a ∙ ap (λ k. k + 1) n;
      each = λ k q.
          rw e (by_push xs y (λ k r. g.F.Fn.post c.args.f (k, tt) r) (λ k q. c.loop-i.invariant.each k (omega arith))
          (subst (λ (k : ℕ). g.F.Fn.post c.args.f (k, tt) y) (sym n) c.f-entry.ensures) k (omega arith));
    }

size : (u s i : ℕ) → u ≡ 2 ^ s → u * u ≤ i → i ≤ u * u → i ≡ 2 ^ s * 2 ^ s
size u s i e p q = let f : u * u ≡ 2 ^ s * 2 ^ s = ap (λ u. u * u) e in omega arith

pub returns : goal.returns
returns g c =
    let n : c.loop-i.i ≡ 2 ^ c.args.space * 2 ^ c.args.space = size c.unit_of-unit.result c.args.space c.loop-i.i c.unit_of-unit.ensures.value c.loop-i-test.false c.loop-i.auto.i-end in
    (c.loop-i.invariant.count ∙ n, λ k q. c.loop-i.invariant.each k (omega arith))
