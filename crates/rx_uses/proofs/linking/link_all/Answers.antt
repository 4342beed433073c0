use Rattle.std.proofs.Common.{◌≡◌, ◌-◌, ◌+◌, ◌<◌, ℕ, List, ◌∷◌, suc, cond, eqb, length, get_or, set, ◌∙◌, sym, subst, refl, arith}
use Rattle.rx_uses.specs.Links.{AreLists, places_from}
use Rattle.rx_uses.proofs.Links.{none_listed, places_apart, places_more}
use Rattle.rx_uses.proofs.Relinks.{put, relisted}
use Rattle.rx_uses.proofs.linking.link_all.Goals as goal

pub loop-back-init : goal.loop-back-init
loop-back-init c = record {
  lists = none_listed c.args.nexts.now c.args.prevs.now c.args.named.now c.args.heads.now (length c.args.named.now - 0)
      (omega arith) (omega arith) (c.requires.previous ∙ sym c.requires.next) (sym c.requires.next) c.requires.none;
}

pub put_first-requires-clause-cell : goal.put_first-requires-clause-cell
put_first-requires-clause-cell c = let named : List ℕ = c.args.named.now in let b : ℕ = c.loop-back.back in
    let test : b < length named = c.loop-back-test.true in
    let l = c.requires.cells (length named - 1 - b) (omega arith) in let long : length c.loop-back.heads ≡ length c.args.heads.now = c.loop-back.auto.heads in omega arith

pub loop-back-preserved : goal.loop-back-preserved
loop-back-preserved c = let named : List ℕ = c.args.named.now in let b : ℕ = c.loop-back.back in let t : ℕ = length named - 1 - b in
    let test : b < length named = c.loop-back-test.true in
    let N : List ℕ = c.loop-back.nexts in let P : List ℕ = c.loop-back.prevs in let H : List ℕ = c.loop-back.heads in
    let cell : ℕ = get_or named t 0 in let h : ℕ = get_or H cell 0 in let rest : ℕ → List ℕ = places_from (suc t) named in
    let up : length named - b ≡ suc t = omega arith in
    let down : t ≡ length named - (b + 1) = omega arith in
    let long : length H ≡ length c.args.heads.now = c.loop-back.auto.heads in
    let room : length N ≡ length named = c.loop-back.auto.nexts ∙ c.requires.next in
    let within : cell < length H = (let l = c.requires.cells t (omega arith) in omega arith) in
    let old : AreLists N P named H rest = subst (λ (z : ℕ). AreLists N P named H (places_from z named)) up c.loop-back.invariant.lists in
    let after = put N P named H rest t cell old (omega arith) within (λ d l. places_apart named t d) refl in
    let more : AreLists (set N t h) (set (set P t 4294967295) h t) named (set H cell t) (places_from t named) =
    relisted (set N t h) (set (set P t 4294967295) h t) named (set H cell t) (λ d. cond (eqb d cell) (t ∷ rest d) (rest d)) (places_from t named) after
    (λ d l. places_more t cell named d (omega arith) refl) in record {
      lists = subst (λ (z : List ℕ × List ℕ × List ℕ × ℕ). AreLists z.0 z.1 named z.2 (places_from z.3 named))
          (λ i. (sym c.put_first.ensures.nexts i, sym c.put_first.ensures.prevs i, sym c.put_first.ensures.heads i, down i)) more;
    }
