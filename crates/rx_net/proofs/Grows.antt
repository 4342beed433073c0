-- Nets that grow.
use Rattle.std.proofs.Common.{◌≡◌, ◌≤◌, ℕ, List, take, drop, length, refl, sym, ap, ◌∙◌, arith, subst}
use Rattle.std.proofs.Math.Seq.{take-length}
use Rattle.std.proofs.lemmas.List.{take-append-le, take-append-drop}
use Rattle.rx_net.specs.declared.net.NetInput.{NetInput}
use Rattle.rx_net.specs.declared.net.Job.{Job}
use Rattle.rx_net.specs.declared.net.Net.{Net}
use Rattle.rx_net.specs.Cells.{Within}
use Rattle.rx_net.specs.Growth.{Extends}

pub extends_same : (net : Net) → Extends net net
extends_same net = record {
  space = refl;
  inputs = refl;
  outputs = refl;
  jobs = take-length net.jobs;
  cells_grow = omega arith;
  jobs_grow = refl;
  degrees = λ c p. refl;
  noises = λ c p. refl;
  depths = λ c p. refl;
  values = λ xs w c p. refl;
}

-- a list that begins one that begins a third begins the third
begins_onward : (xs ys zs : List Job) → take (length xs) ys ≡ xs → take (length ys) zs ≡ ys → length xs ≤ length ys → take (length xs) zs ≡ xs
begins_onward xs ys zs a b p =
    let n : ℕ = length ys in
    ap (take (length xs)) (sym (take-append-drop n zs))
    ∙ take-append-le (length xs) (take n zs) (drop n zs) (subst (λ (l : List Job). length xs ≤ length l) (sym b) p)
    ∙ ap (take (length xs)) b
    ∙ a

pub extends_onward : (first second third : Net) → Extends first second → Extends second third → Extends first third
extends_onward first second third a b = record {
  space = b.space ∙ a.space;
  inputs = b.inputs ∙ a.inputs;
  outputs = b.outputs ∙ a.outputs;
  jobs = begins_onward first.jobs second.jobs third.jobs a.jobs b.jobs (omega (arith, a.cells_grow, a.jobs_grow));
  cells_grow = omega (arith, a.cells_grow, b.cells_grow);
  jobs_grow = omega (arith, a.jobs_grow, b.jobs_grow);
  degrees = λ c p. b.degrees c (omega (arith, a.cells_grow)) ∙ a.degrees c p;
  noises = λ c p. b.noises c (omega (arith, a.cells_grow)) ∙ a.noises c p;
  depths = λ c p. b.depths c (omega (arith, a.cells_grow)) ∙ a.depths c p;
  values = λ xs w c p.
      let w1 : Within second.space first.inputs xs = subst (λ (s : ℕ). Within s first.inputs xs) (sym a.space) w in
      let w2 : Within second.space second.inputs xs = subst (λ (is : List NetInput). Within second.space is xs) (sym a.inputs) w1 in
      b.values xs w2 c (omega (arith, a.cells_grow)) ∙ a.values xs w c p;
}
