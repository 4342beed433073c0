use Rattle.std.proofs.Common.{◌≡◌, ℕ, ◌<◌, ◌≤◌, refl, ap, ◌∙◌, arith}
use Rattle.rx_net.specs.declared.net.Net.{Net}
use Rattle.rx_net.specs.declared.net.NetOutput.{NetOutput}
use Rattle.rx_net.specs.Cells.{input_cells, cell_count, degree, noise}
use Rattle.rx_net.specs.Growth.{Extends}
use Rattle.rx_net.specs.Pen.{with_output}
use Rattle.rx_tests_crew.proofs.tests.two_jobs.Goals as goal

-- two nets with the same cells of inputs, and the same tags in the first two cells
record Keeps (n m : Net) : Type 0 where
  inputs : input_cells m.space m.inputs ≡ input_cells n.space n.inputs
  degrees : (c : ℕ) → c < 2 → degree m c ≡ degree n c
  noises : (c : ℕ) → c < 2 → noise m c ≡ noise n c

extends-keeps : (n m : Net) → 2 ≤ cell_count n → Extends n m → Keeps n m
extends-keeps n m p x = record {
  inputs = rw (x.space, x.inputs) refl;
  degrees = λ c q. x.degrees c (omega (arith, p, q));
  noises = λ c q. x.noises c (omega (arith, p, q));
}

output-keeps : {n m : Net} (o : NetOutput) → m ≡ with_output n o → Keeps n m
unfolding degree noise
output-keeps o e = record {
  inputs = ap (λ (k : Net). input_cells k.space k.inputs) e;
  degrees = λ c q. ap (λ (k : Net). degree k c) e;
  noises = λ c q. ap (λ (k : Net). noise k c) e;
}

-- a net that is given two numbers, two jobs and two outputs
record IsGrown (n0 n1 n2 n3 n4 : Net) : Type 0 where
  cells : cell_count n0 ≡ 2
  grows : cell_count n0 ≤ cell_count n1
  first : Extends n0 n1
  second : Extends n1 n2
  x : Keeps n2 n3
  y : Keeps n3 n4

grown-inputs : (n0 n1 n2 n3 n4 : Net) → IsGrown n0 n1 n2 n3 n4 → input_cells n0.space n0.inputs ≡ 2 → input_cells n4.space n4.inputs ≡ 2
grown-inputs n0 n1 n2 n3 n4 h e =
    let a = extends-keeps n0 n1 (omega (arith, h.cells)) h.first in
    let b = extends-keeps n1 n2 (omega (arith, h.cells, h.grows)) h.second in
    omega (arith, e, a.inputs, b.inputs, h.x.inputs, h.y.inputs)

grown-tags : (n0 n1 n2 n3 n4 : Net) → IsGrown n0 n1 n2 n3 n4 → (c : ℕ) → c < 2 → (3 ≤ degree n0 c) × (1 ≤ noise n0 c)
    → (3 ≤ degree n4 c) × (1 ≤ noise n4 c)
grown-tags n0 n1 n2 n3 n4 h c p t =
    let a = extends-keeps n0 n1 (omega (arith, h.cells)) h.first in
    let b = extends-keeps n1 n2 (omega (arith, h.cells, h.grows)) h.second in
    let d : 3 ≤ degree n4 c = omega (arith, t.0, a.degrees c p, b.degrees c p, h.x.degrees c p, h.y.degrees c p) in
    let s : 1 ≤ noise n4 c = omega (arith, t.1, a.noises c p, b.noises c p, h.x.noises c p, h.y.noises c p) in
    (d, s)

pub returns-clause-inputs : goal.returns-clause-inputs
returns-clause-inputs c =
    let one = c.in_ok-c.ensures.adds in
    let grown : IsGrown c.in_ok-pen.pen c.job.new.self c.job-2.new.self c.output.new.self c.finish.result = record {
      cells = c.in_ok-pen.ensures.cells;
      grows = omega (arith, one.count);
      first = one.extends;
      second = c.in_ok-d.ensures.adds.extends;
      x = output-keeps _ c.in_ok-output.ensures.added;
      y = output-keeps _ (c.finish.ensures.value ∙ c.in_ok-output-2.ensures.added);
    } in
    grown-inputs c.in_ok-pen.pen c.job.new.self c.job-2.new.self c.output.new.self c.finish.result grown c.in_ok-pen.ensures.inputs

pub returns-clause-tags : goal.returns-clause-tags
returns-clause-tags c cell below =
    let one = c.in_ok-c.ensures.adds in
    let grown : IsGrown c.in_ok-pen.pen c.job.new.self c.job-2.new.self c.output.new.self c.finish.result = record {
      cells = c.in_ok-pen.ensures.cells;
      grows = omega (arith, one.count);
      first = one.extends;
      second = c.in_ok-d.ensures.adds.extends;
      x = output-keeps _ c.in_ok-output.ensures.added;
      y = output-keeps _ (c.finish.ensures.value ∙ c.in_ok-output-2.ensures.added);
    } in
    grown-tags c.in_ok-pen.pen c.job.new.self c.job-2.new.self c.output.new.self c.finish.result grown cell below
    (c.in_ok-pen.ensures.tags cell below)
