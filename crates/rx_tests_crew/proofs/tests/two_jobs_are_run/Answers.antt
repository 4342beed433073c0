use Rattle.std.proofs.Common.{◌≡◌, ℕ, zero, suc, ◌+◌, ◌<◌, ◌≤◌, [], ◌∷◌, length, get_or, sym, ap, arith}
use Rattle.rx_params.specs.declared.params.Params.{Params}
use Rattle.rx_params.specs.Derived.{large_dim}
use Rattle.rx_net.specs.declared.net.Net.{Net}
use Rattle.rx_net.specs.Cells.{input_cells, degree, noise}
use Rattle.rx_boot.specs.ServerKeys.{ServerWords}
use Rattle.rx_block.specs.declared.block.Block.{Block}
use Rattle.rx_block.specs.Combine.{no_block}
use Rattle.rx_crew.specs.Evaluation.{AreInputs}
use Rattle.rx_tests_crew.proofs.tests.two_jobs_are_run.Goals as goal

-- a fresh number
abbrev Fresh : ℕ → Block → Type 0
Fresh size b = (length b.words ≡ size) × ((b.degree ≡ 3) × (b.noise ≡ 1))

either : (size : ℕ) (a b : Block) → Fresh size a → Fresh size b → (c : ℕ) → c < 2 → Fresh size (get_or (a ∷ b ∷ []) c no_block)
either size a b h k zero p = h
either size a b h k (suc zero) p = k
either size a b h k (suc (suc c)) p = absurd (omega (arith, p))

are-inputs : (p : Params) (net : Net) (a b : Block) → Fresh (large_dim p + 1) a → Fresh (large_dim p + 1) b → input_cells net.space net.inputs ≡ 2
    → ((c : ℕ) → c < 2 → (3 ≤ degree net c) × (1 ≤ noise net c)) → AreInputs p net (a ∷ b ∷ [])
are-inputs p net a b h k cells tags = record {
  count = sym cells;
  sizes = λ c q. (either (large_dim p + 1) a b h k c q).0;
  degrees = λ c q. omega (arith, (either (large_dim p + 1) a b h k c q).1.0, (tags c q).0);
  noises = λ c q. omega (arith, (either (large_dim p + 1) a b h k c q).1.1, (tags c q).1);
}

pub run_net-requires-clause-inputs : goal.run_net-requires-clause-inputs
run_net-requires-clause-inputs g c κs =
    let p : Params = c.in_ok-key.key.params in
    let d : large_dim c.key.inside.params ≡ large_dim p = ap (λ (k : ServerWords). large_dim k.params) c.key.view_is in
    let s : length c.in_ok-secret.secret + 1 ≡ large_dim p + 1 = omega (arith, d, c.in_ok-secret.ensures.size) in
    let a : Fresh (large_dim p + 1) c.in_ok-block.field-0 = (omega (arith, s, c.in_ok-block.ensures.size), c.in_ok-block.ensures.tags) in
    let b : Fresh (large_dim p + 1) c.in_ok-block-2.field-0 = (omega (arith, s, c.in_ok-block-2.ensures.size), c.in_ok-block-2.ensures.tags) in
    are-inputs p c.in_ok-net.net c.in_ok-block.field-0 c.in_ok-block-2.field-0 a b c.in_ok-net.ensures.inputs c.in_ok-net.ensures.tags
