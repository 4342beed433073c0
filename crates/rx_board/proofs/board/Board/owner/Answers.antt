use Rattle.std.proofs.Common.{◌≡◌, ◌<◌, ◌+◌, ℕ, sym, ap, ◌∙◌, subst}
use Rattle.rx_net.specs.declared.net.Net.{Net}
use Rattle.rx_uses.specs.Uses.{IsUsesOf}
use Rattle.rx_uses.proofs.UsesLaw.{owner_is}
use Rattle.rx_board.specs.Rule.{input_count, BoardValue, job_count}
use Rattle.rx_board.proofs.board.Board.owner.Goals as goal

pub owner-requires : goal.owner-requires
owner-requires g c = let p = c.args.self.now.plan in let u = c.self.inside.uses.now in
    let e : c.self.inside.net.now ≡ p.net = sym c.self.invariant.0 ∙ ap (λ (b : BoardValue). b.plan.net) c.self.view_is in
    (owner_is p.net u (input_count p.net + c.args.job) c.args.done c.args.node (subst (λ (n : Net). IsUsesOf n u) e c.self.invariant.5) c.requires.node).0

pub returns-clause-owner : goal.returns-clause-owner
returns-clause-owner g c = let p = c.args.self.now.plan in let u = c.self.inside.uses.now in
    let e : c.self.inside.net.now ≡ p.net = sym c.self.invariant.0 ∙ ap (λ (b : BoardValue). b.plan.net) c.self.view_is in
    c.owner.ensures ∙ (owner_is p.net u (input_count p.net + c.args.job) c.args.done c.args.node (subst (λ (n : Net). IsUsesOf n u) e c.self.invariant.5) c.requires.node).1

pub returns-clause-within : goal.returns-clause-within
returns-clause-within g c = let p = c.args.self.now.plan in let u = c.self.inside.uses.now in
    let e : c.self.inside.net.now ≡ p.net = sym c.self.invariant.0 ∙ ap (λ (b : BoardValue). b.plan.net) c.self.view_is in
    let o = owner_is p.net u (input_count p.net + c.args.job) c.args.done c.args.node (subst (λ (n : Net). IsUsesOf n u) e c.self.invariant.5) c.requires.node in
    subst (λ (z : ℕ). z < job_count p) (sym (c.owner.ensures ∙ o.1)) o.2

pub returns-clause-more : goal.returns-clause-more
returns-clause-more g c = let p = c.args.self.now.plan in let u = c.self.inside.uses.now in
    let e : c.self.inside.net.now ≡ p.net = sym c.self.invariant.0 ∙ ap (λ (b : BoardValue). b.plan.net) c.self.view_is in
    (owner_is p.net u (input_count p.net + c.args.job) c.args.done c.args.node (subst (λ (n : Net). IsUsesOf n u) e c.self.invariant.5) c.requires.node).3
