use Rattle.std.proofs.Common.{sym, subst}
use Rattle.rx_lwe.specs.Secret.{small_key, large_key}
use Rattle.rx_boot.specs.ServerKeys.{ServerWords, IsServerKey}
use Rattle.rx_boot.proofs.MadeKeys.{made_key, made_near}
use Rattle.rx_boot.proofs.server_key.ServerKey.make.Goals as goal

pub returns-clause-made : goal.returns-clause-made
returns-clause-made c =
    made_key c.args.p.now c.args.client_seed.now c.args.mask_seed.now c.in_ok-small.small c.in_ok-large.large c.in_ok-make.field-0
    c.in_ok-make-2.field-0 c.in_ok-small.ensures.key c.in_ok-large.ensures.key c.in_ok-make.ensures.words c.in_ok-make-2.ensures.made

pub returns-clause-near : goal.returns-clause-near
returns-clause-near c =
    let p = c.args.p.now in
    let client_seed = c.args.client_seed.now in
    let P : ServerWords → Type 0 = λ key. IsServerKey (small_key p client_seed) (large_key p client_seed) key in
    subst P (sym (returns-clause-made c)) (made_near p client_seed c.args.mask_seed.now c.requires.fields)
