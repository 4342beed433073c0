use Rattle.std.proofs.Common.{subst}
use Rattle.rx_params.specs.declared.params.Params.{Params}
use Rattle.rx_boot.specs.ServerKeys.{ServerWords}
use Rattle.rx_boot.proofs.SeededKeys.{switch_words_are}
use Rattle.rx_codec.specs.ServerFile.{IsServer, AreWords64}
use Rattle.rx_seeded.proofs.fits.key_fits.Goals as goal

pub returns : goal.returns
returns c =
    let p : Params = c.key.inside.params in
    let key : ServerWords = record { params = p; boot = c.key.inside.boot; switch = c.key.inside.switch.words } in
    let fits : IsServer key = record {
      accepted = c.key.invariant.0;
      boot_count = c.key.invariant.1;
      switch_count = switch_words_are p c.key.inside.switch c.words-2.result.now c.words-2.ensures.value c.words-2.ensures.sized
          c.key.invariant.2;
      boot_words = subst AreWords64 c.words.ensures c.are_words.ensures;
      switch_words = subst AreWords64 c.words-2.ensures.value c.are_words-2.ensures;
    } in
    subst IsServer c.key.view_is fits
