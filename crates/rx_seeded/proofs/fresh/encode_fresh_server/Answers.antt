use Rattle.rx_seeded.proofs.FreshBodies.{fresh_file}
use Rattle.rx_seeded.proofs.fresh.encode_fresh_server.Goals as goal

pub returns-clause-file : goal.returns-clause-file
returns-clause-file c =
    fresh_file c.server_key_laws.ensures c.seeded_key_laws.ensures c.args.p.now c.args.client_seed.now c.args.mask_seed.now
    c.in_ok-rows.rows c.in_ok-out.out.items c.add_boot_bodies.new.out.items c.add_switch_bodies.new.out.items c.in_ok-rows.ensures
    c.requires c.seed_fits.ensures c.in_ok-out.ensures c.in_ok-add_boot_bodies.ensures c.in_ok-add_switch_bodies.ensures

pub returns-clause-near : goal.returns-clause-near
returns-clause-near c =
    c.server_key_laws.ensures.near c.args.p.now c.args.client_seed.now c.args.mask_seed.now c.requires.fields
