-- What is served over what holds a gateway, for a durable one.
use Rattle.std.proofs.Common.{[]}
use Rattle.gateway_server.proofs.DurableLemmas.{crash_says}
use Rattle.gateway_server.proofs.kept_connections.serve_all_kept.Goals as goal

pub returns-clause-crash : goal.returns-clause-crash
returns-clause-crash g c = λ told left tells ends past stands logged log.
    crash_says g.K.Disk.told g.K.Disk.may_leave g.K.Disk.clock g.K.Disk.left_since c.args.disk.now c.serve_with.new.beside c.serve_with.new.host c.args.durable.now.gate.setting
    c.serve_with.new.host.journal.is_sound logged c.serve_with.ensures.setting
    (c.serve_with.ensures.keeps told left tells ends past stands logged log c.args.disk.now []
    (λ file is bodies held. c.a_crash_leaves_a_prefix_law.ensures.begins c.args.disk.now c.args.durable.now file bodies c.requires.stands is held))
