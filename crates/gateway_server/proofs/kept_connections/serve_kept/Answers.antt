-- What is served over what holds a gateway, for a durable one.
use Rattle.std.proofs.Common.{◌∷◌, []}
use Rattle.gw_base.specs.Changes.{change}
use Rattle.gw_base.specs.Count.{Rose}
use Rattle.gateway_server.specs.Durable.{held_of, journal_room}
use Rattle.gateway_server.proofs.DurableLemmas.{crash_says, sound_exactly}
use Rattle.gateway_server.proofs.kept_connections.serve_kept.Goals as goal

pub returns-clause-unsound : goal.returns-clause-unsound
returns-clause-unsound g c = λ told fresh past stands entry logged.
    sound_exactly (Rose (g.D.Sink.faults c.args.door.now) (g.D.Sink.faults c.serve_one_with.new.door)) (Rose (g.K.Disk.faults c.args.disk.now) (g.K.Disk.faults c.serve_one_with.new.beside)) journal_room
    (held_of c.args.durable.now) (held_of c.serve_one_with.new.host) past told (change g.C.Clock.told g.C.Clock.faults c.args.clock.now c.serve_one_with.new.clock)
    (g.D.Sink.told c.serve_one_with.new.door) (g.D.Sink.beside c.serve_one_with.new.door) entry (c.serve_one_with.ensures.serves told fresh past stands) logged

pub returns-clause-crash : goal.returns-clause-crash
returns-clause-crash g c = λ told fresh entry logged.
    crash_says g.K.Disk.told g.K.Disk.may_leave g.K.Disk.clock g.K.Disk.left_since c.args.disk.now c.serve_one_with.new.beside c.serve_one_with.new.host c.args.durable.now.gate.setting
    c.serve_one_with.new.host.journal.is_sound (entry ∷ []) c.serve_one_with.ensures.setting
    (c.serve_one_with.ensures.keeps told fresh entry logged c.args.disk.now []
    (λ file is bodies held. c.a_crash_leaves_a_prefix_law.ensures.begins c.args.disk.now c.args.durable.now file bodies c.requires.stands is held))
