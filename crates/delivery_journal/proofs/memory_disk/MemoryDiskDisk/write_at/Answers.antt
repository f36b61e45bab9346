use Rattle.std.proofs.Common.{◌≤◌, length, subst, refl}
use Rattle.delivery_journal.specs.Disk.{Passes, ComeBy, Torn}
use Rattle.delivery_journal.specs.declared.call.Op.TheVariants.{Write}
use Rattle.delivery_journal.specs.DiskInMemory.{DiskInMemory, IsImage, LeftSince, content_now, content_after}
use Rattle.delivery_journal.proofs.DiskLemmas.{passes, images_by_note, file_by_note}
use Rattle.delivery_journal.proofs.memory_disk.MemoryDiskDisk.write_at.Goals as goal

pub returns-in-None-clause-time : goal.returns-in-None-clause-time
returns-in-None-clause-time c = subst (λ (disk : DiskInMemory). Passes (length disk.calls.done) (length c.note.new.calls.done) (LeftSince disk)
    (LeftSince (record { start = c.self.inside.start; calls = c.note.new.calls; uses = c.note.new.uses })) (IsImage (content_after c.self.inside.start c.note.new.calls.done)))
    c.self.view_is (passes c.self.inside.start Write c.args.at (length c.args.bytes.now) c.args.bytes.now c.self.inside.calls.done c.note.new.calls.done c.note.ensures.noted)

pub returns-in-Some-true-clause-time : goal.returns-in-Some-true-clause-time
returns-in-Some-true-clause-time c = subst (λ (disk : DiskInMemory). Passes (length disk.calls.done) (length c.note.new.calls.done) (LeftSince disk)
    (LeftSince (record { start = c.self.inside.start; calls = c.note.new.calls; uses = c.note.new.uses })) (IsImage (content_after c.self.inside.start c.note.new.calls.done)))
    c.self.view_is (passes c.self.inside.start Write c.args.at (length c.args.bytes.now) c.args.bytes.now c.self.inside.calls.done c.note.new.calls.done c.note.ensures.noted)

pub returns-in-Some-false-clause-time : goal.returns-in-Some-false-clause-time
returns-in-Some-false-clause-time c = subst (λ (disk : DiskInMemory). Passes (length disk.calls.done) (length c.note.new.calls.done) (LeftSince disk)
    (LeftSince (record { start = c.self.inside.start; calls = c.note.new.calls; uses = c.note.new.uses })) (IsImage (content_after c.self.inside.start c.note.new.calls.done)))
    c.self.view_is (passes c.self.inside.start Write c.args.at (length c.args.bytes.now) c.args.bytes.now c.self.inside.calls.done c.note.new.calls.done c.note.ensures.noted)

pub returns-in-None-clause-images : goal.returns-in-None-clause-images
returns-in-None-clause-images c =
    let inside : c.args.at ≤ length (content_now c.args.self.now).file = c.requires.inside (content_now c.args.self.now).file refl in
    subst (λ (disk : DiskInMemory). c.args.at ≤ length (content_now disk).file → ComeBy (Torn c.args.at (length c.args.bytes.now)) (IsImage (content_now disk)) (IsImage (content_after c.self.inside.start c.note.new.calls.done)))
    c.self.view_is (λ le. images_by_note c.self.inside.start c.args.at (length c.args.bytes.now) c.args.bytes.now c.self.inside.calls.done c.note.new.calls.done le c.note.ensures.noted) inside

pub returns-in-None-clause-range : goal.returns-in-None-clause-range
returns-in-None-clause-range c =
    let inside : c.args.at ≤ length (content_now c.args.self.now).file = c.requires.inside (content_now c.args.self.now).file refl in
    subst (λ (disk : DiskInMemory). c.args.at ≤ length (content_now disk).file → Torn c.args.at (length c.args.bytes.now) (content_now disk).file (content_after c.self.inside.start c.note.new.calls.done).file)
    c.self.view_is (λ le. file_by_note c.self.inside.start c.args.at (length c.args.bytes.now) c.args.bytes.now c.self.inside.calls.done c.note.new.calls.done le c.note.ensures.noted) inside

pub returns-in-Some-true-clause-images : goal.returns-in-Some-true-clause-images
returns-in-Some-true-clause-images c =
    let inside : c.args.at ≤ length (content_now c.args.self.now).file = c.requires.inside (content_now c.args.self.now).file refl in
    subst (λ (disk : DiskInMemory). c.args.at ≤ length (content_now disk).file → ComeBy (Torn c.args.at (length c.args.bytes.now)) (IsImage (content_now disk)) (IsImage (content_after c.self.inside.start c.note.new.calls.done)))
    c.self.view_is (λ le. images_by_note c.self.inside.start c.args.at (length c.args.bytes.now) c.args.bytes.now c.self.inside.calls.done c.note.new.calls.done le c.note.ensures.noted) inside

pub returns-in-Some-true-clause-range : goal.returns-in-Some-true-clause-range
returns-in-Some-true-clause-range c =
    let inside : c.args.at ≤ length (content_now c.args.self.now).file = c.requires.inside (content_now c.args.self.now).file refl in
    subst (λ (disk : DiskInMemory). c.args.at ≤ length (content_now disk).file → Torn c.args.at (length c.args.bytes.now) (content_now disk).file (content_after c.self.inside.start c.note.new.calls.done).file)
    c.self.view_is (λ le. file_by_note c.self.inside.start c.args.at (length c.args.bytes.now) c.args.bytes.now c.self.inside.calls.done c.note.new.calls.done le c.note.ensures.noted) inside

pub returns-in-Some-false-clause-images : goal.returns-in-Some-false-clause-images
returns-in-Some-false-clause-images c =
    let inside : c.args.at ≤ length (content_now c.args.self.now).file = c.requires.inside (content_now c.args.self.now).file refl in
    subst (λ (disk : DiskInMemory). c.args.at ≤ length (content_now disk).file → ComeBy (Torn c.args.at (length c.args.bytes.now)) (IsImage (content_now disk)) (IsImage (content_after c.self.inside.start c.note.new.calls.done)))
    c.self.view_is (λ le. images_by_note c.self.inside.start c.args.at (length c.args.bytes.now) c.args.bytes.now c.self.inside.calls.done c.note.new.calls.done le c.note.ensures.noted) inside

pub returns-in-Some-false-clause-range : goal.returns-in-Some-false-clause-range
returns-in-Some-false-clause-range c =
    let inside : c.args.at ≤ length (content_now c.args.self.now).file = c.requires.inside (content_now c.args.self.now).file refl in
    subst (λ (disk : DiskInMemory). c.args.at ≤ length (content_now disk).file → Torn c.args.at (length c.args.bytes.now) (content_now disk).file (content_after c.self.inside.start c.note.new.calls.done).file)
    c.self.view_is (λ le. file_by_note c.self.inside.start c.args.at (length c.args.bytes.now) c.args.bytes.now c.self.inside.calls.done c.note.new.calls.done le c.note.ensures.noted) inside
