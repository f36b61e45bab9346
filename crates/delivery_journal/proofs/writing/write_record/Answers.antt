use Rattle.std.proofs.Common.{◌≡◌, ◌+◌, ℕ, List, [], ◌∷◌, ◌++◌, length, take, refl, ◌∙◌, ap, arith, rules}
use Rattle.std.specs.Prelude.{option_map}
use Rattle.delivery_journal.specs.Disk.{with_bytes_at}
use Rattle.delivery_journal.specs.HeaderBytes.{header_bytes}
use Rattle.delivery_journal.proofs.RunLemmas.{reads_none, survives_reads, survives_call}
use Rattle.delivery_journal.proofs.AppendLemmas.{front_by_write, put_told, on_ok}
use Rattle.delivery_journal.proofs.writing.write_record.Goals as goal

pub returns-in_err-write_at-2-clause-any_moment : goal.returns-in_err-write_at-2-clause-any_moment
returns-in_err-write_at-2-clause-any_moment g c file is this =
    let m = c.args.end + 1 in
    let P : List ℕ → Type 0 = λ image. take m image ≡ take m file in
    let start = survives_reads g.K.Disk.told g.K.Disk.may_leave g.K.Disk.clock g.K.Disk.left_since g.met.K.Disk.only_now c.args.disk.now c.args.disk.now P (reads_none g.K.Disk.told g.K.Disk.may_leave g.K.Disk.clock g.K.Disk.left_since c.args.disk.now) (λ image left. ap (take m) (this image left)) in
    let h1 = front_by_write m (c.args.end + 1) _ file (g.K.Disk.may_leave c.args.disk.now) (g.K.Disk.may_leave c.write_at.new.self) (omega arith) (λ image left. ap (take m) (this image left)) c.write_at.ensures.images in
    let s1 = survives_call g.K.Disk.told g.K.Disk.may_leave g.K.Disk.clock g.K.Disk.left_since c.args.disk.now c.args.disk.now c.write_at.new.self P start c.write_at.ensures.time h1 in
    let h2 = front_by_write m (c.args.end + 14) _ file (g.K.Disk.may_leave c.write_at.new.self) (g.K.Disk.may_leave c.write_at-2.new.self) (omega arith) h1 c.write_at-2.ensures.images in
    let s2 = survives_call g.K.Disk.told g.K.Disk.may_leave g.K.Disk.clock g.K.Disk.left_since c.args.disk.now c.write_at.new.self c.write_at-2.new.self P s1 c.write_at-2.ensures.time h2 in
    s2

pub returns-in_err-write_at-3-clause-any_moment : goal.returns-in_err-write_at-3-clause-any_moment
returns-in_err-write_at-3-clause-any_moment g c file is this =
    let m = c.args.end + 1 in
    let P : List ℕ → Type 0 = λ image. take m image ≡ take m file in
    let start = survives_reads g.K.Disk.told g.K.Disk.may_leave g.K.Disk.clock g.K.Disk.left_since g.met.K.Disk.only_now c.args.disk.now c.args.disk.now P (reads_none g.K.Disk.told g.K.Disk.may_leave g.K.Disk.clock g.K.Disk.left_since c.args.disk.now) (λ image left. ap (take m) (this image left)) in
    let h1 = front_by_write m (c.args.end + 1) _ file (g.K.Disk.may_leave c.args.disk.now) (g.K.Disk.may_leave c.write_at.new.self) (omega arith) (λ image left. ap (take m) (this image left)) c.write_at.ensures.images in
    let s1 = survives_call g.K.Disk.told g.K.Disk.may_leave g.K.Disk.clock g.K.Disk.left_since c.args.disk.now c.args.disk.now c.write_at.new.self P start c.write_at.ensures.time h1 in
    let h2 = front_by_write m (c.args.end + 14) _ file (g.K.Disk.may_leave c.write_at.new.self) (g.K.Disk.may_leave c.write_at-2.new.self) (omega arith) h1 c.write_at-2.ensures.images in
    let s2 = survives_call g.K.Disk.told g.K.Disk.may_leave g.K.Disk.clock g.K.Disk.left_since c.args.disk.now c.write_at.new.self c.write_at-2.new.self P s1 c.write_at-2.ensures.time h2 in
    let h3 = front_by_write m (c.args.end + 14 + length c.args.body.now) _ file (g.K.Disk.may_leave c.write_at-2.new.self) (g.K.Disk.may_leave c.write_at-3.new.self) (omega arith) h2 c.write_at-3.ensures.images in
    let s3 = survives_call g.K.Disk.told g.K.Disk.may_leave g.K.Disk.clock g.K.Disk.left_since c.args.disk.now c.write_at-2.new.self c.write_at-3.new.self P s2 c.write_at-3.ensures.time h3 in
    s3

pub returns-clause-any_moment : goal.returns-clause-any_moment
returns-clause-any_moment g c file is this =
    let m = c.args.end + 1 in
    let P : List ℕ → Type 0 = λ image. take m image ≡ take m file in
    let start = survives_reads g.K.Disk.told g.K.Disk.may_leave g.K.Disk.clock g.K.Disk.left_since g.met.K.Disk.only_now c.args.disk.now c.args.disk.now P (reads_none g.K.Disk.told g.K.Disk.may_leave g.K.Disk.clock g.K.Disk.left_since c.args.disk.now) (λ image left. ap (take m) (this image left)) in
    let h1 = front_by_write m (c.args.end + 1) _ file (g.K.Disk.may_leave c.args.disk.now) (g.K.Disk.may_leave c.write_at.new.self) (omega arith) (λ image left. ap (take m) (this image left)) c.write_at.ensures.images in
    let s1 = survives_call g.K.Disk.told g.K.Disk.may_leave g.K.Disk.clock g.K.Disk.left_since c.args.disk.now c.args.disk.now c.write_at.new.self P start c.write_at.ensures.time h1 in
    let h2 = front_by_write m (c.args.end + 14) _ file (g.K.Disk.may_leave c.write_at.new.self) (g.K.Disk.may_leave c.write_at-2.new.self) (omega arith) h1 c.write_at-2.ensures.images in
    let s2 = survives_call g.K.Disk.told g.K.Disk.may_leave g.K.Disk.clock g.K.Disk.left_since c.args.disk.now c.write_at.new.self c.write_at-2.new.self P s1 c.write_at-2.ensures.time h2 in
    let h3 = front_by_write m (c.args.end + 14 + length c.args.body.now) _ file (g.K.Disk.may_leave c.write_at-2.new.self) (g.K.Disk.may_leave c.write_at-3.new.self) (omega arith) h2 c.write_at-3.ensures.images in
    let s3 = survives_call g.K.Disk.told g.K.Disk.may_leave g.K.Disk.clock g.K.Disk.left_since c.args.disk.now c.write_at-2.new.self c.write_at-3.new.self P s2 c.write_at-3.ensures.time h3 in
    survives_call g.K.Disk.told g.K.Disk.may_leave g.K.Disk.clock g.K.Disk.left_since c.args.disk.now c.write_at-3.new.self c.sync.new.self P s3 c.sync.ensures.time (λ image left. h3 image (c.sync.ensures.images image left))

pub returns-clause-file : goal.returns-clause-file
returns-clause-file g c =
    let header : c.write_header.result ≡ header_bytes c.args.kind c.args.moment (length c.args.body.now) = search rules in
    on_ok c.sync.result (g.K.Disk.told c.sync.new.self ≡ option_map (λ file. with_bytes_at file (c.args.end + 1) (header_bytes c.args.kind c.args.moment (length c.args.body.now) ++ c.args.body.now ++ 0 ∷ [])) (g.K.Disk.told c.args.disk.now))
    (c.sync.ensures.same ∙ c.in_ok-write_at-3.ensures.put
    ∙ ap (option_map (λ file. with_bytes_at file (c.args.end + 14 + length c.args.body.now) (0 ∷ []))) (c.in_ok-write_at-2.ensures.put ∙ ap (option_map (λ file. with_bytes_at file (c.args.end + 14) c.args.body.now)) (c.in_ok-write_at.ensures.put ∙ ap (λ (l : List ℕ). option_map (λ file. with_bytes_at file (c.args.end + 1) l) (g.K.Disk.told c.args.disk.now)) header))
    ∙ put_told (g.K.Disk.told c.args.disk.now) c.args.end (header_bytes c.args.kind c.args.moment (length c.args.body.now)) c.args.body.now refl c.requires.inside)
