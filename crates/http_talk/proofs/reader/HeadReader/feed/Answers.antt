-- Each answer is what the scan says of the bytes so far.
use Rattle.std.proofs.Common.{◌≡◌, ℕ, ◌-◌, List, ◌++◌, length, take, min, ap, sym, ◌∙◌, subst, arith, vec_capacity}
use Rattle.http_talk.specs.declared.refusal.Refusal.TheVariants.{TooManyFields}
use Rattle.http_talk.specs.Asked.{IsAnswer}
use Rattle.http_talk.specs.Ends.{IsHeadLength, IsOpen}
use Rattle.http_talk.specs.Reading.{Feeds, IsReader, held_after}
use Rattle.http_talk.specs.Request.{IsRefused}
use Rattle.http_talk.proofs.Feeding.{IsSeen, calm, more_says, reader_is, long_says, ends_at, front_whole, ended_says, ended_holds}
use Rattle.http_talk.proofs.reader.HeadReader.feed.Goals as goal

-- the bytes seen, from how the code splits the piece
is_seen : (held piece seen : List ℕ) (len mid : ℕ) → len ≡ length held → mid ≡ min (16384 - len) (length piece) → seen ≡ take mid piece
    → IsSeen held piece seen (16384 - len)
is_seen held piece seen len mid lens mids fronts = record {
  room_is = ap (λ n. 16384 - n) lens;
  seen_is = fronts ∙ ap (λ n. take n piece) mids;
}

pub returns-then-seen-room-clause-says : goal.returns-then-seen-room-clause-says
returns-then-seen-room-clause-says c =
    let held = c.self.inside.held.items in
    let seen = is_seen held c.args.piece.now c.split_at.result.0.now c.held_len-room.result c.min.result c.held_len-room.ensures.items c.min.ensures c.split_at.ensures.front in
    let opens = c.self.invariant.opens in
    let means = c.in-Open.ensures held (calm held opens) c.self.invariant.place_is in
    subst (λ (v : List ℕ). (more : List ℕ) → IsRefused (v ++ c.args.piece.now ++ more) TooManyFields) c.self.view_is
    (long_says held c.args.piece.now c.split_at.result.0.now (16384 - c.held_len-room.result) c.in-Open.place opens seen c.if-seen-room.true means)

pub invariant_of-self-in-Open : goal.invariant_of-self-in-Open
invariant_of-self-in-Open c =
    let held = c.self.inside.held.items in
    let seen = is_seen held c.args.piece.now c.split_at.result.0.now c.held_len-room.result c.min.result c.held_len-room.ensures.items c.min.ensures c.split_at.ensures.front in
    let opens = c.self.invariant.opens in
    let means = c.in-Open.ensures held (calm held opens) c.self.invariant.place_is in
    subst (λ (v : List ℕ). IsReader v (vec_capacity c.keep.new.held) c.in-Open.place) (sym c.keep.ensures.items)
    (reader_is held c.args.piece.now c.split_at.result.0.now (16384 - c.held_len-room.result) (vec_capacity c.keep.new.held) c.in-Open.place opens seen
    c.if-seen-room.false means (omega (arith, c.keep.ensures.room, c.self.invariant.room_is)))

pub split_at-requires-in-Ended : goal.split_at-requires-in-Ended
split_at-requires-in-Ended c =
    let held = c.self.inside.held.items in
    (ends_at held c.split_at.result.0.now c.in-Ended.used (c.in-Ended.ensures held (calm held c.self.invariant.opens) c.self.invariant.place_is)).within

pub ended-requires-clause-whole : goal.ended-requires-clause-whole
ended-requires-clause-whole c =
    let held = c.self.inside.held.items in
    let seen = is_seen held c.args.piece.now c.split_at.result.0.now c.held_len-room.result c.min.result c.held_len-room.ensures.items c.min.ensures c.split_at.ensures.front in
    let opens = c.self.invariant.opens in
    let at = ends_at held c.split_at.result.0.now c.in-Ended.used (c.in-Ended.ensures held (calm held opens) c.self.invariant.place_is) in
    subst (λ (v : List ℕ). IsHeadLength (held ++ v) (length (held ++ v))) (sym c.split_at-in-Ended.ensures.front)
    (front_whole held c.args.piece.now c.split_at.result.0.now (16384 - c.held_len-room.result) c.in-Ended.used opens seen at)

pub returns-else-seen-room-clause-says : goal.returns-else-seen-room-clause-says
returns-else-seen-room-clause-says c =
    let held = c.self.inside.held.items in
    let seen = is_seen held c.args.piece.now c.split_at.result.0.now c.held_len-room.result c.min.result c.held_len-room.ensures.items c.min.ensures c.split_at.ensures.front in
    let opens = c.self.invariant.opens in
    let means = c.in-Open.ensures held (calm held opens) c.self.invariant.place_is in
    subst (λ (v : List ℕ). IsOpen (v ++ c.args.piece.now)) c.self.view_is
    (more_says held c.args.piece.now c.split_at.result.0.now (16384 - c.held_len-room.result) c.in-Open.place opens seen c.if-seen-room.false means)

-- what is said of the bytes held is said of the reader
pub returns-in-Ended-clause-says : goal.returns-in-Ended-clause-says
returns-in-Ended-clause-says c =
    let held = c.self.inside.held.items in
    let seen = is_seen held c.args.piece.now c.split_at.result.0.now c.held_len-room.result c.min.result c.held_len-room.ensures.items c.min.ensures c.split_at.ensures.front in
    let opens = c.self.invariant.opens in
    let at = ends_at held c.split_at.result.0.now c.in-Ended.used (c.in-Ended.ensures held (calm held opens) c.self.invariant.place_is) in
    let answers = subst (λ (v : List ℕ). IsAnswer (held ++ v) c.ended.result) c.split_at-in-Ended.ensures.front c.ended.ensures.answer in
    subst (λ (v : List ℕ). Feeds v c.args.piece.now c.fed_of.result) c.self.view_is
    (subst (λ fed. Feeds held c.args.piece.now fed) (sym c.fed_of.ensures)
    (ended_says held c.args.piece.now c.split_at.result.0.now (16384 - c.held_len-room.result) c.in-Ended.used c.ended.result opens seen at answers))

pub returns-in-Ended-clause-held : goal.returns-in-Ended-clause-held
returns-in-Ended-clause-held c =
    c.ended.ensures.empty
    ∙ sym (ap (held_after c.args.self.now c.args.piece.now) c.fed_of.ensures ∙ ended_holds c.args.self.now c.args.piece.now c.in-Ended.used c.ended.result)
