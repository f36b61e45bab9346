-- The bytes of the file, and then the feed that they mean.
use Rattle.gw_base.proofs.AnswerLemmas.{went_on}
use Rattle.gw_base.specs.Answers.{UnlessFree}
use Rattle.gw_base.specs.Limits.{body_limit}
use Rattle.file_commands.specs.Exits.{is_free}
use Rattle.file_commands.specs.Work.{IsBodyFeed, IsFurtherFile}
use Rattle.file_commands.proofs.FeedSteps.{whatever}
use Rattle.file_commands.proofs.feeds.feed_file.Goals as goal

pub returns-clause-told : goal.returns-clause-told
returns-clause-told g c =
    let told = g.F.Files.told c.args.files.now in
    let name = c.args.name.now in
    let second = rw c.as_slice.ensures.same at c.body_feed.ensures.told in
    went_on told is_free (λ files. IsFurtherFile body_limit name files) (λ files body. IsBodyFeed name body) c.in_ok-body.body c.body_feed.result
    c.in_ok-body.ensures.told (whatever told (UnlessFree is_free c.body_feed.result (IsBodyFeed name c.in_ok-body.body)) second)
