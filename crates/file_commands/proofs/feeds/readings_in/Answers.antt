-- The readings are over the window of the setting.
use Rattle.file_commands.proofs.feeds.readings_in.Goals as goal

pub returns : goal.returns
returns c = rw c.context.ensures.shows at c.readings_of.ensures
