-- What a call of the publisher leaves for streams.
use Rattle.std.specs.Prelude.{ℕ, Option, None, Some}
use Rattle.server_state.specs.declared.sessions.writing.Left.{Left}
use Rattle.server_state.specs.declared.sessions.writing.Left.TheVariants as lefts
use Rattle.server_state.specs.Notices.{News, news_of_commit, news_of_end}

-- what streams are to be told of it, in a log that ends there
abbrev pub news_left : {L : Type 0} → Left L → ℕ → Option News
news_left lefts.Nothing end = None
news_left lefts.Abort end = Some (news_of_end end)
news_left lefts.Note end = Some (news_of_end end)
news_left (lefts.Commit receipt) end = Some (news_of_commit receipt)
