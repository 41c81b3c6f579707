-- What a client is told of the server's own error: an ErrorResponse (PostgreSQL 15, 55.7 and 55.8) with a code of appendix A.
use Rattle.std.specs.Prelude.{ℕ, List, [], ◌∷◌, codes}
use Rattle.frames.specs.declared.back.Back.{Back}
use Rattle.frames.specs.declared.back.Back.TheVariants.{ErrorResponse}
use Rattle.frames.specs.Frame.{frame}
use Rattle.frames.specs.Back.{back_kind, back_body}
use Rattle.connections.specs.declared.words.StreamError.{StreamError}
use Rattle.connections.specs.declared.words.StreamError.TheVariants.{Memory, FullArena, NoEntry, Removed, Crowd}

abbrev pub stream_error_code : StreamError → List ℕ
stream_error_code Memory = codes "53200"
stream_error_code FullArena = codes "53400"
stream_error_code NoEntry = codes "53400"
stream_error_code Removed = codes "57P01"
stream_error_code Crowd = codes "53300"

abbrev pub stream_error_text : StreamError → List ℕ
stream_error_text Memory = codes "out of memory"
stream_error_text FullArena = codes "change arena is full"
stream_error_text NoEntry = codes "log cannot be entered"
stream_error_text Removed = codes "terminating connection due to administrator command"
stream_error_text Crowd = codes "sorry, too many clients already"

-- for good: a connection that never began, and one whose slot was given up, as PostgreSQL ends it
abbrev pub stream_error_severity : StreamError → List ℕ
stream_error_severity Memory = codes "ERROR"
stream_error_severity FullArena = codes "ERROR"
stream_error_severity NoEntry = codes "ERROR"
stream_error_severity Removed = codes "FATAL"
stream_error_severity Crowd = codes "FATAL"

abbrev pub stream_error_frame : StreamError → Back
stream_error_frame stream_error = ErrorResponse (record {
  fields =
      record { code = 83; text = stream_error_severity stream_error } ∷ record { code = 86; text = stream_error_severity stream_error } ∷ record { code = 67; text = stream_error_code stream_error } ∷ record { code = 77; text = stream_error_text stream_error } ∷ [];
})

unfoldable pub told_stream_error : StreamError → List ℕ
told_stream_error stream_error = frame (back_kind (stream_error_frame stream_error)) (back_body (stream_error_frame stream_error))
