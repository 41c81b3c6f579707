-- Which faults pass by themselves.
use Rattle.std.specs.Prelude.{ℕ, List, Bool, true, false, ◌||◌, codes}
use Rattle.std.specs.Str.{bytes_eq}
use Rattle.follower.specs.declared.fault.FollowFault.{FollowFault}
use Rattle.follower.specs.declared.fault.FollowFault.TheVariants.{Connection, Silent, Ended, Server}

-- the slot is active; too many connections; the server ends, crashed, or begins (PostgreSQL 15, appendix A)
abbrev pub is_passing_code : List ℕ → Bool
is_passing_code code = bytes_eq code (codes "55006") || (bytes_eq code (codes "53300") || (bytes_eq code (codes "57P01") || (bytes_eq code (codes "57P02") || bytes_eq code (codes "57P03"))))

-- a lost connection passes, and so does what the server refuses for now
abbrev pub is_passing : FollowFault → Bool
is_passing (Connection e) = true
is_passing Silent = true
is_passing Ended = true
is_passing (Server s) = is_passing_code s.code
is_passing _ = false
