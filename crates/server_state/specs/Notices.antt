-- What streams are told of, and which receipt stays of those that commits leave.
use Rattle.std.specs.Prelude.{◌≡◌, ℕ, ◌≤◌, Option, Some, None, cond, nat_lt}
use Rattle.txlog.specs.Receipts.{Committed}
use Rattle.server_state.specs.declared.streams.spreading.Woken.{Woken}

-- of two receipts the one of the greater place
abbrev pub greatest : Option Committed → Committed → Committed
greatest None new = new
greatest (Some old) new = cond (nat_lt old.place new.place) new old

-- where the latest commit's record ends
abbrev pub notice_end : Option Committed → ℕ
notice_end None = 0
notice_end (Some latest) = latest.end

-- what was written that no stream was told of: where the log ends after it, and the receipt of a commit
pub record News : Type 0 where
  pub end : ℕ
  pub receipt : Option Committed

abbrev pub news_of_commit : Committed → News
news_of_commit receipt = record { end = receipt.end; receipt = Some receipt }

abbrev pub news_of_end : ℕ → News
news_of_end end = record { end = end; receipt = None }

-- each of so many latches was told that the log ends there, or further
abbrev pub IsWoken : ℕ → ℕ → Woken → Type 0
IsWoken latches end woken = (woken.told ≡ latches) × (end ≤ woken.end)
