-- Room for a message, by the length of its change's body.
use Rattle.std.proofs.Common.{◌≡◌, ℕ, ◌+◌, ◌≤◌, List, length, arith}
use Rattle.std.specs.Prelude.{min}
use Rattle.std.proofs.Math.Nat.{le-min, min-eq_left, min-eq_right, min-le_left, min-le_right}
use Rattle.row_messages.specs.declared.room.TheConstants.{MAX_ADDED_LENGTH, MAX_MESSAGE_LENGTH}
use Rattle.row_messages.specs.Spelling.{HasRoom, HasRoomFor, room_for}

-- whatever is no longer than the longest message, and than its body and what may be added to it
pub has_room : (size n : ℕ) (out : List ℕ) → n ≤ MAX_MESSAGE_LENGTH → n ≤ size + MAX_ADDED_LENGTH → HasRoomFor size out → n ≤ length out
has_room size n out short near room = let fits : n ≤ room_for size = le-min short near in omega (arith, fits, room.0)

pub less_room : (less more : ℕ) (out : List ℕ) → less ≤ more → HasRoomFor more out → HasRoomFor less out
less_room less more out low room =
    let max = min-le_left MAX_MESSAGE_LENGTH (less + MAX_ADDED_LENGTH) in
    let near = min-le_right MAX_MESSAGE_LENGTH (less + MAX_ADDED_LENGTH) in
    (has_room more (room_for less) out max (omega (arith, near, low)) room, room.1)

pub room_within : (size : ℕ) → room_for size ≤ MAX_MESSAGE_LENGTH
room_within size = min-le_left MAX_MESSAGE_LENGTH (size + MAX_ADDED_LENGTH)

pub room_of_long : (size : ℕ) → MAX_MESSAGE_LENGTH ≤ size + MAX_ADDED_LENGTH → room_for size ≡ MAX_MESSAGE_LENGTH
room_of_long size long = min-eq_left long

pub room_of_short : (size : ℕ) → size + MAX_ADDED_LENGTH ≤ MAX_MESSAGE_LENGTH → room_for size ≡ size + MAX_ADDED_LENGTH
room_of_short size short = min-eq_right short
