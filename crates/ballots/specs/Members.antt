-- The members of a set, one by one. Assumes nothing.
use Rattle.std.specs.Prelude.{ℕ, List}
use Rattle.ballots.specs.declared.members.Members.{Members}
use Rattle.ballots.specs.Sets.{holds, room, members}

-- the members that are still to come
abbrev pub members_left : Members → List ℕ
members_left m = members (holds m.left) room
