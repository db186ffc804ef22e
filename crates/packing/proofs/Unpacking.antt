-- What `grind` is told of a room whose front is lent.
use lib.ListN.{length-take}
use Rattle.slices.proofs.Rooms.{length-zeros}

pub ruleset room = (length-zeros, length-take)
