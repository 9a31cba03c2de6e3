-- The walk `find` ends: each part begins behind its node's head.
use Rattle.std.proofs.Common.{◌-◌, length}
use Rattle.substitution.proofs.place.+find.Given as goal

abbrev pub decreases-find : goal.decreases-find
decreases-find l = length l.s.now.now - l.at
