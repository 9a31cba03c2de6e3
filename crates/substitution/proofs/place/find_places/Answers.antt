-- `place::find_places` meets its contract: the walk starts at the start of the bytes and of the row. Assumes nothing.
use Rattle.substitution.proofs.place.Finds.{begins}
use Rattle.substitution.proofs.place.find_places.Goals as goal

pub find-found-requires : goal.find-found-requires
find-found-requires c =
    let (_, w, n) = c.requires.term_at in
    begins _ w n c.requires.s_len_bound.0 c.requires.s_len_bound.1
