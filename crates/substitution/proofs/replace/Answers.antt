-- `substitution::replace` meets its contract: the places found make the result, which is written if it fits. Assumes nothing.
use mathlib.Core.Path.{refl}
use Rattle.substitution.proofs.place.Finds.{whole}
use Rattle.substitution.proofs.Works.{cut, putting, end-within, done, outgrown}
use Rattle.substitution.proofs.replace.Goals as goal

pub clear-requires-in-Some : goal.clear-requires-in-Some
clear-requires-in-Some c =
    let (t, v, j) = c.requires in
    end-within j (c.put_in.ensures _ t v (putting j refl (c.find_places-found.ensures t (whole t _ j.term_in.bytes)).1 (c.find_places-found.ensures t (whole t _ j.term_in.bytes)).2)) c.in-Some.is c.past-size.ensures

pub put_in-requires : goal.put_in-requires
put_in-requires c =
    let (t, v, j) = c.requires in
    record {
      putting = (_, t, v, putting j refl (c.find_places-found.ensures t (whole t _ j.term_in.bytes)).1 (c.find_places-found.ensures t (whole t _ j.term_in.bytes)).2);
      room = j.out-room;
    }

pub returns-in-None : goal.returns-in-None
returns-in-None c = λ t v j. outgrown j (c.put_in.ensures _ t v (putting j refl (c.find_places-found.ensures t (whole t _ j.term_in.bytes)).1 (c.find_places-found.ensures t (whole t _ j.term_in.bytes)).2)) c.in-None.is _ c.of_no_input.ensures _ _ c.clear.ensures

pub returns-in-Some : goal.returns-in-Some
returns-in-Some c = λ t v j. done j (c.put_in.ensures _ t v (putting j refl (c.find_places-found.ensures t (whole t _ j.term_in.bytes)).1 (c.find_places-found.ensures t (whole t _ j.term_in.bytes)).2)) c.in-Some.is c.past-size.ensures _ _ _ c.clear-in-Some.ensures c.clear.ensures

pub slice_bounds-body-end : goal.slice_bounds-body-end
slice_bounds-body-end c =
    let (t, v, j) = c.requires in
    (cut j refl (c.find_places-found.ensures t (whole t _ j.term_in.bytes)).1).1

pub slice_bounds-row-end : goal.slice_bounds-row-end
slice_bounds-row-end c =
    let (t, v, j) = c.requires in
    (cut j refl (c.find_places-found.ensures t (whole t _ j.term_in.bytes)).1).0
