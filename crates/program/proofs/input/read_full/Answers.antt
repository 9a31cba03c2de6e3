-- `input::read_full` meets its contract: what a turn reads follows, in the room as in the input, what the turns before have read.
use Rattle.std.proofs.Common.{◌≡◌, ℕ, ◌+◌, ◌≤◌, List, ◌++◌, rules, length, take, drop, sym, ap, ◌∙◌, subst, le_refl, drop_at, length-take-le}
use Rattle.std.proofs.lemmas.Slice.{take-put_mid_below}
use Rattle.std.specs.Io.KnownBytes.{Consumes}
use Rattle.std.proofs.KnownBytes.{Consumes-trans}
use borrow.Rule.Slice.PartMut.{put_mid, post_of}
use lib.Seq.{take-add, take-append-le}
use Rattle.program.proofs.input.read_full.Goals as goal

-- the front of a room, and then n bytes of what is put behind it
behind : (a k n : ℕ) (xs ys : List ℕ) → a ≤ length xs → n ≤ length ys → take (a + n) (put_mid a k xs ys) ≡ take a xs ++ take n ys
behind a k n xs ys within fits =
    let after = post_of a k xs in
    take-add a n (put_mid a k xs ys)
    ∙ ap (λ l. l ++ take n (drop a (put_mid a k xs ys))) (take-put_mid_below _ _ _ _ _ (le_refl _) within)
    ∙ ap (λ l. take a xs ++ take n l) (drop_at (take a xs) (ys ++ after) a (length-take-le a xs within))
    ∙ ap (λ l. take a xs ++ l) (take-append-le n ys after fits)

pub loop-n-preserved : goal.loop-n-preserved
loop-n-preserved g c =
    let r = c.in_ok-more in
    (search rules, subst (Consumes _ _) (sym (behind c.loop-n.n _ r.more c.loop-n.room c.read.new.buf c.loop-n.invariant.0 r.ensures.bound.0)) (Consumes-trans _ _ _ _ _ c.loop-n.invariant.1 r.ensures.bytes.0))
