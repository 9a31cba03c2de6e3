-- `tell::put_values` meets its contract: behind the values stand the zeros that were there. Assumes nothing.
use Rattle.std.proofs.Common.{◌≡◌, ℕ, ◌++◌, ◌∷◌, List, length, drop, replicate, arith}
use Rattle.std.proofs.lemmas.List.{drop-replicate}
use Rattle.entry.specs.Told.{told}
use Rattle.entry.proofs.tell.put_values.Goals as goal

behind : (k : ℕ) (vs : List ℕ) → k ≡ length vs → 0 ∷ 0 ∷ 0 ∷ (vs ++ drop k (replicate 13 0)) ≡ told 0 0 0 vs
behind k vs e = rw (e, drop-replicate)

pub returns : goal.returns
returns c = rw c.copy_from_slice.ensures.after (behind _ c.args.values.now (omega arith))
