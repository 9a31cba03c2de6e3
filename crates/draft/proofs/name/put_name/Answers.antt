-- `name::put_name` meets its contract: the length, the stem and the number, one after the other. Assumes nothing.
use Prim.Native.Nat.{ℕ}
use mathlib.Core.Path.{ap}
use mathlib.Core.List.{◌∷◌}
use Rattle.buffer.specs.Writing.{chain}
use Rattle.words.specs.Digits.{wrote_one, wrote_as}
use Rattle.draft.specs.Draft.{name_of}
use Rattle.draft.proofs.name.put_name.Goals as goal

pub returns : goal.returns
returns c = let a = c.args in
    wrote_as (ap (λ (k : ℕ). k ∷ name_of a.s.now a.stem a.number) c.name_len-n.ensures.0)
    (chain (wrote_one a.out.now a.at c.name_len-n.result) (chain c.put_stem-past.ensures c.put_number.ensures))
