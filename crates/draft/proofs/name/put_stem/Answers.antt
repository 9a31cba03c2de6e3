-- `name::put_stem` meets its contract: `x`, nothing, or the bytes that stand there, which end within the bytes. Assumes nothing.
use Prim.Native.Nat.{ℕ, ◌+◌}
use mathlib.Core.Path.{ap, ◌∙◌}
use lib.Seq.{slice}
use Rattle.rules.specs.Name.{lower}
use Rattle.words.specs.Digits.{wrote_as}
use Rattle.draft.proofs.row.Stems.{stem-slice}
use Rattle.draft.proofs.name.put_stem.Goals as goal

pub returns : goal.returns
returns c = let a = c.args in
    let n = c.stem_len-n.ensures.0 in
    wrote_as (ap (λ (k : ℕ). lower (slice (a.stem + 1) (a.stem + 1 + k) a.s.now)) n ∙ stem-slice a.s.now a.stem c.if-stem-eq0.false) c.put_lower.ensures
