-- `put::put_identity` meets its contract: a name has a row of its own, and a new one a row of an Abs; neither has a part. Assumes nothing.
use native.Mathlib.Omega.{arith}
use Rattle.rules.specs.Term.{leaf, unit}
use Rattle.draft.specs.Steady.{drafts-unit}
use Rattle.proof_draft.proofs.put.Putting.{put_is, new-name}
use Rattle.proof_draft.proofs.put.put_identity.Goals as goal

pub returns-in-None : goal.returns-in-None
returns-in-None c =
    λ s. rw c.in-None.is (put_is (new-name s c.args.counter) (c.push_row-in-None.ensures s (leaf unit) (leaf unit) _ (omega arith) (drafts-unit c.requires.0.rows) (drafts-unit c.requires.0.rows)))

pub returns-in-Some : goal.returns-in-Some
returns-in-Some c =
    λ s. rw c.in-Some.is (c.push_row.ensures s (leaf unit) (leaf unit) _ (omega arith) (drafts-unit c.requires.0.rows) (drafts-unit c.requires.0.rows))
