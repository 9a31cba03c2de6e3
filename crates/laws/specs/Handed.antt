-- What the exit of a `?` hands on is the error that was met. Assumes nothing.
use Rattle.std.specs.Prelude.{◌≡◌, Result, Err, IsErrAnd}
use Rattle.std.proofs.Common.{ap, ◌∙◌}
use Rattle.std.proofs.lemmas.Result.{err_from_is_err_and}

pub handed : {A E : Type 0} (r : Result A E) {e : E} → IsErrAnd r (λ y. y ≡ e) → r ≡ Err e
handed r h = let w = err_from_is_err_and r h in w.1 ∙ ap Err w.2
