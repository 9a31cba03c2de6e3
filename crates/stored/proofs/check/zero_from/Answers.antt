-- `check::zero_from` meets its contract: a fold of the bits over the bytes from a place on. Assumes nothing.
use Rattle.std.proofs.Common.{◌∙◌, ap, eqb, rules}
use Rattle.std.specs.Prelude.{ℕ, List, drop, length, ◌-◌}
use native.Mathlib.Omega.{arith}
use lib.ListN.{length-drop}
use lib.Seq.{take_all}
use Rattle.std.specs.Int.Bits.{bit_or}
use Rattle.std.proofs.lemmas.Iterator.{YieldsList-from_slice}
use Rattle.std.proofs.lemmas.Iterator.Consumers.{fold_from_yields_List}
use Rattle.std.proofs.lemmas.List.{drop_min}
use Rattle.rules.specs.Stored.{all_zero}
use Rattle.stored.specs.Weights.{all-gathered}
use Rattle.stored.proofs.check.zero_from.Goals as goal

pub returns : goal.returns
returns c =
    let bytes = c.args.body.now in
    let rest = drop c.min.result bytes in
    let road = YieldsList-from_slice {s = c.iter.result} rest (c.iter.ensures.rest ∙ take_all (length bytes - c.min.result) rest (omega (arith, length-drop c.min.result bytes))) in
    ap (λ (n : ℕ). eqb n 0) (fold_from_yields_List _ bit_or 0 c.fold.result c.fold.ensures.ran road (λ a x b q h. search rules)) ∙ all-gathered 0 rest
    ∙ ap (λ (l : List ℕ). all_zero l) (ap (λ (k : ℕ). drop k bytes) c.min.ensures ∙ drop_min c.args.from bytes)
