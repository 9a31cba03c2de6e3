-- `class::put_letters` meets its contract: it is marked as the definition has it. Assumes nothing.
use Prim.Native.Nat.{ℕ}
use mathlib.Core.Path.{◌≡◌, ap, ◌∙◌}
use lib.ListN.{replicate}
use lib.Seq.{sets}
use Rattle.rules.specs.Basic.{Bytes}
use Rattle.reader.specs.Tables.{letter, letters_in}
use Rattle.reader.proofs.class.put_letters.Goals as goal

pub returns : goal.returns
unfolding letters_in
returns c =
    let from : (t u : Bytes) (b n v : ℕ) → t ≡ u → sets t b (replicate n v) ≡ sets u b (replicate n v) = λ t u b n v e. ap (λ l. sets l b (replicate n v)) e in
    c.mark-4.ensures ∙ from _ _ 97 26 letter (c.mark-3.ensures ∙ from _ _ 95 1 letter (c.mark-2.ensures ∙ from _ _ 65 26 letter c.mark.ensures))
