-- `extractor::walk_proof` meets its contract: the walk begins with no entry and no row, its draft is closed, and the entries are set to zeros, or not. Assumes nothing.
use Prim.Native.Nat.{ℕ}
use mathlib.Core.Path.{sym, ap, ◌∙◌}
use mathlib.Core.List.{List, ◌++◌}
use lib.ListN.{drop, replicate}
use Rattle.std.proofs.lemmas.List.{length-take-le}
use Rattle.proof_draft.specs.declared.entry.CutEntry.{CutEntry}
use Rattle.proof_draft.specs.Entries.{none, zeroed}
use Rattle.proof_draft.proofs.entry.Filling.{zeroed-fill}
use Rattle.extract.proofs.ending.Ending.{closes-few, no_rows, walk-starts, walk-done}
use Rattle.extract.proofs.extractor.walk_proof.Goals as goal

pub draft_rule-draft-requires : goal.draft_rule-draft-requires
draft_rule-draft-requires c = walk-starts c.requires.3 c.requires.1 c.requires.2

pub close-end-requires : goal.close-end-requires
close-end-requires c =
    let q = c.requires in
    (q.0, no_rows, q.1, walk-done q.3 q.1 q.2 c.draft_rule-draft.ensures.1)

pub slice_bounds-fill-end : goal.slice_bounds-fill-end
slice_bounds-fill-end c =
    let q = c.requires in
    let few = closes-few (c.close-end.ensures q.0 no_rows q.1 (walk-done q.3 q.1 q.2 c.draft_rule-draft.ensures.1)) in
    few

pub slice_bounds-fill-end-2 : goal.slice_bounds-fill-end-2
slice_bounds-fill-end-2 c =
    let q = c.requires in
    let few = closes-few (c.close-end.ensures q.0 no_rows q.1 (walk-done q.3 q.1 q.2 c.draft_rule-draft.ensures.1)) in
    sym (length-take-le _ _ few)

pub returns : goal.returns
returns c =
    let q = c.requires in
    let same = c.draft_rule-draft.ensures.0 in
    let few = closes-few (c.close-end.ensures q.0 no_rows q.1 (walk-done q.3 q.1 q.2 c.draft_rule-draft.ensures.1)) in
    let kept = c.draft_rule-draft.new.row in
    let clears = c.close-end.result.clears in
    let zeros = c.fill.ensures.after (λ y e. e) ∙ ap (λ (k : ℕ). replicate k none) (length-take-le _ _ few) in (
      ap (λ (es : List CutEntry). es ++ drop clears kept) zeros ∙ sym (zeroed-fill none clears kept few) ∙ ap (λ (es : List CutEntry). zeroed none clears es) same,
      λ p w. rw same at (c.close-end.ensures p no_rows w (walk-done q.3 w q.2 c.draft_rule-draft.ensures.1)),
    )
