-- `conclusion::read_own` meets its contract: a case for each thing that a rule may carry. Assumes Nothing.
use native.Mathlib.Omega.{arith}
use mathlib.Core.Path.{sym, ap, ◌∙◌}
use Rattle.std.specs.Prelude.{Ok}
use Rattle.laws.specs.Handed.{handed}
use Rattle.proof.specs.Seen.{seen, found, within}
use Rattle.proof.specs.Stages.{row_of, index_of}
use Rattle.proof.proofs.tag.Tags.{headed}
use Rattle.proof.proofs.conclusion.Owns.{own-off, own-plain, own-cut, own-focus}
use Rattle.proof.proofs.conclusion.read_own.Goals as goal

pub past_tag-past-requires : goal.past_tag-past-requires
past_tag-past-requires c =
    let w = headed _ _ _ _ _ c.requires.formulas_bound.1 (sym c.in_ok-carries.was ∙ c.read_tag.ensures) in
    omega (arith, w.inside, w.room)

pub read_formulas-requires-clause-formulas_bound : goal.read_formulas-requires-clause-formulas_bound
read_formulas-requires-clause-formulas_bound c =
    let w = headed _ _ _ _ _ c.requires.formulas_bound.1 (sym c.in_ok-carries.was ∙ c.read_tag.ensures) in
    (c.requires.formulas_bound.0, omega arith, omega (arith, w.inside, w.room, ap (λ q. q.next) c.past_tag-past.ensures))

pub returns-in_err-carries : goal.returns-in_err-carries
returns-in_err-carries c = let a = c.args in
    handed c.from_residual.result c.from_residual.ensures.1 ∙ sym (own-off (within a.most) a.s.now a.from _ (sym c.in_err-carries.was ∙ c.read_tag.ensures))

pub returns-in-Formula : goal.returns-in-Formula
returns-in-Formula c = let a = c.args in
    let w = headed _ _ _ _ _ c.requires.formulas_bound.1 (sym c.in_ok-carries.was ∙ c.read_tag.ensures) in
    c.read_formulas.ensures
    ∙ ap (λ q. seen (found (row_of (within a.most) 1) a.s.now q)) c.past_tag-past.ensures
    ∙ sym (own-cut (within a.most) a.s.now a.from w c.in-Formula.is)

pub returns-in-Index : goal.returns-in-Index
returns-in-Index c = let a = c.args in
    let w = headed _ _ _ _ _ c.requires.formulas_bound.1 (sym c.in_ok-carries.was ∙ c.read_tag.ensures) in
    c.read_index.ensures
    ∙ ap (λ q. seen (found index_of a.s.now q)) c.past_tag-past.ensures
    ∙ sym (own-focus (within a.most) a.s.now a.from w c.in-Index.is)

pub returns-in-Nothing : goal.returns-in-Nothing
returns-in-Nothing c = let a = c.args in
    let w = headed _ _ _ _ _ c.requires.formulas_bound.1 (sym c.in_ok-carries.was ∙ c.read_tag.ensures) in
    ap Ok c.past_tag-past.ensures ∙ sym (own-plain (within a.most) a.s.now a.from w c.in-Nothing.is)
