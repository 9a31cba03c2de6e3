-- `line::put_refusal` meets its contract: two fields and the end of the line. Assumes nothing.
use Rattle.std.specs.Prelude.{ℕ, ◌+◌, [], ◌∷◌, set}
use native.Mathlib.Omega.{arith}
use mathlib.Core.Path.{subst}
use Rattle.rules.specs.Basic.{◌‥◌}
use Rattle.rules.specs.Program.{field, refusal_line}
use Rattle.buffer.specs.Writing.{chain}
use Rattle.words.specs.Digits.{wrote_one}
use Rattle.program.specs.Field.{Line}
use Rattle.program.proofs.line.put_refusal.Goals as goal

pub returns : goal.returns
unfolding refusal_line
returns c =
    let f = c.put_field-number in
    let g = c.put_field-place in
    let a = c.args in
    subst (λ (n : ℕ). Line a.out.now a.at (field "refused " n ‥ field " at " a.r.place ‥ 10 ∷ []) 64 (set g.new.out g.result 10) (g.result + 1)) c.number.ensures
    (record {
      wrote = chain f.ensures.wrote (chain g.ensures.wrote (wrote_one g.new.out g.result 10));
      most = omega (arith, f.ensures.most, g.ensures.most);
    })
