-- `name::put_digits` meets its contract: by how many digits there are. Assumes nothing.
use mathlib.Core.Path.{sym}
use native.Mathlib.Omega.{arith}
use lib.ListN.{length-set}
use Rattle.buffer.specs.Writing.{chain}
use Rattle.words.specs.Digits.{decimal-one, wrote_one, wrote_as}
use Rattle.draft.proofs.row.Numbering.{count-one, count-below, count-two-more, two_digits, three-digits, last-two, then-byte}
use Rattle.draft.proofs.name.put_digits.Goals as goal

pub bounds-out-at : goal.bounds-out-at
bounds-out-at c = omega (arith, count-one c.args.n c.if-n-lt10.true)

pub bounds-out-at-then-n-lt1000 : goal.bounds-out-at-then-n-lt1000
bounds-out-at-then-n-lt1000 c = omega (arith, (count-below c.args.n (omega arith)).1 (omega arith))

pub put_decimal-past-requires : goal.put_decimal-past-requires
put_decimal-past-requires c = omega (arith, count-two-more c.args.n (omega arith))

pub put_two_digits-requires : goal.put_two_digits-requires
put_two_digits-requires c = omega (arith, (count-below c.args.n (omega arith)).0 (omega arith) (omega arith))

pub put_two_digits-requires-2 : goal.put_two_digits-requires-2
put_two_digits-requires-2 c = omega (arith, count-two-more c.args.n (omega arith), c.put_decimal-past.ensures.ends, c.put_decimal-past.auto.out)

pub put_two_digits-requires-then-n-lt1000 : goal.put_two_digits-requires-then-n-lt1000
put_two_digits-requires-then-n-lt1000 c = simp length-set (omega (arith, (count-below c.args.n (omega arith)).1 (omega arith)))

pub returns : goal.returns
returns c = wrote_as (sym (last-two c.args.n (omega arith))) (chain c.put_decimal-past.ensures c.put_two_digits-2.ensures)

pub returns-then-n-lt10 : goal.returns-then-n-lt10
returns-then-n-lt10 c = wrote_as (sym (decimal-one c.args.n c.if-n-lt10.true)) (wrote_one _ _ _)

pub returns-then-n-lt100 : goal.returns-then-n-lt100
returns-then-n-lt100 c = wrote_as (sym (two_digits c.args.n (omega arith) (omega arith))) c.put_two_digits.ensures

pub returns-then-n-lt1000 : goal.returns-then-n-lt1000
returns-then-n-lt1000 c = wrote_as (sym (three-digits c.args.n (omega arith) (omega arith))) (then-byte _ _ _ c.put_two_digits-then-n-lt1000.ensures)
