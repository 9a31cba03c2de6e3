-- `digit::put_decimal` meets its contract: the digits of a tenth, then the last one. Assumes nothing.
use mathlib.Core.Path.{sym, ap}
use Prim.Native.Nat.{◌+◌, ◌%◌}
use native.Mathlib.Omega.{arith}
use lib.ListN.{length}
use Rattle.buffer.specs.Writing.{chain}
use Rattle.words.specs.Digits.{decimal-one, decimal-more, length-decimal, wrote_one, wrote_as}
use Rattle.words.proofs.digit.+put_decimal.Goals as goal

pub bounds-out-at : goal.bounds-out-at
bounds-out-at t c = let l = ap length (decimal-one c.args.n c.if-n-lt10.true) in omega (arith, c.requires)

pub returns-then-n-lt10 : goal.returns-then-n-lt10
returns-then-n-lt10 t c = wrote_as (sym (decimal-one c.args.n c.if-n-lt10.true)) (wrote_one c.args.out.now c.args.at (48 + c.args.n))

pub put_decimal-past-requires : goal.put_decimal-past-requires
put_decimal-past-requires t c =
    let l = length-decimal c.args.n c.if-n-lt10.false in
    (omega (arith, c.decreases, c.if-n-lt10.false), omega (arith, c.requires))

pub bounds-out-past : goal.bounds-out-past
bounds-out-past t c =
    let l = length-decimal c.args.n c.if-n-lt10.false in
    omega (arith, c.requires, c.put_decimal-past.ensures.ends, c.put_decimal-past.auto.out)

pub overflow_add-result-2 : goal.overflow_add-result-2
overflow_add-result-2 t c =
    let l = length-decimal c.args.n c.if-n-lt10.false in
    omega (arith, c.requires, c.put_decimal-past.ensures.ends, c.put_decimal-past.auto.out)

pub returns : goal.returns
returns t c =
    let p = c.put_decimal-past in
    wrote_as (sym (decimal-more c.args.n c.if-n-lt10.false)) (chain p.ensures (wrote_one p.new.out p.result (48 + c.args.n % 10)))
