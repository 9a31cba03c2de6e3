-- `name::few` meets its contract: where fewer bytes are there than may be, just its own are copied. Assumes nothing.
use Rattle.std.proofs.Common.{arith}
use Rattle.words.specs.Written.{exact}
use Rattle.words.proofs.name.few.Goals as goal

pub returns-in-None : goal.returns-in-None
returns-in-None g c =
    let a = c.args in
    exact a.s.now a.out.now _ a.from a.to a.n _ c.requires.1 (omega (arith, c.requires)) c.copy.ensures
