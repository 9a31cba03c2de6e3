-- What breaks no limit, in numbers; and a legal term that breaks none is one that is accepted, and the reverse: what a call writes can be read again.
-- Assumes nothing.
use Rattle.std.specs.Prelude.{◌≤◌, ◌≡◌, refl, true, length}
use Rattle.std.proofs.Common.{ap, arith, leb-true, le-leb}
use Rattle.rules.specs.Basic.{Bytes, ◌≤?◌}
use Rattle.rules.specs.Limits.{Limits}
use Rattle.rules.specs.Legal.{Legal}
use Rattle.rules.specs.Term.{Term, encode, nodes, size, fits}
use Rattle.laws.specs.free.Same.{both_true}
use Rattle.laws.specs.reading.Decoding.{TermIn}

pub within : (L : Limits) (t : Term) → fits L t ≡ true → (nodes t ≤ L.nodes) × (size t ≤ L.bytes)
unfolding fits
within L t e =
    let h = both_true (nodes t ≤? L.nodes) (size t ≤? L.bytes) e in
    (leb-true (nodes t) L.nodes h.0, leb-true (size t) L.bytes h.1)

pub fits-yes : (L : Limits) (t : Term) → nodes t ≤ L.nodes → size t ≤ L.bytes → fits L t ≡ true
unfolding fits
fits-yes L t h k = rw (le-leb (nodes t) L.nodes h) (le-leb (size t) L.bytes k)

pub fits-accepted : (L : Limits) (t : Term) → Legal t → fits L t ≡ true → TermIn L (encode t) t
fits-accepted L t l e = let h = within L t e in record { bytes = refl; short = h.1; few = h.0; legal = l }

pub accepted-fits : (L : Limits) (s : Bytes) (t : Term) → TermIn L s t → fits L t ≡ true
accepted-fits L s t a = fits-yes L t a.few (omega (arith, a.short, ap length a.bytes))
