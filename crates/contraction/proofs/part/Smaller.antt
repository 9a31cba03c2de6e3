-- What a rule knows of the parts of its redex: one that goes in is smaller than the redex, so it fits; a body has its places where it stands. Assumes nothing.
use Prim.Native.Nat.{ℕ, ◌+◌, ◌-◌, ◌≤◌}
use mathlib.Core.Path.{◌≡◌, refl, ap, ◌∙◌, sym}
use mathlib.Core.Bool.{true}
use mathlib.Core.List.{List}
use native.Mathlib.Omega.{arith}
use Rattle.rules.specs.Basic.{Bytes}
use Rattle.rules.specs.Limits.{limits}
use Rattle.rules.specs.Name.{Name}
use Rattle.rules.specs.Term.{Term, nodes, size}
use Rattle.laws.specs.reading.Fits.{fits-yes}
use Rattle.term.specs.Place.{TermAt}
use Rattle.term.specs.Measured.{Measured}
use Rattle.term.specs.declared.span.Extent.{Extent}
use Rattle.substitution.proofs.put.Puts.{beside-yes}
use Rattle.contraction.specs.Contracted.{Redex}
use Rattle.contraction.specs.Parts.{Kept, PartIs}
use Rattle.contraction.specs.declared.part.BodyAt.{BodyAt}
use Rattle.contraction.specs.Beside.{fits_around}

-- a part of the redex that goes in
pub part-is : {s : Bytes} {at n l : ℕ} {t : Term} → Redex s at n l t → {p : ℕ} {u : Term} {r : Extent} → TermAt s p u → Measured p u r → nodes u ≤ nodes t → size u ≤ size t
    → PartIs s (record { from = p; extent = r }) u
part-is j {u = u} w m le ls =
    record {
      stands = w;
      ends = m.next;
      count = m.nodes;
      fits = fits-yes limits u (omega (arith, j.nodes-in, j.few)) (omega (arith, j.bytes-in, j.short));
    }

-- a body with its places, at its own place
pub kept_there : {i : ℕ} {x : Name} {e : Term} {row : List ℕ} {b : BodyAt} → Kept i x e row b → Kept b.from x e row b
kept_there {e = e} k =
    record { from = refl; next = k.next ∙ ap (λ (n : ℕ). n + size e) (sym k.from); held = k.held; gap_is = k.gap_is }

-- what is no larger than the redex, in its place
pub smaller-fits : {s : Bytes} {at n l : ℕ} {t : Term} → Redex s at n l t → (u : Term) → nodes u ≤ nodes t → size u ≤ size t → fits_around n l t u ≡ true
smaller-fits {n = n} {l = l} {t = t} j u le ls = beside-yes (n - nodes t) (l - size t) u (omega (arith, j.nodes-in, j.few)) (omega (arith, j.bytes-in, j.short))
