-- What goes in, and where: the parts of the redex as slices, and what the whole has with the body in the redex's place. Assumes nothing.
use Prim.Native.Nat.{ℕ, ◌+◌, ◌-◌, ◌≤◌}
use mathlib.Core.Path.{◌≡◌, refl, sym, ap, ◌∙◌}
use mathlib.Core.Option.{none, some}
use mathlib.Core.List.{List}
use native.Mathlib.Omega.{arith}
use lib.ListN.{length, take, drop, replicate, length-replicate}
use Rattle.rules.specs.Basic.{Bytes}
use Rattle.rules.specs.Limits.{limits}
use Rattle.rules.specs.Name.{Name}
use Rattle.rules.specs.Term.{Term, nodes, size}
use Rattle.rules.specs.Substitution.{subst}
use Rattle.rules.specs.declared.Rule.{Rule}
use Rattle.term.proofs.node.Terms.{at-end}
use Rattle.term.specs.Given.{Given}
use Rattle.term.proofs.span.Rows.{term-part}
use Rattle.substitution.specs.Tally.{moved, then_moved}
use Rattle.substitution.specs.Put.{Putting, Turns, Puts, Room}
use Rattle.substitution.specs.declared.put.Written.{Written}
use Rattle.contraction.specs.Contracted.{Contracts}
use Rattle.contraction.specs.Parts.{Kept, PartIs, Placing, Pairing}
use Rattle.contraction.specs.declared.part.BodyAt.{BodyAt}
use Rattle.contraction.specs.declared.part.Part.{Part}
use Rattle.std.specs.Prelude.{Option}
use Rattle.contraction.specs.declared.part.Contraction.{Contraction}
use Rattle.contraction.proofs.part.Standing.{inside, contracted_of, put-contracts}

module _ {s : Bytes} {p : Part} {v : Term} (i : PartIs s p v) where
  pub part_in : (p.from ≤ p.extent.next) × (p.extent.next ≤ length s)
  part_in = (omega (arith, i.ends), omega (arith, i.ends, at-end s p.from v i.stands))

  given : Given (take (p.extent.next - p.from) (drop p.from s)) p.extent.nodes v
  given = record { bytes = term-part s p.from p.extent.next v i.stands i.ends; count = i.count; fits = i.fits }

-- ---- one value

module _ {s : Bytes} {at end : ℕ} {b : BodyAt} {p : Part} {n l : ℕ} {row : List ℕ} {whole : ℕ} {t : Term} {x : Name} {e v : Term} (j : Placing s at end b p n l row whole t x e v) where
  pub bounds : (at ≤ end) × (end - at ≤ l) × (b.from ≤ b.end) × (b.end ≤ length s) × (l ≤ limits.bytes)
  bounds =
      let r = j.redex in (
        omega (arith, j.ends),
        omega (arith, j.ends, r.bytes-in),
        omega (arith, j.found.next),
        omega (arith, j.found.next, at-end s b.from e j.body_at),
        r.short,
      )

  pub putting : Putting (take (b.end - b.from) (drop b.from s)) (take b.kept.count row) b.kept.gap (take (p.extent.next - p.from) (drop p.from s)) p.extent.nodes n (l - (end - at) + (b.end - b.from)) x e v
  putting =
      let r = j.redex in
      record {
        body_is = term-part s b.from b.end e j.body_at j.found.next;
        places-are = j.found.held.are;
        gap_is = j.found.gap_is;
        value-is = given j.value;
        nodes-in = omega (arith, j.count);
        bytes-in = omega (arith, j.found.next);
        few = omega (arith, j.count, j.nodes-in, r.nodes-in, r.few);
        short = omega (arith, j.ends, j.found.next, j.body-in, r.bytes-in, r.short);
      }

  pub placed : {rule : Rule} {made made' : Bytes} {q : Option Written} {c : Option Contraction} → Room made
      → Puts (n - nodes e) (l - (end - at) + (b.end - b.from) - size e) none (moved x v e) (subst x v e) made made' q → c ≡ contracted_of rule end q
      → Contracts s at whole l t rule none (subst x v e) made' c
  placed room d is = put-contracts j.redex j.ends (omega (arith, j.count)) (omega (arith, j.ends, j.found.next)) room refl j.stays d is

-- ---- two in turn

-- the array that the first of them is written to
pub array-room : Room (replicate limits.bytes 0)
array-room = omega (arith, length-replicate {A = ℕ} limits.bytes 0)

module _ {s : Bytes} {at middle past : ℕ} {p q : Part} {n l whole : ℕ} {t : Term} {x y : Name} {e v w : Term} (j : Pairing s at middle past p q n l whole t x y e v w) where
  pub body-within : (nodes e ≤ limits.nodes) × (length s ≤ q.extent.next + limits.bytes)
  body-within = let r = j.redex in (omega (arith, j.nodes-in, r.nodes-in, r.few), omega (arith, j.body-past, r.behind, r.short))

  module _ {row : List ℕ} {b : BodyAt} (k : Kept q.extent.next (take (middle - (at + 2)) (drop (at + 2) s)) e row b) where
    ends : b.end ≡ at + size t
    ends = k.next ∙ j.ends

    pub both-bounds : (at ≤ b.end) × (b.end - at ≤ l) × (b.from ≤ b.end) × (b.end ≤ length s)
    both-bounds =
        let r = j.redex in
        (omega (arith, ends), omega (arith, ends, r.bytes-in), omega (arith, k.next, k.from), omega (arith, ends, inside r))

    pub turning : Turns (take (b.end - b.from) (drop b.from s)) row b.kept.count b.kept.gap (take (p.extent.next - p.from) (drop p.from s)) p.extent.nodes
        (take (q.extent.next - q.from) (drop q.from s)) q.extent.nodes n (l - (b.end - at) + (b.end - b.from)) x e v w
    turning =
        let r = j.redex in
        record {
          body_is = term-part s b.from b.end e (rw k.from j.body_at) (k.next ∙ ap (λ (i : ℕ). i + size e) (sym k.from));
          held = rw j.x-is at k.held;
          gap_is = rw j.x-is at k.gap_is;
          first = given j.first;
          second = given j.second;
          nodes-in = omega (arith, j.count);
          bytes-in = omega (arith, k.next, k.from);
          few = omega (arith, j.count, j.nodes-in, r.nodes-in, r.few);
          short = omega (arith, ends, k.from, j.body-past, j.ends, r.bytes-in, r.short);
        }

    pub paired : {rule : Rule} {made made' : Bytes} {z : Option Written} {c : Option Contraction} → Room made
        → Puts (n - nodes e) (l - (b.end - at) + (b.end - b.from) - size e) (some (subst x v e)) (then_moved (moved x v e) (moved (take (past - (middle + 1)) (drop (middle + 1) s)) w (subst x v e)))
        (subst (take (past - (middle + 1)) (drop (middle + 1) s)) w (subst x v e)) made made' z → c ≡ contracted_of rule b.end z
        → Contracts s at whole l t rule (some (subst x v e)) (subst y w (subst x v e)) made' c
    paired room d is = put-contracts j.redex ends (omega (arith, j.count)) (omega (arith, ends, k.next, k.from)) room refl j.stays (rw j.y-is at d) is
