-- The parts of a redex where they stand, and what is known of them when they are put together. Assumes nothing: these are definitions.
use Rattle.std.specs.Prelude.{ℕ, ◌+◌, ◌-◌, ◌≤◌, ◌≡◌, true, List, length, take, drop}
use Rattle.rules.specs.Basic.{Bytes}
use Rattle.rules.specs.Limits.{limits}
use Rattle.rules.specs.Name.{Name}
use Rattle.rules.specs.Term.{Term, nodes, size, fits}
use Rattle.term.specs.Place.{TermAt}
use Rattle.substitution.specs.Places.{places, Held}
use Rattle.contraction.specs.Stays.{Stays}
use Rattle.contraction.specs.Contracted.{Redex}
use Rattle.contraction.specs.declared.part.BodyAt.{BodyAt}
use Rattle.contraction.specs.declared.part.Part.{Part}

-- the term e at i has ended, and the row holds the places where x is free in it
pub record Kept (i : ℕ) (x : Name) (e : Term) (row : List ℕ) (b : BodyAt) : Type 0 where
  pub from : b.from ≡ i
  pub next : b.end ≡ i + size e
  pub held : Held row b.kept.count (places x e 0)
  pub gap_is : b.kept.gap ≡ 2 + length x

-- the part is v
pub record PartIs (s : Bytes) (p : Part) (v : Term) : Type 0 where
  pub stands : TermAt s p.from v
  pub ends : p.extent.next ≡ p.from + size v
  pub count : p.extent.nodes ≡ nodes v
  pub fits : fits limits v ≡ true

-- v goes into e, a part of the redex t, for x; with e for t the whole has n nodes
pub record Placing (s : Bytes) (at end : ℕ) (b : BodyAt) (p : Part) (n l : ℕ) (row : List ℕ) (whole : ℕ) (t : Term) (x : Name) (e v : Term) : Type 0 where
  pub redex : Redex s at whole l t
  pub ends : end ≡ at + size t
  pub body_at : TermAt s b.from e
  pub body-in : size e ≤ size t
  pub found : Kept b.from x e row b
  pub value : PartIs s p v
  pub nodes-in : nodes e ≤ nodes t
  pub count : n ≡ whole - nodes t + nodes e
  pub stays : Stays t 0

-- v for x goes into e, then w for y; e is the last part of the redex t
pub record Pairing (s : Bytes) (at middle past : ℕ) (p q : Part) (n l whole : ℕ) (t : Term) (x y : Name) (e v w : Term) : Type 0 where
  pub redex : Redex s at whole l t
  pub names_in : (at + 2 ≤ middle) × (middle + 1 ≤ past) × (past ≤ length s)
  pub x-is : take (middle - (at + 2)) (drop (at + 2) s) ≡ x
  pub y-is : take (past - (middle + 1)) (drop (middle + 1) s) ≡ y
  pub first : PartIs s p v
  pub second : PartIs s q w
  pub body_at : TermAt s q.extent.next e
  pub body-past : at ≤ q.extent.next
  pub ends : q.extent.next + size e ≡ at + size t
  pub nodes-in : nodes e ≤ nodes t
  pub count : n ≡ whole - nodes t + nodes e
  pub stays : Stays t 0
