-- A redex where it stands, and what its contraction leaves. Assumes nothing: these are definitions.
use Rattle.std.specs.Prelude.{ℕ, ◌+◌, ◌-◌, ◌≤◌, ◌≡◌, true, false, ◌&&◌, length, Option, Some, None}
use Rattle.std.proofs.Math.Option.{Option as Maybe}
use Rattle.std.proofs.Math.Seq.{slice}
use Rattle.rules.specs.Basic.{Bytes, ◌‥◌}
use Rattle.rules.specs.Limits.{limits}
use Rattle.rules.specs.Term.{Term, encode, nodes, size}
use Rattle.rules.specs.declared.Rule.{Rule}
use Rattle.rules.specs.Step.{half_fits}
use Rattle.term.specs.Place.{TermAt}
pub use Rattle.substitution.specs.Places.{Row}
use Rattle.substitution.specs.declared.put.Written.{Written}
use Rattle.contraction.specs.Beside.{fits_around}
use Rattle.contraction.specs.Stays.{Stays}
use Rattle.contraction.specs.declared.part.Contraction.{Contraction}
use Rattle.contraction.specs.declared.part.Site.{Site}

-- t stands in s at `at`; it is a part of a whole of n nodes and l bytes, which breaks no limit, and so is all that stands behind it
pub record Redex (s : Bytes) (at n l : ℕ) (t : Term) : Type 0 where
  pub stands : TermAt s at t
  pub nodes-in : nodes t ≤ n
  pub bytes-in : size t ≤ l
  pub behind : length s ≤ at + l
  pub few : n ≤ limits.nodes
  pub short : l ≤ limits.bytes

-- the same of a site
abbrev pub RedexAt : Site → Term → Type 0
RedexAt p t = Redex p.bytes.now p.at p.whole.nodes p.whole.bytes t

-- the rule r made u, in a whole of n nodes: u is what was written, and what stands from m.end to the end of t, which is what the rule says
pub record Replaced (s : Bytes) (at n : ℕ) (t : Term) (r : Rule) (u : Term) (made : Bytes) (m : Contraction) : Type 0 where
  pub rule : m.rule ≡ r
  pub count : m.nodes ≡ n - nodes t + nodes u
  pub inside : m.end ≤ at + size t
  pub written : m.size ≤ length made
  pub bytes : slice 0 m.size made ‥ slice m.end (at + size t) s ≡ encode u
  pub stays : Stays t (at + size t - m.end)

-- the rule r makes u of t, if the whole with u for t fits, and what was there halfway fits by itself
pub data Contracts (s : Bytes) (at n l : ℕ) (t : Term) (r : Rule) (h : Maybe Term) (u : Term) (made : Bytes) (c : Option Contraction) : Type 0 where
  becomes : (m : Contraction) → (half_fits limits h && fits_around n l t u) ≡ true → c ≡ Some m → Replaced s at n t r u made m → Contracts s at n l t r h u made c
  outgrows : (half_fits limits h && fits_around n l t u) ≡ false → c ≡ None → Contracts s at n l t r h u made c

-- the same of a site
abbrev pub ContractsAt : Site → Term → Rule → Maybe Term → Term → Bytes → Option Contraction → Type 0
ContractsAt p t r h u made c = Contracts p.bytes.now p.at p.whole.nodes p.whole.bytes t r h u made c

-- what was put in the place of a whole redex, which ends so
abbrev pub contraction_of : Rule → (end : ℕ) → Written → Contraction
contraction_of r e w = record { rule = r; size = w.tally.past; end = e; nodes = w.nodes }
