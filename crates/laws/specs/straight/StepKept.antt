-- What a step of a straight term takes out, by its weights: two nodes and more, and what is left fits the limits.
-- Assumes nothing.
use Rattle.std.specs.Prelude.{ℕ, ◌+◌, ◌≤◌, ◌<◌, ◌≡◌, refl, true, ◌&&◌, List, [], ◌∷◌, length, leb}
use Rattle.std.proofs.Common.{ap₂, ◌∙◌, arith, leb-true, le-leb}
use Rattle.std.proofs.Math.Option.{Option, none, some}
use Rattle.rules.specs.Limits.{Limits}
use Rattle.rules.specs.Name.{Name}
use Rattle.rules.specs.Term.{Term, nodes, size, fits}
use Rattle.rules.specs.declared.Rule.{Rule}
use Rattle.rules.specs.declared.Rule.TheVariants.{App, Let, Case, Fst, Snd, Derelict, Copy, Discard}
use Rattle.rules.specs.Step.{half_fits, step_fits}
use Rattle.laws.specs.free.Same.{both_true}
use Rattle.laws.specs.straight.Promise.{Loses}
use Rattle.laws.specs.straight.Weights.{Weight, weigh, stands_of, node_count_of, bytes_of, uses_of, nodes-weigh, bytes-weigh}
use Rattle.laws.specs.straight.Counted.{Counted}
use Rattle.laws.specs.straight.Contraction.{Takes, gone, weigh_half, Taken}

-- The names that go take as many binders as uses, and a node each.
gone-alike : (z : Name) (xs : List Name) → gone (stands_of z) xs ≡ gone (uses_of z) xs
gone-alike z [] = refl
gone-alike z (x ∷ xs) = omega (arith, gone-alike z xs)

gone-nodes : (xs : List Name) → gone node_count_of xs ≡ length xs
gone-nodes [] = refl
gone-nodes (x ∷ xs) = omega (arith, gone-nodes xs)

pub kept : (t : Term) (r : Rule) (h : Option Term) (u : Term) → Counted t → Taken t r h u → Counted u
kept t r h u c m =
    record {
      plain = m.plain;
      bound = λ z k.
          let s = m.weighs (stands_of z) in
          let p = m.weighs (uses_of z) in
          let a = gone-alike z m.names in
          let w = c.bound z (omega arith) in
          record { placed = omega arith; used = omega arith; hidden = m.frees z ∙ w.hidden };
    }

pub taken-nodes : (t : Term) (r : Rule) (h : Option Term) (u : Term) → (m : Taken t r h u) → nodes t ≡ nodes u + (2 + length m.names)
taken-nodes t r h u m = omega (arith, m.weighs node_count_of, nodes-weigh t, nodes-weigh u, gone-nodes m.names)

pub loses : (r : Rule) (xs : List Name) (n m : ℕ) → Takes r xs → n ≡ m + (2 + length xs) → Loses r n m
loses App xs n m h k = omega arith
loses Let xs n m h k = omega arith
loses Derelict xs n m h k = omega arith
loses Case xs n m h k = h
loses Fst xs n m h k = h
loses Snd xs n m h k = h
loses Copy xs n m h k = h
loses Discard xs n m h k = h

-- a term that is no larger fits too
fits-less : (L : Limits) (t u : Term) → nodes u ≤ nodes t → size u ≤ size t → fits L t ≡ true → fits L u ≡ true
unfolding fits
fits-less L t u p q h =
    let a = leb-true (nodes t) L.nodes (both_true (leb (nodes t) L.nodes) (leb (size t) L.bytes) h).0 in
    let b = leb-true (size t) L.bytes (both_true (leb (nodes t) L.nodes) (leb (size t) L.bytes) h).1 in
    ap₂ ◌&&◌ (le-leb (nodes u) L.nodes (omega arith)) (le-leb (size u) L.bytes (omega arith))

half-fits : (L : Limits) (t : Term) (h : Option Term) → ((w : Weight) → weigh_half w h ≤ weigh w t) → fits L t ≡ true → half_fits L h ≡ true
half-fits L t none k f = refl
half-fits L t (some h) k f = fits-less L t h (omega (arith, k node_count_of, nodes-weigh t, nodes-weigh h)) (omega (arith, k bytes_of, bytes-weigh t, bytes-weigh h)) f

pub taken-bytes : (t : Term) (r : Rule) (h : Option Term) (u : Term) → Taken t r h u → size u < size t
taken-bytes t r h u m = omega (arith, m.weighs bytes_of, bytes-weigh t, bytes-weigh u)

pub taken-fits : (L : Limits) (t : Term) (r : Rule) (h : Option Term) (u : Term) → Taken t r h u → fits L t ≡ true → step_fits L h u ≡ true
taken-fits L t r h u m f =
    ap₂ ◌&&◌ (half-fits L t h m.halfway f) (fits-less L t u (omega (arith, taken-nodes t r h u m)) (omega (arith, taken-bytes t r h u m)) f)
