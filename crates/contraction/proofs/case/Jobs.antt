-- What Case of Inl or Inr hands on: the branch, and the injected part that goes into it, where they stand. Assumes nothing.
use Prim.Native.Nat.{ℕ, ◌+◌, ◌-◌, ◌≤◌}
use mathlib.Core.Path.{◌≡◌}
use mathlib.Core.List.{List, [], ◌∷◌}
use native.Mathlib.Omega.{arith}
use lib.ListN.{length, take, drop}
use Rattle.rules.specs.Basic.{Bytes}
use Rattle.rules.specs.Limits.{limits}
use Rattle.rules.specs.Name.{Name}
use Rattle.rules.specs.Term.{Term, one, branch, One, nodes, size}
use Rattle.term.specs.Place.{TermAt}
use Rattle.term.proofs.node.Terms.{at-end, first, others}
use Rattle.term.specs.Measured.{Measured, Named}
use Rattle.term.specs.declared.span.Extent.{Extent}
use Rattle.term.specs.declared.span.Names.{Names}
use Rattle.term.proofs.span.Rows.{branch-names, past-names, x-is, y-is, in-branch}
use Rattle.contraction.specs.Stays.{of-case}
use Rattle.contraction.specs.Contracted.{Redex}
use Rattle.contraction.specs.Parts.{Kept, PartIs, Placing}
use Rattle.contraction.specs.declared.part.BodyAt.{BodyAt}
use Rattle.contraction.proofs.part.Smaller.{part-is, kept_there}

module _ {s : Bytes} {at n l : ℕ} where
  -- Case of Inl or Inr
  module _ {x y : Name} {k : One} {v b d : Term} (j : Redex s at n l (branch x y (one k v) b d)) {p : Names} (m : Named (at + 1) x y p) where
    names-here : (at + 2 ≤ p.second) × (p.second + 1 ≤ p.end)
    names-here = past-names s at (branch-names x y (one k v) b d j.stands) m

    pub case-value : TermAt s (p.end + 1) v
    case-value = first s (p.end + 1) 3 v (b ∷ d ∷ []) (in-branch j.stands m).row

    pub branches-few : (nodes b ≤ limits.nodes) × (nodes d ≤ limits.nodes)
    branches-few = let i = in-branch j.stands m in (omega (arith, i.count, j.nodes-in, j.few), omega (arith, i.count, j.nodes-in, j.few))

    pub case-inside : (p.end + 1 ≤ length s) × (at + 2 ≤ p.second) × (p.second + 1 ≤ p.end)
    case-inside = (omega (arith, at-end s (p.end + 1) v case-value), names-here.0, names-here.1)

    module _ {q : Extent} (h : Measured (p.end + 1) v q) where
      pub case-left : TermAt s q.next b
      case-left = first s q.next 2 b (d ∷ []) (others s (p.end + 1) 3 v (b ∷ d ∷ []) (in-branch j.stands m).row q.next h.next)

      value-part : PartIs s (record { from = p.end + 1; extent = q }) v
      value-part = let i = in-branch j.stands m in part-is j case-value h (omega (arith, i.count)) (omega (arith, i.ends, i.past))

      right-at : {end : ℕ} → end ≡ q.next + size b → TermAt s end d
      right-at {end} e =
          first s end 1 d [] (others s q.next 2 b (d ∷ []) (others s (p.end + 1) 3 v (b ∷ d ∷ []) (in-branch j.stands m).row q.next h.next) end e)

      pub case-nodes : 2 + q.nodes ≤ n
      case-nodes = omega (arith, h.nodes, (in-branch j.stands m).count, j.nodes-in)

      pub left-short : length s ≤ q.next + limits.bytes
      left-short = omega (arith, j.behind, j.short, h.next, (in-branch j.stands m).past)

      -- the left
      module _ {row : List ℕ} {f : BodyAt} (o : Kept q.next (take (p.second - (at + 2)) (drop (at + 2) s)) b row f) where
        pub left_other : TermAt s f.end d
        left_other = right-at o.next

        pub left-nodes : {r : Extent} → Measured f.end d r → 2 + q.nodes + r.nodes ≤ n
        left-nodes g = omega (arith, h.nodes, g.nodes, (in-branch j.stands m).count, j.nodes-in)

        pub left-placing : {r : Extent} (g : Measured f.end d r)
            → Placing s at r.next f (record { from = p.end + 1; extent = q }) (n - 2 - q.nodes - r.nodes) l row n (branch x y (one k v) b d) x b v
        left-placing g =
            let i = in-branch j.stands m in
            record {
              redex = j;
              ends = omega (arith, i.ends, h.next, o.next, g.next);
              body_at = rw o.from case-left;
              body-in = omega (arith, i.ends, i.past);
              found = kept_there (rw (x-is s at (branch-names x y (one k v) b d j.stands) m) at o);
              value = value-part;
              nodes-in = omega (arith, i.count);
              count = omega (arith, h.nodes, g.nodes, i.count, j.nodes-in);
              stays = of-case x y k v b d;
            }

      -- the right
      module _ {r : Extent} (g : Measured q.next b r) where
        pub case-right : TermAt s r.next d
        case-right = right-at g.next

        pub right-short : length s ≤ r.next + limits.bytes
        right-short = omega (arith, j.behind, j.short, h.next, g.next, (in-branch j.stands m).past)

        pub right-nodes : 2 + q.nodes + r.nodes ≤ n
        right-nodes = omega (arith, h.nodes, g.nodes, (in-branch j.stands m).count, j.nodes-in)

        pub right-placing : {row : List ℕ} {f : BodyAt} (o : Kept r.next (take (p.end - (p.second + 1)) (drop (p.second + 1) s)) d row f)
            → Placing s at f.end f (record { from = p.end + 1; extent = q }) (n - 2 - q.nodes - r.nodes) l row n (branch x y (one k v) b d) y d v
        right-placing o =
            let i = in-branch j.stands m in
            record {
              redex = j;
              ends = omega (arith, i.ends, h.next, g.next, o.next);
              body_at = rw o.from case-right;
              body-in = omega (arith, i.ends, i.past);
              found = kept_there (rw (y-is s at (branch-names x y (one k v) b d j.stands) m) at o);
              value = value-part;
              nodes-in = omega (arith, i.count);
              count = omega (arith, h.nodes, g.nodes, i.count, j.nodes-in);
              stays = of-case x y k v b d;
            }
