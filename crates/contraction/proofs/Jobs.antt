-- What Copy and LetPair hand on: the body, and the values that go into it, where they stand. Assumes nothing.
use Prim.Native.Nat.{ℕ, ◌+◌, ◌-◌, ◌≤◌}
use mathlib.Core.List.{[], ◌∷◌}
use native.Mathlib.Omega.{arith}
use lib.ListN.{length}
use Rattle.rules.specs.Basic.{Bytes}
use Rattle.rules.specs.Name.{Name}
use Rattle.rules.specs.Term.{Term, one, two, both, promote, pair, let_a_pair, copy}
use Rattle.term.specs.Place.{TermAt}
use Rattle.term.proofs.node.Terms.{at-end, first, others}
use Rattle.term.specs.Measured.{Measured, Named}
use Rattle.term.specs.declared.span.Extent.{Extent}
use Rattle.term.specs.declared.span.Names.{Names}
use Rattle.term.proofs.span.Rows.{both-names, past-names, x-is, y-is, in_both, in-let}
use Rattle.contraction.specs.Stays.{of-let, of-copy}
use Rattle.contraction.specs.Contracted.{Redex}
use Rattle.contraction.specs.Parts.{Pairing}
use Rattle.contraction.proofs.part.Smaller.{part-is}

module _ {s : Bytes} {at n l : ℕ} where
  -- Copy of Promote
  module _ {x y : Name} {v e : Term} (j : Redex s at n l (both copy x y (one promote v) e)) {r : Names} (m : Named (at + 1) x y r) where
    abbrev p : Term
    p = one promote v

    pub copy-source : TermAt s r.end p
    copy-source = first s r.end 2 p (e ∷ []) (in_both j.stands m).row

    pub copy-pairing : {q : Extent} → Measured r.end p q
        → Pairing s at r.second r.end (record { from = r.end; extent = q }) (record { from = r.end; extent = q })
        (n - 1 - q.nodes) l n (both copy x y p e) x y e p p
    copy-pairing {q} h =
        let i = in_both j.stands m in
        let w = both-names copy x y p e j.stands in
        let o = part-is j copy-source h (omega (arith, i.count)) (omega (arith, i.ends, i.past)) in
        record {
          redex = j;
          names_in = ((past-names s at w m).0, (past-names s at w m).1, omega (arith, at-end s r.end p copy-source));
          x-is = x-is s at w m;
          y-is = y-is s at w m;
          first = o;
          second = o;
          body_at = first s q.next 1 e [] (others s r.end 2 p (e ∷ []) i.row q.next h.next);
          body-past = omega (arith, i.past, h.next);
          ends = omega (arith, i.ends, h.next);
          nodes-in = omega (arith, i.count);
          count = omega (arith, h.nodes, i.count, j.nodes-in);
          stays = of-copy x y v e;
        }

    pub copy-nodes : {q : Extent} → Measured r.end p q → 1 + q.nodes ≤ n
    copy-nodes h = omega (arith, h.nodes, (in_both j.stands m).count, j.nodes-in)

  -- LetPair of Pair
  module _ {x y : Name} {a b e : Term} (j : Redex s at n l (both let_a_pair x y (two pair a b) e)) {r : Names} (m : Named (at + 1) x y r) where
    pub let-first : TermAt s (r.end + 1) a
    let-first = first s (r.end + 1) 3 a (b ∷ e ∷ []) (in-let j.stands m).row

    pub let-inside : r.end + 1 ≤ length s
    let-inside = omega (arith, at-end s (r.end + 1) a let-first)

    module _ {q : Extent} (h : Measured (r.end + 1) a q) where
      pub let-second : TermAt s q.next b
      let-second = first s q.next 2 b (e ∷ []) (others s (r.end + 1) 3 a (b ∷ e ∷ []) (in-let j.stands m).row q.next h.next)

      module _ {o : Extent} (g : Measured q.next b o) where
        pub let-nodes : 2 + q.nodes + o.nodes ≤ n
        let-nodes = omega (arith, h.nodes, g.nodes, (in-let j.stands m).count, j.nodes-in)

        pub let-pairing : Pairing s at r.second r.end (record { from = r.end + 1; extent = q }) (record { from = q.next; extent = o })
            (n - 2 - q.nodes - o.nodes) l n (both let_a_pair x y (two pair a b) e) x y e a b
        let-pairing =
            let i = in-let j.stands m in
            let w = both-names let_a_pair x y (two pair a b) e j.stands in
            record {
              redex = j;
              names_in = ((past-names s at w m).0, (past-names s at w m).1, omega (arith, let-inside));
              x-is = x-is s at w m;
              y-is = y-is s at w m;
              first = part-is j let-first h (omega (arith, i.count)) (omega (arith, i.ends, i.past));
              second = part-is j let-second g (omega (arith, i.count)) (omega (arith, i.ends, i.past));
              body_at =
                  first s o.next 1 e []
                  (others s q.next 2 b (e ∷ []) (others s (r.end + 1) 3 a (b ∷ e ∷ []) i.row q.next h.next) o.next g.next);
              body-past = omega (arith, i.past, h.next, g.next);
              ends = omega (arith, i.ends, h.next, g.next);
              nodes-in = omega (arith, i.count);
              count = omega (arith, h.nodes, g.nodes, i.count, j.nodes-in);
              stays = of-let x y a b e;
            }
