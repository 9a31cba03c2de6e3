-- The mark of the nearest node: none if its second part is searched, else the place where its bytes start in the output.
-- Assumes nothing.
use Prim.Native.Nat.{ℕ, ◌+◌, ◌-◌, ◌≤◌, ◌<◌}
use mathlib.Core.Path.{◌≡◌, sym, ap, ◌∙◌}
use mathlib.Core.List.{List, [], ◌++◌}
use native.Mathlib.Omega.{arith}
use lib.ListN.{length, take, get_or}
use lib.Seq.{get_or-take, get_or_at}
use Rattle.std.specs.Prelude.{Some, None}
use Rattle.rules.specs.Basic.{Bytes}
use Rattle.rules.specs.Limits.{limits}
use Rattle.rules.specs.Name.{encode_names}
use Rattle.rules.specs.Term.{Term}
use Rattle.term.specs.Node.{encode_all}
use Rattle.reduction.specs.Hole.{Hole, hole_tag, hole_names, passed, ahead, before, Above, lefts}
use Rattle.reduction.specs.Standing.{Marks, mark}
use Rattle.reduction.proofs.moves.Holes.{hole-small}
use Rattle.reduction.proofs.moves.Onward.{Stage, at_first, at_second, stage}

-- the search is under the node f, under c; x stands in the output behind the node's own bytes
pub record Under (f : Hole) (c : Above) (x out : List ℕ) (stack : Marks) (o d : ℕ) : Type 0 where
  pub left : take o out ≡ lefts c ++ (before f ++ x)
  pub long : o ≡ length (lefts c) + (length (before f) + length x)
  pub short : o ≤ limits.bytes
  pub room : limits.bytes ≤ length out
  pub marked : get_or stack (d - 1) None ≡ mark (length (passed f)) (length (lefts c))

module _ {f : Hole} {c : Above} {x out : List ℕ} {stack : Marks} {o d : ℕ} (u : Under f c x out stack o d) where
  pub not_first : get_or stack (d - 1) None ≡ None → passed f ≡ [] → ⊥
  not_first e p =
      let m : get_or stack (d - 1) None ≡ Some (length (lefts c)) = u.marked ∙ ap (λ (z : List Term). mark (length z) (length (lefts c))) p in
      let z : ◌≡◌ {A = ℕ} 0 1 = cc in
      omega arith

  pub none_ahead : get_or stack (d - 1) None ≡ None → ahead f ≡ []
  none_ahead e = go (stage f)
    where
      go : Stage f → ahead f ≡ []
      go (at_first p) = absurd (not_first e p)
      go (at_second p a) = a

  module _ {start : ℕ} (at : get_or stack (d - 1) None ≡ Some start) where
    pub none_passed : passed f ≡ []
    none_passed = go (stage f)
      where
        go : Stage f → passed f ≡ []
        go (at_first p) = p
        go (at_second p a) =
            let m : get_or stack (d - 1) None ≡ None = u.marked ∙ ap (λ (n : ℕ). mark n (length (lefts c))) p in
            absurd (let z : ◌≡◌ {A = ℕ} 0 1 = cc in omega arith)

    pub started : start ≡ length (lefts c)
    started =
        let m : get_or stack (d - 1) None ≡ Some (length (lefts c)) = u.marked ∙ ap (λ (z : List Term). mark (length z) (length (lefts c))) none_passed in
        cc

    pub start-before : start < o
    start-before = omega (arith, started, u.long)

    pub start-inside : start < length out
    start-inside = omega (arith, start-before, u.short, u.room)

    pub tag_is : get_or out start 0 ≡ hole_tag f
    tag_is =
        sym (get_or-take o out start 0 start-before)
        ∙ ap (λ (z : Bytes). get_or z start 0) u.left
        ∙ get_or_at (lefts c) (hole_tag f) ((encode_names (hole_names f) ++ encode_all (passed f)) ++ x) 0 start (sym started)

    pub tag_small : get_or out start 0 < 18
    tag_small = omega (arith, tag_is, hole-small f)
