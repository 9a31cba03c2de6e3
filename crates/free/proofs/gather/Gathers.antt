-- The walk that gathers free names, by the tag where it stands: what each part is to be walked with, and that the node is walked when its parts are.
-- Assumes nothing.
use Prim.Native.Nat.{ℕ, ◌+◌, ◌-◌, ◌<◌, ◌≤◌}
use mathlib.Core.Path.{◌≡◌, ap, ◌∙◌}
use mathlib.Core.List.{List, [], ◌∷◌}
use native.Mathlib.Omega.{arith}
use lib.ListN.{length, get_or, set, length-set}
use types.Run.{OneOf}
use Rattle.rules.specs.Basic.{Bytes}
use Rattle.rules.specs.Name.{Name}
use Rattle.rules.specs.Term.{Term, var, one, two, abs, both, branch, One, Two, Both}
use Rattle.laws.specs.size.Parts.{some-node}
use Rattle.term.specs.Node.{single_part}
use Rattle.term.specs.Place.{NameAt, NamesAt, TermAt}
use Rattle.term.proofs.node.Names.{AfterIs, name-room, single}
use Rattle.term.proofs.node.Terms.{at-inside, at_tag, at_names}
use Rattle.free.specs.State.{State, Meets, Met}
use Rattle.free.specs.Walk.{Task, Done}
use Rattle.free.specs.Rows.{row_end}
use Rattle.free.proofs.row.Meeting as meeting
use Rattle.free.proofs.gather.Inverts.{Rest, two_tags, both_tags, is-var, is_leaf, is_one, is-two, is-abs, is-both, is-branch}
use Rattle.free.proofs.gather.Moves.{leaf-done, var-meets, var-done, one-task, one-done, two-task, two-again, two-done, abs-room, abs-name, abs-task, abs-done, both_first, both-second, both-task, both-room, both-body, both-done, branch-first, branch-second, branch-task, branch-room, branch-left, branch-right, branch-done}

abbrev Some : Bytes → ℕ → List ℕ → ℕ → ℕ → Type 0
Some s p row low n = (t : Term) × (xs : List Name) × (l : List Name) × Task s p row low n t xs l

-- whatever term stands there is walked
abbrev All : Bytes → ℕ → List ℕ → List ℕ → ℕ → ℕ → ℕ → ℕ → Type 0
All s p row row' low n m c = (t : Term) (xs l : List Name) → Task s p row low n t xs l → Done s p row' low n t xs l m c

-- a part stands further on, and is to be walked
abbrev Onward : Bytes → ℕ → ℕ → List ℕ → ℕ → ℕ → Type 0
Onward s at p row low n = (at < p) × Some s p row low n

-- a binder has been put before the others, and no name has been found
abbrev Put : List ℕ → List ℕ → ℕ → ℕ → ℕ → ℕ → ℕ → Type 0
Put row row' low b p n k = (b ≡ low - 1) × (row' ≡ set row (low - 1) p) × (k ≡ n)

-- a binder may be put before the others
abbrev pub Fits : List ℕ → ℕ → ℕ → Type 0
Fits row b p = (0 < b) × (b ≤ length row) × (p < 65536)

fits : {s : Bytes} {row : List ℕ} {b k : ℕ} {xs l : List Name} {p : ℕ} {x : Name} → State s row b k xs l → 0 < b → (row' : List ℕ) → length row' ≡ row_end → NameAt s p x → Fits row' b p
fits {s} {p = p} {x = x} w h row' e a = (h, omega (arith, w.passed.many), omega (arith, name-room s p (x, a), w.short))

module _ {s : Bytes} {at : ℕ} {row : List ℕ} {low n : ℕ} (some : Some s at row low n) where
  pub inside : at < length s
  inside = let (t, xs, l, w) = some in at-inside s at t w.term

  pub small : length s ≤ 65536
  small = let (t, xs, l, w) = some in w.state.short

  few : n < row_end
  few = let (t, xs, l, w) = some in omega (arith, w.room, some-node t, w.state.passed.many)

  -- what a call on a part requires: it begins further on in the bytes, and the part is to be walked
  pub further : {m p : ℕ} {row' : List ℕ} {low' n' : ℕ} → length s - at ≡ m → Onward s at p row' low' n' → (length s - p < m) × Some s p row' low' n'
  further d o = (omega (arith, d, inside, o.0), o.1)

  module _ (e : get_or s at 0 ≡ 1) where
    var-is : (t : Term) → TermAt s at t → (x : Name) × (t ≡ var x)
    var-is t w = is-var t _ (at_tag s at t w) e

    pub var-named : (xs : List Name) × NamesAt s (at + 1) 1 xs
    var-named = let (t, xs, l, w) = some in let (x, d) = var-is t w.term in (x ∷ [], at_names s at (var x) (rw d at w.term))

    pub var-some : meeting.Some s (at + 1) row low n
    var-some = let (t, xs, l, w) = some in let (x, d) = var-is t w.term in (x, xs, l, var-meets x (rw d at w))

    module _ (h : ℕ) (f : AfterIs s (at + 1) 1 h) (row' : List ℕ) (r : ℕ) (m : (x : Name) (xs l : List Name) → Meets s (at + 1) row low n x xs l → Met s row' low n x xs l r) where
      pub var-ends : All s at row row' low n h r
      var-ends t xs l w = let (x, d) = var-is t w.term in let v : Task s at row low n (var x) xs l = rw d at w in rw d (var-done x v h f (m x xs l (var-meets x v)))

  pub leaf-ends : Rest (get_or s at 0) → All s at row row low n (at + 1) n
  leaf-ends e t xs l w = let (j, d) = is_leaf t _ (at_tag s at t w.term) e in rw d (leaf-done j (rw d at w))

  module _ (e : single_part (get_or s at 0) ≡ 1) where
    one-is : (t : Term) → TermAt s at t → (j : One) × (u : Term) × (t ≡ one j u)
    one-is t w = is_one t _ (at_tag s at t w) e

    pub one-part : Onward s at (at + 1) row low n
    one-part = (omega arith, let (t, xs, l, w) = some in let (j, u, d) = one-is t w.term in (u, xs, l, one-task j u (rw d at w)))

    pub one-ends : {row' : List ℕ} {m c : ℕ} → All s (at + 1) row row' low n m c → All s at row row' low n m c
    one-ends a t xs l w = let (j, u, d) = one-is t w.term in let v : Task s at row low n (one j u) xs l = rw d at w in rw d (one-done j u v (a _ xs l (one-task j u v)))

  module _ (e : OneOf two_tags (get_or s at 0)) where
    two_is : (t : Term) → TermAt s at t → (j : Two) × (u : Term) × (v : Term) × (t ≡ two j u v)
    two_is t w = is-two t _ (at_tag s at t w) e

    pub two-first : Onward s at (at + 1) row low n
    two-first = (omega arith, let (t, xs, l, w) = some in let (j, u, v, d) = two_is t w.term in (u, xs, l, two-task j u v (rw d at w)))

    module _ {row₁ : List ℕ} {m c : ℕ} (a : All s (at + 1) row row₁ low n m c) where
      pub two-second : Onward s at m row₁ low c
      two-second = (
        let (t, xs, l, w) = two-first.1 in omega (arith, (a t xs l w).ends),
        let (t, xs, l, w) = some in
            let (j, u, v, d) = two_is t w.term in
            let o = rw d at w in
            (v, xs, _, two-again j u v o (a u xs l (two-task j u v o))),
      )

      pub two_ends : {row₂ : List ℕ} {m₂ c₂ : ℕ} → All s m row₁ row₂ low c m₂ c₂ → All s at row row₂ low n m₂ c₂
      two_ends a₂ t xs l w =
          let (j, u, v, d) = two_is t w.term in
          let o : Task s at row low n (two j u v) xs l = rw d at w in
          let z = a u xs l (two-task j u v o) in
          rw d (two-done j u v o z (a₂ v xs _ (two-again j u v o z)))

  module _ (e : get_or s at 0 ≡ 5) where
    abs_is : (t : Term) → TermAt s at t → (x : Name) × (u : Term) × (t ≡ abs x u)
    abs_is t w = is-abs t _ (at_tag s at t w) e

    pub abs-fits : Fits row low (at + 1)
    abs-fits = let (t, xs, l, w) = some in let (x, u, d) = abs_is t w.term in let v = rw d at w in fits w.state (omega (arith, abs-room x u v)) row w.state.long (abs-name x u v)

    pub abs-named : (xs : List Name) × NamesAt s (at + 1) 1 xs
    abs-named = let (t, xs, l, w) = some in let (x, u, d) = abs_is t w.term in (x ∷ [], at_names s at (abs x u) (rw d at w.term))

    module _ (h : ℕ) (f : AfterIs s (at + 1) 1 h) {row₁ : List ℕ} {b k : ℕ} (put : Put row row₁ low b (at + 1) n k) where
      pub abs-body : Onward s at h row₁ b k
      abs-body = (
        let (xs, w) = abs-named in omega (arith, f xs w),
        rw put.2 (let (t, xs, l, w) = some in
            let (x, u, d) = abs_is t w.term in
            (u, _, l, abs-task x u (rw d at w) h f put.0 put.1)),
      )

      pub abs-ends : {row₂ : List ℕ} {m c : ℕ} → All s h row₁ row₂ b k m c → All s at row row₂ low n m c
      abs-ends {row₂} {m} {c} a t xs l w =
          let a₀ : All s h row₁ row₂ b n m c = rw put.2 at a in
          let (x, u, d) = abs_is t w.term in
          let v : Task s at row low n (abs x u) xs l = rw d at w in
          rw d (abs-done x u v h f put.0 (a₀ u _ l (abs-task x u v h f put.0 put.1)))

  module _ (e : OneOf both_tags (get_or s at 0)) where
    both_is : (t : Term) → TermAt s at t → (j : Both) × (x : Name) × (y : Name) × (u : Term) × (v : Term) × (t ≡ both j x y u v)
    both_is t w = is-both t _ (at_tag s at t w) e

    pub both-named : (xs : List Name) × NamesAt s (at + 1) 1 xs
    both-named = let (t, xs, l, w) = some in let (j, x, y, u, v, d) = both_is t w.term in (x ∷ [], single s (at + 1) x (both_first j x y u v (rw d at w)))

    module _ (q : ℕ) (f : AfterIs s (at + 1) 1 q) where
      pub both-named-2 : (xs : List Name) × NamesAt s q 1 xs
      both-named-2 = let (t, xs, l, w) = some in let (j, x, y, u, v, d) = both_is t w.term in (y ∷ [], single s q y (both-second j x y u v (rw d at w) q f))

      module _ (h : ℕ) (f₂ : AfterIs s q 1 h) where
        pub both-part : Onward s at h row low n
        both-part = (
          let (xs, w) = both-named in let (ys, v) = both-named-2 in omega (arith, f xs w, f₂ ys v),
          let (t, xs, l, w) = some in
              let (j, x, y, u, v, d) = both_is t w.term in
              (u, xs, l, both-task j x y u v (rw d at w) q f h f₂),
        )

        module _ {row₁ : List ℕ} {m c : ℕ} (a : All s h row row₁ low n m c) where
          pub both-fits : Fits row₁ low (at + 1)
          both-fits =
              let (t, xs, l, w) = some in
              let (j, x, y, u, v, d) = both_is t w.term in
              let o = rw d at w in
              let z = a u xs l (both-task j x y u v o q f h f₂) in
              fits w.state (omega (arith, both-room j x y u v o q f h f₂ z)) row₁ z.state.long (both_first j x y u v o)

          module _ {row₂ : List ℕ} {b k : ℕ} (put : Put row₁ row₂ low b (at + 1) c k) where
            pub both-fits-2 : Fits row₂ b q
            both-fits-2 =
                let (t, xs, l, w) = some in
                let (j, x, y, u, v, d) = both_is t w.term in
                let o = rw d at w in
                let z = a u xs l (both-task j x y u v o q f h f₂) in
                let r = both-room j x y u v o q f h f₂ z in
                let g = fits w.state (omega (arith, r)) row₂ (omega (arith, z.state.long, ap length put.1 ∙ length-set row₁ (low - 1) (at + 1))) (both-second j x y u v o q f) in
                (omega (arith, r, put.0), omega (arith, g.1, put.0), g.2)

            module _ {row₃ : List ℕ} {b₂ k₂ : ℕ} (put₂ : Put row₂ row₃ b b₂ q k k₂) where
              twice : b₂ ≡ low - 1 - 1
              twice = omega (arith, put.0, put₂.0)

              still : k₂ ≡ c
              still = put₂.2 ∙ put.2

              row-twice : row₃ ≡ set (set row₁ (low - 1) (at + 1)) (low - 1 - 1) q
              row-twice = put₂.1 ∙ ap (λ (z : List ℕ). set z (b - 1) q) put.1 ∙ ap (λ (z : ℕ). set (set row₁ (low - 1) (at + 1)) (z - 1) q) put.0

              pub both-last : Onward s at m row₃ b₂ k₂
              both-last = (
                let (t, xs, l, w) = both-part.1 in omega (arith, both-part.0, (a t xs l w).ends),
                rw still (let (t, xs, l, w) = some in
                    let (j, x, y, u, v, d) = both_is t w.term in
                    let o = rw d at w in
                    (v, _, _, both-body j x y u v o q f h f₂ (a u xs l (both-task j x y u v o q f h f₂)) twice row-twice)),
              )

              pub both_ends : {row₄ : List ℕ} {m₂ c₂ : ℕ} → All s m row₃ row₄ b₂ k₂ m₂ c₂ → All s at row row₄ low n m₂ c₂
              both_ends {row₄} {m₂} {c₂} a₃ t xs l w =
                  let a₂ : All s m row₃ row₄ b₂ c m₂ c₂ = rw still at a₃ in
                  let (j, x, y, u, v, d) = both_is t w.term in
                  let o : Task s at row low n (both j x y u v) xs l = rw d at w in
                  let z = a u xs l (both-task j x y u v o q f h f₂) in
                  rw d (both-done j x y u v o q f h f₂ z twice (a₂ v _ _ (both-body j x y u v o q f h f₂ z twice row-twice)))

  module _ (e : get_or s at 0 ≡ 9) where
    branch-is : (t : Term) → TermAt s at t → (x : Name) × (y : Name) × (u : Term) × (v : Term) × (v' : Term) × (t ≡ branch x y u v v')
    branch-is t w = is-branch t _ (at_tag s at t w) e

    pub branch-named : (xs : List Name) × NamesAt s (at + 1) 1 xs
    branch-named = let (t, xs, l, w) = some in let (x, y, u, v, v', d) = branch-is t w.term in (x ∷ [], single s (at + 1) x (branch-first x y u v v' (rw d at w)))

    module _ (q : ℕ) (f : AfterIs s (at + 1) 1 q) where
      pub branch-named-2 : (xs : List Name) × NamesAt s q 1 xs
      branch-named-2 = let (t, xs, l, w) = some in let (x, y, u, v, v', d) = branch-is t w.term in (y ∷ [], single s q y (branch-second x y u v v' (rw d at w) q f))

      module _ (h : ℕ) (f₂ : AfterIs s q 1 h) where
        pub branch-part : Onward s at h row low n
        branch-part = (
          let (xs, w) = branch-named in let (ys, v) = branch-named-2 in omega (arith, f xs w, f₂ ys v),
          let (t, xs, l, w) = some in
              let (x, y, u, v, v', d) = branch-is t w.term in
              (u, xs, l, branch-task x y u v v' (rw d at w) q f h f₂),
        )

        module _ {row₁ : List ℕ} {m c : ℕ} (a : All s h row row₁ low n m c) where
          fits-at : (row' : List ℕ) (p : ℕ) → length row' ≡ row_end → ((x : Name) × NameAt s p x) → Fits row' low p
          fits-at row' p long (z, here) =
              let (t, xs, l, w) = some in
              let (x, y, u, v, v', d) = branch-is t w.term in
              let o = rw d at w in
              fits w.state (omega (arith, branch-room x y u v v' o q f h f₂ (a u xs l (branch-task x y u v v' o q f h f₂)))) row' long here

          pub branch_fits : Fits row₁ low (at + 1)
          branch_fits =
              fits-at row₁ (at + 1) (let (t, xs, l, w) = branch-part.1 in (a t xs l w).state.long)
              (let (t, xs, l, w) = some in let (x, y, u, v, v', d) = branch-is t w.term in (x, branch-first x y u v v' (rw d at w)))

          module _ {row₂ : List ℕ} {b k : ℕ} (put : Put row₁ row₂ low b (at + 1) c k) where
            pub branch-second-part : Onward s at m row₂ b k
            branch-second-part = (
              let (t, xs, l, w) = branch-part.1 in omega (arith, branch-part.0, (a t xs l w).ends),
              rw put.2 (let (t, xs, l, w) = some in
                  let (x, y, u, v, v', d) = branch-is t w.term in
                  let o = rw d at w in
                  (v, _, _, branch-left x y u v v' o q f h f₂ (a u xs l (branch-task x y u v v' o q f h f₂)) put.0 put.1)),
            )

            module _ {row₃ : List ℕ} {m₂ c₂ : ℕ} (left : All s m row₂ row₃ b k m₂ c₂) where
              a₂ : All s m row₂ row₃ b c m₂ c₂
              a₂ = rw put.2 at left

              pub branch-fits-2 : Fits row₃ low q
              branch-fits-2 =
                  fits-at row₃ q (let (t, xs, l, w) = branch-second-part.1 in (left t xs l w).state.long)
                  (let (t, xs, l, w) = some in let (x, y, u, v, v', d) = branch-is t w.term in (y, branch-second x y u v v' (rw d at w) q f))

              module _ {row₄ : List ℕ} {b₂ k₂ : ℕ} (put₂ : Put row₃ row₄ low b₂ q c₂ k₂) where
                pub branch-last : Onward s at m₂ row₄ b₂ k₂
                branch-last = (
                  let (t, xs, l, w) = branch-second-part.1 in omega (arith, branch-second-part.0, (left t xs l w).ends),
                  rw put₂.2 (let (t, xs, l, w) = some in
                      let (x, y, u, v, v', d) = branch-is t w.term in
                      let o = rw d at w in
                      let z = a u xs l (branch-task x y u v v' o q f h f₂) in
                      (v', _, _, branch-right x y u v v' o q f h f₂ z put.0 (a₂ v _ _ (branch-left x y u v v' o q f h f₂ z put.0 put.1)) put₂.0 put₂.1)),
                )

                pub branch-ends : {row₅ : List ℕ} {m₃ c₃ : ℕ} → All s m₂ row₄ row₅ b₂ k₂ m₃ c₃ → All s at row row₅ low n m₃ c₃
                branch-ends {row₅} {m₃} {c₃} right t xs l w =
                    let a₃ : All s m₂ row₄ row₅ b₂ c₂ m₃ c₃ = rw put₂.2 at right in
                    let (x, y, u, v, v', d) = branch-is t w.term in
                    let o : Task s at row low n (branch x y u v v') xs l = rw d at w in
                    let z = a u xs l (branch-task x y u v v' o q f h f₂) in
                    let z₂ = a₂ v _ _ (branch-left x y u v v' o q f h f₂ z put.0 put.1) in
                    rw d (branch-done x y u v v' o q f h f₂ z put.0 z₂ put₂.0 (a₃ v' _ _ (branch-right x y u v v' o q f h f₂ z put.0 z₂ put₂.0 put₂.1)))
