-- The search at a node: it is not entered, is the redex, or what its parts give is what it gives. Assumes nothing.
use Prim.Native.Nat.{ℕ, ◌+◌, ◌-◌, ◌/◌, ◌%◌, ◌<◌, ◌≤◌}
use mathlib.Core.Path.{◌≡◌, refl, sym, ap, ◌∙◌}
use mathlib.Core.Bool.{Bool, true, false}
use mathlib.Core.Option.{Option, none, some}
use mathlib.Core.List.{List, [], ◌∷◌}
use native.Mathlib.Omega.{arith}
use borrow.Author.Tests.{eq-eqb, ne_eqb}
use lib.ListN.{length, get_or}
use Rattle.rules.specs.Term.{Term, size, parts}
use Rattle.term.specs.Node.{tag, head, names_after, parts_after}
use Rattle.term.specs.Place.{TermAt, TermsAt}
use Rattle.term.proofs.node.Names.{AfterIs}
use Rattle.term.proofs.node.Terms.{Some, SkipIs, apart-size, at_tag, at-end, at_small, at-count-parts, at-parts, starts, first, others}
use Rattle.redex.specs.Spot.{Spot, spot}
use Rattle.redex.specs.Searched.{enters_after, reduces, sought_at, sought, told}
use Rattle.std.specs.Prelude.{Result, Ok, Err}
use Rattle.redex.proofs.find.Seeks.{onward, Opened, shut, into_one, into_two, opened}

-- what `find` ensures
abbrev pub FindIs : List ℕ → ℕ → Result ℕ ℕ → Type 0
FindIs s i r = (t : Term) → TermAt s i t → r ≡ sought i t

abbrev pub Stands : List ℕ → ℕ → Type 0
Stands s i = (t : Term) × TermAt s i t

-- what the search finds behind a term is its end
after-end : (m h n : ℕ) (p : Option Spot) → Err m ≡ sought_at h n p → m ≡ h + n
after-end m h n none e = cc
after-end m h n (some q) e = absurd (cc)

pub ended : (s : List ℕ) (i m : ℕ) → Stands s i → FindIs s i (Err m) → m ≤ length s
ended s i m (t, w) f = omega (arith, after-end m i (size t) (spot t) (f t w), at-end s i t w)

-- a number that is odd tells a redex, and one that is even tells none
pub odd : (r : ℕ) → r % 2 ≡ 1 → told r ≡ Ok (r / 2)
odd r e = rw (eq-eqb (r % 2) 1 e)

pub even : (r : ℕ) → (r % 2 ≡ 1 → ⊥) → told r ≡ Err (r / 2)
even r e = rw (ne_eqb (r % 2) 1 e)

onward-none : (x : Result ℕ ℕ) → onward x (λ m. Err (m + 0)) ≡ x
onward-none (Ok p) = refl
onward-none (Err m) = ap Err (omega arith)

-- a node as the search looks at it: the names and parts that follow its tag, where its names end, and how many parts are entered
pub record Looked (s : List ℕ) (i q p h n : ℕ) : Type 0 where
  pub stands : Stands s i
  pub names : q ≡ names_after (get_or s i 0)
  pub parts : p ≡ parts_after (get_or s i 0)
  pub ends : AfterIs s (i + 1) q h
  pub enters : n ≡ enters_after (get_or s i 0)

pub looked : (s : List ℕ) (i : ℕ) {q p h n : ℕ} → Stands s i → q ≡ names_after (get_or s i 0) → p ≡ parts_after (get_or s i 0) → AfterIs s (i + 1) q h → n ≡ enters_after (get_or s i 0) → Looked s i q p h n
looked s i g eq ep eh en = record { stands = g; names = eq; parts = ep; ends = eh; enters = en }

module _ {s : List ℕ} {i q p h n : ℕ} (look : Looked s i q p h n) where
  start : (t : Term) → TermAt s i t → h ≡ i + length (head t)
  start t w = starts s i q h look.names look.ends t w

  node : (t : Term) → TermAt s i t → Opened t n
  node t w = rw (look.enters ∙ ap (λ (k : ℕ). enters_after k) (at_tag s i t w)) (opened t)

  row : (t : Term) → TermAt s i t → TermsAt s h p (parts t)
  row t w = at-parts s i t w h p (start t w) (look.parts ∙ at-count-parts s i t w)

  pub some-row : Some s h p
  some-row = let a = look.stands in (parts a.0, row a.0 a.1)

  pub further : (i < h) × (h ≤ length s)
  further =
      let a = look.stands in
      (omega (arith, start a.0 a.1), omega (arith, start a.0 a.1, apart-size a.0, at-end s i a.0 a.1))

  -- not entered
  pub not_entered : n ≡ 0 → {m : ℕ} → SkipIs s h p m → FindIs s i (Err m)
  not_entered z {m} f t w = go t w (node t w)
    where
      go : (t : Term) → TermAt s i t → Opened t n → Err m ≡ sought i t
      go t w (shut y e) = rw e (ap Err (omega (arith, f (parts t) (row t w), start t w, apart-size t)))
      go t w (into_one u ts y e l) = absurd (omega (arith, y))
      go t w (into_two u v y e l) = absurd (omega (arith, y))

  module _ (ne : n ≡ 0 → ⊥) where
    row_of : (t u : Term) (ts : List Term) → parts t ≡ u ∷ ts → TermAt s i t → TermsAt s h p (u ∷ ts)
    row_of t u ts e w = rw e at (row t w)

    -- the first part
    inner : (t : Term) → TermAt s i t → Opened t n → Stands s h
    inner t w (shut y e) = absurd (ne y)
    inner t w (into_one u ts y e l) = (u, first s h p u ts (row_of t u ts e w))
    inner t w (into_two u v y e l) = (u, first s h p u (v ∷ []) (row_of t u (v ∷ []) e w))

    pub first_part : Stands s h
    first_part = let a = look.stands in inner a.0 a.1 (node a.0 a.1)

    pub some-part : 0 < p
    some-part = let a = look.stands in go a.0 a.1 (node a.0 a.1)
      where
        go : (t : Term) → TermAt s i t → Opened t n → 0 < p
        go t w (shut y e) = absurd (ne y)
        go t w (into_one u ts y e l) = omega (arith, (row_of t u ts e w).many)
        go t w (into_two u v y e l) = omega (arith, (row_of t u (v ∷ []) e w).many)

    pub tags : (get_or s i 0 < 20) × (get_or s h 0 < 20)
    tags = let a = look.stands in let b = first_part in (omega (arith, at_small s i a.0 a.1), omega (arith, at_small s h b.0 b.1))

    module _ {b : Bool} (eb : b ≡ reduces (get_or s i 0) (get_or s h 0)) where
      test : (t u : Term) (ts : List Term) → parts t ≡ u ∷ ts → TermAt s i t → reduces (tag t) (tag u) ≡ b
      test t u ts e w = rw (← at_tag s i t w, ← at_tag s h u (first s h p u ts (row_of t u ts e w))) (sym eb)

      -- the node is the redex
      pub hit : b ≡ true → FindIs s i (Ok i)
      hit y t w = go t w (node t w)
        where
          go : (t : Term) → TermAt s i t → Opened t n → Ok i ≡ sought i t
          go t w (shut z e) = absurd (ne z)
          go t w (into_one u ts z e l) = rw (l i, test t u ts e w, y)
          go t w (into_two u v z e l) = rw (l i, test t u (v ∷ []) e w, y)

      module _ (y : b ≡ false) where
        -- what a single part gives
        pub single : p ≡ 1 → {r : Result ℕ ℕ} → FindIs s h r → FindIs s i r
        single z {r} f t w = go r f t w (node t w)
          where
            only : (t u : Term) (ts : List Term) → parts t ≡ u ∷ ts → TermAt s i t → ts ≡ []
            only t u [] e w = refl
            only t u (v ∷ ts) e w = absurd (omega (arith, (row_of t u (v ∷ ts) e w).many))

            go : (r : Result ℕ ℕ) → FindIs s h r → (t : Term) → TermAt s i t → Opened t n → r ≡ sought i t
            go r f t w (shut k e) = absurd (ne k)
            go r f t w (into_one u ts k e l) =
                rw (l i, test t u ts e w, y, only t u ts e w, ← start t w) (f u (first s h p u ts (row_of t u ts e w)) ∙ sym (onward-none (sought h u)))
            go r f t w (into_two u v k e l) = absurd (omega (arith, (row_of t u (v ∷ []) e w).many))

        module _ (np : p ≡ 1 → ⊥) {r : Result ℕ ℕ} (f : FindIs s h r) where
          -- the redex is in the first part
          pub deep : {m : ℕ} → r ≡ Ok m → FindIs s i (Ok m)
          deep {m} k t w = go t w (node t w)
            where
              go : (t : Term) → TermAt s i t → Opened t n → Ok m ≡ sought i t
              go t w (shut z e) = absurd (ne z)
              go t w (into_one u ts z e l) = rw (l i, test t u ts e w, y, ← start t w, ← f u (first s h p u ts (row_of t u ts e w)), k)
              go t w (into_two u v z e l) = rw (l i, test t u (v ∷ []) e w, y, ← start t w, ← f u (first s h p u (v ∷ []) (row_of t u (v ∷ []) e w)), k)

          module _ {m : ℕ} (k : r ≡ Err m) where
            end_of : (u : Term) → TermAt s h u → m ≡ h + size u
            end_of u w = after-end m h (size u) (spot u) (sym k ∙ f u w)

            pub beyond : (h < m) × (m ≤ length s)
            beyond = let b = first_part in (omega (arith, end_of b.0 b.1, apart-size b.0), omega (arith, end_of b.0 b.1, at-end s h b.0 b.1))

            rest_of : (t u : Term) (ts : List Term) → parts t ≡ u ∷ ts → TermAt s i t → TermsAt s m (p - 1) ts
            rest_of t u ts e w = let v = row_of t u ts e w in others s h p u ts v m (end_of u (first s h p u ts v))

            -- the others are passed over
            pub some-rest : Some s m (p - 1)
            some-rest = let a = look.stands in go a.0 a.1 (node a.0 a.1)
              where
                go : (t : Term) → TermAt s i t → Opened t n → Some s m (p - 1)
                go t w (shut z e) = absurd (ne z)
                go t w (into_one u ts z e l) = (ts, rest_of t u ts e w)
                go t w (into_two u v z e l) = (v ∷ [], rest_of t u (v ∷ []) e w)

            pub passed : n ≡ 1 → {j : ℕ} → SkipIs s m (p - 1) j → FindIs s i (Err j)
            passed z {j} d t w = go t w (node t w)
              where
                go : (t : Term) → TermAt s i t → Opened t n → Err j ≡ sought i t
                go t w (shut x e) = absurd (ne x)
                go t w (into_one u ts x e l) =
                    rw (l i, test t u ts e w, y, ← start t w, ← f u (first s h p u ts (row_of t u ts e w)), k) (ap Err (d ts (rest_of t u ts e w)))
                go t w (into_two u v x e l) = absurd (omega (arith, x))

            -- what the second gives
            module _ (nz : n ≡ 1 → ⊥) where
              pub second-part : Stands s m
              second-part = let a = look.stands in go a.0 a.1 (node a.0 a.1)
                where
                  go : (t : Term) → TermAt s i t → Opened t n → Stands s m
                  go t w (shut z e) = absurd (ne z)
                  go t w (into_one u ts z e l) = absurd (nz z)
                  go t w (into_two u v z e l) = (v, first s m (p - 1) v [] (rest_of t u (v ∷ []) e w))

              pub second : {x : Result ℕ ℕ} → FindIs s m x → FindIs s i x
              second {x} d t w = go t w (node t w)
                where
                  go : (t : Term) → TermAt s i t → Opened t n → x ≡ sought i t
                  go t w (shut z e) = absurd (ne z)
                  go t w (into_one u ts z e l) = absurd (nz z)
                  go t w (into_two u v z e l) =
                      rw (l i, test t u (v ∷ []) e w, y, ← start t w, ← f u (first s h p u (v ∷ []) (row_of t u (v ∷ []) e w)), k) (d v (first s m (p - 1) v [] (rest_of t u (v ∷ []) e w)))
