-- From a node to its parts and back: what each part starts from, and what the node comes to when its parts are done.
-- By the node's shape; the state goes from part to part. Assumes nothing.
use Prim.Native.Nat.{ℕ, ◌+◌, ◌-◌, ◌<◌, ◌≤◌}
use mathlib.Core.Path.{◌≡◌, refl, ap, ◌∙◌}
use mathlib.Core.List.{List, [], ◌∷◌, append-nil}
use native.Mathlib.Omega.{arith}
use lib.ListN.{length, set, length-append}
use Rattle.rules.specs.Basic.{Bytes}
use Rattle.rules.specs.Name.{Name, encode_name, encode_names}
use Rattle.rules.specs.Term.{Term, var, leaf, one, two, abs, both, branch, Leaf, One, Two, Both, both_tag, nodes, size, encode}
use Rattle.laws.specs.size.Parts.{some-node}
use Rattle.term.specs.Node.{head, encode_all}
use Rattle.term.specs.Place.{NameAt, NamesAt, TermAt, TermsAt}
use Rattle.term.proofs.node.Names.{AfterIs, first-name, other-names, name-end}
use Rattle.term.proofs.node.Terms.{apart-size, at_names, at-parts, first, others}
use Rattle.free.specs.Gather.{gather}
use Rattle.free.specs.State.{Meets, Met}
use Rattle.free.specs.Walk.{Task, Done}
use Rattle.free.proofs.row.States.{pushed, left_behind}

-- ---- sizes of a row of parts

row_one : (e : Term) → length (encode_all (e ∷ [])) ≡ size e
row_one e = ap length (append-nil (encode e))

row-two : (e f : Term) → length (encode_all (e ∷ f ∷ [])) ≡ size e + size f
row-two e f = length-append (encode e) (encode_all (f ∷ [])) ∙ ap (λ k. size e + k) (row_one f)

row-three : (e f g : Term) → length (encode_all (e ∷ f ∷ g ∷ [])) ≡ size e + (size f + size g)
row-three e f g = length-append (encode e) (encode_all (f ∷ g ∷ [])) ∙ ap (λ k. size e + k) (row-two f g)

-- the place of the second of two names, and the place after it
module _ (s : Bytes) (p : ℕ) {x y : Name} (w : NamesAt s (p + 1) 2 (x ∷ y ∷ [])) (q : ℕ) (j : AfterIs s (p + 1) 1 q) where
  second_is : q ≡ p + 1 + length (encode_name x)
  second_is = name-end s (p + 1) q j x (first-name s (p + 1) 2 x (y ∷ []) w)

  second_at : NameAt s q y
  second_at = first-name s q 1 y [] (other-names s (p + 1) 2 x (y ∷ []) w q second_is)

  start-at : (h : ℕ) → AfterIs s q 1 h → (k : ℕ) → h ≡ p + length (k ∷ encode_names (x ∷ y ∷ []))
  start-at h m k = omega (arith, name-end s q h m y second_at, second_is, length-append (encode_name x) (encode_names (y ∷ [])), length-append (encode_name y) [])

module _ {s : Bytes} {p : ℕ} {row : List ℕ} {low n : ℕ} {xs l : List Name} where
  -- ---- a node without parts

  pub leaf-done : (k : Leaf) → Task s p row low n (leaf k) xs l → Done s p row low n (leaf k) xs l (p + 1) n
  unfolding gather
  leaf-done k w = record { ends = omega (arith, apart-size (leaf k)); state = w.state; few = omega arith }

  pub var-meets : (x : Name) → Task s p row low n (var x) xs l → Meets s (p + 1) row low n x xs l
  unfolding nodes
  var-meets x w = record { name = first-name s (p + 1) 1 x [] (at_names s p (var x) w.term); state = w.state; room = omega (arith, w.room) }

  pub var-done : (x : Name) → Task s p row low n (var x) xs l → (h : ℕ) → AfterIs s (p + 1) 1 h → {row' : List ℕ} {r : ℕ} → Met s row' low n x xs l r
      → Done s p row' low n (var x) xs l h r
  unfolding gather nodes
  var-done x w h f m =
      record {
        ends = omega (arith, apart-size (var x), f (x ∷ []) (at_names s p (var x) w.term));
        state = m.state;
        few = m.few;
      }

  -- ---- a node without names

  module _ (k : One) (e : Term) (w : Task s p row low n (one k e) xs l) where
    one-part : TermAt s (p + 1) e
    one-part = first s (p + 1) 1 e [] (at-parts s p (one k e) w.term (p + 1) 1 refl refl)

    pub one-task : Task s (p + 1) row low n e xs l
    unfolding nodes
    one-task = record { term = one-part; state = w.state; room = omega (arith, w.room) }

    pub one-done : {row' : List ℕ} {m c : ℕ} → Done s (p + 1) row' low n e xs l m c → Done s p row' low n (one k e) xs l m c
    unfolding gather nodes
    one-done z = record { ends = omega (arith, z.ends, apart-size (one k e), row_one e); state = z.state; few = omega (arith, z.few) }

  module _ (k : Two) (e f : Term) (w : Task s p row low n (two k e f) xs l) where
    pub two-task : Task s (p + 1) row low n e xs l
    unfolding nodes
    two-task = record { term = first s (p + 1) 2 e (f ∷ []) (at-parts s p (two k e f) w.term (p + 1) 2 refl refl); state = w.state; room = omega (arith, w.room) }

    module _ {row₁ : List ℕ} {m c : ℕ} (z : Done s (p + 1) row₁ low n e xs l m c) where
      pub two-again : Task s m row₁ low c f xs (gather xs e l)
      unfolding nodes
      two-again =
          record {
            term = first s m 1 f [] (others s (p + 1) 2 e (f ∷ []) (at-parts s p (two k e f) w.term (p + 1) 2 refl refl) m z.ends);
            state = z.state;
            room = omega (arith, w.room, z.few);
          }

      pub two-done : {row₂ : List ℕ} {m' c' : ℕ} → Done s m row₂ low c f xs (gather xs e l) m' c' → Done s p row₂ low n (two k e f) xs l m' c'
      unfolding gather nodes
      two-done y = record { ends = omega (arith, y.ends, z.ends, apart-size (two k e f), row-two e f); state = y.state; few = omega (arith, y.few, z.few) }

  -- ---- a node of one name

  module _ (x : Name) (e : Term) (w : Task s p row low n (abs x e) xs l) where
    pub abs-room : n + 2 < low
    unfolding nodes
    abs-room = omega (arith, w.room, some-node e)

    pub abs-name : NameAt s (p + 1) x
    abs-name = first-name s (p + 1) 1 x [] (at_names s p (abs x e) w.term)

    module _ (h : ℕ) (g : AfterIs s (p + 1) 1 h) where
      after : h ≡ p + length (head (abs x e))
      after = omega (arith, g (x ∷ []) (at_names s p (abs x e) w.term))

      pub abs-task : {row₁ : List ℕ} {low₁ : ℕ} → low₁ ≡ low - 1 → row₁ ≡ set row (low - 1) (p + 1) → Task s h row₁ low₁ n e (x ∷ xs) l
      unfolding nodes
      abs-task d c =
          record {
            term = first s h 1 e [] (at-parts s p (abs x e) w.term h 1 after refl);
            state = rw (d, c) (pushed w.state x (p + 1) abs-name (omega (arith, w.room)));
            room = omega (arith, w.room);
          }

      pub abs-done : {row₂ : List ℕ} {low₁ : ℕ} {m c : ℕ} → low₁ ≡ low - 1 → Done s h row₂ low₁ n e (x ∷ xs) l m c → Done s p row₂ low n (abs x e) xs l m c
      unfolding gather nodes
      abs-done d z =
          record {
            ends = omega (arith, z.ends, after, apart-size (abs x e), row_one e);
            state = left_behind z.state low (omega (arith, w.room));
            few = omega (arith, z.few);
          }

  -- ---- a node of two names that both cover its second part

  module _ (k : Both) (x y : Name) (e f : Term) (w : Task s p row low n (both k x y e f) xs l) where
    both-names : NamesAt s (p + 1) 2 (x ∷ y ∷ [])
    both-names = at_names s p (both k x y e f) w.term

    pub both_first : NameAt s (p + 1) x
    both_first = first-name s (p + 1) 2 x (y ∷ []) both-names

    module _ (q : ℕ) (j : AfterIs s (p + 1) 1 q) where
      pub both-second : NameAt s q y
      both-second = second_at s p both-names q j

      module _ (h : ℕ) (j₂ : AfterIs s q 1 h) where
        both-start : h ≡ p + length (head (both k x y e f))
        both-start = start-at s p both-names q j h j₂ (both_tag k)

        pub both-task : Task s h row low n e xs l
        unfolding nodes
        both-task = record { term = first s h 2 e (f ∷ []) (at-parts s p (both k x y e f) w.term h 2 both-start refl); state = w.state; room = omega (arith, w.room) }

        module _ {row₁ : List ℕ} {m c : ℕ} (z : Done s h row₁ low n e xs l m c) where
          pub both-room : c + 4 ≤ low
          unfolding nodes
          both-room = omega (arith, w.room, z.few, some-node e, some-node f)

          pub both-body : {row₂ : List ℕ} {low₂ : ℕ} → low₂ ≡ low - 1 - 1 → row₂ ≡ set (set row₁ (low - 1) (p + 1)) (low - 1 - 1) q → Task s m row₂ low₂ c f (y ∷ x ∷ xs) (gather xs e l)
          unfolding nodes
          both-body d c =
              record {
                term = first s m 1 f [] (others s h 2 e (f ∷ []) (at-parts s p (both k x y e f) w.term h 2 both-start refl) m z.ends);
                state = rw (d, c) (pushed (pushed z.state x (p + 1) both_first (omega (arith, both-room))) y q both-second (omega (arith, both-room)));
                room = omega (arith, w.room, z.few);
              }

          pub both-done : {row₃ : List ℕ} {low₂ : ℕ} {m' c' : ℕ} → low₂ ≡ low - 1 - 1 → Done s m row₃ low₂ c f (y ∷ x ∷ xs) (gather xs e l) m' c' → Done s p row₃ low n (both k x y e f) xs l m' c'
          unfolding gather nodes
          both-done d v =
              record {
                ends = omega (arith, v.ends, z.ends, both-start, apart-size (both k x y e f), row-two e f);
                state = left_behind (left_behind v.state (low - 1) (omega (arith, both-room))) low (omega (arith, both-room));
                few = omega (arith, v.few, z.few);
              }

  -- ---- a node of two names that each cover one part

  module _ (x y : Name) (e f g : Term) (w : Task s p row low n (branch x y e f g) xs l) where
    branch-names : NamesAt s (p + 1) 2 (x ∷ y ∷ [])
    branch-names = at_names s p (branch x y e f g) w.term

    pub branch-first : NameAt s (p + 1) x
    branch-first = first-name s (p + 1) 2 x (y ∷ []) branch-names

    module _ (q : ℕ) (j : AfterIs s (p + 1) 1 q) where
      pub branch-second : NameAt s q y
      branch-second = second_at s p branch-names q j

      module _ (h : ℕ) (j₂ : AfterIs s q 1 h) where
        branch-start : h ≡ p + length (head (branch x y e f g))
        branch-start = start-at s p branch-names q j h j₂ 9

        pub branch-task : Task s h row low n e xs l
        unfolding nodes
        branch-task = record { term = first s h 3 e (f ∷ g ∷ []) (at-parts s p (branch x y e f g) w.term h 3 branch-start refl); state = w.state; room = omega (arith, w.room) }

        module _ {row₁ : List ℕ} {m c : ℕ} (z : Done s h row₁ low n e xs l m c) where
          others-at : TermsAt s m 2 (f ∷ g ∷ [])
          others-at = others s h 3 e (f ∷ g ∷ []) (at-parts s p (branch x y e f g) w.term h 3 branch-start refl) m z.ends

          pub branch-room : c + 4 ≤ low
          unfolding nodes
          branch-room = omega (arith, w.room, z.few, some-node f, some-node g)

          module _ {low₂ : ℕ} (d : low₂ ≡ low - 1) where
            pub branch-left : {row₂ : List ℕ} → row₂ ≡ set row₁ (low - 1) (p + 1) → Task s m row₂ low₂ c f (x ∷ xs) (gather xs e l)
            unfolding nodes
            branch-left c =
                record {
                  term = first s m 2 f (g ∷ []) others-at;
                  state = rw (d, c) (pushed z.state x (p + 1) branch-first (omega (arith, branch-room)));
                  room = omega (arith, w.room, z.few);
                }

            module _ {row₃ : List ℕ} {m' c' : ℕ} (v : Done s m row₃ low₂ c f (x ∷ xs) (gather xs e l) m' c') where
              pub branch-right : {row₄ : List ℕ} {low₄ : ℕ} → low₄ ≡ low - 1 → row₄ ≡ set row₃ (low - 1) q
                  → Task s m' row₄ low₄ c' g (y ∷ xs) (gather (x ∷ xs) f (gather xs e l))
              unfolding nodes
              branch-right d' c =
                  record {
                    term = first s m' 1 g [] (others s m 2 f (g ∷ []) others-at m' v.ends);
                    state = rw (d', c) (pushed (left_behind v.state low (omega (arith, branch-room))) y q branch-second (omega (arith, w.room, z.few, v.few, some-node g)));
                    room = omega (arith, w.room, z.few, v.few);
                  }

              pub branch-done : {row₅ : List ℕ} {low₄ : ℕ} {m'' c'' : ℕ} → low₄ ≡ low - 1
                  → Done s m' row₅ low₄ c' g (y ∷ xs) (gather (x ∷ xs) f (gather xs e l)) m'' c'' → Done s p row₅ low n (branch x y e f g) xs l m'' c''
              unfolding gather nodes
              branch-done d' u =
                  record {
                    ends = omega (arith, u.ends, v.ends, z.ends, branch-start, apart-size (branch x y e f g), row-three e f g);
                    state = left_behind u.state low (omega (arith, branch-room));
                    few = omega (arith, u.few, v.few, z.few);
                  }
