-- The turns of the walk, by the tag that it meets: what each call of a turn is asked, and that the walk stands at the next part, or has ended.
-- Assumes nothing.
use Prim.Native.Nat.{ℕ, ◌+◌, ◌<◌, ◌≤◌, ◌/◌, ◌%◌}
use mathlib.Core.Path.{◌≡◌, sym, ap}
use mathlib.Core.List.{List, [], ◌∷◌, ◌++◌, append-nil}
use lib.ListN.{length, get_or}
use types.Run.{OneOf}
use Rattle.rules.specs.Basic.{say}
use Rattle.rules.specs.Name.{Name, name_most, encode_name}
use Rattle.rules.specs.Term.{Term, var, one, two, abs, One, Two}
use Rattle.words.specs.Prints.{Prints, brackets}
use Rattle.rules.specs.Text.{text}
use Rattle.words.specs.Task.{Task, Done}
use Rattle.words.specs.Steps.{told-done}
use Rattle.term.specs.Node.{single_part}
use Rattle.term.specs.Shape.{Bracketed, shape_of, a-var, a-two, an-abs}
use Rattle.term_text.specs.Task.{TermTask, TermDone, name_at, after_name, NameIn, Whole}
use Rattle.term_text.specs.Words.{sign_of}
use Rattle.term_text.proofs.walk.Inverts.{two-key, made_of, made_one, Rest, is_whole}
use Rattle.term_text.proofs.phrase.Shaped.{begun}
use Rattle.term_text.proofs.walk.Walking.{At, On, here, brackets-room, ends, one-asked, one-turn, two-room, left-part, two-further, between-room, two-turn, last-task, last-long, last_done, abs-in, abs-room, abs-turn}

module _ {s : List ℕ} {at : ℕ} {out₀ : List ℕ} {to : ℕ} {T : Term} {out : List ℕ} {i o c : ℕ} (n : On s at out₀ to T out i o c) where
  pub on-begun : i < length s
  on-begun = begun n.t (here n)

  -- ---- a variable
  module _ (h : get_or s i 0 ≡ 1) where
    a-name : (x : Name) × At s at out₀ to T out i o c (var x)
    a-name = let v = made_of a-var n.t (here n) (ap (λ (k : ℕ). shape_of k) h) in (v.0, rw v.1 at n.stands)

    pub name-here : (y : Name) × (length y ≤ name_most) × Task s (i + 1) out o (encode_name y) (y ++ brackets c)
    name-here = let v = a-name in (v.0, last-long v.0 v.1, last-task v.0 v.1)

    pub name-ends : {o₁ : List ℕ} {r : ℕ}
        → ((y : Name) → Task s (i + 1) out o (encode_name y) (y ++ brackets c) → Done (i + 1) out o (encode_name y) (y ++ brackets c) o₁ r)
        → TermDone at out₀ to T o₁ r
    name-ends f = let v = a-name in last_done v.0 v.1 (f v.0 (last-task v.0 v.1))

  -- ---- a pair or an application
  module _ (h : OneOf (3 ∷ 6 ∷ []) (get_or s i 0)) where
    a_pair : (k : Two) × Bracketed k × (f : Term) × (g : Term) × At s at out₀ to T out i o c (two k f g)
    a_pair = let v = made_of a-two n.t (here n) (two-key h) in (v.0, v.1, v.2, v.3, rw v.4 at n.stands)

    pub open-room : o < length out
    open-room = let v = a_pair in two-room v.0 v.1 v.2 v.3 v.4

    module _ {o₁ : List ℕ} {p : ℕ} (b : Prints out o (40 ∷ []) o₁ p) where
      pub left_here : (t : Term) × TermTask s (i + 1) o₁ p t
      left_here = let v = a_pair in (v.2, left-part v.0 v.1 v.2 v.3 v.4 b)

      module _ {o₂ : List ℕ} {l : ℕ} (f : (t : Term) → TermTask s (i + 1) o₁ p t → TermDone (i + 1) o₁ p t o₂ l) where
        pub left-further : i < l % 65536
        left-further = let v = a_pair in two-further v.0 v.1 v.2 v.3 v.4 b (f v.2 (left-part v.0 v.1 v.2 v.3 v.4 b))

        pub left-room : (get_or s i 0 < 16) × (l / 65536 + 9 ≤ length o₂)
        left-room = let v = a_pair in between-room v.0 v.1 v.2 v.3 v.4 b (f v.2 (left-part v.0 v.1 v.2 v.3 v.4 b))

        pub left-next : {o₃ : List ℕ} {q : ℕ} → Prints o₂ (l / 65536) (sign_of (get_or s i 0)) o₃ q → On s at out₀ to T o₃ (l % 65536) q (c + 1)
        left-next e =
            let v = a_pair in
            record { t = v.3; stands = two-turn v.0 v.1 v.2 v.3 v.4 b (f v.2 (left-part v.0 v.1 v.2 v.3 v.4 b)) e }

  -- ---- an abstraction
  module _ (h : get_or s i 0 ≡ 5) where
    an-abstraction : (x : Name) × (e : Term) × At s at out₀ to T out i o c (abs x e)
    an-abstraction = let v = made_of an-abs n.t (here n) (ap (λ (k : ℕ). shape_of k) h) in (v.0, v.1, rw v.2 at n.stands)

    pub bound-here : NameIn s (i + 1) × (o + get_or s (i + 1) 0 + 28 ≤ length out)
    bound-here = let v = an-abstraction in (abs-in v.0 v.1 v.2, abs-room v.0 v.1 v.2)

    pub bound-next : {o₁ : List ℕ} {p q : ℕ} → Prints out o (say "λ" ++ (name_at s (i + 1) ++ say ". ")) o₁ p → q ≡ after_name s (i + 1)
        → On s at out₀ to T o₁ q p c
    bound-next b q = let v = an-abstraction in record { t = v.1; stands = abs-turn v.0 v.1 v.2 b q }

  -- ---- a node of one part
  module _ (h : single_part (get_or s i 0) ≡ 1) where
    a_one : (k : One) × (e : Term) × At s at out₀ to T out i o c (one k e)
    a_one = let v = made_one n.t (here n) h in (v.0, v.1, rw v.2 at n.stands)

    pub one-here : (get_or s i 0 < 16) × (o + 9 ≤ length out)
    one-here = let v = a_one in one-asked v.0 v.1 v.2

    pub one-next : {o₁ : List ℕ} {p : ℕ} → Prints out o (sign_of (get_or s i 0)) o₁ p → On s at out₀ to T o₁ (i + 1) p c
    one-next b = let v = a_one in record { t = v.1; stands = one-turn v.0 v.1 v.2 b }

  -- ---- a part of another shape, and its brackets
  module _ {o₁ : List ℕ} {r : ℕ} (f : (t : Term) → TermTask s i out o t → TermDone i out o t o₁ r) where
    pub part_room : (r / 65536 + c + 8 ≤ length o₁) × (r / 65536 + c < 65536)
    part_room = brackets-room n (f n.t (here n))

    pub part-ends : {o₂ : List ℕ} {q : ℕ} → Done (r % 65536) o₁ (r / 65536) [] (brackets c) o₂ q → TermDone at out₀ to T o₂ q
    part-ends b = ends n (f n.t (here n)) b

-- where no brackets come, what prints the part prints the whole
module _ {s : List ℕ} {at : ℕ} {out₀ : List ℕ} {to : ℕ} {T : Term} {out : List ℕ} {i o : ℕ} (n : On s at out₀ to T out i o 0) where
  alone : {o₁ : List ℕ} {r : ℕ} → TermDone i out o n.t o₁ r → TermDone at out₀ to T o₁ r
  alone d = n.stands.gives (told-done (sym (append-nil (text n.t))) d)

  pub any_here : (t : Term) × TermTask s i out o t
  any_here = (n.t, here n)

  pub any-ends : {o₁ : List ℕ} {r : ℕ} → ((t : Term) → TermTask s i out o t → TermDone i out o t o₁ r) → TermDone at out₀ to T o₁ r
  any-ends f = alone (f n.t (here n))

  module _ (h : Rest (get_or s i 0)) where
    pub whole_here : (t : Term) × Whole t × TermTask s i out o t
    whole_here = (n.t, is_whole n.t (here n) h, here n)

    pub whole-ends : {o₁ : List ℕ} {r : ℕ} → ((t : Term) → Whole t → TermTask s i out o t → TermDone i out o t o₁ r) → TermDone at out₀ to T o₁ r
    whole-ends f = alone (f n.t (is_whole n.t (here n) h) (here n))
