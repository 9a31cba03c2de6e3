-- The bytes and nodes around a spot: what stands on its left and right stays, whatever is put in its place.
-- Each node with a hole for one part is such a frame; frames nest. By induction on the term. Assumes nothing.
use Rattle.std.specs.Prelude.{ℕ, ◌+◌, ◌≡◌, refl, [], ◌∷◌, ◌++◌, length}
use Rattle.std.proofs.Common.{sym, ap, ◌∙◌, append_assoc, append-nil, arith, length-append}
use Rattle.std.proofs.Math.Option.{Option, none, some}
use Rattle.rules.specs.Basic.{Bytes}
use Rattle.rules.specs.Name.{Name, encode_name}
use Rattle.rules.specs.Term.{Term, var, leaf, one, two, abs, both, branch, One, inl, inr, fst, snd, abort, promote, derelict, Two, Both, let_a_pair, copy, one_tag, two_tag, both_tag, encode, size, nodes}
use Rattle.rules.specs.Step.{Contraction, no, by, contract, name_bytes}
use Rattle.redex.specs.Spot.{Spot, deeper, or_later, itself, spot}

-- f puts what it is given at offset o, between the same bytes and beside the same number of nodes
pub record Frame (o : ℕ) (f : Term → Term) : Type 0 where
  pub left : Bytes
  pub right : Bytes
  pub more : ℕ
  pub long : length left ≡ o
  pub bytes : (t : Term) → encode (f t) ≡ left ++ (encode t ++ right)
  pub count : (t : Term) → nodes (f t) ≡ more + nodes t

pub no-frame : Frame 0 (λ t. t)
no-frame = record { left = []; right = []; more = 0; long = refl; bytes = λ t. sym (append-nil (encode t)); count = λ t. omega arith }

pub nested : {o p : ℕ} {f g : Term → Term} → Frame o f → Frame p g → Frame (o + p) (λ t. f (g t))
nested {o} {p} {f} {g} F G =
    record {
      left = F.left ++ G.left;
      right = G.right ++ F.right;
      more = F.more + G.more;
      long = length-append F.left G.left ∙ omega (arith, F.long, G.long);
      bytes =
          λ t. F.bytes (g t) ∙ ap (λ s. F.left ++ (s ++ F.right)) (G.bytes t)
          ∙ ap (λ s. F.left ++ s) (append_assoc G.left (encode t ++ G.right) F.right ∙ ap (λ s. G.left ++ s) (append_assoc (encode t) G.right F.right))
          ∙ sym (append_assoc F.left G.left (encode t ++ (G.right ++ F.right)));
      count = λ t. omega (arith, F.count (g t), G.count t);
    }

in_one : (k : One) → Frame 1 (one k)
unfolding encode nodes
in_one k = record { left = one_tag k ∷ []; right = []; more = 1; long = refl; bytes = λ t. rw (append-nil (encode t)); count = λ t. refl }

in_left : (k : Two) (b : Term) → Frame 1 (λ t. two k t b)
unfolding encode nodes
in_left k b = record { left = two_tag k ∷ []; right = encode b; more = 1 + nodes b; long = refl; bytes = λ t. refl; count = λ t. omega arith }

in_right : (k : Two) (a : Term) → Frame (1 + size a) (two k a)
unfolding encode nodes
in_right k a = record { left = two_tag k ∷ encode a; right = []; more = 1 + nodes a; long = omega arith; bytes = λ t. rw (append-nil (encode t)); count = λ t. omega arith }

in-abs : (x : Name) → Frame (1 + name_bytes x) (abs x)
unfolding encode nodes
in-abs x = record { left = 5 ∷ encode_name x; right = []; more = 1; long = omega arith; bytes = λ t. rw (append-nil (encode t)); count = λ t. refl }

-- two names in front
names-long : (k : ℕ) (x y : Name) → length (k ∷ (encode_name x ++ encode_name y)) ≡ 1 + name_bytes x + name_bytes y
names-long k x y = simp length-append (omega arith)

in-first : (k : Both) (x y : Name) (b : Term) → Frame (1 + name_bytes x + name_bytes y) (λ t. both k x y t b)
unfolding encode nodes
in-first k x y b =
    record {
      left = both_tag k ∷ (encode_name x ++ encode_name y);
      right = encode b;
      more = 1 + nodes b;
      long = names-long (both_tag k) x y;
      bytes = λ t. ap (λ s. both_tag k ∷ s) (sym (append_assoc (encode_name x) (encode_name y) (encode t ++ encode b)));
      count = λ t. omega arith;
    }

in_body : (k : Both) (x y : Name) (e : Term) → Frame (1 + name_bytes x + name_bytes y + size e) (both k x y e)
unfolding encode nodes
in_body k x y e =
    record {
      left = both_tag k ∷ (encode_name x ++ (encode_name y ++ encode e));
      right = [];
      more = 1 + nodes e;
      long = simp length-append (omega arith);
      bytes =
          λ t. ap (λ s. both_tag k ∷ (encode_name x ++ (encode_name y ++ (encode e ++ s)))) (sym (append-nil (encode t)))
          ∙ ap (λ s. both_tag k ∷ (encode_name x ++ s)) (sym (append_assoc (encode_name y) (encode e) (encode t ++ [])))
          ∙ ap (λ s. both_tag k ∷ s) (sym (append_assoc (encode_name x) (encode_name y ++ encode e) (encode t ++ [])));
      count = λ t. omega arith;
    }

in-scrutinee : (x y : Name) (l r : Term) → Frame (1 + name_bytes x + name_bytes y) (λ t. branch x y t l r)
unfolding encode nodes
in-scrutinee x y l r =
    record {
      left = 9 ∷ (encode_name x ++ encode_name y);
      right = encode l ++ encode r;
      more = 1 + (nodes l + nodes r);
      long = names-long 9 x y;
      bytes = λ t. ap (λ s. 9 ∷ s) (sym (append_assoc (encode_name x) (encode_name y) (encode t ++ (encode l ++ encode r))));
      count = λ t. omega arith;
    }

-- a spot of t: a frame round its redex
pub record Around (t : Term) (q : Spot) : Type 0 where
  pub frame : Frame q.place q.around
  pub whole : q.around q.redex ≡ t

abbrev pub Arounds : Term → Option Spot → Type 0
Arounds t none = Unit {0}
Arounds t (some q) = Around t q

arounds-deeper : (o : ℕ) (f : Term → Term) → Frame o f → (e : Term) (p : Option Spot) → Arounds e p → Arounds (f e) (deeper o f p)
arounds-deeper o f F e none a = tt
arounds-deeper o f F e (some q) a = record { frame = nested F a.frame; whole = ap f a.whole }

arounds-later : (t : Term) (p q : Option Spot) → Arounds t p → Arounds t q → Arounds t (or_later p q)
arounds-later t none q a b = b
arounds-later t (some p) q a b = a

arounds-itself : (t : Term) (c : Contraction) (p : Option Spot) → Arounds t p → Arounds t (itself t c p)
arounds-itself t no p a = a
arounds-itself t (by r h u) p a = record { frame = no-frame; whole = refl }

pub spot-around : (t : Term) → Arounds t (spot t)
unfolding spot
spot-around (var x) = tt
spot-around (leaf k) = tt
spot-around (one abort e) = tt
spot-around (one inl e) = arounds-deeper _ _ (in_one inl) e (spot e) (spot-around e)
spot-around (one inr e) = arounds-deeper _ _ (in_one inr) e (spot e) (spot-around e)
spot-around (one promote e) = arounds-deeper _ _ (in_one promote) e (spot e) (spot-around e)
spot-around (one fst e) = arounds-itself _ (contract (one fst e)) _ (arounds-deeper _ _ (in_one fst) e (spot e) (spot-around e))
spot-around (one snd e) = arounds-itself _ (contract (one snd e)) _ (arounds-deeper _ _ (in_one snd) e (spot e) (spot-around e))
spot-around (one derelict e) = arounds-itself _ (contract (one derelict e)) _ (arounds-deeper _ _ (in_one derelict) e (spot e) (spot-around e))
spot-around (two k a b) =
    arounds-itself _ (contract (two k a b)) _
    (arounds-later _ (deeper 1 (λ p. two k p b) (spot a)) _ (arounds-deeper _ _ (in_left k b) a (spot a) (spot-around a)) (arounds-deeper _ _ (in_right k a) b (spot b) (spot-around b)))
spot-around (abs x e) = arounds-deeper _ _ (in-abs x) e (spot e) (spot-around e)
spot-around (both let_a_pair x y e b) =
    arounds-itself _ (contract (both let_a_pair x y e b)) _
    (arounds-later _ (deeper (1 + name_bytes x + name_bytes y) (λ p. both let_a_pair x y p b) (spot e)) _
    (arounds-deeper _ _ (in-first let_a_pair x y b) e (spot e) (spot-around e)) (arounds-deeper _ _ (in_body let_a_pair x y e) b (spot b) (spot-around b)))
spot-around (both copy x y e b) = arounds-itself _ (contract (both copy x y e b)) _ (arounds-deeper _ _ (in-first copy x y b) e (spot e) (spot-around e))
spot-around (branch x y e l r) = arounds-itself _ (contract (branch x y e l r)) _ (arounds-deeper _ _ (in-scrutinee x y l r) e (spot e) (spot-around e))
