-- App of Abs where the body ends in its one free place: the argument stands right behind the body, so it stays where it is.
-- By the splice at one place. Assumes nothing.
use Prim.Native.Nat.{ℕ, ◌+◌, ◌-◌, ◌*◌, ◌≤◌}
use mathlib.Core.Path.{◌≡◌, refl, sym, ap, ◌∙◌}
use mathlib.Core.Bool.{true}
use mathlib.Core.List.{List, [], ◌∷◌, ◌++◌, append-nil, append_assoc}
use native.Mathlib.Omega.{arith}
use lib.ListN.{length, take, drop, length-append, take-append-drop}
use lib.Seq.{slice, slice_empty, length-take-le}
use borrow.Author.Tests.{eqb-true}
use Rattle.rules.specs.Basic.{Bytes}
use Rattle.rules.specs.Name.{Name}
use Rattle.rules.specs.Term.{Term, encode, nodes, size}
use Rattle.rules.specs.Free.{occurrences}
use Rattle.rules.specs.Substitution.{subst}
use Rattle.laws.specs.size.SubstSize.{subst-nodes, occurrences-nodes}
use Rattle.substitution.specs.Places.{places}
use Rattle.substitution.specs.Spliced.{spliced}
use Rattle.substitution.proofs.place.Shapes.{places-many}
use Rattle.substitution.proofs.splice.Splices.{spliced-term}
use Rattle.buffer.specs.Writing.{slice_is}
use Rattle.term.specs.Place.{TermAt}
use Rattle.contraction.specs.Stays.{one_at_end}

-- where there is one place at the end, it is the last of the body
pub last-place : (ps : List ℕ) (gap end : ℕ) → one_at_end ps gap end ≡ true → (ps ≡ (end - gap) ∷ []) × (gap ≤ end)
last-place [] gap end e = absurd (let z : ◌≡◌ {A = ℕ} 0 1 = cc in omega arith)
last-place (p ∷ []) gap end e =
    let q : p + gap ≡ end = eqb-true (p + gap) end e in
    let d : p ≡ end - gap = omega arith in
    (ap (λ (z : ℕ). z ∷ []) d, omega arith)
last-place (p ∷ q ∷ ps) gap end e = absurd (let z : ◌≡◌ {A = ℕ} 0 1 = cc in omega arith)

-- ---- what comes of it

module _ (x : Name) (v e : Term) (last : (places x e 0 ≡ (size e - (2 + length x)) ∷ []) × (2 + length x ≤ size e)) where
  abbrev front : ℕ
  front = size e - (2 + length x)

  pub tail-bytes : encode (subst x v e) ≡ take front (encode e) ++ encode v
  unfolding spliced
  tail-bytes =
      let a : front + (2 + length x) ≡ size e = omega (arith, last.1) in
      sym (spliced-term x v e (encode e) refl)
      ∙ ap (λ (ps : List ℕ). spliced (encode e) (encode v) (2 + length x) 0 ps (size e)) last.0
      ∙ ap (λ (k : ℕ). take front (encode e) ++ (encode v ++ slice k (size e) (encode e))) a
      ∙ ap (λ (z : Bytes). take front (encode e) ++ (encode v ++ z)) (slice_empty (size e) (encode e))
      ∙ ap (λ (z : Bytes). take front (encode e) ++ z) (append-nil (encode v))

  pub tail-nodes : nodes (subst x v e) + 1 ≡ nodes e + nodes v
  tail-nodes =
      let a : occurrences x e ≡ 1 = sym (places-many x e 0) ∙ ap (λ (ps : List ℕ). length ps) last.0 in
      let b : occurrences x e * nodes v ≡ 1 * nodes v = ap (λ (k : ℕ). k * nodes v) a in
      omega (arith, subst-nodes x v e)

  pub tail-some : 1 ≤ nodes e
  tail-some = let a = sym (places-many x e 0) ∙ ap (λ (ps : List ℕ). length ps) last.0 in omega (arith, a, occurrences-nodes x e)

  pub front_long : length (take front (encode e)) ≡ front
  front_long = length-take-le front (encode e) (omega arith)

  pub tail-long : size (subst x v e) ≡ front + size v
  tail-long =
      ap (λ (z : Bytes). length z) tail-bytes
      ∙ omega (arith, length-append (take front (encode e)) (encode v), front_long)

  -- the body's bytes before the place, where the body stands
  pub front_at : {s : Bytes} {i : ℕ} → TermAt s i e → slice i (i + front) s ≡ take front (encode e)
  front_at {s} {i} w =
      let b : drop i s ≡ take front (encode e) ++ (drop front (encode e) ++ w.rest) =
      w.bytes ∙ ap (λ (z : Bytes). z ++ w.rest) (sym (take-append-drop front (encode e))) ∙ append_assoc (take front (encode e)) (drop front (encode e)) w.rest in
      ap (λ (k : ℕ). slice i (i + k) s) (sym front_long) ∙ slice_is i s (take front (encode e)) (drop front (encode e) ++ w.rest) b
