-- A fault lies in the input or at its end: so it does for a byte, and by each way in which readings are put together.
-- Assumes nothing.
use Rattle.std.specs.Prelude.{Err}
use Rattle.rules.specs.declared.Fault.{Fault}
use Rattle.rules.specs.declared.Reason.{Reason}
use Rattle.rules.specs.declared.Reason.TheVariants.{EndsInside, NotListed, BadName, OneTooMany, ReservedWord}
use Prim.Native.Nat.{ℕ, zero, suc, ◌+◌, ◌-◌, ◌≤◌}
use native.Mathlib.Omega.{arith}
use mathlib.Core.Path.{◌≡◌, ap, ◌∙◌}
use mathlib.Core.Bool.{Bool, true, false}
use mathlib.Core.List.{[], ◌∷◌}
use mathlib.Core.Option.{Option, none, some}
use lib.ListN.{length, length-drop}
use Rattle.std.specs.Prelude.{if◌then◌else◌}
use Rattle.rules.specs.Basic.{Bytes, ◌<?◌, ◌≤?◌, between}
use Rattle.rules.specs.Name.{leads, follows, Spelling}
use Rattle.rules.specs.Limits.{Limits}
use Rattle.rules.specs.Layout.{Layout, head_by_tag}
use Rattle.rules.specs.Formula.{formulas}
use Rattle.rules.specs.Proof.{RuleHead, a_plain, a_cut, a_focus, rule_heads}
use Rattle.rules.specs.Reading.{Got, got, bad, Reader, and_then, only, times, many, byte, byte_for, room, letters, spelled, name, listed, tag, too_many, node, rule_got, formula_got, rule_of}
use Rattle.laws.specs.reading.Steady.{Stands, stands, stands-next}
use Rattle.proof.specs.Seen.{Reached, found, count_seen}
use Rattle.proof.specs.Stages.{formula_of, row_of, tag_of, own_of, linear_of, count_of, top_of}
use Rattle.proof.proofs.conclusion.Split.{count-bad}

-- it came to a place of s, or its fault lies there
abbrev Lies : {S A : Type 0} → Bytes → Got S A → Type 0
Lies s (got x u p r) = Stands s p r
Lies s (bad n p) = p ≤ length s

abbrev Inside : {S A : Type 0} → Reader S A → Type 0
Inside {S} {A} m = (s : Bytes) (u : S) (at : ℕ) (r : Bytes) → Stands s at r → Lies s (m u at r)

module _ {S : Type 0} where
  in_then : {A B : Type 0} (m : Reader S A) (f : A → Reader S B) → Inside m → ((x : A) → Inside (f x)) → Inside (λ u at r. and_then (m u at r) f)
  in_then {A} m f h k s u at r w = go (m u at r) (h s u at r w)
    where
      go : (g : Got S A) → Lies s g → Lies s (and_then g f)
      go (got x v p r') i = k x s v p r' i
      go (bad n p) i = i

  chosen : {A : Type 0} (s : Bytes) (t : Bool) (x y : Got S A) → Lies s x → Lies s y → Lies s (if t then x else y)
  chosen s true x y h i = h
  chosen s false x y h i = i

  in-byte : Inside {S = S} byte
  unfolding byte
  in-byte s u at [] h = h.within
  in-byte s u at (b ∷ r) h = stands-next s at b r h

  in-only : {A : Type 0} (ok : A → Bool) (n : Reason) (m : Reader S A) → Inside m → Inside (only ok n m)
  in-only {A} ok n m k s u at r h = go (m u at r) (k s u at r h)
    where
      go : (g : Got S A) → Lies s g → Lies s (and_then g (λ x v p r'. if ok x then got x v p r' else bad n at))
      go (got x v p r') i = chosen s (ok x) (got x v p r') (bad n at) i h.within
      go (bad k p) i = i

  in-byte_for : (ok : ℕ → Bool) (n : Reason) → Inside {S = S} (byte_for ok n)
  unfolding byte_for
  in-byte_for ok n = in-only ok n byte in-byte

  in-room : (n : ℕ) → Inside {S = S} (room n)
  unfolding room
  in-room n s u at r h = chosen s (n ≤? length r) (got tt u at r) (bad EndsInside (at + length r)) h (omega (arith, h.within, ap length h.rest ∙ length-drop at s))

  module _ {A : Type 0} (m : Reader S A) (h : Inside m) where
    in-times : (n : ℕ) → Inside (times m n)
    unfolding times
    in-times zero = λ s u at r h. h
    in-times (suc n) = in_then m _ h (λ x. in_then (times m n) _ (in-times n) (λ xs s u at r h. h))

    in-many : (n : ℕ) → Inside (many m n)
    unfolding many
    in-many zero = λ s u at r h. h
    in-many (suc n) = in_then m _ h (λ x. in_then (many m n) _ (in-many n) (λ xs s u at r h. h))

  in_letters : (n : ℕ) → Inside {S = S} (letters n)
  unfolding letters
  in_letters n =
      in_then (byte_for leads BadName) _ (in-byte_for leads BadName) (λ b.
      in_then (many (byte_for follows BadName) (n - 1)) _ (in-many (byte_for follows BadName) (in-byte_for follows BadName) (n - 1)) (λ bs s u at r h. h))

  in-name : (P : Spelling) → Inside {S = S} (name P)
  unfolding name spelled
  in-name P =
      in_then (byte_for (between 1 P.longest) BadName) _ (in-byte_for (between 1 P.longest) BadName) (λ n.
      in_then (room n) _ (in-room n) (λ _. in-only P.allowed ReservedWord (letters n) (in_letters n)))

in-tag : {H : Type 0} (most : ℕ) (heads : ℕ → Option H) → Inside (tag most heads)
unfolding tag byte
in-tag most heads s u at [] h = h.within
in-tag {H} most heads s u at (b ∷ r) h = go (u <? most) (heads b)
  where
    go : (t : Bool) (o : Option H) → Lies s (if t then listed u at (at + 1) r o else bad OneTooMany at)
    go true none = h.within
    go true (some k) = stands-next s at b r h
    go false o = h.within

in-too_many : (A : Type 0) → Inside {A = A} too_many
unfolding too_many byte
in-too_many A s u at [] h = h.within
in-too_many A s u at (b ∷ r) h = h.within

in-node : {H A : Type 0} (F : Layout H A) (most depth : ℕ) → Inside (node F most depth)
unfolding node
in-node {A = A} F most zero = in-too_many A
in-node F most (suc depth) =
    in_then (tag most (head_by_tag F.heads)) _ (in-tag most (head_by_tag F.heads)) (λ h.
    in_then (times (name F.spelling) (F.names h)) _ (in-times (name F.spelling) (in-name F.spelling) (F.names h)) (λ xs.
    in_then (times (node F most depth) (F.parts h)) _ (in-times (node F most depth) (in-node F most depth) (F.parts h)) (λ ts s u at r h. h)))

module _ (L : Limits) where
  in-formula : Inside (formula_of L)
  in-formula s u at r h = go (node formulas L.formulas L.formulas u.formulas at r) (in-node formulas L.formulas L.formulas s u.formulas at r h)
    where
      go : {A : Type 0} (g : Got ℕ A) → Lies s g → Lies s (formula_got u.rules g)
      go (got x v p r') i = i
      go (bad n p) i = i

  in-rule-tag : Inside (tag_of L)
  in-rule-tag s u at r h = go (tag L.rules (head_by_tag rule_heads) u.rules at r) (in-tag L.rules (head_by_tag rule_heads) s u.rules at r h)
    where
      go : (g : Got ℕ RuleHead) → Lies s g → Lies s (rule_got u.formulas g)
      go (got x v p r') i = i
      go (bad n p) i = i

  in-carried : (h : RuleHead) → Inside (rule_of (formula_of L) h)
  in-carried (a_plain k) = λ s u at r h. h
  in-carried a_cut = in_then (formula_of L) _ in-formula (λ a s u at r h. h)
  in-carried (a_focus k) = in_then byte _ in-byte (λ low. in_then byte _ in-byte (λ high s u at r h. h))

  in_top : Inside (top_of L)
  unfolding top_of own_of linear_of row_of count_of
  in_top =
      in_then (own_of L) _ (in_then (tag_of L) _ in-rule-tag in-carried) (λ r.
      in_then (linear_of L) _ (in_then byte _ in-byte (in-many (formula_of L) in-formula)) (λ l.
      in_then count_of _ (in-byte_for (◌≤? 3) NotListed) (λ n s u at r h. h)))

  pub top-fault : (s : Bytes) (from : Reached) → from.next ≤ length s → {f : Fault} → count_seen (λ x. x.premises) (found (top_of L) s from) ≡ Err f → f.place ≤ length s
  top-fault s from h {f} e =
      let g = found (top_of L) s from in
      let b = count-bad (λ x. x.premises) g e in
      let i : Lies s g = in_top s _ from.next _ (stands s from.next h) in
      rw b at i
