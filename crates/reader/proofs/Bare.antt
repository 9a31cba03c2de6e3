-- A bare name: what reading it comes to, from what reading its letters finds where nodes are counted.
-- Assumes nothing.
use Prim.Native.Nat.{ℕ, zero, suc, ◌+◌, ◌-◌, ◌<◌, ◌≤◌}
use native.Mathlib.Nat.{sub-zero}
use native.Mathlib.Omega.{arith}
use mathlib.Core.Path.{◌≡◌, refl, sym, ap, ◌∙◌}
use mathlib.Core.Bool.{Bool, true, false}
use mathlib.Core.List.{[], ◌∷◌}
use lib.ListN.{length, length-append}
use borrow.Author.Tests.{le-leb, lt-leb}
use Rattle.std.specs.Prelude.{if◌then◌else◌, Ok}
use Rattle.rules.specs.declared.Reason.{Reason}
use Rattle.rules.specs.Basic.{Bytes}
use Rattle.rules.specs.Refusal.{refuse, mapped, Outcome}
use Rattle.rules.specs.declared.Reason.TheVariants.{BadName, ReservedWord}
use Rattle.rules.specs.Name.{Name, name_most, leads, follows, Spelling, name_spelling}
use Rattle.rules.specs.Reading.{Got, got, bad, Reader, and_then, many, byte, byte_for, letters, spelled, ended, read_name}
use Rattle.laws.specs.reading.Holds.{told}
use Rattle.laws.specs.reading.Names.{Item, spelled-sound}
use Rattle.reader.specs.View.{view, past, fault, Read}
use Rattle.reader.specs.Viewed.{view-got, view-bad}

-- Letters are read alike whatever is counted beside them.
abbrev strip : {A : Type 0} → Got ℕ A → Got (Unit {0}) A
strip (got x u p r) = got x tt p r
strip (bad n p) = bad n p

module _ {A B : Type 0} where
  strip-then : (g : Got ℕ A) (h : Got (Unit {0}) A) (k : A → Reader ℕ B) (l : A → Reader (Unit {0}) B) → strip g ≡ h
      → ((x : A) (u p : ℕ) (r : Bytes) → strip (k x u p r) ≡ l x tt p r) → strip (and_then g k) ≡ and_then h l
  strip-then (got x u p r) h k l e f = f x u p r ∙ ap (λ g. and_then g l) e
  strip-then (bad n p) h k l e f = ap (λ g. and_then g l) e

strip-byte_for : (ok : ℕ → Bool) (n : Reason) (u at : ℕ) (r : Bytes) → strip (byte_for ok n u at r) ≡ byte_for ok n tt at r
unfolding byte_for byte
strip-byte_for ok n u at [] = refl
strip-byte_for ok n u at (b ∷ r) = go (ok b)
  where
    go : (t : Bool) → strip (if t then got b u (at + 1) r else bad n at) ≡ (if t then got b tt (at + 1) r else bad n at)
    go true = refl
    go false = refl

strip-many : (ok : ℕ → Bool) (k : Reason) (n u at : ℕ) (r : Bytes) → strip (many (byte_for ok k) n u at r) ≡ many (byte_for ok k) n tt at r
unfolding many
strip-many ok k zero u at r = refl
strip-many ok k (suc n) u at r =
    strip-then (byte_for ok k u at r) _ _ _ (strip-byte_for ok k u at r) (λ b v p q.
    strip-then (many (byte_for ok k) n v p q) _ _ _ (strip-many ok k n v p q) (λ bs w p q. refl))

strip-letters : (n u at : ℕ) (r : Bytes) → strip (letters n u at r) ≡ letters n tt at r
unfolding letters
strip-letters n u at r =
    strip-then (byte_for leads BadName u at r) _ _ _ (strip-byte_for leads BadName u at r) (λ b v p q.
    strip-then (many (byte_for follows BadName) (n - 1) v p q) _ _ _ (strip-many follows BadName (n - 1) v p q) (λ bs w p q. refl))

strip-spelled : (P : Spelling) (n u at : ℕ) (r : Bytes) → strip (spelled P n u at r) ≡ spelled P n tt at r
unfolding spelled
strip-spelled P n u at r = strip-then (letters n u at r) _ _ _ (strip-letters n u at r) (λ x v p q. go x v p q (P.allowed x))
  where
    go : (x : Name) (v p : ℕ) (q : Bytes) (t : Bool) → strip (if t then got x v p q else bad ReservedWord at) ≡ (if t then got x tt p q else bad ReservedWord at)
    go x v p q true = refl
    go x v p q false = refl

none_left : (r : Bytes) → length r ≡ 0 → r ≡ []
none_left [] e = refl
none_left (b ∷ r) e = absurd (omega arith)

module _ (i : ℕ) (s : Bytes) where
  abbrev answer : Outcome ℕ
  answer = mapped length (read_name i s)

  pub bare-empty : length s < 1 → answer ≡ refuse BadName 0 i
  unfolding read_name
  bare-empty h = rw (lt-leb 1 (length s) h)

  pub bare-long : name_most < length s → answer ≡ refuse BadName 0 i
  unfolding read_name
  bare-long h = rw (le-leb 1 (length s) (omega arith), lt-leb (length s) name_most h)

  module _ (one : 1 ≤ length s) (few : length s ≤ name_most) where
    ends : answer ≡ mapped length (ended i (spelled name_spelling (length s) (tt {0}) 0 s))
    unfolding read_name
    ends = rw (le-leb 1 (length s) one, le-leb (length s) name_most few)

    -- from the place 0 on
    all_read : (r : Read) → view (spelled name_spelling (length s - 0) 0 0 s) ≡ r → view (spelled name_spelling (length s) 0 0 s) ≡ r
    all_read r e = ap (λ n. view (spelled name_spelling n 0 0 s)) (sym (sub-zero (length s))) ∙ e

    pub bare-bad : {n : Reason} {p : ℕ} → view (spelled name_spelling (length s - 0) 0 0 s) ≡ fault n p → answer ≡ refuse n p i
    bare-bad e = ends ∙ rw (sym (strip-spelled name_spelling (length s) 0 0 s) ∙ ap strip (view-bad (spelled name_spelling (length s) 0 0 s) (all_read _ e)))

    pub bare-good : {p v : ℕ} → view (spelled name_spelling (length s - 0) 0 0 s) ≡ past p v → answer ≡ Ok p
    bare-good {p} {v} e =
        let w = view-got (spelled name_spelling (length s) 0 0 s) (all_read _ e) in
        let t : Item (λ x. x) (λ u x. u) _ 0 0 s w.0 v p w.1 = told _ (spelled name_spelling (length s) 0 0 s) (spelled-sound name_spelling (length s) one 0 0 s) w.2 in
        let z : w.1 ≡ [] = none_left w.1 (omega (arith, t.legal.0.0, ap length t.bytes, length-append w.0 w.1)) in
        ends ∙ rw (sym (strip-spelled name_spelling (length s) 0 0 s) ∙ ap strip w.2, z) (ap Ok (omega (arith, t.next)))
