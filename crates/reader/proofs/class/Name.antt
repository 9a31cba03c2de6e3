-- What reading a name finds, by the tests that the code makes.
-- Assumes nothing.
use Rattle.rules.specs.declared.Reason.TheVariants.{EndsInside, BadName, ReservedWord}
use Prim.Native.Nat.{ℕ, ◌+◌, ◌-◌, ◌<◌, ◌≤◌}
use native.Mathlib.Omega.{arith}
use mathlib.Core.Path.{◌≡◌, sym, ap, ◌∙◌}
use mathlib.Core.Bool.{true, false}
use mathlib.Core.List.{◌∷◌, ◌++◌}
use lib.ListN.{length, get_or, take, drop, length-drop}
use lib.Seq.{take-append_seam}
use borrow.Author.Tests.{le-leb, lt-leb}
use Rattle.rules.specs.declared.Reason.{Reason}
use Rattle.rules.specs.Basic.{Bytes}
use Rattle.rules.specs.Name.{leads, follows, Spelling}
use Rattle.rules.specs.Reading.{got, many, byte, byte_for, room, letters, spelled, name}
use Rattle.laws.specs.reading.Holds.{told}
use Rattle.laws.specs.reading.Names.{Item, still, Letters, letters-sound}
use Rattle.reader.specs.View.{view, past, fault, Read}
use Rattle.reader.specs.Viewed.{view-got, view-bad}
use Rattle.reader.proofs.class.Views.{rest_in, rest_out, view_made, letter-on, letter-off}

-- Its letters, up to `end`.
module _ (s : Bytes) (u at end : ℕ) (some_left : at < end) (within : end ≤ length s) where
  pub letters-off : leads (get_or s at 0) ≡ false → view (letters (end - at) u at (drop at s)) ≡ fault BadName at
  unfolding letters
  letters-off e = simp (letter-off leads s u at (omega arith) e)

  pub letters-on : leads (get_or s at 0) ≡ true
      → view (many (byte_for follows BadName) (end - (at + 1)) u (at + 1) (drop (at + 1) s)) ≡ view (letters (end - at) u at (drop at s))
  unfolding letters
  letters-on e =
      let z : end - at - 1 ≡ end - (at + 1) = omega arith in
      simp (letter-on leads s u at (omega arith) e, z) (sym (view_made (many (byte_for follows BadName) (end - (at + 1)) u (at + 1) (drop (at + 1) s)) (λ bs. get_or s at 0 ∷ bs)))

-- Letters, and whether they are a word.
module _ (P : Spelling) (s : Bytes) (u at n : ℕ) (one : 1 ≤ n) where
  abbrev spelling : Read
  spelling = view (spelled P n u at (drop at s))

  pub spelled-off : {i : Reason} {p : ℕ} → view (letters n u at (drop at s)) ≡ fault i p → spelling ≡ fault i p
  unfolding spelled
  spelled-off e = rw (view-bad (letters n u at (drop at s)) e)

  -- what was read is what stands there
  module _ {p v : ℕ} (e : view (letters n u at (drop at s)) ≡ past p v) where
    there : (r : Bytes) × (letters n u at (drop at s) ≡ got (take n (drop at s)) v p r)
    there =
        let w = view-got (letters n u at (drop at s)) e in
        let t : Item (λ x. x) still (Letters n) u at (drop at s) w.0 v p w.1 = told _ (letters n u at (drop at s)) (letters-sound n one u at (drop at s)) w.2 in
        let z : take n (drop at s) ≡ w.0 = ap (take n) t.bytes ∙ ap (λ (k : ℕ). take k (w.0 ++ w.1)) (sym t.legal.0) ∙ take-append_seam w.0 w.1 in
        (w.1, rw z w.2)

    pub spelled-on : P.allowed (take n (drop at s)) ≡ true → spelling ≡ past p v
    unfolding spelled
    spelled-on a = rw (there.1, a)

    pub spelled-word : P.allowed (take n (drop at s)) ≡ false → spelling ≡ fault ReservedWord at
    unfolding spelled
    spelled-word a = rw (there.1, a)

module _ (P : Spelling) (s : Bytes) (u at : ℕ) where
  pub name_out : length s ≤ at → view (name P u at (drop at s)) ≡ fault EndsInside at
  unfolding name byte_for byte
  name_out h = rw (rest_out s at h)

  pub name-small : at < length s → get_or s at 0 < 1 → view (name P u at (drop at s)) ≡ fault BadName at
  unfolding name byte_for byte
  name-small h l = rw (rest_in s at h) (simp (lt-leb 1 (get_or s at 0) l))

  pub name-big : at < length s → P.longest < get_or s at 0 → view (name P u at (drop at s)) ≡ fault BadName at
  unfolding name byte_for byte
  name-big h l = rw (rest_in s at h) (simp (le-leb 1 (get_or s at 0) (omega arith), lt-leb (get_or s at 0) P.longest l))

-- The length is allowed.
module _ (P : Spelling) (s : Bytes) (u at : ℕ) (h : at < length s) (l : 1 ≤ get_or s at 0) (m : get_or s at 0 ≤ P.longest) where
  pub name-short : length s - (at + 1) < get_or s at 0 → view (name P u at (drop at s)) ≡ fault EndsInside (length s)
  unfolding name byte_for byte room
  name-short g =
      let z : at + 1 + (length s - (at + 1)) ≡ length s = omega arith in
      rw (rest_in s at h)
      (simp (le-leb 1 (get_or s at 0) l, le-leb (get_or s at 0) P.longest m, length-drop (at + 1) s, lt-leb (get_or s at 0) (length s - (at + 1)) g) (ap (λ p. fault EndsInside p) z))

  pub name-on : get_or s at 0 ≤ length s - (at + 1) → (k : ℕ) → k ≡ get_or s at 0 → view (spelled P k u (at + 1) (drop (at + 1) s)) ≡ view (name P u at (drop at s))
  unfolding name byte_for byte room
  name-on g k z =
      rw (rest_in s at h)
      (simp (le-leb 1 (get_or s at 0) l, le-leb (get_or s at 0) P.longest m, length-drop (at + 1) s, le-leb (get_or s at 0) (length s - (at + 1)) g, z))
