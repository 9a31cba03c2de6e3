-- What a reading of s leaves is s from the next position on; names leave the count as it was, and nodes never lower it.
-- Each is a relation that a passed byte keeps, so all readings keep it (Keeps.antt).
-- Assumes nothing.
use Rattle.std.specs.Prelude.{ℕ, ◌+◌, ◌≤◌, ◌<◌, ◌≡◌, refl, Bool, ◌∷◌, length, drop}
use Rattle.std.proofs.Common.{ap, ◌∙◌, le_refl, le_trans, arith, length-drop, drop-drop}
use Rattle.std.proofs.Math.Option.{Option}
use Rattle.rules.specs.declared.Reason.{Reason}
use Rattle.rules.specs.Basic.{Bytes}
use Rattle.rules.specs.Layout.{Layout, Tuple}
use Rattle.rules.specs.Name.{Name, Spelling}
use Rattle.rules.specs.Reading.{Got, got, bad, Reader, times, many, byte, byte_for, room, letters, spelled, name, tag, too_many, node}
use Rattle.laws.specs.reading.Holds.{Holds, told, none_read}
use Rattle.laws.specs.reading.Keeps.{Kept, Keeps, keeps-byte, keeps-byte_for, keeps-room, keeps-times, keeps-many, keeps-letters, keeps-spelled, keeps-name, keeps-tag, keeps-node}

-- a place of s, and what is left of s there
pub record Stands (s : Bytes) (p : ℕ) (r : Bytes) : Type 0 where
  pub rest : r ≡ drop p s
  pub within : p ≤ length s

abbrev pub Ends : {S A : Type 0} → Bytes → Got S A → Type 0
Ends s g = Holds (λ x v p r. Stands s p r) g

abbrev pub Steady : {S A : Type 0} → Reader S A → Type 0
Steady {S = S} {A} m = (s : Bytes) (u : S) (at : ℕ) → at ≤ length s → Ends s (m u at (drop at s))

pub stands : (s : Bytes) (at : ℕ) → at ≤ length s → Stands s at (drop at s)
stands s at h = record { rest = refl; within = h }

pub stands-next : (s : Bytes) (at b : ℕ) (r : Bytes) → Stands s at (b ∷ r) → Stands s (at + 1) r
stands-next s at b r h = record { rest = ap (drop 1) h.rest ∙ drop-drop 1 at s; within = omega (arith, ap length h.rest ∙ length-drop at s) }

-- who stood at a place of s stands at one
abbrev pub Along : {S : Type 0} → Bytes → S → ℕ → Bytes → S → ℕ → Bytes → Type 0
Along s u at r v p r' = Stands s at r → Stands s p r'

pub along : {S : Type 0} (s : Bytes) → Kept {S = S} (Along s)
along s = record { still = λ u at r h. h; on = λ f g h. g (f h); passed = λ u at b r h. stands-next s at b r h }

module _ {S A : Type 0} (m : Reader S A) where
  pub to-steady : ((s : Bytes) → Keeps (Along s) m) → Steady m
  to-steady k s u at h = go (m u at (drop at s)) (k s u at (drop at s))
    where
      go : (g : Got S A) → Holds (λ x v p r. Stands s at (drop at s) → Stands s p r) g → Ends s g
      go (got x v p r) f = f (stands s at h)
      go (bad n p) f = tt

  pub of-steady : Steady m → (s : Bytes) → Keeps (Along s) m
  of-steady k s u at r = go (m u at r) (λ h. rw h.rest (k s u at h.within))
    where
      go : (g : Got S A) → (Stands s at r → Ends s g) → Holds (λ x v p r'. Stands s at r → Stands s p r') g
      go (got x v p r) f = f
      go (bad n p) f = tt

  -- of a reading whose result is known
  pub steady-got : Steady m → (s : Bytes) (u : S) (at : ℕ) → at ≤ length s
      → {x : A} {v : S} {p : ℕ} {r : Bytes} → m u at (drop at s) ≡ got x v p r → Stands s p r
  steady-got k s u at h e = told _ (m u at (drop at s)) (k s u at h) e

module _ {S A : Type 0} (m : Reader S A) (k : Steady m) where
  pub steady-times : (n : ℕ) → Steady (times m n)
  steady-times n = to-steady (times m n) (λ s. keeps-times (Along s) (along s) m (of-steady m k s) n)

  pub steady-many : (n : ℕ) → Steady (many m n)
  steady-many n = to-steady (many m n) (λ s. keeps-many (Along s) (along s) m (of-steady m k s) n)

module _ {S : Type 0} where
  pub steady-byte : Steady {S = S} byte
  steady-byte = to-steady byte (λ s. keeps-byte (Along s) (along s))

  pub steady-byte_for : (ok : ℕ → Bool) (n : Reason) → Steady {S = S} (byte_for ok n)
  steady-byte_for ok n = to-steady (byte_for ok n) (λ s. keeps-byte_for (Along s) (along s) ok n)

  pub steady-room : (n : ℕ) → Steady {S = S} (room n)
  steady-room n = to-steady (room n) (λ s. keeps-room (Along s) (along s) n)

  pub steady-letters : (n : ℕ) → Steady {S = S} (letters n)
  steady-letters n = to-steady (letters n) (λ s. keeps-letters (Along s) (along s) n)

  pub steady-spelled : (P : Spelling) (n : ℕ) → Steady {S = S} (spelled P n)
  steady-spelled P n = to-steady (spelled P n) (λ s. keeps-spelled (Along s) (along s) P n)

  pub steady-name : (P : Spelling) → Steady {S = S} (name P)
  steady-name P = to-steady (name P) (λ s. keeps-name (Along s) (along s) P)

pub steady-tag : {H : Type 0} (most : ℕ) (heads : ℕ → Option H) → Steady (tag most heads)
steady-tag most heads = to-steady (tag most heads) (λ s. keeps-tag (Along s) (along s) most (λ u at b r l h. stands-next s at b r h) heads)

pub steady-too_many : (A : Type 0) → Steady {A = A} too_many
steady-too_many A s u at h = none_read _ u at (drop at s)

pub steady-node : {H A : Type 0} (F : Layout H A) (most depth : ℕ) → Steady (node F most depth)
steady-node F most depth = to-steady (node F most depth) (λ s. keeps-node (Along s) (along s) most (λ u at b r l h. stands-next s at b r h) F depth)

-- The count of what was met.
abbrev pub Level : {S : Type 0} → S → ℕ → Bytes → S → ℕ → Bytes → Type 0
Level u at r v p r' = v ≡ u

abbrev pub Upward : ℕ → ℕ → Bytes → ℕ → ℕ → Bytes → Type 0
Upward u at r v p r' = u ≤ v

level : {S : Type 0} → Kept {S = S} Level
level = record { still = λ u at r. refl; on = λ e d. d ∙ e; passed = λ u at b r. refl }

upward : Kept Upward
upward = record { still = λ u at r. le_refl u; on = λ e d. le_trans e d; passed = λ u at b r. le_refl u }

-- and it does not pass the most that there may be
abbrev pub Below : ℕ → ℕ → ℕ → Bytes → ℕ → ℕ → Bytes → Type 0
Below most u at r v p r' = u ≤ most → v ≤ most

below : (most : ℕ) → Kept (Below most)
below most = record { still = λ u at r h. h; on = λ f g h. g (f h); passed = λ u at b r h. h }

up : {most : ℕ} (u at b : ℕ) (r : Bytes) → u < most → Upward u at (b ∷ r) (u + 1) (at + 1) r
up u at b r l = omega arith

module _ {S : Type 0} (u : S) (at : ℕ) (r : Bytes) {v : S} {p : ℕ} {r' : Bytes} where
  pub name-level : (P : Spelling) {x : Name} → name P u at r ≡ got x v p r' → v ≡ u
  name-level P e = told _ (name P u at r) (keeps-name Level level P u at r) e

  pub names-level : (P : Spelling) (n : ℕ) {xs : Tuple Name n} → times (name P) n u at r ≡ got xs v p r' → v ≡ u
  names-level P n e = told _ (times (name P) n u at r) (keeps-times Level level (name P) (keeps-name Level level P) n u at r) e

module _ {H A : Type 0} (F : Layout H A) (most depth u at : ℕ) (r : Bytes) {v p : ℕ} {r' : Bytes} where
  pub node-upward : {x : A} → node F most depth u at r ≡ got x v p r' → u ≤ v
  node-upward e = told _ (node F most depth u at r) (keeps-node Upward upward most up F depth u at r) e

  pub nodes-upward : (n : ℕ) {xs : Tuple A n} → times (node F most depth) n u at r ≡ got xs v p r' → u ≤ v
  nodes-upward n e = told _ (times (node F most depth) n u at r) (keeps-times Upward upward (node F most depth) (keeps-node Upward upward most up F depth) n u at r) e

  pub node-below : {x : A} → node F most depth u at r ≡ got x v p r' → u ≤ most → v ≤ most
  node-below e = told _ (node F most depth u at r) (keeps-node (Below most) (below most) most (λ u at b r l h. omega arith) F depth u at r) e
