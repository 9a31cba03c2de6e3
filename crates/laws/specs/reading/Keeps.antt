-- What every byte that is passed keeps, every reading keeps: by one walk through the ways in which readings are put together.
-- Assumes nothing.
use Rattle.rules.specs.declared.Reason.{Reason}
use Rattle.rules.specs.declared.Reason.TheVariants.{BadName, ReservedWord}
use Prim.Native.Nat.{ℕ, zero, suc, ◌+◌, ◌-◌, ◌<◌}
use Rattle.std.specs.Prelude.{Bool}
use mathlib.Core.List.{[], ◌∷◌}
use Rattle.std.proofs.Math.Option.{Option, none, some}
use Rattle.std.proofs.Math.ListN.{length}
use Rattle.std.proofs.Common.{ltb-true}
use Rattle.rules.specs.Basic.{Bytes, ◌<?◌, ◌≤?◌, between}
use Rattle.rules.specs.Name.{leads, follows, Spelling}
use Rattle.rules.specs.Layout.{Layout, head_by_tag}
use Rattle.rules.specs.Reading.{Reader, and_then, only, times, many, byte, byte_for, room, letters, spelled, name, tag, listed, node}
use Rattle.laws.specs.reading.Holds.{Holds, and-then, chosen, weaker, none_read}

-- A relation of where a reader stands (what was met, the position, the rest) and where it stood before, that a byte which is passed keeps.
pub record Kept {S : Type 0} (R : S → ℕ → Bytes → S → ℕ → Bytes → Type 0) : Type 0 where
  pub still : (u : S) (at : ℕ) (r : Bytes) → R u at r u at r
  pub on : {u v w : S} {at p q : ℕ} {r r' r'' : Bytes} → R u at r v p r' → R v p r' w q r'' → R u at r w q r''
  pub passed : (u : S) (at b : ℕ) (r : Bytes) → R u at (b ∷ r) u (at + 1) r

abbrev pub Keeps : {S A : Type 0} → (S → ℕ → Bytes → S → ℕ → Bytes → Type 0) → Reader S A → Type 0
Keeps {S} {A} R m = (u : S) (at : ℕ) (r : Bytes) → Holds (λ x v p r'. R u at r v p r') (m u at r)

module _ {S : Type 0} (R : S → ℕ → Bytes → S → ℕ → Bytes → Type 0) (k : Kept R) where
  pub keeps-byte : Keeps R byte
  unfolding byte
  keeps-byte u at [] = tt
  keeps-byte u at (b ∷ r) = k.passed u at b r

  keeps-only : {A : Type 0} (ok : A → Bool) (n : Reason) (m : Reader S A) → Keeps R m → Keeps R (only ok n m)
  keeps-only ok n m h u at r = and-then (λ x v p r'. R u at r v p r') _ (m u at r) _ (h u at r) (λ x v p r' i. chosen _ (ok x) _ _ (λ e. i) (λ e. tt))

  pub keeps-byte_for : (ok : ℕ → Bool) (n : Reason) → Keeps R (byte_for ok n)
  unfolding byte_for
  keeps-byte_for ok n = keeps-only ok n byte keeps-byte

  pub keeps-room : (n : ℕ) → Keeps R (room n)
  unfolding room
  keeps-room n u at r = chosen _ (n ≤? length r) _ _ (λ e. k.still u at r) (λ e. tt)

  -- one reading after another
  pub keeps_then : {A B : Type 0} (m : Reader S A) (f : A → Reader S B) → Keeps R m → ((x : A) → Keeps R (f x)) → Keeps R (λ u at r. and_then (m u at r) f)
  keeps_then m f h g u at r = and-then (λ x v p r'. R u at r v p r') _ (m u at r) _ (h u at r) (λ x v p r' i.
      weaker _ _ (f x v p r') (λ y w q r'' j. k.on i j) (g x v p r'))

  pub keeps-times : {A : Type 0} (m : Reader S A) → Keeps R m → (n : ℕ) → Keeps R (times m n)
  unfolding times
  keeps-times m h zero = k.still
  keeps-times m h (suc n) = keeps_then m _ h (λ x. keeps_then (times m n) _ (keeps-times m h n) (λ xs. k.still))

  pub keeps-many : {A : Type 0} (m : Reader S A) → Keeps R m → (n : ℕ) → Keeps R (many m n)
  unfolding many
  keeps-many m h zero = k.still
  keeps-many m h (suc n) = keeps_then m _ h (λ x. keeps_then (many m n) _ (keeps-many m h n) (λ xs. k.still))

  pub keeps-letters : (n : ℕ) → Keeps R (letters n)
  unfolding letters
  keeps-letters n =
      keeps_then (byte_for leads BadName) _ (keeps-byte_for leads BadName) (λ b.
      keeps_then (many (byte_for follows BadName) (n - 1)) _ (keeps-many (byte_for follows BadName) (keeps-byte_for follows BadName) (n - 1)) (λ bs. k.still))

  pub keeps-spelled : (P : Spelling) (n : ℕ) → Keeps R (spelled P n)
  unfolding spelled
  keeps-spelled P n = keeps-only P.allowed ReservedWord (letters n) (keeps-letters n)

  pub keeps-name : (P : Spelling) → Keeps R (name P)
  unfolding name
  keeps-name P =
      keeps_then (byte_for (between 1 P.longest) BadName) _ (keeps-byte_for (between 1 P.longest) BadName) (λ n.
      keeps_then (room n) _ (keeps-room n) (λ _. keeps-spelled P n))

-- Where nodes are counted, a tag that is passed counts one, if that is not one too many.
module _ (R : ℕ → ℕ → Bytes → ℕ → ℕ → Bytes → Type 0) (k : Kept R) (most : ℕ) (counted : (u at b : ℕ) (r : Bytes) → u < most → R u at (b ∷ r) (u + 1) (at + 1) r) where
  pub keeps-tag : {H : Type 0} (heads : ℕ → Option H) → Keeps R (tag most heads)
  unfolding tag byte
  keeps-tag heads u at [] = tt
  keeps-tag heads u at (b ∷ r) = chosen _ (u <? most) _ _ (λ e. found (ltb-true _ _ e) (heads b)) (λ e. tt)
    where
      found : {H : Type 0} → u < most → (o : Option H) → Holds (λ h v p r'. R u at (b ∷ r) v p r') (listed u at (at + 1) r o)
      found l none = tt
      found l (some h) = counted u at b r l

  pub keeps-node : {H A : Type 0} (F : Layout H A) (depth : ℕ) → Keeps R (node F most depth)
  unfolding node
  keeps-node F zero = λ u at r. none_read _ u at r
  keeps-node F (suc depth) =
      keeps_then R k (tag most (head_by_tag F.heads)) _ (keeps-tag (head_by_tag F.heads)) (λ h.
      keeps_then R k (times (name F.spelling) (F.names h)) _ (keeps-times R k (name F.spelling) (keeps-name R k F.spelling) (F.names h)) (λ xs.
      keeps_then R k (times (node F most depth) (F.parts h)) _ (keeps-times R k (node F most depth) (keeps-node F depth) (F.parts h)) (λ ts.
      k.still)))
