-- Names are read as they are written, and only so: a rule for each step of a reading.
-- Assumes nothing.
use Rattle.rules.specs.declared.Reason.{Reason}
use Rattle.rules.specs.declared.Reason.TheVariants.{BadName}
use Prim.Native.Nat.{ℕ, zero, suc, ◌+◌, ◌-◌, ◌≤◌}
use Rattle.std.specs.Prelude.{◌≡◌, Bool, true}
use Rattle.std.proofs.Math.Path.{refl, ap}
use Rattle.std.proofs.Common.{◌∙◌}
use mathlib.Core.List.{[], ◌∷◌, ◌++◌}
use native.Mathlib.Omega.{arith}
use Rattle.std.proofs.Math.ListN.{length, length-append}
use borrow.Author.Tests.{leb-true, le-leb}
use Rattle.rules.specs.Basic.{Bytes, ◌‥◌, ◌≤?◌, between}
use Rattle.rules.specs.Name.{Name, leads, follows, encode_name, Spelling}
use Rattle.rules.specs.Legal.{All, Lettered, LegalName}
use Rattle.rules.specs.Reading.{got, many, byte, byte_for, room, letters, spelled, name}
use Rattle.laws.specs.free.Same.{both_true}
use Rattle.laws.specs.reading.Holds.{Holds, and-then, chosen, weaker}

-- What was read of an item: its bytes, the position behind them, the count with it, and that it is legal.
pub record Item {S A : Type 0} (enc : A → Bytes) (add : S → A → S) (Fine : A → Type 0) (u : S) (at : ℕ) (r : Bytes) (x : A) (v : S) (p : ℕ) (r' : Bytes) : Type 0 where
  pub bytes : r ≡ enc x ‥ r'
  pub next : p ≡ at + length (enc x)
  pub met : v ≡ add u x
  pub legal : Fine x

-- where nothing is counted
abbrev pub still : {S A : Type 0} → S → A → S
still u x = u

-- n bytes that are allowed; the letters of a name that is n bytes long; and that it is allowed
abbrev Run : (ℕ → Bool) → ℕ → Bytes → Type 0
Run ok n bs = (length bs ≡ n) × All ok bs

abbrev pub Letters : ℕ → Name → Type 0
Letters n x = (length x ≡ n) × Lettered x

abbrev pub Spelled : Spelling → ℕ → Name → Type 0
Spelled P n x = Letters n x × (P.allowed x ≡ true)

pub name-some : (x : Name) → Lettered x → 1 ≤ length x
name-some [] l = absurd l
name-some (b ∷ bs) l = omega arith

module _ {S : Type 0} where
  pub byte-sound : (u : S) (at : ℕ) (r : Bytes) → Holds (λ b v p r'. (r ≡ b ∷ r') × (p ≡ at + 1) × (v ≡ u)) (byte u at r)
  unfolding byte
  byte-sound u at [] = tt
  byte-sound u at (b ∷ r) = (refl, refl, refl)

  abbrev pub Single : (ℕ → Bool) → S → ℕ → Bytes → ℕ → S → ℕ → Bytes → Type 0
  Single ok u at r b v p r' = (r ≡ b ∷ r') × (p ≡ at + 1) × (v ≡ u) × (ok b ≡ true)

  pub single-sound : (ok : ℕ → Bool) (n : Reason) (u : S) (at : ℕ) (r : Bytes) → Holds (Single ok u at r) (byte_for ok n u at r)
  unfolding byte_for
  single-sound ok n u at r =
      and-then (λ b v p r'. (r ≡ b ∷ r') × (p ≡ at + 1) × (v ≡ u)) _ (byte u at r) _ (byte-sound u at r) (λ b v p r' h.
      chosen _ (ok b) _ _ (λ e. (h.0, h.1, h.2, e)) (λ e. tt))

  run_sound : (ok : ℕ → Bool) (k : Reason) (n : ℕ) (u : S) (at : ℕ) (r : Bytes) → Holds (Item (λ bs. bs) still (Run ok n) u at r) (many (byte_for ok k) n u at r)
  unfolding many
  run_sound ok k zero u at r = record { bytes = refl; next = omega arith; met = refl; legal = (refl, tt) }
  run_sound ok k (suc n) u at r =
      and-then (Single ok u at r) _ (byte_for ok k u at r) _ (single-sound ok k u at r) (λ b v q r' h.
      and-then (Item (λ bs. bs) still (Run ok n) v q r') _ (many (byte_for ok k) n v q r') _ (run_sound ok k n v q r') (λ bs w p r'' i.
      record { bytes = h.0 ∙ ap (λ l. b ∷ l) i.bytes; next = omega (arith, h.1, i.next); met = i.met ∙ h.2; legal = (ap suc i.legal.0, (h.3, i.legal.1)) }))

  pub letters-sound : (n : ℕ) → 1 ≤ n → (u : S) (at : ℕ) (r : Bytes) → Holds (Item (λ x. x) still (Letters n) u at r) (letters n u at r)
  unfolding letters
  letters-sound n one u at r =
      and-then (Single leads u at r) _ (byte_for leads BadName u at r) _ (single-sound leads BadName u at r) (λ b v q r' h.
      and-then (Item (λ bs. bs) still (Run follows (n - 1)) v q r') _ (many (byte_for follows BadName) (n - 1) v q r') _ (run_sound follows BadName (n - 1) v q r') (λ bs w p r'' i.
      record {
        bytes = h.0 ∙ ap (λ l. b ∷ l) i.bytes;
        next = omega (arith, h.1, i.next);
        met = i.met ∙ h.2;
        legal = (omega (arith, i.legal.0), (h.3, i.legal.1));
      }))

  pub spelled-sound : (P : Spelling) (n : ℕ) → 1 ≤ n → (u : S) (at : ℕ) (r : Bytes) → Holds (Item (λ x. x) still (Spelled P n) u at r) (spelled P n u at r)
  unfolding spelled
  spelled-sound P n one u at r =
      and-then (Item (λ x. x) still (Letters n) u at r) _ (letters n u at r) _ (letters-sound n one u at r) (λ x v p r' i.
      chosen _ (P.allowed x) _ _ (λ e. record { bytes = i.bytes; next = i.next; met = i.met; legal = (i.legal, e) }) (λ e. tt))

  room-sound : (n : ℕ) (u : S) (at : ℕ) (r : Bytes) → Holds (λ _ v p r'. (r ≡ r') × (p ≡ at) × (v ≡ u)) (room n u at r)
  unfolding room
  room-sound n u at r = chosen _ (n ≤? length r) _ _ (λ e. (refl, refl, refl)) (λ e. tt)

  pub name-sound : (P : Spelling) (u : S) (at : ℕ) (r : Bytes) → Holds (Item encode_name still (LegalName P) u at r) (name P u at r)
  unfolding name
  name-sound P u at r =
      let ok = between 1 P.longest in
      and-then (Single ok u at r) _ (byte_for ok BadName u at r) _ (single-sound ok BadName u at r) (λ n v q r' h.
      and-then (λ _ w p r''. (r' ≡ r'') × (p ≡ q) × (w ≡ v)) _ (room n v q r') _ (room-sound n v q r') (λ _ w p r'' e.
      let t = both_true (1 ≤? n) (n ≤? P.longest) h.3 in
      weaker _ _ (spelled P n w p r'') (λ x w' p' r''' i.
      record {
        bytes = h.0 ∙ cc (e.0, i.bytes, i.legal.0.0);
        next = omega (arith, h.1, e.1, i.next);
        met = i.met ∙ e.2 ∙ h.2;
        legal = record { lettered = i.legal.0.1; short = omega (arith, i.legal.0.0, leb-true n P.longest t.1); allowed = i.legal.1 };
      }) (spelled-sound P n (leb-true _ _ t.0) w p r'')))

pub same-got : {S A : Type 0} (x : A) (u v : S) (p q : ℕ) (r : Bytes) → u ≡ v → p ≡ q → got x u p r ≡ got x v q r
same-got x u v p q r e d = cc

-- The reverse: what is written is read.
module _ {S : Type 0} where
  run-found : (ok : ℕ → Bool) (k : Reason) (bs : Bytes) → All ok bs → (u : S) (at : ℕ) (r : Bytes) → many (byte_for ok k) (length bs) u at (bs ‥ r) ≡ got bs u (at + length bs) r
  unfolding many byte_for byte
  run-found ok k [] a u at r = same-got [] u u at (at + 0) r refl (omega arith)
  run-found ok k (b ∷ bs) a u at r = rw (a.0, run-found ok k bs a.1 u (at + 1) r) (same-got (b ∷ bs) u u (at + 1 + length bs) (at + suc (length bs)) r refl (omega arith))

  pub letters-found : (x : Name) → Lettered x → (u : S) (at : ℕ) (r : Bytes) → letters (length x) u at (x ‥ r) ≡ got x u (at + length x) r
  unfolding letters byte_for byte
  letters-found [] l u at r = absurd l
  letters-found (b ∷ bs) l u at r =
      let z : suc (length bs) - 1 ≡ length bs = omega arith in
      rw (l.0, z, run-found follows BadName bs l.1 u (at + 1) r) (same-got (b ∷ bs) u u (at + 1 + length bs) (at + suc (length bs)) r refl (omega arith))

  pub spelled-found : (P : Spelling) (x : Name) → LegalName P x → (u : S) (at : ℕ) (r : Bytes) → spelled P (length x) u at (x ‥ r) ≡ got x u (at + length x) r
  unfolding spelled
  spelled-found P x l u at r = rw (letters-found x l.lettered u at r, l.allowed)

  pub name-found : (P : Spelling) (x : Name) → LegalName P x → (u : S) (at : ℕ) (r : Bytes) → name P u at (encode_name x ‥ r) ≡ got x u (at + length (encode_name x)) r
  unfolding name byte_for byte room
  name-found P x l u at r =
      rw (
        le-leb 1 (length x) (name-some x l.lettered),
        le-leb (length x) P.longest l.short,
        le-leb (length x) (length (x ++ r)) (omega (arith, length-append x r)),
        spelled-found P x l u (at + 1) r,
      )
      (same-got x u u (at + 1 + length x) (at + suc (length x)) r refl (omega arith))
