-- Two names of a list of bytes: they differ where their lengths or their last bytes do, since the same name has the same bytes at each place.
-- Assumes nothing.
use Prim.Native.Nat.{ℕ, ◌+◌, ◌≤◌}
use mathlib.Core.Path.{◌≡◌, refl, sym, ap, ◌∙◌}
use mathlib.Core.Bool.{Bool, true, false}
use native.Mathlib.Omega.{arith}
use lib.ListN.{length, get_or, get_or-append}
use lib.Seq.{get_or-drop}
use Rattle.rules.specs.Basic.{Bytes}
use Rattle.rules.specs.Name.{Name, same, encode_name}
use Rattle.term.specs.Place.{NameAt}
use Rattle.term.proofs.node.Names.{name-length}
use Rattle.laws.specs.free.Same.{same-equal}

-- a byte of a name, or its length byte
byte_of : (s : Bytes) (i : ℕ) (x : Name) → NameAt s i x → (j : ℕ) → j ≤ length x → get_or s (i + j) 0 ≡ get_or (encode_name x) j 0
byte_of s i x w j h =
    sym (get_or-drop i s j 0) ∙ ap (λ (z : Bytes). get_or z j 0) w.bytes ∙ get_or-append (encode_name x) w.rest 0 j (omega arith)

module _ (s : Bytes) (p q : ℕ) where
  -- what holds of two names that are the same does not hold: they differ
  differ : (x y : Name) → (x ≡ y → ⊥) → false ≡ same x y
  differ x y f = go (same x y) refl
    where
      go : (b : Bool) → same x y ≡ b → false ≡ same x y
      go true e = absurd (f (same-equal x y e))
      go false e = sym e

  pub other_length : (get_or s q 0 ≡ get_or s p 0 → ⊥) → (x y : Name) → NameAt s p x → NameAt s q y → false ≡ same x y
  other_length f x y w v = differ x y (λ e. f (name-length s q y v ∙ ap length (sym e) ∙ sym (name-length s p x w)))

  pub other_last : (get_or s (p + get_or s p 0) 0 ≡ get_or s (q + get_or s p 0) 0 → ⊥) → (x y : Name) → NameAt s p x → NameAt s q y → false ≡ same x y
  other_last f x y w v = differ x y (λ e. f (same_byte e))
    where
      same_byte : x ≡ y → get_or s (p + get_or s p 0) 0 ≡ get_or s (q + get_or s p 0) 0
      same_byte e =
          let n : get_or s p 0 ≡ length x = name-length s p x w in
          let m : length x ≡ length y = ap length e in
          byte_of s p x w (get_or s p 0) (omega arith) ∙ ap (λ (z : Name). get_or (encode_name z) (get_or s p 0) 0) e ∙ sym (byte_of s q y v (get_or s p 0) (omega arith))
