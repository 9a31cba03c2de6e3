-- A stem is a run of bytes in lower case, and a name is its stem and its number. Assumes nothing.
use Prim.Native.Nat.{ℕ, zero, suc, ◌+◌}
use mathlib.Core.Path.{◌≡◌, refl, sym, ap, ◌∙◌}
use native.Mathlib.Omega.{arith}
use lib.ListN.{length, get_or, take, drop, length-map, length-append, take-append-drop}
use Rattle.buffer.specs.Writing.{slice_is}
use lib.Seq.{slice}
use Rattle.rules.specs.Basic.{Bytes}
use Rattle.rules.specs.Name.{lower, lower_of}
use Rattle.draft.specs.Draft.{stem_at, numbered, name_of}

pub stem-slice : (s : Bytes) (p : ℕ) → (p ≡ 0 → ⊥) → lower (slice (p + 1) (p + 1 + length (stem_at s p)) s) ≡ stem_at s p
stem-slice s zero h = absurd (h refl)
stem-slice s (suc p) h =
    let r = drop (suc (suc p)) s in
    let l = take (get_or s (suc p) 0) r in
    let f : suc p + 1 ≡ suc (suc p) = omega arith in
    ap (λ (k : ℕ). lower (slice (suc p + 1) (suc p + 1 + k) s)) (length-map l lower_of) ∙ ap (λ (k : ℕ). lower (slice k (k + length l) s)) f
    ∙ ap lower (slice_is (suc (suc p)) s l (drop (get_or s (suc p) 0) r) (sym (take-append-drop (get_or s (suc p) 0) r)))

pub name-length : (s : Bytes) (p n : ℕ) → length (name_of s p n) ≡ length (stem_at s p) + length (numbered n)
name-length s p n = length-append (stem_at s p) (numbered n)
