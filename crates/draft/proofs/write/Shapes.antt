-- The bytes, the size and the nodes of what a row makes, by its shape. Assumes nothing.
use Prim.Native.Nat.{ℕ, zero, suc, ◌+◌}
use mathlib.Core.Path.{◌≡◌, refl, sym, ap, ◌∙◌}
use mathlib.Core.List.{◌∷◌, ◌++◌, append-nil, append_assoc}
use native.Mathlib.Numerals.{add-one}
use native.Mathlib.Omega.{arith}
use lib.ListN.{length, length-append}
use Rattle.rules.specs.Basic.{Bytes}
use Rattle.rules.specs.Name.{encode_name}
use Rattle.rules.specs.Term.{Term, encode, nodes, size}
use Rattle.draft.specs.declared.row.Row.{Row}
use Rattle.draft.specs.Draft.{x_name, shaped, Shape, named, identity, discarding, letting, branching, copying, wrapping, joining}
use Rattle.draft.specs.Heads.{variable, two_names, head, parts_of, written, node_count_of, summed}

-- two names, and what follows them
two-names : (t n : ℕ) (l : Bytes) → t ∷ (encode_name (x_name n) ++ (encode_name (x_name (suc n)) ++ l)) ≡ (t ∷ two_names n) ++ l
two-names t n l =
    ap (λ (k : ℕ). t ∷ (encode_name (x_name n) ++ (encode_name (x_name k) ++ l))) (sym (add-one n))
    ∙ ap (λ (z : Bytes). t ∷ z) (sym (append_assoc (encode_name (x_name n)) (encode_name (x_name (n + 1))) l))

then-variable : (t n : ℕ) (l : Bytes) → (t ∷ two_names n) ++ (variable (suc (suc n)) ++ l) ≡ (t ∷ (two_names n ++ variable (n + 2))) ++ l
then-variable t n l =
    let e : suc (suc n) ≡ n + 2 = omega arith in
    ap (λ (k : ℕ). (t ∷ two_names n) ++ (variable k ++ l)) e ∙ ap (λ (z : Bytes). t ∷ z) (sym (append_assoc (two_names n) (variable (n + 2)) l))

module _ (s : Bytes) (r : Row) (part : ℕ → Term) where
  pub shaped-bytes : (k : Shape) → encode (shaped s r part k) ≡ head s r.number r.stem k ++ written (parts_of k) (encode (part r.first)) (encode (part r.second))
  unfolding encode
  shaped-bytes named = rw append-nil
  shaped-bytes identity = rw append-nil
  shaped-bytes discarding = refl
  shaped-bytes letting = two-names 4 r.number (encode (part r.first) ++ encode (part r.second))
  shaped-bytes branching = two-names 9 r.number (encode (part r.first) ++ (encode (part r.second) ++ encode (part r.second)))
  shaped-bytes copying =
      two-names 17 r.number (variable (suc (suc r.number)) ++ encode (part r.first)) ∙ then-variable 17 r.number (encode (part r.first))
  shaped-bytes (wrapping k) = refl
  shaped-bytes (joining k) = refl

  pub shaped-nodes : (k : Shape) → nodes (shaped s r part k) ≡ summed (parts_of k) (node_count_of k) (nodes (part r.first)) (nodes (part r.second))
  unfolding nodes
  shaped-nodes named = refl
  shaped-nodes identity = refl
  shaped-nodes discarding = omega arith
  shaped-nodes letting = omega arith
  shaped-nodes branching = omega arith
  shaped-nodes copying = omega arith
  shaped-nodes (wrapping k) = omega arith
  shaped-nodes (joining k) = omega arith

summed-length : (n : ℕ) (h a b : Bytes) → length (h ++ written n a b) ≡ summed n (length h) (length a) (length b)
summed-length zero h a b = rw append-nil
summed-length (suc zero) h a b = length-append h a
summed-length (suc (suc zero)) h a b = simp length-append (omega arith)
summed-length (suc (suc (suc n))) h a b = simp length-append (omega arith)

pub shaped-size : (s : Bytes) (r : Row) (part : ℕ → Term) (k : Shape)
    → size (shaped s r part k) ≡ summed (parts_of k) (length (head s r.number r.stem k)) (size (part r.first)) (size (part r.second))
shaped-size s r part k =
    ap length (shaped-bytes s r part k)
    ∙ summed-length (parts_of k) (head s r.number r.stem k) (encode (part r.first)) (encode (part r.second))
