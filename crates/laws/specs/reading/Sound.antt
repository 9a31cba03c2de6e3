-- Soundness: the bytes that a reading passed are the encoding of what it read, and that is legal; by induction on the depth, once for both forms.
-- Assumes nothing.
use Prim.Native.Nat.{ℕ, zero, suc, ◌+◌}
use Rattle.std.specs.Prelude.{◌≡◌}
use Rattle.std.proofs.Math.Path.{refl, sym, ap}
use Rattle.std.proofs.Common.{◌∙◌, arith}
use mathlib.Core.List.{[], ◌∷◌, ◌++◌, append_assoc}
use Rattle.std.proofs.Math.Option.{Option, none, some}
use Rattle.std.proofs.Math.ListN.{length, length-append}
use Rattle.rules.specs.Basic.{Bytes, ◌<?◌}
use Rattle.rules.specs.Name.{Name, encode_name}
use Rattle.rules.specs.Layout.{Layout, Tuple, head_by_tag}
use Rattle.rules.specs.Legal.{LegalName}
use Rattle.rules.specs.Reading.{Reader, times, byte, name, tag, listed, node}
use Rattle.laws.specs.reading.Holds.{Holds, and-then, chosen, none_read}
use Rattle.laws.specs.reading.Written.{Written, bytes_of, sum_of, Each}
use Rattle.laws.specs.reading.Names.{Item, still, name-sound}

-- the count after n things in a row
abbrev pub add_all : {S A : Type 0} → (S → A → S) → (n : ℕ) → S → Tuple A n → S
add_all add zero u xs = u
add_all add (suc n) u xs = add_all add n (add u xs.0) xs.1

module _ {S A : Type 0} (enc : A → Bytes) (add : S → A → S) (Fine : A → Type 0) (m : Reader S A) (sound : (u : S) (at : ℕ) (r : Bytes) → Holds (Item enc add Fine u at r) (m u at r)) where
  pub times-sound : (n : ℕ) (u : S) (at : ℕ) (r : Bytes) → Holds (Item (bytes_of enc n) (add_all add n) (Each Fine n) u at r) (times m n u at r)
  unfolding times
  times-sound zero u at r = record { bytes = refl; next = omega arith; met = refl; legal = tt }
  times-sound (suc n) u at r =
      and-then (Item enc add Fine u at r) _ (m u at r) _ (sound u at r) (λ x v q r' i.
      and-then (Item (bytes_of enc n) (add_all add n) (Each Fine n) v q r') _ (times m n v q r') _ (times-sound n v q r') (λ xs w p r'' j.
      record {
        bytes = i.bytes ∙ ap (λ l. enc x ++ l) j.bytes ∙ sym (append_assoc (enc x) (bytes_of enc n xs) r'');
        next = omega (arith, i.next, j.next, length-append (enc x) (bytes_of enc n xs));
        met = j.met ∙ ap (λ w. add_all add n w xs) i.met;
        legal = (i.legal, j.legal);
      }))

pub still-all : {S : Type 0} (A : Type 0) (n : ℕ) (u : S) (xs : Tuple A n) → add_all still n u xs ≡ u
still-all A zero u xs = refl
still-all A (suc n) u xs = still-all A n u xs.1

pub sum-all : {A : Type 0} (count : A → ℕ) (n u : ℕ) (xs : Tuple A n) → add_all (λ u x. u + count x) n u xs ≡ u + sum_of count n xs
sum-all count zero u xs = omega arith
sum-all count (suc n) u xs = sum-all count n (u + count xs.0) xs.1 ∙ omega arith

module _ {H A : Type 0} (F : Layout H A) (encode : A → Bytes) (nodes : A → ℕ) (Fine : A → Type 0) (W : Written F encode nodes Fine) (most : ℕ) where
  abbrev Tagged : ℕ → ℕ → Bytes → H → ℕ → ℕ → Bytes → Type 0
  Tagged u at r h v p r' = (r ≡ W.tag_of h ∷ r') × (p ≡ at + 1) × (v ≡ u + 1)

  tag-sound : (u at : ℕ) (r : Bytes) → Holds (Tagged u at r) (tag most (head_by_tag F.heads) u at r)
  unfolding tag byte
  tag-sound u at [] = tt
  tag-sound u at (k ∷ r) = chosen _ (u <? most) _ _ (λ e. found (head_by_tag F.heads k) refl) (λ e. tt)
    where
      found : (o : Option H) → head_by_tag F.heads k ≡ o → Holds (Tagged u at (k ∷ r)) (listed u at (at + 1) r o)
      found none e = tt
      found (some h) e = (ap (λ j. j ∷ r) (W.tag-of k h e), refl, refl)

  pub node-sound : (depth u at : ℕ) (r : Bytes) → Holds (Item encode (λ u x. u + nodes x) Fine u at r) (node F most depth u at r)
  unfolding node
  node-sound zero u at r = none_read _ u at r
  node-sound (suc depth) u at r =
      and-then (Tagged u at r) _ (tag most (head_by_tag F.heads) u at r) _ (tag-sound u at r) (λ h v q r' i.
      and-then (Item (bytes_of encode_name (F.names h)) (add_all still (F.names h)) (Each (LegalName F.spelling) (F.names h)) v q r') _ (times (name F.spelling) (F.names h) v q r') _
      (times-sound encode_name still (LegalName F.spelling) (name F.spelling) (name-sound F.spelling) (F.names h) v q r') (λ xs w q' r'' j.
      and-then (Item (bytes_of encode (F.parts h)) (add_all (λ u x. u + nodes x) (F.parts h)) (Each Fine (F.parts h)) w q' r'') _ (times (node F most depth) (F.parts h) w q' r'') _
      (times-sound encode (λ u x. u + nodes x) Fine (node F most depth) (node-sound depth) (F.parts h) w q' r'') (λ ts w' p r''' l.
      let ns = bytes_of encode_name (F.names h) xs in
      let ps = bytes_of encode (F.parts h) ts in
      record {
        bytes = i.0 ∙ ap (λ l. W.tag_of h ∷ l) (j.bytes ∙ ap (λ l. ns ++ l) l.bytes ∙ sym (append_assoc ns ps r''')) ∙ ap (λ l. l ++ r''') (sym (W.bytes h xs ts));
        next = omega (arith, i.1, j.next, l.next, ap length (W.bytes h xs ts), length-append ns ps);
        met = omega (arith, i.2, j.met, still-all Name (F.names h) v xs, l.met, sum-all nodes (F.parts h) w ts, W.count h xs ts);
        legal = W.legal h xs ts j.legal l.legal;
      })))
