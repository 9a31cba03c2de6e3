-- Laws of blocks as they are written: how much of one is used, and what writes one after the other leave. Assumes nothing.
use Prim.Native.Nat.{ℕ, zero, suc, ◌+◌, ◌-◌, ◌*◌, ◌/◌, ◌%◌, ◌≤◌, ◌<◌}
use Rattle.std.specs.Prelude.{◌≡◌, refl, Bool, true, false, [], ◌∷◌, ◌++◌, ltb, length, set, take, drop, replicate, if◌then◌else◌}
use Rattle.std.proofs.Math.Path.{sym, ap}
use Rattle.std.proofs.Common.{◌∙◌, append_assoc, append-nil, add-one, length-append, length-take, length-drop, drop_of_length-le, drop-drop, take_all, take_at, drop_at, take-add, length-take-le, ltb-true, ltb-false}
use native.Mathlib.Omega.{arith}
use Rattle.std.proofs.lemmas.List.{length-replicate, replicate-append-replicate}
use Rattle.std.proofs.Math.Seq.{sets, length-sets, slice}
use Rattle.std.proofs.lemmas.List.Edits.{sets-eq}
use Rattle.rules.specs.Basic.{Bytes, low-high}
use Rattle.rules.specs.Limits.{block_bytes, block_content, block_count_for}
use Rattle.rules.specs.declared.Kind.{Kind}
use Rattle.rules.specs.Stored.{kind_byte, used_bytes_in, padded, all_zero, check, block_body, block, blocks, stored}
use Rattle.buffer.specs.Writing.{sets-app}
use Rattle.stored.specs.Weights.{are-zeros}
use Rattle.stored.specs.Opening.{used_le}
use Rattle.stored.specs.Writing.{PutBody}

-- all of a list is written
pub sets-whole : (l vs : Bytes) → length vs ≡ length l → sets l 0 vs ≡ vs
sets-whole l vs h =
    sets-eq vs l 0 (omega arith)
    ∙ ap (λ (r : Bytes). vs ++ r) (drop_of_length-le l {i = 0 + length vs} (omega arith))
    ∙ append-nil vs

-- the lesser of a number and a block's content
abbrev least : ℕ → ℕ
least x = if ltb x block_content then x else block_content

least-sub : (x : ℕ) (t : Bool) → ltb x block_content ≡ t → block_content - (if t then x else block_content) ≡ block_content - x
least-sub x true e = refl
least-sub x false e = let h = ltb-false x block_content e in omega arith

take-least : (s : Bytes) (t : Bool) → ltb (length s) block_content ≡ t → take (if t then length s else block_content) s ≡ take block_content s
take-least s true e = let h = ltb-true (length s) block_content e in take_all (length s) s (omega arith) ∙ sym (take_all block_content s (omega arith))
take-least s false e = refl

least-in : (x : ℕ) (t : Bool) → ltb x block_content ≡ t → (if t then x else block_content) ≤ x
least-in x true e = omega arith
least-in x false e = let h = ltb-false x block_content e in omega arith

pub used-in : (n i : ℕ) → used_bytes_in n i ≤ n - block_content * i
used-in n i = least-in (n - block_content * i) (ltb (n - block_content * i) block_content) refl

pub slice-part : (from u : ℕ) (s : Bytes) → from ≤ length s → slice from (from + u) s ≡ take u (drop from s)
slice-part from u s h = ap (drop from) (take-add from u s) ∙ drop_at (take from s) (take u (drop from s)) from (length-take-le from s h)

-- a block's part of the content, and zeros
module _ (i : ℕ) (s : Bytes) where
  pub take-used : take (used_bytes_in (length s) i) (drop (block_content * i) s) ≡ take block_content (drop (block_content * i) s)
  take-used = ap (λ (n : ℕ). take (least n) (drop (block_content * i) s)) (sym (length-drop (block_content * i) s)) ∙ take-least (drop (block_content * i) s) (ltb (length (drop (block_content * i) s)) block_content) refl

  pub padded-used : padded block_content (drop (block_content * i) s) ≡ take (used_bytes_in (length s) i) (drop (block_content * i) s) ++ replicate (block_content - used_bytes_in (length s) i) 0
  padded-used =
      ap (λ (r : Bytes). r ++ replicate (block_content - length (drop (block_content * i) s)) 0) (sym take-used)
      ∙ ap (λ (n : ℕ). take (used_bytes_in (length s) i) (drop (block_content * i) s) ++ replicate n 0)
      (ap (λ (n : ℕ). block_content - n) (length-drop (block_content * i) s) ∙ sym (least-sub (length s - block_content * i) (ltb (length s - block_content * i) block_content) refl))

-- a head of 4 bytes, content and zeros, written to a block
module _ (head xs b : Bytes) (four : length head ≡ 4) (few : length xs ≤ block_content) (room : length b ≡ block_bytes) where
  abbrev body : Bytes
  body = head ++ (xs ++ replicate (block_content - length xs) 0)

  pub length-body : length body ≡ 510
  length-body = simp (length-append, length-replicate) (omega arith)

  wrote-all : sets (sets (sets b 0 head) 4 xs) (4 + length xs) (replicate (block_bytes - (4 + length xs)) 0) ≡ body ++ (0 ∷ 0 ∷ [])
  wrote-all =
      let u = length xs in
      let n : block_bytes - (4 + u) ≡ block_content - u + 2 = omega arith in
      let zs : Bytes = replicate (block_bytes - (4 + u)) 0 in
      let z : zs ≡ replicate (block_content - u) 0 ++ (0 ∷ 0 ∷ []) = ap {B = Bytes} (λ (k : ℕ). replicate k 0) n ∙ sym (replicate-append-replicate (block_content - u) 2 0) in
      let l : length (head ++ (xs ++ zs)) ≡ length b = simp (length-append, length-replicate) (omega arith) in
      sym
      (sets-app head (xs ++ zs) b 0
      ∙ ap (λ (k : ℕ). sets (sets b 0 head) (0 + k) (xs ++ zs)) four
      ∙ sets-app xs zs (sets b 0 head) 4)
      ∙ sets-whole b (head ++ (xs ++ zs)) l
      ∙ ap (λ (r : Bytes). head ++ (xs ++ r)) z
      ∙ ap (λ (r : Bytes). head ++ r) (sym (append_assoc xs (replicate (block_content - u) 0) (0 ∷ 0 ∷ [])))
      ∙ sym (append_assoc head (xs ++ replicate (block_content - u) 0) (0 ∷ 0 ∷ []))

  pub wrote-body : take 510 (sets (sets (sets b 0 head) 4 xs) (4 + length xs) (replicate (block_bytes - (4 + length xs)) 0)) ≡ body
  wrote-body = ap (take 510) wrote-all ∙ take_at body (0 ∷ 0 ∷ []) 510 length-body

-- the body of a block from what its writes left
module _ (k : Kind) (i : ℕ) (s b₀ b₁ b₂ b₃ : Bytes) (u past : ℕ) (room : length b₀ ≡ block_bytes) (there : block_content * i ≤ length s) (used : u ≡ used_bytes_in (length s) i)
    (h₁ : b₁ ≡ sets b₀ 0 (kind_byte k ∷ i ∷ low-high (length s)))
    (h₂ : b₂ ≡ sets b₁ 4 (slice (block_content * i) (block_content * i + u) s))
    (p₂ : past ≡ 4 + length (slice (block_content * i) (block_content * i + u) s))
    (h₃ : b₃ ≡ sets b₂ past (replicate (length b₂ - past) 0)) where
  abbrev part : Bytes
  part = take (used_bytes_in (length s) i) (drop (block_content * i) s)

  abbrev head : Bytes
  head = kind_byte k ∷ i ∷ low-high (length s)

  length_part : length part ≡ used_bytes_in (length s) i
  length_part = length-take-le (used_bytes_in (length s) i) (drop (block_content * i) s) (omega (arith, length-drop (block_content * i) s, used-in (length s) i))

  part-is : slice (block_content * i) (block_content * i + u) s ≡ part
  part-is = ap (λ (n : ℕ). slice (block_content * i) (block_content * i + n) s) used ∙ slice-part (block_content * i) (used_bytes_in (length s) i) s there

  past_is : past ≡ 4 + length part
  past_is = p₂ ∙ ap (λ (r : Bytes). 4 + length r) part-is

  writes : b₃ ≡ sets (sets (sets b₀ 0 head) 4 part) (4 + length part) (replicate (block_bytes - (4 + length part)) 0)
  writes =
      let e : b₂ ≡ sets (sets b₀ 0 head) 4 part = h₂ ∙ ap (sets b₁ 4) part-is ∙ ap (λ (b : Bytes). sets b 4 part) h₁ in
      let l : length b₂ ≡ block_bytes = ap length e ∙ length-sets (sets b₀ 0 head) 4 part ∙ length-sets b₀ 0 head ∙ room in
      h₃
      ∙ ap (λ (p : ℕ). sets b₂ p (replicate (length b₂ - p) 0)) past_is
      ∙ ap (λ (n : ℕ). sets b₂ (4 + length part) (replicate (n - (4 + length part)) 0)) l
      ∙ ap (λ (b : Bytes). sets b (4 + length part) (replicate (block_bytes - (4 + length part)) 0)) e

  few : length part ≤ block_content
  few = omega (arith, length_part, used_le (length s) i)

  body_is : take 510 b₃ ≡ head ++ (part ++ replicate (block_content - length part) 0)
  body_is = ap (take 510) writes ∙ wrote-body head part b₀ refl few room

  pub put-body : PutBody k i s b₃ past
  put-body =
      record {
        body = body_is ∙ ap (λ (n : ℕ). head ++ (part ++ replicate (block_content - n) 0)) length_part ∙ ap (λ (r : Bytes). head ++ r) (sym (padded-used i s));
        within = omega (arith, past_is, few);
        clean =
            ap (λ (r : Bytes). all_zero (drop past r)) (body_is ∙ sym (append_assoc head part (replicate (block_content - length part) 0)))
            ∙ ap all_zero (drop_at (head ++ part) (replicate (block_content - length part) 0) past (length-append head part ∙ sym past_is))
            ∙ are-zeros (block_content - length part);
      }

-- two bytes behind the first 510
pub put_last : (b : Bytes) (x y : ℕ) → length b ≡ block_bytes → x ≡ y → set (set b 510 (x % 256)) 511 (x / 256) ≡ take 510 b ++ low-high y
put_last b x y room e =
    sets-eq (low-high x) b 510 (omega arith)
    ∙ ap (λ (r : Bytes). take 510 b ++ low-high x ++ r) (drop_of_length-le b {i = 510 + 2} (omega arith))
    ∙ append-nil (take 510 b ++ low-high x)
    ∙ ap (λ (n : ℕ). take 510 b ++ low-high n) e

-- lengths
pub length-padded : (n : ℕ) (t : Bytes) → length (padded n t) ≡ n
length-padded n t = simp (length-append, length-take, length-replicate) (omega arith)

pub length-block_body : (k : Kind) (i n : ℕ) (s : Bytes) → length (block_body k i n s) ≡ 510
length-block_body k i n s = let p = length-padded block_content (drop (block_content * i) s) in omega arith

pub length-block : (k : Kind) (i : ℕ) (s : Bytes) → length (block k i s) ≡ block_bytes
length-block k i s =
    length-append (block_body k i (length s) s) (low-high (check (block_body k i (length s) s)))
    ∙ ap (λ (n : ℕ). n + 2) (length-block_body k i (length s) s)

pub length-blocks : (k : Kind) (i n : ℕ) (s : Bytes) → length (blocks k i n s) ≡ block_bytes * n
unfolding blocks
length-blocks k i zero s = refl
length-blocks k i (suc n) s =
    let e = length-block k i s in
    let f = length-blocks k (suc i) n s in
    length-append (block k i s) (blocks k (suc i) n s) ∙ omega arith

pub length-stored : (k : Kind) (s : Bytes) → length (stored k s) ≡ block_bytes * block_count_for (length s)
unfolding stored
length-stored k s = length-blocks k 0 (block_count_for (length s)) s

-- a block put in the middle of a buffer, with more of them to come
module _ (k : Kind) (s out ys all : Bytes) (i many at : ℕ) (more : i < many) (room : at + block_bytes ≤ length out) (new : ys ≡ block k i s) where
  abbrev middle : Bytes
  middle = take at out ++ (ys ++ drop (at + block_bytes - at) (drop at out))

  length-new : length ys ≡ block_bytes
  length-new = ap length new ∙ length-block k i s

  middle-is : middle ≡ sets out at ys
  middle-is =
      let e : at + (at + block_bytes - at) ≡ at + length ys = omega (arith, length-new) in
      sym
      (sets-eq ys out at (omega (arith, length-new))
      ∙ append_assoc (take at out) ys (drop (at + length ys) out)
      ∙ ap (λ (n : ℕ). take at out ++ (ys ++ drop n out)) (sym e)
      ∙ ap (λ (r : Bytes). take at out ++ (ys ++ r)) (sym (drop-drop (at + block_bytes - at) at out)))

  pub length-middle : length middle ≡ length out
  length-middle = ap length middle-is ∙ length-sets out at ys

  pub more-blocks : sets out at (blocks k i (many - i) s) ≡ all → sets middle (at + block_bytes) (blocks k (i + 1) (many - (i + 1)) s) ≡ all
  unfolding blocks
  more-blocks e =
      let q : many - i ≡ suc (many - (i + 1)) = omega arith in
      ap (λ (r : Bytes). sets r (at + block_bytes) (blocks k (i + 1) (many - (i + 1)) s)) (middle-is ∙ ap (sets out at) new)
      ∙ ap (λ (n : ℕ). sets (sets out at (block k i s)) (at + block_bytes) (blocks k n (many - (i + 1)) s)) (add-one i)
      ∙ ap (λ (n : ℕ). sets (sets out at (block k i s)) (at + n) (blocks k (suc i) (many - (i + 1)) s)) (sym (length-block k i s))
      ∙ sym (sets-app (block k i s) (blocks k (suc i) (many - (i + 1)) s) out at)
      ∙ sym (ap (λ (n : ℕ). sets out at (blocks k i n s)) q)
      ∙ e
