-- What opening a block comes to: each of its four outcomes, from the tests that lead there. Assumes nothing.
use Rattle.std.specs.Prelude.{ℕ, ◌+◌, ◌-◌, ◌*◌, ◌/◌, ◌≤◌, ◌≡◌, refl, Bool, true, false, not, ltb, eqb, length, take, drop, if◌then◌else◌, Ok, Err, Option, Some, None}
use Rattle.std.proofs.Common.{sym, ap, ◌∙◌, arith, eq-eqb, ne_eqb, ltb-true}
use Rattle.rules.specs.Basic.{Bytes}
use Rattle.rules.specs.Limits.{Limits, block_bytes, block_content, stored_room}
use Rattle.rules.specs.Refusal.{Outcome, refuse}
use Rattle.rules.specs.declared.Reason.TheVariants.{BlockCheck, BlockHead, UnusedNotZero}
use Rattle.rules.specs.declared.Reason.{Reason}
use Rattle.rules.specs.declared.Kind.{Kind}
use Rattle.rules.specs.Stored.{check, two_bytes, length_in, used_bytes_in, all_zero, check_wrong, is_head_wrong, rest_wrong, open_block, opened_blocks}

least-le : (x : ℕ) (t : Bool) → ltb x block_content ≡ t → (if t then x else block_content) ≤ block_content
least-le x true e = omega (arith, ltb-true x block_content e)
least-le x false e = omega arith

pub used_le : (n i : ℕ) → used_bytes_in n i ≤ block_content
used_le n i = least-le (n - block_content * i) (ltb (n - block_content * i) block_content) refl

-- the content of as many blocks as a stored file may have
abbrev pub gather_room : Limits → ℕ
gather_room L = stored_room L / block_bytes * block_content

-- the content of a block
abbrev pub content_in : (number : ℕ) → Bytes → Bytes
content_in i b = take (used_bytes_in (length_in b) i) (drop 4 b)

-- The bytes that an answer speaks of, and how many they are: an outcome, from an answer and what stands in a buffer.
abbrev pub taken : Outcome ℕ → Bytes → Outcome Bytes
taken (Ok n) s = Ok (take n s)
taken (Err r) s = Err r

abbrev pub amount : Outcome ℕ → ℕ
amount (Ok n) = n
amount (Err r) = 0

-- the first of 11, 12, 13
abbrev pub fault_first : (sum head rest : Bool) → Option Reason
fault_first true h r = Some BlockCheck
fault_first false true r = Some BlockHead
fault_first false false true = Some UnusedNotZero
fault_first false false false = None

-- a block's content, but for a fault
abbrev pub unless : Option Reason → (number : ℕ) → Bytes → Outcome Bytes
unless None i s = Ok s
unless (Some n) i s = refuse n i 1

-- what opening a block answers
pub record OpenedBlock (L : Limits) (k : Kind) (f : Bytes) (i : ℕ) (b : Bytes) (r : Outcome ℕ) : Type 0 where
  pub outcome : open_block L k f i b ≡ taken r (drop 4 b)
  pub few : amount r ≤ block_content

-- what opening all blocks answers, with their content in a buffer
pub record OpenedBlocks (L : Limits) (k : Kind) (f content : Bytes) (r : Outcome ℕ) : Type 0 where
  pub outcome : opened_blocks L k f 0 (length f / block_bytes) ≡ taken r content
  pub within : amount r ≤ length content

faults : (t₁ t₂ t₃ : Bool) (i : ℕ) (s : Bytes)
    → (if t₁ then refuse BlockCheck i 1 else (if t₂ then refuse BlockHead i 1 else (if t₃ then refuse UnusedNotZero i 1 else Ok s))) ≡ unless (fault_first t₁ t₂ t₃) i s
faults true t₂ t₃ i s = refl
faults false true t₃ i s = refl
faults false false true i s = refl
faults false false false i s = refl

module _ (L : Limits) (k : Kind) (f : Bytes) (i : ℕ) (b : Bytes) where
  abbrev pub fault_in : Option Reason
  fault_in = fault_first (check_wrong b) (is_head_wrong L k f i b) (rest_wrong i b)

  pub opens_by : open_block L k f i b ≡ unless fault_in i (content_in i b)
  unfolding open_block
  opens_by = faults (check_wrong b) (is_head_wrong L k f i b) (rest_wrong i b) i (content_in i b)

  pub opens-11 : (two_bytes b 510 ≡ check (take 510 b) → ⊥) → open_block L k f i b ≡ refuse BlockCheck i 1
  unfolding open_block
  opens-11 h = rw (ne_eqb (two_bytes b 510) (check (take 510 b)) h)

  pub opens-good : two_bytes b 510 ≡ check (take 510 b) → is_head_wrong L k f i b ≡ false → all_zero (drop (4 + used_bytes_in (length_in b) i) (take 510 b)) ≡ true
      → open_block L k f i b ≡ Ok (content_in i b)
  unfolding open_block
  opens-good right head h = rw (eq-eqb (two_bytes b 510) (check (take 510 b)) right, head, h)

  -- the fault from what was computed on the way
  pub fault-is : {x y u : ℕ} {n : Option Reason} {head clean : Bool} → x ≡ two_bytes b 510 → y ≡ check (take 510 b) → head ≡ is_head_wrong L k f i b → u ≡ used_bytes_in (length_in b) i
      → clean ≡ all_zero (drop (4 + u) (take 510 b)) → n ≡ fault_first (not (eqb x y)) head (not clean) → n ≡ fault_in
  fault-is {x} {y} {u} {n} {head} {clean} ex ey eh eu ec e =
      let rest : clean ≡ all_zero (drop (4 + used_bytes_in (length_in b) i) (take 510 b)) = ec ∙ ap (λ (m : ℕ). all_zero (drop (4 + m) (take 510 b))) eu in
      e ∙ rw (ex, ey, eh, rest)

  module _ (n : Option Reason) (is : n ≡ fault_in) where
    pub block_refused : (r : Outcome ℕ) (q : Reason) → n ≡ Some q → r ≡ refuse q i 1 → OpenedBlock L k f i b r
    block_refused r q h a =
        record {
          outcome = opens_by ∙ ap (λ (m : Option Reason). unless m i (content_in i b)) (sym is ∙ h) ∙ ap (λ (x : Outcome ℕ). taken x (drop 4 b)) (sym a);
          few = let z = ap amount a in omega arith;
        }

    pub block-opened : (u : ℕ) → n ≡ None → u ≡ used_bytes_in (length_in b) i → OpenedBlock L k f i b (Ok u)
    block-opened u h e =
        record {
          outcome =
              opens_by
              ∙ ap (λ (m : Option Reason). unless m i (content_in i b)) (sym is ∙ h)
              ∙ ap (λ (m : ℕ). Ok (take m (drop 4 b))) (sym e);
          few = omega (arith, used_le (length_in b) i);
        }
