-- What store and load come to: each way of ending, from the tests that lead there. Over any limits. Assumes nothing.
use Rattle.std.specs.Prelude.{ℕ, zero, suc, ◌/◌, ◌%◌, ◌≤◌, ◌<◌, ◌≡◌, refl, Bool, true, false, not, ◌||◌, ltb, eqb, length, if◌then◌else◌, ◌==◌, Ok, Err}
use Rattle.std.proofs.Common.{sym, ap, ◌∙◌, arith, le-leb, le-ltb, eq-eqb, ne_eqb, ltb-false, eqb-true}
use Rattle.std.proofs.Math.Option.{some}
use Rattle.std.proofs.lemmas.Bool.{lt-leb, eqb-false, not-false}
use Rattle.rules.specs.Basic.{Bytes, ◌<?◌}
use Rattle.rules.specs.Limits.{Limits, block_bytes, output_room, stored_room}
use Rattle.rules.specs.Refusal.{Outcome, mapped}
use Rattle.rules.specs.declared.Reason.TheVariants.{ShortBuffer, StoredLength}
use Rattle.rules.specs.declared.Refusal.{Refusal}
use Rattle.rules.specs.declared.Kind.{Kind}
use Rattle.rules.specs.declared.Kind.TheVariants.{Term, Proof}
use Rattle.rules.specs.Reading.{whole, read_term, read_proof}
use Rattle.rules.specs.Stored.{stored, read_kind, opened_blocks, opened}
use Rattle.rules.specs.Buffers.{Wrote, filled, bytes_or, wrote}
use Rattle.stored.specs.Heads.{or_left, or_right}
use Rattle.rules.specs.Calls.{store_call, load_call}

-- what is refused leaves the output; what is written is followed by zeros
abbrev pub left : Bytes → Refusal → Wrote ℕ
left o r = record { answer = Err r; output = o }

abbrev pub put : Bytes → Bytes → Wrote ℕ
put o s = record { answer = Ok (length s); output = filled o (some s) }

-- what is read is short enough
over : {A : Type 0} (most n : ℕ) (t : Bool) (r : Refusal) (o : Outcome A) → ltb most n ≡ t → mapped (λ (_ : A). tt {0}) (if t then Err r else o) ≡ Ok tt → n ≤ most
over most n true r o e h = absurd (let z : ◌≡◌ {A = ℕ} 0 1 = cc in omega arith)
over most n false r o e h = ltb-false most n e

pub read_short : (L : Limits) (k : Kind) (i : ℕ) (s : Bytes) → read_kind L k i s ≡ Ok tt → length s ≤ L.bytes
unfolding read_term read_proof whole
read_short L Term i s h = over L.bytes (length s) (ltb L.bytes (length s)) _ _ refl h
read_short L Proof i s h = over L.bytes (length s) (ltb L.bytes (length s)) _ _ refl h

module _ (L : Limits) (k : Kind) (s o : Bytes) where
  pub store-short : length o < stored_room L → store_call L k s o ≡ left o (record { reason = ShortBuffer; place = 0; input = 0 })
  unfolding store_call
  store-short h = rw (lt-leb (stored_room L) (length o) h)

  module _ (room : stored_room L ≤ length o) where
    pub store-refused : (r : Refusal) → read_kind L k 1 s ≡ Err r → store_call L k s o ≡ left o r
    unfolding store_call
    store-refused r e = rw (le-leb (stored_room L) (length o) room, e)

    pub store-good : read_kind L k 1 s ≡ Ok tt → store_call L k s o ≡ put o (stored k s)
    unfolding store_call
    store-good e = rw (le-leb (stored_room L) (length o) room, e)

-- the test of 10
abbrev pub is_size_wrong : Limits → ℕ → Bool
is_size_wrong L n = (n == 0) || (not (n % block_bytes == 0) || (stored_room L <? n))

module _ (L : Limits) (k : Kind) (f o : Bytes) where
  pub load-short : length o < output_room L → load_call L k f o ≡ left o (record { reason = ShortBuffer; place = 0; input = 0 })
  unfolding load_call
  load-short h = rw (lt-leb (output_room L) (length o) h)

  module _ (room : output_room L ≤ length o) where
    load-open : load_call L k f o ≡ wrote o (bytes_or (opened L k f))
    unfolding load_call
    load-open = rw (le-leb (output_room L) (length o) room)

    pub load-size : is_size_wrong L (length f) ≡ true → load_call L k f o ≡ left o (record { reason = StoredLength; place = 0; input = 1 })
    unfolding opened
    load-size h = load-open ∙ rw h

    module _ (size : is_size_wrong L (length f) ≡ false) where
      pub load-blocks : (r : Refusal) → opened_blocks L k f 0 (length f / block_bytes) ≡ Err r → load_call L k f o ≡ left o r
      unfolding opened
      load-blocks r e = load-open ∙ rw (size, e)

      module _ (s : Bytes) (got : opened_blocks L k f 0 (length f / block_bytes) ≡ Ok s) where
        pub load-content : (r : Refusal) → read_kind L k 1 s ≡ Err r → load_call L k f o ≡ left o r
        unfolding opened
        load-content r e = load-open ∙ rw (size, got, e)

        pub load-good : read_kind L k 1 s ≡ Ok tt → load_call L k f o ≡ put o s
        unfolding opened
        load-good e = load-open ∙ rw (size, got, e)

-- a size that is not wrong
pos : (n : ℕ) → (n ≡ 0 → ⊥) → 0 < n
pos zero h = absurd (h refl)
pos (suc n) h = omega arith

pub record SizeRight (L : Limits) (n : ℕ) : Type 0 where
  pub some : 0 < n
  pub blocks : n % block_bytes ≡ 0
  pub most : n ≤ stored_room L

pub size-right : (L : Limits) (n : ℕ) → is_size_wrong L n ≡ false → SizeRight L n
size-right L n e =
    let t : Bool = not (n % block_bytes == 0) in
    let u : Bool = stored_room L <? n in
    let r = or_right (eqb n 0) (t || u) e in
    record {
      some = pos n (eqb-false n 0 (or_left (eqb n 0) (t || u) e));
      blocks = eqb-true (n % block_bytes) 0 (not-false (n % block_bytes == 0) (or_left t u r));
      most = ltb-false (stored_room L) n (or_right t u r);
    }

pub right-size : (L : Limits) (n : ℕ) → SizeRight L n → is_size_wrong L n ≡ false
right-size L n r = rw (ne_eqb n 0 (λ e. omega (arith, r.some)), eq-eqb (n % block_bytes) 0 r.blocks, le-ltb (stored_room L) n r.most)

-- the two equations of a call from one
pub ends : {call w : Wrote ℕ} {r : Outcome ℕ} {o : Bytes} → call ≡ w → r ≡ w.answer → o ≡ w.output → (r ≡ call.answer) × (o ≡ call.output)
ends e a b = (a ∙ sym (ap (λ (x : Wrote ℕ). x.answer) e), b ∙ sym (ap (λ (x : Wrote ℕ). x.output) e))
