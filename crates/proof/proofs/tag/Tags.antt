-- What reading a rule's tag finds, by the tests that the code makes: no byte, one tag too many, or what the tag carries.
-- Assumes nothing.
use Rattle.reader.specs.View.{fault}
use Rattle.rules.specs.declared.Reason.TheVariants.{EndsInside, NotListed, OneTooMany}
use Prim.Native.Nat.{ℕ, ◌+◌, ◌<◌, ◌≤◌}
use native.Mathlib.Omega.{arith}
use mathlib.Core.Path.{◌≡◌, refl, sym, ◌∙◌}
use mathlib.Core.List.{[], ◌∷◌}
use mathlib.Core.Option.{Option as Perhaps, none, some}
use lib.ListN.{length, get_or, drop}
use borrow.Author.Tests.{lt-ltb, le-ltb, ltb-true}
use Rattle.std.specs.Prelude.{Result, Ok, Option}
use Rattle.std.specs.Option.{ok_or}
use Rattle.rules.specs.Basic.{Bytes, ◌<?◌}
use Rattle.rules.specs.Layout.{head_by_tag}
use Rattle.rules.specs.Proof.{RuleHead, rule_heads}
use Rattle.rules.specs.Reading.{Got, got, bad, byte, listed, tag}
use Rattle.laws.specs.reading.Holds.{Holds, chosen, told as read}
use Rattle.laws.specs.reading.Steady.{steady-got, steady-tag}
use Rattle.rules.specs.declared.Fault.{Fault}
use Rattle.proof.specs.Seen.{Carries, carries, carried_of, tag_seen}
use Rattle.reader.proofs.class.Views.{rest_in, rest_out}

abbrev pub shown : (at : ℕ) → Option Carries → Result Carries Fault
shown at o = ok_or o (record { reason = NotListed; place = at })

by-carried : (used at next : ℕ) (r : Bytes) (o : Perhaps RuleHead) → tag_seen (listed used at next r o) ≡ shown at (carried_of o)
by-carried used at next r none = refl
by-carried used at next r (some h) = refl

module _ (s : Bytes) (at used most : ℕ) where
  abbrev told : Result Carries Fault
  told = tag_seen (tag most (head_by_tag rule_heads) used at (drop at s))

  pub tag-out : length s ≤ at → told ≡ fault EndsInside at
  unfolding tag byte
  tag-out h = rw (rest_out s at h)

  pub tag-full : at < length s → most ≤ used → told ≡ fault OneTooMany at
  unfolding tag byte
  tag-full h l = rw (rest_in s at h) (simp (le-ltb used most l))

  pub tag_is : at < length s → used < most → told ≡ shown at (carried_of (head_by_tag rule_heads (get_or s at 0)))
  unfolding tag byte
  tag_is h l = rw (rest_in s at h) (simp (lt-ltb used most l) (by-carried used at (at + 1) (drop (at + 1) s) (head_by_tag rule_heads (get_or s at 0))))

-- A tag that was read: it was there, and not one too many.
pub record Tagged (most u at : ℕ) (r : Bytes) (v p : ℕ) (r' : Bytes) : Type 0 where
  pub first : ℕ
  pub bytes : r ≡ first ∷ r'
  pub next : p ≡ at + 1
  pub met : v ≡ u + 1
  pub room : u < most

pub tag-holds : (most u at : ℕ) (r : Bytes) → Holds (λ h v p r'. Tagged most u at r v p r') (tag most (head_by_tag rule_heads) u at r)
unfolding tag byte
tag-holds most u at [] = tt
tag-holds most u at (b ∷ r) = chosen _ (u <? most) _ _ (λ e. go (ltb-true _ _ e) (head_by_tag rule_heads b)) (λ e. tt)
  where
    go : u < most → (o : Perhaps RuleHead) → Holds (λ h v p r'. Tagged most u at (b ∷ r) v p r') (listed u at (at + 1) r o)
    go l none = tt
    go l (some h) = record { first = b; bytes = refl; next = refl; met = refl; room = l }

seen-tag : (g : Got ℕ RuleHead) (k : Carries) → tag_seen g ≡ Ok k → (h : RuleHead) × (v : ℕ) × (p : ℕ) × (r : Bytes) × ((g ≡ got h v p r) × (carries h ≡ k))
seen-tag (got h v p r) k e = (h, v, p, r, (refl, cc))
seen-tag (bad n p) k e = absurd (let z : ◌≡◌ {A = ℕ} 0 1 = cc in omega arith)

-- The same, from what the code tells: the head that was read, and what is left.
pub record Headed (s : Bytes) (at used most : ℕ) (k : Carries) : Type 0 where
  pub head : RuleHead
  pub is : tag most (head_by_tag rule_heads) used at (drop at s) ≡ got head (used + 1) (at + 1) (drop (at + 1) s)
  pub carried : carries head ≡ k
  pub room : used < most
  pub inside : at < length s

pub headed : (s : Bytes) (at used most : ℕ) (k : Carries) → at ≤ length s → Ok k ≡ tag_seen (tag most (head_by_tag rule_heads) used at (drop at s)) → Headed s at used most k
headed s at used most k h e =
    let g = tag most (head_by_tag rule_heads) used at (drop at s) in
    let w = seen-tag g k (sym e) in
    let t : Tagged most used at (drop at s) w.1 w.2 w.3 = read (λ h v p r'. Tagged most used at (drop at s) v p r') g (tag-holds most used at (drop at s)) w.4.0 in
    let d = steady-got (tag most (head_by_tag rule_heads)) (steady-tag most (head_by_tag rule_heads)) s used at h w.4.0 in
    record {
      head = w.0;
      is = w.4.0 ∙ cc (t.met, t.next, d.rest);
      carried = w.4.1;
      room = t.room;
      inside = omega (arith, t.next, d.within);
    }
