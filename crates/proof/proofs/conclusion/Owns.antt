-- What reading a rule's own part finds, from what its tag was said to be.
-- Assumes nothing.
use Prim.Native.Nat.{ℕ, ◌+◌, ◌*◌}
use native.Mathlib.Omega.{arith}
use mathlib.Core.Path.{◌≡◌, refl, sym, ap, ◌∙◌}
use lib.ListN.{drop}
use Rattle.std.specs.Prelude.{Ok, Err}
use Rattle.rules.specs.declared.Fault.{Fault}
use Rattle.rules.specs.Basic.{Bytes}
use Rattle.rules.specs.Limits.{Limits}
use Rattle.rules.specs.Layout.{head_by_tag}
use Rattle.rules.specs.Formula.{Formula as FormulaOf}
use Rattle.rules.specs.Proof.{RuleHead, a_plain, a_cut, a_focus, rule_heads, cut, focus}
use Rattle.rules.specs.Reading.{Got, got, bad, Reader, Met, and_then, byte, tag, rule_got, rule_of}
use Rattle.proof.specs.Seen.{Reached, Carries, Nothing, Formula, Index, reached_past_tag, seen, found, carries, tag_seen}
use Rattle.proof.specs.Stages.{formula_of, row_of, index_of, own_of}
use Rattle.proof.proofs.conclusion.Views.{seen-made, many-one}
use Rattle.proof.proofs.tag.Tags.{Headed}

-- one formula in a row
row_one : (L : Limits) (s : Bytes) (q : Reached) → seen (found (row_of L 1) s q) ≡ seen (found (formula_of L) s q)
unfolding row_of
row_one L s q = many-one (formula_of L) s q 1 refl

module _ (m : Reader Met FormulaOf) (s : Bytes) (q : Reached) where
  plain-seen : (h : RuleHead) → carries h ≡ Nothing → seen (found (rule_of m h) s q) ≡ Ok q
  plain-seen (a_plain k) e = refl
  plain-seen a_cut e = absurd (let z : ◌≡◌ {A = ℕ} 0 1 = cc in omega arith)
  plain-seen (a_focus k) e = absurd (let z : ◌≡◌ {A = ℕ} 0 1 = cc in omega arith)

  cut-seen : (h : RuleHead) → carries h ≡ Formula → seen (found (rule_of m h) s q) ≡ seen (found m s q)
  cut-seen (a_plain k) e = absurd (let z : ◌≡◌ {A = ℕ} 0 1 = cc in omega arith)
  cut-seen a_cut e = seen-made (found m s q) cut
  cut-seen (a_focus k) e = absurd (let z : ◌≡◌ {A = ℕ} 0 1 = cc in omega arith)

  focus-seen : (h : RuleHead) → carries h ≡ Index → seen (found (rule_of m h) s q) ≡ seen (found index_of s q)
  unfolding index_of
  focus-seen (a_plain k) e = absurd (let z : ◌≡◌ {A = ℕ} 0 1 = cc in omega arith)
  focus-seen a_cut e = absurd (let z : ◌≡◌ {A = ℕ} 0 1 = cc in omega arith)
  focus-seen (a_focus k) e = go (found byte s q)
    where
      go : (g : Got Met ℕ) → seen (and_then g (λ low u p r. and_then (byte u p r) (λ high u p r. got (focus k (low + 256 * high)) u p r)))
          ≡ seen (and_then g (λ low u p r. and_then (byte u p r) (λ high u p r. got (low + 256 * high) u p r)))
      go (got low u p r) = seen-made (byte u p r) (λ high. focus k (low + 256 * high)) ∙ sym (seen-made (byte u p r) (λ high. low + 256 * high))
      go (bad n p) = refl

module _ (L : Limits) (s : Bytes) (q : Reached) where
  abbrev told : Got ℕ RuleHead
  told = tag L.rules (head_by_tag rule_heads) q.rules q.next (drop q.next s)

  pub own-off : (f : Fault) → Err f ≡ tag_seen told → seen (found (own_of L) s q) ≡ Err f
  unfolding own_of
  own-off f e = go told (sym e)
    where
      go : (g : Got ℕ RuleHead) → tag_seen g ≡ Err f → seen (and_then (rule_got q.formulas g) (λ h. rule_of (formula_of L) h)) ≡ Err f
      go (got (a_plain k) u p' r) i = absurd (let z : ◌≡◌ {A = ℕ} 0 1 = cc in omega arith)
      go (got a_cut u p' r) i = absurd (let z : ◌≡◌ {A = ℕ} 0 1 = cc in omega arith)
      go (got (a_focus k) u p' r) i = absurd (let z : ◌≡◌ {A = ℕ} 0 1 = cc in omega arith)
      go (bad n' p') i = let z : ◌≡◌ {A = Fault} (record { reason = n'; place = p' }) f = cc in ap Err z

  module _ {k : Carries} (w : Headed s q.next q.rules L.rules k) where
    on : seen (found (own_of L) s q) ≡ seen (found (rule_of (formula_of L) w.head) s (reached_past_tag q))
    unfolding own_of
    on = rw w.is

    pub own-plain : k ≡ Nothing → seen (found (own_of L) s q) ≡ Ok (reached_past_tag q)
    own-plain e = on ∙ plain-seen (formula_of L) s (reached_past_tag q) w.head (w.carried ∙ e)

    pub own-cut : k ≡ Formula → seen (found (own_of L) s q) ≡ seen (found (row_of L 1) s (reached_past_tag q))
    own-cut e = on ∙ cut-seen (formula_of L) s (reached_past_tag q) w.head (w.carried ∙ e) ∙ sym (row_one L s (reached_past_tag q))

    pub own-focus : k ≡ Index → seen (found (own_of L) s q) ≡ seen (found index_of s (reached_past_tag q))
    own-focus e = on ∙ focus-seen (formula_of L) s (reached_past_tag q) w.head (w.carried ∙ e)
