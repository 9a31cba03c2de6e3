-- A whole input that was read as a row of one node, by what the reader's proofs say of reading one node. Assumes nothing.
use Rattle.std.specs.Prelude.{Ok, Err}
use Prim.Native.Nat.{ℕ, ◌<◌, ◌≤◌}
use mathlib.Core.Path.{◌≡◌, refl, sym, ◌∙◌}
use lib.ListN.{length, drop}
use Rattle.rules.specs.Basic.{Bytes}
use Rattle.rules.specs.Limits.{limits}
use Rattle.rules.specs.Refusal.{refuse, mapped}
use Rattle.rules.specs.declared.Reason.TheVariants.{InputTooLong, LeftOver}
use Rattle.rules.specs.Reading.{node, times, read_term}
use Rattle.rules.specs.Term.{Term, terms, encode, nodes}
use Rattle.laws.specs.reading.Decoding.{term-sound}
use Rattle.reader.specs.declared.class.Form.TheVariants.{Term as TermForm}
use Rattle.reader.specs.View.{view, past, Read}
use Rattle.reader.proofs.node.Rest.{rest-is, rest-one}
use Rattle.reader.specs.Accepted.{accepts}
use Rattle.reader.proofs.Whole.{whole_long, whole-bad, whole-more, whole-good}
use Rattle.redex.specs.Readings.{Reads}
use Rattle.rules.specs.declared.Refusal.{Refusal}
use Rattle.rules.specs.declared.Fault.{Fault}

module _ (s : Bytes) (i : ℕ) where
  -- no refusal is calm
  turned-away : (q : Refusal) → mapped nodes (read_term limits i s) ≡ Err q → Reads s i (Err q)
  turned-away q d = record { says = sym d; calm = tt }

  pub too_long : limits.bytes < length s → Reads s i (refuse InputTooLong limits.bytes i)
  too_long h = turned-away _ (whole_long TermForm i s limits refl refl h)

  module _ (h : length s ≤ limits.bytes) (d : Read) (is : d ≡ view (times (node terms limits.nodes limits.nodes) 1 0 0 (drop 0 s))) where
    one-read : {e : Read} → d ≡ e → view (node terms limits.nodes limits.nodes 0 0 s) ≡ e
    one-read f = rest-one terms limits.nodes s 0 0 ∙ rest-is terms limits.nodes s 1 0 0 ∙ sym is ∙ f

    pub not-read : (f : Fault) (q : Refusal) → d ≡ Err f → q ≡ record { reason = f.reason; place = f.place; input = i } → Reads s i (Err q)
    not-read f' q f e = turned-away q (rw e (whole-bad TermForm i s limits refl refl h (one-read f)))

    module _ {p v : ℕ} (f : d ≡ past p v) where
      pub left_over : p < length s → Reads s i (refuse LeftOver p i)
      left_over l = turned-away _ (whole-more TermForm i s limits refl refl h (one-read f) l)

      module _ (l : length s ≤ p) where
        pub good : mapped nodes (read_term limits i s) ≡ Ok v
        good = whole-good TermForm i s limits refl refl h (one-read f) l

        pub is-term : (t : Term) × (s ≡ encode t)
        is-term = let a = accepts nodes (read_term limits i s) good in (a.value, (term-sound limits i s a.value a.is).bytes)
