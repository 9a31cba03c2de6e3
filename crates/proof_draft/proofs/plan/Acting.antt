-- What a rule does, by its tag and its count of premises, is what extraction makes of it: by the rule, and by its premises. Assumes nothing.
use Prim.Native.Nat.{ℕ, suc, ◌+◌}
use mathlib.Core.Path.{◌≡◌, refl, ap, ◌∙◌}
use mathlib.Core.List.{List}
use native.Mathlib.Omega.{arith}
use lib.ListN.{length}
use Rattle.std.specs.Prelude.{Option, Some, None}
use Rattle.rules.specs.Basic.{Bytes}
use Rattle.rules.specs.Formula.{Formula}
use Rattle.rules.specs.Proof.{Proof, proof, Premises, done, ◌then◌, Rule, plain, cut, focus, FocusPositive, FocusNegative}
use Rattle.rules.specs.Proof.Plain.{Axiom, OneIntro, BottomIntro, TensorIntro, ParIntro, TopIntro, WithIntro, PlusIntroLeft, PlusIntroRight, OfCourseIntro, WhyNotIntro, Weakening, Contraction, Dereliction, Blur}
use Rattle.rules.specs.Extraction.{terms, Entries, extract}
use Rattle.draft.specs.declared.row.RowKind.{RowKind}
use Rattle.draft.specs.declared.row.RowKind.TheVariants.{Inl, Inr, Promote, Derelict, Discard, Copy}
use Rattle.draft.specs.Made.{over}
use Rattle.proof.specs.Shape.{listed, rule_tag, Sees}
use Rattle.proof.specs.declared.rule.Looked.{Looked}
use Rattle.proof_draft.specs.Acts.{act_of, Overs, Acts}
use Rattle.proof_draft.specs.Planning.{Tells}
use Rattle.proof_draft.specs.declared.plan.Act.{Act}

-- ---- what extraction makes

add_none : (n : ℕ) → n ≡ n + 0
add_none n = omega arith

three : (n : ℕ) → suc (suc (suc n)) ≡ n + 3
three n = omega arith

-- the first premise, where no name is taken before it
over_first : (x : Rule) (l : List Formula) (p : Proof) (qs : Premises) (k : Option RowKind)
    → ((s : Bytes) (es : Entries) (n : ℕ) → extract terms (proof x l (p then qs)) es n ≡ (over s k n (extract terms p es n).0, (extract terms p es n).1))
    → Overs (proof x l (p then qs)) k 0
over_first x l p qs k f =
    record {
      premise = p;
      others = listed qs;
      are = refl;
      few = omega arith;
      is = λ s es n. f s es n ∙ ap (λ (m : ℕ). (over s k n (extract terms p es m).0, (extract terms p es m).1)) (add_none n);
    }

abbrev Does : Rule → List Formula → Premises → Type 0
Does x l ps = Acts (act_of (rule_tag x) (length (listed ps))) (proof x l ps)

does : (x : Rule) (l : List Formula) (ps : Premises) → Does x l ps
unfolding extract
does (plain Axiom) l ps = record { is = λ es n. refl }
does (plain OneIntro) l ps = record { among = omega arith; is = λ es n. refl }
does (plain BottomIntro) l done = record { among = omega arith; is = λ es n. refl }
does (plain BottomIntro) l (p then qs) = over_first (plain BottomIntro) l p qs None (λ s es n. refl)
does (plain TensorIntro) l done = record { among = omega arith; is = λ es n. refl }
does (plain TensorIntro) l (p then done) = over_first (plain TensorIntro) l p done None (λ s es n. refl)
does (plain TensorIntro) l (p then (q then done)) = record { one = p; other = q; are = refl; is = λ es n. refl }
does (plain TensorIntro) l (p then (q then (r then qs))) = record { among = omega arith; is = λ es n. refl }
does (plain ParIntro) l done = record { among = omega arith; is = λ es n. refl }
does (plain ParIntro) l (p then qs) = over_first (plain ParIntro) l p qs None (λ s es n. refl)
does (plain TopIntro) l ps = record { among = omega arith; is = λ es n. refl }
does (plain WithIntro) l done = record { among = omega arith; is = λ es n. refl }
does (plain WithIntro) l (p then done) = over_first (plain WithIntro) l p done None (λ s es n. refl)
does (plain WithIntro) l (p then (q then done)) = record { one = p; other = q; are = refl; is = λ es n. refl }
does (plain WithIntro) l (p then (q then (r then qs))) = record { among = omega arith; is = λ es n. refl }
does (plain PlusIntroLeft) l done = record { none = refl; is = λ s es n. refl }
does (plain PlusIntroLeft) l (p then qs) = over_first (plain PlusIntroLeft) l p qs (Some Inl) (λ s es n. refl)
does (plain PlusIntroRight) l done = record { none = refl; is = λ s es n. refl }
does (plain PlusIntroRight) l (p then qs) = over_first (plain PlusIntroRight) l p qs (Some Inr) (λ s es n. refl)
does (plain OfCourseIntro) l done = record { none = refl; is = λ s es n. refl }
does (plain OfCourseIntro) l (p then qs) = over_first (plain OfCourseIntro) l p qs (Some Promote) (λ s es n. refl)
does (plain WhyNotIntro) l done = record { among = omega arith; is = λ es n. refl }
does (plain WhyNotIntro) l (p then qs) = over_first (plain WhyNotIntro) l p qs None (λ s es n. refl)
does (plain Weakening) l done = record { among = omega arith; is = λ es n. refl }
does (plain Weakening) l (p then qs) = over_first (plain Weakening) l p qs (Some Discard) (λ s es n. refl)
does (plain Contraction) l done = record { among = omega arith; is = λ es n. refl }
does (plain Contraction) l (p then qs) =
    record {
      premise = p;
      others = listed qs;
      are = refl;
      few = omega arith;
      is = λ s es n. ap (λ (m : ℕ). (over s (Some Copy) n (extract terms p es m).0, (extract terms p es m).1)) (three n);
    }
does (plain Dereliction) l done = record { none = refl; is = λ s es n. refl }
does (plain Dereliction) l (p then qs) = over_first (plain Dereliction) l p qs (Some Derelict) (λ s es n. refl)
does (plain Blur) l done = record { among = omega arith; is = λ es n. refl }
does (plain Blur) l (p then qs) = over_first (plain Blur) l p qs None (λ s es n. refl)
does (cut f) l done = record { among = omega arith; is = λ es n. refl }
does (cut f) l (p then done) = record { among = omega arith; is = λ es n. refl }
does (cut f) l (p then (q then done)) = record { formula = f; one = p; other = q; rule = refl; are = refl; is = λ es n. refl }
does (cut f) l (p then (q then (r then qs))) = record { among = omega arith; is = λ es n. refl }
does (focus FocusPositive i) l done = record { among = omega arith; is = λ es n. refl }
does (focus FocusPositive i) l (p then qs) = over_first (focus FocusPositive i) l p qs None (λ s es n. refl)
does (focus FocusNegative i) l done = record { among = omega arith; is = λ es n. refl }
does (focus FocusNegative i) l (p then qs) = over_first (focus FocusNegative i) l p qs None (λ s es n. refl)

-- a look at the rule told its tag and its premises
pub plan-tells : {at : ℕ} (p : Proof) {q : Looked} {a : Act} → Sees at p q → a ≡ act_of q.tag q.premises
    → Tells at p (record { act = a; linear = q.linear; premises = q.premises; first = q.first })
plan-tells (proof x l ps) {q} h e =
    record {
      linear = h.linear;
      premises = h.premises;
      first = h.first;
      acts = rw (e, h.tag, h.premises) (does x l ps);
    }
