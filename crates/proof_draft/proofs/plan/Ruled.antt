-- From a rule to its premises and back, by its plan: where they stand, what is asked of each of them, and what the rule comes to. Assumes nothing.
use Prim.Native.Nat.{ℕ, zero, suc, ◌+◌, ◌<◌, ◌≤◌}
use mathlib.Core.Path.{◌≡◌, refl, sym, ap, subst, ◌∙◌}
use mathlib.Core.List.{List, [], ◌∷◌}
use native.Mathlib.Omega.{arith}
use lib.ListN.{length}
use Rattle.rules.specs.Basic.{Bytes}
use Rattle.rules.specs.Term.{Term, leaf}
use Rattle.rules.specs.Proof.{Proof, proof, Premises as Parts, done, ◌then◌, rules, rules_in, encode_proof}
use Rattle.rules.specs.Extraction.{terms, Entries, extract}
use Rattle.laws.specs.reading.Lists.{total}
use Rattle.draft.specs.declared.row.Row.{Row}
use Rattle.draft.specs.Draft.{Rows, Drafts}
use Rattle.draft.specs.Made.{most_number}
use Rattle.draft.specs.Steady.{drafts-unit, drafts-trivial}
use Rattle.proof.specs.Place.{ProofsAt, proofs_long}
use Rattle.proof.specs.Shape.{listed, premises_of}
use Rattle.proof_draft.specs.declared.entry.CutEntry.{CutEntry}
use Rattle.proof_draft.specs.declared.plan.Act.{Act}
use Rattle.proof_draft.specs.declared.plan.Plan.{Plan}
use Rattle.proof_draft.specs.declared.put.Drafted.{Drafted}
use Rattle.proof_draft.specs.Acts.{leaf_at, Acts}
use Rattle.proof_draft.specs.Planning.{Tells, Planned}
use Rattle.proof_draft.specs.Puts.{Open, Put}
use Rattle.proof_draft.specs.Walk.{Task, Done, Premises, Past, Starts}
use Rattle.proof.proofs.rule.Items.{at-parts, at-inside, apart-size}
use Rattle.proof.proofs.rule.Rules.{proofs-spelt}

rules-many : (ps : Parts) → rules_in ps ≡ total rules (listed ps)
unfolding rules
rules-many done = refl
rules-many (p then ps) = ap (λ (n : ℕ). rules p + n) (rules-many ps)

rules-all : (p : Proof) → rules p ≡ 1 + total rules (premises_of p)
unfolding rules
rules-all (proof x l ps) = omega (arith, rules-many ps)

pub leaf-part : {s : Bytes} {ws : List Row} {used : ℕ} (i : ℕ) → i ≤ 1 → Rows ws used → Drafts s ws used i (leaf (leaf_at i))
leaf-part zero h w = drafts-unit w
leaf-part (suc zero) h w = drafts-trivial w
leaf-part (suc (suc i)) h w = absurd (omega (arith, h))

module _ {s : Bytes} {at : ℕ} {cs : List CutEntry} {k : ℕ} {ws : List Row} {used n : ℕ} where
  pub starts-inside : Starts s at cs k ws used n → at < length s
  starts-inside (p, es, w) = at-inside proofs-spelt s at p w.proof

  pub starts-open : Starts s at cs k ws used n → Open ws used × (n + 2 < most_number)
  starts-open (p, es, w) =
      let r = w.ready in
      let c = rules-all p in
      (record { rows = r.rows; small = r.small; room = omega (arith, r.room) }, omega (arith, r.few))

  module _ {r : Plan} (b : Planned s at r) {p : Proof} {es : Entries} (w : Task s at cs k ws used n p es) where
    pub told : Tells at p r
    told = b.tells p w.proof

    pub act-at : (a : Act) → r.act ≡ a → Acts a p
    act-at a e = subst (λ (i : Act). Acts i p) e told.acts

    here : (m : ℕ) → m ≡ length (premises_of p) → ProofsAt s r.first m (premises_of p)
    here m e = at-parts proofs-spelt s at p w.proof r.first m told.first e

    end : r.first + proofs_long (premises_of p) ≡ at + length (encode_proof p)
    end = omega (arith, told.first, apart-size proofs-spelt p)

    pub premises-here : ProofsAt s r.first r.premises (premises_of p)
    premises-here = here r.premises told.premises

    -- the premises are to be walked, where there are m of them
    premised : (m : ℕ) → m ≡ length (premises_of p) → Premises s r.first m cs k ws used n (premises_of p) es
    premised m e = record { proofs = here m e; ready = rw (rules-all p) at w.ready }

    pub first-premises : {one : Proof} {others : List Proof} → premises_of p ≡ one ∷ others → Premises s r.first r.premises cs k ws used n (one ∷ others) es
    first-premises are = subst (λ (c : List Proof). Premises s r.first r.premises cs k ws used n c es) are (premised r.premises told.premises)

    pub two-premises : {one other : Proof} → premises_of p ≡ one ∷ other ∷ [] → Premises s r.first 2 cs k ws used n (one ∷ other ∷ []) es
    two-premises are =
        subst (λ (c : List Proof). Premises s r.first 2 cs k ws used n c es) are (premised 2 (ap (λ (c : List Proof). length c) (sym are)))

    module _ {ws' : List Row} {made : Term × ℕ} {x : Drafted} (is : extract terms p es n ≡ made) where
      -- what one row makes is what the rule comes to
      pub put-done : (next : ℕ) → next ≡ r.first + proofs_long (premises_of p) → Put s ws ws' used n next made x → Done s at ws ws' used n p es x
      put-done next e v =
          record {
            next = v.next ∙ e ∙ end;
            counter = v.counter ∙ ap (λ (z : Term × ℕ). z.1) (sym is);
            part = subst (λ (z : Term × ℕ). Drafts s ws' x.used x.part z.0) (sym is) v.part;
            small = v.small;
            few = omega (arith, v.few, rules-all p);
            low = omega (arith, v.low, rules-all p);
            still = v.still;
          }

      -- and so is what the premises come to
      pub past-done : {ps : List Proof} → premises_of p ≡ ps → Past s r.first ws ws' used n ps made x → Done s at ws ws' used n p es x
      past-done {ps} are v =
          let z = subst (λ (c : List Proof). Past s r.first ws ws' used n c made x) (sym are) v in
          record {
            next = z.next ∙ end;
            counter = z.counter ∙ ap (λ (z : Term × ℕ). z.1) (sym is);
            part = subst (λ (z : Term × ℕ). Drafts s ws' x.used x.part z.0) (sym is) z.part;
            small = z.small;
            few = omega (arith, z.few, rules-all p);
            low = omega (arith, z.low, rules-all p);
            still = z.still;
          }
