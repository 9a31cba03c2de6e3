-- From a plan to what its calls ask and come to: the plan's act tells what extraction makes of the rule. Assumes nothing.
use Prim.Native.Nat.{ℕ, ◌+◌, ◌-◌, ◌^◌, ◌<◌, ◌≤◌}
use mathlib.Core.Path.{◌≡◌, refl, ap, subst}
use mathlib.Core.List.{List}
use mathlib.Core.Option.{Option}
use native.Mathlib.Omega.{arith}
use lib.ListN.{length, get_or, set, take, length-set}
use Rattle.std.specs.Prelude.{Option as Found, Some as Given}
use Rattle.rules.specs.Basic.{Bytes}
use Rattle.rules.specs.Name.{Name}
use Rattle.rules.specs.Formula.{Formula}
use Rattle.rules.specs.Term.{Term, leaf, unit, two, pair}
use Rattle.rules.specs.Proof.{Proof, encode_proof}
use Rattle.rules.specs.Extraction.{terms, Entries, identity, joined}
use Rattle.draft.specs.declared.row.Row.{Row}
use Rattle.draft.specs.declared.row.RowKind.{RowKind}
use Rattle.draft.specs.Draft.{Drafts}
use Rattle.draft.specs.Steady.{drafts-unit}
use Rattle.draft.specs.Made.{most_number, over}
use Rattle.proof.specs.Place.{FormulaAt, proofs_long}
use Rattle.proof.specs.Shape.{linear_of, premises_of}
use Rattle.proof.proofs.rule.Items.{Some, SkipIs}
use Rattle.proof.proofs.rule.Rules.{linear-many, linear-inside, formulas-here, cut-formula as formula-here}
use Rattle.proof_draft.specs.Acts.{Leaves, Bares, Names, Overs, Pairs, Cuts}
use Rattle.proof_draft.specs.Puts.{Open, Put}
use Rattle.proof_draft.specs.Entry.{EntriesAt}
use Rattle.proof_draft.specs.Searching.{name_said, Listed, Takes}
use Rattle.proof_draft.specs.Walk.{Task, Starts, Ends}
use Rattle.proof_draft.specs.Planning.{Planned}
use Rattle.proof_draft.specs.declared.axiom.Label.{Label}
use Rattle.proof_draft.specs.declared.entry.CutEntry.{CutEntry}
use Rattle.proof_draft.specs.declared.plan.Act.TheVariants.{Leaf, Bare, Axiom, First, Pair, Cut}
use Rattle.proof_draft.specs.declared.plan.Plan.{Plan}
use Rattle.proof_draft.specs.declared.put.Drafted.{Drafted}
use Rattle.proof_draft.proofs.plan.Pushing.{pushed, entries-taken}
use Rattle.proof_draft.proofs.plan.Premised.{FirstOf, TwoOf, CutOf, first-starts, first_some, first_rest, first-open, first_ends, one-starts, two-on, two-starts, pair-open, pair_ends, with_entry, cut-formula-here, cut_on, consumer-starts, cut-open, cut-ends}
use Rattle.proof_draft.proofs.plan.Ruled.{leaf-part, starts-inside, told, act-at, premises-here, first-premises, two-premises, put-done, past-done}

module _ {s : Bytes} {at : ℕ} {r : Plan} (b : Planned s at r) {cs : List CutEntry} {k : ℕ} {ws : List Row} {used n : ℕ} where
  pub plan-later : Starts s at cs k ws used n → (at < length s) × (at < r.first)
  plan-later (p, es, w) = (starts-inside (p, es, w), omega (arith, (told b w).first))

  pub plan-some : Starts s at cs k ws used n → Some encode_proof s r.first r.premises
  plan-some (p, es, w) = (premises_of p, premises-here b w)

  -- ---- rules that read no premise

  pub leaf-ends : {next part : ℕ} → r.act ≡ Leaf part → SkipIs encode_proof s r.first r.premises next
      → Ends s at cs k ws ws used n (record { next = next; used = used; counter = n; part = part })
  leaf-ends {next} {part} h g p es w =
      let d : Leaves p part = act-at b w (Leaf part) h in
      past-done b w (d.is es n) refl
      (record {
        next = g (premises_of p) (premises-here b w);
        counter = refl;
        part = leaf-part part d.among w.ready.rows;
        small = w.ready.small;
        few = omega arith;
        low = omega arith;
        still = λ j t z. z;
      })

  pub bare_ends : {kind : RowKind} {ws' : List Row} {x : Drafted} → r.act ≡ Bare kind
      → ((s : Bytes) (t : Term) → Drafts s ws used 0 t → Put s ws ws' used n r.first (over s (Given kind) 0 t, n) x) → Ends s at cs k ws ws' used n x
  bare_ends {kind} h g p es w =
      let d : Bares p kind = act-at b w (Bare kind) h in
      let z : proofs_long (premises_of p) ≡ 0 = ap (λ (c : List Proof). proofs_long c) d.none in
      put-done b w (d.is s es n) r.first (omega arith) (g s (leaf unit) (drafts-unit w.ready.rows))

  -- ---- Axiom

  pub axiom-begins : Starts s at cs k ws used n
      → (r.linear < length s) × Listed s (take k cs) (length (take k cs)) (r.linear + 1) (get_or s r.linear 0)
  axiom-begins (p, es, w) =
      let h = (told b w).linear in
      let fs = formulas-here s at p w.proof r.linear h (get_or s r.linear 0) (linear-many s at p w.proof r.linear h) in
      (linear-inside s at p w.proof r.linear h, (linear_of p, es, fs, entries-taken w.ready.entries))

  pub axiom-ends : (q : Found Label) {next : ℕ} {ws' : List Row} {x : Drafted} → r.act ≡ Axiom → SkipIs encode_proof s r.first r.premises next
      → Takes s (take k cs) (length (take k cs)) (r.linear + 1) (get_or s r.linear 0) (name_said s q) → Put s ws ws' used n next (identity terms (name_said s q) n) x
      → Ends s at cs k ws ws' used n x
  axiom-ends q {next} {ws'} {x} h g t y p es w =
      let d : Names p = act-at b w Axiom h in
      let i = (told b w).linear in
      let fs = formulas-here s at p w.proof r.linear i (get_or s r.linear 0) (linear-many s at p w.proof r.linear i) in
      put-done b w (d.is es n) next (g (premises_of p) (premises-here b w))
      (subst (λ (o : Option Name). Put s ws ws' used n next (identity terms o n) x) (t (linear_of p) es fs (entries-taken w.ready.entries)) y)

  -- ---- a rule that reads its first premise alone

  module _ {kind : Found RowKind} {names : ℕ} (h : r.act ≡ First kind names) (start : Starts s at cs k ws used n) where
    asks : FirstOf s r.first r.premises cs k ws used n × (names ≤ 3)
    asks =
        let (p, es, w) = start in
        let d : Overs p kind names = act-at b w (First kind names) h in
        ((d.premise, d.others, es, first-premises b w d.are), d.few)

    pub first-begins : Starts s r.first cs k ws used (n + names) × (names ≤ 3)
    first-begins = (first-starts names asks.1 asks.0, asks.1)

    module _ {ws' : List Row} {one : Drafted} (e : Ends s r.first cs k ws ws' used (n + names) one) where
      pub first-skips : Some encode_proof s one.next (r.premises - 1) × (0 < r.premises)
      first-skips = (first_rest names asks.1 e asks.0, first_some names asks.1 asks.0)

      pub first-opens : length ws' ≡ length ws → Open ws' one.used × (n < most_number) × (one.part < one.used + 2)
      first-opens l = first-open names asks.1 e l asks.0

      pub first_done : {next : ℕ} {ws'' : List Row} {x : Drafted} → SkipIs encode_proof s one.next (r.premises - 1) next
          → ((s : Bytes) (t : Term) → Drafts s ws' one.used one.part t → Put s ws' ws'' one.used one.counter next (over s kind n t, one.counter) x)
          → Ends s at cs k ws ws'' used n x
      first_done f y p es w =
          let d : Overs p kind names = act-at b w (First kind names) h in
          past-done b w (d.is s es n) d.are (first_ends names d.few e kind f y d.premise d.others es (first-premises b w d.are))

  -- ---- a pair

  module _ (h : r.act ≡ Pair) (start : Starts s at cs k ws used n) where
    pair_of : TwoOf s r.first cs k ws used n
    pair_of =
        let (p, es, w) = start in
        let d : Pairs p = act-at b w Pair h in
        (d.one, d.other, es, two-premises b w d.are)

    pub pair-starts : Starts s r.first cs k ws used n
    pair-starts =
        let z : n + 0 ≡ n = omega arith in
        subst (λ (m : ℕ). Starts s r.first cs k ws used m) z (one-starts 0 (omega arith) pair_of)

    module _ {ws' : List Row} {one : Drafted} (e : Ends s r.first cs k ws ws' used n one) where
      pub pair-on : r.first ≤ one.next
      pair-on = two-on e pair_of

      module _ (l : length ws' ≡ length ws) where
        pub pair-begins : Starts s one.next cs k ws' one.used one.counter
        pair-begins = two-starts e l pair_of

        module _ {ws'' : List Row} {other : Drafted} (y : Ends s one.next cs k ws' ws'' one.used one.counter other) where
          pub pair-opens : length ws'' ≡ length ws → Open ws'' other.used × (one.part < other.used + 2) × (other.part < other.used + 2)
          pair-opens m = pair-open e l y m pair_of

          pub pair-done : {ws''' : List Row} {x : Drafted}
              → ((s : Bytes) (t u : Term) → Drafts s ws'' other.used one.part t → Drafts s ws'' other.used other.part u
              → Put s ws'' ws''' other.used other.counter other.next (two pair t u, other.counter) x)
              → Ends s at cs k ws ws''' used n x
          pair-done f p es w =
              let d : Pairs p = act-at b w Pair h in
              past-done b w (d.is es n) d.are (pair_ends e l y f d.one d.other es (two-premises b w d.are))

  -- ---- a Cut

  module _ (h : r.act ≡ Cut) (start : Starts s at cs k ws used n) where
    cuts : {p : Proof} {es : Entries} → Task s at cs k ws used n p es → Cuts p
    cuts w = act-at b w Cut h

    cut_of : CutOf s (at + 1) r.first cs k ws used n
    cut_of =
        let (p, es, w) = start in
        let d = cuts w in
        (d.formula, d.one, d.other, es, formula-here s at p w.proof d.formula d.rule, two-premises b w d.are)

    pub cut-starts : Starts s r.first cs k ws used (n + 1)
    cut-starts =
        let (p, es, w) = start in
        let d = cuts w in
        one-starts 1 (omega arith) (d.one, d.other, es, two-premises b w d.are)

    pub cut-room : (k < length cs) × (n + 1 < 2 ^ 32)
    cut-room = let (f, p, q, es, v, w) = cut_of in (omega (arith, w.ready.placed), omega (arith, w.ready.few))

    pub cut-formula : (f : Formula) × FormulaAt s (at + 1) f
    cut-formula = cut-formula-here cut_of

    abbrev entry : CutEntry
    entry = record { place = at + 1; counter = n }

    pushes : (f : Formula) (es : Entries) → FormulaAt s (at + 1) f → EntriesAt s cs k es → EntriesAt s (set cs k entry) (k + 1) (with_entry f es n)
    pushes f es v w = pushed cs k entry cut-room.0 (omega (arith, cut-room.1)) s f es v w

    module _ {ws' : List Row} {one : Drafted} (e : Ends s r.first cs k ws ws' used (n + 1) one) where
      pub cut-goes : r.first ≤ one.next
      cut-goes = cut_on e cut_of

      module _ (l : length ws' ≡ length ws) where
        pub cut-begins : Starts s one.next (set cs k entry) (k + 1) ws' one.used one.counter
        cut-begins = consumer-starts e pushes (length-set cs k entry) l cut_of

        module _ {ws'' : List Row} {other : Drafted} (y : Ends s one.next (set cs k entry) (k + 1) ws' ws'' one.used one.counter other) where
          pub cut-opens : length ws'' ≡ length ws
              → Open ws'' other.used × (other.counter + 2 < most_number) × (one.part < other.used + 2) × (other.part < other.used + 2)
          cut-opens m = cut-open e pushes (length-set cs k entry) l y m cut_of

          pub cut-done : {ws''' : List Row} {x : Drafted}
              → ((f : Formula) (t u : Term) → FormulaAt s (at + 1) f → Drafts s ws'' other.used one.part t → Drafts s ws'' other.used other.part u
              → Put s ws'' ws''' other.used other.counter other.next (joined terms f t u other.counter) x)
              → Ends s at cs k ws ws''' used n x
          cut-done f p es w =
              let d = cuts w in
              past-done b w (d.is es n) d.are
              (cut-ends e pushes (length-set cs k entry) l y f d.formula d.one d.other es
              (formula-here s at p w.proof d.formula d.rule) (two-premises b w d.are))
