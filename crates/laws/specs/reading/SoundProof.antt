-- Soundness of the reader of proofs: the bytes that it passed are the encoding of the proof that it read, and that is legal; by induction on the depth.
-- Assumes nothing.
use Rattle.rules.specs.declared.Reason.TheVariants.{NotListed, OneTooMany}
use Prim.Native.Nat.{ℕ, zero, suc, ◌+◌, ◌*◌, ◌/◌, ◌%◌}
use Rattle.std.proofs.Common.{arith, ◌∙◌}
use Rattle.std.specs.Prelude.{◌≡◌, Bool, if◌then◌else◌}
use Rattle.std.proofs.Math.Path.{refl, sym, ap}
use Rattle.std.proofs.Math.Bool.{true, false}
use mathlib.Core.List.{List, [], ◌∷◌, ◌++◌, append_assoc}
use Rattle.std.proofs.Math.Option.{Option, none, some}
use Rattle.std.proofs.Math.ListN.{length, length-append}
use borrow.Author.Tests.{leb-true}
use Rattle.rules.specs.Basic.{Bytes, ◌<?◌, ◌≤?◌}
use Rattle.rules.specs.Limits.{Limits}
use Rattle.rules.specs.Layout.{head_by_tag}
use Rattle.rules.specs.Formula.{Formula, formulas, encode_formula, formula_nodes}
use Rattle.rules.specs.Proof.{Proof, RuleHead, a_plain, a_cut, a_focus, rule_heads, encode_proof, rules, rule_formula_nodes, proof_formula_nodes}
use Rattle.rules.specs.Legal.{LegalFormula, LegalRule, LegalProof}
use Rattle.rules.specs.Reading.{Got, got, bad, Reader, Met, rule_got, formula_got, counting_rules, counting_formulas, many, byte, byte_for, tag, listed, too_many, node, rule_of, proof_at}
use Rattle.laws.specs.reading.Holds.{Holds, and-then, none_read}
use Rattle.laws.specs.reading.Octets.{Octets, octets-after}
use Rattle.laws.specs.reading.Names.{Item, byte-sound, Single, single-sound}
use Rattle.laws.specs.reading.Lists.{joined, total, EachOf, formulas-legal, premises-count, premises-legal}
use Rattle.laws.specs.reading.WrittenFormula.{written-formulas}
use Rattle.laws.specs.reading.WrittenProof.{tag_of_rule, tag_at, head_of, carried, chain, chain_length, chain-rules, chain-nodes}
use Rattle.laws.specs.reading.Sound.{node-sound}

-- What was read of a part of a proof: its bytes, the position behind them, its rules and formula nodes, and that it is legal.
pub record Piece {A : Type 0} (enc : A → Bytes) (rule_count node_count : A → ℕ) (Fine : A → Type 0) (u : Met) (at : ℕ) (r : Bytes) (x : A) (v : Met) (p : ℕ) (r' : Bytes) : Type 0 where
  pub bytes : r ≡ enc x ++ r'
  pub next : p ≡ at + length (enc x)
  pub rules : v.rules ≡ u.rules + rule_count x
  pub formulas : v.formulas ≡ u.formulas + node_count x
  pub legal : Fine x

module _ {A : Type 0} (enc : A → Bytes) (rule_count node_count : A → ℕ) (Fine : A → Type 0) where
  -- m reads such pieces, where what is left is bytes
  abbrev Reads : Reader Met A → Type 0
  Reads m = (u : Met) (at : ℕ) (r : Bytes) → Octets r → Holds (Piece enc rule_count node_count Fine u at r) (m u at r)

module _ {A : Type 0} (enc : A → Bytes) (rule_count node_count : A → ℕ) (Fine : A → Type 0) (m : Reader Met A) (sound : Reads enc rule_count node_count Fine m) where
  many-sound : (n : ℕ) → Reads (joined enc) (total rule_count) (total node_count) (λ xs. (length xs ≡ n) × EachOf Fine xs) (many m n)
  unfolding many
  many-sound zero u at r o = record { bytes = refl; next = omega arith; rules = omega arith; formulas = omega arith; legal = (refl, tt) }
  many-sound (suc n) u at r o =
      and-then (Piece enc rule_count node_count Fine u at r) _ (m u at r) _ (sound u at r o) (λ x v q r' i.
      and-then (Piece (joined enc) (total rule_count) (total node_count) (λ xs. (length xs ≡ n) × EachOf Fine xs) v q r') _ (many m n v q r') _
      (many-sound n v q r' (octets-after (enc x) r' (rw i.bytes at o))) (λ xs w p r'' j.
      record {
        bytes = i.bytes ∙ ap (λ l. enc x ++ l) j.bytes ∙ sym (append_assoc (enc x) (joined enc xs) r'');
        next = omega (arith, i.next, j.next, length-append (enc x) (joined enc xs));
        rules = omega (arith, i.rules, j.rules);
        formulas = omega (arith, i.formulas, j.formulas);
        legal = (ap suc j.legal.0, (i.legal, j.legal.1));
      }))

-- a formula, a rule's own part: no rules
abbrev none_of : {A : Type 0} → A → ℕ
none_of x = 0

none-total : {A : Type 0} (xs : List A) → total none_of xs ≡ 0
none-total [] = refl
none-total (x ∷ xs) = omega (arith, none-total xs)

module _ (L : Limits) where
  abbrev part : Reader Met Formula
  part = counting_formulas (node formulas L.formulas L.formulas)

  part_sound : Reads encode_formula none_of formula_nodes LegalFormula part
  part_sound u at r o = go (node formulas L.formulas L.formulas u.formulas at r)
      (node-sound formulas encode_formula formula_nodes LegalFormula written-formulas L.formulas L.formulas u.formulas at r)
    where
      go : (g : Got ℕ Formula) → Holds (Item encode_formula (λ u x. u + formula_nodes x) LegalFormula u.formulas at r) g
          → Holds (Piece encode_formula none_of formula_nodes LegalFormula u at r) (formula_got u.rules g)
      go (got x v p r') i = record { bytes = i.bytes; next = i.next; rules = omega arith; formulas = i.met; legal = i.legal }
      go (bad n p) i = tt

  -- what a rule with that head carries
  rule-sound : (h : RuleHead) → Reads carried none_of rule_formula_nodes (λ x. LegalRule x × (head_of x ≡ h)) (rule_of part h)
  rule-sound (a_plain k) u at r o = record { bytes = refl; next = omega arith; rules = omega arith; formulas = omega arith; legal = (tt, refl) }
  rule-sound a_cut u at r o =
      and-then (Piece encode_formula none_of formula_nodes LegalFormula u at r) _ (part u at r) _ (part_sound u at r o) (λ a v p r' i.
      record { bytes = i.bytes; next = i.next; rules = i.rules; formulas = i.formulas; legal = (i.legal, refl) })
  rule-sound (a_focus k) u at r o =
      and-then (λ b v p r'. (r ≡ b ∷ r') × (p ≡ at + 1) × (v ≡ u)) _ (byte u at r) _ (byte-sound u at r) (λ low v q r' i.
      and-then (λ b w p r''. (r' ≡ b ∷ r'') × (p ≡ q + 1) × (w ≡ v)) _ (byte v q r') _ (byte-sound v q r') (λ high w p r'' j.
      let o1 : Octets (low ∷ r') = rw i.0 at o in
      let o2 : Octets (high ∷ r'') = rw j.0 at o1.1 in
      let e : (low + 256 * high) % 256 ≡ low = omega (arith, o1.0) in
      let d : (low + 256 * high) / 256 ≡ high = omega (arith, o1.0) in
      record {
        bytes = i.0 ∙ ap (λ l. low ∷ l) j.0 ∙ cc (e, d);
        next = omega (arith, i.1, j.1);
        rules = ap (λ m. m.rules) (j.2 ∙ i.2) ∙ omega arith;
        formulas = ap (λ m. m.formulas) (j.2 ∙ i.2) ∙ omega arith;
        legal = (omega (arith, o1.0, o2.0), refl);
      }))

  abbrev Tagged : Met → ℕ → Bytes → RuleHead → Met → ℕ → Bytes → Type 0
  Tagged u at r h v p r' = (r ≡ tag_of_rule h ∷ r') × (p ≡ at + 1) × (v.rules ≡ u.rules + 1) × (v.formulas ≡ u.formulas)

  tag-sound : (u : Met) (at : ℕ) (r : Bytes) → Holds (Tagged u at r) (counting_rules (tag L.rules (head_by_tag rule_heads)) u at r)
  unfolding tag byte
  tag-sound u at [] = tt
  tag-sound u at (k ∷ r) = go (u.rules <? L.rules) (head_by_tag rule_heads k) refl
    where
      go : (b : Bool) (o : Option RuleHead) → head_by_tag rule_heads k ≡ o
          → Holds (Tagged u at (k ∷ r)) (rule_got u.formulas (if b then listed u.rules at (at + 1) r o else bad OneTooMany at))
      go true none e = tt
      go true (some h) e = (ap (λ j. j ∷ r) (tag_at k h e), refl, refl, refl)
      go false o e = tt

  pub proof-reads : (depth : ℕ) → Reads encode_proof rules proof_formula_nodes LegalProof (proof_at L depth)
  unfolding proof_at LegalProof
  proof-reads zero u at r o = none-there (too_many u.rules at r) (none_read _ u.rules at r)
    where
      none-there : (g : Got ℕ Proof) → Holds (λ x v p r'. ⊥) g → Holds (Piece encode_proof rules proof_formula_nodes LegalProof u at r) (rule_got u.formulas g)
      none-there (got x v p r') e = absurd e
      none-there (bad n p) e = tt
  proof-reads (suc depth) u at r o =
      and-then (Tagged u at r) _ (counting_rules (tag L.rules (head_by_tag rule_heads)) u at r) _ (tag-sound u at r) (λ h u1 q1 r1 a.
      let o1 : Octets r1 = (rw a.0 at o).1 in
      and-then (Piece carried none_of rule_formula_nodes (λ x. LegalRule x × (head_of x ≡ h)) u1 q1 r1) _ (rule_of part h u1 q1 r1) _ (rule-sound h u1 q1 r1 o1) (λ x u2 q2 r2 b.
      let o2 : Octets r2 = octets-after (carried x) r2 (rw b.bytes at o1) in
      and-then (λ n v p r'. (r2 ≡ n ∷ r') × (p ≡ q2 + 1) × (v ≡ u2)) _ (byte u2 q2 r2) _ (byte-sound u2 q2 r2) (λ n u3 q3 r3 c.
      let o3 : Octets (n ∷ r3) = rw c.0 at o2 in
      and-then (Piece (joined encode_formula) (total none_of) (total formula_nodes) (λ xs. (length xs ≡ n) × EachOf LegalFormula xs) u3 q3 r3) _ (many part n u3 q3 r3) _
      (many-sound encode_formula none_of formula_nodes LegalFormula part part_sound n u3 q3 r3 o3.1) (λ l u4 q4 r4 d.
      let o4 : Octets r4 = octets-after (joined encode_formula l) r4 (rw d.bytes at o3.1) in
      and-then (Single (◌≤? 3) u4 q4 r4) _ (byte_for (◌≤? 3) NotListed u4 q4 r4) _ (single-sound (◌≤? 3) NotListed u4 q4 r4) (λ m u5 q5 r5 e.
      let o5 : Octets r5 = (rw e.0 at o4).1 in
      and-then (Piece (joined encode_proof) (total rules) (total proof_formula_nodes) (λ xs. (length xs ≡ m) × EachOf LegalProof xs) u5 q5 r5) _ (many (proof_at L depth) m u5 q5 r5) _
      (many-sound encode_proof rules proof_formula_nodes LegalProof (proof_at L depth) (proof-reads depth) m u5 q5 r5 o5) (λ ps u6 q6 r6 f.
      let c' : r2 ≡ length l ∷ r3 = c.0 ∙ ap (λ k. k ∷ r3) (sym d.legal.0) in
      let e' : r4 ≡ length ps ∷ r5 = e.0 ∙ ap (λ k. k ∷ r5) (sym f.legal.0) in
      record {
        bytes =
            a.0
            ∙ ap (λ k. tag_of_rule k ∷ r1) (sym b.legal.1)
            ∙ ap (λ z. tag_of_rule (head_of x) ∷ z) (b.bytes ∙ ap (λ z. carried x ++ z) (c' ∙ ap (λ z. length l ∷ z) (d.bytes ∙ ap (λ z. joined encode_formula l ++ z) (e' ∙ ap (λ z. length ps ∷ z) f.bytes))))
            ∙ sym (chain x l ps r6);
        next = omega (arith, a.1, b.next, c.1, d.next, e.1, f.next, chain_length x l ps);
        rules = omega (arith, a.2, b.rules, ap (λ w. w.rules) c.2, d.rules, none-total l, ap (λ w. w.rules) e.2, f.rules, chain-rules x l ps);
        formulas = omega (arith, a.3, b.formulas, ap (λ w. w.formulas) c.2, d.formulas, ap (λ w. w.formulas) e.2, f.formulas, chain-nodes x l ps);
        legal = (b.legal.0, formulas-legal l d.legal.1, premises-legal ps f.legal.1, omega (arith, d.legal.0, o3.0), omega (arith, premises-count ps, f.legal.0, leb-true m 3 e.3));
      }))))))
