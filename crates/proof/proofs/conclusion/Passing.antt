-- Passing formulas in a row: whatever the nodes that are still to be passed come to, the row comes to. By a turn of reader's loop for each node.
-- Assumes nothing.
use Prim.Native.Nat.{ℕ, ◌+◌, ◌-◌, ◌*◌, ◌/◌, ◌%◌, ◌<◌, ◌≤◌}
use native.Mathlib.Omega.{arith}
use mathlib.Core.Path.{◌≡◌, refl, sym, ap, ◌∙◌}
use lib.ListN.{length, get_or, drop}
use Rattle.std.specs.Prelude.{Ok}
use Rattle.rules.specs.Basic.{Bytes}
use Rattle.rules.specs.Layout.{head_by_tag}
use Rattle.rules.specs.Formula.{formulas}
use Rattle.rules.specs.Reading.{times, name}
use Rattle.laws.specs.reading.Steady.{steady-name}
use Rattle.reader.specs.Classes.{code_at}
use Rattle.reader.specs.declared.class.Form.TheVariants.{Formula}
use Rattle.reader.specs.View.{view, past}
use Rattle.reader.specs.Viewed.{Passed, passed}
use Rattle.reader.proofs.class.Coded.{one_name, Coded, coded}
use Rattle.reader.proofs.class.Views.{times-on, times_none}
use Rattle.reader.proofs.node.Rest.{Rest, rest-is, rest-none}
use Rattle.reader.proofs.node.Turn.{turn_on}
use Rattle.proof.specs.Seen.{Reached, Most, seen, found, within}
use Rattle.proof.specs.Stages.{row_of}
use Rattle.proof.proofs.conclusion.Rows.{after_rules, row_seen}

module _ (s : Bytes) (most : Most) (from : Reached) (n : ℕ) where
  -- the nodes of n formulas up to a place, of which some are still to be passed
  pub record Passing (row : Reached) (left : ℕ) : Type 0 where
    pub inside : row.next ≤ length s
    pub ruled : row.rules ≡ from.rules
    pub counted : from.formulas ≤ row.formulas
    pub few : left ≤ n + 3 * (row.formulas - from.formulas)
    pub same : Rest formulas most.formulas s left row.formulas row.next ≡ Rest formulas most.formulas s n from.formulas from.next

  module _ {row : Reached} {left : ℕ} (w : Passing row left) where
    pub passing-done : left ≤ 0 → Ok row ≡ seen (found (row_of (within most) n) s from)
    passing-done z =
        ap (λ k. Ok (record { next = row.next; rules = k; formulas = row.formulas })) w.ruled
        ∙ sym (row_seen s most from n
        ∙ ap (after_rules from.rules) (sym (rest-is formulas most.formulas s n from.formulas from.next) ∙ sym w.same ∙ rest-none formulas most.formulas s left row.formulas row.next (omega arith)))

    -- one node more, which has one name at most
    module _ (waits : 0 < left) (inside : row.next + 1 < length s) (room : row.formulas < most.formulas) (code : ℕ) (is : code ≡ code_at formulas (head_by_tag formulas.heads (get_or s row.next 0))) (ne : code ≡ 0 → ⊥) where
      node-coded : Coded Formula (head_by_tag formulas.heads (get_or s row.next 0)) code
      node-coded = coded Formula (head_by_tag formulas.heads (get_or s row.next 0)) code is ne

      pub parts-few : code / 8 ≤ 3
      parts-few = node-coded.few

      abbrev turned : ℕ → Reached
      turned q = record { next = q; rules = row.rules; formulas = row.formulas + 1 }

      more : (q : ℕ) → q ≤ length s → ((v : ℕ) → past q v ≡ view (times (name formulas.spelling) (code / 2 % 4) v (row.next + 1) (drop (row.next + 1) s))) → Passing (turned q) (left - 1 + code / 8)
      more q h names =
          record {
            inside = h;
            ruled = w.ruled;
            counted = omega (arith, w.counted);
            few = omega (arith, w.few, w.counted, parts-few);
            same = sym (turn_on Formula most.formulas s left row.formulas row.next waits (omega arith) room code is ne (Ok q) names q refl) ∙ w.same;
          }

      pub passing-nameless : (code / 2 % 4 ≡ 1 → ⊥) → Passing (turned (row.next + 1)) (left - 1 + code / 8)
      passing-nameless h =
          let a : code / 2 % 4 ≤ 1 = rw node-coded.names (one_name node-coded.head) in
          let z : code / 2 % 4 ≡ 0 = omega (arith, a, h) in
          more (row.next + 1) (omega arith) (λ v. sym (times_none (name formulas.spelling) (code / 2 % 4) v (row.next + 1) (drop (row.next + 1) s) z))

      pub passing-named : (q : ℕ) → code / 2 % 4 ≡ 1 → ((v : ℕ) → past q v ≡ view (name formulas.spelling v (row.next + 1) (drop (row.next + 1) s))) → Passing (turned q) (left - 1 + code / 8)
      passing-named q e one =
          let m = name {S = ℕ} formulas.spelling in
          let p : (v : ℕ) → Passed s (m v (row.next + 1) (drop (row.next + 1) s)) q v = λ v. passed m (steady-name formulas.spelling) s v (row.next + 1) (omega arith) (sym (one v)) in
          more q (p 0).within (λ v. sym (times-on m (code / 2 % 4) v (row.next + 1) (drop (row.next + 1) s) 0 e (p v).value v q (drop q s) (p v).is ∙ times_none m 0 v q (drop q s) refl))
