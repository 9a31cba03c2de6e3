-- One turn of the reader's loop: what is still to be read before it and after it, by what the table and the names say.
-- Assumes nothing.
use Rattle.std.specs.Prelude.{Ok}
use Rattle.rules.specs.declared.Reason.TheVariants.{EndsInside, NotListed, OneTooMany}
use Prim.Native.Nat.{ℕ, ◌+◌, ◌-◌, ◌/◌, ◌%◌, ◌<◌, ◌≤◌}
use native.Mathlib.Omega.{arith}
use mathlib.Core.Path.{◌≡◌, sym, ap, ◌∙◌}
use lib.ListN.{length, get_or, drop}
use Rattle.rules.specs.declared.Reason.{Reason}
use Rattle.rules.specs.Basic.{Bytes}
use Rattle.rules.specs.Layout.{head_by_tag}
use Rattle.rules.specs.Reading.{times, name}
use Rattle.laws.specs.reading.Steady.{steady-name, steady-times}
use Rattle.reader.specs.declared.class.Form.{Form}
use Rattle.reader.specs.Form.{layout_of}
use Rattle.reader.specs.Classes.{code_at}
use Rattle.reader.specs.View.{view, skipped, fault, Skip}
use Rattle.reader.specs.Viewed.{view-bad, passed}
use Rattle.reader.proofs.class.Coded.{code-none, Coded, coded}
use Rattle.reader.proofs.node.Node.{node-out, node-full, node-unknown, node-off}
use Rattle.reader.proofs.node.Rest.{Rest, rest-bad, rest-step}

module _ (f : Form) (most : ℕ) (s : Bytes) (c u at : ℕ) (waits : 0 < c) where
  pub turn-out : length s ≤ at → Rest (layout_of f) most s c u at ≡ fault EndsInside at
  turn-out h = rest-bad (layout_of f) most s c u at EndsInside at waits (node-out (layout_of f) most s u at h most)

  pub turn-full : at < length s → most ≤ u → Rest (layout_of f) most s c u at ≡ fault OneTooMany at
  turn-full h l = rest-bad (layout_of f) most s c u at OneTooMany at waits (node-full (layout_of f) most s u at h l most)

  module _ (inside : at < length s) (room : u < most) (code : ℕ) (is : code ≡ code_at (layout_of f) (head_by_tag (layout_of f).heads (get_or s at 0))) where
    pub turn-unknown : code ≡ 0 → Rest (layout_of f) most s c u at ≡ fault NotListed at
    turn-unknown e =
        rest-bad (layout_of f) most s c u at NotListed at waits
        (node-unknown (layout_of f) most s u at inside room (code-none f (head_by_tag (layout_of f).heads (get_or s at 0)) (sym is ∙ e)))

    known : (code ≡ 0 → ⊥) → Coded f (head_by_tag (layout_of f).heads (get_or s at 0)) code
    known ne = coded f (head_by_tag (layout_of f).heads (get_or s at 0)) code is ne

    pub few-parts : (code ≡ 0 → ⊥) → code / 8 ≤ 3
    few-parts ne = (known ne).few

    -- a tag that is listed, and what was said of its names
    module _ (ne : code ≡ 0 → ⊥) (r : Skip) (says : (v : ℕ) → skipped v r ≡ view (times (name (layout_of f).spelling) (code / 2 % 4) v (at + 1) (drop (at + 1) s))) where
      k : Coded f (head_by_tag (layout_of f).heads (get_or s at 0)) code
      k = known ne

      names-said : (r' : Skip) → r ≡ r' → view (times (name (layout_of f).spelling) ((layout_of f).names k.head) (u + 1) (at + 1) (drop (at + 1) s)) ≡ skipped (u + 1) r'
      names-said r' e =
          ap (λ n. view (times (name (layout_of f).spelling) n (u + 1) (at + 1) (drop (at + 1) s))) (sym k.names)
          ∙ sym (says (u + 1))
          ∙ ap (skipped (u + 1)) e

      pub turn-off : (n : Reason) (p : ℕ) → r ≡ fault n p → Rest (layout_of f) most s c u at ≡ fault n p
      turn-off n p e =
          rest-bad (layout_of f) most s c u at n p waits
          (node-off (layout_of f) most s u at inside room k.head k.is n p
          (view-bad (times (name (layout_of f).spelling) ((layout_of f).names k.head) (u + 1) (at + 1) (drop (at + 1) s)) (names-said (fault n p) e)))

      pub turn_on : (p : ℕ) → r ≡ Ok p → Rest (layout_of f) most s c u at ≡ Rest (layout_of f) most s (c - 1 + code / 8) (u + 1) p
      turn_on p e =
          let n = (layout_of f).names k.head in
          let m = name {S = ℕ} (layout_of f).spelling in
          let w = passed (times m n) (steady-times m (steady-name (layout_of f).spelling) n) s (u + 1) (at + 1) (omega arith) (names-said (Ok p) e) in
          rest-step (layout_of f) most s c u at waits inside room k.head k.is w.value p w.is
          ∙ ap (λ i. Rest (layout_of f) most s (c - 1 + i) (u + 1) p) (sym k.parts)
