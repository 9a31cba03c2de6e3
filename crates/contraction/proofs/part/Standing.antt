-- A redex where it stands, with any bytes behind it: its end, and what is told of what was put for it. Assumes nothing.
use Prim.Native.Nat.{ℕ, ◌+◌, ◌-◌, ◌≤◌}
use mathlib.Core.Path.{◌≡◌, refl, ap, ◌∙◌}
use mathlib.Core.Bool.{Bool, true, false, ◌&&◌}
use mathlib.Core.Option.{Option as Maybe}
use mathlib.Core.List.{◌++◌, append-nil}
use native.Mathlib.Omega.{arith}
use lib.ListN.{length}
use lib.Seq.{sets, length-sets, slice, slice_empty}
use Rattle.std.specs.Prelude.{if◌then◌else◌, Option, Some, None}
use Rattle.rules.specs.Basic.{Bytes}
use Rattle.rules.specs.Limits.{limits}
use Rattle.rules.specs.Term.{Term, encode, nodes, size}
use Rattle.rules.specs.declared.Rule.{Rule}
use Rattle.rules.specs.Step.{half_fits}
use Rattle.laws.specs.free.Same.{both_true}
use Rattle.buffer.specs.Wrote.{Wrote}
use Rattle.term.proofs.node.Terms.{at-end}
use Rattle.substitution.proofs.place.Writes.{wrote-part}
use Rattle.substitution.specs.Put.{Puts, Room}
use Rattle.substitution.specs.declared.tally.Tally.{Tally}
use Rattle.substitution.specs.declared.put.Written.{Written}
use Rattle.substitution.proofs.put.Puts.{beside-within}
use Rattle.contraction.specs.Beside.{fits_around}
use Rattle.contraction.specs.Stays.{Stays}
use Rattle.contraction.specs.Contracted.{Redex, Replaced, Contracts, becomes, outgrows, contraction_of}
use Rattle.contraction.specs.declared.part.Contraction.{Contraction}

-- what was put in the place of a whole redex, if it was
abbrev pub contracted_of : Rule → (end : ℕ) → Option Written → Option Contraction
contracted_of r e (Some w) = Some (contraction_of r e w)
contracted_of r e None = None

module _ {s : Bytes} {at n l : ℕ} {t : Term} (j : Redex s at n l t) where
  pub inside : at + size t ≤ length s
  inside = at-end s at t j.stands

  -- the whole of it was written
  pub all-written : {rule : Rule} (u : Term) {made made' : Bytes} {k end m : ℕ} → Wrote made 0 (encode u) made' k → k ≤ length made → end ≡ at + size t → m ≡ n - nodes t + nodes u
      → Stays t 0 → Replaced s at n t rule u made' (record { rule = rule; size = k; end = end; nodes = m })
  all-written u {made} {made'} {k} {end} w h ee em none =
      let z : at + size t - end ≡ 0 = omega arith in
      record {
        rule = refl;
        count = em;
        inside = omega arith;
        written = omega (arith, ap (λ (z : Bytes). length z) w.holds, length-sets made 0 (encode u));
        bytes =
            ap (λ (z : Bytes). slice 0 k made' ++ z) (ap (λ (i : ℕ). slice i (at + size t) s) ee ∙ slice_empty (at + size t) s)
            ∙ append-nil (slice 0 k made')
            ∙ wrote-part w h;
        stays = rw z none;
      }

  pub put-contracts : {rule : Rule} {end others rest : ℕ} → end ≡ at + size t → others ≡ n - nodes t → rest ≡ l - size t
      → {h : Maybe Term} {k : Tally} {u : Term} {made made' : Bytes} {p : Option Written} {c : Option Contraction} → Room made → k.past ≡ size u → Stays t 0
      → Puts others rest h k u made made' p → c ≡ contracted_of rule end p → Contracts s at n l t rule h u made' c
  put-contracts {rule} {end} {others} {rest} ee eo er {h} {k} {u} {made} {made'} {p} {c} room long none d is =
      go (half_fits limits h && fits_around n l t u) refl (d.says ∙ rw (eo, er)) (d.leaves ∙ rw (eo, er))
    where
      go : (b : Bool) → (half_fits limits h && fits_around n l t u) ≡ b → p ≡ (if b then Some (record { tally = k; nodes = n - nodes t + nodes u }) else None)
          → made' ≡ (if b then sets made 0 (encode u) else made) → Contracts s at n l t rule h u made' c
      go true y q m =
          let f = beside-within (n - nodes t) (l - size t) u (both_true (half_fits limits h) (fits_around n l t u) y).1 in
          becomes _ y (is ∙ ap (λ (z : Option Written). contracted_of rule end z) q) (all-written u (record { holds = m; ends = omega (arith, long) }) (omega (arith, f, long)) ee refl none)
      go false y q m = outgrows y (is ∙ ap (λ (z : Option Written). contracted_of rule end z) q)
