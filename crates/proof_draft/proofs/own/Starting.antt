-- A whole proof is a task of the walk, over any row that has an entry for each of its rules. Assumes nothing.
use Prim.Native.Nat.{ℕ, ◌≤◌}
use mathlib.Core.Path.{refl}
use mathlib.Core.List.{List, []}
use native.Mathlib.Nat.{not-suc-le-zero}
use native.Mathlib.Omega.{arith}
use lib.ListN.{length}
use Rattle.rules.specs.Basic.{Bytes}
use Rattle.rules.specs.Proof.{Proof}
use Rattle.draft.specs.declared.row.Row.{Row}
use Rattle.draft.specs.Steady.{rows_none, small-none}
use Rattle.proof_draft.specs.declared.put.Drafted.{Drafted}
use Rattle.proof_draft.specs.declared.entry.CutEntry.{CutEntry}
use Rattle.proof_draft.specs.Walk.{Task, Done, Starts, Ends}
use Rattle.proof_draft.specs.Whole.{Whole}

module _ {s : Bytes} {most : ℕ} {ws : List Row} {n : ℕ} {cs : List CutEntry} (h : most ≤ length cs) where
  task : {p : Proof} → Whole s most ws n p → Task s 0 cs 0 ws 0 n p []
  task w =
      record {
        proof = w.proof;
        ready =
            record {
              entries = record { many = refl; room = omega arith; each = λ i z. absurd (not-suc-le-zero z) };
              rows = rows_none ws;
              small = small-none ws;
              placed = omega (arith, w.many, h);
              room = omega (arith, w.room);
              few = w.few;
            };
      }

  pub whole-starts : ((p : Proof) × Whole s most ws n p) → Starts s 0 cs 0 ws 0 n
  whole-starts (p, w) = (p, [], task w)

  pub whole-ends : {ws' : List Row} {d : Drafted} → Ends s 0 cs 0 ws ws' 0 n d → (p : Proof) → Whole s most ws n p → Done s 0 ws ws' 0 n p [] d
  whole-ends e p w = e p [] (task w)
