-- The walk over a whole term starts with no binder passed and no name found, and ends with the free names. Assumes nothing.
use Prim.Native.Nat.{ℕ, ◌-◌, ◌≤◌}
use mathlib.Core.Path.{◌≡◌, refl, ap, ◌∙◌}
use mathlib.Core.List.{List, []}
use native.Mathlib.Nat.{not-suc-le-zero}
use native.Mathlib.Omega.{arith}
use lib.ListN.{length, take, replicate}
use lib.Seq.{sets}
use Rattle.rules.specs.Basic.{Bytes}
use Rattle.rules.specs.Name.{encode_names}
use Rattle.rules.specs.Term.{Term}
use Rattle.rules.specs.Free.{free}
use Rattle.laws.specs.size.FreeSize.{free-size}
use Rattle.buffer.specs.Wrote.{Wrote}
use Rattle.buffer.specs.Writing.{filled-up, wrote-length}
use Rattle.term.proofs.node.Terms.{whole}
use Rattle.free.specs.Gather.{gather-free}
use Rattle.free.specs.Rows.{binders, row_end, Held, Passed, Writes}
use Rattle.free.specs.Walk.{Task, Done}
use Rattle.free.specs.Whole.{Lists, Listed}
use Rattle.free.proofs.row.States.{held-taken}

none-held : (s : Bytes) (row : List ℕ) → Held s row 0 []
none-held s row = record { many = refl; room = omega arith; each = λ i h. absurd (not-suc-le-zero h) }

none_passed : (s : Bytes) (row : List ℕ) → Passed s row binders []
none_passed s row = record { many = omega arith; each = λ i h. absurd (not-suc-le-zero h) }

pub starts : {s out : Bytes} {t : Term} {row : List ℕ} → Lists s out t → length row ≡ row_end → Task s 0 row binders 0 t [] []
starts {s} {out} {t} {row} w a =
    record {
      term = whole t s w.bytes;
      state = record { passed = none_passed s row; found = none-held s row; ordered = tt; short = omega (arith, w.short); long = omega arith };
      room = omega (arith, w.few);
    }

module _ {s out : Bytes} {t : Term} (w : Lists s out t) where
  fits : length (encode_names (free t)) ≤ length out
  fits = omega (arith, free-size t, w.short, ap length w.bytes, w.room)

  pub gathered : {row : List ℕ} {m c : ℕ} → Done s 0 row binders 0 t [] [] m c → Writes s (take c row) (length (take c row)) out (free t)
  gathered z = record { held = held-taken (rw (gather-free t) at z.state.found); room = fits }

  module _ {out₁ : Bytes} {p : ℕ} (x : Wrote out 0 (encode_names (free t)) out₁ p) where
    pub within : p ≤ length out₁
    within = omega (arith, x.ends, wrote-length x, fits)

    pub listed : {out₂ : Bytes} → out₂ ≡ sets out₁ p (replicate (length out₁ - p) 0) → Listed t out out₂ p
    listed e = record { holds = filled-up x e fits; ends = x.ends ∙ omega arith }
