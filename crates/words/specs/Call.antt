-- A call that reads its input and writes what it says: what the rules say of each way out. And a task at the start of the input.
-- Assumes nothing.
use Rattle.std.specs.Prelude.{ℕ, ◌+◌, ◌-◌, ◌<◌, ◌≤◌, ◌≡◌, [], length, replicate, Ok, Err}
use Rattle.std.proofs.Common.{sym, ◌∙◌, append-nil, arith, le-leb}
use Rattle.std.proofs.lemmas.Bool.{lt-leb}
use Rattle.rules.specs.Basic.{Bytes, ◌‥◌, ◌≤?◌}
use Rattle.rules.specs.Name.{name_most}
use Rattle.rules.specs.Refusal.{Outcome, mapped}
use Rattle.rules.specs.declared.Reason.TheVariants.{ShortBuffer}
use Rattle.rules.specs.declared.Refusal.{Refusal}
use Rattle.rules.specs.Buffers.{bytes_or, lent, Wrote, wrote}
use Rattle.words.specs.Task.{Task}

-- what it answers, and what it leaves in the output
abbrev pub Ends : Outcome ℕ → Bytes → Wrote ℕ → Type 0
Ends r o c = (r ≡ c.answer) × (o ≡ c.output)

module _ {A : Type 0} (says : A → Bytes) (room : ℕ) (o : Bytes) where
  abbrev pub calls : Outcome A → Wrote ℕ
  calls read = wrote o (lent (room ≤? length o) (bytes_or (mapped says read)))

  pub short : length o < room → (read : Outcome A) → Ends (Err (record { reason = ShortBuffer; place = 0; input = 0 })) o (calls read)
  short h read = let e = lt-leb room (length o) h in (rw e, rw e)

  module _ (h : room ≤ length o) (read : Outcome A) where
    pub not-read : (q : Refusal) → read ≡ Err q → Ends (Err q) o (calls read)
    not-read q e = let l = le-leb room (length o) h in (rw (l, e), rw (l, e))

    pub was_read : (x : A) → read ≡ Ok x → Ends (Ok (length (says x))) (says x ‥ replicate (length o - length (says x)) 0) (calls read)
    was_read x e = let l = le-leb room (length o) h in (rw (l, e), rw (l, e))

-- the whole input encodes what is to be printed
pub start : {s o e x : Bytes} → s ≡ e → length s < 65536 → length x + name_most ≤ length o → length x < 65536 → Task s 0 o 0 e x
start {e = e} h short room low =
    record { inside = omega arith; rest = []; bytes = h ∙ sym (append-nil e); room = omega arith; short = short; low = omega arith }
