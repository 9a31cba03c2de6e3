-- What the rules say of the call, by what its buffer's length and the reader's answer are. Assumes nothing.
use Rattle.std.specs.Prelude.{Ok, Err}
use Prim.Native.Nat.{ℕ, ◌<◌, ◌≤◌}
use mathlib.Core.Path.{◌≡◌, ap}
use lib.ListN.{length}
use borrow.Author.Tests.{le-leb, lt-leb}
use Rattle.rules.specs.Basic.{Bytes}
use Rattle.rules.specs.Limits.{limits, output_room}
use Rattle.rules.specs.declared.Refusal.{Refusal}
use Rattle.rules.specs.Refusal.{mapped}
use Rattle.rules.specs.declared.Reason.TheVariants.{ShortBuffer}
use Rattle.rules.specs.Term.{Term, nodes}
use Rattle.rules.specs.Reading.{read_term}
use Rattle.rules.specs.Calls.{free_vars_call}
use Rattle.laws.specs.reading.Decoding.{term-sound}
use Rattle.reader.specs.Accepted.{Accepts, accepts, refuses}
use Rattle.free.specs.Whole.{Lists, Listed}

module _ (s out : Bytes) where
  pub short-buffer : (q : Refusal) → q ≡ record { reason = ShortBuffer; place = 0; input = 0 } → length out < output_room limits
      → (Err q ≡ (free_vars_call limits s out).answer) × (out ≡ (free_vars_call limits s out).output)
  unfolding free_vars_call
  short-buffer q e h = (simp (lt-leb (output_room limits) (length out) h) (ap Err e), simp (lt-leb (output_room limits) (length out) h))

  module _ (h : output_room limits ≤ length out) where
    pub bad-term : (q : Refusal) → mapped nodes (read_term limits 1 s) ≡ Err q → (Err q ≡ (free_vars_call limits s out).answer) × (out ≡ (free_vars_call limits s out).output)
    unfolding free_vars_call
    bad-term q e = let r = refuses nodes (read_term limits 1 s) e in (simp (le-leb (output_room limits) (length out) h, r), simp (le-leb (output_room limits) (length out) h, r))

    module _ (n : ℕ) (e : mapped nodes (read_term limits 1 s) ≡ Ok n) where
      a : Accepts nodes (read_term limits 1 s) n
      a = accepts nodes (read_term limits 1 s) e

      pub lists : (t : Term) × Lists s out t
      lists = let w = term-sound limits 1 s a.value a.is in (a.value, record { bytes = w.bytes; short = w.short; few = w.few; room = h })

      pub good-term : (out' : Bytes) (r : ℕ) → Listed lists.0 out out' r → (Ok r ≡ (free_vars_call limits s out).answer) × (out' ≡ (free_vars_call limits s out).output)
      unfolding free_vars_call a lists
      good-term out' r l = (simp (le-leb (output_room limits) (length out) h, a.is) (ap Ok l.ends), simp (le-leb (output_room limits) (length out) h, a.is) l.holds)
