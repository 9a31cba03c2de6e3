-- The call as a whole: each way out ends as the rules say, and a term that was read can be printed.
-- Assumes nothing.
use Rattle.rules.specs.declared.Reason.TheVariants.{ShortBuffer}
use Rattle.std.specs.Prelude.{Ok, Err}
use Prim.Native.Nat.{ℕ, ◌+◌, ◌-◌, ◌<◌, ◌≤◌}
use mathlib.Core.Path.{◌≡◌, ap}
use mathlib.Core.List.{List, ◌++◌}
use native.Mathlib.Omega.{arith}
use lib.ListN.{length, replicate}
use Rattle.rules.specs.Limits.{limits, text_room}
use Rattle.rules.specs.Name.{name_most}
use Rattle.rules.specs.declared.Refusal.{Refusal}
use Rattle.rules.specs.Term.{Term, encode, nodes}
use Rattle.rules.specs.Reading.{read_term}
use Rattle.rules.specs.Text.{text}
use Rattle.rules.specs.Calls.{check_term_call, text_call}
use Rattle.laws.specs.reading.Decoding.{TermIn, term-sound}
use Rattle.laws.specs.size.TextSize.{term-text-size}
use Rattle.reader.specs.Accepted.{Accepts, accepts, refuses}
use Rattle.words.specs.Call.{Ends, start}
use Rattle.words.specs.Call as call
use Rattle.term_text.specs.Task.{TermTask}

module _ (s o : List ℕ) where
  pub short : length o < text_room limits → Ends (Err (record { reason = ShortBuffer; place = 0; input = 0 })) o (text_call limits s o)
  unfolding text_call
  short h = call.short text (text_room limits) o h (read_term limits 1 s)

  module _ (h : text_room limits ≤ length o) where
    pub not-read : (q : Refusal) → check_term_call limits s ≡ Err q → Ends (Err q) o (text_call limits s o)
    unfolding text_call check_term_call
    not-read q e = call.not-read text (text_room limits) o h (read_term limits 1 s) q (refuses nodes (read_term limits 1 s) e)

    pub was_read : (x : Term) → read_term limits 1 s ≡ Ok x → Ends (Ok (length (text x))) (text x ++ replicate (length o - length (text x)) 0) (text_call limits s o)
    unfolding text_call
    was_read x e = call.was_read text (text_room limits) o h (read_term limits 1 s) x e

    pub read : {n : ℕ} → check_term_call limits s ≡ Ok n → Accepts nodes (read_term limits 1 s) n
    unfolding check_term_call
    read e = accepts nodes (read_term limits 1 s) e

    module _ (x : Term) (e : read_term limits 1 s ≡ Ok x) where
      accepted : TermIn limits s x
      accepted = term-sound limits 1 s x e

      pub few : length (text x) + name_most ≤ text_room limits
      few = let a = accepted in omega (arith, term-text-size x, ap length a.bytes, a.short, a.few)

      pub size : length (encode x) < 65536
      size = let a = accepted in omega (arith, ap length a.bytes, a.short)

      pub task : TermTask s 0 o 0 x
      task = let a = accepted in record { legal = a.legal; task = start a.bytes (omega (arith, a.short)) (omega (arith, few)) (omega (arith, few)) }
