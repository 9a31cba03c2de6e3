-- What reading a byte finds, and the stages that begin with one: an index, the formulas of `linear`, the count of premises.
-- Assumes nothing.
use Rattle.reader.specs.View.{fault}
use Rattle.std.specs.Prelude.{Ok}
use Rattle.rules.specs.declared.Reason.TheVariants.{EndsInside, NotListed}
use Prim.Native.Nat.{◌+◌, ◌<◌, ◌≤◌}
use mathlib.Core.Path.{◌≡◌}
use lib.ListN.{length, get_or, drop}
use borrow.Author.Tests.{le-leb, lt-leb}
use Rattle.rules.specs.Basic.{Bytes}
use Rattle.rules.specs.Limits.{Limits}
use Rattle.rules.specs.Reading.{got, bad, byte, byte_for}
use Rattle.proof.specs.Seen.{Reached, met_by, reached_past_byte, seen, found, count_seen, before}
use Rattle.proof.specs.Stages.{row_of, index_of, linear_of, count_of}
use Rattle.reader.proofs.class.Views.{rest_in, rest_out}

module _ (s : Bytes) (q : Reached) where
  pub byte-out : length s ≤ q.next → found byte s q ≡ bad EndsInside q.next
  unfolding byte
  byte-out h = rw (rest_out s q.next h)

  pub byte-in : q.next < length s → found byte s q ≡ got (get_or s q.next 0) (met_by q) (q.next + 1) (drop (q.next + 1) s)
  unfolding byte
  byte-in h = rw (rest_in s q.next h)

module _ (s : Bytes) (q : Reached) where
  pub index-out : length s ≤ q.next → seen (found index_of s q) ≡ fault EndsInside q.next
  unfolding index_of
  index-out h = rw (byte-out s q h)

  pub index-cut : q.next < length s → length s ≤ q.next + 1 → seen (found index_of s q) ≡ fault EndsInside (q.next + 1)
  unfolding index_of
  index-cut h l = rw (byte-in s q h, byte-out s (reached_past_byte q) l)

  pub index_in : q.next < length s → q.next + 1 < length s → seen (found index_of s q) ≡ Ok (reached_past_byte (reached_past_byte q))
  unfolding index_of
  index_in h l = rw (byte-in s q h, byte-in s (reached_past_byte q) l)

  pub linear-out : (L : Limits) → length s ≤ q.next → seen (found (linear_of L) s q) ≡ fault EndsInside q.next
  unfolding linear_of
  linear-out L h = rw (byte-out s q h)

  pub linear-in : (L : Limits) → q.next < length s → seen (found (linear_of L) s q) ≡ seen (found (row_of L (get_or s q.next 0)) s (reached_past_byte q))
  unfolding linear_of
  linear-in L h = rw (byte-in s q h)

  pub count-out : length s ≤ q.next → count_seen (λ n. n) (found count_of s q) ≡ fault EndsInside q.next
  unfolding count_of byte_for
  count-out h = rw (byte-out s q h)

  pub count-over : q.next < length s → 3 < get_or s q.next 0 → count_seen (λ n. n) (found count_of s q) ≡ fault NotListed q.next
  unfolding count_of byte_for
  count-over h l = rw (byte-in s q h, lt-leb (get_or s q.next 0) 3 l)

  pub count-in : q.next < length s → get_or s q.next 0 ≤ 3 → count_seen (λ n. n) (found count_of s q) ≡ before (reached_past_byte q) (get_or s q.next 0)
  unfolding count_of byte_for
  count-in h l = rw (byte-in s q h, le-leb (get_or s q.next 0) 3 l)
