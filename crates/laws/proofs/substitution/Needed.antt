-- Each condition of `Apart` is needed: for each a smallest template, and feeds that lack it alone, where the two orders differ. antt computes the table.
-- No smaller template shows it: below three bytes there is no variable.
-- Assumes nothing.
use Rattle.std.specs.Prelude.{ℕ, zero, suc, ◌+◌, ◌*◌, ◌≤◌, ◌<◌, ◌≡◌, refl, true, false, List, [], ◌∷◌, map, length, Ok}
use Rattle.std.proofs.Common.{sym, ap, ◌∙◌, true≢false, arith}
use Rattle.rules.specs.Basic.{Bytes, say}
use Rattle.rules.specs.Limits.{Limits, limits}
use Rattle.rules.specs.Refusal.{Outcome, refuse, mapped}
use Rattle.rules.specs.declared.Reason.TheVariants.{Outgrows}
use Rattle.rules.specs.Name.{same}
use Rattle.rules.specs.Term.{var, leaf, one, two, unit, promote, pair, encode}
use Rattle.rules.specs.Free.{occurrences}
use Rattle.rules.specs.Straight.{Each}
use Rattle.rules.specs.Calls.{substituted}
use Rattle.laws.specs.Outcome.{good-mapped}
use Rattle.laws.specs.free.Same.{same-itself}
use Rattle.laws.specs.size.SubstSize.{occurrences-bytes}
use Rattle.laws.specs.reading.Names.{name-some}
use Rattle.laws.specs.reading.Decoding.{bare-name-sound}
use Rattle.laws.specs.substitution.NotFree.{NotFree}
use Rattle.laws.proofs.substitution.NotFree.{given_back}
use Rattle.laws.specs.substitution.Granted.{granted}
use Rattle.laws.specs.substitution.TwoFeeds.{Feed, EitherFirst}
use Rattle.laws.proofs.substitution.TwoFeeds.{by-terms}
use Rattle.laws.specs.substitution.Needed.{Row, X, table, kept, buffers, term_of, found, computed, stated, nine, long, short, Differ}

pub needed : map computed table ≡ map stated table
unfolding found encode
needed = refl

pub caught-alike : map computed kept ≡ map stated kept
unfolding found encode
caught-alike = refl

pub one-refused : found nine long short (encode (two pair (var X) (var (say "yyy"))))
    ≡ (true ∷ true ∷ true ∷ [], refuse Outgrows 0 0, Ok (encode (two pair (one promote (one promote (one promote (leaf unit)))) (leaf unit))))
unfolding found encode
one-refused = refl

one-term : (m n : Outcome (ℕ × Bytes)) (u w : Bytes) → ((r r' : ℕ × Bytes) → m ≡ Ok r → n ≡ Ok r' → r ≡ r') → mapped term_of m ≡ Ok u → mapped term_of n ≡ Ok w → u ≡ w
one-term m n u w h e f =
    let (r, p, i) = good-mapped term_of m u e in
    let (r', q, j) = good-mapped term_of n w f in
    sym i ∙ ap term_of (h r r' p q) ∙ j

differ : (r : Row) → computed r ≡ stated r → same (encode r.x_first) (encode r.y_first) ≡ false → Differ r
unfolding found
differ r e d h =
    let x = encode r.x_first in
    let y = encode r.y_first in
    let k = one-term _ _ x y (λ u w p q. h (buffers limits) (buffers limits) (buffers limits) (buffers limits) u w p q refl) (ap (λ z. z.1) e) (ap (λ z. z.2) e) in
    true≢false (sym (same-itself x) ∙ ap (same x) k ∙ d)

pub all-differ : Each Differ table
unfolding encode
all-differ = each table needed (refl, (refl, (refl, tt)))
  where
    each : (rs : List Row) → map computed rs ≡ map stated rs → Each (λ r. same (encode r.x_first) (encode r.y_first) ≡ false) rs → Each Differ rs
    each [] e d = tt
    each (r ∷ rs) e d = (differ r (cc) d.0, each rs (cc) d.1)

-- A template of fewer than three bytes has no variable, so either may go first whatever goes in.
pub no-smaller : (L : Limits) (f g : Feed) (t : Bytes) → length t < 3 → EitherFirst L f g t
no-smaller L f g t h = by-terms L f g t (λ u w u' w' p q p' q'.
    let i = given_back L t f.name f.value (no-variable L f.name f.value t u h p) u p in
    let j = given_back L t g.name g.value (no-variable L g.name g.value t u' h p') u' p' in
    cc (i, j, p, q, p', q'))
  where
    no-variable : (L : Limits) (x v t r : Bytes) → length t < 3 → substituted L t x v ≡ Ok r → NotFree L x t
    no-variable L x v t r h e u a = go (occurrences x u) (occurrences-bytes x u)
      where
        named : 1 ≤ length x
        named = name-some x (bare-name-sound 2 x x (granted L t x v r e).names).1.lettered

        go : (n : ℕ) → n * (2 + length x) ≤ length (encode u) → n ≡ 0
        go zero k = refl
        go (suc n) k = absurd (omega (arith, h, named, ap length a.bytes))
