-- Two feeds are patched into one template, and either may go first (request (viii)): of the public call, answer and output, byte for byte.
-- The second call reads what the first left as the term that the first made, and on terms two substitutions swap.
-- Assumes nothing.
use Rattle.std.specs.Prelude.{ℕ, ◌≡◌, refl, Bool, true, false, length, take, Ok, Err}
use Rattle.std.proofs.Common.{sym, ◌∙◌, arith}
use Rattle.std.proofs.Math.Path.{ap}
use Rattle.std.proofs.Math.Option.{some}
use Rattle.std.proofs.Math.Seq.{take-append_seam}
use Rattle.rules.specs.Basic.{Bytes}
use Rattle.rules.specs.Limits.{Limits}
use Rattle.rules.specs.Refusal.{Outcome}
use Rattle.rules.specs.Substitution.{subst}
use Rattle.rules.specs.Buffers.{bytes_or, lent, filled, worked}
use Rattle.rules.specs.Calls.{work_room, grown, substituted, substitute_call}
use Rattle.laws.specs.Outcome.{good-first}
use Rattle.laws.specs.reading.Decoding.{term-sound}
use Rattle.laws.specs.substitution.Swap.{subst-swap}
use Rattle.laws.specs.substitution.Granted.{granted}
use Rattle.laws.specs.substitution.TwoFeeds.{Feed, Buffers, Apart, patched, given, in_order, EitherFirst}

-- what a call gives is a term, then zeros
abbrev Leaves : (output : Bytes) → (ℕ × Bytes) → (term : Bytes) → Type 0
Leaves o r w = r ≡ (length w, filled o (some w))

gave : (L : Limits) (f : Feed) (t : Bytes) (b : Buffers) (r : ℕ × Bytes) → given (patched L f t b) ≡ Ok r → (w : Bytes) × (substituted L t f.name f.value ≡ Ok w) × Leaves b.output r w
unfolding substitute_call
gave L f t b r e = go (work_room L b.output b.scratch) (substituted L t f.name f.value) e
  where
    go : (c : Bool) (m : Outcome Bytes) → given (worked b.output b.scratch (lent c (bytes_or m))) ≡ Ok r → (w : Bytes) × (m ≡ Ok w) × Leaves b.output r w
    go true (Ok w) h = (w, refl, cc)
    go true (Err q) h = absurd (let z : ◌≡◌ {A = ℕ} 0 1 = cc in omega arith)
    go false m h = absurd (let z : ◌≡◌ {A = ℕ} 0 1 = cc in omega arith)

-- two calls of which neither is refused: the term half-way, and the term that is left
record Ordered (L : Limits) (f g : Feed) (t : Bytes) (b : Buffers) (r : ℕ × Bytes) : Type 0 where
  half : Bytes
  term : Bytes
  first : substituted L t f.name f.value ≡ Ok half
  second : substituted L half g.name g.value ≡ Ok term
  leaves : Leaves b.output r term

ordered : (L : Limits) (f g : Feed) (t : Bytes) (a b : Buffers) (r : ℕ × Bytes) → in_order L f g t a b ≡ Ok r → Ordered L f g t b r
ordered L f g t a b r e =
    let (h, p, q) = good-first (given (patched L f t a)) _ r e in
    let (u, m, i) = gave L f t a h p in
    let (w, n, j) = gave L g (take h.0 h.1) b r q in
    go h u m i w n j
  where
    go : (h : ℕ × Bytes) (u : Bytes) → substituted L t f.name f.value ≡ Ok u → Leaves a.output h u
        → (w : Bytes) → substituted L (take h.0 h.1) g.name g.value ≡ Ok w → Leaves b.output r w → Ordered L f g t b r
    go h u m i w n j = record { half = u; term = w; first = m; second = rw (i, take-append_seam u _) at n; leaves = j }

-- it is enough that both orders of the substitutions come to one term
pub by-terms : (L : Limits) (f g : Feed) (t : Bytes)
    → ((u w u' w' : Bytes) → substituted L t f.name f.value ≡ Ok u → substituted L u g.name g.value ≡ Ok w
    → substituted L t g.name g.value ≡ Ok u' → substituted L u' f.name f.value ≡ Ok w' → w ≡ w')
    → EitherFirst L f g t
by-terms L f g t one a b a' b' r r' e e' h =
    let p = ordered L f g t a b r e in
    let q = ordered L g f t a' b' r' e' in
    p.leaves ∙ rw (one p.half p.term q.half q.term p.first p.second q.first q.second, h) (sym q.leaves)

module _ (L : Limits) (f g : Feed) (apart : Apart L f g) where
  swapped : (t u w : Bytes) → substituted L t f.name f.value ≡ Ok u → substituted L t g.name g.value ≡ Ok w
      → substituted L u g.name g.value ≡ substituted L w f.name f.value
  unfolding substituted
  swapped t u w e h =
      let p = granted L t f.name f.value u e in
      let q = granted L t g.name g.value w h in
      let a = apart.first-not-in-second _ (term-sound L 3 g.value _ q.holds) in
      let b = apart.second-not-in-first _ (term-sound L 3 f.value _ p.holds) in
      let s = subst-swap f.name g.name p.value q.value apart.names a b p.term in
      let i : p.term ≡ q.term = cc (p.reads, q.reads) in
      rw (p.gives, q.names, q.holds, q.gives, p.names, p.holds) (ap (grown L) (sym s ∙ ap (λ z. subst f.name p.value (subst g.name q.value z)) i))

  pub either_first : (t : Bytes) → EitherFirst L f g t
  either_first t = by-terms L f g t (λ u w u' w' p q p' q'. cc (q, q', swapped t u u' p p'))

  -- Where neither first call is refused, the second calls are alike in answer, output and scratch: both are refused, or neither.
  pub second-calls-alike : (t : Bytes) (a a' b : Buffers) (r r' : ℕ × Bytes) → given (patched L f t a) ≡ Ok r → given (patched L g t a') ≡ Ok r'
      → patched L g (take r.0 r.1) b ≡ patched L f (take r'.0 r'.1) b
  unfolding substitute_call
  second-calls-alike t a a' b r r' e e' =
      let (u, p, i) = gave L f t a r e in
      let (w, q, j) = gave L g t a' r' e' in
      rw (i, j, take-append_seam u _, take-append_seam w _, swapped t u w p q)
