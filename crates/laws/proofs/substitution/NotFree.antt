-- A substitution for a name that is not free, as the public call gives it (request (viii)): the term's own bytes, refused by short buffers and bad inputs alone.
-- What it makes is the term that was read, and that fits.
-- Assumes nothing.
use Rattle.std.specs.Prelude.{ℕ, ◌≡◌, refl, Bool, true, false, length, replicate, Ok, Err}
use Rattle.std.proofs.Common.{sym, ap, ◌∙◌, true≢false, arith}
use Rattle.std.proofs.Math.Option.{some}
use Rattle.rules.specs.Basic.{Bytes}
use Rattle.rules.specs.Limits.{Limits}
use Rattle.rules.specs.declared.Refusal.{Refusal}
use Rattle.rules.specs.Refusal.{Outcome, number_of, spares_scratch}
use Rattle.rules.specs.declared.Reason.TheVariants.{ShortBuffer, Outgrows}
use Rattle.rules.specs.Term.{Term}
use Rattle.rules.specs.Reading.{read_term, read_name}
use Rattle.rules.specs.Substitution.{subst}
use Rattle.rules.specs.Buffers.{bytes_or, lent, filled, worked}
use Rattle.rules.specs.Calls.{work_room, grown, substituted, substitute_call}
use Rattle.laws.specs.Outcome.{good-first, same_then, Spares, spares_then}
use Rattle.laws.specs.reading.Decoding.{term-sound, bare-name-sound}
use Rattle.laws.specs.reading.Fits.{accepted-fits}
use Rattle.laws.specs.reading.Numbers.{term-spares, name-spares}
use Rattle.laws.specs.substitution.SubstNone.{subst-none}
use Rattle.laws.specs.substitution.NotFree.{NotFree, unchanged}

module _ (L : Limits) (t x v : Bytes) (n : NotFree L x t) where
  nothing-made : (t' v' : Term) → read_term L 1 t ≡ Ok t' → grown L (subst x v' t') ≡ Ok t
  nothing-made t' v' e =
      let a = term-sound L 1 t t' e in
      rw (subst-none x v' t' (n t' a), accepted-fits L t t' a) (ap Ok (sym a.bytes))

  nothing-changed : substituted L t x v ≡ unchanged L t x v
  unfolding substituted
  nothing-changed =
      same_then (read_term L 1 t) _ _ (λ t' e.
      same_then (read_name 2 x) _ _ (λ x' f.
      same_then (read_term L 3 v) _ _ (λ v' g. rw (← (bare-name-sound 2 x x' f).0) (nothing-made t' v' e))))

  -- what is not refused is the term's own bytes
  pub given_back : (r : Bytes) → substituted L t x v ≡ Ok r → r ≡ t
  given_back r e =
      let (t', p, e₁) = good-first (read_term L 1 t) _ r (sym nothing-changed ∙ e) in
      let (x', q, e₂) = good-first (read_name 2 x) _ r e₁ in
      let (v', h, e₃) = good-first (read_term L 3 v) _ r e₂ in
      cc

  -- A NAME THAT IS NOT FREE: answer, output and scratch are those of a call that changes nothing
  pub not-free-call : (o s : Bytes) → substitute_call L t x v o s ≡ worked o s (lent (work_room L o s) (bytes_or (unchanged L t x v)))
  unfolding substitute_call
  not-free-call o s = rw nothing-changed

  -- so it gives the term's own bytes, where the buffers are long enough and the inputs are read
  pub own-bytes : (o s : Bytes) (t' v' : Term) → work_room L o s ≡ true → read_term L 1 t ≡ Ok t' → read_name 2 x ≡ Ok x → read_term L 3 v ≡ Ok v'
      → substitute_call L t x v o s ≡ record { answer = Ok (length t); output = filled o (some t); scratch = replicate (length s) 0 }
  own-bytes o s t' v' w e f g = not-free-call o s ∙ rw (w, e, f, g)

  -- what an input is refused by leaves the scratch alone, and 8 does not
  spared : Spares (unchanged L t x v)
  spared =
      spares_then (read_term L 1 t) _ (term-spares L 1 t) (λ t'.
      spares_then (read_name 2 x) _ (name-spares 2 x) (λ x'.
      spares_then (read_term L 3 v) _ (term-spares L 3 v) (λ v' q e. absurd (let z : ◌≡◌ {A = ℕ} 0 1 = cc in omega arith))))

  -- it is never refused by 8
  pub never-outgrows : (o s : Bytes) (q : Refusal) → (substitute_call L t x v o s).answer ≡ Err q → ¬ q.reason ≡ Outgrows
  never-outgrows o s q e f = go (work_room L o s) (unchanged L t x v) refl (rw (not-free-call o s) at e)
    where
      go : (b : Bool) (c : Outcome Bytes) → unchanged L t x v ≡ c → (lent b (bytes_or c)).says ≡ Err q → ⊥
      go false c g h = let z : q.reason ≡ ShortBuffer = cc in let y : ◌≡◌ {A = ℕ} 1 8 = sym (ap number_of z) ∙ ap number_of f in omega arith
      go true (Ok r) g h = let z : ◌≡◌ {A = ℕ} 0 1 = cc in omega arith
      go true (Err r) g h = true≢false (sym (spared q (g ∙ ap Err cc)) ∙ ap spares_scratch f)
