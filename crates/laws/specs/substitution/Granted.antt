-- A substitution that is not refused: what it read, and that what it gives is read as the term that it made. By the order of its readings.
-- Assumes nothing.
use Rattle.std.specs.Prelude.{ℕ, ◌≡◌, refl, Bool, true, false, if◌then◌else◌, Ok}
use Rattle.std.proofs.Common.{sym, arith}
use Rattle.rules.specs.Basic.{Bytes}
use Rattle.rules.specs.Limits.{Limits}
use Rattle.rules.specs.Refusal.{refuse}
use Rattle.rules.specs.declared.Reason.TheVariants.{Outgrows}
use Rattle.rules.specs.Name.{Name}
use Rattle.rules.specs.Term.{Term, encode, fits}
use Rattle.rules.specs.Legal.{Legal}
use Rattle.rules.specs.Reading.{read_term, read_name}
use Rattle.rules.specs.Substitution.{subst}
use Rattle.rules.specs.Calls.{grown, substituted}
use Rattle.laws.specs.Outcome.{good-first}
use Rattle.laws.specs.reading.Decoding.{term-sound, term-complete, bare-name-sound}
use Rattle.laws.specs.reading.Fits.{fits-accepted}
use Rattle.laws.specs.substitution.SubstLegal.{subst-legal}

-- what a substitution made and did not refuse is read as what it made
again : (L : Limits) (x : Name) (t v : Term) (r : Bytes) → Legal t → Legal v → grown L (subst x v t) ≡ Ok r → read_term L 1 r ≡ Ok (subst x v t)
again L x t v r k l e = go (fits L (subst x v t)) refl e
  where
    go : (b : Bool) → fits L (subst x v t) ≡ b → (if b then Ok (encode (subst x v t)) else refuse Outgrows 0 0) ≡ Ok r → read_term L 1 r ≡ Ok (subst x v t)
    go true f h =
        let w : encode (subst x v t) ≡ r = cc in
        rw (← w) (term-complete L 1 (encode (subst x v t)) (subst x v t) (fits-accepted L (subst x v t) (subst-legal x v l t k) f))
    go false f h = absurd (let z : ◌≡◌ {A = ℕ} 0 1 = cc in omega arith)

pub record Granted (L : Limits) (t x v r : Bytes) : Type 0 where
  pub term : Term
  pub value : Term
  pub reads : read_term L 1 t ≡ Ok term
  pub names : read_name 2 x ≡ Ok x
  pub holds : read_term L 3 v ≡ Ok value
  pub gives : read_term L 1 r ≡ Ok (subst x value term)

pub granted : (L : Limits) (t x v r : Bytes) → substituted L t x v ≡ Ok r → Granted L t x v r
unfolding substituted
granted L t x v r e =
    let (t', p, e₁) = good-first (read_term L 1 t) _ r e in
    let (x', q, e₂) = good-first (read_name 2 x) _ r e₁ in
    let (v', h, e₃) = good-first (read_term L 3 v) _ r e₂ in
    go t' x' v' p q (sym (bare-name-sound 2 x x' q).0) h e₃
  where
    go : (t' : Term) (x' : Name) (v' : Term) → read_term L 1 t ≡ Ok t' → read_name 2 x ≡ Ok x' → x' ≡ x → read_term L 3 v ≡ Ok v' → grown L (subst x' v' t') ≡ Ok r → Granted L t x v r
    go t' x' v' p q i h e =
        record {
          term = t';
          value = v';
          reads = p;
          names = rw i at q;
          holds = h;
          gives = again L x t' v' r (term-sound L 1 t t' p).legal (term-sound L 3 v v' h).legal (rw i at e);
        }
