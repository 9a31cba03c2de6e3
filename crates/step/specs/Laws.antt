-- A step's result is legal and is read again; a term is normal exactly where step finds nothing. By cases on what was read. Assumes nothing.
use Rattle.std.specs.Prelude.{ℕ, ◌-◌, Bool, length, replicate, if◌then◌else◌, Ok, Err}
use Rattle.std.proofs.Math.Path.{◌≡◌, refl}
use Rattle.std.proofs.Math.Bool.{true, false}
use Rattle.std.proofs.Common.{arith}
use Rattle.rules.specs.Basic.{Bytes, ◌‥◌}
use Rattle.rules.specs.Limits.{Limits}
use Rattle.rules.specs.Refusal.{Outcome, refuse}
use Rattle.rules.specs.declared.Reason.TheVariants.{Outgrows}
use Rattle.rules.specs.Legal.{Legal}
use Rattle.rules.specs.Term.{Term, encode, size, fits}
use Rattle.rules.specs.Reading.{read_term}
use Rattle.rules.specs.declared.Rule.{Rule}
use Rattle.rules.specs.Step.{Stepped, normal, found, step, half_fits, step_fits}
use Rattle.rules.specs.Buffers.{filled, answers, writes_nothing, lent}
use Rattle.rules.specs.Calls.{Normal, Found, work_room, step_ending, read_ending, step_call, is_normal_call}
use Rattle.laws.specs.free.Same.{both_true}
use Rattle.laws.specs.reading.Decoding.{term-sound, term-complete}
use Rattle.laws.specs.reading.Fits.{fits-accepted}
use Rattle.laws.specs.step.StepLegal.{step-legal}

-- the output holds a legal term of n bytes, and then zeros
pub record Again (L : Limits) (output : Bytes) (n room : ℕ) : Type 0 where
  pub term : Term
  pub bytes : output ≡ encode term ‥ replicate (room - size term) 0
  pub long : n ≡ size term
  pub legal : Legal term
  pub reads : read_term L 1 (encode term) ≡ Ok term

-- A STEP'S RESULT IS LEGAL
module _ (L : Limits) (i o s : Bytes) (r : Rule) (p n : ℕ) where
  fitted : (t : Term) → read_term L 1 i ≡ Ok t → (d : Stepped) → step t ≡ d → work_room L o s ≡ true → (step_ending L d).says ≡ Ok (Found r p n) → Again L (filled o (step_ending L d).writes) n (length o)
  fitted t e normal f w a = absurd (let z : ◌≡◌ {A = ℕ} 0 1 = cc in omega arith)
  fitted t e (found q k h u) f w a = go (step_fits L h u) refl a
    where
      go : (b : Bool) → step_fits L h u ≡ b → (if b then answers (Found q k (size u)) (encode u) else writes_nothing (refuse Outgrows 0 0)).says ≡ Ok (Found r p n)
          → Again L (filled o (step_ending L (found q k h u)).writes) n (length o)
      go true g c =
          let l : Legal u = (rw f at (step-legal t (term-sound L 1 i t e).legal)).1 in
          record {
            term = u;
            bytes = rw g;
            long = cc;
            legal = l;
            reads = term-complete L 1 (encode u) u (fits-accepted L u l (both_true (half_fits L h) (fits L u) g).1);
          }
      go false g c = absurd (let z : ◌≡◌ {A = ℕ} 0 1 = cc in omega arith)

  pub result-legal : (step_call L i o s).answer ≡ Ok (Found r p n) → Again L (step_call L i o s).output n (length o)
  unfolding step_call
  result-legal e = go (work_room L o s) refl (read_term L 1 i) refl e
    where
      go : (b : Bool) → work_room L o s ≡ b → (c : Outcome Term) → read_term L 1 i ≡ c → (lent b (read_ending c (λ u. step_ending L (step u)))).says ≡ Ok (Found r p n)
          → Again L (filled o (lent (work_room L o s) (read_ending (read_term L 1 i) (λ u. step_ending L (step u)))).writes) n (length o)
      go true w (Ok t) f a = rw (w, f) (fitted t f (step t) refl w a)
      go true w (Err q) f a = absurd (let z : ◌≡◌ {A = ℕ} 0 1 = cc in omega arith)
      go false w c f a = absurd (let z : ◌≡◌ {A = ℕ} 0 1 = cc in omega arith)

-- IS_NORMAL IS "STEP FINDS NOTHING"
module _ (L : Limits) (i o s : Bytes) (w : work_room L o s ≡ true) where
  pub finds-nothing : is_normal_call L i ≡ Ok true → (step_call L i o s).answer ≡ Ok Normal
  unfolding step_call is_normal_call
  finds-nothing e = go (read_term L 1 i) refl
    where
      go : (c : Outcome Term) → read_term L 1 i ≡ c → (step_call L i o s).answer ≡ Ok Normal
      go (Ok t) f = here (step t) refl
        where
          here : (d : Stepped) → step t ≡ d → (step_call L i o s).answer ≡ Ok Normal
          here normal g = rw (w, f, g)
          here (found r p h u) g = absurd (let z : Ok false ≡ Ok true = rw (f, g) at e in let y : ◌≡◌ {A = ℕ} 0 1 = cc in omega arith)
      go (Err q) f = absurd (let z : Err q ≡ Ok true = rw f at e in let y : ◌≡◌ {A = ℕ} 0 1 = cc in omega arith)

  pub nothing-found : (step_call L i o s).answer ≡ Ok Normal → is_normal_call L i ≡ Ok true
  unfolding step_call is_normal_call
  nothing-found e = go (read_term L 1 i) refl
    where
      go : (c : Outcome Term) → read_term L 1 i ≡ c → is_normal_call L i ≡ Ok true
      go (Ok t) f = here (step t) refl
        where
          here : (d : Stepped) → step t ≡ d → is_normal_call L i ≡ Ok true
          here normal g = rw (f, g)
          here (found r p h u) g = tested (step_fits L h u) refl
            where
              tested : (b : Bool) → step_fits L h u ≡ b → is_normal_call L i ≡ Ok true
              tested true k = absurd (let z : Ok (Found r p (size u)) ≡ Ok Normal = rw (w, f, g, k) at e in let y : ◌≡◌ {A = ℕ} 0 1 = cc in omega arith)
              tested false k = absurd (let z : refuse Outgrows 0 0 ≡ Ok Normal = rw (w, f, g, k) at e in let y : ◌≡◌ {A = ℕ} 0 1 = cc in omega arith)
      go (Err q) f = absurd (let z : Err q ≡ Ok Normal = rw (w, f) at e in let y : ◌≡◌ {A = ℕ} 0 1 = cc in omega arith)
