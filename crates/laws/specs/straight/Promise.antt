-- What is promised of a straight term (demand 3): of one step, of bounded reduction, and of the public call.
-- Assumes nothing: these are statements; StepKept, Reducing and Calling prove them.
use Rattle.std.specs.Prelude.{ℕ, ◌+◌, ◌-◌, ◌*◌, ◌≤◌, ◌<◌, ◌≡◌, Bool, true, Ok}
use Rattle.std.proofs.Math.Option.{Option, some}
use Rattle.rules.specs.Basic.{Bytes}
use Rattle.rules.specs.Limits.{Limits}
use Rattle.rules.specs.Name.{Name}
use Rattle.rules.specs.Term.{Term, encode, nodes, size, fits}
use Rattle.rules.specs.Legal.{Legal}
use Rattle.rules.specs.Reading.{read_term}
use Rattle.rules.specs.Free.{occurrences}
use Rattle.rules.specs.declared.Rule.{Rule}
use Rattle.rules.specs.declared.Rule.TheVariants.{App, Let, Case, Fst, Snd, Derelict, Copy, Discard}
use Rattle.rules.specs.declared.Counts.{Counts}
use Rattle.rules.specs.Step.{step, is_normal_term, step_fits}
use Rattle.rules.specs.Reduction.{stopped, reduce}
use Rattle.rules.specs.Buffers.{filled}
use Rattle.rules.specs.Calls.{reduce_call}
use Rattle.rules.specs.Straight.{stands, Straight}

-- The nodes before and after a step: 3 fewer by an application, 4 by a pair, 2 by a derelict. The five other rules do not occur.
abbrev pub Loses : Rule → (before after : ℕ) → Type 0
Loses App n m = n ≡ m + 3
Loses Let n m = n ≡ m + 4
Loses Derelict n m = n ≡ m + 2
Loses Case n m = ⊥
Loses Fst n m = ⊥
Loses Snd n m = ⊥
Loses Copy n m = ⊥
Loses Discard n m = ⊥

-- A step by rule r, from t by way of half (the body after the first of two substitutions) to u.
pub record StraightStep (t : Term) (r : Rule) (half : Option Term) (u : Term) : Type 0 where
  pub straight : Straight u
  pub unbound : (x : Name) → occurrences x u ≡ occurrences x t
  pub binders : (x : Name) → stands x u ≤ stands x t
  pub nodes : Loses r (nodes t) (nodes u)
  pub bytes : size u < size t
  -- so 8 is not given
  pub fits : (L : Limits) → fits L t ≡ true → step_fits L half u ≡ true

-- the counts of a reduction that makes steps of three rules only
abbrev pub only : (app lets derelict : ℕ) → Counts
only a l d = record { app = a; lets = l; case = 0; fst = 0; snd = 0; derelict = d; copy = 0; discard = 0 }

-- Bounded reduction of a straight term that fits the limits.
pub record StraightReduction (L : Limits) (limit : ℕ) (t : Term) : Type 0 where
  pub app : ℕ
  pub lets : ℕ
  pub derelict : ℕ
  pub none_left : Bool
  pub result : Term
  -- It is not refused: these are its steps, its counts, whether no step remains, and its result.
  pub stops : reduce L limit t ≡ stopped (app + lets + derelict) (only app lets derelict) none_left result
  pub says : none_left ≡ is_normal_term (step result)
  pub straight : Straight result
  pub legal : Legal t → Legal result
  -- each name is free as often as before, and none comes to a binder
  pub unbound : (x : Name) → occurrences x result ≡ occurrences x t
  pub binders : (x : Name) → stands x result ≤ stands x t
  pub lost : nodes t ≡ nodes result + (3 * app + 4 * lets + 2 * derelict)
  pub fits : fits L result ≡ true
  -- the limit is at least half of one less than the node count
  pub enough : nodes t - 1 ≤ 2 * limit → none_left ≡ true

-- The public call on the bytes i of a straight term t, with long enough buffers o and s: it is not refused, and answers that reduction.
pub record StraightCall (L : Limits) (t : Term) (limit : ℕ) (i o s : Bytes) : Type 0 where
  pub reduction : StraightReduction L limit t
  pub answer : (reduce_call L i limit o s).answer
      ≡ Ok
      (record {
        steps = reduction.app + reduction.lets + reduction.derelict;
        counts = only reduction.app reduction.lets reduction.derelict;
        none_left = reduction.none_left;
      })
  pub output_length : (reduce_call L i limit o s).output_length ≡ size reduction.result
  pub output : (reduce_call L i limit o s).output ≡ filled o (some (encode reduction.result))
  -- the result's bytes are read as the result again
  pub reads : read_term L 1 (encode reduction.result) ≡ Ok reduction.result
