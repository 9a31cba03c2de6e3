-- A redex where the search stands: its contraction is the step of the whole. By cases on the shapes of terms. Assumes nothing.
use Prim.Native.Nat.{ℕ}
use mathlib.Core.Path.{◌≡◌, sym, subst}
use mathlib.Core.Option.{Option}
use mathlib.Core.List.{List}
use native.Mathlib.Omega.{arith}
use Rattle.rules.specs.Term.{Term, var, leaf, one, two, abs, both, branch, inl, inr, fst, snd, abort, promote, derelict, let_a_pair, copy}
use Rattle.rules.specs.declared.Rule.{Rule}
use Rattle.rules.specs.Step.{no, by, contract, step}
use Rattle.reduction.proofs.moves.Places.{place}
use Rattle.reduction.specs.Hole.{plug}
use Rattle.reduction.specs.Quiet.{Steps}
use Rattle.reduction.specs.Standing.{Marks, Reducing}
use Rattle.reduction.proofs.moves.Contexts.{plug-steps}

nothing : {r : Rule} {h : Option Term} {u : Term} → no ≡ by r h u → ⊥
nothing e = let z : ◌≡◌ {A = ℕ} 0 1 = cc in omega arith

-- a term that contracts steps so
contract-steps : (t : Term) (r : Rule) (h : Option Term) (u : Term) → contract t ≡ by r h u → Steps t r h u
unfolding step contract
contract-steps (var x) r h u e = absurd (nothing e)
contract-steps (leaf k) r h u e = absurd (nothing e)
contract-steps (abs x a) r h u e = absurd (nothing e)
contract-steps (one inl a) r h u e = absurd (nothing e)
contract-steps (one inr a) r h u e = absurd (nothing e)
contract-steps (one promote a) r h u e = absurd (nothing e)
contract-steps (one abort a) r h u e = absurd (nothing e)
contract-steps (one fst a) r h u e = record { place = 0; is = rw e }
contract-steps (one snd a) r h u e = record { place = 0; is = rw e }
contract-steps (one derelict a) r h u e = record { place = 0; is = rw e }
contract-steps (two k a b) r h u e = record { place = 0; is = rw e }
contract-steps (both let_a_pair x y a b) r h u e = record { place = 0; is = rw e }
contract-steps (both copy x y a b) r h u e = record { place = 0; is = rw e }
contract-steps (branch x y a l m) r h u e = record { place = 0; is = rw e }

pub redex-steps : {w : Term} {out scratch : List ℕ} {stack : Marks} {o i d : ℕ} (e : Reducing w out scratch stack (place o i d))
    → Steps w e.redex.rule e.redex.half (plug e.stands.above e.redex.result)
redex-steps e =
    let s = e.stands in
    let x = e.redex in
    subst (λ (z : Term). Steps z x.rule x.half (plug s.above x.result)) (sym s.is)
    (plug-steps x.rule x.half s.above s.at x.result s.quiet (contract-steps s.at x.rule x.half x.result x.is))
