-- From a rule's contract to that of `contract`: the tag of what stands at the place says which form it has, and the rules' `contract`
-- computes on it. Assumes nothing.
use Prim.Native.Nat.{ℕ, ◌<◌}
use mathlib.Core.Path.{◌≡◌, refl, sym, ap, ◌∙◌}
use mathlib.Core.Bool.{Bool, true, false}
use mathlib.Core.Option.{Option as Maybe, none, some}
use mathlib.Core.List.{List}
use lib.ListN.{length, get_or}
use borrow.Author.Tests.{ne_eqb}
use Rattle.std.specs.Prelude.{if◌then◌else◌, Option}
use Rattle.rules.specs.Basic.{Bytes}
use Rattle.rules.specs.Name.{Name}
use Rattle.rules.specs.Term.{Term, one, two, abs, both, branch, fst, snd, promote, derelict, pair, app, discard, let_a_pair, copy}
use Rattle.rules.specs.Substitution.{subst}
use Rattle.rules.specs.declared.Rule.{Rule}
use Rattle.rules.specs.declared.Rule.TheVariants.{App, Let, Case, Fst, Snd, Derelict, Copy, Discard}
use Rattle.rules.specs.Step.{by, contract}
use Rattle.term.proofs.node.Terms.{at_tag, at-inside}
use Rattle.redex.specs.Side.{side}
use Rattle.redex.proofs.find.Firsts.{contracts}
use Rattle.redex.proofs.find.Forms.{Form, form, IsApp, IsLet, IsCase, IsFst, IsSnd, IsDerelict, IsCopy, IsDiscard}
use Rattle.contraction.specs.Contracted.{Redex, Contracts}
use Rattle.contraction.specs.declared.part.Contraction.{Contraction}
use Rattle.contraction.specs.Contracting.{Contracting}

module _ {s : Bytes} {at n l : ℕ} {places : List ℕ} {made : Bytes} {t : Term} {r : Rule} {h : Maybe Term} {u : Term} (j : Contracting s at n l places made t r h u) where
  pub redex-inside : at < length s
  redex-inside = at-inside s at t j.redex.stands

  -- the form, by the byte that stands at the place
  form-here : Form (get_or s at 0) t
  form-here = rw (at_tag s at t j.redex.stands) (form t (ap contracts j.contracts))

  pub as-app : get_or s at 0 ≡ 6 → IsApp t
  as-app e = rw e at form-here

  pub as-let : get_or s at 0 ≡ 4 → IsLet t
  as-let e = rw e at form-here

  pub as-case : get_or s at 0 ≡ 9 → IsCase t
  as-case e = rw e at form-here

  pub as-fst : get_or s at 0 ≡ 11 → IsFst t
  as-fst e = rw e at form-here

  pub as-snd : get_or s at 0 ≡ 12 → IsSnd t
  as-snd e = rw e at form-here

  pub as-derelict : get_or s at 0 ≡ 15 → IsDerelict t
  as-derelict e = rw e at form-here

  pub as_copy : get_or s at 0 ≡ 17 → IsCopy t
  as_copy e = rw e at form-here

  pub as-discard : (get_or s at 0 ≡ 6 → ⊥) → (get_or s at 0 ≡ 4 → ⊥) → (get_or s at 0 ≡ 9 → ⊥) → (get_or s at 0 ≡ 11 → ⊥)
      → (get_or s at 0 ≡ 12 → ⊥) → (get_or s at 0 ≡ 15 → ⊥) → (get_or s at 0 ≡ 17 → ⊥) → IsDiscard t
  as-discard a b d e g k q =
      rw (
        ne_eqb (get_or s at 0) 6 a,
        ne_eqb (get_or s at 0) 4 b,
        ne_eqb (get_or s at 0) 9 d,
        ne_eqb (get_or s at 0) 11 e,
        ne_eqb (get_or s at 0) 12 g,
        ne_eqb (get_or s at 0) 15 k,
        ne_eqb (get_or s at 0) 17 q,
      ) at form-here

  -- a node contracts in one way
  pub answers : {t' : Term} → t ≡ t' → {r' : Rule} {h' : Maybe Term} {u' : Term} → contract t' ≡ by r' h' u'
      → {made' : Bytes} {c : Option Contraction} → Contracts s at n l t' r' h' u' made' c → Contracts s at n l t r h u made' c
  answers {t'} e {r'} {h'} {u'} is {made'} {c} d =
      let b : by r h u ≡ by r' h' u' = sym j.contracts ∙ ap contract e ∙ is in
      let er : r ≡ r' = cc in
      let eh : h ≡ h' = cc in
      let eu : u ≡ u' = cc in
      rw (e, er, eh, eu) d

-- ---- what each form contracts to

pub app-is : (x : Name) (e a : Term) → contract (two app (abs x e) a) ≡ by App none (subst x a e)
unfolding contract
app-is x e a = refl

pub let-is : (x y : Name) (a b e : Term) → contract (both let_a_pair x y (two pair a b) e) ≡ by Let (some (subst x a e)) (subst y b (subst x a e))
unfolding contract
let-is x y a b e = refl

pub case-is : (x y : Name) (d : Bool) (v l r : Term) → contract (branch x y (one (side d) v) l r) ≡ by Case none (if d then subst x v l else subst y v r)
unfolding contract
case-is x y true v l r = refl
case-is x y false v l r = refl

pub fst-is : (a b : Term) → contract (one fst (two pair a b)) ≡ by Fst none a
unfolding contract
fst-is a b = refl

pub snd-is : (a b : Term) → contract (one snd (two pair a b)) ≡ by Snd none b
unfolding contract
snd-is a b = refl

pub derelict-is : (v : Term) → contract (one derelict (one promote v)) ≡ by Derelict none v
unfolding contract
derelict-is v = refl

pub copy_is : (x y : Name) (v e : Term) → contract (both copy x y (one promote v) e) ≡ by Copy (some (subst x (one promote v) e)) (subst y (one promote v) (subst x (one promote v) e))
unfolding contract
copy_is x y v e = refl

pub discard-is : (v e : Term) → contract (two discard (one promote v) e) ≡ by Discard none e
unfolding contract
discard-is v e = refl

-- Discard of Promote, which has the one tag that is left
module _ {s : Bytes} {at n l : ℕ} {places : List ℕ} {made : Bytes} {t : Term} {r : Rule} {h : Maybe Term} {u : Term} (j : Contracting s at n l places made t r h u) (p : IsDiscard t) where
  pub discard-here : (v : Term) × (e : Term) × Redex s at n l (two discard (one promote v) e)
  discard-here = (p.0, p.1, rw p.2 at j.redex)

  pub discarded : {made' : Bytes} {c : Option Contraction}
      → ((v e : Term) → Redex s at n l (two discard (one promote v) e) → (m : Bytes) → Contracts s at n l (two discard (one promote v) e) Discard none e m c)
      → Contracts s at n l t r h u made' c
  discarded {made'} f = answers j p.2 (discard-is p.0 p.1) (f p.0 p.1 (rw p.2 at j.redex) made')
