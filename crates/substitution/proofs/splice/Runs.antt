-- What a splice moves (02, request (x)): its runs in turn with the value between each two, one run more than there are places; and a part of the
-- term in which nothing is replaced lies inside one of them. By induction on the places, and on the way down to the part. Assumes nothing.
use Prim.Native.Nat.{ℕ, ◌+◌, ◌-◌, ◌/◌, ◌≤◌}
use mathlib.Core.Path.{◌≡◌, refl, sym, ap, ◌∙◌}
use mathlib.Core.Bool.{Bool, true, false, ◌||◌}
use mathlib.Core.Logic.{◌⊎◌, inl, inr}
use mathlib.Core.List.{List, [], ◌∷◌, ◌++◌}
use native.Mathlib.Omega.{arith}
use lib.ListN.{length, length-append}
use lib.Seq.{slice}
use Rattle.std.specs.Prelude.{if◌then◌else◌}
use Rattle.rules.specs.Basic.{Bytes}
use Rattle.rules.specs.Name.{Name}
use Rattle.rules.specs.Term.{Term, leaf, one, unit, promote, size, nodes, encode, parts}
use Rattle.rules.specs.Free.{occurrences}
use Rattle.rules.specs.Substitution.{subst}
use Rattle.buffer.specs.Wrote.{Wrote}
use Rattle.term.specs.Node.{head, encode_all, is_var, hides, hidden}
use Rattle.term.specs.Place.{TermAt, TermsAt}
use Rattle.term.proofs.node.Terms.{apart-size, at-parts, first, others, whole}
use Rattle.substitution.specs.Places.{places, open_places, places_all}
use Rattle.substitution.specs.Spliced.{spliced, Spaced, Splicing, Splices}
use Rattle.substitution.specs.Runs.{runs, joined_runs, InOneRun, this, later, mask_behind, PartOf, itself, below, replaced_in, runs_of, MovesRuns}
use Rattle.substitution.specs.Tally.{moved}
use Rattle.substitution.specs.declared.tally.Tally.{Tally}
use Rattle.substitution.proofs.place.Shapes.{places-many, node-places, var-parts}
use Rattle.substitution.proofs.splice.Splices.{part-spaced, row-spaced, spliced-term}
use Rattle.substitution.proofs.splice.Splicing.{spaced-end}

-- a tally, from its four numbers
pub tally-is : (t : Tally) {a b c d : ℕ} → t.read ≡ a → t.past ≡ b → t.runs ≡ c → t.values ≡ d → t ≡ record { read = a; past = b; runs = c; values = d }
tally-is t e f g h = rw (sym e, sym f, sym g, sym h)

-- ---- the runs

-- for k places k + 1 runs
pub one-more-run : (gap from : ℕ) (ps : List ℕ) (end : ℕ) → length (runs gap from ps end) ≡ length ps + 1
unfolding runs
one-more-run gap from [] end = refl
one-more-run gap from (p ∷ ps) end = omega (arith, one-more-run gap (p + gap) ps end)

-- what is written are these runs in turn, with the value between each two
pub joined-runs : (s v : Bytes) (gap from : ℕ) (ps : List ℕ) (end : ℕ) → joined_runs s v (runs gap from ps end) ≡ spliced s v gap from ps end
unfolding runs joined_runs spliced
joined-runs s v gap from [] end = refl
joined-runs s v gap from (p ∷ []) end = refl
joined-runs s v gap from (p ∷ q ∷ ps) end = ap (λ (z : Bytes). slice from p s ++ (v ++ z)) (joined-runs s v gap (p + gap) (q ∷ ps) end)

-- ---- what none of the places reaches into

-- each place ends before i, or starts from j on
abbrev Clear : (gap i j : ℕ) → List ℕ → Type 0
Clear gap i j [] = Unit {0}
Clear gap i j (p ∷ ps) = ((p + gap ≤ i) ⊎ (j ≤ p)) × Clear gap i j ps

-- such bytes lie inside one run
inside : (gap i j from : ℕ) (ps : List ℕ) (end : ℕ) → from ≤ i → j ≤ end → Clear gap i j ps → InOneRun i j (runs gap from ps end)
unfolding runs
inside gap i j from [] end h k c = this _ [] h k
inside gap i j from (p ∷ ps) end h k (inl before, c) = later _ _ (inside gap i j (p + gap) ps end before k c)
inside gap i j from (p ∷ ps) end h k (inr behind, c) = this _ _ h behind

clear_none : (gap i j : ℕ) (ps : List ℕ) → length ps ≡ 0 → Clear gap i j ps
clear_none gap i j [] e = tt
clear_none gap i j (p ∷ ps) e = absurd (omega arith)

clear-append : (gap i j : ℕ) (ps qs : List ℕ) → Clear gap i j ps → Clear gap i j qs → Clear gap i j (ps ++ qs)
clear-append gap i j [] qs c d = d
clear-append gap i j (p ∷ ps) qs c d = (c.0, clear-append gap i j ps qs c.1 d)

clear-before : (gap i j from : ℕ) (ps : List ℕ) (end : ℕ) → Spaced gap from ps end → end ≤ i → Clear gap i j ps
clear-before gap i j from [] end w h = tt
clear-before gap i j from (p ∷ ps) end w h = (inl (omega (arith, spaced-end gap (p + gap) ps end w.1)), clear-before gap i j (p + gap) ps end w.1 h)

clear_behind : (gap i j from : ℕ) (ps : List ℕ) (end : ℕ) → Spaced gap from ps end → j ≤ from → Clear gap i j ps
clear_behind gap i j from [] end w h = tt
clear_behind gap i j from (p ∷ ps) end w h = (inr (omega (arith, w.0)), clear_behind gap i j (p + gap) ps end w.1 (omega (arith, w.0)))

-- ---- a part in which nothing is replaced

-- it ends where its term does, or before
row-long : (left : List Term) (p : Term) (right : List Term) → length (encode_all left) + size p ≤ length (encode_all (left ++ p ∷ right))
row-long [] p right = omega (arith, length-append (encode p) (encode_all right))
row-long (t ∷ ts) p right =
    omega (arith, row-long ts p right, length-append (encode t) (encode_all ts), length-append (encode t) (encode_all (ts ++ p ∷ right)))

part-ends : (x : Name) {t : Term} {i : ℕ} {c : Bool} {u : Term} → PartOf x t i c u → i + size u ≤ size t
part-ends x (itself t) = omega arith
part-ends x (below t left p right e q) =
    omega (arith, part-ends x q, row-long left p right, apart-size t, ap (λ (ts : List Term). length (encode_all ts)) e)

module _ (s : Bytes) (x : Name) where
  abbrev gap : ℕ
  gap = 2 + length x

  -- the places in the parts of a row, if those in one of them keep clear of some bytes of it
  clear-row : (i j m at n : ℕ) (left : List Term) (p : Term) (right : List Term) → TermsAt s at n (left ++ p ∷ right)
      → at + length (encode_all left) ≤ i → j ≤ at + length (encode_all left) + size p
      → (TermAt s (at + length (encode_all left)) p → Clear gap i j (open_places x (mask_behind m left) p (at + length (encode_all left))))
      → Clear gap i j (places_all x m (left ++ p ∷ right) at)
  clear-row i j m at n [] p right w h k f =
      let z : at + 0 ≡ at = omega arith in
      clear-append gap i j (open_places x m p at) (places_all x (m / 2) right (at + size p))
      (rw z at (f (rw z (first s at n p right w))))
      (clear_behind gap i j (at + size p) (places_all x (m / 2) right (at + size p)) _ (row-spaced s x p right (m / 2) (at + size p) (n - 1) (others s at n p right w (at + size p) refl)) (omega arith))
  clear-row i j m at n (t ∷ ts) p right w h k f =
      let l = length-append (encode t) (encode_all ts) in
      let e : at + length (encode_all (t ∷ ts)) ≡ at + size t + length (encode_all ts) = omega (arith, l) in
      clear-append gap i j (open_places x m t at) (places_all x (m / 2) (ts ++ p ∷ right) (at + size t))
      (clear-before gap i j at (open_places x m t at) (at + size t) (part-spaced s x t t m at (first s at n t (ts ++ p ∷ right) w)) (omega (arith, l)))
      (clear-row i j (m / 2) (at + size t) (n - 1) ts p right (others s at n t (ts ++ p ∷ right) w (at + size t) refl) (omega (arith, e)) (omega (arith, e)) (rw e at f))

  covered : (b c : Bool) (u p : Term) (a i j : ℕ) → replaced_in x (b || c) u ≡ 0 → (replaced_in x c u ≡ 0 → Clear gap i j (places x p a)) → Clear gap i j (if b then [] else places x p a)
  covered true c u p a i j none f = tt
  covered false c u p a i j none f = f none

  -- a part of p is one of t, whose parts p is among
  module _ (t : Term) (left : List Term) (p : Term) (right : List Term) (e : parts t ≡ left ++ p ∷ right) {i : ℕ} {c : Bool} {u : Term} (q : PartOf x p i c u) (none : replaced_in x (hidden (mask_behind (hides x t) left) || c) u ≡ 0)
      (f : replaced_in x c u ≡ 0 → (a : ℕ) → TermAt s a p → Clear gap (a + i) (a + i + size u) (places x p a)) where
    clear-node : (at : ℕ) → TermAt s at t → (b : Bool) → is_var x t ≡ b
        → Clear gap (at + (length (head t) + (length (encode_all left) + i))) (at + (length (head t) + (length (encode_all left) + i)) + size u) (places x t at)
    clear-node at w true y = absurd (omega (arith, ap (λ (ts : List Term). length ts) (sym (var-parts x t y) ∙ e), length-append left (p ∷ right)))
    clear-node at w false y =
        let h : ℕ = at + length (head t) in
        let a : ℕ = h + length (encode_all left) in
        let r : TermsAt s h (length (left ++ p ∷ right)) (left ++ p ∷ right) = rw e at (at-parts s at t w h (length (parts t)) refl refl) in
        let d : at + (length (head t) + (length (encode_all left) + i)) ≡ a + i = omega arith in
        let g : places x t at ≡ places_all x (hides x t) (left ++ p ∷ right) h = node-places x t at y ∙ ap (λ (ts : List Term). places_all x (hides x t) ts h) e in
        rw (d, g)
        (clear-row (a + i) (a + i + size u) (hides x t) h (length (left ++ p ∷ right)) left p right r (omega arith) (omega (arith, part-ends x q))
        (λ v. covered (hidden (mask_behind (hides x t) left)) c u p a (a + i) (a + i + size u) none (λ z. f z a v)))

  clear : {t : Term} {i : ℕ} {c : Bool} {u : Term} → PartOf x t i c u → replaced_in x c u ≡ 0 → (at : ℕ) → TermAt s at t → Clear gap (at + i) (at + i + size u) (places x t at)
  clear (itself t) none at w = clear_none gap _ _ (places x t at) (places-many x t at ∙ none)
  clear (below t left p right e q) none at w = clear-node t left p right e q none (λ z a v. clear q z a v) at w (is_var x t) refl

-- request (x): a part in which nothing is replaced lies inside one of the runs
pub part-in-one-run : (x : Name) (t : Term) {i : ℕ} {c : Bool} {u : Term} → PartOf x t i c u → replaced_in x c u ≡ 0 → InOneRun i (i + size u) (runs (2 + length x) 0 (places x t 0) (size t))
part-in-one-run x t {i} {c} {u} q none =
    let z : 0 + i ≡ i = omega arith in
    inside (2 + length x) i (i + size u) 0 (places x t 0) (size t) (omega arith) (part-ends x q)
    (rw z at (clear (encode t) x q none 0 (whole t (encode t) refl)))

-- ---- what is moved

module _ (x : Name) (v t : Term) (out out' : Bytes) where
  joined_is : joined_runs (encode t) (encode v) (runs_of x t) ≡ encode (subst x v t)
  joined_is = joined-runs (encode t) (encode v) (2 + length x) 0 (places x t 0) (size t) ∙ spliced-term x v t (encode t) refl

  -- the term was written, and so much was moved for it
  pub runs_moved : Wrote out 0 (encode (subst x v t)) out' (size (subst x v t)) → MovesRuns x v t out out' (moved x v t)
  runs_moved w =
      let n = one-more-run (2 + length x) 0 (places x t 0) (size t) ∙ ap (λ (k : ℕ). k + 1) (places-many x t 0) in
      record { written = rw joined_is w; result = joined_is; runs = sym n; values = refl; many = n; whole = part-in-one-run x t }

  -- request (x), of what `splice` ensures: on the bytes of a term and the places of a name in it, it moves these runs and nothing else
  pub moves-runs : (y : Tally) → Splices (encode t) (places x t 0) (2 + length x) (encode v) out out' y → MovesRuns x v t out out' y
  moves-runs y w =
      let d : Wrote out 0 (encode (subst x v t)) out' y.past = rw (spliced-term x v t (encode t) refl) at w.written in
      let is : y ≡ moved x v t = tally-is y w.read (d.ends ∙ omega arith) (w.runs ∙ ap (λ (k : ℕ). k + 1) (places-many x t 0)) (w.values ∙ places-many x t 0) in
      rw is (runs_moved (rw is at d))

-- ---- a version that copies part by part, as the Rust does: each node that is not replaced is a run of its own

-- what a version of `splice` leaves in the output, and what it tells, for v in the place of x in t
abbrev Version : Type 0
Version = (x : Name) (v t : Term) (out : Bytes) → Bytes × Tally

-- it meets the contract: whatever the contract asks for, it leaves and tells what the contract says
abbrev Meets : Version → Type 0
Meets f =
    (x : Name) (v t : Term) (out : Bytes) → Splicing (encode t) (places x t 0) (2 + length x) (encode v) out
    → Splices (encode t) (places x t 0) (2 + length x) (encode v) out (f x v t out).0 (f x v t out).1

abbrev PartByPart : Version → Type 0
PartByPart f = (x : Name) (v t : Term) (out : Bytes) → (f x v t out).1.runs ≡ nodes t - occurrences x t

-- `!()` has two nodes, and one run
pub part-by-part-refused : (f : Version) → PartByPart f → Meets f → ⊥
unfolding nodes occurrences places encode spliced
part-by-part-refused f p m =
    let t : Term = one promote (leaf unit) in
    let x : Name = 120 ∷ [] in
    let out : Bytes = 0 ∷ 0 ∷ [] in
    omega (arith, p x t t out, (m x t t out (record { spaced = omega arith; room = omega arith })).runs)
