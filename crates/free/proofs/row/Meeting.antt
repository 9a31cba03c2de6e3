-- A variable met: it is found already, a binder passed covers it, or it is put into the row. Assumes nothing.
use Prim.Native.Nat.{ℕ, ◌+◌, ◌-◌, ◌<◌, ◌≤◌}
use mathlib.Core.Path.{◌≡◌, refl, sym, ◌∙◌}
use mathlib.Core.Bool.{Bool, true, false}
use mathlib.Core.Logic.{inl, inr}
use mathlib.Core.List.{List}
use native.Mathlib.Omega.{arith}
use lib.ListN.{length, get_or, set, take}
use Rattle.std.specs.Prelude.{if◌then◌else◌, None, Ok, Err}
use Rattle.rules.specs.Basic.{Bytes}
use Rattle.rules.specs.Name.{Name, same, among}
use Rattle.rules.specs.Free.{insert}
use Rattle.term.specs.Place.{NameAt}
use Rattle.free.specs.Ordered.{ordered-insert}
use Rattle.free.specs.Search.{at, among-at, insert-there}
use Rattle.free.specs.Rows.{binders, Scanned, Sought, Goes, Opened}
use Rattle.free.specs.State.{State, Live, Meets, Met}
use Rattle.free.proofs.slot.Scanning.{binder-at}
use Rattle.free.proofs.slot.Opening.{held-opened}
use Rattle.free.proofs.row.States.{held-taken, noted, beyond-kept}

abbrev pub Some : Bytes → ℕ → List ℕ → ℕ → ℕ → Type 0
Some s p row low n = (x : Name) × (xs : List Name) × (l : List Name) × Meets s p row low n x xs l

-- meeting x changes nothing
abbrev pub Kept : Name → List Name → List Name → Type 0
Kept x xs l = (if among x xs then l else insert x l) ≡ l

kept-found : (x : Name) (xs l : List Name) → insert x l ≡ l → Kept x xs l
kept-found x xs l e = go (among x xs)
  where
    go : (b : Bool) → (if b then l else insert x l) ≡ l
    go true = refl
    go false = e

kept-bound : (x : Name) (xs l : List Name) → among x xs ≡ true → Kept x xs l
kept-bound x xs l e = rw e

-- ---- a guess

module _ (s : Bytes) (p : ℕ) (row : List ℕ) (low n g : ℕ) where
  pub guess-names : Live g low n → Some s p row low n → (x : Name) × (y : Name) × NameAt s p x × NameAt s (get_or row g 0) y
  guess-names (inl h) (x, xs, l, w) = (x, at l g, w.name, w.state.found.each g h)
  guess-names (inr h) (x, xs, l, w) = (x, at xs (g - low), w.name, binder-at s row low g xs w.state.passed h.0 h.1)

  pub guess-kept : Live g low n → (c : Bool) → ((x y : Name) → NameAt s p x → NameAt s (get_or row g 0) y → c ≡ same x y)
      → (x : Name) (xs l : List Name) → Meets s p row low n x xs l → c ≡ true → Kept x xs l
  guess-kept (inl h) c f x xs l w e =
      kept-found x xs l (insert-there x l w.state.ordered g (omega (arith, w.state.found.many)) (sym (f x (at l g) w.name (w.state.found.each g h)) ∙ e))
  guess-kept (inr h) c f x xs l w e =
      kept-bound x xs l
      (among-at x xs (g - low) (omega (arith, h, w.state.passed.many)) (sym (f x (at xs (g - low)) w.name (binder-at s row low g xs w.state.passed h.0 h.1)) ∙ e))

-- ---- the outcome

module _ {s : Bytes} {p : ℕ} {row : List ℕ} {low n : ℕ} {x : Name} {xs l : List Name} (w : Meets s p row low n x xs l) where
  pub sought : Sought s p (take n row) (length (take n row)) x l
  sought = record { name = w.name; held = held-taken w.state.found; ordered = w.state.ordered }

  pub met-kept : Kept x xs l → Met s row low n x xs l n
  met-kept e = record { state = rw e w.state; few = omega arith }

  -- a name found stands before the guesses
  pub before-guesses : (i : ℕ) → i ≤ length l → i < binders
  before-guesses i h = omega (arith, w.state.found.many, w.room, w.state.passed.many)

  pub met-there : (i : ℕ) → Goes x l (Ok i) → Met s row low n x xs l n
  met-there i h = met-kept (kept-found x xs l h.1)

  module _ (i : ℕ) (h : Goes x l (Err i)) (u : Scanned x xs None) {row' : List ℕ} (o : Opened row row' n i p) (long : length row' ≡ length row) where
    put : State s row' low (n + 1) xs (insert x l)
    put =
        record {
          passed = beyond-kept w.state.passed w.room o;
          found =
              rw h.1 (held-opened x l i h.0 s row row' n p w.state.found w.name (omega (arith, w.room, w.state.passed.many, w.state.long)) long o);
          ordered = ordered-insert x l w.state.ordered;
          short = w.state.short;
          long = omega (arith, w.state.long);
        }

    pub met-new : Met s row' low n x xs l (n + 1)
    met-new = record { state = rw u put; few = omega arith }

  -- a guess kept changes nothing of what is held
  pub met-noted : {row' : List ℕ} {r : ℕ} → Met s row' low n x xs l r → (g v : ℕ) → binders ≤ g → Met s (set row' g v) low n x xs l r
  met-noted m g v b = record { state = noted m.state g v b (omega (arith, m.few, w.room)); few = m.few }
