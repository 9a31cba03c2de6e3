-- A search by halves in a row of names in order: each comparison leaves the slot between two bounds. Assumes nothing.
use Prim.Native.Nat.{ℕ, ◌+◌, ◌<◌, ◌≤◌}
use mathlib.Core.Path.{◌≡◌, sym, ◌∙◌}
use mathlib.Core.Bool.{false}
use mathlib.Core.List.{List}
use native.Mathlib.Numerals.{add-one}
use native.Mathlib.Omega.{arith}
use lib.ListN.{length, get_or}
use Rattle.std.specs.Prelude.{Ok, Err}
use Rattle.std.specs.declared.cmp.Ordering.{Ordering}
use Rattle.std.specs.declared.cmp.Ordering.TheVariants.{Less, Equal, Greater}
use Rattle.rules.specs.Basic.{Bytes}
use Rattle.rules.specs.Name.{Name, same}
use Rattle.term.specs.Place.{NameAt}
use Rattle.laws.specs.free.Same.{same-turned}
use Rattle.free.specs.Search.{at, Between, go_right, go_left, insert-there, insert-new}
use Rattle.free.specs.Order.{order_of, is-before, is_same, is-after}
use Rattle.free.specs.Rows.{Sought, Goes}

-- the slot lies between lo and hi, and the name at hi is another
pub record Aimed (x : Name) (xs : List Name) (lo hi : ℕ) : Type 0 where
  pub between : Between x xs lo hi
  pub apart : hi < length xs → same x (at xs hi) ≡ false

abbrev pub Aims : Bytes → ℕ → List ℕ → ℕ → ℕ → ℕ → Type 0
Aims s p row n lo hi = (x : Name) (xs : List Name) → Sought s p row n x xs → Aimed x xs lo hi

module _ (s : Bytes) (p : ℕ) (row : List ℕ) (n m : ℕ) (l : m < n) where
  pub middle : ((x : Name) × (xs : List Name) × Sought s p row n x xs) → (y : Name) × (x : Name) × NameAt s (get_or row m 0) y × NameAt s p x
  middle (x, xs, w) = (at xs m, x, w.held.each m l, w.name)

  module _ (o : Ordering) (says : (y x : Name) → NameAt s (get_or row m 0) y → NameAt s p x → o ≡ order_of y x) where
    told : (x : Name) (xs : List Name) → Sought s p row n x xs → o ≡ order_of (at xs m) x
    told x xs w = says (at xs m) x (w.held.each m l) w.name

    module _ (lo hi : ℕ) (f : Aims s p row n lo hi) where
      pub aims-right : o ≡ Less → Aims s p row n (m + 1) hi
      aims-right e x xs w =
          let a = f x xs w in
          record {
            between = rw (add-one m) (go_right x xs w.ordered lo hi m a.between (omega (arith, w.held.many)) (is-before (at xs m) x (sym (told x xs w) ∙ e)));
            apart = a.apart;
          }

      pub aims-left : o ≡ Greater → Aims s p row n lo m
      aims-left e x xs w =
          let a = f x xs w in
          let d = is-after (at xs m) x (sym (told x xs w) ∙ e) in
          record {
            between = go_left x xs w.ordered lo hi m a.between (omega (arith, w.held.many)) d.0;
            apart = λ h. same-turned x (at xs m) ∙ d.1;
          }

    pub hits : o ≡ Equal → (x : Name) (xs : List Name) → Sought s p row n x xs → Goes x xs (Ok m)
    hits e x xs w =
        let l : m < length xs = omega (arith, w.held.many) in
        (l, insert-there x xs w.ordered m l (same-turned x (at xs m) ∙ is_same (at xs m) x (sym (told x xs w) ∙ e)))

-- nothing is left between the bounds
pub misses : (s : Bytes) (p : ℕ) (row : List ℕ) (n lo hi : ℕ) → lo ≤ hi → hi ≤ lo → hi ≤ n → Aims s p row n lo hi
    → (x : Name) (xs : List Name) → Sought s p row n x xs → Goes x xs (Err lo)
misses s p row n lo hi l m k f x xs w =
    let e : hi ≡ lo = omega arith in
    let a : Aimed x xs lo lo = rw e at (f x xs w) in
    let in-xs : lo ≤ length xs = omega (arith, w.held.many) in
    (in-xs, insert-new x xs lo in-xs a.between a.apart)
