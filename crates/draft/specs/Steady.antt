-- The term of a part depends on its own rows alone: not on the depth, and not on what is written behind them. By induction on the depth, since a
-- row's parts come before it. Assumes nothing.
use Rattle.std.specs.Prelude.{ℕ, zero, suc, ◌+◌, ◌<◌, ◌≤◌, ◌≡◌, refl, List, length, take}
use Rattle.std.proofs.lemmas.List.{length-take-le, get_or-take}
use Rattle.std.proofs.Common.{sym, ap, ◌∙◌, arith}
use Rattle.rules.specs.Basic.{Bytes}
use Rattle.rules.specs.Term.{Term, two, leaf, unit, trivial, discard}
use Rattle.draft.specs.declared.row.Row.{Row}
use Rattle.draft.specs.Draft.{no_row, row_at, Rows, Drafts, drafted, Shape, shape_of, shaped, named, identity, wrapping, joining, discarding, letting, branching, copying}
use Rattle.draft.specs.Made.{Same, Small}

-- equal terms at a row's parts make equal terms
pub shaped-same : (s : Bytes) (r : Row) (f g : ℕ → Term) (k : Shape) → f r.first ≡ g r.first → f r.second ≡ g r.second → shaped s r f k ≡ shaped s r g k
shaped-same s r f g named e h = refl
shaped-same s r f g identity e h = refl
shaped-same s r f g discarding e h = ap (λ t. two discard (leaf unit) t) e
shaped-same s r f g letting e h = cc
shaped-same s r f g branching e h = cc
shaped-same s r f g copying e h = cc
shaped-same s r f g (wrapping k) e h = cc
shaped-same s r f g (joining k) e h = cc

pub drafted-same : (d e : ℕ) (s : Bytes) (ws ws' : List Row) (n : ℕ) → Rows ws n → Same n ws ws' → (i : ℕ) → i < n + 2 → i < d → i < e
    → drafted d s ws' i ≡ drafted e s ws i
unfolding drafted
drafted-same zero e s ws ws' n w q i h j k = absurd (omega arith)
drafted-same (suc d) zero s ws ws' n w q i h j k = absurd (omega arith)
drafted-same (suc d) (suc e) s ws ws' n w q zero h j k = refl
drafted-same (suc d) (suc e) s ws ws' n w q (suc zero) h j k = refl
drafted-same (suc d) (suc e) s ws ws' n w q (suc (suc i)) h j k =
    let l : i < n = omega arith in
    let a = w.firsts i l in
    let b = w.seconds i l in
    ap (λ r. shaped s r (drafted d s ws') (shape_of r.kind)) (q i l)
    ∙ shaped-same s (row_at ws i) (drafted d s ws') (drafted e s ws) (shape_of (row_at ws i).kind)
    (drafted-same d e s ws ws' n w q (row_at ws i).first (omega arith) (omega arith) (omega arith))
    (drafted-same d e s ws ws' n w q (row_at ws i).second (omega arith) (omega arith) (omega arith))

-- any depth over the part's number is enough
pub drafted-enough : (d e : ℕ) (s : Bytes) (ws : List Row) (n : ℕ) → Rows ws n → (i : ℕ) → i < n + 2 → i < d → i < e → drafted d s ws i ≡ drafted e s ws i
drafted-enough d e s ws n w i h j k = drafted-same d e s ws ws n w (λ _ _. refl) i h j k

-- every part is a term
pub drafts : (s : Bytes) (ws : List Row) (n i : ℕ) → Rows ws n → i < n + 2 → Drafts s ws n i (drafted (suc i) s ws i)
drafts s ws n i w h = record { rows = w; among = h; is = λ d k. drafted-enough d (suc i) s ws n w i h k (omega arith) }

-- and only one
pub drafts-one : {s : Bytes} {ws : List Row} {n i : ℕ} {t u : Term} → Drafts s ws n i t → Drafts s ws n i u → t ≡ u
drafts-one {s} {ws} {n} {i} x y = sym (x.is (suc i) (omega arith)) ∙ y.is (suc i) (omega arith)

-- the first two parts, with which a draft begins
at_unit : (s : Bytes) (ws : List Row) (d : ℕ) → 0 < d → drafted d s ws 0 ≡ leaf unit
unfolding drafted
at_unit s ws zero h = refl
at_unit s ws (suc d) h = refl

pub drafts-unit : {s : Bytes} {ws : List Row} {n : ℕ} → Rows ws n → Drafts s ws n 0 (leaf unit)
drafts-unit {s} {ws} w = record { rows = w; among = omega arith; is = at_unit s ws }

at-trivial : (s : Bytes) (ws : List Row) (d : ℕ) → 1 < d → drafted d s ws 1 ≡ leaf trivial
unfolding drafted
at-trivial s ws zero h = absurd (omega arith)
at-trivial s ws (suc d) h = refl

pub drafts-trivial : {s : Bytes} {ws : List Row} {n : ℕ} → Rows ws n → Drafts s ws n 1 (leaf trivial)
drafts-trivial {s} {ws} w = record { rows = w; among = omega arith; is = at-trivial s ws }

pub rows_none : (ws : List Row) → Rows ws 0
rows_none ws = record { room = omega arith; firsts = λ i h. absurd (omega arith); seconds = λ i h. absurd (omega arith) }

pub small-none : (ws : List Row) → Small ws 0
small-none ws = record { each = λ i h. absurd (omega arith) }

-- a part keeps its term when rows are written behind those that were there
pub drafts-still : {s : Bytes} {ws ws' : List Row} {n m i : ℕ} {t : Term} → Same n ws ws' → Rows ws' m → n ≤ m → Drafts s ws n i t → Drafts s ws' m i t
drafts-still {s} {ws} {ws'} {n} {m} {i} q w h x =
    let l = x.among in
    record { rows = w; among = omega arith; is = λ d k. drafted-same d d s ws ws' n x.rows q i l k k ∙ x.is d k }

-- the rows that are used say what all of them say
taken_at : (ws : List Row) (n k : ℕ) → k < n → row_at (take n ws) k ≡ row_at ws k
taken_at ws n k h = get_or-take n ws k no_row h

module _ {ws : List Row} {n : ℕ} (w : Rows ws n) where
  abbrev used : List Row
  used = take n ws

  pub used-long : length used ≡ n
  used-long = length-take-le n ws w.room

  pub rows_used : Rows used (length used)
  rows_used =
      record {
        room = omega arith;
        firsts = λ i h. let k : i < n = omega (arith, used-long) in rw (taken_at ws n i k) (w.firsts i k);
        seconds = λ i h. let k : i < n = omega (arith, used-long) in rw (taken_at ws n i k) (w.seconds i k);
      }

  pub small-used : Small ws n → Small used (length used)
  small-used m = record { each = λ i h. let k : i < n = omega (arith, used-long) in rw (taken_at ws n i k) (m.each i k) }

pub drafts-used : {s : Bytes} {ws : List Row} {n i : ℕ} {t : Term} → Drafts s ws n i t → Drafts s (take n ws) (length (take n ws)) i t
drafts-used {s} {ws} {n} x = drafts-still (taken_at ws n) (rows_used x.rows) (omega (arith, used-long x.rows)) x
