-- A walk in steps: bytes that are passed, words that are printed, parts that a call printed. Each takes a task to what is left of it,
-- and what finishes the rest finishes the whole.
-- Assumes nothing.
use Rattle.std.specs.Prelude.{ℕ, ◌+◌, ◌*◌, ◌/◌, ◌%◌, ◌<◌, ◌≤◌, ◌≡◌, List, [], ◌∷◌, ◌++◌, length, get_or, take, drop}
use Rattle.std.proofs.Common.{sym, ap, ◌∙◌, append_assoc, append-nil, add-zero, arith, length-append, length-drop, get_or-drop, drop-drop}
use Rattle.std.proofs.Math.Seq.{drop-append_seam, take-append_seam}
use Rattle.rules.specs.Name.{Name, encode_name}
use Rattle.words.specs.Prints.{Prints}
use Rattle.words.specs.Task.{Task, Done, places}

pub chain : {out : List ℕ} {to : ℕ} {xs o : List ℕ} {p : ℕ} {ys o' : List ℕ} {q : ℕ} → Prints out to xs o p → Prints o p ys o' q → Prints out to (xs ++ ys) o' q
chain {out} {to} {xs} {o} {p} {ys} {o'} {q} a b =
    record {
      long = b.long ∙ a.long;
      ends = omega (arith, a.ends, b.ends, length-append xs ys);
      holds = b.holds ∙ ap (λ (l : List ℕ). l ++ ys) a.holds ∙ append_assoc (take to out) xs ys;
    }

at_places : (a t : ℕ) → a < 65536 → (t * 65536 + a) % 65536 ≡ a
at_places a t h = omega arith

to-places : (a t : ℕ) → a < 65536 → (t * 65536 + a) / 65536 ≡ t
to-places a t h = omega arith

pub finish : {at : ℕ} {out : List ℕ} {to : ℕ} {e x o : List ℕ} {p r : ℕ} → Prints out to x o p → r ≡ places (at + length e) (to + length x) → Done at out to e x o r
finish a h = record { ends = h; prints = rw (← a.ends) a }

-- where the bytes end
pub ends-in : {s : List ℕ} {at : ℕ} {out : List ℕ} {to : ℕ} {e x : List ℕ} → Task s at out to e x → at + length e ≤ length s
ends-in {s} {at} {out} {to} {e} {x} t = omega (arith, t.inside, ap length t.bytes, length-drop at s, length-append e t.rest)

pub first_byte : {s : List ℕ} {at : ℕ} {out : List ℕ} {to b : ℕ} {e x : List ℕ} → Task s at out to (b ∷ e) x → get_or s at 0 ≡ b
first_byte {s} {at} {out} {to} {b} {e} {x} t =
    sym (ap (λ (i : ℕ). get_or s i 0) (add-zero at)) ∙ sym (get_or-drop at s 0 0) ∙ ap (λ (l : List ℕ). get_or l 0 0) t.bytes

pub passed : {s : List ℕ} {at : ℕ} {out : List ℕ} {to : ℕ} (b : List ℕ) {e x : List ℕ} → Task s at out to (b ++ e) x → Task s (at + length b) out to e x
passed {s} {at} {out} {to} b {e} {x} t =
    record {
      inside = omega (arith, ends-in t, length-append b e);
      rest = t.rest;
      bytes = sym (drop-drop (length b) at s) ∙ ap (drop (length b)) (t.bytes ∙ append_assoc b e t.rest) ∙ drop-append_seam b (e ++ t.rest);
      room = t.room;
      short = t.short;
      low = t.low;
    }

pub printed : {s : List ℕ} {at : ℕ} {out : List ℕ} {to : ℕ} {e : List ℕ} (w : List ℕ) {x o : List ℕ} {p : ℕ}
    → Task s at out to e (w ++ x) → Prints out to w o p → Task s at o p e x
printed {s} {at} {out} {to} {e} w {x} {o} {p} t a =
    record {
      inside = t.inside;
      rest = t.rest;
      bytes = t.bytes;
      room = omega (arith, t.room, a.long, a.ends, length-append w x);
      short = t.short;
      low = omega (arith, t.low, a.ends, length-append w x);
    }

-- the first of two parts
pub part_of : {s : List ℕ} {at : ℕ} {out : List ℕ} {to : ℕ} (e e' x x' : List ℕ) → Task s at out to (e ++ e') (x ++ x') → Task s at out to e x
part_of e e' x x' t =
    record {
      inside = t.inside;
      rest = e' ++ t.rest;
      bytes = t.bytes ∙ append_assoc e e' t.rest;
      room = omega (arith, t.room, length-append x x');
      short = t.short;
      low = omega (arith, t.low, length-append x x');
    }

module _ {s : List ℕ} {at : ℕ} {out : List ℕ} {to : ℕ} (e e' x x' : List ℕ) {o : List ℕ} {r : ℕ}
    (t : Task s at out to (e ++ e') (x ++ x')) (d : Done at out to e x o r) where
  low : at + length e < 65536
  low = omega (arith, ends-in t, t.short, length-append e e')

  pub part_end : r % 65536 ≡ at + length e
  part_end = ap (λ (n : ℕ). n % 65536) d.ends ∙ at_places (at + length e) (to + length x) low

  to_end : r / 65536 ≡ to + length x
  to_end = ap (λ (n : ℕ). n / 65536) d.ends ∙ to-places (at + length e) (to + length x) low

  pub after-part : Task s (r % 65536) o (r / 65536) e' x'
  after-part = rw (part_end, to_end) (printed x (passed e t) d.prints)

  pub part_then : {o' : List ℕ} {r' : ℕ} → Done (r % 65536) o (r / 65536) e' x' o' r' → Done at out to (e ++ e') (x ++ x') o' r'
  part_then {o'} {r'} d' =
      let q : Done (at + length e) o (to + length x) e' x' o' r' = rw (part_end, to_end) at d' in
      finish (chain d.prints q.prints) (omega (arith, q.ends, length-append e e', length-append x x'))

pub pass-then : {at : ℕ} {out : List ℕ} {to : ℕ} (b e : List ℕ) {x o : List ℕ} {r : ℕ} → Done (at + length b) out to e x o r → Done at out to (b ++ e) x o r
pass-then b e d = finish d.prints (omega (arith, d.ends, length-append b e))

pub print-then : {at : ℕ} {out : List ℕ} {to : ℕ} {e w x o : List ℕ} {p : ℕ} {o' : List ℕ} {r : ℕ}
    → Prints out to w o p → Done at o p e x o' r → Done at out to e (w ++ x) o' r
print-then {e = e} {w} {x} a d = finish (chain a d.prints) (omega (arith, a.ends, d.ends, length-append w x))

-- the last word
pub print-last : {at : ℕ} {out : List ℕ} {to : ℕ} {w o : List ℕ} {p r : ℕ} → Prints out to w o p → r ≡ places at p → Done at out to [] w o r
print-last a h = finish a (omega (arith, a.ends))

-- nothing more is to be passed
pub no_more : {s : List ℕ} {at : ℕ} {out : List ℕ} {to : ℕ} {e x : List ℕ} → Task s at out to e x → Task s at out to (e ++ []) x
no_more {e = e} t = rw (append-nil e) t

pub no-more-done : {at : ℕ} {out : List ℕ} {to : ℕ} (e : List ℕ) {x o : List ℕ} {r : ℕ} → Done at out to (e ++ []) x o r → Done at out to e x o r
no-more-done e d = rw (append-nil e) at d

-- the same bytes
pub spelt : {s : List ℕ} {at : ℕ} {out : List ℕ} {to : ℕ} {e e' x : List ℕ} → e ≡ e' → Task s at out to e x → Task s at out to e' x
spelt q t = rw (← q) t

-- the same text
pub told : {s : List ℕ} {at : ℕ} {out : List ℕ} {to : ℕ} {e x x' : List ℕ} → x ≡ x' → Task s at out to e x → Task s at out to e x'
told q t = rw (← q) t

pub told-done : {at : ℕ} {out : List ℕ} {to : ℕ} {e x x' o : List ℕ} {r : ℕ} → x ≡ x' → Done at out to e x o r → Done at out to e x' o r
told-done q d = rw (← q) d

-- The name x stands in s at `at`, as its length and itself.
pub record Named (s : List ℕ) (at : ℕ) (x : Name) : Type 0 where
  pub long : get_or s at 0 ≡ length x
  pub fits : at + 1 + length x ≤ length s
  pub is : take (length x) (drop (at + 1) s) ≡ x

pub named : {s : List ℕ} {at : ℕ} {out : List ℕ} {to : ℕ} (x : Name) (e : List ℕ) {y : List ℕ} → Task s at out to (encode_name x ++ e) y → Named s at x
named {s} {at} {out} {to} x e {y} t =
    let u : Task s (at + 1) out to (x ++ e) y = passed (length x ∷ []) t in
    record {
      long = first_byte t;
      fits = omega (arith, ends-in u, length-append x e);
      is = ap (take (length x)) (u.bytes ∙ append_assoc x e u.rest) ∙ take-append_seam x (e ++ u.rest);
    }
