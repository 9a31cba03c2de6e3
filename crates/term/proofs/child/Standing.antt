-- Child k stands where `locate_call` says: the k parts before it are passed, by induction on the row of parts. So its places are in order and within
-- the caller's bytes, and what stands there are its own bytes. Assumes nothing.
use Rattle.std.specs.Prelude.{Ok}
use Prim.Native.Nat.{ℕ, zero, suc, ◌+◌, ◌-◌, ◌<◌, ◌≤◌}
use mathlib.Core.Path.{◌≡◌, refl, sym, ap, ◌∙◌}
use mathlib.Core.List.{List, [], ◌∷◌, ◌++◌, append_assoc}
use mathlib.Core.Option.{Option, none, some}
use native.Mathlib.Omega.{arith}
use lib.ListN.{length, take, drop, get_elem?, length-append}
use lib.Seq.{take_at}
use Rattle.rules.specs.Basic.{Bytes}
use Rattle.rules.specs.Limits.{Limits}
use Rattle.rules.specs.Name.{encode_names}
use Rattle.rules.specs.Term.{Term, encode, size, names, parts}
use Rattle.rules.specs.Reading.{read_term}
use Rattle.rules.specs.declared.Places.{Places}
use Rattle.rules.specs.Calls.{places_from, part_places, or_no_child, locate_call, child_call}
use Rattle.laws.specs.Outcome.{good-first}
use Rattle.laws.specs.reading.Decoding.{term-sound}
use Rattle.term.specs.Node.{encode_all}
use Rattle.term.specs.Place.{TermAt, TermsAt}
use Rattle.term.proofs.node.Names.{drop_app}
use Rattle.term.proofs.node.Terms.{first, others, at-end, at-parts, whole}

-- k terms, and the next one after them
pub record Picked (s : Bytes) (i k : ℕ) (ts : List Term) : Type 0 where
  pub before : List Term
  pub here : TermsAt s i k before
  pub term : Term
  pub is : get_elem? ts k ≡ some term
  pub placed : (m : ℕ) → m ≡ i + length (encode_all before) → get_elem? (places_from i ts) k ≡ some (record { from = m; end = m + size term })
  pub stands : (m : ℕ) → m ≡ i + length (encode_all before) → TermAt s m term

pub pick : (s : Bytes) (k i n : ℕ) (ts : List Term) → TermsAt s i n ts → k < n → Picked s i k ts
pick s k i n [] w l = absurd (omega (arith, w.many))
pick s zero i n (t ∷ ts) w l =
    record {
      before = [];
      here = record { many = refl; rest = drop i s; bytes = refl };
      term = t;
      is = refl;
      placed = λ m e. let z : m ≡ i = omega (arith, e) in rw z refl;
      stands = λ m e. let z : m ≡ i = omega (arith, e) in rw z (first s i n t ts w);
    }
pick s (suc k) i n (t ∷ ts) w l =
    let o = others s i n t ts w (i + size t) refl in
    let r = pick s k (i + size t) (n - 1) ts o (omega arith) in
    let a = first s i n t ts w in
    let e : drop (i + size t) s ≡ a.rest = drop_app (encode t) a.rest s i (i + size t) a.bytes refl in
    let d : (m : ℕ) → m ≡ i + length (encode t ++ encode_all r.before) → m ≡ i + size t + length (encode_all r.before) = λ m em. omega (arith, em, length-append (encode t) (encode_all r.before)) in
    record {
      before = t ∷ r.before;
      here =
          record {
            many = ap suc r.here.many;
            rest = r.here.rest;
            bytes = a.bytes ∙ ap (λ (z : Bytes). encode t ++ z) (sym e ∙ r.here.bytes) ∙ sym (append_assoc (encode t) (encode_all r.before) r.here.rest);
          };
      term = r.term;
      is = r.is;
      placed = λ m em. r.placed m (d m em);
      stands = λ m em. r.stands m (d m em);
    }

pub none-at : (i k : ℕ) (ts : List Term) → length ts ≤ k → get_elem? (places_from i ts) k ≡ none
none-at i k [] h = refl
none-at i zero (t ∷ ts) h = absurd (omega (arith, h))
none-at i (suc k) (t ∷ ts) h = none-at (i + size t) k ts (omega arith)

-- a part that has places is there
pub some_at : (i k : ℕ) (ts : List Term) (p : Places) → get_elem? (places_from i ts) k ≡ some p → k < length ts
some_at i k [] p e = absurd (let z : ◌≡◌ {A = ℕ} 0 1 = cc in omega arith)
some_at i zero (t ∷ ts) p e = omega arith
some_at i (suc k) (t ∷ ts) p e = omega (arith, some_at (i + size t) k ts p e)

-- What stands between the two places: a part of the term that was read.
pub record Stands (L : Limits) (s : Bytes) (k : ℕ) (p : Places) : Type 0 where
  pub term : Term
  pub read : read_term L 1 s ≡ Ok term
  pub child : Term
  pub is : get_elem? (parts term) k ≡ some child
  pub here : TermAt s p.from child
  pub ends : p.end ≡ p.from + size child

-- where the parts of a term that is all of s stand
pub row_of : (s : Bytes) (t : Term) → TermAt s 0 t → TermsAt s (1 + length (encode_names (names t))) (length (parts t)) (parts t)
row_of s t w = at-parts s 0 t w (1 + length (encode_names (names t))) (length (parts t)) (omega arith) refl

has : (o : Option Places) (p : Places) → or_no_child o ≡ Ok p → o ≡ some p
has none p e = absurd (let z : ◌≡◌ {A = ℕ} 0 1 = cc in omega arith)
has (some q) p e = cc

module _ (L : Limits) (s : Bytes) (k : ℕ) (p : Places) where
  standing : (t : Term) → read_term L 1 s ≡ Ok t → get_elem? (part_places t) k ≡ some p → Picked s (1 + length (encode_names (names t))) k (parts t) → Stands L s k p
  standing t e f c =
      let m = 1 + length (encode_names (names t)) + length (encode_all c.before) in
      let q : (record { from = m; end = m + size c.term }) ≡ p = cc (c.placed m refl, f) in
      record { term = t; read = e; child = c.term; is = c.is; here = rw (← q) (c.stands m refl); ends = rw (← q) refl }

  pub located : locate_call L s k ≡ Ok p → Stands L s k p
  unfolding locate_call
  located h =
      let (t, e, g) = good-first (read_term L 1 s) _ p h in
      let f = has (get_elem? (part_places t) k) p g in
      let w = whole t s (term-sound L 1 s t e).bytes in
      standing t e f (pick s k _ (length (parts t)) (parts t) (row_of s t w) (some_at _ k (parts t) p f))

  module _ (h : locate_call L s k ≡ Ok p) where
    pub in_order : p.from ≤ p.end
    in_order = omega (arith, (located h).ends)

    pub within : p.end ≤ length s
    within = let w = located h in omega (arith, w.ends, at-end s p.from w.child w.here)

    -- so the part that is handed back is that child's bytes
    pub bytes_of : child_call L s k ≡ encode (located h).child
    unfolding child_call
    bytes_of =
        let w = located h in
        rw h (ap (λ (z : Bytes). take (p.end - p.from) z) w.here.bytes ∙ take_at (encode w.child) w.here.rest (p.end - p.from) (omega (arith, w.ends)))
