-- Reduction with limit n + m is reduction with n and then with m, steps and counts added; what is left of a legal term is legal and is read
-- again; the counts add up to the steps. By induction on the limit. Assumes nothing.
use Prim.Native.Nat.{ℕ, zero, suc, ◌+◌}
use Rattle.std.specs.Prelude.{◌≡◌, Bool, true, Ok}
use Rattle.std.proofs.Math.Path.{refl, sym, ap}
use Rattle.std.proofs.Common.{ap₂, ◌∙◌, add-zero, zero-add, suc-add, add-suc}
use Rattle.rules.specs.Basic.{Bytes}
use Rattle.rules.specs.Limits.{Limits}
use Rattle.rules.specs.Legal.{Legal}
use Rattle.rules.specs.Term.{Term, encode, fits}
use Rattle.rules.specs.Reading.{read_term}
use Rattle.rules.specs.declared.Rule.{Rule}
use Rattle.rules.specs.declared.Rule.TheVariants.{App, Let, Case, Fst, Snd, Derelict, Copy, Discard}
use Rattle.rules.specs.declared.Counts.{Counts}
use Rattle.rules.specs.Step.{half_fits}
use Rattle.rules.specs.Reduction.{zero_counts, plus, Reduced, stopped, outgrew, reduce_from, reduce}
use Rattle.rules.specs.Calls.{work_room, reduce_ending, reduce_with, reduce_call}
use Rattle.laws.specs.free.Same.{both_true}
use Rattle.laws.specs.reading.Decoding.{term-sound, term-complete}
use Rattle.laws.specs.reading.Fits.{fits-accepted, accepted-fits}
use Rattle.laws.specs.step.StepLegal.{step-legal}
use Rattle.reduction.specs.Counted.{total, one_more}
use Rattle.reduction.specs.Turning.{last}
use Rattle.reduction.specs.Carried.{at-limit, at-normal, at_rest, at-found, at-over, Turn, rests, goes, outgrows, turn}

-- ---- added

abbrev pub sum : Counts → Counts → Counts
sum c d =
    record {
      app = c.app + d.app;
      lets = c.lets + d.lets;
      case = c.case + d.case;
      fst = c.fst + d.fst;
      snd = c.snd + d.snd;
      derelict = c.derelict + d.derelict;
      copy = c.copy + d.copy;
      discard = c.discard + d.discard;
    }

-- a reduction that comes after n steps with the counts c
abbrev pub after : (n : ℕ) → Counts → Reduced → Reduced
after n c (stopped m d b t) = stopped (n + m) (sum c d) b t
after n c (outgrew m t) = outgrew (n + m) t

-- a reduction with limit m of what the first leaves; if that outgrew there is no second
abbrev pub further : Limits → (m : ℕ) → Reduced → Reduced
further L m (stopped n c b t) = after n c (reduce L m t)
further L m (outgrew n t) = outgrew n t

sum-none : (c : Counts) → sum c zero_counts ≡ c
sum-none c = simp add-zero

sum-plus : (r : Rule) (c d : Counts) → sum c (plus r d) ≡ plus r (sum c d)
sum-plus App c d = simp add-suc
sum-plus Let c d = simp add-suc
sum-plus Case c d = simp add-suc
sum-plus Fst c d = simp add-suc
sum-plus Snd c d = simp add-suc
sum-plus Derelict c d = simp add-suc
sum-plus Copy c d = simp add-suc
sum-plus Discard c d = simp add-suc

module _ (L : Limits) where
  abbrev Shifts : ℕ → Type 0
  Shifts limit = (n m : ℕ) (c d : Counts) (t : Term) → reduce_from L limit (n + m) (sum c d) t ≡ after n c (reduce_from L limit m d t)

  shift : (limit : ℕ) → Shifts limit → (n m : ℕ) (c d : Counts) (t : Term) → Turn L t → reduce_from L (suc limit) (n + m) (sum c d) t ≡ after n c (reduce_from L (suc limit) m d t)
  shift limit go n m c d t (rests e) = at-normal L (n + m) (sum c d) t limit e ∙ ap (after n c) (sym (at-normal L m d t limit e))
  shift limit go n m c d t (goes r p h u e f) =
      at-found L (n + m) (sum c d) t limit r p h u e f
      ∙ ap₂ (λ (k : ℕ) (x : Counts). reduce_from L limit k x u) (sym (add-suc n m)) (sym (sum-plus r c d))
      ∙ go n (suc m) c (plus r d) u
      ∙ ap (after n c) (sym (at-found L m d t limit r p h u e f))
  shift limit go n m c d t (outgrows r p h u e f) = at-over L (n + m) (sum c d) t limit r p h u e f ∙ ap (after n c) (sym (at-over L m d t limit r p h u e f))

  -- what was done before only adds
  shifted : (limit : ℕ) → Shifts limit
  shifted zero n m c d t = at-limit L (n + m) (sum c d) t ∙ ap (after n c) (sym (at-limit L m d t))
  shifted (suc limit) n m c d t = shift limit (shifted limit) n m c d t (turn L t)

  pub from_start : (limit n : ℕ) (c : Counts) (t : Term) → reduce_from L limit n c t ≡ after n c (reduce L limit t)
  from_start limit n c t =
      ap₂ (λ (k : ℕ) (e : Counts). reduce_from L limit k e t) (sym (add-zero n)) (sym (sum-none c)) ∙ shifted limit n 0 c zero_counts t

  onward : (m : ℕ) → Reduced → Reduced
  onward m (stopped k c b t) = reduce_from L m k c t
  onward m (outgrew k t) = outgrew k t

  abbrev Divides : (n m : ℕ) → Type 0
  Divides n m = (k : ℕ) (c : Counts) (t : Term) → reduce_from L (n + m) k c t ≡ onward m (reduce_from L n k c t)

  divide : (n m : ℕ) → Divides n m → (k : ℕ) (c : Counts) (t : Term) → Turn L t → reduce_from L (suc (n + m)) k c t ≡ onward m (reduce_from L (suc n) k c t)
  unfolding onward
  divide n m go k c t (rests e) = at-normal L k c t (n + m) e ∙ sym (at_rest L k c t m e) ∙ ap (onward m) (sym (at-normal L k c t n e))
  divide n m go k c t (goes r p h u e f) = at-found L k c t (n + m) r p h u e f ∙ go (suc k) (plus r c) u ∙ ap (onward m) (sym (at-found L k c t n r p h u e f))
  divide n m go k c t (outgrows r p h u e f) = at-over L k c t (n + m) r p h u e f ∙ ap (onward m) (sym (at-over L k c t n r p h u e f))

  divided : (n m : ℕ) → Divides n m
  unfolding onward
  divided zero m k c t = ap (λ (l : ℕ). reduce_from L l k c t) (zero-add m) ∙ ap (onward m) (sym (at-limit L k c t))
  divided (suc n) m k c t = ap (λ (l : ℕ). reduce_from L l k c t) (suc-add n m) ∙ divide n m (divided n m) k c t (turn L t)

  -- REDUCTION WITH LIMIT n + m
  pub n-then-m : (n m : ℕ) (t : Term) → reduce L (n + m) t ≡ further L m (reduce L n t)
  unfolding onward
  n-then-m n m t = divided n m 0 zero_counts t ∙ go (reduce L n t)
    where
      go : (d : Reduced) → onward m d ≡ further L m d
      go (stopped k c b u) = from_start m k c u
      go (outgrew k u) = refl

  -- the steps, and the counts that add up to them
  abbrev pub AddsUp : Reduced → Type 0
  AddsUp (stopped n c b t) = total c ≡ n
  AddsUp (outgrew n t) = Unit {0}

  abbrev Adds : ℕ → Type 0
  Adds limit = (n : ℕ) (c : Counts) (t : Term) → total c ≡ n → AddsUp (reduce_from L limit n c t)

  add_turn : (limit : ℕ) → Adds limit → (n : ℕ) (c : Counts) (t : Term) → total c ≡ n → Turn L t → AddsUp (reduce_from L (suc limit) n c t)
  add_turn limit go n c t q (rests e) = rw (at-normal L n c t limit e) q
  add_turn limit go n c t q (goes r p h u e f) = rw (at-found L n c t limit r p h u e f) (go (suc n) (plus r c) u (one_more r c ∙ ap suc q))
  add_turn limit go n c t q (outgrows r p h u e f) = rw (at-over L n c t limit r p h u e f) tt

  adds : (limit : ℕ) → Adds limit
  adds zero n c t q = rw (at-limit L n c t) q
  adds (suc limit) n c t q = add_turn limit (adds limit) n c t q (turn L t)

  pub counts-add-up : (limit : ℕ) (t : Term) → AddsUp (reduce L limit t)
  counts-add-up limit t = adds limit 0 zero_counts t refl

  -- what is left, of a legal term that fits
  record Kept (d : Reduced) : Type 0 where
    legal : Legal (last d)
    fits : fits L (last d) ≡ true

  abbrev Keeps : ℕ → Type 0
  Keeps limit = (n : ℕ) (c : Counts) (t : Term) → Legal t → fits L t ≡ true → Kept (reduce_from L limit n c t)

  keep-turn : (limit : ℕ) → Keeps limit → (n : ℕ) (c : Counts) (t : Term) → Legal t → fits L t ≡ true → Turn L t → Kept (reduce_from L (suc limit) n c t)
  keep-turn limit go n c t l g (rests e) = rw (at-normal L n c t limit e) (record { legal = l; fits = g })
  keep-turn limit go n c t l g (goes r p h u e f) =
      rw (at-found L n c t limit r p h u e f) (go (suc n) (plus r c) u (rw e at (step-legal t l)).1 (both_true (half_fits L h) (fits L u) f).1)
  keep-turn limit go n c t l g (outgrows r p h u e f) = rw (at-over L n c t limit r p h u e f) (record { legal = l; fits = g })

  keeps : (limit : ℕ) → Keeps limit
  keeps zero n c t l g = rw (at-limit L n c t) (record { legal = l; fits = g })
  keeps (suc limit) n c t l g = keep-turn limit (keeps limit) n c t l g (turn L t)

  -- WHAT IS LEFT IS LEGAL, and is read again
  pub left-legal : (limit : ℕ) (i : Bytes) (t : Term) → read_term L 1 i ≡ Ok t → Legal (last (reduce L limit t)) × (read_term L 1 (encode (last (reduce L limit t))) ≡ Ok (last (reduce L limit t)))
  left-legal limit i t e =
      let a = term-sound L 1 i t e in
      let k = keeps limit 0 zero_counts t a.legal (accepted-fits L i t a) in
      (k.legal, term-complete L 1 (encode (last (reduce L limit t))) (last (reduce L limit t)) (fits-accepted L (last (reduce L limit t)) k.legal k.fits))

-- THE CALL WITH LIMIT n + m: where the call with n stopped at u, it ends as the call with m on the bytes of u, with what was done before added.
pub record Twice (L : Limits) (i : Bytes) (n m : ℕ) (o s : Bytes) (k : ℕ) (c : Counts) (u : Term) : Type 0 where
  pub reads : read_term L 1 (encode u) ≡ Ok u
  pub second : reduce_call L (encode u) m o s ≡ reduce_with o s (reduce_ending (reduce L m u))
  pub both : reduce_call L i (n + m) o s ≡ reduce_with o s (reduce_ending (after k c (reduce L m u)))

module _ (L : Limits) (o s : Bytes) (w : work_room L o s ≡ true) where
  called : (i : Bytes) (t : Term) (limit : ℕ) → read_term L 1 i ≡ Ok t → reduce_call L i limit o s ≡ reduce_with o s (reduce_ending (reduce L limit t))
  unfolding reduce_call
  called i t limit e = rw (w, e)

  pub call-twice : (i : Bytes) (t : Term) (n m k : ℕ) (c : Counts) (b : Bool) (u : Term) → read_term L 1 i ≡ Ok t → reduce L n t ≡ stopped k c b u → Twice L i n m o s k c u
  call-twice i t n m k c b u e f =
      let r : read_term L 1 (encode u) ≡ Ok u = rw f at (left-legal L n i t e).1 in
      record {
        reads = r;
        second = called (encode u) u m r;
        both = called i t (n + m) e ∙ ap (λ (d : Reduced). reduce_with o s (reduce_ending d)) (n-then-m L n m t ∙ ap (further L m) f);
      }
