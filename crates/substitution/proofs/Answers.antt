-- The public call by its tests: short buffers, the readers in their order, then the work. Assumes nothing.
use Rattle.std.specs.Prelude.{Ok, Err}
use Prim.Native.Nat.{ℕ, ◌≤◌}
use mathlib.Core.Path.{◌≡◌, refl, sym, ap, ◌∙◌}
use mathlib.Core.Bool.{Bool, true, false}
use native.Mathlib.Omega.{arith}
use lib.ListN.{length, replicate}
use borrow.Author.Tests.{le-leb}
use Rattle.rules.specs.Basic.{Bytes}
use Rattle.rules.specs.Limits.{limits, output_room, scratch_room}
use Rattle.rules.specs.declared.Refusal.{Refusal}
use Rattle.rules.specs.Refusal.{Outcome, spares_scratch}
use Rattle.rules.specs.declared.Reason.TheVariants.{ShortBuffer}
use Rattle.rules.specs.Name.{Name}
use Rattle.rules.specs.Term.{Term, nodes, fits}
use Rattle.rules.specs.Substitution.{subst}
use Rattle.rules.specs.Reading.{read_term, read_name}
use Rattle.rules.specs.Buffers.{bytes_or, cleared}
use Rattle.rules.specs.Calls.{work_room, grown, substituted, substitute_call}
use Rattle.laws.specs.reading.Decoding.{term-sound, bare-name-sound}
use Rattle.laws.specs.reading.Numbers.{term-spares, name-spares}
use Rattle.substitution.specs.declared.Inputs.{Inputs}
use Rattle.substitution.specs.Work.{inputs, Job, Done}

module _ (term name value out scratch : Bytes) where
  -- what the call ensures of its answer, its output and its scratch
  abbrev pub Is : Outcome ℕ → Bytes → Bytes → Type 0
  Is a out' scratch' =
      (a ≡ (substitute_call limits term name value out scratch).answer)
      × ((out' ≡ (substitute_call limits term name value out scratch).output)
      × (scratch' ≡ (substitute_call limits term name value out scratch).scratch))

  pub too_short : (q : Refusal) → work_room limits out scratch ≡ false → q ≡ record { reason = ShortBuffer; place = 0; input = 0 } → Is (Err q) out scratch
  unfolding substitute_call
  too_short q h e = (rw h (ap Err e), (rw h, rw h))

  module _ (h : output_room limits ≤ length out) (k : scratch_room limits ≤ length scratch) where
    enough : work_room limits out scratch ≡ true
    enough = rw (le-leb (output_room limits) (length out) h) (le-leb (scratch_room limits) (length scratch) k)

    -- refused by a reader
    bad : (r : Refusal) → substituted limits term name value ≡ Err r → spares_scratch r.reason ≡ true → Is (Err r) out scratch
    unfolding substitute_call
    bad r e s = (rw (enough, e), (rw (enough, e), rw (enough, e, s)))

    pub bad-inputs : (r : Refusal) → inputs (read_term limits 1 term) (read_name 2 name) (read_term limits 3 value) ≡ Err r → Is (Err r) out scratch
    unfolding substituted
    bad-inputs r e = go (read_term limits 1 term) refl (read_name 2 name) refl (read_term limits 3 value) refl e
      where
        go : (a : Outcome Term) → read_term limits 1 term ≡ a → (b : Outcome Name) → read_name 2 name ≡ b → (c : Outcome Term) → read_term limits 3 value ≡ c
            → inputs a b c ≡ Err r → Is (Err r) out scratch
        go (Err q) p b p' c p'' d = let z : q ≡ r = cc in bad r (rw (p, z)) (term-spares limits 1 term r (p ∙ ap Err z))
        go (Ok t) p (Err q) p' c p'' d = let z : q ≡ r = cc in bad r (rw (p, p', z)) (name-spares 2 name r (p' ∙ ap Err z))
        go (Ok t) p (Ok x) p' (Err q) p'' d = let z : q ≡ r = cc in bad r (rw (p, p', p'', z)) (term-spares limits 3 value r (p'' ∙ ap Err z))
        go (Ok t) p (Ok x) p' (Ok v) p'' d = absurd (let z : ◌≡◌ {A = ℕ} 0 1 = cc in omega arith)

    -- all three are read
    pub record Ready (n m : ℕ) : Type 0 where
      pub t : Term
      pub v : Term
      pub job : Job term name value out n m t v
      pub is : substituted limits term name value ≡ grown limits (subst name v t)

    pub ready : (n m : ℕ) → inputs (read_term limits 1 term) (read_name 2 name) (read_term limits 3 value) ≡ Ok (record { nodes = n; added = m }) → Ready n m
    unfolding substituted
    ready n m e = go (read_term limits 1 term) refl (read_name 2 name) refl (read_term limits 3 value) refl e
      where
        go : (a : Outcome Term) → read_term limits 1 term ≡ a → (b : Outcome Name) → read_name 2 name ≡ b → (c : Outcome Term) → read_term limits 3 value ≡ c
            → inputs a b c ≡ Ok (record { nodes = n; added = m }) → Ready n m
        go (Err q) p b p' c p'' d = absurd (let z : ◌≡◌ {A = ℕ} 0 1 = cc in omega arith)
        go (Ok t) p (Err q) p' c p'' d = absurd (let z : ◌≡◌ {A = ℕ} 0 1 = cc in omega arith)
        go (Ok t) p (Ok x) p' (Err q) p'' d = absurd (let z : ◌≡◌ {A = ℕ} 0 1 = cc in omega arith)
        go (Ok t) p (Ok x) p' (Ok v) p'' d =
            let w = bare-name-sound 2 name x p' in
            let y : ◌≡◌ {A = Inputs} (record { nodes = nodes t; added = nodes v }) (record { nodes = n; added = m }) = cc in
            record {
              t = t;
              v = v;
              job =
                  record {
                    term_in = term-sound limits 1 term t p;
                    value_in = term-sound limits 3 value v p'';
                    count = ap (λ (x : Inputs). x.nodes) (sym y);
                    value-count = ap (λ (x : Inputs). x.added) (sym y);
                    out-room = h;
                  };
              is = rw (p, p', p'', w.0);
            }

    pub worked : (n m : ℕ) (r : Ready n m) (a : Outcome ℕ) (out' scratch' : Bytes) → Done name r.t r.v out scratch a out' scratch' → Is a out' scratch'
    unfolding substitute_call
    worked n m r a out' scratch' w =
        (rw (enough, r.is) w.says, (rw (enough, r.is) w.leaves, rw (enough, r.is) (w.clears ∙ either (fits limits (subst name r.v r.t)) refl)))
      where
        either : (b : Bool) → fits limits (subst name r.v r.t) ≡ b → replicate (length scratch) 0 ≡ cleared 0 scratch (bytes_or (grown limits (subst name r.v r.t))).says
        either true e = rw e
        either false e = rw e
