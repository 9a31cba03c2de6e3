-- What `locate` knows where it answers, by what the reader, `parts_at` and `skip` ensure; and what `child` and `child_fault` make of its answer.
-- Assumes nothing.
use Rattle.std.specs.Prelude.{Ok, Err}
use Rattle.std.specs.Result.{result_err}
use Prim.Native.Nat.{ℕ, ◌+◌, ◌-◌, ◌<◌, ◌≤◌}
use mathlib.Core.Path.{◌≡◌, refl, sym, ap, ◌∙◌}
use mathlib.Core.List.{List, []}
use mathlib.Core.Option.{Option}
use native.Mathlib.Omega.{arith}
use lib.ListN.{length, take, drop, get_elem?}
use Rattle.rules.specs.Basic.{Bytes}
use Rattle.rules.specs.Limits.{limits}
use Rattle.rules.specs.declared.Refusal.{Refusal}
use Rattle.rules.specs.Refusal.{Outcome}
use Rattle.rules.specs.declared.Reason.TheVariants.{NoSuchChild}
use Rattle.rules.specs.Name.{encode_names}
use Rattle.rules.specs.Term.{Term, nodes, names, parts}
use Rattle.rules.specs.Reading.{read_term}
use Rattle.rules.specs.declared.Places.{Places}
use Rattle.rules.specs.Calls.{check_term_call, places_from, or_no_child, locate_call, child_call, child_start, child_fault_call, fault_of}
use Rattle.laws.specs.reading.Decoding.{term-sound}
use Rattle.reader.specs.Accepted.{accepts, refuses}
use Rattle.term.specs.Node.{head}
use Rattle.term.specs.Place.{TermAt, TermsAt}
use Rattle.term.specs.declared.node.Row.{Row}
use Rattle.term.proofs.node.Terms.{SkipIs, skip-one, some_alone, at-parts, whole}
use Rattle.term.specs.Child.{told}
use Rattle.term.proofs.child.Standing.{Picked, pick, none-at, in_order, within}

module _ (s : Bytes) (k : ℕ) where
  pub refused-term : (r : Refusal) → check_term_call limits s ≡ Err r → Err r ≡ locate_call limits s k
  unfolding check_term_call locate_call
  refused-term r e = rw (refuses nodes (read_term limits 1 s) e)

  module _ {n : ℕ} (e : check_term_call limits s ≡ Ok n) where
    -- what was read
    read : (t : Term) × (read_term limits 1 s ≡ Ok t) × TermAt s 0 t
    unfolding check_term_call
    read =
        let a = accepts nodes (read_term limits 1 s) e in
        (a.value, a.is, whole a.value s (term-sound limits 1 s a.value a.is).bytes)

    pub some_read : (t : Term) × TermAt s 0 t
    some_read = let a = read in (a.0, a.2)

    -- what `parts_at` ensures
    module _ (row : Row) (f : (t : Term) → TermAt s 0 t → (row.start ≡ 0 + length (head t)) × (row.parts ≡ length (parts t))) where
      placed-as : (o : Option Places) → get_elem? (places_from row.start (parts read.0)) k ≡ o → or_no_child o ≡ locate_call limits s k
      unfolding locate_call
      placed-as o h =
          let a = read in
          let z : row.start ≡ 1 + length (encode_names (names a.0)) = omega (arith, (f a.0 a.2).0) in
          rw (a.1, ← z, h)

      pub no-child : row.parts ≤ k → Err (record { reason = NoSuchChild; place = 0; input = 0 }) ≡ locate_call limits s k
      no-child h = let a = read in placed-as _ (none-at row.start k (parts a.0) (omega (arith, (f a.0 a.2).1)))

      module _ (h : k < row.parts) where
        row_here : TermsAt s row.start row.parts (parts read.0)
        row_here = let a = read in at-parts s 0 a.0 a.2 row.start row.parts (f a.0 a.2).0 (f a.0 a.2).1

        picked : Picked s row.start k (parts read.0)
        picked = pick s k row.start row.parts (parts read.0) row_here h

        pub some-before : (ts : List Term) × TermsAt s row.start k ts
        some-before = let p = picked in (p.before, p.here)

        module _ (a : ℕ) (g : SkipIs s row.start k a) where
          stands-there : TermAt s a picked.term
          stands-there = let p = picked in p.stands a (g p.before p.here)

          pub some-child : (ts : List Term) × TermsAt s a 1 ts
          some-child = some_alone s a (picked.term, stands-there)

          pub child-part : (b : ℕ) → SkipIs s a 1 b → Ok (record { from = a; end = b }) ≡ locate_call limits s k
          child-part b q =
              let p = picked in
              ap (λ (z : ℕ). Ok (record { from = a; end = z })) (skip-one s a b q p.term stands-there) ∙ placed-as _ (p.placed a (g p.before p.here))

-- ---- what was located

module _ (s : Bytes) (k : ℕ) (o : Outcome Places) (w : o ≡ locate_call limits s k) where
  module _ (p : Places) (e : o ≡ Ok p) where
    part_at : locate_call limits s k ≡ Ok p
    part_at = sym w ∙ e

    pub part-ordered : p.from ≤ p.end
    part-ordered = in_order limits s k _ part_at

    pub part-within : p.end ≤ length s
    part-within = within limits s k _ part_at

    pub part-is : take (p.end - p.from) (drop p.from s) ≡ child_call limits s k
    unfolding child_call
    part-is = rw part_at

    pub part-starts : p.from ≡ child_start limits s k
    unfolding child_start
    part-starts = rw part_at

  module _ (r : Refusal) (e : o ≡ Err r) where
    missing : locate_call limits s k ≡ Err r
    missing = sym w ∙ e

    pub missing-is : [] ≡ child_call limits s k
    unfolding child_call
    missing-is = rw missing

    pub missing-starts : 0 ≡ child_start limits s k
    unfolding child_start
    missing-starts = rw missing

  pub fault-told : result_err o ≡ told (child_fault_call limits s k)
  unfolding child_fault_call
  fault-told = rw w (go (locate_call limits s k))
    where
      go : (x : Outcome Places) → result_err x ≡ told (fault_of x)
      go (Ok p) = refl
      go (Err r) = refl
