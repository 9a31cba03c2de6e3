-- A turn of the loop that splices: a run of bytes, then the value; each is counted. Assumes nothing.
use Prim.Native.Nat.{ℕ, ◌+◌, ◌-◌, ◌<◌, ◌≤◌}
use mathlib.Core.Path.{◌≡◌, refl, ap, ◌∙◌}
use mathlib.Core.List.{List, [], ◌∷◌, ◌++◌}
use native.Mathlib.Numerals.{add-one}
use native.Mathlib.Omega.{arith}
use lib.ListN.{length, drop, get_or, length-append, drop_of_length-le}
use lib.Seq.{slice, length-slice, drop-cons}
use Rattle.rules.specs.Basic.{Bytes}
use Rattle.buffer.specs.Wrote.{Wrote}
use Rattle.buffer.specs.Writing.{chain, wrote-length}
use Rattle.substitution.specs.Tally.{NothingYet, OneRun, OneValue}
use Rattle.substitution.specs.Spliced.{spliced, Spaced, Splicing, Splices}
use Rattle.substitution.specs.declared.tally.Tally.{Tally}

-- what is left to write of s from i on, with v at the places ps, and room for it in out from o on
record Left (s : Bytes) (ps : List ℕ) (gap : ℕ) (v : Bytes) (i : ℕ) (out : Bytes) (o : ℕ) : Type 0 where
  spaced : Spaced gap i ps (length s)
  room : o + length (spliced s v gap i ps (length s)) ≤ length out

-- what `splice` writes, from a place on
abbrev SpliceIs : Bytes → List ℕ → ℕ → Bytes → ℕ → Bytes → ℕ → ℕ → Bytes → Type 0
SpliceIs s ps gap v i out o past out' = Wrote out o (spliced s v gap i ps (length s)) out' past

-- s is written up to where it is read, with the first k places; whatever the rest gives, the whole gives
pub record Going (s : Bytes) (ps : List ℕ) (gap : ℕ) (v out₀ out : Bytes) (t : Tally) (k : ℕ) : Type 0 where
  left : Left s (drop k ps) gap v t.read out t.past
  pub same : length out ≡ length out₀
  most : k ≤ length ps
  runs : t.runs ≡ k
  values : t.values ≡ k
  rest : (past : ℕ) (out' : Bytes) → SpliceIs s (drop k ps) gap v t.read out t.past past out' → SpliceIs s ps gap v 0 out₀ 0 past out'

pub begin : {s : Bytes} {ps : List ℕ} {gap : ℕ} {v out : Bytes} {t : Tally} → Splicing s ps gap v out → NothingYet t → Going s ps gap v out out t 0
begin {s} {ps} {gap} {v} {out} {t} w z =
    record {
      left =
          record {
            spaced = rw z.read w.spaced;
            room = rw (z.read, z.past) (omega (arith, w.room));
          };
      same = refl;
      most = omega arith;
      runs = z.runs;
      values = z.values;
      rest = λ past out' f. rw (z.read, z.past) at f;
    }

pub spaced-end : (gap i : ℕ) (ps : List ℕ) (end : ℕ) → Spaced gap i ps end → i ≤ end
spaced-end gap i [] end w = w
spaced-end gap i (p ∷ ps) end w = omega (arith, spaced-end gap (p + gap) ps end w.1, w.0)

-- the run up to the next place, the value, and what is left behind it
module _ {s : Bytes} {gap : ℕ} {v : Bytes} {i : ℕ} {out : Bytes} {o p : ℕ} {ps : List ℕ} (w : Left s (p ∷ ps) gap v i out o) where
  record Ahead : Type 0 where
    from : i ≤ p
    within : p + gap ≤ length s
    room : o + ((p - i) + (length v + length (spliced s v gap (p + gap) ps (length s)))) ≤ length out

  ahead : Ahead
  unfolding spliced
  ahead =
      let e = spaced-end gap (p + gap) ps (length s) w.spaced.1 in
      record {
        from = w.spaced.0;
        within = e;
        room = omega (arith, w.room, length-append (slice i p s) (v ++ spliced s v gap (p + gap) ps (length s)), length-append v (spliced s v gap (p + gap) ps (length s)), length-slice i p s (omega (arith, e)));
      }

  module _ {out₁ : Bytes} {o₁ : ℕ} (a : Wrote out o (slice i p s) out₁ o₁) where
    past-run : o₁ ≡ o + (p - i)
    past-run = let r = ahead in omega (arith, a.ends, length-slice i p s (omega (arith, r.within)))

    module _ {out₂ : Bytes} {o₂ : ℕ} (b : Wrote out₁ o₁ v out₂ o₂) where
      behind : Left s ps gap v (p + gap) out₂ o₂
      behind =
          let r = ahead in
          record { spaced = w.spaced.1; room = omega (arith, r.room, past-run, b.ends, wrote-length a, wrote-length b) }

      joined : (past : ℕ) (out' : Bytes) → SpliceIs s ps gap v (p + gap) out₂ o₂ past out' → SpliceIs s (p ∷ ps) gap v i out o past out'
      unfolding spliced
      joined past out' f = chain a (chain b f)

module _ {s : Bytes} {ps : List ℕ} {gap : ℕ} {v out₀ out : Bytes} {t : Tally} {k : ℕ} (g : Going s ps gap v out₀ out t k) where
  module _ (l : k < length ps) where
    abbrev p : ℕ
    p = get_or ps k 0

    next-is : drop k ps ≡ p ∷ drop (k + 1) ps
    next-is = rw add-one (drop-cons ps k 0 l)

    next : Left s (p ∷ drop (k + 1) ps) gap v t.read out t.past
    next = rw next-is at g.left

    pub run_room : (t.read ≤ p) × (p ≤ length s) × (t.past + (p - t.read) ≤ length out) × (t.runs ≡ k)
    run_room = let r = ahead next in (r.from, omega (arith, r.within), omega (arith, r.room), g.runs)

    module _ {out₁ : Bytes} {t₁ : Tally} (a : OneRun s p out out₁ t t₁) where
      pub value_room : (t₁.read + gap ≤ length s) × (t₁.past + length v ≤ length out₁) × (t₁.values ≡ k)
      value_room =
          let r = ahead next in (
            omega (arith, r.within, a.read),
            omega (arith, r.room, past-run next a.written, wrote-length a.written),
            a.values ∙ g.values,
          )

      pub turn : {out₂ : Bytes} {t₂ : Tally} → OneValue v gap out₁ out₂ t₁ t₂ → Going s ps gap v out₀ out₂ t₂ (k + 1)
      turn {out₂} {t₂} b =
          let e : t₂.read ≡ p + gap = b.read ∙ ap (λ (n : ℕ). n + gap) a.read in
          record {
            left = rw e (behind next a.written b.written);
            same = wrote-length b.written ∙ wrote-length a.written ∙ g.same;
            most = omega arith;
            runs = omega (arith, b.runs, a.runs, g.runs);
            values = omega (arith, b.values, a.values, g.values);
            rest = λ past out' f. g.rest past out' (rw next-is (joined next a.written b.written past out' (rw e at f)));
          }

  -- after the last place
  module _ (l : length ps ≤ k) where
    none_left : drop k ps ≡ []
    none_left = drop_of_length-le ps l

    pub last-room : (t.read ≤ length s) × (t.past + (length s - t.read) ≤ length out) × (t.runs ≤ length ps)
    unfolding spliced
    last-room =
        let w : Left s [] gap v t.read out t.past = rw none_left at g.left in
        (w.spaced, omega (arith, w.room, length-slice t.read (length s) s (omega arith)), omega (arith, g.runs, g.most))

    pub done : {out' : Bytes} {t' : Tally} → OneRun s (length s) out out' t t' → Splices s ps gap v out₀ out' t'
    unfolding spliced
    done {out'} {t'} a =
        record {
          written = g.rest t'.past out' (rw none_left a.written);
          read = a.read;
          runs = omega (arith, a.runs, g.runs, g.most);
          values = omega (arith, a.values, g.values, g.most);
        }
