-- A turn of the loop that opens all blocks: a refusal ends it, a block's content goes behind what was gathered. Assumes nothing.
use Rattle.std.specs.Prelude.{ℕ, suc, ◌+◌, ◌-◌, ◌*◌, ◌≤◌, ◌<◌, ◌≡◌, refl, [], ◌++◌, length, take, drop, Ok, Err}
use Rattle.std.proofs.Common.{sym, ap, ◌∙◌, append_assoc, add-one, arith, length-append, length-drop, take_at, length-take-le}
use Rattle.std.proofs.lemmas.List.Edits.{sets-eq}
use Rattle.std.proofs.Math.Seq.{slice, length-slice}
use Rattle.rules.specs.Basic.{Bytes}
use Rattle.rules.specs.Limits.{Limits, block_bytes}
use Rattle.rules.specs.Refusal.{Outcome, mapped, ◌>>=◌}
use Rattle.rules.specs.declared.Refusal.{Refusal}
use Rattle.rules.specs.declared.Kind.{Kind}
use Rattle.rules.specs.Stored.{block_at, open_block, opened_blocks}
use Rattle.buffer.specs.Wrote.{Wrote}
use Rattle.stored.specs.Opening.{taken, OpenedBlock}
use Rattle.stored.specs.Blocks.{slice-part}

-- an outcome with bytes in front
abbrev pub behind : Bytes → Outcome Bytes → Outcome Bytes
behind s o = mapped (λ (r : Bytes). s ++ r) o

pub behind-nil : (o : Outcome Bytes) → o ≡ behind [] o
behind-nil (Ok s) = refl
behind-nil (Err r) = refl

behind-behind : (s t : Bytes) (o : Outcome Bytes) → behind s (behind t o) ≡ behind (s ++ t) o
behind-behind s t (Ok r) = ap Ok (sym (append_assoc s t r))
behind-behind s t (Err r) = refl

-- what stands up to the end of a run that was written
pub wrote-take : {out out' xs : Bytes} {at past : ℕ} → Wrote out at xs out' past → at + length xs ≤ length out → take past out' ≡ take at out ++ xs
wrote-take {out} {out'} {xs} {at} {past} w h =
    ap (λ (n : ℕ). take n out') w.ends
    ∙ ap (take (at + length xs)) (w.holds ∙ sets-eq xs out at h)
    ∙ take_at (take at out ++ xs) (drop (at + length xs) out) (at + length xs) (length-append (take at out) xs ∙ ap (λ (n : ℕ). n + length xs) (length-take-le at out (omega arith)))

pub block-at : (f : Bytes) (i : ℕ) → take (block_bytes * i + block_bytes - block_bytes * i) (drop (block_bytes * i) f) ≡ block_at f i
block-at f i = let q : block_bytes * i + block_bytes - block_bytes * i ≡ block_bytes = omega arith in ap (λ (n : ℕ). take n (drop (block_bytes * i) f)) q

pub length-block-at : (f : Bytes) (i : ℕ) → block_bytes * i + block_bytes ≤ length f → length (take (block_bytes * i + block_bytes - block_bytes * i) (drop (block_bytes * i) f)) ≡ block_bytes
length-block-at f i h = length-take-le (block_bytes * i + block_bytes - block_bytes * i) (drop (block_bytes * i) f) (omega (arith, length-drop (block_bytes * i) f)) ∙ omega arith

-- the part of a block that is copied
pub copied : (b : Bytes) (u : ℕ) → 4 + u ≤ length b → (slice 4 (4 + u) b ≡ take u (drop 4 b)) × (length (slice 4 (4 + u) b) ≡ u)
copied b u h = (slice-part 4 u b (omega arith), length-slice 4 (4 + u) b h ∙ omega arith)

-- the first block of those that are left, and the others
abbrev pub joined : (here rest : Outcome Bytes) → Outcome Bytes
joined (Ok s) o = behind s o
joined (Err r) o = Err r

join : (here rest : Outcome Bytes) → ◌>>=◌ here (λ (s : Bytes). ◌>>=◌ rest (λ (t : Bytes). Ok (s ++ t))) ≡ joined here rest
join (Ok s) (Ok t) = refl
join (Ok s) (Err r) = refl
join (Err r) o = refl

pub open_blocks-suc : (L : Limits) (k : Kind) (f : Bytes) (i n : ℕ) → opened_blocks L k f i (suc n) ≡ joined (open_block L k f i (block_at f i)) (opened_blocks L k f (suc i) n)
unfolding opened_blocks
open_blocks-suc L k f i n = join (open_block L k f i (block_at f i)) (opened_blocks L k f (suc i) n)

open_blocks-first : (L : Limits) (k : Kind) (f : Bytes) (i many : ℕ) → i < many
    → opened_blocks L k f i (many - i) ≡ joined (open_block L k f i (block_at f i)) (opened_blocks L k f (i + 1) (many - (i + 1)))
open_blocks-first L k f i many h =
    let q : many - i ≡ suc (many - (i + 1)) = omega arith in
    ap (opened_blocks L k f i) q
    ∙ open_blocks-suc L k f i (many - (i + 1))
    ∙ ap (λ (j : ℕ). joined (open_block L k f i (block_at f i)) (opened_blocks L k f j (many - (i + 1)))) (sym (add-one i))

module _ (L : Limits) (k : Kind) (f content b : Bytes) (i many at : ℕ) (r : Outcome ℕ) (more : i < many) (here : b ≡ block_at f i) (o : OpenedBlock L k f i b r)
    (so_far : opened_blocks L k f 0 many ≡ behind (take at content) (opened_blocks L k f i (many - i))) where
  abbrev rest : Outcome Bytes
  rest = opened_blocks L k f (i + 1) (many - (i + 1))

  turn : opened_blocks L k f 0 many ≡ behind (take at content) (joined (taken r (drop 4 b)) rest)
  turn =
      so_far
      ∙ ap (behind (take at content)) (open_blocks-first L k f i many more ∙ ap (λ (x : Outcome Bytes). joined x rest) (ap (open_block L k f i) (sym here) ∙ o.outcome))

  pub stops : (x : Refusal) → r ≡ Err x → opened_blocks L k f 0 many ≡ Err x
  stops x e = turn ∙ ap (λ (a : Outcome ℕ). behind (take at content) (joined (taken a (drop 4 b)) rest)) e

  pub goes_on : (u past : ℕ) (content' : Bytes) → r ≡ Ok u → take past content' ≡ take at content ++ take u (drop 4 b)
      → opened_blocks L k f 0 many ≡ behind (take past content') rest
  goes_on u past content' e w =
      turn
      ∙ ap (λ (a : Outcome ℕ). behind (take at content) (joined (taken a (drop 4 b)) rest)) e
      ∙ behind-behind (take at content) (take u (drop 4 b)) rest
      ∙ ap (λ (s : Bytes). behind s rest) (sym w)
