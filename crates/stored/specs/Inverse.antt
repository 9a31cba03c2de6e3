-- What an opened block must be: its check, its head, its zeros, its content. And what opened blocks are made of. Over any limits. Assumes nothing.
use Rattle.std.specs.Prelude.{ℕ, suc, ◌+◌, ◌/◌, ◌≡◌, refl, Bool, true, false, not, [], ◌++◌, eqb, length, take, drop, if◌then◌else◌, Ok, Err}
use Rattle.std.proofs.Common.{sym, ap, ◌∙◌, arith, length-drop, length-take-le, eqb-true}
use Rattle.std.proofs.lemmas.Bool.{not-false}
use Rattle.rules.specs.Basic.{Bytes}
use Rattle.rules.specs.Limits.{Limits, block_bytes}
use Rattle.rules.specs.Refusal.{Outcome, ◌>>=◌}
use Rattle.rules.specs.declared.Refusal.{Refusal}
use Rattle.rules.specs.declared.Kind.{Kind}
use Rattle.rules.specs.Stored.{check, block_at, two_bytes, length_in, used_bytes_in, all_zero, is_head_wrong, open_block, opened_blocks, opened, read_kind}
use Rattle.laws.specs.Outcome.{good-first}
use Rattle.stored.specs.Heads.{HeadRight, head-right}
use Rattle.stored.specs.Opening.{content_in, used_le}
use Rattle.stored.specs.Storing.{SizeRight, is_size_wrong, size-right}
use Rattle.stored.specs.Gathering.{joined, open_blocks-suc}

-- three tests in a row
passed : {A : Type 0} (t₁ t₂ t₃ : Bool) (r₁ r₂ r₃ : Refusal) (x y : A)
    → (if t₁ then Err r₁ else (if t₂ then Err r₂ else (if t₃ then Err r₃ else Ok x))) ≡ Ok y → (t₁ ≡ false) × (t₂ ≡ false) × (t₃ ≡ false) × (x ≡ y)
passed true t₂ t₃ r₁ r₂ r₃ x y e = absurd (let z : ◌≡◌ {A = ℕ} 0 1 = cc in omega arith)
passed false true t₃ r₁ r₂ r₃ x y e = absurd (let z : ◌≡◌ {A = ℕ} 0 1 = cc in omega arith)
passed false false true r₁ r₂ r₃ x y e = absurd (let z : ◌≡◌ {A = ℕ} 0 1 = cc in omega arith)
passed false false false r₁ r₂ r₃ x y e = (refl, refl, refl, cc)

pub record BlockRight (L : Limits) (k : Kind) (f : Bytes) (i : ℕ) (b c : Bytes) : Type 0 where
  pub sum : two_bytes b 510 ≡ check (take 510 b)
  pub head : HeadRight L k f i b
  pub clean : all_zero (drop (4 + used_bytes_in (length_in b) i) (take 510 b)) ≡ true
  pub content : content_in i b ≡ c

pub block-right : (L : Limits) (k : Kind) (f : Bytes) (i : ℕ) (b c : Bytes) → open_block L k f i b ≡ Ok c → BlockRight L k f i b c
unfolding open_block
block-right L k f i b c e =
    let p = passed (not (eqb (two_bytes b 510) (check (take 510 b)))) (is_head_wrong L k f i b) (not (all_zero (drop (4 + used_bytes_in (length_in b) i) (take 510 b)))) _ _ _ _ c e in
    record {
      sum = eqb-true (two_bytes b 510) (check (take 510 b)) (not-false _ p.0);
      head = head-right L k f i b p.1;
      clean = not-false _ p.2;
      content = p.3;
    }

pub length-content : (i : ℕ) (b : Bytes) → length b ≡ block_bytes → length (content_in i b) ≡ used_bytes_in (length_in b) i
length-content i b h = length-take-le (used_bytes_in (length_in b) i) (drop 4 b) (omega (arith, length-drop 4 b, used_le (length_in b) i))

-- the first of the opened blocks, and the others
pub record Joined (a b : Outcome Bytes) (t : Bytes) : Type 0 where
  pub here : Bytes
  pub rest : Bytes
  pub first : a ≡ Ok here
  pub others : b ≡ Ok rest
  pub all : here ++ rest ≡ t

joined-good : (a b : Outcome Bytes) (t : Bytes) → joined a b ≡ Ok t → Joined a b t
joined-good (Ok c) (Ok r) t e = record { here = c; rest = r; first = refl; others = refl; all = cc }
joined-good (Ok c) (Err r) t e = absurd (let z : ◌≡◌ {A = ℕ} 0 1 = cc in omega arith)
joined-good (Err r) b t e = absurd (let z : ◌≡◌ {A = ℕ} 0 1 = cc in omega arith)

pub blocks-right : (L : Limits) (k : Kind) (f : Bytes) (i n : ℕ) (t : Bytes) → opened_blocks L k f i (suc n) ≡ Ok t
    → Joined (open_block L k f i (block_at f i)) (opened_blocks L k f (suc i) n) t
blocks-right L k f i n t e = joined-good (open_block L k f i (block_at f i)) (opened_blocks L k f (suc i) n) t (sym (open_blocks-suc L k f i n) ∙ e)

pub blocks-none : (L : Limits) (k : Kind) (f : Bytes) (i : ℕ) (t : Bytes) → opened_blocks L k f i 0 ≡ Ok t → t ≡ []
unfolding opened_blocks
blocks-none L k f i t e = cc

-- what a file that loads went through
pub record Opens (L : Limits) (k : Kind) (f s : Bytes) : Type 0 where
  pub size : SizeRight L (length f)
  pub parts : opened_blocks L k f 0 (length f / block_bytes) ≡ Ok s
  pub read : read_kind L k 1 s ≡ Ok tt

goes : (t : Bool) (r : Refusal) (o : Outcome Bytes) (rd : Bytes → Outcome (Unit {0})) (s : Bytes)
    → (if t then Err r else ◌>>=◌ o (λ (c : Bytes). ◌>>=◌ (rd c) (λ _. Ok c))) ≡ Ok s → (t ≡ false) × (o ≡ Ok s) × (rd s ≡ Ok tt)
goes true r o rd s e = absurd (let z : ◌≡◌ {A = ℕ} 0 1 = cc in omega arith)
goes false r o rd s e =
    let (c, p, q) = good-first o _ s e in
    let (u, v, w) = good-first (rd c) _ s q in
    let i : c ≡ s = cc in
    (refl, p ∙ ap Ok i, sym (ap rd i) ∙ v)

pub opens : (L : Limits) (k : Kind) (f s : Bytes) → opened L k f ≡ Ok s → Opens L k f s
unfolding opened
opens L k f s e =
    let g = goes (is_size_wrong L (length f)) _ (opened_blocks L k f 0 (length f / block_bytes)) (read_kind L k 1) s e in
    record { size = size-right L (length f) g.0; parts = g.1; read = g.2 }
