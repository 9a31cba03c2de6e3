-- One changed byte of a file that loads is refused by 11 at its block: the blocks before it open as they did, and its own check tells. Over any limits.
-- Assumes nothing.
use Rattle.std.specs.Prelude.{ℕ, zero, suc, ◌+◌, ◌-◌, ◌*◌, ◌/◌, ◌%◌, ◌≤◌, ◌<◌, ◌≡◌, refl, Bool, true, false, eqb, ltb, length, get_or, set, take, drop, Ok}
use Rattle.std.proofs.Common.{sym, ap, ◌∙◌, zero-add, arith, length-set, length-drop, get_or-set_same, get_or-set_other, get_or-take, get_or-drop, length-take-le, ltb-true, ltb-false, eqb-true}
use Rattle.std.proofs.Math.Seq.{take-set-lt}
use Rattle.std.proofs.lemmas.List.{take-set-le, drop-set-add}
use Rattle.std.proofs.lemmas.Bool.{eqb-false}
use Rattle.rules.specs.Basic.{Bytes}
use Rattle.rules.specs.Limits.{Limits, block_bytes}
use Rattle.rules.specs.Refusal.{Outcome, refuse}
use Rattle.rules.specs.declared.Reason.TheVariants.{BlockCheck}
use Rattle.rules.specs.declared.Kind.{Kind}
use Rattle.rules.specs.Stored.{check, block_at, two_bytes, length_in, open_block, opened_blocks, opened, stored, read_kind}
use Rattle.laws.specs.reading.Octets.{Octets}
use Rattle.stored.specs.Opening.{opens-11}
use Rattle.stored.specs.Storing.{read_short, right-size}
use Rattle.stored.specs.Gathering.{joined, open_blocks-suc}
use Rattle.stored.specs.Inverse.{block-right, blocks-right, opens}
use Rattle.stored.specs.Octets.{octet-at, stored-octets}
use Rattle.stored.specs.Undone.{opened-stored}
use Rattle.stored.specs.Tells.{check-tells}

-- a block with its check right, and one byte of it changed
module _ (b : Bytes) (p v : ℕ) (long : length b ≡ block_bytes) (in-it : p < block_bytes) (old : get_or b p 0 < 256) (new : v < 256) (sum : two_bytes b 510 ≡ check (take 510 b))
    (still : two_bytes (set b p v) 510 ≡ check (take 510 (set b p v))) where
  in_body : p < 510 → v ≡ get_or b p 0
  in_body h =
      let x : get_or (set b p v) 510 0 ≡ get_or b 510 0 = get_or-set_other b p 510 v 0 (λ e. omega arith) in
      let y : get_or (set b p v) 511 0 ≡ get_or b 511 0 = get_or-set_other b p 511 v 0 (λ e. omega arith) in
      let same : check (set (take 510 b) p v) ≡ check (take 510 b) = ap check (sym (take-set-lt 510 b p v h)) ∙ sym still ∙ rw (x, y) sum in
      let o : get_or (take 510 b) p 0 ≡ get_or b p 0 = get_or-take 510 b p 0 h in
      check-tells (take 510 b) p v (length-take-le 510 b (omega arith)) h (omega arith) new same ∙ o

  in-check : 510 ≤ p → two_bytes (set b p v) 510 ≡ two_bytes b 510
  in-check h = still ∙ ap check (take-set-le 510 b p v h) ∙ sym sum

  low : p ≡ 510 → v ≡ get_or b p 0
  low e =
      let c = in-check (omega arith) in
      let x : get_or (set b p v) 510 0 ≡ v = ap (λ (q : ℕ). get_or (set b q v) 510 0) e ∙ get_or-set_same b 510 v 0 (omega arith) in
      let y : get_or (set b p v) 511 0 ≡ get_or b 511 0 = get_or-set_other b p 511 v 0 (λ f. omega arith) in
      let z : get_or b p 0 ≡ get_or b 510 0 = ap (λ (q : ℕ). get_or b q 0) e in
      omega arith

  high : p ≡ 511 → v ≡ get_or b p 0
  high e =
      let c = in-check (omega arith) in
      let x : get_or (set b p v) 511 0 ≡ v = ap (λ (q : ℕ). get_or (set b q v) 511 0) e ∙ get_or-set_same b 511 v 0 (omega arith) in
      let y : get_or (set b p v) 510 0 ≡ get_or b 510 0 = get_or-set_other b p 510 v 0 (λ f. omega arith) in
      let z : get_or b p 0 ≡ get_or b 511 0 = ap (λ (q : ℕ). get_or b q 0) e in
      omega arith

  place : (t u : Bool) → ltb p 510 ≡ t → eqb p 510 ≡ u → v ≡ get_or b p 0
  place true u e f = in_body (ltb-true p 510 e)
  place false true e f = low (eqb-true p 510 f)
  place false false e f = high (omega (arith, ltb-false p 510 e, eqb-false p 510 f))

  pub unchanged : v ≡ get_or b p 0
  unchanged = place (ltb p 510) (eqb p 510) refl refl

-- a block opens alike in two files of one length whose first blocks tell one length
alike : (L : Limits) (k : Kind) (f g : Bytes) (i : ℕ) (b : Bytes) → length_in (block_at g 0) ≡ length_in (block_at f 0) → length g ≡ length f
    → open_block L k g i b ≡ open_block L k f i b
unfolding open_block
alike L k f g i b e l = rw (e, l)

-- byte p of block q
module _ (L : Limits) (k : Kind) (f : Bytes) (many q p v : ℕ) (octets : Octets f) (whole : length f ≡ block_bytes * many) (there : q < many) (in-it : p < block_bytes) (new : v < 256)
    (other : v ≡ get_or f (block_bytes * q + p) 0 → ⊥) where
  abbrev changed : Bytes
  changed = set f (block_bytes * q + p) v

  before : (i : ℕ) → i < q → block_at changed i ≡ block_at f i
  before i h =
      let j : ℕ = block_bytes * q + p - block_bytes * i in
      let e : block_bytes * q + p ≡ block_bytes * i + j = omega arith in
      let far : block_bytes ≤ j = omega arith in
      ap (λ (n : ℕ). take block_bytes (drop (block_bytes * i) (set f n v))) e
      ∙ ap (take block_bytes) (drop-set-add (block_bytes * i) f j v)
      ∙ take-set-le block_bytes (drop (block_bytes * i) f) j v far

  here : block_at changed q ≡ set (block_at f q) p v
  here = ap (take block_bytes) (drop-set-add (block_bytes * q) f p v) ∙ take-set-lt block_bytes (drop (block_bytes * q) f) p v in-it

  length-here : length (block_at f q) ≡ block_bytes
  length-here = length-take-le block_bytes (drop (block_bytes * q) f) (omega (arith, length-drop (block_bytes * q) f))

  byte-here : get_or (block_at f q) p 0 ≡ get_or f (block_bytes * q + p) 0
  byte-here = get_or-take block_bytes (drop (block_bytes * q) f) p 0 in-it ∙ get_or-drop (block_bytes * q) f p 0

  told : (c : Bytes) → open_block L k f q (block_at f q) ≡ Ok c → open_block L k changed q (block_at changed q) ≡ refuse BlockCheck q 1
  told c o =
      let right = block-right L k f q (block_at f q) c o in
      let old : get_or (block_at f q) p 0 < 256 = rw byte-here (octet-at f octets (block_bytes * q + p)) in
      ap (open_block L k changed q) here
      ∙ opens-11 L k changed q (set (block_at f q) p v)
      (λ e. other (unchanged (block_at f q) p v length-here in-it old new right.sum e ∙ byte-here))

  turn : (i : ℕ) (t : Bool) → ltb i q ≡ t → i ≤ q → (c : Bytes) → open_block L k f i (block_at f i) ≡ Ok c → (o : Outcome Bytes) → (i < q → o ≡ refuse BlockCheck q 1)
      → joined (open_block L k changed i (block_at changed i)) o ≡ refuse BlockCheck q 1
  turn i true e h c first o rest =
      let l = ltb-true i q e in
      let same : open_block L k changed i (block_at changed i) ≡ Ok c =
      ap (open_block L k changed i) (before i l) ∙ alike L k f changed i (block_at f i) (ap length_in (before 0 (omega arith))) (length-set f (block_bytes * q + p) v) ∙ first in
      ap (λ (x : Outcome Bytes). joined x o) same ∙ ap (joined (Ok c)) (rest l)
  turn i false e h c first o rest =
      let l = ltb-false i q e in
      let at : i ≡ q = omega arith in
      ap (λ (m : ℕ). joined (open_block L k changed m (block_at changed m)) o) at
      ∙ ap (λ (x : Outcome Bytes). joined x o) (told c (ap (λ (m : ℕ). open_block L k f m (block_at f m)) (sym at) ∙ first))

  from : (i n : ℕ) (t : Bytes) → i + n ≡ many → i ≤ q → opened_blocks L k f i n ≡ Ok t → opened_blocks L k changed i n ≡ refuse BlockCheck q 1
  from i zero t e h o = absurd (omega arith)
  from i (suc n) t e h o =
      let j = blocks-right L k f i n t o in
      open_blocks-suc L k changed i n
      ∙ turn i (ltb i q) refl h j.here j.first (opened_blocks L k changed (suc i) n) (λ l. from (suc i) n j.rest (omega arith) l j.others)

-- one changed byte of a file that loads
pub changed-refused : (L : Limits) (k : Kind) (f s : Bytes) (j v : ℕ) → Octets f → opened L k f ≡ Ok s → j < length f → v < 256 → (v ≡ get_or f j 0 → ⊥)
    → opened L k (set f j v) ≡ refuse BlockCheck (j / block_bytes) 1
unfolding opened
changed-refused L k f s j v octets o h new other =
    let g = opens L k f s o in
    let n = length-set f j v in
    let size = right-size L (length f) g.size in
    let at : block_bytes * (j / block_bytes) + j % block_bytes ≡ j = omega arith in
    let whole : length f ≡ block_bytes * (length f / block_bytes) = omega (arith, g.size.blocks) in
    let r : opened_blocks L k (set f j v) 0 (length f / block_bytes) ≡ refuse BlockCheck (j / block_bytes) 1 =
    ap (λ (m : ℕ). opened_blocks L k (set f m v) 0 (length f / block_bytes)) (sym at)
    ∙ from L k f (length f / block_bytes) (j / block_bytes) (j % block_bytes) v octets whole (omega arith) (omega arith) new (λ e. other (e ∙ ap (λ (m : ℕ). get_or f m 0) at)) 0 (length f / block_bytes) s
    (zero-add (length f / block_bytes)) (omega arith) g.parts in
    rw (n, size, r)

-- so of every stored file
pub stored-changed : (L : Limits) (k : Kind) (s : Bytes) (j v : ℕ) → L.bytes ≤ 65535 → Octets s → read_kind L k 1 s ≡ Ok tt → j < length (stored k s) → v < 256
    → (v ≡ get_or (stored k s) j 0 → ⊥) → opened L k (set (stored k s) j v) ≡ refuse BlockCheck (j / block_bytes) 1
stored-changed L k s j v few octets read =
    let short = read_short L k 1 s read in
    changed-refused L k (stored k s) s j v (stored-octets k s octets (omega arith)) (opened-stored L k s read)
