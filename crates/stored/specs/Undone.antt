-- Loading undoes storing: each block of a stored form opens as its part of the content, and the parts make up the content. Over any limits. Assumes nothing.
use Prim.Native.Nat.{ℕ, zero, suc, ◌+◌, ◌-◌, ◌*◌, ◌/◌, ◌%◌, ◌≤◌, ◌<◌}
use Rattle.std.specs.Prelude.{◌≡◌, refl, Bool, true, false, [], ◌∷◌, ◌++◌, length, get_or, take, replicate, ltb, if◌then◌else◌, Ok, Err}
use Rattle.std.proofs.Common.{sym, ◌∙◌, append_assoc, add-zero, zero-add, length-append, length-drop, drop_of_length-le, take-append-drop, take_at, drop_at, get_or-append-add, drop-drop, length-take-le}
use Rattle.std.proofs.Math.Path.{ap}
use native.Mathlib.Omega.{arith}
use Rattle.std.proofs.Math.ListN.{drop}
use Rattle.std.proofs.Math.Seq.{take-append_seam, drop-append-add}
use Rattle.rules.specs.Basic.{Bytes, low-high}
use Rattle.rules.specs.Limits.{Limits, block_bytes, block_content, block_count_for, output_room, stored_room}
use Rattle.rules.specs.Refusal.{Outcome, mapped}
use Rattle.rules.specs.declared.Reason.TheVariants.{EndsInside}
use Rattle.rules.specs.Term.{terms}
use Rattle.rules.specs.Reading.{Got, bad, Met, byte, tag, too_many, node, proof_at, ended, whole, read_term, read_proof}
use Rattle.rules.specs.declared.Refusal.{Refusal}
use Rattle.rules.specs.declared.Kind.{Kind}
use Rattle.rules.specs.declared.Kind.TheVariants.{Term, Proof}
use Rattle.rules.specs.Buffers.{Wrote}
use Rattle.rules.specs.Calls.{store_call, load_call}
use Rattle.rules.specs.Stored.{kind_byte, check, block_body, block, blocks, stored, block_at, two_bytes, length_in, used_bytes_in, all_zero, is_head_wrong, open_block, opened_blocks, opened, read_kind}
use Rattle.stored.specs.Weights.{are-zeros}
use Rattle.stored.specs.Heads.{right-head}
use Rattle.stored.specs.Opening.{content_in, opens-good}
use Rattle.stored.specs.Blocks.{used-in, take-used, padded-used, length-block, length-block_body, length-stored}
use Rattle.stored.specs.Storing.{put, is_size_wrong, right-size, read_short, store-good, load-good}
use Rattle.stored.specs.Gathering.{joined, open_blocks-suc}

-- block j of a run of blocks
pub blocks_at : (k : Kind) (i n j : ℕ) (s : Bytes) → j < n → block_at (blocks k i n s) j ≡ block k (i + j) s
unfolding blocks
blocks_at k i zero j s h = absurd (omega arith)
blocks_at k i (suc n) zero s h = take_at (block k i s) (blocks k (suc i) n s) block_bytes (length-block k i s) ∙ ap (λ (m : ℕ). block k m s) (sym (add-zero i))
blocks_at k i (suc n) (suc j) s h =
    let l = length-block k i s in
    let e : block_bytes * suc j ≡ length (block k i s) + block_bytes * j = omega arith in
    let m : suc i + j ≡ i + suc j = omega arith in
    ap (λ (a : ℕ). take block_bytes (drop a (block k i s ++ blocks k (suc i) n s))) e
    ∙ ap (take block_bytes) (drop-append-add (block k i s) (blocks k (suc i) n s) (block_bytes * j))
    ∙ blocks_at k (suc i) n j s (omega arith)
    ∙ ap (λ (a : ℕ). block k a s) m

-- the parts of a block
module _ (k : Kind) (i : ℕ) (s : Bytes) where
  abbrev body : Bytes
  body = block_body k i (length s) s

  pub block-body : take 510 (block k i s) ≡ body
  block-body = take_at body (low-high (check body)) 510 (length-block_body k i (length s) s)

  pub block-check : two_bytes (block k i s) 510 ≡ check (take 510 (block k i s))
  block-check =
      let l = length-block_body k i (length s) s in
      let c = check body in
      let a : get_or (block k i s) 510 0 ≡ c % 256 = ap (λ (n : ℕ). get_or (block k i s) (n + 0) 0) (sym l) ∙ get_or-append-add body (low-high c) 0 0 in
      let b : get_or (block k i s) 511 0 ≡ c / 256 = ap (λ (n : ℕ). get_or (block k i s) (n + 1) 0) (sym l) ∙ get_or-append-add body (low-high c) 1 0 in
      let e : get_or (block k i s) 510 0 + 256 * get_or (block k i s) 511 0 ≡ c = omega arith in
      e ∙ sym (ap check block-body)

  pub block-length : length_in (block k i s) ≡ length s
  block-length = omega arith

  abbrev part : Bytes
  part = take (used_bytes_in (length s) i) (drop (block_content * i) s)

  length_part : length part ≡ used_bytes_in (length s) i
  length_part = length-take-le (used_bytes_in (length s) i) (drop (block_content * i) s) (omega (arith, length-drop (block_content * i) s, used-in (length s) i))

  abbrev head : Bytes
  head = kind_byte k ∷ i ∷ low-high (length s)

  body_is : body ≡ (head ++ part) ++ replicate (block_content - used_bytes_in (length s) i) 0
  body_is = ap (λ (r : Bytes). head ++ r) (padded-used i s) ∙ sym (append_assoc head part (replicate (block_content - used_bytes_in (length s) i) 0))

  pub block-clean : all_zero (drop (4 + used_bytes_in (length_in (block k i s)) i) (take 510 (block k i s))) ≡ true
  block-clean =
      let u = used_bytes_in (length s) i in
      ap (λ (n : ℕ). all_zero (drop (4 + used_bytes_in n i) (take 510 (block k i s)))) block-length
      ∙ ap (λ (r : Bytes). all_zero (drop (4 + u) r)) (block-body ∙ body_is)
      ∙ ap all_zero (drop_at (head ++ part) (replicate (block_content - u) 0) (4 + u) (length-append head part ∙ ap (λ (n : ℕ). 4 + n) length_part))
      ∙ are-zeros (block_content - u)

  pub block-content : content_in i (block k i s) ≡ part
  block-content =
      let u = used_bytes_in (length s) i in
      let zs : Bytes = replicate (block_content - u) 0 in
      let rest : Bytes = low-high (check body) in
      ap (λ (n : ℕ). take (used_bytes_in n i) (drop 4 (block k i s))) block-length
      ∙ ap (λ (r : Bytes). take u (r ++ rest)) (padded-used i s)
      ∙ ap (take u) (append_assoc part zs rest)
      ∙ take_at part (zs ++ rest) u length_part

-- what a file of these blocks says of each of them
module _ (L : Limits) (k : Kind) (s : Bytes) (least : 1 ≤ length s) (most : length s ≤ L.bytes) where
  abbrev file : Bytes
  file = stored k s

  abbrev many : ℕ
  many = block_count_for (length s)

  pub stored_at : (i : ℕ) → i < many → block_at file i ≡ block k i s
  unfolding stored
  stored_at i h = blocks_at k 0 many i s h ∙ ap (λ (n : ℕ). block k n s) (zero-add i)

  pub stored-head : (i : ℕ) → i < many → is_head_wrong L k file i (block k i s) ≡ false
  stored-head i h =
      let e = block-length k i s in
      let l = length-stored k s in
      right-head L k file i (block k i s)
      (record {
        kind = refl;
        number = refl;
        least = omega arith;
        most = omega arith;
        alike = e ∙ sym (ap length_in (stored_at 0 (omega arith)) ∙ block-length k 0 s);
        count = ap block_count_for e ∙ omega arith;
      })

  pub stored-opens : (i : ℕ) → i < many → open_block L k file i (block_at file i) ≡ Ok (part k i s)
  stored-opens i h =
      ap (open_block L k file i) (stored_at i h)
      ∙ opens-good L k file i (block k i s) (block-check k i s) (stored-head i h) (block-clean k i s)
      ∙ ap Ok (block-content k i s)

  -- the parts from a block on
  parts_from : (i n : ℕ) → i + n ≡ many → opened_blocks L k file i n ≡ Ok (drop (block_content * i) s)
  unfolding opened_blocks
  parts_from i zero e = ap Ok (sym (drop_of_length-le s {i = block_content * i} (omega arith)))
  parts_from i (suc n) e =
      let d : block_content * i + block_content ≡ block_content * suc i = omega arith in
      open_blocks-suc L k file i n
      ∙ ap (λ (o : Outcome Bytes). joined o (opened_blocks L k file (suc i) n)) (stored-opens i (omega arith))
      ∙ ap (joined (Ok (part k i s))) (parts_from (suc i) n (omega arith))
      ∙ ap (λ (r : Bytes). Ok (r ++ drop (block_content * suc i) s)) (take-used i s)
      ∙ ap (λ (m : ℕ). Ok (take block_content (drop (block_content * i) s) ++ drop m s)) (sym d)
      ∙ ap (λ (r : Bytes). Ok (take block_content (drop (block_content * i) s) ++ r)) (sym (drop-drop block_content (block_content * i) s))
      ∙ ap Ok (take-append-drop block_content (drop (block_content * i) s))

  pub stored-blocks : opened_blocks L k file 0 (length file / block_bytes) ≡ Ok s
  stored-blocks =
      let l = length-stored k s in
      let e : length file / block_bytes ≡ many = omega arith in
      ap (opened_blocks L k file 0) e ∙ parts_from 0 many (zero-add many)

-- nothing reads as a term or a proof
node-none : (m d : ℕ) → node terms m d 0 0 [] ≡ bad EndsInside 0
unfolding node too_many tag byte
node-none m zero = refl
node-none m (suc d) = refl

proof-none : (L : Limits) (d : ℕ) (u : Met) → proof_at L d u 0 [] ≡ bad EndsInside 0
unfolding proof_at too_many tag byte
proof-none L zero u = refl
proof-none L (suc d) u = refl

not-read : {A S : Type 0} (t : Bool) (r : Refusal) (i : ℕ) (g : Got S A) → g ≡ bad EndsInside 0 → mapped (λ (_ : A). tt {0}) (if t then Err r else ended i g) ≡ Ok tt → ⊥
not-read true r i g e h = let z : ◌≡◌ {A = ℕ} 0 1 = cc in omega arith
not-read false r i g e h = let q = ap (λ x. mapped (λ _. tt {0}) (ended i x)) e in let z : ◌≡◌ {A = ℕ} 0 1 = cc in omega arith

pub read_some : (L : Limits) (k : Kind) (i : ℕ) (s : Bytes) → read_kind L k i s ≡ Ok tt → 1 ≤ length s
unfolding read_term read_proof whole
read_some L Term i [] h = absurd (not-read (ltb L.bytes 0) _ i _ (node-none L.nodes L.nodes) h)
read_some L Proof i [] h = absurd (not-read (ltb L.bytes 0) _ i _ (proof-none L L.rules _) h)
read_some L k i (b ∷ s) h = omega arith

module _ (L : Limits) (k : Kind) (s : Bytes) (read : read_kind L k 1 s ≡ Ok tt) where
  stored-size : is_size_wrong L (length (stored k s)) ≡ false
  stored-size =
      let l = length-stored k s in
      let least = read_some L k 1 s read in
      let most = read_short L k 1 s read in
      right-size L (length (stored k s)) (record { some = omega arith; blocks = omega arith; most = omega arith })

  -- loading undoes storing
  pub opened-stored : opened L k (stored k s) ≡ Ok s
  unfolding opened
  opened-stored = rw (stored-size, stored-blocks L k s (read_some L k 1 s read) (read_short L k 1 s read), read)

  pub load_stored : (o : Bytes) → output_room L ≤ length o → load_call L k (stored k s) o ≡ put o s
  load_stored o room = load-good L k (stored k s) o room stored-size s (stored-blocks L k s (read_some L k 1 s read) (read_short L k 1 s read)) read

  -- so of the calls: what store wrote, loaded, is the content
  pub load-undoes-store : (o o' : Bytes) → stored_room L ≤ length o → output_room L ≤ length o'
      → load_call L k (take (length (stored k s)) (store_call L k s o).output) o' ≡ put o' s
  load-undoes-store o o' room room' =
      ap (λ (w : Wrote ℕ). load_call L k (take (length (stored k s)) w.output) o') (store-good L k s o room read)
      ∙ ap (λ (f : Bytes). load_call L k f o') (take-append_seam (stored k s) (replicate (length o - length (stored k s)) 0))
      ∙ load_stored o' room'
