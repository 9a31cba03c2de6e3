-- Names whose lengths and first letters are good: where their other bytes are letters too, they are read as names. Assumes nothing.
use Prim.Native.Nat.{ℕ, suc, ◌+◌, ◌-◌, ◌≤◌}
use native.Mathlib.Omega.{arith}
use mathlib.Core.Path.{◌≡◌, refl, sym, ap, ◌∙◌}
use mathlib.Core.Bool.{true}
use lib.ListN.{length, get_or, take, drop}
use Rattle.std.specs.Prelude.{IfSome, Option, Some, None}
use Rattle.rules.specs.Basic.{Bytes}
use Rattle.rules.specs.Name.{name_most, leads, follows, Spelling}
use Rattle.rules.specs.Reading.{letters, name}
use Rattle.laws.specs.reading.Steady.{steady-name}
use Rattle.reader.specs.View.{view, past}
use Rattle.reader.specs.Viewed.{passed}
use Rattle.reader.proofs.class.Views.{times-on, times_none}
use Rattle.reader.proofs.class.Name.{letters-on, spelled-on, name-on}
use Rattle.reader.specs.Letters.{one, letters_from}
use Rattle.reader.specs.Count.{jumped, NameTo, NamesTo}
use Rattle.reader.proofs.letters.Counts.{one-most, low, count_none, count_next, count_most, count-apart, full-read}

-- no name
pub none-to : (s : Bytes) (P : Spelling) (at : ℕ) → NamesTo s P at 0 at
unfolding jumped
none-to s P at =
    record {
      past = omega arith;
      near = omega arith;
      jumps = refl;
      few = ap-few;
      reads = λ u h e. times_none (name P) 0 u at (drop at s) refl;
    }
  where
    ap-few : letters_from s at (at - at) ≤ at - at - 0
    ap-few = let z : at - at ≡ 0 = omega arith in rw (z, count_none s at) (omega arith)

-- a name with n bytes
module _ (s : Bytes) (P : Spelling) (at n : ℕ) (small : P.longest ≤ name_most) (is : n ≡ get_or s at 0) (least : 1 ≤ n) (most : n ≤ P.longest) (lead : leads (get_or s (at + 1) 0) ≡ true)
    (allowed : at + 1 + n ≤ length s → P.allowed (take n (drop (at + 1) s)) ≡ true) where
  length-first : letters_from s at (suc n) ≡ letters_from s (at + 1) n
  length-first = count_next s at n (suc n) refl ∙ rw (low (get_or s at 0) (omega (arith, is))) (omega arith)

  name-read : (u : ℕ) → at + 1 + n ≤ length s → letters_from s at (suc n) ≡ n → view (name P u at (drop at s)) ≡ past (at + 1 + n) u
  name-read u h e =
      let a : letters_from s (at + 1) n ≡ n = sym length-first ∙ e in
      let b : letters_from s (at + 1) n ≡ one (follows (get_or s (at + 1) 0)) + letters_from s (at + 1 + 1) (n - 1) = count_next s (at + 1) (n - 1) n (omega arith) in
      let f : letters_from s (at + 1 + 1) (n - 1) ≡ n - 1 = omega (arith, a, b, one-most (follows (get_or s (at + 1) 0)), count_most s (n - 1) (at + 1 + 1)) in
      let k : at + 1 + n - (at + 1 + 1) ≡ n - 1 = omega arith in
      let j : at + 1 + n - (at + 1) ≡ n = omega arith in
      let z : at + 1 + 1 + (n - 1) ≡ at + 1 + n = omega arith in
      let w : view (letters n u (at + 1) (drop (at + 1) s)) ≡ past (at + 1 + n) u =
      ap (λ (m : ℕ). view (letters m u (at + 1) (drop (at + 1) s))) (sym j)
      ∙ sym (letters-on s u (at + 1) (at + 1 + n) (omega arith) h lead)
      ∙ rw k (full-read s (n - 1) (at + 1 + 1) u (omega arith) f)
      ∙ ap (λ (p : ℕ). past p u) z in
      sym (name-on P s u at (omega arith) (omega (arith, is)) (omega (arith, is)) (omega (arith, is)) n is)
      ∙ spelled-on P s u (at + 1) n least w (allowed h)

  -- and then k more
  more-to : (k r : ℕ) → NamesTo s P (at + 1 + n) k r → NamesTo s P at (suc k) r
  unfolding jumped
  more-to k r w =
      let d : r - at ≡ suc n + (r - (at + 1 + n)) = omega (arith, w.past) in
      let i : at + suc n ≡ at + 1 + n = omega arith in
      let c : letters_from s at (r - at) ≡ letters_from s at (suc n) + letters_from s (at + 1 + n) (r - (at + 1 + n)) =
      ap (λ (m : ℕ). letters_from s at m) d ∙ count-apart s (suc n) (r - (at + 1 + n)) at ∙ ap (λ (m : ℕ). letters_from s at (suc n) + letters_from s m (r - (at + 1 + n))) i in
      let b : letters_from s at (suc n) ≤ n = omega (arith, length-first, count_most s n (at + 1)) in
      record {
        past = omega (arith, w.past);
        near = omega (arith, w.near);
        jumps = w.jumps ∙ ap (λ (m : ℕ). jumped s (at + 1 + m) k) is;
        few = omega (arith, c, b, w.few, w.past);
        reads =
            λ u h e.
            let x : letters_from s at (suc n) ≡ n = omega (arith, c, b, w.few, w.past, e) in
            let y : letters_from s (at + 1 + n) (r - (at + 1 + n)) ≡ r - (at + 1 + n) - k = omega (arith, c, b, w.few, w.past, e) in
            let p = passed (name P) (steady-name P) s u at (omega (arith, w.past)) (name-read u (omega (arith, w.past)) x) in
            times-on (name P) (suc k) u at (drop at s) k refl p.value u (at + 1 + n) _ p.is ∙ w.reads u h y;
      }

module _ (s : Bytes) (P : Spelling) (at m : ℕ) (small : P.longest ≤ name_most) (w : NameTo s P at m) where
  pub then_to : (k r : ℕ) → NamesTo s P m k r → NamesTo s P at (suc k) r
  then_to k r v = more-to s P at (get_or s at 0) small refl w.least w.most w.lead (λ h. w.allowed (rw w.ends h)) k r (rw (← w.ends) v)

  pub one-to : NamesTo s P at 1 m
  one-to = then_to 0 m (none-to s P m)

-- and where one more may end
module _ (s : Bytes) (P : Spelling) (at second : ℕ) (small : P.longest ≤ name_most) (v : NameTo s P at second) where
  pub two-end : (o : Option ℕ) → IfSome o (λ end. NameTo s P second end) → IfSome o (λ end. NamesTo s P at 2 end)
  two-end None w = tt
  two-end (Some end) w = then_to s P at second small v 1 end (one-to s P second end small w)
