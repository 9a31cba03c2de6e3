-- Going ahead over one node more: what it takes for letters grows by what stands in the node's names, and no tag is a letter. Assumes nothing.
use Prim.Native.Nat.{ℕ, zero, suc, ◌+◌, ◌-◌, ◌*◌, ◌/◌, ◌%◌, ◌<◌, ◌≤◌}
use native.Mathlib.Omega.{arith}
use mathlib.Core.Path.{◌≡◌, refl, sym, ap, ◌∙◌}
use mathlib.Core.Bool.{false}
use mathlib.Core.List.{List, [], ◌∷◌}
use mathlib.Core.Option.{some}
use lib.ListN.{length, get_or, get_elem?, drop}
use Rattle.std.specs.Prelude.{Ok}
use Rattle.rules.specs.Basic.{Bytes}
use Rattle.rules.specs.Name.{name_most, follows}
use Rattle.rules.specs.Layout.{Layout, head_by_tag}
use Rattle.rules.specs.Reading.{times, name}
use Rattle.reader.specs.declared.class.Form.{Form}
use Rattle.reader.specs.declared.class.Form.TheVariants.{Term, Formula}
use Rattle.reader.specs.Form.{layout_of}
use Rattle.reader.specs.Classes.{code_at}
use Rattle.reader.specs.View.{view, skipped}
use Rattle.reader.proofs.class.Coded.{few, Coded, coded}
use Rattle.reader.proofs.node.Rest.{Rest, rest-is, rest-same}
use Rattle.reader.proofs.node.Turn.{turn_on}
use Rattle.reader.specs.Letters.{letters_from}
use Rattle.reader.specs.Count.{NamesTo, Gone}
use Rattle.reader.proofs.letters.Counts.{low, count_none, count_next, count-apart}

-- ---- no tag is a letter

elem_in : {H : Type 0} (hs : List H) (k : ℕ) {h : H} → get_elem? hs k ≡ some h → k < length hs
elem_in [] k e = absurd (let z : ◌≡◌ {A = ℕ} 0 1 = cc in omega arith)
elem_in (x ∷ hs) zero e = omega arith
elem_in (x ∷ hs) (suc k) e = omega (arith, elem_in hs k e)

head_in : {H : Type 0} (hs : List H) (b : ℕ) {h : H} → head_by_tag hs b ≡ some h → b ≤ length hs
head_in hs zero e = omega arith
head_in hs (suc k) e = elem_in hs k e

few-heads : (f : Form) → length (layout_of f).heads ≤ 17
few-heads Term = omega arith
few-heads Formula = omega arith

-- ---- at the beginning

pub begun : {H A : Type 0} (F : Layout H A) (s : Bytes) (at n : ℕ) → Gone F s at n at 0 n 0
begun F s at n =
    record {
      past = omega arith;
      counts = omega arith;
      bound = omega arith;
      few = let z : at - at ≡ 0 = omega arith in rw (z, count_none s at) (omega arith);
      reads =
          λ most used h i e.
          sym (rest-is F most s n used at) ∙ rest-same F most s (omega arith) (omega arith) at ∙ rest-is F most s (n - 0) (used + 0) at;
    }

pub same-gone : {H A : Type 0} (F : Layout H A) (s : Bytes) (at n : ℕ) {a b c d a' b' c' d' : ℕ} → a' ≡ a → b' ≡ b → c' ≡ c → d' ≡ d → Gone F s at n a b c d → Gone F s at n a' b' c' d'
same-gone F s at n e f g h w = rw (e, f, g, h) w

-- ---- less than what is left

up : (x a b c : ℕ) → b + c ≤ a → x ≤ a - b - c → x + (b + c) ≤ a
up x a b c h e = omega arith

down : (x a b c : ℕ) → x + (b + c) ≤ a → x ≤ a - b - c
down x a b c e = omega arith

all_up : (x a b c : ℕ) → b + c ≤ a → x ≡ a - b - c → x + (b + c) ≡ a
all_up x a b c h e = omega arith

all-down : (x a b c : ℕ) → x + (b + c) ≡ a → x ≡ a - b - c
all-down x a b c e = omega arith

fewer : (u m most : ℕ) → u + (m + 1) ≤ most → u + m ≤ most
fewer u m most h = omega arith

room-left : (u m most : ℕ) → u + (m + 1) ≤ most → u + m < most
room-left u m most h = omega arith

waiting : (known met : ℕ) → met < known → 0 < known - met
waiting known met h = omega arith

left_over : (known met parts : ℕ) → met < known → known - met - 1 + parts ≡ known + parts - (met + 1)
left_over known met parts h = omega arith

one_later : (u m : ℕ) → u + m + 1 ≡ u + (m + 1)
one_later u m = omega arith

pub inside-all : (end stop next all : ℕ) → stop ≡ end - 2 → next < stop → end ≤ all → next < all
inside-all end stop next all e h i = omega arith

pub closer : (end stop next past k : ℕ) → stop ≡ end - 2 → next < stop → next + 1 + k ≤ past → end - past < end - next
closer end stop next past k e h i = let z : next < end = omega arith in omega arith

pub not-far : (end stop next past k : ℕ) → stop ≡ end - 2 → next < stop → past ≤ next + 1 + (name_most + 1) * k → k ≤ 2 → past ≤ end + 60
not-far end stop next past k e h i f = omega arith

-- ---- one node more

module _ (f : Form) (s : Bytes) (at n p met known names : ℕ) (w : Gone (layout_of f) s at n p met known names) (waits : met < known) (inside : p < length s)
    (code : ℕ) (is : code ≡ code_at (layout_of f) (head_by_tag (layout_of f).heads (get_or s p 0))) (ne : code ≡ 0 → ⊥) where
  known-head : Coded f (head_by_tag (layout_of f).heads (get_or s p 0)) code
  known-head = coded f (head_by_tag (layout_of f).heads (get_or s p 0)) code is ne

  pub few-names : code / 2 % 4 ≤ 2
  few-names = rw known-head.names (few f known-head.head).0

  pub few-parts : code / 8 ≤ 3
  few-parts = known-head.few

  pub tag_small : get_or s p 0 < 18
  tag_small = omega (arith, head_in (layout_of f).heads (get_or s p 0) known-head.is, few-heads f)

  tag-low : follows (get_or s p 0) ≡ false
  tag-low = low (get_or s p 0) (omega (arith, tag_small))

  module _ (k : ℕ) (ek : k ≡ code / 2 % 4) (parts : ℕ) (ep : parts ≡ code / 8) (q : ℕ) (t : NamesTo s (layout_of f).spelling (p + 1) k q) where
    counted : letters_from s at (q - at) ≡ letters_from s at (p - at) + letters_from s (p + 1) (q - (p + 1))
    counted =
        let d : q - at ≡ p - at + suc (q - (p + 1)) = omega (arith, t.past, w.past) in
        let i : at + (p - at) ≡ p = omega (arith, w.past) in
        ap (λ (m : ℕ). letters_from s at m) d
        ∙ count-apart s (p - at) (suc (q - (p + 1))) at
        ∙ ap (λ (m : ℕ). letters_from s at (p - at) + letters_from s m (suc (q - (p + 1)))) i
        ∙ ap (λ (m : ℕ). letters_from s at (p - at) + m) (count_next s p (q - (p + 1)) _ refl ∙ rw tag-low (omega arith))

    pub gone-more : Gone (layout_of f) s at n q (met + 1) (known + parts) (names + k)
    gone-more =
        let c = counted in
        let fp : parts ≤ 3 = rw ep few-parts in
        let a = up (letters_from s at (p - at)) p at (met + names) w.past w.few in
        let b = up (letters_from s (p + 1) (q - (p + 1))) q (p + 1) k t.past t.few in
        let g : at + (met + 1 + (names + k)) ≤ q = omega (arith, t.past, w.past) in
        record {
          past = g;
          counts = omega (arith, w.counts);
          bound = omega (arith, w.bound, fp);
          few = down _ q at (met + 1 + (names + k)) (omega (arith, c, a, b));
          reads =
              λ most used h i e.
              let z = all_up (letters_from s at (q - at)) q at (met + 1 + (names + k)) g e in
              let x : letters_from s at (p - at) ≡ p - at - (met + names) = all-down _ p at (met + names) (omega (arith, c, a, b, z)) in
              let y : letters_from s (p + 1) (q - (p + 1)) ≡ q - (p + 1) - k = all-down _ q (p + 1) k (omega (arith, c, a, b, z)) in
              let says : (v : ℕ) → skipped v (Ok q) ≡ view (times (name (layout_of f).spelling) (code / 2 % 4) v (p + 1) (drop (p + 1) s)) =
              λ v. sym (t.reads v i y) ∙ ap (λ (m : ℕ). view (times (name (layout_of f).spelling) m v (p + 1) (drop (p + 1) s))) ek in
              w.reads most used (λ z. fewer used met most (h (omega arith))) (omega (arith, inside)) x
              ∙ sym (rest-is (layout_of f) most s (known - met) (used + met) p)
              ∙ turn_on f most s (known - met) (used + met) p (waiting known met waits) inside (room-left used met most (h (omega arith))) code is ne (Ok q) says q refl
              ∙ ap (λ (m : ℕ). Rest (layout_of f) most s (known - met - 1 + m) (used + met + 1) q) (sym ep)
              ∙ rest-same (layout_of f) most s (left_over known met parts waits) (one_later used met) q
              ∙ rest-is (layout_of f) most s (known + parts - (met + 1)) (used + (met + 1)) q;
        }

-- names are short
pub short : (f : Form) → (layout_of f).spelling.longest ≤ name_most
short Term = omega arith
short Formula = omega arith
