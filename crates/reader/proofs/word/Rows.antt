-- Words of one length in a row: the first of them and the rest, none; and that a name is a word if it is one of those of its length. Assumes nothing.
use Prim.Native.Nat.{ℕ, ◌<◌, ◌≤◌}
use mathlib.Core.Path.{◌≡◌, refl, sym, ap, subst, ◌∙◌}
use mathlib.Core.Bool.{Bool, true, false, ◌||◌}
use mathlib.Core.List.{List, [], ◌∷◌, ◌++◌}
use native.Mathlib.Omega.{arith}
use lib.ListN.{length, take, drop, length-take, length-append}
use lib.Seq.{take_at, drop_at}
use borrow.Author.Tests.{eqb-false, ne_eqb}
use Rattle.std.specs.Prelude.{if◌then◌else◌, ◌==◌}
use Rattle.rules.specs.Basic.{Bytes}
use Rattle.rules.specs.Name.{Name, same, among, words, is_a_word}
use Rattle.laws.specs.free.Same.{same-equal}
use Rattle.reader.specs.Words.{InRow}

module _ (n : ℕ) (some : 0 < n) where
  pub row-none : (ws : List Name) (s : Bytes) → length s < n → InRow n ws s → ws ≡ []
  row-none [] s h r = refl
  row-none (w ∷ ws) s h r = absurd (omega (arith, r.0, ap length r.1, length-take n s))

  pub record First (ws : List Name) (s : Bytes) : Type 0 where
    pub others : List Name
    pub are : ws ≡ take n s ∷ others
    pub row : InRow n others (drop n s)

  pub row_first : (ws : List Name) (s : Bytes) → n ≤ length s → InRow n ws s → First ws s
  row_first [] s h r = absurd (omega (arith, ap length r))
  row_first (w ∷ ws) s h r = record { others = ws; are = ap (λ (v : Name). v ∷ ws) (sym r.1); row = r.2 }

-- x is among all the words of a row t if it is among those of its end r
abbrev pub Decides : Name → ℕ → (t r : Bytes) → Type 0
Decides x n t r = (ws : List Name) → InRow n ws t → (vs : List Name) × InRow n vs r × (among x ws ≡ among x vs)

module _ (x : Name) (n : ℕ) (some : 0 < n) (t : Bytes) where
  module _ (r : Bytes) (d : Decides x n t r) where
    pub decides-none : length r < n → (ws : List Name) → InRow n ws t → false ≡ among x ws
    decides-none h ws row =
        let v = d ws row in
        sym (v.2 ∙ ap (among x) (row-none n some v.0 r h v.1))

    -- the end begins with the word w
    module _ (w q : Bytes) (is : r ≡ w ++ q) (long : length w ≡ n) where
      first : (ws : List Name) → (row : InRow n ws t) → First n some (d ws row).0 r
      first ws row = row_first n some (d ws row).0 r (omega (arith, long, ap length is, length-append w q)) (d ws row).1

      word : take n r ≡ w
      word = ap (take n) is ∙ take_at w q n long

      others : (ws : List Name) → (row : InRow n ws t) → (b : Bool) → same x w ≡ b → among x ws ≡ (b || among x (first ws row).others)
      others ws row b e = (d ws row).2 ∙ ap (among x) (first ws row).are ∙ ap (λ (y : Name). same x y || among x (first ws row).others) word ∙ ap (λ (c : Bool). c || among x (first ws row).others) e

      pub decides-found : same x w ≡ true → (ws : List Name) → InRow n ws t → true ≡ among x ws
      decides-found e ws row = sym (others ws row true e)

      pub decides-later : same x w ≡ false → Decides x n t q
      decides-later e ws row = (
        (first ws row).others,
        subst (λ (y : Bytes). InRow n (first ws row).others y) (ap (drop n) is ∙ drop_at w q n long) (first ws row).row,
        others ws row false e,
      )

-- those of n letters
abbrev pub of_length : ℕ → List Name → List Name
of_length n [] = []
of_length n (w ∷ ws) = if length w == n then w ∷ of_length n ws else of_length n ws

pub among-length : (x : Name) (ws : List Name) → among x ws ≡ among x (of_length (length x) ws)
among-length x [] = refl
among-length x (w ∷ ws) = go (among-length x ws) (length w == length x) refl (same x w) refl
  where
    go : among x ws ≡ among x (of_length (length x) ws) → (a : Bool) → (length w == length x) ≡ a → (b : Bool) → same x w ≡ b
        → (b || among x ws) ≡ among x (if a then w ∷ of_length (length x) ws else of_length (length x) ws)
    go h true d b e = rw e (ap (λ (c : Bool). b || c) h)
    go h false d false e = h
    go h false d true e = absurd (eqb-false _ _ d (ap length (sym (same-equal x w e))))

pub word_of : (n : ℕ) (x : Name) → length x ≡ n → is_a_word x ≡ among x (of_length n words)
unfolding is_a_word
word_of n x e = among-length x words ∙ ap (λ (k : ℕ). among x (of_length k words)) e

-- a length that no word has
pub none_of : (n : ℕ) → (n ≡ 2 → ⊥) → (n ≡ 3 → ⊥) → (n ≡ 4 → ⊥) → (n ≡ 6 → ⊥) → (n ≡ 7 → ⊥) → (n ≡ 8 → ⊥) → of_length n words ≡ []
none_of n two three four six seven eight =
    rw (
      ne_eqb 2 n (λ e. two (sym e)),
      ne_eqb 3 n (λ e. three (sym e)),
      ne_eqb 4 n (λ e. four (sym e)),
      ne_eqb 6 n (λ e. six (sym e)),
      ne_eqb 7 n (λ e. seven (sym e)),
      ne_eqb 8 n (λ e. eight (sym e)),
    )
