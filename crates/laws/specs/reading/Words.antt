-- What the words are: two to eight small letters, by a test of each. So a name that ends in a digit is none; and one that is has no other fault,
-- whence it cannot be told whether 15 is tested before or after the other refusals of a name. Assumes nothing.
use Rattle.std.specs.Prelude.{ℕ, ◌<◌, ◌≡◌, refl, Bool, true, false, ◌&&◌, List, [], ◌∷◌, ◌++◌, length}
use Rattle.std.proofs.Common.{sym, ap, ◌∙◌, true≢false}
use Rattle.std.proofs.lemmas.Bool.{lt-leb}
use Rattle.rules.specs.Basic.{between, ◌≤?◌}
use Rattle.rules.specs.Name.{Name, same, among, leads, follows, words, is_a_word}
use Rattle.laws.specs.free.Same.{same-equal, both_true}

abbrev pub every : {A : Type 0} → (A → Bool) → List A → Bool
every ok [] = true
every ok (x ∷ xs) = ok x && every ok xs

every-among : (ok : Name → Bool) (ws : List Name) → every ok ws ≡ true → (x : Name) → among x ws ≡ true → ok x ≡ true
every-among ok [] all x e = absurd (true≢false (sym e))
every-among ok (w ∷ ws) all x e = go (every-among ok ws (both_true (ok w) (every ok ws) all).1 x) (same x w) refl
  where
    go : (among x ws ≡ true → ok x ≡ true) → (b : Bool) → same x w ≡ b → ok x ≡ true
    go h true d = rw (same-equal x w d) (both_true (ok w) (every ok ws) all).0
    go h false d = h (rw d at e)

-- WHAT PASSES A TEST OF EACH WORD HOLDS OF EVERY NAME THAT IS ONE
pub word-is : (ok : Name → Bool) → every ok words ≡ true → (x : Name) → is_a_word x ≡ true → ok x ≡ true
unfolding is_a_word
word-is ok all x e = every-among ok words all x e

-- A WORD IS WELL SPELLED BUT FOR BEING ONE
abbrev pub spelled_well : Name → Bool
spelled_well [] = false
spelled_well (b ∷ bs) = leads b && (every follows bs && between 1 7 (length bs))

pub word-spelled : (x : Name) → is_a_word x ≡ true → spelled_well x ≡ true
unfolding leads follows
word-spelled = word-is spelled_well refl

abbrev small : ℕ → Bool
small b = between 97 122 b

every-last : (ok : ℕ → Bool) (x : Name) (d : ℕ) → every ok (x ++ d ∷ []) ≡ true → ok d ≡ true
every-last ok [] d e = (both_true (ok d) true e).0
every-last ok (b ∷ x) d e = every-last ok x d (both_true (ok b) (every ok (x ++ d ∷ [])) e).1

-- A NAME THAT ENDS IN A DIGIT IS NO WORD
pub ends-in-digit : (x : Name) (d : ℕ) → d < 97 → is_a_word (x ++ d ∷ []) ≡ false
ends-in-digit x d h = go (is_a_word (x ++ d ∷ [])) refl
  where
    go : (b : Bool) → is_a_word (x ++ d ∷ []) ≡ b → b ≡ false
    go false e = refl
    go true e = absurd (true≢false (sym (every-last small x d (word-is (every small) refl (x ++ d ∷ []) e)) ∙ ap (λ (b : Bool). b && (d ≤? 122)) (lt-leb 97 d h)))
