-- The walk over a formula with parts: what each call is asked, and that what they print is the formula's text. Assumes nothing.
use Prim.Native.Nat.{ℕ, ◌+◌, ◌<◌, ◌≤◌, ◌/◌, ◌%◌}
use mathlib.Core.Path.{◌≡◌, refl, ap, ◌∙◌}
use mathlib.Core.List.{List, [], ◌∷◌, ◌++◌}
use native.Mathlib.Omega.{arith}
use lib.ListN.{length, get_or}
use Rattle.rules.specs.Basic.{say}
use Rattle.rules.specs.Formula.{Formula, atom, constant, exponential, connective, Exponential, Connective, exponential_tag, connective_tag, encode_formula}
use Rattle.rules.specs.Text.{exponential_text, connective_text, text_of_formula}
use Rattle.words.specs.Prints.{Prints}
use Rattle.words.specs.Task.{Task, Done}
use Rattle.words.specs.Steps.{passed, printed, part_of, part_end, after-part, part_then, pass-then, print-then, no_more, no-more-done}
use Rattle.formula_text.specs.Task.{FormulaTask, FormulaDone}
use Rattle.formula_text.specs.Words.{sign_of, shape_of, opening_of}
use Rattle.formula_text.specs.declared.shape.Shape.TheVariants as Shapes
use Rattle.formula_text.proofs.walk.Shapes.{connective-word, exponential-opens, tag_at, ranked}

-- a formula of which the tag has a shape with parts
module _ {s : List ℕ} {at : ℕ} {out : List ℕ} {to : ℕ} where
  an-exponential : shape_of (get_or s at 0) ≡ Shapes.Exponential → (f : Formula) → FormulaTask s at out to f → (j : Exponential) × (a : Formula) × (f ≡ exponential j a)
  an-exponential e (exponential j a) t = (j, a, refl)
  an-exponential e (atom j x) t = absurd (omega (arith, ranked e (atom j x) t))
  an-exponential e (constant j) t = absurd (omega (arith, ranked e (constant j) t))
  an-exponential e (connective j a b) t = absurd (omega (arith, ranked e (connective j a b) t))

  a-connective : shape_of (get_or s at 0) ≡ Shapes.Connective → (f : Formula) → FormulaTask s at out to f → (j : Connective) × (a : Formula) × (b : Formula) × (f ≡ connective j a b)
  a-connective e (connective j a b) t = (j, a, b, refl)
  a-connective e (atom j x) t = absurd (omega (arith, ranked e (atom j x) t))
  a-connective e (constant j) t = absurd (omega (arith, ranked e (constant j) t))
  a-connective e (exponential j a) t = absurd (omega (arith, ranked e (exponential j a) t))

module _ {s : List ℕ} {at : ℕ} {out : List ℕ} {to w : ℕ} (opens : w ≡ opening_of (get_or s at 0)) {o : List ℕ} {p : ℕ} (a : Prints out to (w ∷ []) o p) where
  -- ---- an exponential
  module _ (k : Exponential) (f : Formula) (t : FormulaTask s at out to (exponential k f)) where
    exponential-prints : Prints out to (say (exponential_text k)) o p
    exponential-prints =
        let q : w ≡ opening_of (exponential_tag k) = opens ∙ ap (λ (n : ℕ). opening_of n) (tag_at (exponential k f) t) in
        rw (ap (λ (n : ℕ). n ∷ []) q ∙ exponential-opens k) at a

    exponential-part : FormulaTask s (at + 1) o p f
    unfolding encode_formula text_of_formula
    exponential-part = record { legal = t.legal; task = printed (say (exponential_text k)) (passed (exponential_tag k ∷ []) t.task) exponential-prints }

    exponential-done : {o' : List ℕ} {r : ℕ} → FormulaDone (at + 1) o p f o' r → FormulaDone at out to (exponential k f) o' r
    unfolding encode_formula text_of_formula
    exponential-done d = pass-then (exponential_tag k ∷ []) (encode_formula f) (print-then exponential-prints d)

  module _ (e : shape_of (get_or s at 0) ≡ Shapes.Exponential) where
    pub only_part : ((f : Formula) × FormulaTask s at out to f) → (f : Formula) × FormulaTask s (at + 1) o p f
    only_part (F, t) = let v = an-exponential e F t in (v.1, exponential-part v.0 v.1 (rw v.2 at t))

    pub only-done : {o' : List ℕ} {r : ℕ} → ((f : Formula) → FormulaTask s (at + 1) o p f → FormulaDone (at + 1) o p f o' r) → (f : Formula) → FormulaTask s at out to f → FormulaDone at out to f o' r
    only-done d F t =
        let v = an-exponential e F t in
        let u : FormulaTask s at out to (exponential v.0 v.1) = rw v.2 at t in
        rw v.2 (exponential-done v.0 v.1 u (d v.1 (exponential-part v.0 v.1 u)))

module _ {s : List ℕ} {at : ℕ} {out : List ℕ} {to : ℕ} {o : List ℕ} {p : ℕ} (a : Prints out to (say "(") o p) where
  -- ---- a connective
  module _ (k : Connective) (f g : Formula) (t : FormulaTask s at out to (connective k f g)) where
    abbrev close : List ℕ
    close = say ")"

    abbrev later : List ℕ
    later = say (connective_text k) ++ (text_of_formula g ++ close)

    both : Task s (at + 1) o p (encode_formula f ++ encode_formula g) (text_of_formula f ++ later)
    unfolding encode_formula text_of_formula
    both = printed (say "(") (passed (connective_tag k ∷ []) t.task) a

    left-part : FormulaTask s (at + 1) o p f
    left-part = record { legal = t.legal.0; task = part_of (encode_formula f) (encode_formula g) (text_of_formula f) later both }

    module _ {o₁ : List ℕ} {l : ℕ} (d : FormulaDone (at + 1) o p f o₁ l) where
      between : Task s (l % 65536) o₁ (l / 65536) (encode_formula g) later
      between = after-part (encode_formula f) (encode_formula g) (text_of_formula f) later both d

      further : at < l % 65536
      further = omega (arith, part_end (encode_formula f) (encode_formula g) (text_of_formula f) later both d)

      module _ {o₂ : List ℕ} {q : ℕ} (b : Prints o₁ (l / 65536) (sign_of (get_or s at 0)) o₂ q) where
        between-prints : Prints o₁ (l / 65536) (say (connective_text k)) o₂ q
        between-prints = rw (ap (λ (n : ℕ). sign_of n) (tag_at (connective k f g) t) ∙ connective-word k) at b

        second : Task s (l % 65536) o₂ q (encode_formula g ++ []) (text_of_formula g ++ close)
        second = no_more (printed (say (connective_text k)) between between-prints)

        right-part : FormulaTask s (l % 65536) o₂ q g
        right-part = record { legal = t.legal.1; task = part_of (encode_formula g) [] (text_of_formula g) close second }

        module _ {o₃ : List ℕ} {r : ℕ} (e : FormulaDone (l % 65536) o₂ q g o₃ r) where
          last : Task s (r % 65536) o₃ (r / 65536) [] close
          last = after-part (encode_formula g) [] (text_of_formula g) close second e

          connective-done : {o₄ : List ℕ} {n : ℕ} → Done (r % 65536) o₃ (r / 65536) [] close o₄ n → FormulaDone at out to (connective k f g) o₄ n
          unfolding encode_formula text_of_formula
          connective-done c =
              pass-then (connective_tag k ∷ []) (encode_formula f ++ encode_formula g)
              (print-then a (part_then (encode_formula f) (encode_formula g) (text_of_formula f) later both d
              (print-then between-prints (no-more-done (encode_formula g) (part_then (encode_formula g) [] (text_of_formula g) close second e c)))))

  module _ (e : shape_of (get_or s at 0) ≡ Shapes.Connective) where
    connected : (F : Formula) → FormulaTask s at out to F → (j : Connective) × (f : Formula) × (g : Formula) × (F ≡ connective j f g) × FormulaTask s at out to (connective j f g)
    connected F t = let v = a-connective e F t in (v.0, v.1, v.2, v.3, rw v.3 at t)

    pub first_part : ((f : Formula) × FormulaTask s at out to f) → (f : Formula) × FormulaTask s (at + 1) o p f
    first_part (F, t) = let (j, f, g, i, u) = connected F t in (f, left-part j f g u)

    module _ {o₁ : List ℕ} {l : ℕ} (d : (f : Formula) → FormulaTask s (at + 1) o p f → FormulaDone (at + 1) o p f o₁ l) where
      pub sign-room : ((f : Formula) × FormulaTask s at out to f) → (l / 65536 + 8 ≤ length o₁) × (at < l % 65536)
      sign-room (F, t) = let (j, f, g, i, u) = connected F t in let w = d f (left-part j f g u) in (omega (arith, (between j f g u w).room), further j f g u w)

      module _ {o₂ : List ℕ} {q : ℕ} (b : Prints o₁ (l / 65536) (sign_of (get_or s at 0)) o₂ q) where
        pub second-part : ((f : Formula) × FormulaTask s at out to f) → (f : Formula) × FormulaTask s (l % 65536) o₂ q f
        second-part (F, t) = let (j, f, g, i, u) = connected F t in (g, right-part j f g u (d f (left-part j f g u)) b)

        module _ {o₃ : List ℕ} {r : ℕ} (x : (f : Formula) → FormulaTask s (l % 65536) o₂ q f → FormulaDone (l % 65536) o₂ q f o₃ r) where
          pub close-room : ((f : Formula) × FormulaTask s at out to f) → (r / 65536 + 1 ≤ length o₃) × (r / 65536 + 1 < 65536)
          close-room (F, t) =
              let (j, f, g, i, u) = connected F t in
              let w = d f (left-part j f g u) in
              let y = last j f g u w b (x g (right-part j f g u w b)) in
              (omega (arith, y.room), omega (arith, y.low))

          pub both-done : {o₄ : List ℕ} {n : ℕ} → Done (r % 65536) o₃ (r / 65536) [] (say ")") o₄ n → (f : Formula) → FormulaTask s at out to f → FormulaDone at out to f o₄ n
          both-done c F t =
              let (j, f, g, i, u) = connected F t in
              let w = d f (left-part j f g u) in
              rw i (connective-done j f g u w b (x g (right-part j f g u w b)) c)
