-- A formula without parts: its name, or no bytes where it is a constant, and then its sign.
-- Assumes nothing.
use Prim.Native.Nat.{ℕ, ◌+◌, ◌*◌, ◌<◌, ◌≤◌}
use mathlib.Core.Path.{◌≡◌, refl, ap, ◌∙◌}
use mathlib.Core.List.{List, [], ◌∷◌, ◌++◌}
use native.Mathlib.Omega.{arith}
use lib.ListN.{length, get_or, take, drop, length-append}
use Rattle.rules.specs.Basic.{say}
use Rattle.rules.specs.Name.{Name, atom_most}
use Rattle.rules.specs.Formula.{Formula, atom, constant, exponential, connective, Sign, Constant, tag_of_sign, encode_formula}
use Rattle.rules.specs.Text.{sign_text, constant_text, text_of_formula}
use Rattle.words.specs.Prints.{Prints}
use Rattle.words.specs.Task.{places}
use Rattle.words.specs.Steps.{chain, finish, passed, no_more, Named, named}
use Rattle.formula_text.specs.Task.{FormulaTask, FormulaDone, Leaf}
use Rattle.formula_text.specs.Words.{sign_of, names_of}
use Rattle.formula_text.proofs.walk.Shapes.{sign_word, constant-word, tag_at, names_at, begun}

-- The leaf f at `at`: m is 1 where it has a name, and n is that name's length.
pub record Leafed (s : List ℕ) (at : ℕ) (f : Formula) (m n : ℕ) : Type 0 where
  pub name : List ℕ
  pub word : List ℕ
  pub long : n ≡ length name
  pub few : n ≤ atom_most
  pub fits : at + 1 + m + n ≤ length s
  pub is : take n (drop (at + 1 + m) s) ≡ name
  pub sign : sign_of (get_or s at 0) ≡ word
  pub text : text_of_formula f ≡ name ++ word
  pub bytes : length (encode_formula f) ≡ 1 + m + n

module _ {s : List ℕ} {at : ℕ} {out : List ℕ} {to : ℕ} where
  an-atom : (k : Sign) (x : Name) → FormulaTask s at out to (atom k x) → Leafed s at (atom k x) 1 (1 * get_or s (at + 1) 0)
  unfolding encode_formula text_of_formula
  an-atom k x t =
      let n : Named s (at + 1) x = named x [] (no_more (passed (tag_of_sign k ∷ []) t.task)) in
      let z : 1 * get_or s (at + 1) 0 ≡ length x = omega (arith, n.long) in
      record {
        name = x;
        word = say (sign_text k);
        long = z;
        few = omega (arith, z, t.legal.short);
        fits = omega (arith, z, n.fits);
        is = rw z n.is;
        sign = ap (λ (i : ℕ). sign_of i) (tag_at (atom k x) t) ∙ sign_word k;
        text = refl;
        bytes = omega (arith, z);
      }

  a-constant : (k : Constant) → FormulaTask s at out to (constant k) → Leafed s at (constant k) 0 (0 * get_or s (at + 0) 0)
  unfolding encode_formula text_of_formula
  a-constant k t =
      let z : 0 * get_or s (at + 0) 0 ≡ 0 = omega arith in
      record {
        name = [];
        word = say (constant_text k);
        long = z;
        few = omega (arith, z);
        fits = omega (arith, z, begun (constant k) t);
        is = rw z;
        sign = ap (λ (i : ℕ). sign_of i) (tag_at (constant k) t) ∙ constant-word k;
        text = refl;
        bytes = omega (arith, z);
      }

  pub leafed : (f : Formula) → Leaf f → FormulaTask s at out to f → {m : ℕ} → m ≡ names_of (get_or s at 0) → Leafed s at f m (m * get_or s (at + m) 0)
  leafed (atom k x) l t e = rw (e ∙ names_at (atom k x) t) (an-atom k x t)
  leafed (constant k) l t e = rw (e ∙ names_at (constant k) t) (a-constant k t)
  leafed (exponential k a) l t e = absurd l
  leafed (connective k a b) l t e = absurd l

  module _ {f : Formula} {m n : ℕ} (t : FormulaTask s at out to f) (l : Leafed s at f m n) where
    pub leaf-asked : (n ≤ atom_most) × (at + 1 + m + n ≤ length s) × (to + atom_most ≤ length out)
    leaf-asked = (l.few, l.fits, omega (arith, t.task.room))

    module _ {o : List ℕ} {p : ℕ} (a : Prints out to (take n (drop (at + 1 + m) s)) o p) where
      name-prints : Prints out to l.name o p
      name-prints = rw l.is at a

      pub sign-room : p + 8 ≤ length o
      sign-room = omega (arith, name-prints.ends, name-prints.long, t.task.room, ap length l.text, length-append l.name l.word)

      module _ {o' : List ℕ} {q : ℕ} (b : Prints o p (sign_of (get_or s at 0)) o' q) where
        leaf-prints : Prints out to (text_of_formula f) o' q
        leaf-prints = rw l.text (chain name-prints (rw l.sign at b))

        pub leaf-places : (at + 1 + m + n < 65536) × (q < 65536)
        leaf-places = (omega (arith, l.fits, t.task.short), omega (arith, leaf-prints.ends, t.task.low))

        pub leaf-done : {r : ℕ} → r ≡ places (at + 1 + m + n) q → FormulaDone at out to f o' r
        leaf-done h = finish leaf-prints (omega (arith, h, l.bytes, leaf-prints.ends))
