-- The walk over a term: it stands at a part, and whatever prints that part and the brackets to come prints the whole.
-- Assumes nothing.
use Prim.Native.Nat.{ℕ, suc, ◌+◌, ◌<◌, ◌≤◌, ◌/◌, ◌%◌}
use mathlib.Core.Path.{◌≡◌, sym, ap, ◌∙◌}
use mathlib.Core.List.{List, [], ◌∷◌, ◌++◌, append_assoc, append-nil}
use native.Mathlib.Omega.{arith}
use lib.ListN.{length, get_or, length-append, length-replicate}
use Rattle.rules.specs.Basic.{say}
use Rattle.rules.specs.Name.{Name, encode_name, name_most}
use Rattle.rules.specs.Legal.{Legal}
use Rattle.rules.specs.Term.{Term, var, one, two, abs, One, Two, one_tag, two_tag, encode}
use Rattle.rules.specs.Text.{one_text, text}
use Rattle.words.specs.Prints.{Prints, brackets}
use Rattle.words.specs.Task.{Task, Done}
use Rattle.words.specs.Steps.{first_byte, passed, printed, part_of, part_end, after-part, part_then, pass-then, print-then, no_more, no-more-done, told, told-done, Named, named}
use Rattle.term.specs.Shape.{Bracketed}
use Rattle.term_text.specs.Task.{TermTask, TermDone, name_at, after_name, NameIn}
use Rattle.term_text.specs.Words.{sign_of}
use Rattle.term_text.proofs.phrase.Shapes.{one_word, one-low, two-low, two-text}
use Rattle.term_text.proofs.phrase.Names.{name_in, name-is, after_one, one_then}
use Rattle.term_text.proofs.phrase.Shaped.{chosen}

-- The walk of T from `at` stands at t, after which c brackets come.
pub record At (s : List ℕ) (at : ℕ) (out₀ : List ℕ) (to : ℕ) (T : Term) (out : List ℕ) (i o c : ℕ) (t : Term) : Type 0 where
  pub legal : Legal t
  pub task : Task s i out o (encode t) (text t ++ brackets c)
  pub gives : {o' : List ℕ} {r : ℕ} → Done i out o (encode t) (text t ++ brackets c) o' r → TermDone at out₀ to T o' r

pub record On (s : List ℕ) (at : ℕ) (out₀ : List ℕ) (to : ℕ) (T : Term) (out : List ℕ) (i o c : ℕ) : Type 0 where
  pub t : Term
  pub stands : At s at out₀ to T out i o c t

-- at first it stands at T itself
pub start : {s : List ℕ} {at : ℕ} {out : List ℕ} {to : ℕ} (T : Term) → TermTask s at out to T → On s at out to T out at to 0
start T w =
    record {
      t = T;
      stands = record { legal = w.legal; task = told (sym (append-nil (text T))) w.task; gives = λ d. told-done (append-nil (text T)) d };
    }

module _ {s : List ℕ} {at : ℕ} {out₀ : List ℕ} {to : ℕ} {T : Term} {out : List ℕ} {i o c : ℕ} where
  at-task : {t : Term} → At s at out₀ to T out i o c t → TermTask s i out o t
  at-task {t} a = record { legal = a.legal; task = part_of (encode t) [] (text t) (brackets c) (no_more a.task) }

  -- ---- a part that is printed by a call, and its brackets
  module _ (n : On s at out₀ to T out i o c) where
    pub here : TermTask s i out o n.t
    here = at-task n.stands

    module _ {o₁ : List ℕ} {r : ℕ} (d : TermDone i out o n.t o₁ r) where
      last : Task s (r % 65536) o₁ (r / 65536) [] (brackets c)
      last = after-part (encode n.t) [] (text n.t) (brackets c) (no_more n.stands.task) d

      pub brackets-room : (r / 65536 + c + 8 ≤ length o₁) × (r / 65536 + c < 65536)
      brackets-room =
          let k : length (brackets c) ≡ c = length-replicate {A = ℕ} c 41 in
          (omega (arith, last.room), omega (arith, last.low))

      pub ends : {o₂ : List ℕ} {q : ℕ} → Done (r % 65536) o₁ (r / 65536) [] (brackets c) o₂ q → TermDone at out₀ to T o₂ q
      ends b = n.stands.gives (no-more-done (encode n.t) (part_then (encode n.t) [] (text n.t) (brackets c) (no_more n.stands.task) d b))

  -- ---- one part
  module _ (k : One) (f : Term) (a : At s at out₀ to T out i o c (one k f)) where
    pub one-asked : (get_or s i 0 < 16) × (o + 9 ≤ length out)
    unfolding encode
    one-asked = (omega (arith, first_byte a.task, one-low k), omega (arith, a.task.room))

    pub one-turn : {o₁ : List ℕ} {p : ℕ} → Prints out o (sign_of (get_or s i 0)) o₁ p → At s at out₀ to T o₁ (i + 1) p c f
    unfolding encode text
    one-turn {o₁} {p} b =
        let w : Prints out o (say (one_text k)) o₁ p = chosen (get_or s i 0) (one_tag k) (first_byte a.task) (one_word k) b in
        let q : (say (one_text k) ++ text f) ++ brackets c ≡ say (one_text k) ++ (text f ++ brackets c) = append_assoc (say (one_text k)) (text f) (brackets c) in
        record {
          legal = a.legal;
          task = printed (say (one_text k)) (passed (one_tag k ∷ []) (told q a.task)) w;
          gives = λ d. a.gives (told-done (sym q) (pass-then (one_tag k ∷ []) (encode f) (print-then w d)));
        }

  -- ---- a pair or an application: its bracket is counted
  module _ (k : Two) (z : Bracketed k) (f g : Term) (a : At s at out₀ to T out i o c (two k f g)) where
    abbrev later : List ℕ
    later = sign_of (two_tag k) ++ (text g ++ brackets (c + 1))

    two-spelt : text (two k f g) ++ brackets c ≡ say "(" ++ (text f ++ later)
    two-spelt =
        let q : suc c ≡ c + 1 = omega arith in
        let x = sign_of (two_tag k) in
        ap (λ (l : List ℕ). l ++ brackets c) (two-text k z f g)
        ∙ ap (λ (l : List ℕ). say "(" ++ l)
        (append_assoc (text f) (x ++ (text g ++ say ")")) (brackets c) ∙ ap (λ (l : List ℕ). text f ++ l)
        (append_assoc x (text g ++ say ")") (brackets c) ∙ ap (λ (l : List ℕ). x ++ l)
        (append_assoc (text g) (say ")") (brackets c) ∙ ap (λ (m : ℕ). text g ++ brackets m) q)))

    pub two-room : o < length out
    two-room = omega (arith, a.task.room)

    after_tag : Task s (i + 1) out o (encode f ++ encode g) (say "(" ++ (text f ++ later))
    unfolding encode
    after_tag = passed (two_tag k ∷ []) (told two-spelt a.task)

    pub first_part : TermTask s (i + 1) out o f
    first_part =
        let u = after_tag in
        let m : length (text f ++ later) ≡ length (text f) + length later = length-append (text f) later in
        record {
          legal = a.legal.0;
          task = record {
            inside = u.inside;
            rest = encode g ++ u.rest;
            bytes = u.bytes ∙ append_assoc (encode f) (encode g) u.rest;
            room = omega (arith, u.room);
            short = u.short;
            low = omega (arith, u.low);
          };
        }

    module _ {o₁ : List ℕ} {p : ℕ} (b : Prints out o (40 ∷ []) o₁ p) where
      two-parts : Task s (i + 1) o₁ p (encode f ++ encode g) (text f ++ later)
      two-parts = printed (say "(") after_tag b

      pub left-part : TermTask s (i + 1) o₁ p f
      left-part = record { legal = a.legal.0; task = part_of (encode f) (encode g) (text f) later two-parts }

      module _ {o₂ : List ℕ} {l : ℕ} (d : TermDone (i + 1) o₁ p f o₂ l) where
        between : Task s (l % 65536) o₂ (l / 65536) (encode g) later
        between = after-part (encode f) (encode g) (text f) later two-parts d

        pub two-further : i < l % 65536
        two-further = omega (arith, part_end (encode f) (encode g) (text f) later two-parts d)

        pub between-room : (get_or s i 0 < 16) × (l / 65536 + 9 ≤ length o₂)
        unfolding encode
        between-room = (omega (arith, first_byte a.task, two-low k z), omega (arith, between.room))

        pub two-turn : {o₃ : List ℕ} {q : ℕ} → Prints o₂ (l / 65536) (sign_of (get_or s i 0)) o₃ q → At s at out₀ to T o₃ (l % 65536) q (c + 1) g
        unfolding encode
        two-turn {o₃} {q} e =
            let w : Prints o₂ (l / 65536) (sign_of (two_tag k)) o₃ q = rw (ap (λ (n : ℕ). sign_of n) (first_byte a.task)) at e in
            record {
              legal = a.legal.1;
              task = printed (sign_of (two_tag k)) between w;
              gives = λ r. a.gives (told-done (sym two-spelt)
                  (pass-then (two_tag k ∷ []) (encode f ++ encode g) (print-then b (part_then (encode f) (encode g) (text f) later two-parts d (print-then w r)))));
            }

  -- ---- a variable: the end
  module _ (x : Name) (a : At s at out₀ to T out i o c (var x)) where
    pub last-task : Task s (i + 1) out o (encode_name x) (x ++ brackets c)
    unfolding encode text
    last-task = passed (1 ∷ []) a.task

    pub last-long : length x ≤ name_most
    last-long = a.legal.short

    pub last_done : {o₁ : List ℕ} {r : ℕ} → Done (i + 1) out o (encode_name x) (x ++ brackets c) o₁ r → TermDone at out₀ to T o₁ r
    unfolding encode text
    last_done d = a.gives (pass-then (1 ∷ []) (encode_name x) d)

  -- ---- an abstraction
  module _ (x : Name) (f : Term) (a : At s at out₀ to T out i o c (abs x f)) where
    abbrev opens : List ℕ
    opens = say "λ" ++ (x ++ say ". ")

    abs-spelt : (say "λ" ++ (x ++ (say ". " ++ text f))) ++ brackets c ≡ opens ++ (text f ++ brackets c)
    abs-spelt = ap (λ (l : List ℕ). (say "λ" ++ l) ++ brackets c) (sym (append_assoc x (say ". ") (text f))) ∙ append_assoc opens (text f) (brackets c)

    abs-task : Task s (i + 1) out o (encode_name x ++ encode f) (opens ++ (text f ++ brackets c))
    unfolding encode text
    abs-task = passed (5 ∷ []) (told abs-spelt a.task)

    abs-named : Named s (i + 1) x
    abs-named = named x (encode f) abs-task

    pub abs-in : NameIn s (i + 1)
    abs-in = name_in abs-named a.legal.0.short

    pub abs-room : o + get_or s (i + 1) 0 + 28 ≤ length out
    abs-room = omega (arith, abs-named.long, abs-task.room, length-append opens (text f ++ brackets c), length-append x (say ". "))

    pub abs-turn : {o₁ : List ℕ} {p q : ℕ} → Prints out o (say "λ" ++ (name_at s (i + 1) ++ say ". ")) o₁ p → q ≡ after_name s (i + 1) → At s at out₀ to T o₁ q p c f
    unfolding encode text
    abs-turn {o₁} {p} {q} b h =
        let w : Prints out o opens o₁ p = rw (name-is abs-named) at b in
        record {
          legal = a.legal.1;
          task = rw h (printed opens (after_one x (encode f) abs-task) w);
          gives = λ d. a.gives (told-done (sym abs-spelt) (pass-then (5 ∷ []) (encode_name x ++ encode f) (one_then x (encode f) abs-task (print-then w (rw h at d)))));
        }
