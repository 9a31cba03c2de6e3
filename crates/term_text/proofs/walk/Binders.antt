-- The walk over let, copy and case: the names stand before the parts, and are printed where the text has them.
-- Assumes nothing.
use Prim.Native.Nat.{ℕ, ◌+◌, ◌<◌, ◌≤◌, ◌/◌, ◌%◌}
use mathlib.Core.Path.{◌≡◌, sym, ap, ◌∙◌}
use mathlib.Core.List.{List, [], ◌∷◌, ◌++◌, append_assoc}
use native.Mathlib.Omega.{arith}
use lib.ListN.{length, get_or, length-append}
use Rattle.rules.specs.Basic.{say}
use Rattle.rules.specs.Name.{Name, encode_name}
use Rattle.rules.specs.Term.{Term, both, branch, let_a_pair, copy, encode}
use Rattle.rules.specs.Text.{text}
use Rattle.words.specs.Prints.{Prints}
use Rattle.words.specs.Task.{Task, Done}
use Rattle.words.specs.Steps.{printed, part_of, part_end, after-part, part_then, print-then, no_more, no-more-done, told, told-done, Named}
use Rattle.term_text.specs.Task.{TermTask, TermDone, name_at, after_name, NameIn}
use Rattle.term_text.proofs.phrase.Names.{name_in, name-is, first-named, second-named, after_two, two_then, spread}

-- two names with words around them
abbrev pub Names : List ℕ → Name → Name → List ℕ → List ℕ
Names u x y v = u ++ (x ++ (say ", " ++ (y ++ v)))

module _ {s : List ℕ} {at : ℕ} {out : List ℕ} {to : ℕ} where
  -- ---- let
  module _ (x y : Name) (f g : Term) (t : TermTask s at out to (both let_a_pair x y f g)) where
    abbrev let-later : List ℕ
    let-later = text f ++ (say " in " ++ text g)

    let-spelt : say "let (" ++ (x ++ (say ", " ++ (y ++ (say ") = " ++ let-later)))) ≡ Names (say "let (") x y (say ") = ") ++ let-later
    let-spelt = ap (λ (l : List ℕ). say "let (" ++ l) (spread x (say ", ") y (say ") = ") let-later)

    let-task : Task s at out to (4 ∷ (encode_name x ++ (encode_name y ++ (encode f ++ encode g)))) (Names (say "let (") x y (say ") = ") ++ let-later)
    unfolding encode text
    let-task = told let-spelt t.task

    let-first : Named s (at + 1) x
    let-first = first-named 4 x y (encode f ++ encode g) let-task

    let-second : Named s (after_name s (at + 1)) y
    let-second = second-named 4 x y (encode f ++ encode g) let-task

    pub let-in : NameIn s (at + 1) × NameIn s (after_name s (at + 1))
    let-in = (name_in let-first t.legal.0.short, name_in let-second t.legal.1.short)

    pub let-room : to + get_or s (at + 1) 0 + get_or s (after_name s (at + 1)) 0 + 31 ≤ length out
    let-room =
        omega (
          arith,
          let-first.long,
          let-second.long,
          let-task.room,
          length-append (Names (say "let (") x y (say ") = ")) let-later,
          length-append x (say ", " ++ (y ++ say ") = ")),
          length-append y (say ") = "),
        )

    module _ {o : List ℕ} {p q : ℕ} (a : Prints out to (Names (say "let (") (name_at s (at + 1)) (name_at s (after_name s (at + 1))) (say ") = ")) o p) (h : q ≡ after_name s (after_name s (at + 1))) where
      let-prints : Prints out to (Names (say "let (") x y (say ") = ")) o p
      let-prints = rw (name-is let-first, name-is let-second) at a

      let-parts : Task s q o p (encode f ++ encode g) let-later
      let-parts = rw h (printed (Names (say "let (") x y (say ") = ")) (after_two 4 x y (encode f ++ encode g) let-task) let-prints)

      pub let-part : TermTask s q o p f
      let-part = record { legal = t.legal.2; task = part_of (encode f) (encode g) (text f) (say " in " ++ text g) let-parts }

      module _ {o₁ : List ℕ} {l : ℕ} (d : TermDone q o p f o₁ l) where
        let-between : Task s (l % 65536) o₁ (l / 65536) (encode g) (say " in " ++ text g)
        let-between = after-part (encode f) (encode g) (text f) (say " in " ++ text g) let-parts d

        pub let-further : at < l % 65536
        let-further = omega (arith, h, part_end (encode f) (encode g) (text f) (say " in " ++ text g) let-parts d)

        pub let-between-room : l / 65536 + 8 ≤ length o₁
        let-between-room = omega (arith, let-between.room)

        module _ {o₂ : List ℕ} {n : ℕ} (b : Prints o₁ (l / 65536) (say " in ") o₂ n) where
          pub let-body : TermTask s (l % 65536) o₂ n g
          let-body = record { legal = t.legal.3; task = printed (say " in ") let-between b }

          pub let-done : {o₃ : List ℕ} {r : ℕ} → TermDone (l % 65536) o₂ n g o₃ r → TermDone at out to (both let_a_pair x y f g) o₃ r
          unfolding encode text
          let-done e =
              told-done (sym let-spelt)
              (two_then 4 x y (encode f ++ encode g) let-task
              (print-then let-prints (rw h at (part_then (encode f) (encode g) (text f) (say " in " ++ text g) let-parts d (print-then b e)))))

  -- ---- copy
  module _ (x y : Name) (f g : Term) (t : TermTask s at out to (both copy x y f g)) where
    abbrev as-names : List ℕ
    as-names = Names (say " as (") x y (say ") in ")

    as-spelt : say " as (" ++ (x ++ (say ", " ++ (y ++ (say ") in " ++ text g)))) ≡ as-names ++ text g
    as-spelt = ap (λ (l : List ℕ). say " as (" ++ l) (spread x (say ", ") y (say ") in ") (text g))

    copy-spelt : say "copy " ++ (text f ++ (say " as (" ++ (x ++ (say ", " ++ (y ++ (say ") in " ++ text g)))))) ≡ say "copy " ++ (text f ++ (as-names ++ text g))
    copy-spelt = ap (λ (l : List ℕ). say "copy " ++ (text f ++ l)) as-spelt

    copy-task : Task s at out to (17 ∷ (encode_name x ++ (encode_name y ++ (encode f ++ encode g)))) (say "copy " ++ (text f ++ (as-names ++ text g)))
    unfolding encode text
    copy-task = told copy-spelt t.task

    copy-first : Named s (at + 1) x
    copy-first = first-named 17 x y (encode f ++ encode g) copy-task

    copy-second : Named s (after_name s (at + 1)) y
    copy-second = second-named 17 x y (encode f ++ encode g) copy-task

    pub copy-in : NameIn s (at + 1) × NameIn s (after_name s (at + 1))
    copy-in = (name_in copy-first t.legal.0.short, name_in copy-second t.legal.1.short)

    module _ {o : List ℕ} {p q : ℕ} (a : Prints out to (say "copy ") o p) (h : q ≡ after_name s (after_name s (at + 1))) where
      copy_parts : Task s q o p (encode f ++ encode g) (text f ++ (as-names ++ text g))
      copy_parts = rw h (printed (say "copy ") (after_two 17 x y (encode f ++ encode g) copy-task) a)

      pub copy-part : TermTask s q o p f
      copy-part = record { legal = t.legal.2; task = part_of (encode f) (encode g) (text f) (as-names ++ text g) copy_parts }

      module _ {o₁ : List ℕ} {l : ℕ} (d : TermDone q o p f o₁ l) where
        copy-between : Task s (l % 65536) o₁ (l / 65536) (encode g) (as-names ++ text g)
        copy-between = after-part (encode f) (encode g) (text f) (as-names ++ text g) copy_parts d

        pub copy-further : at < l % 65536
        copy-further = omega (arith, h, part_end (encode f) (encode g) (text f) (as-names ++ text g) copy_parts d)

        pub copy-between-room : l / 65536 + get_or s (at + 1) 0 + get_or s (after_name s (at + 1)) 0 + 31 ≤ length o₁
        copy-between-room =
            omega (
              arith,
              copy-first.long,
              copy-second.long,
              copy-between.room,
              length-append as-names (text g),
              length-append x (say ", " ++ (y ++ say ") in ")),
              length-append y (say ") in "),
            )

        module _ {o₂ : List ℕ} {n : ℕ} (b : Prints o₁ (l / 65536) (Names (say " as (") (name_at s (at + 1)) (name_at s (after_name s (at + 1))) (say ") in ")) o₂ n) where
          copy-prints : Prints o₁ (l / 65536) as-names o₂ n
          copy-prints = rw (name-is copy-first, name-is copy-second) at b

          pub copy_body : TermTask s (l % 65536) o₂ n g
          copy_body = record { legal = t.legal.3; task = printed as-names copy-between copy-prints }

          pub copy_done : {o₃ : List ℕ} {r : ℕ} → TermDone (l % 65536) o₂ n g o₃ r → TermDone at out to (both copy x y f g) o₃ r
          unfolding encode text
          copy_done e =
              told-done (sym copy-spelt)
              (two_then 17 x y (encode f ++ encode g) copy-task
              (print-then a (rw h at (part_then (encode f) (encode g) (text f) (as-names ++ text g) copy_parts d (print-then copy-prints e)))))

  -- ---- case
  module _ (x y : Name) (f g m : Term) (t : TermTask s at out to (branch x y f g m)) where
    abbrev end : List ℕ
    end = say " }"

    abbrev left-opens : List ℕ
    left-opens = say " of { inl " ++ (x ++ say " => ")

    abbrev right-opens : List ℕ
    right-opens = say " | inr " ++ (y ++ say " => ")

    abbrev last-words : List ℕ
    last-words = text m ++ end

    abbrev right-words : List ℕ
    right-words = right-opens ++ last-words

    abbrev left-words : List ℕ
    left-words = left-opens ++ (text g ++ right-words)

    case-spelt : say "case " ++ (text f ++ (say " of { inl " ++ (x ++ (say " => " ++ (text g ++ (say " | inr " ++ (y ++ (say " => " ++ last-words))))))))
        ≡ say "case " ++ (text f ++ left-words)
    case-spelt =
        let r : say " | inr " ++ (y ++ (say " => " ++ last-words)) ≡ right-words = ap (λ (l : List ℕ). say " | inr " ++ l) (sym (append_assoc y (say " => ") last-words)) in
        let k : say " of { inl " ++ (x ++ (say " => " ++ (text g ++ right-words))) ≡ left-words = ap (λ (l : List ℕ). say " of { inl " ++ l) (sym (append_assoc x (say " => ") (text g ++ right-words))) in
        ap (λ (l : List ℕ). say "case " ++ (text f ++ (say " of { inl " ++ (x ++ (say " => " ++ (text g ++ l)))))) r ∙ ap (λ (l : List ℕ). say "case " ++ (text f ++ l)) k

    abbrev parts : List ℕ
    parts = encode f ++ (encode g ++ encode m)

    case-task : Task s at out to (9 ∷ (encode_name x ++ (encode_name y ++ parts))) (say "case " ++ (text f ++ left-words))
    unfolding encode text
    case-task = told case-spelt t.task

    case-first : Named s (at + 1) x
    case-first = first-named 9 x y parts case-task

    case-second : Named s (after_name s (at + 1)) y
    case-second = second-named 9 x y parts case-task

    pub case-in : NameIn s (at + 1) × NameIn s (after_name s (at + 1))
    case-in = (name_in case-first t.legal.0.short, name_in case-second t.legal.1.short)

    module _ {o : List ℕ} {p q : ℕ} (a : Prints out to (say "case ") o p) (h : q ≡ after_name s (after_name s (at + 1))) where
      case-parts : Task s q o p parts (text f ++ left-words)
      case-parts = rw h (printed (say "case ") (after_two 9 x y parts case-task) a)

      pub case-part : TermTask s q o p f
      case-part = record { legal = t.legal.2; task = part_of (encode f) (encode g ++ encode m) (text f) left-words case-parts }

      module _ {o₁ : List ℕ} {l : ℕ} (d : TermDone q o p f o₁ l) where
        left-task : Task s (l % 65536) o₁ (l / 65536) (encode g ++ encode m) left-words
        left-task = after-part (encode f) (encode g ++ encode m) (text f) left-words case-parts d

        pub left-further : at < l % 65536
        left-further = omega (arith, h, part_end (encode f) (encode g ++ encode m) (text f) left-words case-parts d)

        pub left-room : l / 65536 + get_or s (at + 1) 0 + 34 ≤ length o₁
        left-room = omega (arith, case-first.long, left-task.room, length-append left-opens (text g ++ right-words), length-append x (say " => "))

        module _ {o₂ : List ℕ} {n : ℕ} (b : Prints o₁ (l / 65536) (say " of { inl " ++ (name_at s (at + 1) ++ say " => ")) o₂ n) where
          left-prints : Prints o₁ (l / 65536) left-opens o₂ n
          left-prints = rw (name-is case-first) at b

          left-parts : Task s (l % 65536) o₂ n (encode g ++ encode m) (text g ++ right-words)
          left-parts = printed left-opens left-task left-prints

          pub left-branch : TermTask s (l % 65536) o₂ n g
          left-branch = record { legal = t.legal.3; task = part_of (encode g) (encode m) (text g) right-words left-parts }

          module _ {o₃ : List ℕ} {k : ℕ} (e : TermDone (l % 65536) o₂ n g o₃ k) where
            right-task : Task s (k % 65536) o₃ (k / 65536) (encode m) right-words
            right-task = after-part (encode g) (encode m) (text g) right-words left-parts e

            pub right-further : at < k % 65536
            right-further = omega (arith, left-further, part_end (encode g) (encode m) (text g) right-words left-parts e)

            pub right-room : k / 65536 + get_or s (after_name s (at + 1)) 0 + 31 ≤ length o₃
            right-room = omega (arith, case-second.long, right-task.room, length-append right-opens last-words, length-append y (say " => "))

            module _ {o₄ : List ℕ} {i : ℕ} (c : Prints o₃ (k / 65536) (say " | inr " ++ (name_at s (after_name s (at + 1)) ++ say " => ")) o₄ i) where
              right-prints : Prints o₃ (k / 65536) right-opens o₄ i
              right-prints = rw (name-is case-second) at c

              right-parts : Task s (k % 65536) o₄ i (encode m ++ []) last-words
              right-parts = no_more (printed right-opens right-task right-prints)

              pub right-branch : TermTask s (k % 65536) o₄ i m
              right-branch = record { legal = t.legal.4; task = part_of (encode m) [] (text m) end right-parts }

              module _ {o₅ : List ℕ} {j : ℕ} (u : TermDone (k % 65536) o₄ i m o₅ j) where
                end-task : Task s (j % 65536) o₅ (j / 65536) [] end
                end-task = after-part (encode m) [] (text m) end right-parts u

                pub end-room : (j / 65536 + 8 ≤ length o₅) × (j / 65536 + 2 < 65536)
                end-room = (omega (arith, end-task.room), omega (arith, end-task.low))

                pub case-done : {o₆ : List ℕ} {w : ℕ} → Done (j % 65536) o₅ (j / 65536) [] end o₆ w → TermDone at out to (branch x y f g m) o₆ w
                unfolding encode text
                case-done v =
                    told-done (sym case-spelt)
                    (two_then 9 x y parts case-task
                    (print-then a (rw h at (part_then (encode f) (encode g ++ encode m) (text f) left-words case-parts d
                    (print-then left-prints (part_then (encode g) (encode m) (text g) right-words left-parts e
                    (print-then right-prints (no-more-done (encode m) (part_then (encode m) [] (text m) end right-parts u v)))))))))
