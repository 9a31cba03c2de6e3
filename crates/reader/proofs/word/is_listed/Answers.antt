-- `word::is_listed` meets its contract: a name is a word if it is one of those of its length. Assumes nothing.
use Prim.Native.Nat.{ℕ, ◌+◌, ◌≤◌}
use mathlib.Core.Path.{◌≡◌, refl, sym, ap, ◌∙◌}
use mathlib.Core.Bool.{Bool, false}
use native.Mathlib.Omega.{arith}
use lib.ListN.{length, take, drop}
use Rattle.rules.specs.Basic.{Bytes}
use Rattle.rules.specs.Name.{among, words, is_a_word}
use Rattle.reader.specs.Form.{Form}
use Rattle.reader.specs.Words.{compared}
use Rattle.reader.proofs.word.Compared.{compared-long}
use Rattle.reader.proofs.word.Rows.{of_length, word_of, none_of}
use Rattle.reader.proofs.word.is_listed.Goals as goal

-- what is said of the words of k letters is said of all
listed : (f : Form) (s : Bytes) (at n k : ℕ) → at + n ≤ length s → n ≡ k → (r : Bool) → r ≡ among (compared f (take n (drop at s))) (of_length k words) → r ≡ is_a_word (compared f (take n (drop at s)))
listed f s at n k h e r is = is ∙ sym (word_of k (compared f (take n (drop at s))) (compared-long f s at n h ∙ e))

pub returns-in-2 : goal.returns-in-2
returns-in-2 c =
    let a = c.args in
    let e = c.in-2.is in
    listed a.form a.s.now a.at a.n 2 (omega arith) e _ (c.is_among.ensures (of_length 2 words) (rw e (refl, refl, (refl, refl, (refl, refl, refl)))))

pub returns-in-3 : goal.returns-in-3
returns-in-3 c =
    let a = c.args in
    let e = c.in-3.is in
    listed a.form a.s.now a.at a.n 3 (omega arith) e _ (c.is_among-in-3.ensures (of_length 3 words) (rw e (refl, refl, (refl, refl, (refl, refl, (refl, refl, (refl, refl, refl)))))))

pub returns-in-4 : goal.returns-in-4
returns-in-4 c =
    let a = c.args in
    let e = c.in-4.is in
    listed a.form a.s.now a.at a.n 4 (omega arith) e _ (c.is_among-in-4.ensures (of_length 4 words) (rw e (refl, refl, (refl, refl, refl))))

pub returns-in-6 : goal.returns-in-6
returns-in-6 c =
    let a = c.args in
    let e = c.in-6.is in
    listed a.form a.s.now a.at a.n 6 (omega arith) e _ (c.is_among-in-6.ensures (of_length 6 words) (rw e (refl, refl, refl)))

pub returns-in-7 : goal.returns-in-7
returns-in-7 c =
    let a = c.args in
    let e = c.in-7.is in
    listed a.form a.s.now a.at a.n 7 (omega arith) e _ (c.is_among-in-7.ensures (of_length 7 words) (rw e (refl, refl, refl)))

pub returns-in-8 : goal.returns-in-8
returns-in-8 c =
    let a = c.args in
    let e = c.in-8.is in
    listed a.form a.s.now a.at a.n 8 (omega arith) e _ (c.is_among-in-8.ensures (of_length 8 words) (rw e (refl, refl, refl)))

pub returns-in_default : goal.returns-in_default
returns-in_default c =
    let a = c.args in
    listed a.form a.s.now a.at a.n a.n (omega arith) refl false
    (sym (ap (among (compared a.form (take a.n (drop a.at a.s.now)))) (none_of a.n (λ e. omega arith) (λ e. omega arith) (λ e. omega arith) (λ e. omega arith) (λ e. omega arith) (λ e. omega arith))))
