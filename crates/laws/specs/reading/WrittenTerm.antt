-- Terms are written as their layout says: by cases of the head, and of the term for the induction.
-- Assumes nothing.
use Rattle.std.specs.Prelude.{ℕ, ◌+◌, ◌≡◌, refl, [], ◌∷◌, ◌++◌, length}
use Rattle.std.proofs.Common.{ap, append_assoc, append-nil, arith}
use Rattle.std.proofs.Math.Option.{some}
use Rattle.rules.specs.Basic.{Bytes, ◌‥◌}
use Rattle.rules.specs.Name.{Name, name_spelling, encode_name}
use Rattle.rules.specs.Legal.{LegalName, Legal}
use Rattle.rules.specs.Layout.{Tuple, head_by_tag}
use Rattle.rules.specs.Term.{Term, var, leaf, one, two, abs, both, branch, Head, a_var, a_leaf, a_one, a_two, an_abs, a_both, a_branch, heads, leaf_tag, one_tag, two_tag, both_tag, name_count, part_count, build, terms, encode, nodes}
use Rattle.rules.specs.Term.{unit, trivial, inl, inr, fst, snd, abort, promote, derelict, pair, app, discard, let_a_pair, copy}
use Rattle.laws.specs.reading.Written.{bytes_of, sum_of, Each, Written, placed}

abbrev pub tag_of : Head → ℕ
tag_of a_var = 1
tag_of (a_leaf k) = leaf_tag k
tag_of (a_one k) = one_tag k
tag_of (a_two k) = two_tag k
tag_of an_abs = 5
tag_of (a_both k) = both_tag k
tag_of a_branch = 9

head_of : (h : Head) → head_by_tag heads (tag_of h) ≡ some h
head_of a_var = refl
head_of (a_leaf unit) = refl
head_of (a_leaf trivial) = refl
head_of (a_one inl) = refl
head_of (a_one inr) = refl
head_of (a_one fst) = refl
head_of (a_one snd) = refl
head_of (a_one abort) = refl
head_of (a_one promote) = refl
head_of (a_one derelict) = refl
head_of (a_two pair) = refl
head_of (a_two app) = refl
head_of (a_two discard) = refl
head_of an_abs = refl
head_of (a_both let_a_pair) = refl
head_of (a_both copy) = refl
head_of a_branch = refl

-- names and parts, with nothing behind the last
cat-abs : (x e : Bytes) → x ++ e ≡ (x ++ []) ++ (e ++ [])
cat-abs x e = simp append-nil

cat-both : (x : Bytes) (n : ℕ) (y e b : Bytes) → x ++ (n ∷ (y ++ (e ++ b))) ≡ (x ++ (n ∷ (y ++ []))) ++ (e ++ (b ++ []))
cat-both x n y e b = simp (append_assoc, append-nil)

cat-branch : (x : Bytes) (n : ℕ) (y e l r : Bytes) → x ++ (n ∷ (y ++ (e ++ (l ++ r)))) ≡ (x ++ (n ∷ (y ++ []))) ++ (e ++ (l ++ (r ++ [])))
cat-branch x n y e l r = simp (append_assoc, append-nil)

bytes-build : (h : Head) (xs : Tuple Name (name_count h)) (ts : Tuple Term (part_count h))
    → encode (build h xs ts) ≡ tag_of h ∷ (bytes_of encode_name (name_count h) xs ‥ bytes_of encode (part_count h) ts)
unfolding encode
bytes-build a_var xs ts = simp append-nil
bytes-build (a_leaf k) xs ts = refl
bytes-build (a_one k) xs ts = simp append-nil
bytes-build (a_two k) xs ts = simp append-nil
bytes-build an_abs xs ts = ap (λ l. 5 ∷ length xs.0 ∷ l) (cat-abs xs.0 (encode ts.0))
bytes-build (a_both k) xs ts = ap (λ l. both_tag k ∷ length xs.0 ∷ l) (cat-both xs.0 _ xs.1.0 (encode ts.0) (encode ts.1.0))
bytes-build a_branch xs ts = ap (λ l. 9 ∷ length xs.0 ∷ l) (cat-branch xs.0 _ xs.1.0 (encode ts.0) (encode ts.1.0) (encode ts.1.1.0))

count-build : (h : Head) (xs : Tuple Name (name_count h)) (ts : Tuple Term (part_count h)) → nodes (build h xs ts) ≡ 1 + sum_of nodes (part_count h) ts
unfolding nodes
count-build a_var xs ts = refl
count-build (a_leaf k) xs ts = refl
count-build (a_one k) xs ts = omega arith
count-build (a_two k) xs ts = omega arith
count-build an_abs xs ts = omega arith
count-build (a_both k) xs ts = omega arith
count-build a_branch xs ts = omega arith

legal-build : (h : Head) (xs : Tuple Name (name_count h)) (ts : Tuple Term (part_count h))
    → Each (LegalName name_spelling) (name_count h) xs → Each Legal (part_count h) ts → Legal (build h xs ts)
legal-build a_var xs ts p q = p.0
legal-build (a_leaf k) xs ts p q = tt
legal-build (a_one k) xs ts p q = q.0
legal-build (a_two k) xs ts p q = (q.0, q.1.0)
legal-build an_abs xs ts p q = (p.0, q.0)
legal-build (a_both k) xs ts p q = (p.0, p.1.0, q.0, q.1.0)
legal-build a_branch xs ts p q = (p.0, p.1.0, q.0, q.1.0, q.1.1.0)

module _ (P : Term → Type 0)
    (b : (h : Head) (xs : Tuple Name (name_count h)) (ts : Tuple Term (part_count h)) → Each (LegalName name_spelling) (name_count h) xs → Each P (part_count h) ts → P (build h xs ts)) where
  every : (t : Term) → Legal t → P t
  every (var x) p = b a_var (x, tt) tt (p, tt) tt
  every (leaf k) p = b (a_leaf k) tt tt tt tt
  every (one k e) p = b (a_one k) tt (e, tt) tt (every e p, tt)
  every (two k e f) p = b (a_two k) tt (e, (f, tt)) tt (every e p.0, (every f p.1, tt))
  every (abs x e) p = b an_abs (x, tt) (e, tt) (p.0, tt) (every e p.1, tt)
  every (both k x y e f) p = b (a_both k) (x, (y, tt)) (e, (f, tt)) (p.0, (p.1, tt)) (every e p.2, (every f p.3, tt))
  every (branch x y e l r) p = b a_branch (x, (y, tt)) (e, (l, (r, tt))) (p.0, (p.1, tt)) (every e p.2, (every l p.3, (every r p.4, tt)))

pub written-terms : Written terms encode nodes Legal
written-terms = record { tag_of = tag_of; head_of = head_of; tag-of = placed tag_of heads (omega arith); bytes = bytes-build; count = count-build; legal = legal-build; every = every }
