-- Terms, grouped by shape (tag, names, parts): 1 Var n; 2 Unit; 3 Pair a b; 4 LetPair x y pair body; 5 Abs x body; 6 App f arg; 7 Inl e; 8 Inr e;
-- 9 Case x y scrut left right; 10 Trivial; 11 Fst e; 12 Snd e; 13 Abort e; 14 Promote e; 15 Derelict e; 16 Discard e body; 17 Copy x y src body.
-- Assumes nothing: these are definitions.
use Rattle.std.specs.Prelude.{ℕ, ◌+◌, List, [], ◌∷◌, Bool, ◌&&◌, length}
use Rattle.rules.specs.Basic.{Bytes, ◌‥◌, ◌≤?◌}
use Rattle.rules.specs.Limits.{Limits}
use Rattle.rules.specs.Name.{Name, name_spelling, encode_name}
use Rattle.rules.specs.Layout.{Layout, Tuple}

pub data Leaf : Type 0 where
  unit trivial : Leaf

pub data One : Type 0 where
  inl inr fst snd abort promote derelict : One

pub data Two : Type 0 where
  pair app discard : Two

pub data Both : Type 0 where
  let_a_pair copy : Both

pub data Term : Type 0 where
  var : Name → Term
  leaf : Leaf → Term
  one : One → Term → Term
  two : Two → Term → Term → Term
  abs : Name → Term → Term
  both : Both → Name → Name → Term → Term → Term
  branch : Name → Name → Term → Term → Term → Term

-- A node without its names and parts.
pub data Head : Type 0 where
  a_var : Head
  a_leaf : Leaf → Head
  a_one : One → Head
  a_two : Two → Head
  an_abs : Head
  a_both : Both → Head
  a_branch : Head

abbrev pub heads : List Head
heads =
    a_var ∷ a_leaf unit ∷ a_two pair ∷ a_both let_a_pair ∷ an_abs ∷ a_two app ∷ a_one inl ∷ a_one inr ∷ a_branch ∷ a_leaf trivial
    ∷ a_one fst ∷ a_one snd ∷ a_one abort ∷ a_one promote ∷ a_one derelict ∷ a_two discard ∷ a_both copy ∷ []

abbrev pub leaf_tag : Leaf → ℕ
leaf_tag unit = 2
leaf_tag trivial = 10

abbrev pub one_tag : One → ℕ
one_tag inl = 7
one_tag inr = 8
one_tag fst = 11
one_tag snd = 12
one_tag abort = 13
one_tag promote = 14
one_tag derelict = 15

abbrev pub two_tag : Two → ℕ
two_tag pair = 3
two_tag app = 6
two_tag discard = 16

abbrev pub both_tag : Both → ℕ
both_tag let_a_pair = 4
both_tag copy = 17

-- How many names and parts follow a head, and the term that they make.
abbrev pub name_count : Head → ℕ
name_count a_var = 1
name_count (a_leaf k) = 0
name_count (a_one k) = 0
name_count (a_two k) = 0
name_count an_abs = 1
name_count (a_both k) = 2
name_count a_branch = 2

abbrev pub part_count : Head → ℕ
part_count a_var = 0
part_count (a_leaf k) = 0
part_count (a_one k) = 1
part_count (a_two k) = 2
part_count an_abs = 1
part_count (a_both k) = 2
part_count a_branch = 3

abbrev pub build : (h : Head) → Tuple Name (name_count h) → Tuple Term (part_count h) → Term
build a_var xs ts = var xs.0
build (a_leaf k) xs ts = leaf k
build (a_one k) xs ts = one k ts.0
build (a_two k) xs ts = two k ts.0 ts.1.0
build an_abs xs ts = abs xs.0 ts.0
build (a_both k) xs ts = both k xs.0 xs.1.0 ts.0 ts.1.0
build a_branch xs ts = branch xs.0 xs.1.0 ts.0 ts.1.0 ts.1.1.0

abbrev pub terms : Layout Head Term
terms = record { heads = heads; spelling = name_spelling; names = name_count; parts = part_count; build = build }

unfoldable pub encode : Term → Bytes
encode (var x) = 1 ∷ encode_name x
encode (leaf k) = leaf_tag k ∷ []
encode (one k e) = one_tag k ∷ encode e
encode (two k a b) = two_tag k ∷ (encode a ‥ encode b)
encode (abs x e) = 5 ∷ (encode_name x ‥ encode e)
encode (both k x y e b) = both_tag k ∷ (encode_name x ‥ encode_name y ‥ encode e ‥ encode b)
encode (branch x y e l r) = 9 ∷ (encode_name x ‥ encode_name y ‥ encode e ‥ encode l ‥ encode r)

unfoldable pub nodes : Term → ℕ
nodes (var x) = 1
nodes (leaf k) = 1
nodes (one k e) = 1 + nodes e
nodes (two k a b) = 1 + (nodes a + nodes b)
nodes (abs x e) = 1 + nodes e
nodes (both k x y e b) = 1 + (nodes e + nodes b)
nodes (branch x y e l r) = 1 + (nodes e + (nodes l + nodes r))

abbrev pub size : Term → ℕ
size t = length (encode t)

-- the names of a node; its parts, counted from 0
abbrev pub names : Term → List Name
names (var x) = x ∷ []
names (leaf k) = []
names (one k e) = []
names (two k a b) = []
names (abs x e) = x ∷ []
names (both k x y e b) = x ∷ y ∷ []
names (branch x y e l r) = x ∷ y ∷ []

abbrev pub parts : Term → List Term
parts (var x) = []
parts (leaf k) = []
parts (one k e) = e ∷ []
parts (two k a b) = a ∷ b ∷ []
parts (abs x e) = e ∷ []
parts (both k x y e b) = e ∷ b ∷ []
parts (branch x y e l r) = e ∷ l ∷ r ∷ []

-- a term breaks no limit
unfoldable pub fits : Limits → Term → Bool
fits L t = (nodes t ≤? L.nodes) && (size t ≤? L.bytes)
