-- Where names and terms stand in a list of bytes. Assumes nothing: these are definitions.
use Rattle.std.specs.Prelude.{ℕ, ◌≡◌, List, ◌++◌, length, drop}
use Rattle.rules.specs.Basic.{Bytes}
use Rattle.rules.specs.Name.{Name, encode_name, encode_names}
use Rattle.rules.specs.Term.{Term, encode}
use Rattle.term.specs.Node.{encode_all}

-- the term t stands in s at i
pub record TermAt (s : Bytes) (i : ℕ) (t : Term) : Type 0 where
  pub rest : Bytes
  pub bytes : drop i s ≡ encode t ++ rest

-- the n terms ts stand in s from i on
pub record TermsAt (s : Bytes) (i n : ℕ) (ts : List Term) : Type 0 where
  pub many : length ts ≡ n
  pub rest : Bytes
  pub bytes : drop i s ≡ encode_all ts ++ rest

-- the name x stands in s at i
pub record NameAt (s : Bytes) (i : ℕ) (x : Name) : Type 0 where
  pub rest : Bytes
  pub bytes : drop i s ≡ encode_name x ++ rest

-- the n names xs stand in s from i on
pub record NamesAt (s : Bytes) (i n : ℕ) (xs : List Name) : Type 0 where
  pub many : length xs ≡ n
  pub rest : Bytes
  pub bytes : drop i s ≡ encode_names xs ++ rest
