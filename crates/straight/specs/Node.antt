-- What a node has by itself, without its parts: its variable, its binders, and the test that `straight` makes of it.
-- Assumes nothing: these are definitions.
use Rattle.std.specs.Prelude.{ℕ, Bool, true, false, ◌&&◌, List, [], ◌∷◌, if◌then◌else◌, ◌==◌}
use Rattle.rules.specs.Name.{Name}
use Rattle.rules.specs.Term.{Term, var, leaf, one, two, abs, both, branch}
use Rattle.rules.specs.Straight.{Binder, ◌over◌, plain_one, plain_two, plain_both, every, once}

abbrev pub own_variables : Term → List Name
own_variables (var x) = x ∷ []
own_variables (leaf k) = []
own_variables (one k e) = []
own_variables (two k a b) = []
own_variables (abs x e) = []
own_variables (both k x y e b) = []
own_variables (branch x y e l r) = []

abbrev pub own_binders : Term → List Binder
own_binders (var x) = []
own_binders (leaf k) = []
own_binders (one k e) = []
own_binders (two k a b) = []
own_binders (abs x e) = (x over e) ∷ []
own_binders (both k x y e b) = (x over b) ∷ (y over b) ∷ []
own_binders (branch x y e l r) = (x over l) ∷ (y over r) ∷ []

abbrev pub own_plain : Term → Bool
own_plain (var x) = true
own_plain (leaf k) = true
own_plain (one k e) = plain_one k
own_plain (two k a b) = plain_two k
own_plain (abs x e) = true
own_plain (both k x y e b) = plain_both k
own_plain (branch x y e l r) = false

-- the same of a tag
abbrev pub plain_tag : ℕ → Bool
plain_tag k = if k == 9 then false else (if k == 11 then false else (if k == 12 then false else (if k == 16 then false else (if k == 17 then false else true))))

-- the node t of the whole term w
unfoldable pub passes_in : Term → Term → Bool
passes_in w t = own_plain t && every (once w) (own_binders t)
