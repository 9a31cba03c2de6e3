-- One step, with something wrong or nothing: how values are put in, whether the half-way body is told, and which parts are entered.
-- Assumes nothing: these are definitions.
use Rattle.std.specs.Prelude.{◌+◌, Bool, true, if◌then◌else◌}
use Rattle.std.proofs.Math.Option.{none, some}
use Rattle.rules.specs.Name.{Name}
use Rattle.rules.specs.Term.{Term, var, leaf, one, two, abs, both, branch, unit, One, inl, inr, fst, snd, abort, promote, derelict, pair, app, discard, Both, let_a_pair, copy, size}
use Rattle.rules.specs.Substitution.{subst}
use Rattle.rules.specs.Step.{Contraction, no, by, of_pair, of_one, of_promote, of_injection, contract, Stepped, normal, found, here, or_else, in_part, name_bytes}
use Rattle.rules.specs.declared.Rule.{Rule}
use Rattle.rules.specs.declared.Rule.TheVariants.{App, Let, Case, Copy}
use Rattle.promises.specs.Wrong.{Wrong, ◌is◌, answers-unit, answers-normal, copies-input, puts-in-together, renames-on-capture, enters-branches, enters-abort, enters-copy-body, skips-half-way}
use Rattle.promises.specs.Wrong.Put.{renaming, together}

abbrev pub put : Wrong → Name → Term → Term → Term
put w x v t = if w is renames-on-capture then renaming x v t else subst x v t

abbrev pub put_two : Wrong → Rule → Name → Name → Term → Term → Term → Contraction
put_two w r x y a b e =
    if w is puts-in-together then by r none (together x a y b e)
    else by r (if w is skips-half-way then none else some (put w x a e)) (put w y b (put w x a e))

abbrev pub of_abs : Term → (Name → Term → Contraction) → Contraction
of_abs (abs x e) f = f x e
of_abs (var n) f = no
of_abs (leaf k) f = no
of_abs (one k e) f = no
of_abs (two k a b) f = no
of_abs (both k x y e b) f = no
of_abs (branch x y e l r) f = no

unfoldable pub contract_by : Wrong → Term → Contraction
contract_by w (two app f a) = of_abs f (λ x e. by App none (put w x a e))
contract_by w (both let_a_pair x y p e) = of_pair p (λ a b. put_two w Let x y a b e)
contract_by w (both copy x y s e) = of_one s (of_promote (λ v. put_two w Copy x y (one promote v) (one promote v) e))
contract_by w (branch x y s l r) = of_one s (of_injection (λ v. by Case none (put w x v l)) (λ v. by Case none (put w y v r)))
contract_by w (two discard d e) = contract (two discard d e)
contract_by w (two pair a b) = no
contract_by w (one k e) = contract (one k e)
contract_by w (var x) = no
contract_by w (leaf k) = no
contract_by w (abs x e) = no

-- which single parts, and which second parts of two, are entered
abbrev pub enters_one : Wrong → One → Bool
enters_one w abort = w is enters-abort
enters_one w inl = true
enters_one w inr = true
enters_one w fst = true
enters_one w snd = true
enters_one w promote = true
enters_one w derelict = true

abbrev pub enters_body : Wrong → Both → Bool
enters_body w let_a_pair = true
enters_body w copy = w is enters-copy-body

-- a step in the one part, and in a later part, if that is entered
abbrev pub entering : Bool → Stepped → Stepped
entering b s = if b then s else normal

abbrev pub or_entering : Bool → (first later : Stepped) → Stepped
or_entering b s s' = if b then or_else s s' else s

unfoldable pub step_by : Wrong → Term → Stepped
step_by w (var x) = normal
step_by w (leaf k) = normal
step_by w (one k e) = here (contract_by w (one k e)) (entering (enters_one w k) (in_part 1 (one k) (step_by w e)))
step_by w (two k a b) = here (contract_by w (two k a b)) (or_else (in_part 1 (λ p. two k p b) (step_by w a)) (in_part (1 + size a) (two k a) (step_by w b)))
step_by w (abs x e) = in_part (1 + name_bytes x) (abs x) (step_by w e)
step_by w (both k x y e b) =
    here (contract_by w (both k x y e b))
    (or_entering (enters_body w k)
    (in_part (1 + name_bytes x + name_bytes y) (λ p. both k x y p b) (step_by w e))
    (in_part (1 + name_bytes x + name_bytes y + size e) (both k x y e) (step_by w b)))
step_by w (branch x y e l r) =
    here (contract_by w (branch x y e l r))
    (or_entering (w is enters-branches)
    (in_part (1 + name_bytes x + name_bytes y) (λ p. branch x y p l r) (step_by w e))
    (or_else (in_part (1 + name_bytes x + name_bytes y + size e) (λ p. branch x y e p r) (step_by w l))
    (in_part (1 + name_bytes x + name_bytes y + size e + size l) (branch x y e l) (step_by w r))))

-- the term that is answered, where a right one is made of an input
abbrev pub instead : Wrong → (input made : Term) → Term
instead w u t = if w is answers-unit then leaf unit else (if w is copies-input then u else t)

abbrev pub instead_found : Wrong → Term → Stepped → Stepped
instead_found w u normal = normal
instead_found w u (found r p h t) = found r p h (instead w u t)

unfoldable pub stepped : Wrong → Term → Stepped
stepped w u = if w is answers-normal then normal else instead_found w u (step_by w u)
