-- The call as a whole: each way out ends as the rules say, and a formula that was read can be printed.
-- Assumes nothing.
use Rattle.rules.specs.declared.Reason.TheVariants.{ShortBuffer}
use Rattle.std.specs.Prelude.{Ok, Err}
use Prim.Native.Nat.{ℕ, ◌+◌, ◌-◌, ◌<◌, ◌≤◌}
use mathlib.Core.Path.{◌≡◌, ap}
use mathlib.Core.List.{List, ◌++◌}
use native.Mathlib.Omega.{arith}
use lib.ListN.{length, replicate}
use Rattle.rules.specs.Limits.{limits, formula_text_room}
use Rattle.rules.specs.Name.{name_most}
use Rattle.rules.specs.declared.Refusal.{Refusal}
use Rattle.rules.specs.Formula.{Formula, encode_formula, formula_nodes}
use Rattle.rules.specs.Reading.{read_formula}
use Rattle.rules.specs.Text.{text_of_formula}
use Rattle.rules.specs.Calls.{check_formula_call, formula_text_call}
use Rattle.laws.specs.reading.Decoding.{FormulaIn, formula-sound}
use Rattle.laws.specs.size.TextSize.{formula-text-size}
use Rattle.reader.specs.Accepted.{Accepts, accepts, refuses}
use Rattle.words.specs.Call.{Ends, start}
use Rattle.words.specs.Call as call
use Rattle.formula_text.specs.Task.{FormulaTask}

module _ (s o : List ℕ) where
  pub short : length o < formula_text_room limits → Ends (Err (record { reason = ShortBuffer; place = 0; input = 0 })) o (formula_text_call limits s o)
  unfolding formula_text_call
  short h = call.short text_of_formula (formula_text_room limits) o h (read_formula limits 1 s)

  module _ (h : formula_text_room limits ≤ length o) where
    pub not-read : (q : Refusal) → check_formula_call limits s ≡ Err q → Ends (Err q) o (formula_text_call limits s o)
    unfolding formula_text_call check_formula_call
    not-read q e = call.not-read text_of_formula (formula_text_room limits) o h (read_formula limits 1 s) q (refuses formula_nodes (read_formula limits 1 s) e)

    pub was_read : (x : Formula) → read_formula limits 1 s ≡ Ok x → Ends (Ok (length (text_of_formula x))) (text_of_formula x ++ replicate (length o - length (text_of_formula x)) 0) (formula_text_call limits s o)
    unfolding formula_text_call
    was_read x e = call.was_read text_of_formula (formula_text_room limits) o h (read_formula limits 1 s) x e

    pub read : {n : ℕ} → check_formula_call limits s ≡ Ok n → Accepts formula_nodes (read_formula limits 1 s) n
    unfolding check_formula_call
    read e = accepts formula_nodes (read_formula limits 1 s) e

    module _ (x : Formula) (e : read_formula limits 1 s ≡ Ok x) where
      accepted : FormulaIn limits s x
      accepted = formula-sound limits 1 s x e

      pub few : length (text_of_formula x) + name_most ≤ formula_text_room limits
      few = let a = accepted in omega (arith, formula-text-size x, ap length a.bytes, a.short, a.few)

      pub size : length (encode_formula x) < 65536
      size = let a = accepted in omega (arith, ap length a.bytes, a.short)

      pub task : FormulaTask s 0 o 0 x
      task = let a = accepted in record { legal = a.legal; task = start a.bytes (omega (arith, a.short)) (omega (arith, few)) (omega (arith, few)) }
