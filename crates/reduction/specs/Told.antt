-- What is told of a bounded reduction, and what a step adds. Assumes nothing: these are definitions.
use Rattle.std.specs.Prelude.{ℕ, ◌+◌, Bool, Result, Ok, Err}
use Rattle.rules.specs.Term.{size}
use Rattle.rules.specs.declared.Counts.{Counts}
use Rattle.contraction.specs.declared.part.Contraction.{Contraction}
use Rattle.rules.specs.Reduction.{Reduced, stopped, outgrew, plus}
use Rattle.reduction.specs.declared.place.Place.{Place}
use Rattle.reduction.specs.declared.course.Course.{Course}
use Rattle.reduction.specs.declared.course.Outgrown.{Outgrown}
use Rattle.reduction.specs.declared.Reduction.{Reduction}

-- stopped after so many steps with these counts; the term in the output has l bytes
abbrev pub stopped_at : (n : ℕ) → Counts → Bool → (l : ℕ) → Result Reduction Outgrown
stopped_at n c b l = Ok (record { steps = n; counts = c; normal = b; length = l })

abbrev pub repeated_of : Reduced → Result Reduction Outgrown
repeated_of (stopped n c b t) = stopped_at n c b (size t)
repeated_of (outgrew n t) = Err (record { steps = n; length = size t })

-- one step more, one more of its rule
abbrev pub onward : Course → Contraction → Place → Course
onward g m p = record { at = p; nodes = m.nodes; steps = g.steps + 1; counts = plus m.rule g.counts }
