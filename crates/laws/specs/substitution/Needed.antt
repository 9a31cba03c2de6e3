-- A table of two feeds: for each condition of `Apart` a smallest template, and feeds that lack it alone, where the two orders differ.
-- Assumes nothing: these are definitions.
use Rattle.std.specs.Prelude.{ℕ, Bool, true, false, not, List, [], ◌∷◌, take, replicate, Ok}
use Rattle.rules.specs.Basic.{Bytes, say}
use Rattle.rules.specs.Limits.{Limits, limits, output_room, scratch_room}
use Rattle.rules.specs.Refusal.{Outcome, mapped}
use Rattle.rules.specs.Name.{Name, same, leads, follows, is_a_word}
use Rattle.rules.specs.Term.{Term, var, leaf, one, two, abs, unit, trivial, promote, app, encode, nodes, fits}
use Rattle.rules.specs.Reading.{times, many, byte, byte_for, room, letters, spelled, name, tag, too_many, node, whole, read_term, read_name}
use Rattle.rules.specs.Free.{occurrences}
use Rattle.rules.specs.Substitution.{subst}
use Rattle.rules.specs.Calls.{substituted, substitute_call}
use Rattle.laws.specs.substitution.NotFree.{not_free}
use Rattle.laws.specs.substitution.TwoFeeds.{Feed, Buffers, in_order, EitherFirst}

-- a for x and b for y in a template: whether the names differ, x is not free in b, y is not free in a; and the term that each order leaves
pub record Row : Type 0 where
  pub template : Term
  pub x : Name
  pub a : Term
  pub y : Name
  pub b : Term
  pub conditions : List Bool
  pub x_first : Term
  pub y_first : Term

abbrev pub X : Name
X = say "x"

abbrev pub Y : Name
Y = say "y"

abbrev pub Z : Name
Z = say "z"

abbrev pub table : List Row
table =
    -- one name: the first feed takes the place
    (record { template = var X; x = X; a = leaf unit; y = X; b = leaf trivial; conditions = false ∷ true ∷ true ∷ []; x_first = leaf unit; y_first = leaf trivial })
    -- x is free in b: it is fed if b goes first
    ∷ (record { template = var Y; x = X; a = leaf unit; y = Y; b = var X; conditions = true ∷ false ∷ true ∷ []; x_first = var X; y_first = leaf unit })
    -- y is free in a: it is fed if a goes first
    ∷ (record { template = var X; x = X; a = var Y; y = Y; b = leaf unit; conditions = true ∷ true ∷ false ∷ []; x_first = leaf unit; y_first = var Y })
    ∷ []

-- Where all three hold: in \z. (x y) both values are caught, in \x. (x y) the first has no place, in either order.
abbrev pub kept : List Row
kept =
    (record { template = abs Z (two app (var X) (var Y)); x = X; a = var Z; y = Y; b = var Z; conditions = true ∷ true ∷ true ∷ []; x_first = abs Z (two app (var Z) (var Z)); y_first = abs Z (two app (var Z) (var Z)) })
    ∷ (record { template = abs X (two app (var X) (var Y)); x = X; a = leaf unit; y = Y; b = var Z; conditions = true ∷ true ∷ true ∷ []; x_first = abs X (two app (var X) (var Z)); y_first = abs X (two app (var X) (var Z)) })
    ∷ []

-- buffers as long as the limits ask, full of sevens
abbrev pub buffers : Limits → Buffers
buffers L = record { output = replicate (output_room L) 7; scratch = replicate (scratch_room L) 7 }

-- the term that f and then g leave
abbrev pub term_of : ℕ × Bytes → Bytes
term_of r = take r.0 r.1

abbrev pub leaves : Limits → (f g : Feed) → (template : Bytes) → Outcome Bytes
leaves L f g t = mapped term_of (in_order L f g t (buffers L) (buffers L))

-- the lines of `Apart` as tests (`not-free-decides`), and what each order leaves
abbrev pub Found : Type 0
Found = List Bool × Outcome Bytes × Outcome Bytes

unfoldable pub found : Limits → (f g : Feed) → (template : Bytes) → Found
unfolding times many byte byte_for room letters spelled name tag too_many node whole read_term read_name leads follows is_a_word occurrences subst nodes encode fits substituted substitute_call
found L f g t =
    let conditions = not (same f.name g.name) ∷ not_free L f.name g.value ∷ not_free L g.name f.value ∷ [] in
    (conditions, leaves L f g t, leaves L g f t)

abbrev pub feed_x : Row → Feed
feed_x r = record { name = r.x; value = encode r.a }

abbrev pub feed_y : Row → Feed
feed_y r = record { name = r.y; value = encode r.b }

abbrev pub computed : Row → Found
computed r = found limits (feed_x r) (feed_y r) (encode r.template)

abbrev pub stated : Row → Found
stated r = (r.conditions, Ok (encode r.x_first), Ok (encode r.y_first))

-- One order alone may be refused, by 8 half-way: with nine bytes at most, !!!() for x and () for yyy in (x, yyy).
abbrev pub nine : Limits
nine = record { bytes = 9; nodes = 9; rules = 9; formulas = 9 }

abbrev pub long : Feed
long = record { name = X; value = encode (one promote (one promote (one promote (leaf unit)))) }

abbrev pub short : Feed
short = record { name = say "yyy"; value = encode (leaf unit) }

-- In no row of the table may either feed go first: the terms that the two orders leave differ.
abbrev pub Differ : Row → Type 0
Differ r = ¬ EitherFirst limits (feed_x r) (feed_y r) (encode r.template)
