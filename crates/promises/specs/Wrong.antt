-- The wrong versions of the public calls that document 01 names ("What the promises have to say", "Easy ways to go wrong"), and the one of request (i).
-- Assumes nothing: these are definitions.
use Rattle.std.specs.Prelude.{ℕ, Bool, ◌==◌}
pub mod Put
pub mod Step
pub mod Reduction
pub mod Extraction
pub mod Buffers
pub mod Words
pub mod Version

-- A version has one thing wrong with it, or nothing.
pub data Wrong : Type 0 where
  nothing : Wrong
  -- refuses whatever it is given
  refuses-with-1 refuses-with-3 : Wrong
  -- the term that it makes is Unit, whatever it is given
  answers-unit : Wrong
  -- finds no step, and says that none remains
  answers-normal : Wrong
  -- says yes to whatever can be read
  says-yes : Wrong
  -- gives back what it was given
  copies-input : Wrong
  -- really makes one step, and repeats that term at each further step
  repeats-first-step : Wrong
  -- counts a step under the rule after its own, or all steps as App, or one step more
  counts-next-rule counts-all-as-app counts-one-more : Wrong
  -- puts both values of LetPair and Copy in at once
  puts-in-together : Wrong
  -- renames a binder that would catch
  renames-on-capture : Wrong
  -- steps where no step is made
  enters-branches enters-abort enters-copy-body : Wrong
  -- does not test the body after the first of two substitutions
  skips-half-way : Wrong
  -- 8 from bounded reduction leaves the output untouched
  leaves-output-on-8 : Wrong
  -- searches the cut entries from the newest
  seeks-newest : Wrong
  -- takes the two names of a Cut on Plus before its parts
  takes-names-early : Wrong
  -- a refusal raises the counter
  raises-counter-on-refusal : Wrong
  -- success leaves the scratch, or the cut entries, as they were lent
  leaves-scratch leaves-entries : Wrong
  -- a refusal 2 to 7 or 15 clears them
  clears-scratch-on-refusal clears-entries-on-refusal : Wrong
  -- the byte behind the answer is as it was lent
  leaves-byte-behind : Wrong
  -- a refusal clears the output
  writes-on-refusal : Wrong
  -- takes a word for a name
  takes-words : Wrong

abbrev pub ordinal : Wrong → ℕ
ordinal nothing = 0
ordinal refuses-with-1 = 1
ordinal refuses-with-3 = 2
ordinal answers-unit = 3
ordinal answers-normal = 4
ordinal says-yes = 5
ordinal copies-input = 6
ordinal repeats-first-step = 7
ordinal counts-next-rule = 8
ordinal counts-all-as-app = 9
ordinal counts-one-more = 10
ordinal puts-in-together = 11
ordinal renames-on-capture = 12
ordinal enters-branches = 13
ordinal enters-abort = 14
ordinal enters-copy-body = 15
ordinal skips-half-way = 16
ordinal leaves-output-on-8 = 17
ordinal seeks-newest = 18
ordinal takes-names-early = 19
ordinal raises-counter-on-refusal = 20
ordinal leaves-scratch = 21
ordinal leaves-entries = 22
ordinal clears-scratch-on-refusal = 23
ordinal clears-entries-on-refusal = 24
ordinal leaves-byte-behind = 25
ordinal writes-on-refusal = 26
ordinal takes-words = 27

infix 55 ◌is◌
-- asked of a version wherever one may go wrong
abbrev pub ◌is◌ : Wrong → Wrong → Bool
w is v = ordinal w == ordinal v
