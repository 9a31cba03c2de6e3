-- `line::put_fields` meets its contract: what is left to write makes up the whole. Assumes nothing.
use Rattle.std.proofs.Common.{◌≡◌, ℕ, ◌+◌, ◌<◌, List, [], ◌∷◌, ◌++◌, length, drop, get_or, sym, ap, ◌∙◌, arith, drop-cons, add-one, length-append}
use lib.Seq.{sets}
use denote.Ref.{Bor}
use Rattle.rules.specs.Basic.{Bytes, decimal}
use Rattle.buffer.specs.Wrote.{Wrote}
use Rattle.buffer.specs.Writing.{sets-app}
use Rattle.words.specs.Digits.{wrote_as}
use Rattle.program.specs.Field.{fields_text, fields_room}
use Rattle.program.proofs.line.put_fields.Goals as goal

abbrev none : Bor Bytes × ℕ
none = (record { ref_ptr = (0, 0); now = [] }, 0)

abbrev text_of : Bor Bytes × ℕ → Bytes
text_of f = f.0.now ++ decimal f.1

-- the next field, and those behind it
split : (fs : List (Bor Bytes × ℕ)) (k : ℕ) → k < length fs → drop k fs ≡ get_or fs k none ∷ drop (k + 1) fs
split fs k h = drop-cons fs k none h ∙ ap (λ (n : ℕ). get_or fs k none ∷ drop n fs) (sym (add-one k))

pub loop-word-preserved : goal.loop-word-preserved
loop-word-preserved c =
    let l = c.loop-word in
    let i = l.invariant in
    let fs = c.args.fields.now in
    let k = l.word-index in
    let f = get_or fs k none in
    let rest = fields_text (drop (k + 1) fs) in
    let p = c.put_field-past in
    let next = split fs k c.loop-word-test.true in
    let room = ap fields_room next in
    let e : fields_text (drop k fs) ≡ text_of f ++ rest = ap fields_text next in
    let w : Wrote l.out l.past (text_of f) p.new.out p.result = wrote_as (ap (λ (n : ℕ). f.0.now ++ decimal n) c.from.ensures) p.ensures.wrote in (
      p.auto.out ∙ i.0,
      omega (arith, room, i.1, p.ensures.most),
      ap (λ (b : Bytes). sets b p.result rest) w.holds
          ∙ ap (λ (n : ℕ). sets (sets l.out l.past (text_of f)) n rest) w.ends
          ∙ sym (sets-app (text_of f) rest l.out l.past)
          ∙ ap (sets l.out l.past) (sym e)
          ∙ i.2,
      omega (arith, w.ends, i.3, ap length e, length-append (text_of f) rest),
    )
