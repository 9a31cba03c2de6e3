-- `run::clear` meets its contract: the part that is filled is all from `from` on. Assumes nothing.
use Rattle.std.proofs.Common.{ℕ, ◌≡◌, ◌-◌, ◌∙◌, ap, drop, length, length-drop, length-take-le, replicate, arith}
use Rattle.std.proofs.lemmas.List.{length-replicate}
use Rattle.std.proofs.lemmas.List.Edits.{sets}
use Rattle.buffer.specs.Writing.{put-sets}
use Rattle.buffer.proofs.run.clear.Goals as goal

pub returns : goal.returns
returns c =
    let out = c.args.out.now in
    let from = c.args.from in
    let behind = length out - from in
    let long = length-take-le behind (drop from out) (omega (arith, length-drop from out)) in
    let zeros : c.fill.new.self ≡ replicate behind 0 = c.fill.ensures.after (λ y h. h) ∙ ap {A = ℕ} (λ k. replicate k 0) long in
    put-sets out _ from _ (omega (arith, c.requires)) (ap length zeros ∙ length-replicate {A = ℕ} behind 0) ∙ ap (sets out from) zeros
