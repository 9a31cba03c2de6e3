-- Whether what a redex becomes fits, by numbers alone: the nodes and the bytes of the whole, less those of the redex, and its own.
-- In a frame this is whether the new whole breaks no limit. By what a frame adds. Assumes nothing.
use Rattle.std.specs.Prelude.{ℕ, ◌+◌, ◌-◌, ◌≡◌, Bool, ◌&&◌, ◌++◌, length}
use Rattle.std.proofs.Common.{ap, ◌∙◌, arith, length-append}
use Rattle.std.proofs.Math.Option.{Option}
use Rattle.rules.specs.Basic.{Bytes}
use Rattle.rules.specs.Limits.{limits}
use Rattle.rules.specs.Term.{Term, encode, nodes, size, fits}
use Rattle.rules.specs.Step.{half_fits, step_fits}
use Rattle.redex.specs.Around.{Frame}
use Rattle.substitution.specs.Beside.{fits_beside}

-- u for t, in a whole of n nodes and l bytes
abbrev pub fits_around : (n l : ℕ) → (t u : Term) → Bool
fits_around n l t u = fits_beside (n - nodes t) (l - size t) u

-- in a frame
module _ {o : ℕ} {f : Term → Term} (F : Frame o f) (t u : Term) where
  pub frame-size : (v : Term) → size (f v) ≡ length F.left + (size v + length F.right)
  frame-size v =
      ap (λ (z : Bytes). length z) (F.bytes v)
      ∙ omega (arith, length-append F.left (encode v ++ F.right), length-append (encode v) F.right)

  pub frame-nodes-after : nodes (f t) - nodes t + nodes u ≡ nodes (f u)
  frame-nodes-after = omega (arith, F.count t, F.count u)

  pub frame-size-after : size (f t) - size t + size u ≡ size (f u)
  frame-size-after = omega (arith, frame-size t, frame-size u)

  pub fits-in-frame : fits_around (nodes (f t)) (size (f t)) t u ≡ fits limits (f u)
  unfolding fits_beside fits
  fits-in-frame = rw (frame-nodes-after, frame-size-after)

  pub step-fits-in-frame : (h : Option Term) → (half_fits limits h && fits_around (nodes (f t)) (size (f t)) t u) ≡ step_fits limits h (f u)
  step-fits-in-frame h = ap (λ (b : Bool). half_fits limits h && b) fits-in-frame
