-- From the loop's answer to the call's: zeros behind the term that stands in the output, and in the scratch. Assumes nothing.
use Rattle.rules.specs.declared.Reason.TheVariants.{Outgrows}
use Prim.Native.Nat.{ℕ, ◌+◌, ◌-◌, ◌≤◌}
use mathlib.Core.Path.{◌≡◌, sym, ap, ◌∙◌}
use mathlib.Core.List.{◌++◌, append-nil}
use native.Mathlib.Omega.{arith}
use Rattle.std.specs.Prelude.{Result, Ok, Err}
use lib.ListN.{length, take, drop, replicate, length-replicate}
use lib.Seq.{sets, sets-eq, drop-length}
use Rattle.rules.specs.Limits.{limits, output_room}
use Rattle.rules.specs.Basic.{Bytes}
use Rattle.rules.specs.Term.{encode, size}
use Rattle.laws.specs.reading.Fits.{within}
use Rattle.rules.specs.Reduction.{Reduced, stopped, outgrew}
use Rattle.substitution.proofs.place.Writes.{zeros}
use Rattle.reduction.specs.Turning.{last, Repeats}
use Rattle.reduction.specs.Told.{repeated_of}
use Rattle.reduction.specs.declared.course.Outgrown.{Outgrown}
use Rattle.reduction.specs.Answers.{Reducing}
use Rattle.reduction.specs.declared.Reduction.{Reduction}
use Rattle.std.specs.Prelude.{Ok, Err}

zeros-behind : (out xs : Bytes) (l : ℕ) → take l out ≡ xs → l ≡ length xs → l ≤ length out → sets out l (replicate (length out - l) 0) ≡ xs ++ replicate (length out - length xs) 0
zeros-behind out xs l e h g =
    let zs : Bytes = replicate (length out - l) 0 in
    let q : l + length zs ≡ length out = omega (arith, length-replicate {A = ℕ} (length out - l) 0) in
    sets-eq zs out l (omega arith)
    ∙ ap (λ (k : ℕ). take l out ++ zs ++ drop k out) q
    ∙ ap (λ (z : Bytes). take l out ++ zs ++ z) (drop-length out)
    ∙ append-nil (take l out ++ zs)
    ∙ ap (λ (z : Bytes). z ++ zs) e
    ∙ ap (λ (k : ℕ). xs ++ replicate (length out - k) 0) h

stops : (d : Reduced) {x : Reduction} → Ok x ≡ repeated_of d → (d ≡ stopped x.steps x.counts x.normal (last d)) × (x.length ≡ size (last d))
stops (stopped n c b t) {x} e =
    let q : x ≡ record { steps = n; counts = c; normal = b; length = size t } = cc in
    (sym (ap (λ (y : Reduction). stopped y.steps y.counts y.normal t) q), ap (λ (y : Reduction). y.length) q)
stops (outgrew n t) e = absurd (let z : ◌≡◌ {A = ℕ} 0 1 = cc in omega arith)

over : (d : Reduced) {x : Outgrown} → Err x ≡ repeated_of d → (d ≡ outgrew x.steps (last d)) × (x.length ≡ size (last d))
over (stopped n c b t) e = absurd (let z : ◌≡◌ {A = ℕ} 0 1 = cc in omega arith)
over (outgrew n t) {x} e =
    let q : x ≡ record { steps = n; length = size t } = cc in
    (sym (ap (λ (y : Outgrown). outgrew y.steps t) q), ap (λ (y : Outgrown). y.length) q)

module _ {d : Reduced} {out₁ : Bytes} {r : Result Reduction Outgrown} (w : Repeats d out₁ r) (out : Bytes) (same : length out₁ ≡ length out) (h : output_room limits ≤ length out) where
  behind : (l : ℕ) → l ≡ size (last d) → {out₂ : Bytes} → out₂ ≡ sets out₁ l (replicate (length out₁ - l) 0) → out₂ ≡ encode (last d) ++ replicate (length out - size (last d)) 0
  behind l e {out₂} z =
      z ∙ zeros-behind out₁ (encode (last d)) l (rw e w.bytes) e (omega (arith, within limits (last d) w.fits))
      ∙ ap (λ (k : ℕ). encode (last d) ++ replicate (k - size (last d)) 0) same

  module _ {x : Reduction} (e : r ≡ Ok x) where
    abbrev l : ℕ
    l = x.length

    at-stop : (d ≡ stopped x.steps x.counts x.normal (last d)) × (l ≡ size (last d))
    at-stop = stops d (sym e ∙ w.says)

    pub stop-room : l ≤ length out₁
    stop-room = omega (arith, at-stop.1, within limits (last d) w.fits)

    module _ (scratch scratch₁ : Bytes) {scratch₂ out₂ : Bytes} (p : length scratch₁ ≡ length scratch) (q : scratch₂ ≡ sets scratch₁ 0 (replicate (length scratch₁ - 0) 0)) (z : out₂ ≡ sets out₁ l (replicate (length out₁ - l) 0)) where
      pub stop : Reducing d out scratch (Ok x) out₂ scratch₂
      stop =
          let s = at-stop in
          rw s.0 (record {
            says = ap (λ (k : ℕ). Ok (record { steps = x.steps; counts = x.counts; normal = x.normal; length = k })) s.1;
            leaves = behind l s.1 z;
            clears = q ∙ zeros scratch₁ (length scratch) p;
          })

  module _ {n l : ℕ} (e : r ≡ Err (record { steps = n; length = l })) where
    at-over : (d ≡ outgrew n (last d)) × (l ≡ size (last d))
    at-over = over d (sym e ∙ w.says)

    pub over-room : l ≤ length out₁
    over-room = omega (arith, at-over.1, within limits (last d) w.fits)

    module _ (scratch scratch₁ : Bytes) {scratch₂ out₂ : Bytes} (p : length scratch₁ ≡ length scratch) (q : scratch₂ ≡ sets scratch₁ 0 (replicate (length scratch₁ - 0) 0)) (z : out₂ ≡ sets out₁ l (replicate (length out₁ - l) 0)) where
      pub outgrow : Reducing d out scratch (Err (record { refusal = record { reason = Outgrows; place = n; input = 0 }; length = l })) out₂ scratch₂
      outgrow =
          let s = at-over in
          rw s.0 (record {
            says = ap (λ (k : ℕ). Err (record { refusal = record { reason = Outgrows; place = n; input = 0 }; length = k })) s.1;
            leaves = behind l s.1 z;
            clears = q ∙ zeros scratch₁ (length scratch) p;
          })
