-- The test `straight` decides `Straight`: each part of it decides its part.
-- Assumes nothing.
use Rattle.std.specs.Prelude.{◌≡◌, refl, Bool, true, ◌&&◌, ◌↔◌, List, [], ◌∷◌, ◌==◌}
use Rattle.std.proofs.Common.{ap₂, eqb-true, eq-eqb}
use Rattle.rules.specs.Term.{Term}
use Rattle.rules.specs.Straight.{Binder, binders, stands, uses, plain, Each, Once, Straight, every, once, straight}
use Rattle.laws.specs.free.Same.{both_true}

every-each : {A : Type 0} (P : A → Type 0) (p : A → Bool) (xs : List A) → ((x : A) → (p x ≡ true) ↔ P x) → (every p xs ≡ true) ↔ Each P xs
every-each P p [] d = (λ h. tt, λ h. refl)
every-each P p (x ∷ xs) d =
    let r = every-each P p xs d in
    (λ h. let b = both_true (p x) (every p xs) h in ((d x).0 b.0, r.0 b.1), λ h. ap₂ ◌&&◌ ((d x).1 h.0) (r.1 h.1))

once-decides : (t : Term) (b : Binder) → (once t b ≡ true) ↔ Once t b
unfolding once
once-decides t b =
    let s = stands b.name t in
    let u = uses b.name t in
    let i = uses b.name b.covers in (
      λ h.
          let p = both_true (s == 1) ((u == 1) && (i == u)) h in
          let q = both_true (u == 1) (i == u) p.1 in
          record { placed = eqb-true s 1 p.0; used = eqb-true u 1 q.0; inside = eqb-true i u q.1 },
      λ o. ap₂ ◌&&◌ (eq-eqb s 1 o.placed) (ap₂ ◌&&◌ (eq-eqb u 1 o.used) (eq-eqb i u o.inside)),
    )

pub straight-decides : (t : Term) → (straight t ≡ true) ↔ Straight t
unfolding straight
straight-decides t =
    let r = every-each (Once t) (once t) (binders t) (once-decides t) in (
      λ h. let p = both_true (plain t) (every (once t) (binders t)) h in record { plain = p.0; once = r.0 p.1 },
      λ s. ap₂ ◌&&◌ s.plain (r.1 s.once),
    )
