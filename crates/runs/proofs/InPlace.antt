-- What a function leaves beside zones that it is lent is the definition's.
use Rattle.std.specs.Prelude.{Option}
use mathlib.Core.Path.{◌≡◌, sym, ◌∙◌, ap, subst}
use mathlib.Core.List.{List}
use Prim.Native.Nat.{ℕ}
use native.Mathlib.Omega.{arith}
use lib.Ieee.{Float}
use Rattle.substep.specs.Substep.{InPlace}
use Rattle.substep.specs.declared.Fault.{Fault}
use Rattle.substep.specs.declared.Outcome.{Outcome}
use Rattle.substep.specs.declared.Substep.{Substep}
use Rattle.runs.specs.declared.End.TheVariants.{NoLogarithm, NotFiniteRun}
use Rattle.runs.specs.Zoned.{Zoned, zoned, AsDefined, on_part}
use Rattle.runs.specs.Runs.{outcome, end_refusal}

-- where all is the definition's, zones included
pub as_defined : {A : Type 0} (refusal : ℕ) (r : A) (zones : List Float) (d : Zoned A) → zoned r zones ≡ d → AsDefined refusal r zones d
as_defined {A} refusal r zones d e = (ap (λ (x : Zoned A). x.part) e, λ h. ap (λ (x : Zoned A). x.zones) e)

-- where what is handed out comes of what is known
pub as_defined_on :
    {A B : Type 0} (m n : ℕ) (f : A → B) (a : A) (b : B) (zones : List Float) (d : Zoned A) →
    AsDefined m a zones d → b ≡ f a → (n ≡ 0 → m ≡ 0) → AsDefined n b zones (on_part f d)
as_defined_on m n f a b zones d l e g = (e ∙ ap f l.0, λ h. l.1 (g h))

-- a substep

put_together : (u : Substep) (o : Outcome) (zones : List Float) → InPlace u o zones → zoned o zones ≡ outcome u
put_together u o zones h = rw (h.0, h.1)

-- what holds of a substep in place with its fault f holds of the definition's
pub holds_as_defined :
    (P : Zoned Outcome → Option Fault → Type 0) (u : Substep) (o : Outcome) (zones : List Float) (f : Option Fault) →
    InPlace u o zones → o.fault ≡ f → P (zoned o zones) f → P (outcome u) (outcome u).part.fault
holds_as_defined P u o zones f g e h = subst (λ (v : Zoned Outcome). P v v.part.fault) (put_together u o zones g) (subst (P (zoned o zones)) (sym e) h)

pub log_refused : end_refusal NoLogarithm ≡ 0 → ⊥
unfolding end_refusal
log_refused h = omega arith

pub finite_refused : end_refusal NotFiniteRun ≡ 0 → ⊥
unfolding end_refusal
finite_refused h = omega arith
