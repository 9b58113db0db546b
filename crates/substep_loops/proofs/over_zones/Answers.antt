use Prim.Native.Nat.{ℕ}
use Rattle.zone.proofs.Salts.{few_layers, has_salt}
use Rattle.zone.specs.LentSalts.{lent_salt}
use Rattle.substep.specs.Substep.{zones_after, progress_from}
use Rattle.substep.specs.declared.ZoneStep.{ZoneStep}
use Rattle.substep.proofs.OneLoop.{underway_start, underway_more, energies_more, underway_end, zone_takes_none, no_more_logarithms}
use mathlib.Core.Path.{refl, ◌∙◌, ap, subst}
use native.Mathlib.Omega.{arith}
use borrow.Author.Rules.{rules}
use Rattle.substep_loops.proofs.over_zones.Goals as goal

pub loop-k-init : goal.loop-k-init
unfolding progress_from zones_after
loop-k-init g c = (omega arith, (refl, (underway_start _ _ _ _ _ _ c.charger_heat-left.ensures, λ a. a)))

pub own_salt-salt-requires : goal.own_salt-salt-requires
own_salt-salt-requires g c = (omega arith, (has_salt c.args.salts _ _ c.requires.0 c.zone_index-j.ensures.upper_bound, c.zone-first.ensures))

pub overflow_add-logarithms : goal.overflow_add-logarithms
overflow_add-logarithms g c =
    let none = ap (λ (z : ZoneStep). z.logarithms) c.zone_step-z.ensures ∙ zone_takes_none _ _ _ _ _ _ in
    let same = c.loop-k.invariant.1.0 in
    let fits = c.ranges in
    search rules

pub loop-k-preserved : goal.loop-k-preserved
unfolding progress_from
loop-k-preserved g c =
    let step = c.zone_step-z.ensures in
    let order = rw c.common-mode.ensures at c.zone_index-j.ensures.value in
    let l = c.loop-k in
    let u = l.invariant.1.1.0 in (
      omega arith,
      (
        no_more_logarithms _ _ _ _ _ _ _ _ _ step l.invariant.1.0,
        (
          underway_more _ _ _ _ refl (few_layers c.args.salts _ c.requires.0) _ c.loop-k-test.true _ _ _ _ _ _ _ _ _ _ _ u order c.own_salt-salt.ensures step c.sum2_step-sum.ensures c.finite_step-spread.ensures,
          λ a. rw (← energies_more _ _ _ _ refl (few_layers c.args.salts _ c.requires.0) _ c.loop-k-test.true _ _ _ _ _ _ _ _ _ u order c.own_salt-salt.ensures step) (c.add.ensures _ (l.invariant.1.1.1 a)),
        ),
      ),
    )

pub returns : goal.returns
returns g c =
    let l = c.loop-k in (
      underway_end _ _ _ _ _ _ (few_layers c.args.salts _ c.requires.0) _ _ _ _ _ _ _ _ _ l.invariant.1.0 l.invariant.0 c.loop-k-test.false l.invariant.1.1.0 c.progress_fault-fault.ensures,
      λ a. subst (λ (i : ℕ). g.E.Energies.are l.energies (zones_after (g.S.ZoneStepping.common c.args.stepping) (lent_salt c.args.salts) c.args.card.layers i (progress_from c.args.input c.args.zones.now)).energies) (omega arith) (l.invariant.1.1.1 a),
    )
