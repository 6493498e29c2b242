-- `divisor::equations::solved` meets its contract: the table was empty before the equations were added, and it is solved as it stands.
use Rattle.std.proofs.Common.{sym, subst, ◌*◌, length}
use Rattle.divisor.specs.declared.table.Table.{Table}
use Rattle.divisor.specs.Equations.Model.{CanAdd, AddsFirst}
use Rattle.divisor.specs.Equations.Adding.{can_add_empty, table_solvable}
use Rattle.divisor.proofs.equations.solved.Goals as goal

pub add_equations-requires : goal.add_equations-requires
add_equations-requires c =
    let a = c.args in
    let k = a.case.now in
    subst (λ (t : Table). CanAdd k.modulus t k.skeleton.now k.points.now a.places.now a.work.now (8 * length a.places.now)) (sym c.empty-t.ensures) (can_add_empty c.requires)

pub solution-requires : goal.solution-requires
solution-requires c =
    let a = c.args in
    let k = a.case.now in
    let t = c.add_equations.new.t in
    (table_solvable c.requires (subst (λ (s : Table). AddsFirst (8 * length a.places.now) k.modulus s k.skeleton.now k.points.now a.places.now a.work.now (8 * length a.places.now) t) c.empty-t.ensures
    c.add_equations.ensures)).0
