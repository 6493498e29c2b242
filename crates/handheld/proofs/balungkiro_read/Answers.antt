-- `balungkiro_read` meets its contract: it lays out what the reader gives beside the four arrays.
use Rattle.std.proofs.Common.{◌≡◌, refl, List, ℕ, ◌∷◌, []}
use Rattle.field.specs.Refusal.{after_fault}
use Rattle.case_file.specs.Reading.{Reading}
use Rattle.case_file.specs.Handed.{Counts, Gives, contents}
use Rattle.handheld.specs.Layout.{Laid, laid, of_contents}
use Rattle.handheld.proofs.balungkiro_read.Goals as goal

given_laid : (o : Reading) (r : Counts) (first second skeleton points : List ℕ) → Gives o r first second skeleton points
    → Laid of_contents (λ q. q ≡ contents o) (record {
      numbers = after_fault r.fault (r.modulus ∷ r.first ∷ r.second ∷ r.skeleton ∷ r.points ∷ []);
      first = first;
      second = second;
      skeleton = skeleton;
      points = points;
    })
given_laid o r first second skeleton points g = rw (g.record_is, g.first_is, g.second_is, g.skeleton_is, g.points_is) (laid _ refl)

pub returns-in-Ok : goal.returns-in-Ok
returns-in-Ok c = rw (c.lay.ensures, c.none.ensures) (given_laid _ _ _ _ _ _ c.in-Ok.ensures)

pub returns-in-Err : goal.returns-in-Err
returns-in-Err c = rw c.lay-in-Err.ensures (given_laid _ _ _ _ _ _ c.in-Err.ensures.1)
