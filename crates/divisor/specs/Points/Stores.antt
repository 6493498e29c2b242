-- Storing the images of the points in the work room, one after the other.
use Rattle.std.specs.Prelude.{◌≡◌, refl, List, ℕ, ◌+◌, ◌*◌, ◌≤◌, ◌<◌, length, drop, set, replicate}
use Rattle.std.proofs.Common.{sym, ◌∙◌, ap, inr, arith, length-drop, get_or-drop, ext_get_or}
use Rattle.std.proofs.Math.Decide.{ℕ_discrete}
use Rattle.std.proofs.lemmas.List.{length-replicate}
use Rattle.field.specs.Loops.Cells.{filled_start, filled_next}
use Rattle.poly.specs.declared.PointImage.{PointImage}
use Rattle.poly.specs.Room.{work_room}
use Rattle.divisor.specs.Candidate.{most_points}
use Rattle.divisor.specs.Equations.Model.{image_at}
use Rattle.divisor.specs.Points.Model.{look_at, Looks}
use Rattle.divisor.specs.Points.PartsModel.{stored}
use Rattle.divisor.specs.Points.Parts.{stored_length, stored_else, part_stored, part_other}

module _ {p : ℕ} {A B points before : List ℕ} where
  pub looks_start : Looks 0 p A B points before before (replicate most_points 0)
  looks_start = record {
    sized = filled_start (omega arith) (length-replicate {A = ℕ} most_points 0) (λ j l. absurd (omega arith));
    same_length = refl;
    images = λ i l. absurd (omega arith);
    beyond = refl;
  }

  -- one more point
  pub looks_next : {n : ℕ} {work sizes : List ℕ} {seen : PointImage} → n < most_points → work_room ≤ length before
      → Looks n p A B points before work sizes → seen ≡ look_at p A B points n → length seen.coefficients ≡ 8
      → Looks (n + 1) p A B points before (stored 8 seen.coefficients (8 * n) work) (set sizes n seen.size)
  looks_next {n} {work} {sizes} {seen} small room h e eight =
      let after = stored 8 seen.coefficients (8 * n) work in
      let same_length = stored_length 8 seen.coefficients (8 * n) work in
      let long : 8 * most_points ≤ length work = omega (arith, h.same_length) in
      record {
        sized = filled_next h.sized small (ap (λ (r : PointImage). r.size) e);
        same_length = same_length ∙ h.same_length;
        images = λ i l. elim (ℕ_discrete i n) [
          | yes q ↦
              ap (image_at after) q ∙ part_stored 8 n seen.coefficients work eight (omega arith)
              ∙ ap (λ (r : PointImage). r.coefficients) e ∙ ap (λ (k : ℕ). (look_at p A B points k).coefficients) (sym q)
          | no q ↦ part_other 8 n seen.coefficients work i q ∙ h.images i (omega arith)
        ];
        beyond =
            ext_get_or 0 (drop work_room after) (drop work_room work)
            (omega (arith, same_length, length-drop work_room after, length-drop work_room work))
            (λ j l. get_or-drop work_room after j 0 ∙ stored_else 8 seen.coefficients (8 * n) work (work_room + j) (inr (omega arith))
            ∙ sym (get_or-drop work_room work j 0))
            ∙ h.beyond;
      }
