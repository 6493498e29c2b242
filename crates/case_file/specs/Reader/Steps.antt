-- Reading, one record at a time: where it stops, ends or goes on.
use Prim.Native.Nat.{ℕ, zero, suc, ◌+◌, ◌≤◌}
use Rattle.std.specs.Prelude.{◌≡◌, Bool, true, false, eqb, length, drop}
use Rattle.std.proofs.Math.Path.{refl, ap}
use Rattle.std.proofs.Common.{◌∙◌}
use mathlib.Core.List.{List, [], ◌∷◌}
use Rattle.std.proofs.Math.Nat.{add-zero}
use native.Mathlib.Omega.{arith}
use borrow.Author.Tests.{eqb-true, eqb-false, eq-eqb, ne_eqb}
use Rattle.field.specs.Numbers.{NO_END}
use Rattle.case_file.specs.Format.{Format, last_byte, body, content}
use Rattle.case_file.specs.Case.{Case, added}
use Rattle.case_file.specs.Reading.{Reading, whole, refused, fault_number, reading}

pub refused_no_case : (e i : ℕ) (c : Case) (n : ℕ) → refused e i ≡ whole c n → ⊥
refused_no_case e i c n h = let z : ◌≡◌ {A = ℕ} 0 1 = cc in omega arith

module _ (f : Format) where
  pub runs_out : (s at before : ℕ) (c : Case) → reading f s at before c [] ≡ refused NO_END at
  unfolding reading
  runs_out zero at before c = refl
  runs_out (suc s) at before c = refl

  -- the rest of a body is passed over
  pub passed_over : (s at before : ℕ) (c : Case) (bs : List ℕ) → s ≤ length bs → reading f s at before c bs ≡ reading f 0 (at + s) before c (drop s bs)
  unfolding reading
  passed_over zero at before c bs h = rw add-zero
  passed_over (suc s) at before c [] h = absurd (omega arith)
  passed_over (suc s) at before c (b ∷ bs) h =
      let e : at + 1 + s ≡ at + suc s = omega arith in
      passed_over s (at + 1) before c bs (omega arith) ∙ ap (λ (i : ℕ). reading f 0 i before c (drop s bs)) e

  module _ (at before : ℕ) (c : Case) (k : ℕ) (bs : List ℕ) where
    -- the number that the tests of the record of kind k give, and the case with that record
    abbrev tested : ℕ
    tested = fault_number f before k (length (c k)) (length bs)

    abbrev with_it : Case
    with_it = added k (content f k bs ∷ []) c

    pub stops : (e : ℕ) → tested ≡ e → (e ≡ 0 → ⊥) → reading f 0 at before c (k ∷ bs) ≡ refused e at
    unfolding reading
    stops zero h z = absurd (z refl)
    stops (suc e) h z = rw (h, reading)

    module _ (h : tested ≡ 0) where
      pub ends : k ≡ last_byte f → reading f 0 at before c (k ∷ bs) ≡ whole with_it (at + 1)
      unfolding reading
      ends e = rw (h, eq-eqb k (last_byte f) e, reading)

      pub goes_on : (k ≡ last_byte f → ⊥) → reading f 0 at before c (k ∷ bs) ≡ reading f (body f k) (at + 1) k with_it bs
      unfolding reading
      goes_on e = rw (h, ne_eqb k (last_byte f) e, reading)

    -- what holds however a record is taken holds of reading from it
    pub by_record : (P : Reading → Type 0)
        → ((e : ℕ) → tested ≡ e → (e ≡ 0 → ⊥) → P (refused e at))
        → (tested ≡ 0 → k ≡ last_byte f → P (whole with_it (at + 1)))
        → (tested ≡ 0 → (k ≡ last_byte f → ⊥) → P (reading f (body f k) (at + 1) k with_it bs))
        → P (reading f 0 at before c (k ∷ bs))
    by_record P stop end on = tests tested refl
      where
        last : tested ≡ 0 → (b : Bool) → eqb k (last_byte f) ≡ b → P (reading f 0 at before c (k ∷ bs))
        last h true s = rw (ends h (eqb-true k (last_byte f) s)) (end h (eqb-true k (last_byte f) s))
        last h false s = rw (goes_on h (eqb-false k (last_byte f) s)) (on h (eqb-false k (last_byte f) s))

        tests : (x : ℕ) → tested ≡ x → P (reading f 0 at before c (k ∷ bs))
        tests zero h = last h (eqb k (last_byte f)) refl
        tests (suc x) h =
            let z : suc x ≡ 0 → ⊥ = λ q. omega arith in
            rw (stops (suc x) h z) (stop (suc x) h z)
