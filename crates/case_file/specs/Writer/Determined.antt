-- What the writer answers, and what it leaves in the lent buffer, is determined by its contract, which refutes another list.
use Rattle.std.specs.Prelude.{◌≡◌, refl, Result, Ok, Err, List, ℕ}
use Rattle.std.proofs.Common.{sym, ap, subst, arith}
use Rattle.field.specs.declared.faults.Fault.{Fault}
use Rattle.field.specs.Refusal.{StandsFor, RefutesAnotherList}
use Rattle.field.specs.Faults.Laws.{OnePlaceEach, whole_one_place, refuses_determined, refuses_names, not_passes_and_refuses, stands_determined}
use Rattle.case_file.specs.WriteCall.{WriteCall, WriteRecord, write_table, WriteResult, write_result, refused_write, written_length, Write, refused, accepted}

write_one_place : (c : WriteCall) → OnePlaceEach (write_table c)
write_one_place c = (whole_one_place _, (whole_one_place _, tt))

-- two results of one call are equal
pub write_determined : (c : WriteCall) (r s : WriteResult) → Write c r → Write c s → r ≡ s
write_determined c r s (refused f h) (refused g k) =
    let e = refuses_determined (write_table c) (write_one_place c) f g h k in
    λ i. write_result (record { fault = e i; length = 0 }) c.buffer
write_determined c r s (refused f h) (accepted pass) = absurd (not_passes_and_refuses (write_table c) f pass h)
write_determined c r s (accepted pass) (refused g k) = absurd (not_passes_and_refuses (write_table c) g pass k)
write_determined c r s (accepted pass) (accepted pass') = refl

-- a `Result` with the buffer stands for what the promise says
abbrev pub Told : WriteCall → Result ℕ Fault → List ℕ → Type 0
Told c r buffer = StandsFor refused_write written_length (λ w. Write c (write_result w buffer)) r

told_of : (c : WriteCall) {buffer : List ℕ} (r : Result ℕ Fault) → Told c r buffer → (w : WriteRecord) × Write c (write_result w buffer)
told_of c (Ok n) t = (written_length n, t)
told_of c (Err f) t = (refused_write f, t.1)

-- two of one call are equal, and so are the buffers
pub write_result_determined : (c : WriteCall) (r r' : Result ℕ Fault) (b b' : List ℕ) → Told c r b → Told c r' b' → (r ≡ r') × (b ≡ b')
write_result_determined c r r' b b' t t' =
    let e : b ≡ b' = ap (λ (w : WriteResult). w.buffer) (write_determined c _ _ (told_of c r t).1 (told_of c r' t').1) in (
      stands_determined refused_write written_length (λ w. Write c (write_result w b)) (λ x y q. ap (λ (w : WriteRecord). w.fault) q)
          (λ x y q. ap (λ (w : WriteRecord). w.length) q) (λ x y l q. omega (arith, l, ap (λ (w : WriteRecord). w.fault.number) q))
          (λ v w h k. ap (λ (w : WriteResult). w.found) (write_determined c _ _ h k)) r r' t (subst (Told c r') (sym e) t'),
      e,
    )

pub write_another_list : (c : WriteCall) → RefutesAnotherList (λ r. r.found.fault) (Write c)
write_another_list c r other (refused f h) = other (refuses_names (write_table c) f h)
write_another_list c r other (accepted pass) = other refl
